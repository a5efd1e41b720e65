use lib.ListN.{length}
use native.Mathlib.Omega.{arith}
use Rattle.mesh.specs.Given.{lists}
use Rattle.call_steps.specs.Lent.{lent}
use Rattle.call_steps.proofs.StoreLaws.{all-filled, takes_of, holds_of, points-of, few-of}
use Rattle.call_steps.proofs.store.copy_mesh.Goals as goal

pub copy_links-requires : goal.copy_links-requires
copy_links-requires c = let s = c.args in record { takes = takes_of s.g.counts (lists s.g.slices) (length s.g.points.now) c.requires.points_value; takes_2 = takes_of s.g.counts (lent s.room.now).result (length s.room.now.points.now) c.requires.newpoints_value }

pub copy_marks-requires : goal.copy_marks-requires
copy_marks-requires c = let s = c.args in record { holds = holds_of s.g.counts (lists s.g.slices) (length s.g.points.now) c.requires.points_value; holds_2 = holds_of s.g.counts (lent s.room.now).result (length s.room.now.points.now) c.requires.newpoints_value }

pub overflow_mul-g : goal.overflow_mul-g
overflow_mul-g c = let s = c.args in let f = few-of s.g.counts (lists s.g.slices) (length s.g.points.now) c.requires.points_value in omega arith

pub lay-requires : goal.lay-requires
lay-requires c = let s = c.args in record { n_in_bounds = points-of s.g.counts (lists s.g.slices) (length s.g.points.now) c.requires.points_value; n_in_bounds_2 = points-of s.g.counts (lent s.room.now).result (length s.room.now.points.now) c.requires.newpoints_value }

pub returns-clause-after : goal.returns-clause-after
returns-clause-after c = let s = c.args in let l = c.copy_links.ensures in let m = c.copy_marks.ensures in all-filled (lent s.room.now) c.clear.ensures s.g.counts (lists s.g.slices) s.g.points.now l.newouts_after l.newedges_after l.newfaces_after m.newvmarks_after m.newemarks_after m.newfmarks_after c.lay.ensures
