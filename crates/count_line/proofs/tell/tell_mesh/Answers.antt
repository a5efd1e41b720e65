use Rattle.mesh.specs.Given.{lists}
use Rattle.count_line.proofs.SayLaws.{deleted-says, may-count, fields-say}
use Rattle.count_line.proofs.tell.tell_mesh.Goals as goal

pub returns-then-deleted : goal.returns-then-deleted
returns-then-deleted c = let s = c.args in let e = deleted-says s.c (lists s.s) c.deleted.ensures c.if-deleted.true in let p = c.put_refusal.ensures in record { out_after = rw (e) p.out_after; value = rw (e) p.value; upper_bound = p.upper_bound }

pub count-requires : goal.count-requires
count-requires c = let s = c.args in record { countable = may-count s.c (lists s.s) c.deleted.ensures c.requires.fits c.requires.fmarks_value c.if-deleted.false; in_bounds = c.requires.in_bounds }

pub returns : goal.returns
returns c = let s = c.args in let e = fields-say s.c (lists s.s) c.deleted.ensures c.if-deleted.false in let p = c.count.ensures in record { out_after = rw (e) p.out_after; value = rw (e) p.value; upper_bound = p.upper_bound }
