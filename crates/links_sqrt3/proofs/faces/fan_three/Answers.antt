use Prim.Native.Nat.{◌+◌}
use mathlib.Core.Path.{sym, ap, ◌∙◌}
use native.Mathlib.Omega.{arith}
use Rattle.links_edits.specs.Lent.{links_in}
use Rattle.links_sqrt3.proofs.StepLaws.{single-ok, petal-2, petal-3, fan-is}
use Rattle.links_sqrt3.proofs.faces.fan_three.Goals as goal

pub petal-requires : goal.petal-requires
petal-requires c = let k = c.requires in
    single-ok _ _ (c.args.m.now.e + 3) _ _ _ _ (let r = k.room_e in omega arith) (let i = k.x_in in omega arith) (omega arith) (omega arith) (let r = k.room_f in omega arith)

pub petal-requires-2 : goal.petal-requires-2
petal-requires-2 c = let k = c.requires in
    let s = c.petal.ensures.same_slices in
    single-ok _ _ (c.args.m.now.e + 3) _ _ _ _ (let r = k.room_e in let p = s.edges_long in omega arith) (let i = k.y_in in omega arith) (omega arith) (omega arith) (let r = k.room_f in let q = s.faces_long in omega arith)

pub petal-requires-3 : goal.petal-requires-3
petal-requires-3 c = let k = c.requires in
    let s = c.petal.ensures.same_slices in
    let t = c.petal-2.ensures.same_slices in
    let p = t.edges_long ∙ s.edges_long in
    let q = t.faces_long ∙ s.faces_long in
    single-ok _ _ (c.args.m.now.e + 3) _ _ _ _ (let r = k.room_e in omega arith) (let i = k.z_in in omega arith) (omega arith) (omega arith) (let r = k.f_in in omega arith)

pub returns-clause-links_after : goal.returns-clause-links_after
returns-clause-links_after c = let a = c.args in
    let m = a.m.now in
    c.petal-3.ensures.links_after
    ∙ ap (petal-3 m.v m.e a.f a.z) (c.petal-2.ensures.links_after ∙ ap (petal-2 m.v m.e m.f a.y) c.petal.ensures.links_after)
    ∙ sym (fan-is m.v m.e m.f a.f a.x a.y a.z (links_in m))
