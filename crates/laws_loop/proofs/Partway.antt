-- A Loop pass over triangles, face by face: good after each, and at last every face is a triangle. Assumes nothing.
use mathlib.Core.Path.{◌≡◌, ◌∙◌, subst}
use mathlib.Core.Logic.{◌⊎◌, inl, inr, ◌≢◌}
use Prim.Native.Nat.{ℕ, zero, suc, ◌+◌, ◌*◌, ◌≤◌, ◌<◌}
use native.Mathlib.Omega.{arith}
use lib.ListN.{length}
use Rattle.scope.specs.Lists.{each}
use Rattle.scope.specs.Links.{Links, next, start, loop}
use Rattle.scope.specs.Passes.{split_edges, loop_face, loop_pass}
use Rattle.scope.specs.Tally.{tally_of, loop_tally}
use Rattle.laws_mesh.specs.Of.{Good}
use Rattle.laws_mesh.specs.Sides.{Within, Triangles}
use Rattle.laws_mesh.proofs.Cycle.{split}
use Rattle.laws_mesh.proofs.Count.{Length}
use Rattle.laws_mesh.proofs.Loops.{loop-cycle}
use Rattle.laws_mesh.proofs.Ring.{under}
use Rattle.laws_mesh.proofs.SplitEdges.{halved, halved-lengths}
use Rattle.laws_loop.proofs.Face.{Trimmed, loop-face}

module _ (m : Links) (g : Good m) (T : Triangles m) (w : Within (loop_tally (tally_of m))) where
  few_v : m.nv + m.ne ≤ 1048576
  unfolding loop_tally tally_of
  few_v = w.v_within

  few_e : 2 * m.ne + 3 * m.nf ≤ 1048576
  unfolding loop_tally tally_of
  few_e = w.e_within

  few_f : 4 * m.nf ≤ 1048576
  unfolding loop_tally tally_of
  few_f = w.f_within

  -- after k faces
  pub record Partway (t : Links) (k : ℕ) : Type 0 where
    pub good : Good t
    pub nv_is : t.nv ≡ m.nv + m.ne
    pub ne_is : t.ne ≡ 2 * m.ne + 3 * k
    pub nf_is : t.nf ≡ m.nf + 3 * k
    -- the faces to come are of six, as the edge splits left them, and all others of three
    pub todo : (h : ℕ) → k ≤ h → h < m.nf → length (loop t (start t h)) ≡ 6
    pub done : (h : ℕ) → h < t.nf → (h < k) ⊎ (m.nf ≤ h) → length (loop t (start t h)) ≡ 3

  at_first : Partway (split_edges m) 0
  at_first = let h = halved m g few_v (let a = few_e in omega arith) in record {
    good = h.good;
    nv_is = h.nv_is;
    ne_is = (let a = h.ne_is in omega arith);
    nf_is = (let a = h.nf_is in omega arith);
    todo = λ f a b. (let q = halved-lengths m g few_v (let a = few_e in omega arith) f b in let r = T f b in omega arith);
    done = λ f a b. none_yet f h.nf_is a b;
  }
    where
      none_yet : (f : ℕ) → (split_edges m).nf ≡ m.nf → f < (split_edges m).nf → (f < 0) ⊎ (m.nf ≤ f) → length (loop (split_edges m) (start (split_edges m) f)) ≡ 3
      none_yet f e a (inl b) = absurd (omega arith)
      none_yet f e a (inr b) = absurd (omega arith)

  module _ (t : Links) (k : ℕ) (p : Partway t k) (l : k < m.nf) where
    k-in : k < t.nf
    k-in = let a = p.nf_is in omega arith

    len : Length (next t) (start t k) 6
    len = subst (Length (next t) (start t k)) (p.todo k (omega arith) l) (loop-cycle t p.good (start t k) (p.good.consistent.core.start_in k k-in))

    after : Trimmed t (loop_face m.nv k t) k
    after = loop-face t m.nv k p.good k-in len (let a = p.ne_is in let b = few_e in omega arith) (let a = p.nf_is in let b = few_f in omega arith)

    one_more : Partway (loop_face m.nv k t) (suc k)
    one_more = let d = after in record {
      good = d.good;
      nv_is = d.nv_is ∙ p.nv_is;
      ne_is = (let a = d.ne_is in let b = p.ne_is in omega arith);
      nf_is = (let a = d.nf_is in let b = p.nf_is in omega arith);
      todo = λ h u v. d.old h (let a = p.nf_is in omega arith) (omega arith) ∙ p.todo h (omega arith) v;
      done = λ h u v. split h k
          (λ q. d.new h u (inl q))
          (λ q. under h t.nf (λ y. d.old h y q ∙ p.done h y (was h q v)) (λ y. d.new h u (inr y)));
    }
      where
        was : (h : ℕ) → h ≢ k → (h < suc k) ⊎ (m.nf ≤ h) → (h < k) ⊎ (m.nf ≤ h)
        was h q (inl v) = inl (omega arith)
        was h q (inr v) = inr v

  pub partway : (k : ℕ) → k ≤ m.nf → Partway (each k (loop_face m.nv) (split_edges m)) k
  unfolding each
  partway zero l = at_first
  partway (suc k) l = one_more (each k (loop_face m.nv) (split_edges m)) k (partway k (omega arith)) l

  pub at_last : Partway (loop_pass m) m.nf
  unfolding loop_pass
  at_last = partway m.nf (omega arith)

  pub loop-good : Good (loop_pass m)
  loop-good = at_last.good

  pub loop-triangles : Triangles (loop_pass m)
  loop-triangles f i = at_last.done f i (under f m.nf (λ u. inl u) (λ u. inr u))
