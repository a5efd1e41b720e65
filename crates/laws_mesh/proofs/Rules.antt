-- The document's rules, place by place, are the working form `Consistent`. Assumes nothing.
use mathlib.Core.Path.{◌≡◌, refl, sym, ap, ◌∙◌}
use mathlib.Core.Logic.{◌⊎◌, inl, inr, ◌≢◌}
use Prim.Native.Nat.{ℕ}
use Rattle.laws_mesh.specs.Reach.{Reach}
use Rattle.scope.specs.Links.{NONE, partner}
use Rattle.laws_mesh.specs.Mesh.{Mesh, tail, turn, Shape, Consistent}
use Rattle.laws_mesh.specs.Rules.{Rules}
use Rattle.laws_mesh.proofs.Cycle.{split, Perm, reach-sym, reach-trans, reach-ind}
use Rattle.laws_mesh.proofs.Facts.{partner-partner}

-- ---- from the rules
module _ {m : Mesh} (s : Shape m) (r : Rules m) where
  perm-n : Perm m.is_h s.size m.next m.prev
  perm-n = record { below = s.below; fore = λ x i. (r.c1h x i).next_ok; back = λ x i. (r.c1h x i).prev_ok; gf = λ x i. (r.c2 x i).prev_next; fg = λ x i. (r.c2 x i).next_prev }

  perm-t : Perm m.is_h s.size (turn m) (λ h. m.next (partner h))
  perm-t = record {
    below = s.below;
    fore = λ x i. s.H-partner _ (r.c1h x i).prev_ok;
    back = λ x i. (r.c1h (partner x) (s.H-partner x i)).next_ok;
    gf = λ x i. cc (partner-partner (m.prev x), (r.c2 x i).next_prev);
    fg = λ x i. cc ((r.c2 (partner x) (s.H-partner x i)).prev_next, partner-partner x);
  }

  is-face : (a : ℕ) → m.is_h a → m.face a ≢ NONE → m.is_f (m.face a)
  is-face a i ne = go (r.c1h a i).face_ok
    where
      go : (m.face a ≡ NONE) ⊎ m.is_f (m.face a) → m.is_f (m.face a)
      go (inl e) = absurd (ne e)
      go (inr f) = f

  tail-V : (h : ℕ) → m.is_h h → m.is_v (tail m h)
  tail-V h i = (r.c1h (partner h) (s.H-partner h i)).head_ok

  loop : (a b : ℕ) → m.is_h a → m.is_h b → m.face a ≢ NONE → m.face a ≡ m.face b → Reach m.next a b
  loop a b i j ne e =
      let f = is-face a i ne in
      reach-trans (reach-sym perm-n (r.c1f _ f).start_ok ((r.c4 _ f).holds a i refl)) ((r.c4 _ f).holds b j (sym e))

  turns : (a b : ℕ) → m.is_h a → m.is_h b → tail m a ≡ tail m b → Reach (turn m) a b
  turns a b i j e =
      let v = tail-V a i in
      let named : m.out (tail m a) ≢ NONE = λ q. (r.c8 _ v).none_if q a i refl in
      reach-trans (reach-sym perm-t (out-H v named (r.c1v _ v).out_ok) ((r.c8 _ v).meets named a i refl)) ((r.c8 _ v).meets named b j (sym e))
    where
      out-H : {u : ℕ} → m.is_v u → m.out u ≢ NONE → (m.out u ≡ NONE) ⊎ m.is_h (m.out u) → m.is_h (m.out u)
      out-H v n (inl q) = absurd (n q)
      out-H v n (inr q) = q

  -- "three or more" at the face's halfedge is so all around
  three : (a : ℕ) → m.is_h a → m.face a ≢ NONE → m.next (m.next a) ≢ a
  three a i ne e = go (reach-ind (λ (u : ℕ). (u ≡ a) ⊎ (u ≡ m.next a)) on (inl refl) (loop a _ i (r.c1f _ f).start_ok ne (sym (r.c4 _ f).bears)))
    where
      f : m.is_f (m.face a)
      f = is-face a i ne

      on : (u : ℕ) → (u ≡ a) ⊎ (u ≡ m.next a) → (m.next u ≡ a) ⊎ (m.next u ≡ m.next a)
      on u (inl q) = inr (ap m.next q)
      on u (inr q) = inl (ap m.next q ∙ e)

      go : (m.start (m.face a) ≡ a) ⊎ (m.start (m.face a) ≡ m.next a) → ⊥
      go (inl q) = (r.c7 _ f).three (cc)
      go (inr q) = (r.c7 _ f).three (cc)

  pub rules-consistent : Consistent m
  rules-consistent = record {
    core = record {
      face_in = λ h i. (r.c1h h i).face_ok;
      head_in = λ h i. (r.c1h h i).head_ok;
      next_in = λ h i. (r.c1h h i).next_ok;
      prev_in = λ h i. (r.c1h h i).prev_ok;
      out_in = λ v i. (r.c1v v i).out_ok;
      start_in = λ f i. (r.c1f f i).start_ok;
      next_prev = λ h i. (r.c2 h i).next_prev;
      prev_next = λ h i. (r.c2 h i).prev_next;
      next_tail = λ h i. (r.c3 h i).from_head;
      next_face = λ h i. (r.c3 h i).same_face;
      start_bears = λ f i. (r.c4 f i).bears;
      one_loop = loop;
      a_face = λ h i e q. some-face h i e q (r.c5 h i).faced;
      no_spike = λ h i. (r.c6 h i).no_spike;
      heads_differ = λ a b i j ne e q. (r.c7 _ (is-face a i ne)).differ a b i j refl (sym e) q;
      two_long = λ a i ne e. three a i ne (ap m.next e ∙ e);
      out_leaves = λ v i. (r.c8 v i).leaves;
      none_leaves = λ v i. (r.c8 v i).none_if;
      one_turn = turns;
      rim_named = λ h i e. (r.c9 _ (tail-V h i)).names h i refl e;
    };
    three = record { three_long = three };
  }
    where
      some-face : (h : ℕ) → m.is_h h → m.face h ≡ NONE → m.face (partner h) ≡ NONE → (m.face h ≢ NONE) ⊎ (m.face (partner h) ≢ NONE) → ⊥
      some-face h i e q (inl n) = n e
      some-face h i e q (inr n) = n q

-- ---- to the rules
pub consistent-rules : {m : Mesh} → Shape m → Consistent m → Rules m
consistent-rules {m} s k = let c = k.core in record {
  c1v = λ v i. record { out_ok = c.out_in v i };
  c1h = λ h i. record { face_ok = c.face_in h i; head_ok = c.head_in h i; next_ok = c.next_in h i; prev_ok = c.prev_in h i };
  c1f = λ f i. record { start_ok = c.start_in f i };
  c2 = λ h i. record { next_prev = c.next_prev h i; prev_next = c.prev_next h i };
  c3 = λ h i. record { from_head = c.next_tail h i; same_face = c.next_face h i };
  c4 = λ f i. record { bears = c.start_bears f i; holds = λ b j e. c.one_loop _ b (c.start_in f i) j (bears-face f i) (c.start_bears f i ∙ sym e) };
  c5 = λ h i. record { faced = split (m.face h) NONE (λ e. inr (c.a_face h i e)) (λ n. inl n) };
  c6 = λ h i. record { no_spike = c.no_spike h i };
  c7 = λ f i. record {
    three = k.three.three_long _ (c.start_in f i) (bears-face f i);
    differ = λ a b j l p q. c.heads_differ a b j l (λ e. s.F-none f i (sym p ∙ e)) (p ∙ sym q);
  };
  c8 = λ v i. record {
    leaves = c.out_leaves v i;
    meets = λ n b j e. c.one_turn _ b (named v i n (c.out_in v i)) j (c.out_leaves v i n ∙ sym e);
    none_if = c.none_leaves v i;
  };
  c9 = λ v i. record { names = λ h j p e. ap m.out (sym p) ∙ c.rim_named h j e };
}
  where
    bears-face : (f : ℕ) → m.is_f f → m.face (m.start f) ≢ NONE
    bears-face f i e = s.F-none f i (sym (k.core.start_bears f i) ∙ e)

    named : (v : ℕ) → m.is_v v → m.out v ≢ NONE → (m.out v ≡ NONE) ⊎ m.is_h (m.out v) → m.is_h (m.out v)
    named v i n (inl q) = absurd (n q)
    named v i n (inr q) = q
