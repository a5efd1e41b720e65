-- The mesh seen from behind: next and prev change places, and so do an edge's ends. It is consistent too, so what is proved of one way round holds of the other. Assumes nothing.
use mathlib.Core.Path.{◌≡◌, refl, sym, ap, ◌∙◌, subst, subst⁻¹}
use mathlib.Core.Logic.{◌⊎◌, inl, inr, ◌≢◌}
use Prim.Native.Nat.{ℕ}
use Rattle.laws_mesh.specs.Reach.{Reach}
use Rattle.scope.specs.Links.{NONE, partner}
use Rattle.laws_mesh.specs.Mesh.{Mesh, tail, turn, Shape, Core, Consistent}
use Rattle.laws_mesh.proofs.Cycle.{split, pick, pick_yes, pick_no, Perm, reach-one, reach-sim, reach-back}
use Rattle.laws_mesh.proofs.Facts.{partner-partner, perm-next, perm-turn, head-prev, prev-face, prev-ne, tail-in, heads-apart}

-- what enters v is named: the halfedge before the one that leaves it
abbrev pub mirror : Mesh → Mesh
mirror m = record {
  is_h = m.is_h;
  is_v = m.is_v;
  is_f = m.is_f;
  face = m.face;
  head = tail m;
  next = m.prev;
  prev = m.next;
  out = λ v. pick (m.out v) NONE NONE (m.prev (m.out v));
  start = m.start;
}

-- an inverse walks wherever the function does
pub reach-inverse : {P : ℕ → Type 0} {n : ℕ} {f g : ℕ → ℕ} (p : Perm P n f g) {a b : ℕ} → P a → Reach f a b → Reach g a b
reach-inverse {P} {n} {f} {g} p i r = reach-sim P (λ x. x) p.fore (λ x j. go x j) i r
  where
    flipped : Perm P n g f
    flipped = record { below = p.below; fore = p.back; back = p.fore; gf = p.fg; fg = p.gf }

    go : (x : ℕ) → P x → Reach g x (f x)
    go x j = reach-back flipped j

module _ {m : Mesh} (s : Shape m) (k : Consistent m) where
  c : Core m
  c = k.core

  ends : (x : ℕ) → tail (mirror m) x ≡ m.head x
  ends x = ap m.head (partner-partner x)

  out_none : (v : ℕ) → m.out v ≡ NONE → (mirror m).out v ≡ NONE
  out_none v e = pick_yes (m.out v) NONE NONE _ e

  out_some : (v : ℕ) → m.out v ≢ NONE → (mirror m).out v ≡ m.prev (m.out v)
  out_some v e = pick_no (m.out v) NONE NONE _ e

  out-H : (v : ℕ) → m.is_v v → m.out v ≢ NONE → m.is_h (m.out v)
  out-H v i n = go (k.core.out_in v i)
    where
      go : (m.out v ≡ NONE) ⊎ m.is_h (m.out v) → m.is_h (m.out v)
      go (inl e) = absurd (n e)
      go (inr j) = j

  pub mirror-consistent : Consistent (mirror m)
  mirror-consistent = record {
    core = record {
      face_in = k.core.face_in;
      head_in = tail-in s k.core;
      next_in = k.core.prev_in;
      prev_in = k.core.next_in;
      out_in = λ v i. split (m.out v) NONE (λ e. inl (out_none v e)) (λ n. inr (subst⁻¹ m.is_h (out_some v n) (k.core.prev_in _ (out-H v i n))));
      start_in = k.core.start_in;
      next_prev = k.core.prev_next;
      prev_next = k.core.next_prev;
      next_tail = λ h i. ends (m.prev h) ∙ head-prev s k.core h i;
      next_face = prev-face s k.core;
      start_bears = k.core.start_bears;
      one_loop = λ a b i j n e. reach-inverse (perm-next s k.core) i (k.core.one_loop a b i j n e);
      a_face = k.core.a_face;
      no_spike = prev-ne s k.core;
      heads_differ = λ a b i j n e q. cc (
        k.core.next_prev a i,
        k.core.next_prev b j,
        heads-apart s k.core (m.prev a) (m.prev b) (k.core.prev_in a i) (k.core.prev_in b j) (cc (prev-face s k.core a i, prev-face s k.core b j))
            (cc (head-prev s k.core a i, head-prev s k.core b j)),
      );
      two_long = λ a i n e. k.core.two_long a i n (cc (k.core.next_prev a i));
      out_leaves = λ v i n.
          let n' : m.out v ≢ NONE = λ e. n (out_none v e) in
          cc (ends ((mirror m).out v), out_some v n', head-prev s k.core (m.out v) (out-H v i n'), k.core.out_leaves v i n');
      none_leaves = λ v i e h j q. split (m.out v) NONE
          (λ z. k.core.none_leaves v i z (partner h) (s.H-partner h j) (cc))
          (λ z. s.H-none _ (k.core.prev_in _ (out-H v i z)) (sym (out_some v z) ∙ e));
      one_turn = λ a b i j e. turns a b i j e;
      rim_named = λ h i e.
          let q : m.out (m.head h) ≡ m.next h = cc (k.core.rim_named (m.next h) (k.core.next_in h i) (k.core.next_face h i ∙ e), k.core.next_tail h i) in
          cc (ends h, q, k.core.prev_next h i, out_some (m.head h) (λ z. s.H-none _ (k.core.next_in h i) (sym q ∙ z)));
    };
    three = record { three_long = λ a i n e. k.three.three_long a i n (cc (k.core.next_prev a i, k.core.next_prev (m.prev a) (k.core.prev_in a i))) };
  }
    where
      -- the turn, seen from behind, is the turn backwards of the partners
      turns : (a b : ℕ) → m.is_h a → m.is_h b → tail (mirror m) a ≡ tail (mirror m) b → Reach (turn (mirror m)) a b
      turns a b i j e =
          let r : Reach (λ h. m.next (partner h)) (partner a) (partner b) =
          reach-inverse (perm-turn s k.core) (s.H-partner a i) (k.core.one_turn (partner a) (partner b) (s.H-partner a i) (s.H-partner b j) e) in
          let q : Reach (turn (mirror m)) (partner (partner a)) (partner (partner b)) =
          reach-sim (λ x. m.is_h x) partner (λ x l. k.core.next_in _ (s.H-partner x l)) (λ x l. reach-one (refl)) (s.H-partner a i) r in
          subst (λ (x : ℕ). Reach (turn (mirror m)) x b) (partner-partner a) (subst (λ (x : ℕ). Reach (turn (mirror m)) (partner (partner a)) x) (partner-partner b) q)
