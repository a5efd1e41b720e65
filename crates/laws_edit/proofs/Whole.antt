-- The edits as whole calls: one that is done leaves, in its own slices, the mesh of the definition, and the check finds nothing wrong in it. Assumes nothing.
use mathlib.Core.Path.{◌≡◌, refl, sym, ap, ◌∙◌, subst, subst⁻¹}
use mathlib.Core.Bool.{Bool, true, false}
use mathlib.Core.List.{List, [], ◌∷◌}
use Rattle.std.specs.Prelude.{Option, None, Some, Ok, Err}
use Prim.Native.Nat.{ℕ, zero, suc, ◌*◌, ◌≤◌}
use native.Mathlib.Nat.{le_of_suc-le-suc, not-suc-le-zero}
use native.Mathlib.Omega.{arith}
use lib.ListN.{length, take}
use lib.Seq.{length-take-le, take_all}
use Rattle.scope.specs.declared.records.Counts.{Counts}
use Rattle.scope.specs.declared.answers.Refusal.{Refusal}
use Rattle.scope.specs.Answers.{Edited}
use Rattle.scope.specs.Lists.{over}
use Rattle.scope.specs.Links.{Links, Marks}
use Rattle.scope.specs.Check.{fault}
use Rattle.scope.specs.Tally.{counts_of}
use Rattle.scope.specs.Slices.{sizes, used, links_of, marks_of, slices_of}
use Rattle.scope.specs.EditCalls.{Edit, Own, written, edit_ended, edit_refusal, edit}
use Rattle.laws_check.proofs.Tells.{never}
use Rattle.laws_check.proofs.Theorems.{consistent-none}
use Rattle.laws_edit.specs.Kept.{Laid, marks_after, Keeps}
use Rattle.laws_edit.specs.Leaves.{own_links, own_marks, Leaves}
use Rattle.laws_edit.proofs.Allowed.{Room, rooms}

-- ---- slices
-- what is laid over a longer list is taken back
take-over : (n : ℕ) (l old : List ℕ) → length l ≡ n → n ≤ length old → take n (over l old) ≡ l
unfolding over
take-over zero [] old e h = refl
take-over zero (x ∷ l) old e h = absurd (omega arith)
take-over (suc n) [] old e h = absurd (omega arith)
take-over (suc n) (x ∷ l) [] e h = absurd (not-suc-le-zero h)
take-over (suc n) (x ∷ l) (y ∷ old) e h = ap (λ (r : List ℕ). x ∷ r) (take-over n l old (omega arith) (le_of_suc-le-suc h))

-- what is used of l, laid over old and taken again
back : (n : ℕ) (l old : List ℕ) → length l ≡ n → n ≤ length old → take n (over (take n l) old) ≡ l
back n l old e h = ap (λ (r : List ℕ). take n (over r old)) (take_all n l (omega arith)) ∙ take-over n l old e h

-- a mesh whose counts its slices allow is as long as they say
laid_of : (o : Own) → Room o.counts (sizes o.slices) → Laid (own_links o) (own_marks o)
unfolding links_of marks_of used sizes
laid_of o r = record {
  outs_long = length-take-le _ _ r.for-outs;
  edges_long = length-take-le _ _ r.for-edges;
  faces_long = length-take-le _ _ r.for-faces;
  vs_long = length-take-le _ _ r.for-vmarks;
  es_long = length-take-le _ _ r.for-emarks;
  fs_long = length-take-le _ _ r.for-fmarks;
}

-- a change of three lists
ap-lists : {A : Type 0} (f : List ℕ → List ℕ → List ℕ → A) (a b c a' b' c' : List ℕ) → a ≡ a' → b ≡ b' → c ≡ c' → f a b c ≡ f a' b' c'
ap-lists f a b c a' b' c' p q r = ap (λ (x : List ℕ). f x b c) p ∙ ap (λ (x : List ℕ). f a' x c) q ∙ ap (λ (x : List ℕ). f a' b' x) r

abbrev links : ℕ → ℕ → ℕ → List ℕ → List ℕ → List ℕ → Links
links v e f a b c = record { nv = v; ne = e; nf = f; outs = a; edges = b; faces = c }

abbrev marks : List ℕ → List ℕ → List ℕ → Marks
marks a b c = record { vs = a; es = b; fs = c }

-- and one that is written over slices with room is read again
abbrev left-own : Links → Marks → Own → Own
left-own m k o = record { counts = counts_of m; slices = written (counts_of m) (slices_of m k) o.slices }

read-links : (m : Links) (k : Marks) (o : Own) → Laid m k → Room (counts_of m) (sizes o.slices) → own_links (left-own m k o) ≡ m
unfolding links_of used written counts_of sizes
read-links m k o l r = ap-lists (links m.nv m.ne m.nf) _ _ _ m.outs m.edges m.faces
    (back m.nv m.outs o.slices.outs l.outs_long r.for-outs)
    (back (8 * m.ne) m.edges o.slices.edges l.edges_long r.for-edges)
    (back m.nf m.faces o.slices.faces l.faces_long r.for-faces)

read-marks : (m : Links) (k : Marks) (o : Own) → Laid m k → Room (counts_of m) (sizes o.slices) → own_marks (left-own m k o) ≡ k
unfolding marks_of used written counts_of sizes
read-marks m k o l r = ap-lists marks _ _ _ k.vs k.es k.fs
    (back m.nv k.vs o.slices.vmarks l.vs_long r.for-vmarks)
    (back m.ne k.es o.slices.emarks l.es_long r.for-emarks)
    (back m.nf k.fs o.slices.fmarks l.fs_long r.for-fmarks)

-- ---- the whole call
abbrev counts-in : Edited → Counts
counts-in (Ok (c, x)) = c
counts-in (Err r) = record { v = 0; e = 0; f = 0 }

abbrev pub done : Edited → Bool
done (Ok (c, x)) = true
done (Err r) = false

module _ (E : Edit) (keeps : Keeps E) (o : Own) where
  -- what is left where nothing is refused
  leaves : edit_refusal E (own_links o) (own_marks o) (sizes o.slices) ≡ None → Leaves E o (counts_of (E.links (own_links o)))
  unfolding edit edit_ended links_of counts_of
  leaves e =
      let (here, there) = rooms E (own_links o) (own_marks o) (sizes o.slices) e in
      let kept = keeps (own_links o) (own_marks o) (sizes o.slices) (laid_of o here) e in
      let l = E.links (own_links o) in
      let k = marks_after E (own_links o) (own_marks o) in
      let is : (edit E o).left ≡ left-own l k o = ap (λ (r : Option Refusal). (edit_ended r l k (E.value (own_links o)) o).left) e in
      let room = subst⁻¹ (λ (c : Counts). Room c (sizes o.slices)) kept.counted there in
      let ls = ap own_links is ∙ read-links l k o kept.laid room in
      let ks = ap own_marks is ∙ read-marks l k o kept.laid room in
      record {
        counts_left = ap (λ (x : Own). x.counts) is;
        as_wanted = kept.counted;
        links_left = ls;
        marks_left = ks;
        sound = ap (λ (x : Links). fault x (own_marks (edit E o).left)) ls ∙ ap (fault l) ks ∙ consistent-none l k room.few.few_e room.few.few_f kept.consistent;
      }

  pub edit-leaves : (c : Counts) (x : ℕ) → (edit E o).answer ≡ Ok (c, x) → Leaves E o c
  unfolding edit edit_ended
  edit-leaves c x e = go (edit_refusal E (own_links o) (own_marks o) (sizes o.slices)) refl e
    where
      go : (r : Option Refusal) → edit_refusal E (own_links o) (own_marks o) (sizes o.slices) ≡ r
          → (edit_ended r (E.links (own_links o)) (marks_after E (own_links o) (own_marks o)) (E.value (own_links o)) o).answer ≡ Ok (c, x) → Leaves E o c
      go None q e = subst (Leaves E o) (ap counts-in e) (leaves q)
      go (Some r) q e = never (sym (ap done e))
