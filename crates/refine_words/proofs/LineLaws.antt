-- Lines put piece by piece are the lines of the definitions. Assumes nothing.
use Prim.Native.Nat.{ℕ, ◌+◌, ◌≤◌}
use mathlib.Core.Path.{◌≡◌, refl, sym, ap, ◌∙◌}
use mathlib.Core.Bool.{Bool}
use mathlib.Core.List.{List, [], ◌++◌, append_assoc, append-nil}
use native.Mathlib.Omega.{arith}
use lib.ListN.{length}
use Rattle.scope.specs.declared.records.Counts.{Counts}
use Rattle.scope.specs.declared.answers.Fault.{Fault}
use Rattle.scope.specs.declared.answers.Place.{Place}
use Rattle.scope.specs.declared.answers.Refusal.{Refusal}
use Rattle.scope.specs.declared.answers.Refusal.TheVariants.{TooManyPasses, ShortSlice, NotConsistent, MarkedDeleted, NoRoom, NoWeight, BadHandle, CannotInsertEdge, HalfedgesNotInTheSameLoop, NotDeletedFace, ComplexVertex, CannotSwapBoundaryEdge, WouldBreak, BadContents, NotFinite}
use Rattle.scope.specs.Lists.{over}
use Rattle.scope.specs.Answers.{said_of}
use Rattle.mesh.proofs.SliceLaws.{length_over}
use Rattle.text.specs.Text.{over_from}
use Rattle.text.specs.Ascii.{ascii}
use Rattle.text.proofs.PutLaws.{Written, written_on, written-whole, over_none}
use Rattle.call_room.specs.declared.kind.Kind.{Kind}
use Rattle.refine_words.specs.Words.{scheme_word, flag_word}
use Rattle.refine_words.specs.Lines.{field, task_text, counts_text, card_line, place_text, where_text, refused_line}

-- ---- a text, and another after it
infixr 30 ◌⨾◌
pub ◌⨾◌ : {at : ℕ} {old a : List ℕ} {p : ℕ} {s b : List ℕ} {q : ℕ} {t : List ℕ} → Written at old a p s → Written p s b q t → Written at old (a ++ b) q t
x ⨾ y = written_on _ x y.text y.place

-- what a put answers
pub put_of : {at : ℕ} {old w : List ℕ} {p : ℕ} {s : List ℕ} → s ≡ over_from at w old → p ≡ at + length w → Written at old w p s
put_of a b = record { text = a; place = b }

-- a line at the front of 256 bytes
pub line : {old w : List ℕ} {p : ℕ} {s : List ℕ} → Written 0 old w p s → p ≤ 256 → length old ≡ 256 → (s ≡ over w old) × ((p ≡ length w) × (p ≤ length s))
line {old} {w} {p} {s} q b n =
    let e = written-whole q in
    let l = ap length e.0 ∙ length_over w old in
    (e.0, (e.1, omega arith))

-- ---- the card
regroup : (a b c d e f g h i j k l : List ℕ) → a ++ (b ++ (c ++ (d ++ (e ++ (f ++ (g ++ (h ++ (i ++ (j ++ (k ++ (l ++ []))))))))))) ≡ (a ++ (b ++ (c ++ (d ++ (e ++ (f ++ g)))))) ++ ((h ++ (i ++ (j ++ k))) ++ l)
regroup a b c d e f g h i j k l = simp (append_assoc, append-nil)

pub card-is : {w f n : List ℕ} (kind : Kind) (passes : ℕ) (flag next : Bool) (c : Counts) (rim : ℕ) → w ≡ scheme_word kind → f ≡ flag_word flag → n ≡ flag_word next
    → ascii "refined " ++ (w ++ (field " passes " passes ++ (ascii " flag " ++ (f ++ (ascii " next " ++ (n ++ (field " vertices " c.v ++ (field " edges " c.e ++ (field " faces " c.f ++ (field " rim " rim ++ (ascii "\n" ++ [])))))))))))
    ≡ card_line kind passes flag next c rim
unfolding card_line task_text counts_text
card-is {w} {f} {n} kind passes flag next c rim a b d =
    rw (sym a, sym b, sym d)
    (regroup (ascii "refined ") w (field " passes " passes) (ascii " flag ") f (ascii " next ") n (field " vertices " c.v) (field " edges " c.e) (field " faces " c.f) (field " rim " rim) (ascii "\n"))

pub refused-put : {old : List ℕ} {q : ℕ} {s : List ℕ} (r : Refusal) {n : ℕ} → n ≡ (said_of r).number
    → Written 0 old (field "refused " n ++ (where_text r ++ ascii "\n")) q s → Written 0 old (refused_line r) q s
unfolding refused_line
refused-put {old} {q} {s} r e w = rw (sym e) w

pub rule-is : {w : List ℕ} (rule : ℕ) (p : Place) → w ≡ place_text p → field " rule " rule ++ (w ++ []) ≡ where_text (NotConsistent (record { rule = rule; place = p }))
unfolding where_text
rule-is {w} rule p e = rw (sym e) (simp append-nil)

pub deleted-is : {w : List ℕ} (p : Place) → w ≡ place_text p → w ++ [] ≡ where_text (MarkedDeleted p)
unfolding where_text
deleted-is {w} p e = append-nil w ∙ e

pub weight-is : (pass v : ℕ) → field " pass " pass ++ (field " vertex " v ++ []) ≡ where_text (NoWeight pass v)
unfolding where_text
weight-is pass v = ap (λ (l : List ℕ). field " pass " pass ++ l) (append-nil (field " vertex " v))

-- a refusal without a place
abbrev Placeless : Refusal → Type 0
Placeless r = ((x : Fault) → r ≡ NotConsistent x → ⊥) × ((p : Place) → r ≡ MarkedDeleted p → ⊥) × ((a b : ℕ) → r ≡ NoWeight a b → ⊥)

unnamed : (r : Refusal) → Placeless r → where_text r ≡ []
unfolding where_text
unnamed TooManyPasses h = refl
unnamed ShortSlice h = refl
unnamed (NotConsistent x) h = absurd (h.0 x refl)
unnamed (MarkedDeleted p) h = absurd (h.1 p refl)
unnamed NoRoom h = refl
unnamed (NoWeight pass v) h = absurd (h.2 pass v refl)
unnamed BadHandle h = refl
unnamed CannotInsertEdge h = refl
unnamed HalfedgesNotInTheSameLoop h = refl
unnamed NotDeletedFace h = refl
unnamed ComplexVertex h = refl
unnamed CannotSwapBoundaryEdge h = refl
unnamed WouldBreak h = refl
unnamed BadContents h = refl
unnamed NotFinite h = refl

pub nowhere-put : (at : ℕ) (old : List ℕ) (r : Refusal) → ((x : Fault) → r ≡ NotConsistent x → ⊥) → ((p : Place) → r ≡ MarkedDeleted p → ⊥) → ((a b : ℕ) → r ≡ NoWeight a b → ⊥) → Written at old (where_text r) at old
nowhere-put at old r h k l = rw (unnamed r (h, k, l)) record { text = over_none at old; place = omega arith }
