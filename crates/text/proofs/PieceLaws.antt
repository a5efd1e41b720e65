-- A text put piece after piece. Assumes nothing.
use Prim.Native.Nat.{ℕ, zero, suc, ◌+◌, ◌≤◌, ◌<◌}
use mathlib.Core.Path.{◌≡◌, refl, sym, ap, ◌∙◌}
use mathlib.Core.List.{List, [], ◌∷◌, ◌++◌, append_assoc, append-nil}
use native.Mathlib.Omega.{arith}
use lib.ListN.{length, get_or, take, drop}
use Rattle.scope.specs.Lists.{over}
use Rattle.text.specs.declared.Piece.{Piece}
use Rattle.text.specs.Text.{over_from}
use Rattle.text.specs.Pieces.{piece_text, text_of, piece_width, width_of}
use Rattle.text.proofs.PutLaws.{Written, written_on, over_none, length_from}

text-on : (ps : List Piece) (i : ℕ) (d : Piece) → i < length ps → text_of (take (i + 1) ps) ≡ text_of (take i ps) ++ piece_text (get_or ps i d)
text-on [] i d b = absurd (omega arith)
text-on (p ∷ ps) zero d b = append-nil (piece_text p)
text-on (p ∷ ps) (suc i) d b =
    let s : suc i + 1 ≡ suc (i + 1) = omega arith in
    rw s (ap (λ (t : List ℕ). piece_text p ++ t) (text-on ps i d (omega arith)) ∙ sym (append_assoc (piece_text p) (text_of (take i ps)) (piece_text (get_or ps i d))))

width-on : (ps : List Piece) (i : ℕ) (d : Piece) → i < length ps → width_of (drop i ps) ≡ piece_width (get_or ps i d) + width_of (drop (i + 1) ps)
width-on [] i d b = absurd (omega arith)
width-on (p ∷ ps) zero d b = refl
width-on (p ∷ ps) (suc i) d b = let s : suc i + 1 ≡ suc (i + 1) = omega arith in rw s (width-on ps i d (omega arith))

-- a loop that puts them, before its turn i
pub record Pieced (ps : List Piece) (at : ℕ) (old : List ℕ) (i p : ℕ) (s : List ℕ) : Type 0 where
  pub written : Written at old (text_of (take i ps)) p s
  pub size : length s ≡ length old
  pub room : p + width_of (drop i ps) ≤ at + width_of ps

pub no-pieces : (ps : List Piece) (at : ℕ) (old : List ℕ) → Pieced ps at old 0 at old
no-pieces ps at old = record { written = record { text = over_none at old; place = omega arith }; size = refl; room = omega arith }

-- room for the next
pub next-room : {ps : List Piece} {at : ℕ} {old : List ℕ} {i p : ℕ} {s : List ℕ} (d : Piece) → Pieced ps at old i p s → i < length ps → at + width_of ps ≤ length old
    → p + piece_width (get_or ps i d) ≤ length s
next-room {ps} {at} {old} {i} {p} d q b m = let w = width-on ps i d b in let r = q.room in let z = q.size in omega arith

pub piece-on : {ps : List Piece} {at : ℕ} {old : List ℕ} {i p : ℕ} {s : List ℕ} {p' : ℕ} {s' : List ℕ} (d : Piece) → Pieced ps at old i p s → i < length ps
    → s' ≡ over_from p (piece_text (get_or ps i d)) s → p' ≡ p + length (piece_text (get_or ps i d)) → p' ≤ p + piece_width (get_or ps i d) → Pieced ps at old (i + 1) p' s'
piece-on {ps} {at} {old} {i} {p} {s} d q b e f l = record {
  written = rw (text-on ps i d b) (written_on (piece_text (get_or ps i d)) q.written e f);
  size = ap length e ∙ length_from p (piece_text (get_or ps i d)) s ∙ q.size;
  room = let w = width-on ps i d b in let r = q.room in omega arith;
}

-- ---- a text by another name, and at the front of a slice
pub so-text : {s w v : List ℕ} (at : ℕ) (old : List ℕ) → s ≡ over_from at w old → w ≡ v → s ≡ over_from at v old
so-text at old e q = e ∙ ap (λ (l : List ℕ). over_from at l old) q

pub so-long : {p : ℕ} {w v : List ℕ} (at : ℕ) → p ≡ at + length w → w ≡ v → p ≡ at + length v
so-long at e q = e ∙ ap (λ (l : List ℕ). at + length l) q

pub at-front : {s w v : List ℕ} (old : List ℕ) → s ≡ over_from 0 w old → w ≡ v → s ≡ over v old
unfolding over_from
at-front old e q = e ∙ ap (λ (l : List ℕ). over l old) q

pub front-length : {p : ℕ} {w v : List ℕ} → p ≡ 0 + length w → w ≡ v → p ≡ length v
front-length e q = let l = ap length q in omega arith
