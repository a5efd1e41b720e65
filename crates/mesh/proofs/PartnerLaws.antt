-- The laws of `partner`: it is the exclusive or with 1, undoes itself, and stays below an even bound. Assumes nothing.
use Prim.Native.Nat.{ℕ, zero, suc, ◌+◌, ◌-◌, ◌*◌, ◌/◌, ◌%◌, ◌<◌}
use mathlib.Core.Path.{◌≡◌, refl, ap, ◌∙◌}
use mathlib.Core.Logic.{◌≢◌}
use native.Mathlib.Omega.{arith}
use native.Mathlib.Nat.{mod-lt}
use lib.Bits.{bit_xor, differ, xor_step, xor_zero_r}
use lib.Dec.{lit<}
use Rattle.scope.specs.Links.{partner}

differ-one : (m : ℕ) → m < 2 → differ m 1 ≡ 1 - m
differ-one zero l = refl
differ-one (suc zero) l = refl
differ-one (suc (suc m)) l = absurd (omega arith)

pub xor-one : (h : ℕ) → bit_xor h 1 ≡ partner h
unfolding partner
xor-one h = xor_step h 1 ∙ rw (xor_zero_r (h / 2)) (ap (λ (x : ℕ). h / 2 * 2 + x) (differ-one (h % 2) (mod-lt h (lit< tt))))

-- halfedges below 2n have partners below 2n
pub partner-lt : (h n : ℕ) → h < 2 * n → partner h < 2 * n
unfolding partner
partner-lt h n l = omega arith

pub partner-partner : (h : ℕ) → partner (partner h) ≡ h
unfolding partner
partner-partner h = omega arith

-- partners are halves of one edge, and different
pub partner-half : (h : ℕ) → partner h / 2 ≡ h / 2
unfolding partner
partner-half h = omega arith

pub partner-other : (h : ℕ) → partner h ≢ h
unfolding partner
partner-other h e = omega arith

pub partner-even : (e : ℕ) → partner (2 * e) ≡ 2 * e + 1
unfolding partner
partner-even e = omega arith

pub partner-odd : (e : ℕ) → partner (2 * e + 1) ≡ 2 * e
unfolding partner
partner-odd e = omega arith
