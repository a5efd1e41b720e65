-- A face around a centre: what a fan is. Assumes nothing.
use mathlib.Core.Path.{◌≡◌}
use mathlib.Core.Logic.{◌⊎◌, ◌≢◌}
use Prim.Native.Nat.{ℕ}
use Rattle.scope.specs.Links.{partner}
use Rattle.laws_mesh.specs.Mesh.{Mesh, tail}
use Rattle.laws_mesh.proofs.Parts.{Parts}

-- part k of face f gets the face sub k, and the spoke r k from its tail to the centre c, at which nothing ends before
pub record Fan (m m' : Mesh) (f c : ℕ) (K : ℕ → Type 0) (a b up dn r sub : ℕ → ℕ) : Type 0 where
  pub parts : Parts m f K a b up dn
  pub r-new : (k : ℕ) → K k → ¬ m.is_h (r k)
  pub o-new : (k : ℕ) → K k → ¬ m.is_h (partner (r k))
  pub r-once : (k l : ℕ) → K k → K l → r k ≡ r l → k ≡ l
  pub keep-H : (x : ℕ) → m.is_h x → m'.is_h x
  pub r-in : (k : ℕ) → K k → m'.is_h (r k)
  pub o-in : (k : ℕ) → K k → m'.is_h (partner (r k))
  pub H-is : (x : ℕ) → m'.is_h x → m.is_h x ⊎ (((k : ℕ) × K k × (x ≡ r k)) ⊎ ((k : ℕ) × K k × (x ≡ partner (r k))))
  pub keep-V : (x : ℕ) → m.is_v x → m'.is_v x
  pub c-in : m'.is_v c
  pub c-free : (x : ℕ) → m.is_h x → m.head x ≢ c
  pub V-is : (x : ℕ) → m'.is_v x → (x ≡ c) ⊎ (m.is_v x × (x ≢ c))
  pub keep-F : (g : ℕ) → m.is_f g → m'.is_f g
  pub sub_in : (k : ℕ) → K k → m'.is_f (sub k)
  pub sub_once : (k l : ℕ) → K k → K l → sub k ≡ sub l → k ≡ l
  pub sub-old : (k : ℕ) → K k → m.is_f (sub k) → sub k ≡ f
  pub F-is : (g : ℕ) → m'.is_f g → ((k : ℕ) × K k × (g ≡ sub k)) ⊎ (m.is_f g × (g ≢ f))
  pub face-a : (k : ℕ) → K k → m'.face (a k) ≡ sub k
  pub face-b : (k : ℕ) → K k → m'.face (b k) ≡ sub k
  pub face-r : (k : ℕ) → K k → m'.face (r k) ≡ sub (dn k)
  pub face-o : (k : ℕ) → K k → m'.face (partner (r k)) ≡ sub k
  pub face-free : (x : ℕ) → m.is_h x → m.face x ≢ f → m'.face x ≡ m.face x
  pub head-old : (x : ℕ) → m.is_h x → m'.head x ≡ m.head x
  pub head-r : (k : ℕ) → K k → m'.head (r k) ≡ c
  pub head-o : (k : ℕ) → K k → m'.head (partner (r k)) ≡ tail m (a k)
  pub next-a : (k : ℕ) → K k → a k ≢ b k → m'.next (a k) ≡ b k
  pub next-b : (k : ℕ) → K k → m'.next (b k) ≡ r (up k)
  pub next-r : (k : ℕ) → K k → m'.next (r k) ≡ partner (r (dn k))
  pub next-o : (k : ℕ) → K k → m'.next (partner (r k)) ≡ a k
  pub next-free : (x : ℕ) → m.is_h x → m.face x ≢ f → m'.next x ≡ m.next x
  pub prev-a : (k : ℕ) → K k → m'.prev (a k) ≡ partner (r k)
  pub prev-b : (k : ℕ) → K k → a k ≢ b k → m'.prev (b k) ≡ a k
  pub prev-r : (k : ℕ) → K k → m'.prev (r k) ≡ b (dn k)
  pub prev-o : (k : ℕ) → K k → m'.prev (partner (r k)) ≡ r (up k)
  pub prev-free : (x : ℕ) → m.is_h x → m.face x ≢ f → m'.prev x ≡ m.prev x
  pub start-sub : (k : ℕ) → K k → m'.start (sub k) ≡ a k
  pub start-free : (g : ℕ) → m.is_f g → g ≢ f → m'.start g ≡ m.start g
  pub out-old : (v : ℕ) → m.is_v v → v ≢ c → m'.out v ≡ m.out v
  pub out-c : (k : ℕ) × K k × (m'.out c ≡ partner (r k))
