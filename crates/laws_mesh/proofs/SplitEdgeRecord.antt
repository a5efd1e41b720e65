-- An edge is split by an isolated vertex: what that is. Assumes nothing.
use mathlib.Core.Path.{◌≡◌}
use mathlib.Core.Logic.{◌⊎◌, ◌≢◌}
use Prim.Native.Nat.{ℕ}
use Rattle.scope.specs.Links.{NONE, partner}
use Rattle.laws_mesh.specs.Mesh.{Mesh, tail}

-- m' is m with the edge of h split by v: h is now the half that leaves v, and n the new one that ends there
pub record SplitEdge (m m' : Mesh) (h v n : ℕ) : Type 0 where
  pub h-in : m.is_h h
  pub v_in : m.is_v v
  pub v-free : m.out v ≡ NONE
  pub n-new : ¬ m.is_h n
  pub o-new : ¬ m.is_h (partner n)
  pub keep-H : (x : ℕ) → m.is_h x → m'.is_h x
  pub n-in : m'.is_h n
  pub o-in : m'.is_h (partner n)
  pub H-is : (x : ℕ) → m'.is_h x → m.is_h x ⊎ ((x ≡ n) ⊎ (x ≡ partner n))
  pub keep-V : (x : ℕ) → m.is_v x → m'.is_v x
  pub V-is : (x : ℕ) → m'.is_v x → m.is_v x
  pub keep-F : (x : ℕ) → m.is_f x → m'.is_f x
  pub F-is : (x : ℕ) → m'.is_f x → m.is_f x
  pub face-n : m'.face n ≡ m.face h
  pub face-o : m'.face (partner n) ≡ m.face (partner h)
  pub face-old : (x : ℕ) → m.is_h x → m'.face x ≡ m.face x
  pub head-n : m'.head n ≡ v
  pub head-o : m'.head (partner n) ≡ tail m h
  pub head-p : m'.head (partner h) ≡ v
  pub head-old : (x : ℕ) → m.is_h x → x ≢ partner h → m'.head x ≡ m.head x
  pub next-n : m'.next n ≡ h
  pub next-o : m'.next (partner n) ≡ m.next (partner h)
  pub next-b : m'.next (m.prev h) ≡ n
  pub next-p : m'.next (partner h) ≡ partner n
  pub next-old : (x : ℕ) → m.is_h x → x ≢ m.prev h → x ≢ partner h → m'.next x ≡ m.next x
  pub prev-n : m'.prev n ≡ m.prev h
  pub prev-o : m'.prev (partner n) ≡ partner h
  pub prev-h : m'.prev h ≡ n
  pub prev-a : m'.prev (m.next (partner h)) ≡ partner n
  pub prev-old : (x : ℕ) → m.is_h x → x ≢ h → x ≢ m.next (partner h) → m'.prev x ≡ m.prev x
  pub start-old : (f : ℕ) → m.is_f f → m'.start f ≡ m.start f
  pub out-rim : m.face (partner h) ≡ NONE → m'.out v ≡ partner n
  pub out_in : m.face (partner h) ≢ NONE → m'.out v ≡ h
  pub out-from : (u : ℕ) → m.is_v u → m.out u ≡ h → m'.out u ≡ n
  pub out-old : (u : ℕ) → m.is_v u → u ≢ v → m.out u ≢ h → m'.out u ≡ m.out u
