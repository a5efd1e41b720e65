-- What it is for a fault to name the first broken rule and, under it, the first place (document 01, section 2). Assumes nothing.
use Rattle.std.specs.Prelude.{◌≡◌, ℕ, ◌<◌}
use Rattle.scope.specs.declared.answers.Place.TheVariants.{AtVertex, AtHalfedge, AtFace}
use Rattle.scope.specs.declared.answers.Fault.{Fault}
use Rattle.scope.specs.Links.{Links, Marks}
use Rattle.laws_mesh.specs.Rules.{C1Vertex, C1Halfedge, C1Face, C2, C3, C4, C5, C6, C7, C8, C9}
use Rattle.laws_check.specs.Judged.{AtV, AtH, AtF}

-- the rules with their places, in order
pub data Rule : Type 0 where
  rule-1-vertex rule-1-halfedge rule-1-face rule-2 rule-3 rule-4 rule-5 rule-6 rule-7 rule-8 rule-9 : Rule

abbrev pub order : Rule → ℕ
order rule-1-vertex = 0
order rule-1-halfedge = 1
order rule-1-face = 2
order rule-2 = 3
order rule-3 = 4
order rule-4 = 5
order rule-5 = 6
order rule-6 = 7
order rule-7 = 8
order rule-8 = 9
order rule-9 = 10

abbrev pub fault_at : Rule → ℕ → Fault
fault_at rule-1-vertex i = record { rule = 1; place = AtVertex i }
fault_at rule-1-halfedge i = record { rule = 1; place = AtHalfedge i }
fault_at rule-1-face i = record { rule = 1; place = AtFace i }
fault_at rule-2 i = record { rule = 2; place = AtHalfedge i }
fault_at rule-3 i = record { rule = 3; place = AtHalfedge i }
fault_at rule-4 i = record { rule = 4; place = AtFace i }
fault_at rule-5 i = record { rule = 5; place = AtHalfedge i }
fault_at rule-6 i = record { rule = 6; place = AtHalfedge i }
fault_at rule-7 i = record { rule = 7; place = AtFace i }
fault_at rule-8 i = record { rule = 8; place = AtVertex i }
fault_at rule-9 i = record { rule = 9; place = AtVertex i }

-- the rule holds at place i, if that is there
abbrev pub Holds : Links → Marks → Rule → ℕ → Type 0
Holds m k rule-1-vertex = AtV C1Vertex m k
Holds m k rule-1-halfedge = AtH C1Halfedge m k
Holds m k rule-1-face = AtF C1Face m k
Holds m k rule-2 = AtH C2 m k
Holds m k rule-3 = AtH C3 m k
Holds m k rule-4 = AtF C4 m k
Holds m k rule-5 = AtH C5 m k
Holds m k rule-6 = AtH C6 m k
Holds m k rule-7 = AtF C7 m k
Holds m k rule-8 = AtV C8 m k
Holds m k rule-9 = AtV C9 m k

-- x says that rule r is broken at i, and it is; r holds at all lower places, and every lower rule everywhere
pub record Names (m : Links) (k : Marks) (x : Fault) : Type 0 where
  pub r : Rule
  pub i : ℕ
  pub says : x ≡ fault_at r i
  pub broken : ¬ Holds m k r i
  pub first_place : (j : ℕ) → j < i → Holds m k r j
  pub lowest : (q : Rule) → order q < order r → (j : ℕ) → Holds m k q j
