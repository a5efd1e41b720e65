-- A part of a sewn mesh is known by its slices and counts: each fact that it keeps has one proof at most. Assumes nothing.
use Rattle.std.specs.Prelude.{List, ℕ}
use denote.Struct.Props.{props}
use mathlib.Core.Path.{◌≡◌, ap, ◌∙◌, subst⁻¹}
use Rattle.check_rules.specs.declared.states.SewnMesh.{SewnMesh}
use Rattle.check_rules.specs.Once.{Faced-prop, Rooted-prop}
use Rattle.check_rules.specs.Rule.{EdgesFit, Faced, ItemsFit, Rooted, Sewn}
use Rattle.check_rounds.specs.declared.parts.SewnFaces.{SewnFaces}
use Rattle.check_rounds.specs.declared.parts.SewnHalves.{SewnHalves}
use Rattle.check_rounds.specs.declared.parts.SewnVertices.{SewnVertices}
use Rattle.check_rounds.specs.OnParts.{faces_of, halves_of, vertices_of}

edges_once : {ed em : List ℕ} {e : ℕ} → IsProp (EdgesFit ed em e)
edges_once = hlevel props

items_once : {l m : List ℕ} {n : ℕ} → IsProp (ItemsFit l m n)
items_once = hlevel props

sewn_once : {ed em : List ℕ} {e : ℕ} → IsProp (Sewn ed em e)
sewn_once = hlevel props

module _ (m : SewnMesh) where
  abbrev halves_by : EdgesFit m.mesh.edges.now m.mesh.emarks.now m.mesh.ne → Sewn m.mesh.edges.now m.mesh.emarks.now m.mesh.ne → SewnHalves
  halves_by f s = record { edges = m.mesh.edges; emarks = m.mesh.emarks; ne = m.mesh.ne; fit = f; sewn = s }

  pub halves-is : (f : EdgesFit m.mesh.edges.now m.mesh.emarks.now m.mesh.ne) (s : Sewn m.mesh.edges.now m.mesh.emarks.now m.mesh.ne) → halves_by f s ≡ halves_of m
  halves-is f s = ap (λ x. halves_by x s) (edges_once f m.mesh.halfedges) ∙ ap (halves_by m.mesh.halfedges) (sewn_once s m.sewn)

  abbrev faces_by : (h : SewnHalves) → ItemsFit m.mesh.faces.now m.mesh.fmarks.now m.mesh.nf → Faced h.edges.now h.emarks.now m.mesh.faces.now m.mesh.fmarks.now h.ne m.mesh.nf → SewnFaces
  faces_by h f g = record { halves = h; faces = m.mesh.faces; fmarks = m.mesh.fmarks; nf = m.mesh.nf; fit = f; faced = g }

  pub faces-is : (h : SewnHalves) → h ≡ halves_of m → (f : ItemsFit m.mesh.faces.now m.mesh.fmarks.now m.mesh.nf) (g : Faced h.edges.now h.emarks.now m.mesh.faces.now m.mesh.fmarks.now h.ne m.mesh.nf) → faces_by h f g ≡ faces_of m
  faces-is h e = subst⁻¹ (λ h. (f : ItemsFit m.mesh.faces.now m.mesh.fmarks.now m.mesh.nf) (g : Faced h.edges.now h.emarks.now m.mesh.faces.now m.mesh.fmarks.now h.ne m.mesh.nf) → faces_by h f g ≡ faces_of m) e
      (λ f g. ap (λ x. faces_by (halves_of m) x g) (items_once f m.mesh.sides) ∙ ap (faces_by (halves_of m) m.mesh.sides) (Faced-prop m.mesh.sides.few g m.faced))

  abbrev vertices_by : (h : SewnHalves) → ItemsFit m.mesh.outs.now m.mesh.vmarks.now m.mesh.nv → Rooted h.edges.now h.emarks.now m.mesh.outs.now m.mesh.vmarks.now h.ne m.mesh.nv → SewnVertices
  vertices_by h f g = record { halves = h; outs = m.mesh.outs; vmarks = m.mesh.vmarks; nv = m.mesh.nv; fit = f; rooted = g }

  pub vertices-is : (h : SewnHalves) → h ≡ halves_of m → (f : ItemsFit m.mesh.outs.now m.mesh.vmarks.now m.mesh.nv) (g : Rooted h.edges.now h.emarks.now m.mesh.outs.now m.mesh.vmarks.now h.ne m.mesh.nv) → vertices_by h f g ≡ vertices_of m
  vertices-is h e = subst⁻¹ (λ h. (f : ItemsFit m.mesh.outs.now m.mesh.vmarks.now m.mesh.nv) (g : Rooted h.edges.now h.emarks.now m.mesh.outs.now m.mesh.vmarks.now h.ne m.mesh.nv) → vertices_by h f g ≡ vertices_of m) e
      (λ f g. ap (λ x. vertices_by (halves_of m) x g) (items_once f m.mesh.vertices) ∙ ap (vertices_by (halves_of m) m.mesh.vertices) (Rooted-prop m.mesh.halfedges.few g m.rooted))
