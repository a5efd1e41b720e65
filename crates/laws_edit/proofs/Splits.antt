-- Split edge and split face keep a mesh consistent, deleted elements allowed. Assumes nothing.
use mathlib.Core.Path.{refl}
use mathlib.Core.Bool.{not, ◌&&◌}
use Prim.Native.Nat.{ℕ}
use native.Mathlib.Omega.{arith}
use lib.ListN.{length}
use Rattle.scope.specs.Links.{NONE, next, out, start, isolated, loop, is_v, is_h, is_f}
use Rattle.scope.specs.Edits.{split_edge}
use Rattle.scope.specs.Tally.{counts_of}
use Rattle.scope.specs.EditCalls.{split_edge_edit, split_face_edit}
use Rattle.laws_mesh.proofs.Shapes.{shape_of, size_of}
use Rattle.laws_mesh.proofs.Count.{Length}
use Rattle.laws_mesh.proofs.SplitLaws.{split-marked-sized, split-marked-consistent}
use Rattle.laws_mesh.proofs.SplitFaceLaws.{loop-long, split_face-marked-counts, split_face-marked-sized, split_face-marked-consistent}
use Rattle.laws_check.proofs.Tells.{is-so-not, t-and, t-eq}
use Rattle.laws_check.proofs.Tests.{t-is_v, t-is_h, t-is_f}
use Rattle.laws_edit.specs.Kept.{Keeps}
use Rattle.laws_edit.proofs.Allowed.{let_by, let-last, allowed, after_kept, counts_are}

pub split_edge-keeps : (h v : ℕ) → Keeps (split_edge_edit h v)
unfolding split_edge_edit split_edge counts_of
split_edge-keeps h v m k own l e =
    let a = allowed (split_edge_edit h v) m k own l e in
    let (handles, e1) = let_by (not (is_h m k h && is_v m k v)) _ _ a.undenied in
    let (hi, vi) = is-so-not (t-and (t-is_h m k h) (t-is_v m k v)) handles in
    let free = is-so-not (t-eq (out m v) NONE) (let-last (not (isolated m v)) _ e1) in
    let lo = a.long in
    after_kept (split_edge_edit h v) m k
    (split-marked-sized m k h v a.sized a.long a.consistent hi vi free a.room.few_e)
    (let q = lo.vs_long in omega arith) (let q = lo.es_long in omega arith) (let q = lo.fs_long in omega arith)
    (split-marked-consistent m k h v a.sized a.long a.consistent hi vi free a.room.few_e)
    (counts_are (omega arith) refl refl)

pub split_face-keeps : (f v : ℕ) → Keeps (split_face_edit f v)
unfolding split_face_edit counts_of
split_face-keeps f v m k own l e =
    let a = allowed (split_face_edit f v) m k own l e in
    let (handles, e1) = let_by (not (is_f m k f && is_v m k v)) _ _ a.undenied in
    let (fi, vi) = is-so-not (t-and (t-is_f m k f) (t-is_v m k v)) handles in
    let free = is-so-not (t-eq (out m v) NONE) (let-last (not (isolated m v)) _ e1) in
    let lo = a.long in
    let z = a.sized in
    let c = a.consistent in
    let n = length (loop m (start m f)) in
    let len : Length (next m) (start m f) n = loop-long m (shape_of m k z.few_e z.few_f) (size_of m k z.few_e z.few_f) c.core (start m f) (c.core.start_in f fi) in
    let (x, y, w) = split_face-marked-counts m k f v n z a.long c fi vi free len a.room.few_e a.room.few_f in
    after_kept (split_face_edit f v) m k
    (split_face-marked-sized m k f v n z a.long c fi vi free len a.room.few_e a.room.few_f)
    (let q = lo.vs_long in omega arith) (let q = lo.es_long in omega arith) (let q = lo.fs_long in omega arith)
    (split_face-marked-consistent m k f v n z a.long c fi vi free len a.room.few_e a.room.few_f)
    (counts_are x y w)
