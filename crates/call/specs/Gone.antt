-- What the passes of a call come to (document 01, section 4). Assumes nothing.
use Rattle.std.specs.Prelude.{ℕ, ◌*◌, ◌≤◌, ◌≡◌, Bool, List, [], length, take, Float, Option, None, Some, Ok, Err}
use Rattle.scope.specs.declared.records.Counts.{Counts}
use Rattle.scope.specs.declared.answers.Refusal.TheVariants.{NoWeight}
use Rattle.scope.specs.Lists.{lay}
use Rattle.scope.specs.Links.{Links}
use Rattle.scope.specs.Tally.{tally_of, counts_of}
use Rattle.scope.specs.Slices.{Given, Buffers, float_zero, wiped}
use Rattle.scope.specs.Call.{Scheme, Outcome, links, points, tally, turned, heavy}
use Rattle.laws_mesh.specs.Of.{Good}
use Rattle.check_mesh.specs.Checked.{slices_at}
use Rattle.links_edits.specs.Held.{given}
use Rattle.call_steps.specs.Rooms.{needed}
use Rattle.call_steps.specs.Passing.{Roomy}
use Rattle.call_steps.specs.Stores.{Takes}
use Rattle.call_steps.specs.Lent.{outcome_at}

-- a mesh without marks and its points, then zeros; the work slice zero
unfoldable pub laid_in : Links → List Float → Buffers → Buffers
laid_in l ps b =
    let r = b.result in
    record {
      result = slices_at (lay 0 l.outs r.outs) (lay 0 l.edges r.edges) (lay 0 l.faces r.faces) (lay 0 [] r.vmarks) (lay 0 [] r.emarks) (lay 0 [] r.fmarks);
      points = lay float_zero ps b.points;
      work = lay float_zero [] b.work;
    }

-- k passes, one or more, of x with the points ps, the first with this flag: done, or stopped at a vertex without weight
unfoldable pub gone : Option (ℕ × ℕ) → Scheme → ℕ → Bool → Links → List Float → Buffers → Outcome
gone None S k flag x ps b = outcome_at (Ok (counts_of (links S k flag x), turned S k flag)) (laid_in (links S k flag x) (points S k flag x ps) b)
gone (Some p) S k flag x ps b = outcome_at (Err (NoWeight p.0 p.1)) (wiped b)

abbrev pub gone_by : Scheme → ℕ → Bool → Links → List Float → Buffers → Outcome
gone_by S k flag m ps b = gone (heavy S k 1 flag (S.prepare m)) S k flag (S.prepare m) ps b

-- a good mesh as given, and room for k passes of it
pub record GoReady (S : Scheme) (k : ℕ) (flag : Bool) (c : Counts) (outs edges faces : List ℕ) (ps : List Float) (b : Buffers) : Type 0 where
  pub good : Good (given c outs edges faces)
  -- the flag asked for, before it was settled
  pub asked : Bool
  pub settled : flag ≡ S.settle (S.prepare (given c outs edges faces)) asked
  pub takes : Takes c (length outs) (length edges) (length faces)
  pub points_in : 3 * c.v ≤ length ps
  pub room : Roomy (tally S k flag (S.ready (tally_of (given c outs edges faces)))) b.result.outs b.result.edges b.result.faces b.points
  pub work_room : needed S k flag (S.ready (tally_of (given c outs edges faces))) ≤ length b.work

-- ---- the same of a mesh as it is handed in
abbrev pub GoFrom : Scheme → ℕ → Bool → Given → Buffers → Type 0
GoFrom S k flag g b = GoReady S k flag g.counts g.slices.outs g.slices.edges g.slices.faces g.points b

abbrev pub gone_from : Scheme → ℕ → Bool → Given → Buffers → Outcome
gone_from S k flag g b = gone_by S k flag (given g.counts g.slices.outs g.slices.edges g.slices.faces) (take (3 * g.counts.v) g.points) b
