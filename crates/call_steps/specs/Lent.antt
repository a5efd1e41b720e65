-- What is given, lent and answered, by the lists that the slices hold. Assumes nothing.
use Rattle.std.specs.Prelude.{◌≡◌, List, Float}
use Rattle.scope.specs.declared.records.Counts.{Counts}
use Rattle.scope.specs.Answers.{Subdivided}
use Rattle.scope.specs.Slices.{Slices, Given, Buffers}
use Rattle.scope.specs.Call.{Outcome}
use Rattle.call_steps.specs.declared.lent.Buffers as buffers

abbrev pub given_at : Counts → Slices → List Float → Given
given_at c s ps = record { counts = c; slices = s; points = ps }

abbrev pub buffers_at : Slices → List Float → List Float → Buffers
buffers_at s ps work = record { result = s; points = ps; work = work }

abbrev pub outcome_at : Subdivided → Buffers → Outcome
outcome_at r b = record { answer = r; left = b }

-- what the lent slices hold
abbrev pub lent : buffers.Buffers → Buffers
lent b = record {
  result = record {
    outs = b.outs.now;
    edges = b.edges.now;
    faces = b.faces.now;
    vmarks = b.vmarks.now;
    emarks = b.emarks.now;
    fmarks = b.fmarks.now;
  };
  points = b.points.now;
  work = b.work.now;
}

-- the same slices are lent after a call as before it
abbrev pub SameSlices : buffers.Buffers → buffers.Buffers → Type 0
SameSlices b d =
    (d.outs.ghost_name ≡ b.outs.ghost_name) × (d.edges.ghost_name ≡ b.edges.ghost_name) × (d.faces.ghost_name ≡ b.faces.ghost_name)
    × (d.vmarks.ghost_name ≡ b.vmarks.ghost_name) × (d.emarks.ghost_name ≡ b.emarks.ghost_name) × (d.fmarks.ghost_name ≡ b.fmarks.ghost_name)
    × (d.points.ghost_name ≡ b.points.ghost_name) × (d.work.ghost_name ≡ b.work.ghost_name)
