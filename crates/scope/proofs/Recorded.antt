-- The words in which recorded cases are put: meshes, lent slices that hold sevens, what a call leaves. Written by tools/theorems.py. Assumes nothing.
use mathlib.Core.Bool.{Bool}
use mathlib.Core.List.{List, ◌++◌}
use Rattle.std.specs.Prelude.{Option, Ok, Err}
use Prim.Native.Nat.{ℕ, ◌+◌, ◌*◌}
use lib.IntN.{pos}
use lib.ListN.{length, replicate}
use lib.Ieee.{Float, binary64, of_int}
use Rattle.scope.specs.declared.answers.Fault.{Fault}
use Rattle.scope.specs.declared.answers.Refusal.{Refusal}
use Rattle.scope.specs.Answers.{Edited}
use Rattle.scope.specs.Call.{Outcome, Scheme, refusal}
use Rattle.scope.specs.Check.{fault}
use Rattle.scope.specs.EditCalls.{Own, EditOutcome}
use Rattle.scope.specs.Slices.{Given, Buffers, Sizes, sizes, links_of, marks_of}

abbrev pub mesh : ℕ → ℕ → ℕ → List ℕ → List ℕ → List ℕ → List ℕ → List ℕ → List ℕ → List Float → Given
mesh v e f outs edges faces vm em fm ps = record {
  counts = record { v = v; e = e; f = f };
  slices = record { outs = outs; edges = edges; faces = faces; vmarks = vm; emarks = em; fmarks = fm };
  points = ps;
}

abbrev pub zero : Float
zero = of_int binary64 (pos 0)

abbrev pub seven : Float
seven = of_int binary64 (pos 7)

-- slices for v vertices, e edges and f faces and three words more each, and w numbers of work, all of them x or y
abbrev pub all_of : ℕ → Float → ℕ → ℕ → ℕ → ℕ → Buffers
all_of x y v e f w = record {
  result = record {
    outs = replicate (v + 3) x;
    edges = replicate (8 * e + 3) x;
    faces = replicate (f + 3) x;
    vmarks = replicate (v + 3) x;
    emarks = replicate (e + 3) x;
    fmarks = replicate (f + 3) x;
  };
  points = replicate (3 * v + 3) y;
  work = replicate w y;
}

-- what is lent holds sevens
abbrev pub lent : ℕ → ℕ → ℕ → ℕ → Buffers
lent = all_of 7 seven

abbrev pub zeros : ℕ → ℕ → ℕ → ℕ → Buffers
zeros = all_of 0 zero

abbrev pub three-more : List ℕ → List ℕ
three-more l = l ++ replicate 3 0

-- the mesh with zeros after it, and w zeros of work
abbrev pub done : Given → Bool → ℕ → Outcome
done g flag w =
    let s = g.slices in
    record {
      answer = Ok (g.counts, flag);
      left = record {
        result = record {
          outs = three-more s.outs;
          edges = three-more s.edges;
          faces = three-more s.faces;
          vmarks = three-more s.vmarks;
          emarks = three-more s.emarks;
          fmarks = three-more s.fmarks;
        };
        points = g.points ++ replicate 3 zero;
        work = replicate w zero;
      };
    }

abbrev pub refused : Refusal → Buffers → Outcome
refused r b = record { answer = Err r; left = b }

-- the refusal where there is room for a million of each
abbrev pub vast : Sizes
vast = record { outs = 1000000; edges = 8000000; faces = 1000000; vmarks = 1000000; emarks = 1000000; fmarks = 1000000 }

abbrev pub refuses : Scheme → ℕ → Bool → Given → Option Refusal
refuses S k flag g =
    refusal S k flag (links_of g.counts g.slices) (marks_of g.counts g.slices) (sizes g.slices) (length g.points) vast 3000000 18000000

abbrev pub own : ℕ → ℕ → ℕ → List ℕ → List ℕ → List ℕ → List ℕ → List ℕ → List ℕ → Own
own v e f outs edges faces vm em fm = record {
  counts = record { v = v; e = e; f = f };
  slices = record { outs = outs; edges = edges; faces = faces; vmarks = vm; emarks = em; fmarks = fm };
}

abbrev pub gives : Edited → Own → EditOutcome
gives a o = record { answer = a; left = o }

abbrev pub wrong : Given → Option Fault
wrong g = fault (links_of g.counts g.slices) (marks_of g.counts g.slices)
