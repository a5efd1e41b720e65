use Rattle.std.proofs.Common.{arith, rules, sym, ap, subst, ◌≡◌, ◌∙◌}
use Rattle.std.specs.Prelude.{None}
use Rattle.scope.specs.declared.answers.Said.{Said}
use Rattle.scope.specs.Check.{fault}
use Rattle.scope.specs.Slices.{Slices, links_of, marks_of}
use Rattle.check_mesh.specs.Stages.{Fits}
use Rattle.file_read.specs.Held.{held}
use Rattle.file_read.proofs.ReadLaws.{reading-read, reading-refused}
use Rattle.count_line.specs.Line.{refusal_line}
use Rattle.count_line.specs.Says.{mesh_says}
use Rattle.count_line.proofs.SayLaws.{says_so, long-says, long-leaves, read-sound, read-says, refused_says, short-leaves}
use Rattle.count_line.proofs.tell.tell.Goals as goal

pub returns-then-file-gt65536 : goal.returns-then-file-gt65536
returns-then-file-gt65536 c =
    let p = c.put_refusal.ensures in
    let b = held c.args.cage.now in
    let long = c.if-file-gt65536.true in
    let q = says_so _ b _ (long-says _ b long) p.out_after p.value in
    record { same_slices = search rules; out_after = q.0; value = q.1; upper_bound = let m = p.upper_bound in omega arith; after = long-leaves _ b long }

pub tell_mesh-requires : goal.tell_mesh-requires
tell_mesh-requires c =
    let k = reading-read _ _ (sym c.read.ensures.value ∙ c.in-Ok.is) in
    let q = read-sound _ (held c.args.cage.now) _ k.1 k.0 c.read.ensures.after in
    let e = sym c.slices.ensures in
    record {
      fits = subst (λ (s : Slices). Fits c.in-Ok.c s) e q.0;
      fmarks_value = subst (λ (s : Slices). fault (links_of c.in-Ok.c s) (marks_of c.in-Ok.c s) ≡ None) e q.1;
      in_bounds = search rules;
    }

pub returns-in-Ok : goal.returns-in-Ok
returns-in-Ok c =
    let k = reading-read _ _ (sym c.read.ensures.value ∙ c.in-Ok.is) in
    let p = c.tell_mesh.ensures in
    let b = held c.args.cage.now in
    let short = c.if-file-gt65536.false in
    let q = says_so _ b _ (read-says _ b _ k.1 k.0 c.read.ensures.after short ∙ ap (λ (s : Slices). mesh_says c.in-Ok.c s) (sym c.slices.ensures)) p.out_after p.value in
    record { same_slices = search rules; out_after = q.0; value = q.1; upper_bound = let m = p.upper_bound in omega arith; after = short-leaves _ b short c.read.ensures.after }

pub returns-in-Err : goal.returns-in-Err
returns-in-Err c =
    let k = reading-refused _ _ (sym c.read.ensures.value ∙ c.in-Err.is) in
    let p = c.put_refusal-in-Err.ensures in
    let b = held c.args.cage.now in
    let n = ap (λ (x : Said). x.number) c.from.ensures in
    let short = c.if-file-gt65536.false in
    let q = says_so _ b _ (refused_says _ b short k ∙ ap refusal_line (sym n)) p.out_after p.value in
    record { same_slices = search rules; out_after = q.0; value = q.1; upper_bound = let m = p.upper_bound in omega arith; after = short-leaves _ b short c.read.ensures.after }
