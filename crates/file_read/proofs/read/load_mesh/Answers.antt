use Rattle.std.proofs.Common.{rules, ap, ◌∙◌}
use Rattle.std.proofs.lemmas.Result.{err_from_is_err_and}
use Rattle.check_mesh.specs.Checked.{checked_links}
use Rattle.file_read.specs.Held.{held}
use Rattle.file_read.proofs.ReadLaws.{looked, look-refused, look-ready, links-refused, links-sound}
use Rattle.file_read.proofs.read.load_mesh.Goals as goal

pub returns-in_err-c : goal.returns-in_err-c
returns-in_err-c c =
    let p = err_from_is_err_and c.from_residual.result c.from_residual.ensures.1 in
    let b = held c.args.into.now in
    let r = look-refused _ b (looked _ b c.look.ensures c.slices.ensures) c.in_err-c.was in
    record { same_slices = search rules; value = rw (p.1, p.2) r.0; after = r.1 }

pub fill-requires : goal.fill-requires
fill-requires c =
    let b = held c.args.into.now in
    let p = look-ready _ b (looked _ b c.look.ensures c.slices.ensures) c.in_ok-c.was in
    record { c_value = p.1; c_in_bounds = p.2; finite = p.3 }

pub returns-in_err-check_links : goal.returns-in_err-check_links
returns-in_err-check_links c =
    let p = err_from_is_err_and c.from_residual-in_err-check_links.result c.from_residual-in_err-check_links.ensures.1 in
    let b = held c.args.into.now in
    let k = c.check_links.ensures ∙ ap (checked_links c.in_ok-c.c) c.slices-2.ensures in
    let r = links-refused _ b (looked _ b c.look.ensures c.slices.ensures) c.in_ok-c.was c.fill.ensures.after k c.in_err-check_links.was in
    record { same_slices = search rules; value = rw (p.1, p.2) r.0; after = r.1 }

pub returns : goal.returns
returns c =
    let b = held c.args.into.now in
    let k = c.check_links.ensures ∙ ap (checked_links c.in_ok-c.c) c.slices-2.ensures in
    let r = links-sound _ b (looked _ b c.look.ensures c.slices.ensures) c.in_ok-c.was c.fill.ensures.after k c.in_ok-check_links.was in
    record { same_slices = search rules; value = r.0; after = r.1 }
