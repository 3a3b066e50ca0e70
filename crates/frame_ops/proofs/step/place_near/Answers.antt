use Rattle.std.proofs.Common.{◌∙◌, Some, ap, sym}
use Rattle.std.proofs.lemmas.Option.{slice_get-get_or}
use Rattle.code_table.specs.declared.code.Placed.{Placed}
use Rattle.frame_ops.proofs.Places.{found_near}
use Rattle.frame_ops.proofs.step.place_near.Goals as goal

pub returns-in-Some : goal.returns-in-Some
returns-in-Some c =
    let p : Placed = c.in-Some.placed.now in
    let l = c.in-Some.ensures.lookup.3 in
    found_near c.args.ops.now c.args.at c.args.near p c.requires (slice_get-get_or c.args.ops.now c.args.near p l.0 ∙ ap Some (sym (l.1 p))) c.if-placed-at.true
