use Rattle.std.proofs.Common.{◌≡◌, take, replicate, false, rules, arith}
use Rattle.std.proofs.lemmas.List.{take_more}
use Rattle.std.proofs.lemmas.Grind.{common_steps}
use Rattle.code_table.proofs.Flags.{none_marked, one_marked, all_marked}
use Rattle.code_table.proofs.target.starts.Goals as goal

pub loop-placed-init : goal.loop-placed-init
loop-placed-init c =
    let e : c.in_ok-flags.flags.items ≡ replicate c.args.len false = search rules in
    rw e (none_marked c.args.len)

pub loop-placed-preserved : goal.loop-placed-preserved
loop-placed-preserved c =
    let e = take_more c.args.ops.now c.loop-placed.placed-index c.placed-item.result c.loop-placed-test.true in
    let w = c.requires c.loop-placed.placed-index c.placed-item.result c.loop-placed-test.true in
    let within = rw (← c.placed-item.is) at w in
    rw (e, ← c.placed-item.is) (one_marked c.loop-placed.flags.items (take c.loop-placed.placed-index c.args.ops.now) c.args.len c.placed-item.result within c.loop-placed.invariant)

pub returns : goal.returns
returns c =
    let e : take c.loop-placed.placed-index c.args.ops.now ≡ c.args.ops.now = grind (arith, common_steps) in
    all_marked c.loop-placed.flags.items c.args.ops.now c.args.len (rw e at c.loop-placed.invariant)
