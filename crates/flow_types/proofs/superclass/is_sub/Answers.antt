use Rattle.std.proofs.Common.{◌≡◌, ◌∙◌, sym, length, ◌+◌, ◌-◌, arith}
use Rattle.std.proofs.lemmas.Bool.Decides.{nat_tests}
use Rattle.flow_types.specs.Tree.{superclasses}
use Rattle.flow_types.proofs.Supers.{count}
use Rattle.flow_types.proofs.TreeLaws.{above-step}
use Rattle.flow_types.proofs.superclass.is_sub.Goals as goal

pub loop-preserved : goal.loop-preserved
loop-preserved c =
    sym (above-step (superclasses c.args.image.now) (length (superclasses c.args.image.now) - c.loop.counter) (length (superclasses c.args.image.now) - (c.loop.counter + 1)) c.loop.at c.args.high c.in-Some.up (let n : length (superclasses c.args.image.now) ≡ length c.args.image.now.classes = count c.args.image.now in omega arith) (grind (arith, nat_tests)) (sym c.parent.ensures ∙ c.in-Some.is)) ∙ c.loop.invariant
