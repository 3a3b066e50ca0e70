use Rattle.std.proofs.Common.{◌∙◌, sym, ap, List, [], ◌∷◌, ◌++◌, arith}
use Rattle.instruction_table.specs.ClassTypes.{desc_type}
use Rattle.instruction_table.specs.Rows.{value}
use Rattle.instruction_table.specs.declared.row.Need.{Need}
use Rattle.instruction_table.specs.declared.rule.TheConstants as rule
use Rattle.instruction_table.proofs.Listing.{last_arguments, no_arguments, one_argument}
use Rattle.instruction_table.proofs.table.arguments.Goals as goal

pub loop-i-init : goal.loop-i-init
loop-i-init c = c.new-needs.ensures ∙ sym (no_arguments c.args.image.now c.args.args.now)

pub loop-i-preserved : goal.loop-i-preserved
loop-i-preserved c =
    c.in_ok-push.ensures.ok
    ∙ ap (λ (z : List Need). z ++ c.value.result ∷ []) c.loop-i.invariant
    ∙ ap (λ (v : Need). last_arguments c.args.image.now c.loop-i.i c.args.args.now ++ v ∷ []) (c.value.ensures ∙ ap (value rule.REFERENCE) (c.desc_type.ensures ∙ ap (desc_type c.args.image.now) c.index-args-args.is))
    ∙ sym (one_argument c.args.image.now c.args.args.now c.loop-i.i c.index-args-args.result (omega (arith, c.loop-i-test.true)))
