use Rattle.std.proofs.Common.{◌∙◌, sym, ap, ◌+◌, drop, arith}
use Rattle.flow_types.specs.Tree.{superclasses}
use Rattle.instruction_table.specs.LowestRule.{lower, lowest}
use Rattle.instruction_table.specs.Needs.{needs_rules}
use Rattle.instruction_table.specs.declared.row.Need.TheVariants as need
use Rattle.instruction_table.proofs.Takes.{take_more, take_none, drop_next, drop_past}
use Rattle.instruction_table.proofs.stack.Stack.take.Goals as goal

pub returns-in-None-clause-rules : goal.returns-in-None-clause-rules
returns-in-None-clause-rules c =
    c.lower.ensures
    ∙ take_none (superclasses c.args.image.now) c.args.owner c.args.needs.now c.loop-i.i need.Int c.loop-i.broken (omega (arith, c.loop-i-test.true))
    ∙ ap (λ s. lower c.loop-i.broken (lowest (needs_rules (superclasses c.args.image.now) c.args.owner (drop c.loop-i.i c.args.needs.now) s))) (sym (c.in-None.ensures.0))
    ∙ c.loop-i.invariant.rules

pub returns-in-None-clause-rest : goal.returns-in-None-clause-rest
returns-in-None-clause-rest c =
    c.in-None.ensures.1 ∙ sym (drop_past c.loop-i.i _ c.args.self.now (sym c.loop-i.invariant.rest ∙ c.in-None.ensures.0) (omega (arith, c.loop-i-test.true)))

pub loop-i-preserved : goal.loop-i-preserved
loop-i-preserved c =
    let s = c.in-Some.ensures in
    record {
      rules =
          ap (λ r. lower r (lowest (needs_rules (superclasses c.args.image.now) c.args.owner (drop (c.loop-i.i + 1) c.args.needs.now) c.pop.new.self))) (c.lower-broken.ensures ∙ ap (lower c.loop-i.broken) c.need_rule.ensures)
          ∙ take_more (superclasses c.args.image.now) c.args.owner c.args.needs.now c.loop-i.i need.Int c.loop-i.broken c.in-Some.t c.pop.new.self (omega (arith, c.loop-i-test.true))
          ∙ ap (λ z. lower c.loop-i.broken (lowest (needs_rules (superclasses c.args.image.now) c.args.owner (drop c.loop-i.i c.args.needs.now) z))) (sym s)
          ∙ c.loop-i.invariant.rules;
      rest = drop_next c.loop-i.i c.args.self.now c.pop.new.self c.in-Some.t (sym c.loop-i.invariant.rest ∙ s);
    }
