use Rattle.std.proofs.Common.{◌≡◌, ◌∙◌, sym, ap, refl, ◌≤◌, ◌+◌, true, false, add-one, arith}
use Rattle.flow_verifier.specs.Worklist.Ranges.{flags_to}
use Rattle.flow_verifier.proofs.RangeLaws.{flag_is, flag_counts, none_counts, few_flags, no_numbers, next_number, all_numbered}
use Rattle.flow_verifier.proofs.ranges.numbered.Goals as goal
use Rattle.flow_verifier.proofs.ranges.numbered.Goals.{then-flags-i, else-flags-i}

pub loop-i-init : goal.loop-i-init
loop-i-init c = record {
  first = no_numbers c.args.flags.now c.new-number.result c.new-number.ensures;
  last = refl;
}

pub overflow_add-last : goal.overflow_add-last
overflow_add-last c =
    let few : flags_to c.args.flags.now c.loop-i.i ≤ c.loop-i.i = few_flags c.args.flags.now c.loop-i.i in
    omega (arith, c.loop-i.invariant.last, c.requires.few, c.loop-i-test.true)

pub loop-i-preserved : goal.loop-i-preserved
loop-i-preserved c =
    let counted : c.if-flags-i.last ≡ flags_to c.args.flags.now (c.loop-i.i + 1) = elim c.if-flags-i.branch [
      | then-flags-i w ↦ w.last-is ∙ (ap (λ z. z + 1) c.loop-i.invariant.last ∙ (add-one (flags_to c.args.flags.now c.loop-i.i) ∙ sym (flag_counts c.args.flags.now c.loop-i.i (flag_is c.args.flags.now c.loop-i.i _ true c.loop-i-test.true w.if-flags-i.true)))) ∙ ap (flags_to c.args.flags.now) (sym (add-one c.loop-i.i))
      | else-flags-i w ↦ w.last-is ∙ (c.loop-i.invariant.last ∙ sym (none_counts c.args.flags.now c.loop-i.i (flag_is c.args.flags.now c.loop-i.i _ false c.loop-i-test.true w.if-flags-i.false))) ∙ ap (flags_to c.args.flags.now) (sym (add-one c.loop-i.i))
    ] in record {
      first = next_number c.args.flags.now c.loop-i.number c.push.new.self c.loop-i.i c.if-flags-i.last c.loop-i.invariant.first counted c.in_ok-push.ensures.ok;
      last = counted;
    }

pub returns : goal.returns
returns c =
    all_numbered c.args.flags.now (record { number = c.loop-i.number; count = c.loop-i.last + 1 }) c.loop-i.i c.loop-i.last (omega (arith, c.loop-i.auto.i-end, c.loop-i-test.false)) c.loop-i.invariant.first c.loop-i.invariant.last refl
