use Rattle.std.proofs.Common.{None, Some, ◌∙◌, ap, arith}
use Rattle.std.proofs.lemmas.Bool.Decides.{Decides-eqb}
use Rattle.std.proofs.lemmas.Slice.Eq.{strip_prefix_is}
use Rattle.order_text.specs.Spelling.{head_line, end_line}
use Rattle.order_text.proofs.FaultLaws.{head_is_missing, line_is_bad, more_follows}
use Rattle.order_text.proofs.Fronts.{none_in_front}
use Rattle.order_text.proofs.LineLaws.{front_text}
use Rattle.order_text.proofs.Reading.{reads_all}
use Rattle.order_text.proofs.read.read.Goals as goal

pub returns-in_default-clause-fault : goal.returns-in_default-clause-fault
returns-in_default-clause-fault c = head_is_missing c.args.bytes.now (strip_prefix_is Decides-eqb c.args.bytes.now head_line None c.in_default.ensures.cases)

pub returns-in-None-clause-fault : goal.returns-in-None-clause-fault
returns-in-None-clause-fault c =
    let inv = c.loop-choice.invariant in
    line_is_bad c.args.bytes.now c.loop-choice.order c.loop-choice.rest.now c.loop-choice.line inv.number inv.choices inv.spelled
    (none_in_front c.loop-choice.rest.now c.in_default-choice.ensures)
    (strip_prefix_is Decides-eqb c.loop-choice.rest.now end_line None c.in-None.ensures.cases)

pub returns-in-Some-empty-clause-found : goal.returns-in-Some-empty-clause-found
returns-in-Some-empty-clause-found c =
    let e = strip_prefix_is Decides-eqb c.loop-choice.rest.now end_line (Some c.in-Some-empty.field-0) c.in-Some-empty.ensures.cases in
    reads_all c.args.bytes.now c.loop-choice.order c.loop-choice.rest.now c.loop-choice.line c.in-Some-empty.field-0.now e (omega (arith, c.in-Some-empty.len_below)) c.loop-choice.invariant

pub returns-in-Some-strip_prefix-clause-fault : goal.returns-in-Some-strip_prefix-clause-fault
returns-in-Some-strip_prefix-clause-fault c =
    let inv = c.loop-choice.invariant in
    let tail = c.in-Some-strip_prefix.field-0.now in
    let e = strip_prefix_is Decides-eqb c.loop-choice.rest.now end_line (Some c.in-Some-strip_prefix.field-0) c.in-Some-strip_prefix.ensures.cases in
    more_follows c.args.bytes.now c.loop-choice.order tail _ (omega (arith, inv.number)) inv.choices (inv.spelled ∙ ap (front_text c.loop-choice.order) e) (omega (arith, c.in-Some-strip_prefix.len_at_least))
