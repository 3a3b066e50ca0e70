use Rattle.std.proofs.Common.{◌∙◌}
use Rattle.cjvm_io.specs.Sinks.{shown}
use Rattle.one_jvm.specs.Words.{texts}
use Rattle.one_jvm.specs.Answers.{the_faults}
use Rattle.one_jvm.proofs.Statuses.{unrefused, usage, refused, no_file, too_long, bad_order, early, ended, read_fault, any_write_fault, hides, end_is, speaks_none, is_status, not_run, checked, check_quiet, unreported, quiet, done, run_status, replayed}
use Rattle.one_jvm.proofs.Judged.{subject, ran_answered, unwritten_answered}
use Rattle.one_jvm.proofs.top.cjvm.Goals as goal

pub returns-clause-unrefused : goal.returns-clause-unrefused
returns-clause-unrefused g c = unrefused (record { one = c.verdict_is_one.ensures.one; end = c.verdict_is_one.ensures.end }) (texts c.args.words.now) (g.S.Shelf.files c.args.shelf.now) (the_faults (g.S.Shelf.faults c.args.shelf.now) (g.S.Shelf.faults c.judge-verdict.new.shelf) (g.O.Sink.faults c.args.out.now) (g.O.Sink.faults c.judge-verdict.new.out)) c.judge-verdict.result.end c.judge-verdict.result.refusal c.close-refusal.result c.outcome_status.result c.outcome_status.ensures (end_is (texts c.args.words.now) (g.S.Shelf.files c.args.shelf.now) c.judge-verdict.result.stop c.judge-verdict.result.end c.judge-verdict.result.refusal c.judge-verdict.ensures.judged.agrees c.judge-verdict.ensures.judged.ends) c.judge-verdict.ensures.judged.cause (hides _ c.judge-verdict.result.refusal _ _ c.close-refusal.result c.close-refusal.ensures.closed)

pub returns-clause-usage : goal.returns-clause-usage
returns-clause-usage g c = usage (record { one = c.verdict_is_one.ensures.one; end = c.verdict_is_one.ensures.end }) (texts c.args.words.now) (g.S.Shelf.files c.args.shelf.now) (the_faults (g.S.Shelf.faults c.args.shelf.now) (g.S.Shelf.faults c.judge-verdict.new.shelf) (g.O.Sink.faults c.args.out.now) (g.O.Sink.faults c.judge-verdict.new.out)) c.judge-verdict.result.end c.judge-verdict.result.refusal c.close-refusal.result c.outcome_status.result c.outcome_status.ensures (end_is (texts c.args.words.now) (g.S.Shelf.files c.args.shelf.now) c.judge-verdict.result.stop c.judge-verdict.result.end c.judge-verdict.result.refusal c.judge-verdict.ensures.judged.agrees c.judge-verdict.ensures.judged.ends) c.judge-verdict.ensures.judged.cause (hides _ c.judge-verdict.result.refusal _ _ c.close-refusal.result c.close-refusal.ensures.closed)

pub returns-clause-refused : goal.returns-clause-refused
returns-clause-refused g c = refused (record { one = c.verdict_is_one.ensures.one; end = c.verdict_is_one.ensures.end }) (texts c.args.words.now) (g.S.Shelf.files c.args.shelf.now) (the_faults (g.S.Shelf.faults c.args.shelf.now) (g.S.Shelf.faults c.judge-verdict.new.shelf) (g.O.Sink.faults c.args.out.now) (g.O.Sink.faults c.judge-verdict.new.out)) c.judge-verdict.result.end c.judge-verdict.result.refusal c.close-refusal.result c.outcome_status.result c.outcome_status.ensures (end_is (texts c.args.words.now) (g.S.Shelf.files c.args.shelf.now) c.judge-verdict.result.stop c.judge-verdict.result.end c.judge-verdict.result.refusal c.judge-verdict.ensures.judged.agrees c.judge-verdict.ensures.judged.ends) c.judge-verdict.ensures.judged.cause (hides _ c.judge-verdict.result.refusal _ _ c.close-refusal.result c.close-refusal.ensures.closed)

pub returns-clause-no_file : goal.returns-clause-no_file
returns-clause-no_file g c = no_file (record { one = c.verdict_is_one.ensures.one; end = c.verdict_is_one.ensures.end }) (texts c.args.words.now) (g.S.Shelf.files c.args.shelf.now) (the_faults (g.S.Shelf.faults c.args.shelf.now) (g.S.Shelf.faults c.judge-verdict.new.shelf) (g.O.Sink.faults c.args.out.now) (g.O.Sink.faults c.judge-verdict.new.out)) c.judge-verdict.result.end c.judge-verdict.result.refusal c.close-refusal.result c.outcome_status.result c.outcome_status.ensures (end_is (texts c.args.words.now) (g.S.Shelf.files c.args.shelf.now) c.judge-verdict.result.stop c.judge-verdict.result.end c.judge-verdict.result.refusal c.judge-verdict.ensures.judged.agrees c.judge-verdict.ensures.judged.ends) c.judge-verdict.ensures.judged.cause (hides _ c.judge-verdict.result.refusal _ _ c.close-refusal.result c.close-refusal.ensures.closed)

pub returns-clause-too_long : goal.returns-clause-too_long
returns-clause-too_long g c = too_long (record { one = c.verdict_is_one.ensures.one; end = c.verdict_is_one.ensures.end }) (texts c.args.words.now) (g.S.Shelf.files c.args.shelf.now) (the_faults (g.S.Shelf.faults c.args.shelf.now) (g.S.Shelf.faults c.judge-verdict.new.shelf) (g.O.Sink.faults c.args.out.now) (g.O.Sink.faults c.judge-verdict.new.out)) c.judge-verdict.result.end c.judge-verdict.result.refusal c.close-refusal.result c.outcome_status.result c.outcome_status.ensures (end_is (texts c.args.words.now) (g.S.Shelf.files c.args.shelf.now) c.judge-verdict.result.stop c.judge-verdict.result.end c.judge-verdict.result.refusal c.judge-verdict.ensures.judged.agrees c.judge-verdict.ensures.judged.ends) c.judge-verdict.ensures.judged.cause (hides _ c.judge-verdict.result.refusal _ _ c.close-refusal.result c.close-refusal.ensures.closed)

pub returns-clause-bad_order : goal.returns-clause-bad_order
returns-clause-bad_order g c = bad_order (record { one = c.verdict_is_one.ensures.one; end = c.verdict_is_one.ensures.end }) (texts c.args.words.now) (g.S.Shelf.files c.args.shelf.now) (the_faults (g.S.Shelf.faults c.args.shelf.now) (g.S.Shelf.faults c.judge-verdict.new.shelf) (g.O.Sink.faults c.args.out.now) (g.O.Sink.faults c.judge-verdict.new.out)) c.judge-verdict.result.end c.judge-verdict.result.refusal c.close-refusal.result c.outcome_status.result c.outcome_status.ensures (end_is (texts c.args.words.now) (g.S.Shelf.files c.args.shelf.now) c.judge-verdict.result.stop c.judge-verdict.result.end c.judge-verdict.result.refusal c.judge-verdict.ensures.judged.agrees c.judge-verdict.ensures.judged.ends) c.judge-verdict.ensures.judged.cause (hides _ c.judge-verdict.result.refusal _ _ c.close-refusal.result c.close-refusal.ensures.closed)

pub returns-clause-early : goal.returns-clause-early
returns-clause-early g c = early (record { one = c.verdict_is_one.ensures.one; end = c.verdict_is_one.ensures.end }) (texts c.args.words.now) (g.S.Shelf.files c.args.shelf.now) (the_faults (g.S.Shelf.faults c.args.shelf.now) (g.S.Shelf.faults c.judge-verdict.new.shelf) (g.O.Sink.faults c.args.out.now) (g.O.Sink.faults c.judge-verdict.new.out)) c.judge-verdict.result.end c.judge-verdict.result.refusal c.close-refusal.result c.outcome_status.result c.outcome_status.ensures (end_is (texts c.args.words.now) (g.S.Shelf.files c.args.shelf.now) c.judge-verdict.result.stop c.judge-verdict.result.end c.judge-verdict.result.refusal c.judge-verdict.ensures.judged.agrees c.judge-verdict.ensures.judged.ends) c.judge-verdict.ensures.judged.cause (hides _ c.judge-verdict.result.refusal _ _ c.close-refusal.result c.close-refusal.ensures.closed)

pub returns-clause-ended : goal.returns-clause-ended
returns-clause-ended g c = ended (record { one = c.verdict_is_one.ensures.one; end = c.verdict_is_one.ensures.end }) (texts c.args.words.now) (g.S.Shelf.files c.args.shelf.now) (the_faults (g.S.Shelf.faults c.args.shelf.now) (g.S.Shelf.faults c.judge-verdict.new.shelf) (g.O.Sink.faults c.args.out.now) (g.O.Sink.faults c.judge-verdict.new.out)) c.judge-verdict.result.end c.judge-verdict.result.refusal c.close-refusal.result c.outcome_status.result c.outcome_status.ensures (end_is (texts c.args.words.now) (g.S.Shelf.files c.args.shelf.now) c.judge-verdict.result.stop c.judge-verdict.result.end c.judge-verdict.result.refusal c.judge-verdict.ensures.judged.agrees c.judge-verdict.ensures.judged.ends) c.judge-verdict.ensures.judged.cause (hides _ c.judge-verdict.result.refusal _ _ c.close-refusal.result c.close-refusal.ensures.closed)

pub returns-clause-read_fault : goal.returns-clause-read_fault
returns-clause-read_fault g c = read_fault (record { one = c.verdict_is_one.ensures.one; end = c.verdict_is_one.ensures.end }) (texts c.args.words.now) (g.S.Shelf.files c.args.shelf.now) (the_faults (g.S.Shelf.faults c.args.shelf.now) (g.S.Shelf.faults c.judge-verdict.new.shelf) (g.O.Sink.faults c.args.out.now) (g.O.Sink.faults c.judge-verdict.new.out)) c.judge-verdict.result.end c.judge-verdict.result.refusal c.close-refusal.result c.outcome_status.result c.outcome_status.ensures (end_is (texts c.args.words.now) (g.S.Shelf.files c.args.shelf.now) c.judge-verdict.result.stop c.judge-verdict.result.end c.judge-verdict.result.refusal c.judge-verdict.ensures.judged.agrees c.judge-verdict.ensures.judged.ends) c.judge-verdict.ensures.judged.cause (hides _ c.judge-verdict.result.refusal _ _ c.close-refusal.result c.close-refusal.ensures.closed)

pub returns-clause-status : goal.returns-clause-status
returns-clause-status g c = is_status (record { one = c.verdict_is_one.ensures.one; end = c.verdict_is_one.ensures.end }) (texts c.args.words.now) (g.S.Shelf.files c.args.shelf.now) (the_faults (g.S.Shelf.faults c.args.shelf.now) (g.S.Shelf.faults c.judge-verdict.new.shelf) (g.O.Sink.faults c.args.out.now) (g.O.Sink.faults c.judge-verdict.new.out)) (shown g.O.Sink.held g.O.Sink.faults c.args.out.now) (shown g.O.Sink.held g.O.Sink.faults c.judge-verdict.new.out) c.judge-verdict.result.order c.judge-verdict.result.stop c.judge-verdict.result.end c.judge-verdict.result.refusal c.close-refusal.result c.judge-verdict.result.text.items c.judge-verdict.result.listing c.judge-verdict.result.name.now c.subject_of-subject.result.now c.outcome_status.result c.judge-verdict.ensures.judged (speaks_none (texts c.args.words.now) c.judge-verdict.result.refusal c.judge-verdict.result.text.items c.subject_of-subject.result.now (rw c.as_slice.ensures.value at (c.subject_of-subject.ensures (texts c.args.words.now) c.judge-verdict.ensures.judged.named))) (λ p s l. (c.close-refusal.ensures.silent p s (c.as_slice-2.ensures ∙ l)).1) c.outcome_status.ensures (hides _ c.judge-verdict.result.refusal _ _ c.close-refusal.result c.close-refusal.ensures.closed)

pub returns-clause-not_run : goal.returns-clause-not_run
returns-clause-not_run g c = not_run (record { one = c.verdict_is_one.ensures.one; end = c.verdict_is_one.ensures.end }) (texts c.args.words.now) (g.S.Shelf.files c.args.shelf.now) (the_faults (g.S.Shelf.faults c.args.shelf.now) (g.S.Shelf.faults c.judge-verdict.new.shelf) (g.O.Sink.faults c.args.out.now) (g.O.Sink.faults c.judge-verdict.new.out)) (shown g.O.Sink.held g.O.Sink.faults c.args.out.now) (shown g.O.Sink.held g.O.Sink.faults c.judge-verdict.new.out) c.judge-verdict.result.order c.judge-verdict.result.stop c.judge-verdict.result.end c.judge-verdict.result.refusal c.close-refusal.result c.judge-verdict.result.text.items c.judge-verdict.result.listing c.judge-verdict.result.name.now c.subject_of-subject.result.now c.outcome_status.result c.judge-verdict.ensures.judged (speaks_none (texts c.args.words.now) c.judge-verdict.result.refusal c.judge-verdict.result.text.items c.subject_of-subject.result.now (rw c.as_slice.ensures.value at (c.subject_of-subject.ensures (texts c.args.words.now) c.judge-verdict.ensures.judged.named))) (λ p s l. (c.close-refusal.ensures.silent p s (c.as_slice-2.ensures ∙ l)).1) c.outcome_status.ensures (hides _ c.judge-verdict.result.refusal _ _ c.close-refusal.result c.close-refusal.ensures.closed)

pub returns-clause-quiet : goal.returns-clause-quiet
returns-clause-quiet g c = quiet (record { one = c.verdict_is_one.ensures.one; end = c.verdict_is_one.ensures.end }) (texts c.args.words.now) (g.S.Shelf.files c.args.shelf.now) (the_faults (g.S.Shelf.faults c.args.shelf.now) (g.S.Shelf.faults c.judge-verdict.new.shelf) (g.O.Sink.faults c.args.out.now) (g.O.Sink.faults c.judge-verdict.new.out)) (shown g.O.Sink.held g.O.Sink.faults c.args.out.now) (shown g.O.Sink.held g.O.Sink.faults c.judge-verdict.new.out) c.judge-verdict.result.order c.judge-verdict.result.stop c.judge-verdict.result.end c.judge-verdict.result.refusal c.close-refusal.result c.judge-verdict.result.text.items c.judge-verdict.result.listing c.judge-verdict.result.name.now c.subject_of-subject.result.now c.outcome_status.result c.judge-verdict.ensures.judged (speaks_none (texts c.args.words.now) c.judge-verdict.result.refusal c.judge-verdict.result.text.items c.subject_of-subject.result.now (rw c.as_slice.ensures.value at (c.subject_of-subject.ensures (texts c.args.words.now) c.judge-verdict.ensures.judged.named))) (λ p s l. (c.close-refusal.ensures.silent p s (c.as_slice-2.ensures ∙ l)).1) c.outcome_status.ensures (hides _ c.judge-verdict.result.refusal _ _ c.close-refusal.result c.close-refusal.ensures.closed)

pub returns-clause-done : goal.returns-clause-done
returns-clause-done g c = done (record { one = c.verdict_is_one.ensures.one; end = c.verdict_is_one.ensures.end }) (texts c.args.words.now) (g.S.Shelf.files c.args.shelf.now) (the_faults (g.S.Shelf.faults c.args.shelf.now) (g.S.Shelf.faults c.judge-verdict.new.shelf) (g.O.Sink.faults c.args.out.now) (g.O.Sink.faults c.judge-verdict.new.out)) (shown g.O.Sink.held g.O.Sink.faults c.args.out.now) (shown g.O.Sink.held g.O.Sink.faults c.judge-verdict.new.out) c.judge-verdict.result.order c.judge-verdict.result.stop c.judge-verdict.result.end c.judge-verdict.result.refusal c.close-refusal.result c.judge-verdict.result.text.items c.judge-verdict.result.listing c.judge-verdict.result.name.now c.subject_of-subject.result.now c.outcome_status.result c.judge-verdict.ensures.judged (speaks_none (texts c.args.words.now) c.judge-verdict.result.refusal c.judge-verdict.result.text.items c.subject_of-subject.result.now (rw c.as_slice.ensures.value at (c.subject_of-subject.ensures (texts c.args.words.now) c.judge-verdict.ensures.judged.named))) (λ p s l. (c.close-refusal.ensures.silent p s (c.as_slice-2.ensures ∙ l)).1) c.outcome_status.ensures (hides _ c.judge-verdict.result.refusal _ _ c.close-refusal.result c.close-refusal.ensures.closed)

pub returns-clause-checked : goal.returns-clause-checked
returns-clause-checked g c k =
    checked (texts c.args.words.now) (g.S.Shelf.files c.args.shelf.now) c.judge-verdict.result.stop c.close-refusal.result c.outcome_status.result k (returns-clause-status g c) (returns-clause-not_run g c) (returns-clause-ended g c)

pub returns-clause-run_status : goal.returns-clause-run_status
returns-clause-run_status g c = run_status (record { one = c.verdict_is_one.ensures.one; end = c.verdict_is_one.ensures.end }) (texts c.args.words.now) (g.S.Shelf.files c.args.shelf.now) (the_faults (g.S.Shelf.faults c.args.shelf.now) (g.S.Shelf.faults c.judge-verdict.new.shelf) (g.O.Sink.faults c.args.out.now) (g.O.Sink.faults c.judge-verdict.new.out)) (shown g.O.Sink.held g.O.Sink.faults c.args.out.now) (shown g.O.Sink.held g.O.Sink.faults c.judge-verdict.new.out) c.judge-verdict.result.order c.judge-verdict.result.stop c.judge-verdict.result.end c.judge-verdict.result.refusal c.close-refusal.result c.judge-verdict.result.text.items c.judge-verdict.result.listing c.judge-verdict.result.name.now c.subject_of-subject.result.now c.outcome_status.result c.judge-verdict.ensures.judged (speaks_none (texts c.args.words.now) c.judge-verdict.result.refusal c.judge-verdict.result.text.items c.subject_of-subject.result.now (rw c.as_slice.ensures.value at (c.subject_of-subject.ensures (texts c.args.words.now) c.judge-verdict.ensures.judged.named))) (λ p s l. (c.close-refusal.ensures.silent p s (c.as_slice-2.ensures ∙ l)).1) c.outcome_status.ensures (hides _ c.judge-verdict.result.refusal _ _ c.close-refusal.result c.close-refusal.ensures.closed)

pub returns-clause-replayed : goal.returns-clause-replayed
returns-clause-replayed g c = replayed (record { one = c.verdict_is_one.ensures.one; end = c.verdict_is_one.ensures.end }) (texts c.args.words.now) (g.S.Shelf.files c.args.shelf.now) (the_faults (g.S.Shelf.faults c.args.shelf.now) (g.S.Shelf.faults c.judge-verdict.new.shelf) (g.O.Sink.faults c.args.out.now) (g.O.Sink.faults c.judge-verdict.new.out)) (shown g.O.Sink.held g.O.Sink.faults c.args.out.now) (shown g.O.Sink.held g.O.Sink.faults c.judge-verdict.new.out) c.judge-verdict.result.order c.judge-verdict.result.stop c.judge-verdict.result.end c.judge-verdict.result.refusal c.close-refusal.result c.judge-verdict.result.text.items c.judge-verdict.result.listing c.judge-verdict.result.name.now c.subject_of-subject.result.now c.outcome_status.result c.judge-verdict.ensures.judged (speaks_none (texts c.args.words.now) c.judge-verdict.result.refusal c.judge-verdict.result.text.items c.subject_of-subject.result.now (rw c.as_slice.ensures.value at (c.subject_of-subject.ensures (texts c.args.words.now) c.judge-verdict.ensures.judged.named))) (λ p s l. (c.close-refusal.ensures.silent p s (c.as_slice-2.ensures ∙ l)).1) c.outcome_status.ensures (hides _ c.judge-verdict.result.refusal _ _ c.close-refusal.result c.close-refusal.ensures.closed)

pub returns-clause-write_fault : goal.returns-clause-write_fault
returns-clause-write_fault g c = any_write_fault (record { one = c.verdict_is_one.ensures.one; end = c.verdict_is_one.ensures.end }) (texts c.args.words.now) (g.S.Shelf.files c.args.shelf.now) (the_faults (g.S.Shelf.faults c.args.shelf.now) (g.S.Shelf.faults c.judge-verdict.new.shelf) (g.O.Sink.faults c.args.out.now) (g.O.Sink.faults c.judge-verdict.new.out)) _ c.judge-verdict.result.end c.judge-verdict.result.refusal c.close-refusal.result _ _ c.outcome_status.result c.outcome_status.ensures (end_is (texts c.args.words.now) (g.S.Shelf.files c.args.shelf.now) c.judge-verdict.result.stop c.judge-verdict.result.end c.judge-verdict.result.refusal c.judge-verdict.ensures.judged.agrees c.judge-verdict.ensures.judged.ends) c.judge-verdict.ensures.judged.cause c.close-refusal.ensures.closed

pub returns-clause-run : goal.returns-clause-run
returns-clause-run g c = ran_answered (texts c.args.words.now) (g.S.Shelf.files c.args.shelf.now) (shown g.O.Sink.held g.O.Sink.faults c.args.out.now) (shown g.O.Sink.held g.O.Sink.faults c.judge-verdict.new.out) c.judge-verdict.result.order c.judge-verdict.result.stop c.judge-verdict.result.refusal c.close-refusal.result (check_quiet (record { one = c.verdict_is_one.ensures.one; end = c.verdict_is_one.ensures.end }) (texts c.args.words.now) (g.S.Shelf.files c.args.shelf.now) (the_faults (g.S.Shelf.faults c.args.shelf.now) (g.S.Shelf.faults c.judge-verdict.new.shelf) (g.O.Sink.faults c.args.out.now) (g.O.Sink.faults c.judge-verdict.new.out)) (shown g.O.Sink.held g.O.Sink.faults c.args.out.now) (shown g.O.Sink.held g.O.Sink.faults c.judge-verdict.new.out) c.judge-verdict.result.order c.judge-verdict.result.stop c.judge-verdict.result.end c.judge-verdict.result.refusal c.close-refusal.result c.judge-verdict.result.text.items c.judge-verdict.result.listing c.judge-verdict.result.name.now c.subject_of-subject.result.now c.outcome_status.result c.judge-verdict.ensures.judged (speaks_none (texts c.args.words.now) c.judge-verdict.result.refusal c.judge-verdict.result.text.items c.subject_of-subject.result.now (rw c.as_slice.ensures.value at (c.subject_of-subject.ensures (texts c.args.words.now) c.judge-verdict.ensures.judged.named))) (λ p s l. (c.close-refusal.ensures.silent p s (c.as_slice-2.ensures ∙ l)).1) c.outcome_status.ensures (hides _ c.judge-verdict.result.refusal _ _ c.close-refusal.result c.close-refusal.ensures.closed)) (hides _ c.judge-verdict.result.refusal _ _ c.close-refusal.result c.close-refusal.ensures.closed) c.judge-verdict.ensures.judged.run

pub returns-clause-no_run : goal.returns-clause-no_run
returns-clause-no_run g c u = c.judge-verdict.ensures.no_run (unwritten_answered (texts c.args.words.now) c.judge-verdict.result.stop c.judge-verdict.result.refusal c.close-refusal.result (hides _ c.judge-verdict.result.refusal _ _ c.close-refusal.result c.close-refusal.ensures.closed) u)

pub returns-clause-no_report : goal.returns-clause-no_report
returns-clause-no_report g c z n =
    let q = unreported (record { one = c.verdict_is_one.ensures.one; end = c.verdict_is_one.ensures.end }) (texts c.args.words.now) (g.S.Shelf.files c.args.shelf.now) (the_faults (g.S.Shelf.faults c.args.shelf.now) (g.S.Shelf.faults c.judge-verdict.new.shelf) (g.O.Sink.faults c.args.out.now) (g.O.Sink.faults c.judge-verdict.new.out)) (shown g.O.Sink.held g.O.Sink.faults c.args.out.now) (shown g.O.Sink.held g.O.Sink.faults c.judge-verdict.new.out) c.judge-verdict.result.order c.judge-verdict.result.stop c.judge-verdict.result.end c.judge-verdict.result.refusal c.close-refusal.result c.judge-verdict.result.text.items c.judge-verdict.result.listing c.judge-verdict.result.name.now c.subject_of-subject.result.now c.outcome_status.result c.judge-verdict.ensures.judged (speaks_none (texts c.args.words.now) c.judge-verdict.result.refusal c.judge-verdict.result.text.items c.subject_of-subject.result.now (rw c.as_slice.ensures.value at (c.subject_of-subject.ensures (texts c.args.words.now) c.judge-verdict.ensures.judged.named))) (λ p s l. (c.close-refusal.ensures.silent p s (c.as_slice-2.ensures ∙ l)).1) c.outcome_status.ensures (hides _ c.judge-verdict.result.refusal _ _ c.close-refusal.result c.close-refusal.ensures.closed) z n in
    (c.close-refusal.ensures.silent q.0 q.1 (c.as_slice-2.ensures ∙ q.2)).0

pub returns-clause-report : goal.returns-clause-report
returns-clause-report g c = record {
  plain = c.judge-verdict.result.refusal;
  subject = c.subject_of-subject.result.now;
  shown = c.judge-verdict.result.listing;
  cause = c.judge-verdict.ensures.judged.cause;
  agrees = c.judge-verdict.ensures.judged.agrees;
  spoken = subject (g.S.Shelf.files c.args.shelf.now) (texts c.args.words.now) c.judge-verdict.result.order c.judge-verdict.result.stop c.judge-verdict.result.refusal c.judge-verdict.result.text.items c.subject_of-subject.result.now c.judge-verdict.ensures.judged.tells (rw c.as_slice.ensures.value at (c.subject_of-subject.ensures (texts c.args.words.now) c.judge-verdict.ensures.judged.named));
  showing = c.judge-verdict.ensures.judged.showing;
  closed = rw c.as_slice-2.ensures at c.close-refusal.ensures.closed;
}
