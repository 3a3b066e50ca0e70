use Rattle.std.proofs.Common.{◌∙◌, sym, ap}
use Rattle.thread_stacks.specs.Segments.{with_level}
use Rattle.thread_stacks.proofs.PlaceLaws.{changed_to, judged_there}
use Rattle.thread_stacks.proofs.stacks.Stacks.push.Goals as goal

pub returns-clause-ok : goal.returns-clause-ok
returns-clause-ok c =
    changed_to (with_level c.args.level) c.args.thread c.index_mut.result.now c.in-Some.ensures c.as_slice.ensures.value (ap (λ s. s.items) c.self.view_is) c.index_mut.ensures.value c.in_ok-push.ensures.ok

pub returns-clause-shallow : goal.returns-clause-shallow
returns-clause-shallow c =
    judged_there c.args.thread c.args.level c.index.result.now c.in-Some.ensures c.as_slice.ensures.value (ap (λ s. s.items) c.self.view_is) c.index.ensures ∙ (sym c.is_too_deep.ensures ∙ c.if-is_too_deep.false)
