use Rattle.std.proofs.Common.{ap}
use Rattle.thread_stacks.specs.Segments.{without_top}
use Rattle.thread_stacks.proofs.PlaceLaws.{changed_to}
use Rattle.thread_stacks.proofs.stacks.Stacks.pop.Goals as goal

pub returns-clause-rest : goal.returns-clause-rest
returns-clause-rest c =
    changed_to without_top c.args.thread c.index_mut.result.now c.in_ok-place.ensures c.as_slice.ensures.value (ap (λ s. s.items) c.self.view_is) c.index_mut.ensures.value c.pop.ensures.rest
