use Rattle.std.proofs.Common.{ap}
use Rattle.thread_stacks.specs.Segments.{counted}
use Rattle.thread_stacks.proofs.PlaceLaws.{changed_to}
use Rattle.thread_stacks.proofs.stacks.Stacks.counted.Goals as goal

pub returns-clause-items : goal.returns-clause-items
returns-clause-items c =
    changed_to counted c.args.thread c.index_mut.result.now c.in-Some.ensures c.as_slice.ensures.value (ap (λ s. s.items) c.self.view_is) c.index_mut.ensures.value c.tick.ensures
