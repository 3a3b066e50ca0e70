use Rattle.std.proofs.Common.{◌≡◌}
use Rattle.std.specs.List.{list_all}
use Rattle.std.specs.Prelude.{drop, map}
use Rattle.machine_state.specs.State.{is_ended}
use Rattle.shared_state.specs.Parts.{thread_state}
use Rattle.one_machine.proofs.machine.all_ended.Given as goal

-- all have ended where those to come have
abbrev pub invariant-loop-thread : goal.invariant-loop-thread
invariant-loop-thread l =
    list_all (λ th. is_ended th.mode) (map thread_state (drop l.thread-index l.threads)) ≡ list_all (λ th. is_ended th.mode) (map thread_state l.threads)
