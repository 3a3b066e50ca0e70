use Rattle.std.proofs.Common.{◌≡◌, ◌≤◌, take}
use Rattle.std.specs.List.{count_by}
use Rattle.thread_stacks.specs.Segments.{is_code}
use Rattle.thread_stacks.proofs.segment.code_count.Given as goal

abbrev pub invariant-loop-level : goal.invariant-loop-level
invariant-loop-level l =
    (l.count ≡ count_by is_code (take l.level-index l.levels)) × (l.count ≤ l.level-index)
