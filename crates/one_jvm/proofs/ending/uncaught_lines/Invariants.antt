use Rattle.std.proofs.Common.{◌≡◌, take}
use Rattle.std.specs.List.{flat_map}
use Rattle.one_jvm.specs.Outcomes.{uncaught_text}
use Rattle.one_jvm.proofs.ending.uncaught_lines.Given as goal

-- the lines of the exceptions before this one
abbrev pub invariant-loop-one : goal.invariant-loop-one
invariant-loop-one l = l.bytes.items ≡ flat_map (uncaught_text l.image) (take l.one-index l.uncaught)
