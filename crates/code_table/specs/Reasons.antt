-- The texts of refusals of code.
use Rattle.std.specs.Prelude.{ℕ, codes, decimal, List, ◌++◌}
use Rattle.code_table.specs.declared.error.CodeErr.{CodeErr}
use Rattle.code_table.specs.declared.error.CodeErr.TheVariants.{UnknownOp, LeftOutOp, CutOp, BadSwitch, BadIndex, TargetOff, BadTable, NoMemory}

-- why code isn't decoded
abbrev pub reason : CodeErr → List ℕ
reason (UnknownOp at) = codes "unknown-op " ++ decimal at
reason (LeftOutOp at) = codes "left-out-op " ++ decimal at
reason (CutOp at) = codes "cut-op " ++ decimal at
reason (BadSwitch at) = codes "bad-switch " ++ decimal at
reason (BadIndex at) = codes "bad-index " ++ decimal at
reason (TargetOff at) = codes "target-off " ++ decimal at
reason (BadTable place) = codes "bad-table " ++ decimal place
reason NoMemory = codes "want of memory"
