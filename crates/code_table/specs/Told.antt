-- What a refusal of code tells.
use Rattle.std.specs.Prelude.{Option, Some, None}
use Rattle.code_table.specs.declared.error.CodeErr.{CodeErr}
use Rattle.code_table.specs.declared.error.CodeErr.TheVariants.{NoMemory}

-- want of memory tells nothing of the code
abbrev pub told : CodeErr → Option CodeErr
told NoMemory = None
told e = Some e
