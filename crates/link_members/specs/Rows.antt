-- What lies directly above a class.
use Rattle.std.specs.Prelude.{ℕ, ◌<◌, List, ◌++◌}
use Rattle.std.specs.List.{Contains}
use Rattle.hierarchy.specs.Hierarchy.{row_of}
use Rattle.class_format.specs.declared.class.ClassFile.{ClassFile}
use Rattle.link_rules.specs.Numbers.{super_row, interface_row}
use Rattle.link_members.specs.declared.row_table.Step.{Step}
use Rattle.link_members.specs.declared.row_table.Step.TheVariants.{Super, Interfaces, Above, Fields}

-- the numbers directly above a class, in the order of the step
abbrev pub row_by : Step → List ClassFile → ClassFile → List ℕ
row_by Super all f = super_row all f
row_by Interfaces all f = interface_row all f
row_by Above all f = super_row all f ++ interface_row all f
row_by Fields all f = interface_row all f ++ super_row all f

-- among the first classes each has only lower numbers above it
abbrev pub IsFalling : List (List ℕ) → ℕ → Type 0
IsFalling rows first = (c k : ℕ) → c < first → Contains (row_of rows c) k → k < c
