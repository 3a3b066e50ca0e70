-- The rules on instructions alone, as one walk over a file's code goes; each rule itself is in Uses.
use Rattle.std.specs.Prelude.{List}
use Rattle.std.specs.List.{flat_map}
use Rattle.class_format.specs.declared.class.ClassFile.{ClassFile}
use Rattle.class_format.specs.declared.class.MethodItem.{MethodItem}
use Rattle.code_table.specs.declared.code.Placed.{Placed}
use Rattle.code_table.specs.declared.op.Op.{Op}
use Rattle.class_names.specs.Classes.{ops_of}
use Rattle.link_rules.specs.declared.error.LinkErr.{LinkErr}
use Rattle.link_uses.specs.declared.walk.Rule.{Rule}
use Rattle.link_uses.specs.declared.walk.Rule.TheVariants.{Members, Kinds}
use Rattle.link_uses.specs.Uses.{lacking, wrong_use}

-- what an instruction is refused for
abbrev pub broken : Rule → List ClassFile → ClassFile → Op → List LinkErr
broken Members all f op = lacking all f op
broken Kinds all f op = wrong_use all f op

-- an instruction at its address
abbrev pub broken_placed : Rule → List ClassFile → ClassFile → Placed → List LinkErr
broken_placed rule all f p = broken rule all f p.op

-- in a method's code
unfoldable pub broken_in : Rule → List ClassFile → ClassFile → MethodItem → List LinkErr
broken_in rule all f m = flat_map (broken_placed rule all f) (ops_of f.pool m)

-- in a file
unfoldable pub broken_file : Rule → List ClassFile → ClassFile → List LinkErr
broken_file rule all f = flat_map (broken_in rule all f) f.methods
