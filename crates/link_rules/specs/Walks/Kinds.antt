-- wrong-kind of superclasses and interfaces, place by place as the check goes.
use Rattle.std.specs.Prelude.{ℕ, List}
use Rattle.class_format.specs.declared.class.ClassFile.{ClassFile}
use Rattle.class_names.specs.Texts.{class_text}
use Rattle.link_rules.specs.declared.error.LinkErr.{LinkErr}
use Rattle.link_rules.specs.Classes.{wrong_interface}

unfoldable pub wrong_interface_item : List ClassFile → ClassFile → ℕ → List LinkErr
wrong_interface_item all f i = wrong_interface all f (class_text f.pool i)
