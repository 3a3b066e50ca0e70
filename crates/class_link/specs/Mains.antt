-- The method that a run starts with; no-main where no file declares it.
use Rattle.std.specs.Prelude.{ℕ, ◌+◌, Bool, ◌&&◌, List, [], ◌∷◌, codes, Option, None, option_map, position, if◌then◌else◌}
use Rattle.std.specs.List.{list_any}
use Rattle.class_format.specs.declared.class.ClassFile.{ClassFile}
use Rattle.class_format.specs.declared.class.MethodItem.{MethodItem}
use Rattle.class_format.specs.Flags.{is_public, is_static}
use Rattle.class_names.specs.Known.{is_name}
use Rattle.class_names.specs.Classes.{this_name}
use Rattle.link_rules.specs.declared.error.LinkErr.{LinkErr}
use Rattle.link_rules.specs.declared.error.LinkErr.TheVariants.{Bad}
use Rattle.link_rules.specs.declared.error.LinkWhy.TheVariants.{NoMain}
use Rattle.link_rules.specs.Members.{method_name, method_desc}
use Rattle.link_uses.specs.declared.lookup.Found.{Found}

-- the name of the method that a run starts with, and its descriptor
abbrev pub main_name : List ℕ
main_name = codes "main"

abbrev pub main_desc : List ℕ
main_desc = codes "([Ljava/lang/String;)V"

-- `public static void main(String[])`
abbrev pub is_main : ClassFile → MethodItem → Bool
is_main f m =
    is_public m.flags && (is_static m.flags && (is_name main_name (method_name f m) && is_name main_desc (method_desc f m)))

-- the file declares the class of that name, and such a method in it
abbrev pub declares_main : List ℕ → ClassFile → Bool
declares_main main f = is_name main (this_name f) && list_any (is_main f) f.methods

-- the refusal names the main class
abbrev pub no_main : List ClassFile → List ℕ → List LinkErr
no_main files main = if list_any (declares_main main) files then [] else Bad NoMain main main_name ∷ []

-- ---- where it is

-- the number of the first file's class, behind the boot classes
abbrev pub first_number : ℕ
first_number = 34

-- in the class of a number
abbrev pub main_in : ℕ → ClassFile → Option Found
main_in number f = option_map (λ i. record { class = number; place = i }) (position (is_main f) f.methods)

-- in the first file that declares it, where the files' classes have the numbers from `first` on
abbrev pub main_from : ℕ → List ℕ → List ClassFile → Option Found
main_from first main [] = None
main_from first main (f ∷ files) = if declares_main main f then main_in first f else main_from (first + 1) main files

-- behind the boot classes
abbrev pub main_found : List ClassFile → List ℕ → Option Found
main_found files main = main_from first_number main files
