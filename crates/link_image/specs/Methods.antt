-- The methods of all classes, numbered through by class and by order of declaration.
use Rattle.std.specs.Prelude.{ℕ, ◌+◌, Bool, ◌&&◌, List, [], length, take, Option, None, option_map, position, codes, if◌then◌else◌}
use Rattle.std.specs.List.{count_by, sum_by}
use Rattle.jvm_base.specs.Words.{from}
use Rattle.jvm_base.specs.Descriptors.{method_of}
use Rattle.jvm_base.specs.declared.desc.MethodDesc.{MethodDesc}
use Rattle.class_format.specs.declared.class.ClassFile.{ClassFile}
use Rattle.class_format.specs.declared.class.MethodItem.{MethodItem}
use Rattle.class_format.specs.Flags.{is_native}
use Rattle.class_names.specs.Classes.{code_of}
use Rattle.class_names.specs.Known.{is_name}
use Rattle.class_names.specs.Texts.{clinit_name}
use Rattle.code_table.specs.declared.code.Code.{Code as Decoded}
use Rattle.link_rules.specs.Members.{method_name, method_desc}
use Rattle.link_rules.specs.Numbers.{map_from, numbered}
use Rattle.program_image.specs.declared.info.Body.{Body}
use Rattle.program_image.specs.declared.info.Body.TheVariants.{Code, Intrinsic, Abstract}
use Rattle.program_image.specs.declared.info.MethodInfo.{MethodInfo}

-- how many methods some classes have
abbrev pub count_methods : List ClassFile → ℕ
count_methods files = sum_by (λ f. length f.methods) files

-- the number of the first method of the class c
unfoldable pub first_method : List ClassFile → ℕ → ℕ
first_method all c = count_methods (take c all)

-- ---- bodies

-- how many of some methods are native
abbrev pub natives : List MethodItem → ℕ
natives methods = count_by (λ m. is_native m.flags) methods

-- how many methods of the classes before c are
unfoldable pub natives_before : List ClassFile → ℕ → ℕ
natives_before all c = sum_by (λ f. natives f.methods) (take c all)

-- what a method without code does, before which there are k native ones
abbrev pub bare_body : ℕ → MethodItem → Body
bare_body k m = if is_native m.flags then Intrinsic k else Abstract

-- what a method of this code does
abbrev pub body_of : ℕ → MethodItem → Option Decoded → Body
body_of k m code = from (bare_body k m) Code code

-- ---- the methods of a class

-- where a text is no descriptor, which doesn't happen in a class file
abbrev pub no_method_desc : MethodDesc
no_method_desc = record { args = []; ret = None }

-- a method of the class of a number, before which there are k native ones
abbrev pub method_info : ClassFile → ℕ → ℕ → MethodItem → MethodInfo
method_info f owner k m = record {
  owner = owner;
  name = method_name f m;
  desc = from no_method_desc (λ d. d) (method_of (method_desc f m));
  flags = m.flags;
  body = body_of k m (code_of f.pool m);
}

-- those of a class, before which there are k native ones in other classes
abbrev pub class_methods : ℕ → ℕ → ClassFile → List MethodInfo
class_methods k c f = map_from (λ i m. method_info f c (k + natives (take i f.methods)) m) 0 f.methods

-- those of all classes
unfoldable pub method_infos : List ClassFile → List MethodInfo
method_infos all = numbered (λ c f. class_methods (natives_before all c) c f) 0 all

-- ---- their numbers

-- the numbers of a class's methods, from its first one's on
abbrev pub method_numbers : ℕ → ClassFile → List ℕ
method_numbers first f = map_from (λ i m. first + i) 0 f.methods

-- a class initialiser takes and gives nothing
abbrev pub is_initialiser : ClassFile → MethodItem → Bool
is_initialiser f m = is_name clinit_name (method_name f m) && is_name (codes "()V") (method_desc f m)

-- the number of a class's initialiser
abbrev pub clinit_number : ℕ → ClassFile → Option ℕ
clinit_number first f = option_map (λ i. first + i) (position (is_initialiser f) f.methods)
