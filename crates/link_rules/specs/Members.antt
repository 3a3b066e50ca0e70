-- Rules on the members that a class declares.
use Rattle.std.specs.Prelude.{ℕ, Bool, not, ◌&&◌, ◌||◌, false, nat_lt, List, ◌++◌, slice_get, if◌then◌else◌}
use Rattle.std.specs.List.{flat_map, list_any}
use Rattle.std.proofs.Math.Bool.{beq}
use Rattle.jvm_base.specs.Words.{from}
use Rattle.class_format.specs.declared.class.ClassFile.{ClassFile}
use Rattle.class_format.specs.declared.class.FieldItem.{FieldItem}
use Rattle.class_format.specs.declared.class.MethodItem.{MethodItem}
use Rattle.class_format.specs.Flags.{is_public, is_private, is_protected, is_static, is_final, is_native, is_abstract, is_interface}
use Rattle.class_names.specs.Known.{is_name}
use Rattle.class_names.specs.Texts.{text_in, init_name, clinit_name}
use Rattle.class_names.specs.Classes.{this_name}
use Rattle.link_rules.specs.declared.error.LinkErr.{LinkErr}
use Rattle.link_rules.specs.declared.error.LinkWhy.TheVariants.{WrongKind, BadOverride}
use Rattle.link_rules.specs.Answers.{refused_if}
use Rattle.link_rules.specs.Numbers.{supers_of}
use Rattle.link_rules.specs.Packages.{is_one_package}

-- the name and the descriptor of a declared method
abbrev pub method_name : ClassFile → MethodItem → List ℕ
method_name f m = text_in f.pool m.name

abbrev pub method_desc : ClassFile → MethodItem → List ℕ
method_desc f m = text_in f.pool m.desc

-- ---- wrong-kind: native methods, and members that an interface can't have

unfoldable pub wrong_field : ClassFile → FieldItem → List LinkErr
wrong_field f x = refused_if (is_interface f.flags && not (is_static x.flags)) WrongKind f (text_in f.pool x.name ++ text_in f.pool x.desc)

-- an interface has code in its `<clinit>` alone
abbrev pub is_wrong_method : ClassFile → MethodItem → Bool
is_wrong_method f m =
    is_native m.flags || is_interface f.flags && (not (is_abstract m.flags) && not (is_name clinit_name (method_name f m)))

unfoldable pub wrong_method : ClassFile → MethodItem → List LinkErr
wrong_method f m = refused_if (is_wrong_method f m) WrongKind f (method_name f m ++ method_desc f m)

unfoldable pub wrong_members : ClassFile → List LinkErr
wrong_members f = flat_map (wrong_field f) f.fields ++ flat_map (wrong_method f) f.methods

-- ---- bad-override: a method that may not stand in place of a superclass's

-- private, package, protected, public
abbrev pub access : ℕ → ℕ
access flags = if is_public flags then 3 else (if is_protected flags then 2 else (if is_private flags then 0 else 1))

-- the method o of the superclass g is accessible from f (JVMS2 5.4.4)
abbrev pub is_inherited : ClassFile → ClassFile → MethodItem → Bool
is_inherited f g o = is_public o.flags || (is_protected o.flags || not (is_private o.flags) && is_one_package (this_name f) (this_name g))

-- both methods have one name and descriptor
abbrev pub is_same_method : ClassFile → MethodItem → ClassFile → MethodItem → Bool
is_same_method f m g o = is_name (method_name f m) (method_name g o) && is_name (method_desc f m) (method_desc g o)

-- m doesn't do what o did: o is final, or one of them is static, or m has less access
abbrev pub is_unlike : ℕ → ℕ → Bool
is_unlike m o = is_final o || (not (beq (is_static m) (is_static o)) || nat_lt (access m) (access o))

unfoldable pub overrides_badly : ClassFile → MethodItem → ClassFile → MethodItem → Bool
overrides_badly f m g o = is_same_method f m g o && (is_inherited f g o && is_unlike m.flags o.flags)

-- no superclass's method is in the way of an initialiser
abbrev pub is_initialiser : List ℕ → Bool
is_initialiser name = is_name init_name name || is_name clinit_name name

-- over the methods of the class of a number
unfoldable pub overrides_badly_at : List ClassFile → ClassFile → MethodItem → ℕ → Bool
overrides_badly_at all f m k = from false (λ g. list_any (overrides_badly f m g) g.methods) (slice_get all k)

-- a method of the class f, whose number is c, overrides badly
abbrev pub is_bad_override : List ClassFile → ℕ → ClassFile → MethodItem → Bool
is_bad_override all c f m =
    not (is_initialiser (method_name f m)) && list_any (overrides_badly_at all f m) (supers_of all c)

-- its refusal
unfoldable pub bad_override : List ClassFile → ℕ → ClassFile → MethodItem → List LinkErr
bad_override all c f m =
    refused_if (is_bad_override all c f m) BadOverride f (method_name f m ++ method_desc f m)

unfoldable pub bad_overrides : List ClassFile → ℕ → ClassFile → List LinkErr
bad_overrides all c f = flat_map (bad_override all c f) f.methods
