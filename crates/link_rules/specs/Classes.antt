-- Rules on classes as wholes: their names, their superclasses and interfaces.
use Rattle.std.specs.Prelude.{ℕ, Bool, not, ◌&&◌, ◌||◌, List, [], ◌∷◌, ◌++◌, Option, Some, None}
use Rattle.std.specs.List.{flat_map}
use Rattle.std.specs.Option.{option_to_list}
use Rattle.class_format.specs.declared.class.ClassFile.{ClassFile}
use Rattle.class_format.specs.Flags.{is_interface, is_final}
use Rattle.hierarchy.specs.Loops.{on_loop}
use Rattle.class_names.specs.Known.{is_name, is_known}
use Rattle.class_names.specs.Texts.{is_array, object_name}
use Rattle.class_names.specs.Classes.{this_name, super_text, interface_texts}
use Rattle.class_names.specs.Named.{class_names}
use Rattle.link_rules.specs.declared.error.LinkErr.{LinkErr}
use Rattle.link_rules.specs.declared.error.LinkWhy.TheVariants.{SameClass, NoClass, WrongKind, FinalSuper, SuperLoop}
use Rattle.link_rules.specs.Answers.{refusal, refused_if}
use Rattle.link_rules.specs.Numbers.{flags_of}

-- ---- same-class: the name is one of those before it, at first the boot classes'

abbrev pub same_class : List (List ℕ) → List ClassFile → List LinkErr
same_class before [] = []
same_class before (f ∷ files) = refused_if (is_known before (this_name f)) SameClass f (this_name f) ++ same_class (before ++ this_name f ∷ []) files

-- ---- no-class: a class that the file names isn't there

abbrev pub missing : List (List ℕ) → ClassFile → List ℕ → List LinkErr
missing names f name = refused_if (not (is_known names name)) NoClass f name

abbrev pub no_class : List (List ℕ) → ClassFile → List LinkErr
no_class names f = flat_map (missing names f) (class_names f)

-- ---- wrong-kind: of the superclass and of the listed interfaces

-- a class named so is an interface
abbrev pub names_interface : List ClassFile → List ℕ → Bool
names_interface all text = not (is_array text) && is_interface (flags_of all text)

-- a class lies below a class, and an interface below Object
abbrev pub is_wrong_super : List ClassFile → ClassFile → List ℕ → Bool
is_wrong_super all f text =
    is_array text || (is_interface (flags_of all text) || is_interface f.flags && not (is_name object_name text))

-- a file without a superclass would declare Object
abbrev pub wrong_super : List ClassFile → ClassFile → Option (List ℕ) → List LinkErr
wrong_super all f None = refusal WrongKind f [] ∷ []
wrong_super all f (Some text) = refused_if (is_wrong_super all f text) WrongKind f text

abbrev pub wrong_interface : List ClassFile → ClassFile → List ℕ → List LinkErr
wrong_interface all f text = refused_if (not (names_interface all text)) WrongKind f text

abbrev pub wrong_above : List ClassFile → ClassFile → List LinkErr
wrong_above all f = wrong_super all f (super_text f) ++ flat_map (wrong_interface all f) (interface_texts f)

-- ---- final-super

abbrev pub final_super_named : List ClassFile → ClassFile → List ℕ → List LinkErr
final_super_named all f text = refused_if (is_final (flags_of all text)) FinalSuper f text

abbrev pub final_super : List ClassFile → ClassFile → List LinkErr
final_super all f = flat_map (final_super_named all f) (option_to_list (super_text f))

-- ---- super-loop: the class lies above itself, over superclasses and interfaces

-- the class has the number k
abbrev pub super_loop : List (List ℕ) → ℕ → ClassFile → List LinkErr
super_loop rows k f = refused_if (on_loop rows k) SuperLoop f (this_name f)
