-- Rules on what instructions and exception tables use.
use Rattle.std.specs.Prelude.{ℕ, Bool, true, false, not, ◌&&◌, ◌||◌, ◌==◌, List, [], ◌++◌, if◌then◌else◌}
use Rattle.std.specs.List.{flat_map}
use Rattle.std.specs.Option.{is_none}
use Rattle.std.proofs.Math.Bool.{beq}
use Rattle.jvm_base.specs.declared.code_item.TableItem.{TableItem}
use Rattle.jvm_base.specs.Words.{from}
use Rattle.class_format.specs.declared.class.ClassFile.{ClassFile}
use Rattle.class_format.specs.declared.class.MethodItem.{MethodItem}
use Rattle.class_format.specs.Flags.{is_public, is_private, is_protected, is_static, is_final, is_abstract, is_interface}
use Rattle.code_table.specs.declared.code.Placed.{Placed}
use Rattle.code_table.specs.declared.op.Op.{Op}
use Rattle.code_table.specs.declared.opcode.TheConstants as opcode
use Rattle.code_table.specs.declared.op.Op.TheVariants.{Static, Field as FieldOp, Invoke, New, AnewArray, Cast, MultiNewArray}
use Rattle.hierarchy.specs.Walks.{has}
use Rattle.class_names.specs.Known.{is_name}
use Rattle.class_names.specs.Texts.{Member, is_array, class_text, member_in, init_name, clinit_name}
use Rattle.class_names.specs.Classes.{this_name, ops_of, table_of}
use Rattle.class_names.specs.Named.{named_by}
use Rattle.link_rules.specs.declared.error.LinkErr.{LinkErr}
use Rattle.link_rules.specs.declared.error.LinkWhy.TheVariants.{WrongKind, NoField, NoMethod, NoAccess}
use Rattle.link_rules.specs.Answers.{refused_if}
use Rattle.link_rules.specs.Classes.{names_interface}
use Rattle.link_rules.specs.Descriptors.{key_text}
use Rattle.link_uses.specs.Lookups.{found_field, found_method, field_flags, method_flags}
use Rattle.link_rules.specs.Numbers.{name_at, flags_of, supers_of}
use Rattle.link_rules.specs.Packages.{is_one_package}

-- ---- no-field, no-method: a member that an instruction uses isn't found

abbrev pub lacking : List ClassFile → ClassFile → Op → List LinkErr
lacking all f (Static op item desc) = refused_if (is_none (found_field all (member_in f.pool item))) NoField f (key_text (member_in f.pool item))
lacking all f (FieldOp op item desc) = refused_if (is_none (found_field all (member_in f.pool item))) NoField f (key_text (member_in f.pool item))
lacking all f (Invoke op item desc) = refused_if (is_none (found_method all (member_in f.pool item))) NoMethod f (key_text (member_in f.pool item))
lacking all f _ = []

-- an instruction at its address
abbrev pub lacking_placed : List ClassFile → ClassFile → Placed → List LinkErr
lacking_placed all f p = lacking all f p.op

-- in a method's code
unfoldable pub lacking_in : List ClassFile → ClassFile → MethodItem → List LinkErr
lacking_in all f m = flat_map (lacking_placed all f) (ops_of f.pool m)

-- in a file
unfoldable pub no_members : List ClassFile → ClassFile → List LinkErr
no_members all f = flat_map (lacking_in all f) f.methods

-- ---- wrong-kind: what is found is of another kind than the instruction asks

-- a field that is static, or isn't, as the instruction has it
abbrev pub is_wrong_field_use : List ClassFile → Bool → Member → Bool
is_wrong_field_use all static m = from false (λ x. not (beq (is_static (field_flags all x)) static)) (found_field all m)

-- the refusal of its use
unfoldable pub wrong_field_use : List ClassFile → ClassFile → Bool → Member → List LinkErr
wrong_field_use all f static m = refused_if (is_wrong_field_use all static m) WrongKind f (key_text m)

-- invokeinterface has an item of an interface's method, and the other calls one of a class's
unfoldable pub wrong_holder : List ClassFile → ℕ → Member → Bool
wrong_holder all op m = not (beq (names_interface all m.class) (op == opcode.INVOKEINTERFACE))

-- no code calls a class initialiser, and invokespecial alone calls a constructor (JVMS2 3.9)
unfoldable pub wrong_name : ℕ → List ℕ → Bool
wrong_name op name =
    is_name clinit_name name || is_name init_name name && not (op == opcode.INVOKESPECIAL)

-- invokestatic calls a static method, and the others one that isn't; invokespecial one with code
unfoldable pub wrong_method_flags : ℕ → ℕ → Bool
wrong_method_flags op flags =
    not (beq (is_static flags) (op == opcode.INVOKESTATIC))
    || op == opcode.INVOKESPECIAL && is_abstract flags

-- the method that is found has such flags
abbrev pub finds_wrong_method : List ClassFile → ℕ → Member → Bool
finds_wrong_method all op m = from false (λ x. wrong_method_flags op (method_flags all x)) (found_method all m)

-- a call is of another kind than what it names
abbrev pub is_wrong_call : List ClassFile → ℕ → Member → Bool
is_wrong_call all op m = wrong_holder all op m || (wrong_name op m.name || finds_wrong_method all op m)

-- the refusal of a call
unfoldable pub wrong_call : List ClassFile → ClassFile → ℕ → Member → List LinkErr
wrong_call all f op m = refused_if (is_wrong_call all op m) WrongKind f (key_text m)

-- no object is made of an array class by `new`, nor of an interface or an abstract class
unfoldable pub is_wrong_new : List ClassFile → List ℕ → Bool
is_wrong_new all text = is_array text || (is_interface (flags_of all text) || is_abstract (flags_of all text))

-- the refusal of such a `new`
unfoldable pub wrong_new : List ClassFile → ClassFile → List ℕ → List LinkErr
wrong_new all f text = refused_if (is_wrong_new all text) WrongKind f text

-- of an instruction
abbrev pub wrong_use : List ClassFile → ClassFile → Op → List LinkErr
wrong_use all f (Static op item desc) = wrong_field_use all f true (member_in f.pool item)
wrong_use all f (FieldOp op item desc) = wrong_field_use all f false (member_in f.pool item)
wrong_use all f (Invoke op item desc) = wrong_call all f op (member_in f.pool item)
wrong_use all f (New item) = wrong_new all f (class_text f.pool item)
wrong_use all f _ = []

-- of an instruction at its address
abbrev pub wrong_use_placed : List ClassFile → ClassFile → Placed → List LinkErr
wrong_use_placed all f p = wrong_use all f p.op

-- in a method's code
unfoldable pub wrong_uses_in : List ClassFile → ClassFile → MethodItem → List LinkErr
wrong_uses_in all f m = flat_map (wrong_use_placed all f) (ops_of f.pool m)

-- in a file
unfoldable pub wrong_uses : List ClassFile → ClassFile → List LinkErr
wrong_uses all f = flat_map (wrong_uses_in all f) f.methods

-- ---- no-access (JVMS2 5.4.4): the class f has the number c

-- a class that is neither public nor of the same package
unfoldable pub no_access_class : List ClassFile → ClassFile → List ℕ → List LinkErr
no_access_class all f name =
    refused_if (not (is_public (flags_of all name)) && not (is_one_package (this_name f) name)) NoAccess f name

-- the class of a class item, for an array that of its elements
unfoldable pub no_access_item : List ClassFile → ClassFile → List ℕ → List LinkErr
no_access_item all f text = flat_map (no_access_class all f) (named_by text)

-- a member of these flags that the class k declares isn't accessible from f: a private one is from
-- its class alone, a protected one from its package and from classes below, one without an access
-- word from its package
unfoldable pub is_hidden : List ClassFile → ℕ → ClassFile → ℕ → ℕ → Bool
is_hidden all c f flags k =
    if is_private flags then not (k == c)
    else (if is_public flags then false
    else (not (is_one_package (this_name f) (name_at all k))
    && not (is_protected flags && has (supers_of all c) k)))

-- putstatic and putfield of a final field belong into its own class
unfoldable pub is_foreign_write : ℕ → ℕ → ℕ → ℕ → Bool
is_foreign_write op c flags k =
    (op == opcode.PUTSTATIC || op == opcode.PUTFIELD) && (is_final flags && not (k == c))

-- the field that is named isn't accessible, or may not be written here
abbrev pub is_hidden_field : List ClassFile → ℕ → ClassFile → ℕ → Member → Bool
is_hidden_field all c f op m =
    from false
    (λ x. is_hidden all c f (field_flags all x) x.class
    || is_foreign_write op c (field_flags all x) x.class)
    (found_field all m)

-- its refusal
unfoldable pub no_access_field : List ClassFile → ℕ → ClassFile → ℕ → Member → List LinkErr
no_access_field all c f op m = refused_if (is_hidden_field all c f op m) NoAccess f (key_text m)

-- the method that is named isn't accessible
abbrev pub is_hidden_method : List ClassFile → ℕ → ClassFile → Member → Bool
is_hidden_method all c f m = from false (λ x. is_hidden all c f (method_flags all x) x.class) (found_method all m)

-- its refusal
unfoldable pub no_access_method : List ClassFile → ℕ → ClassFile → Member → List LinkErr
no_access_method all c f m = refused_if (is_hidden_method all c f m) NoAccess f (key_text m)

-- of an instruction: the class that it names, then the member
abbrev pub no_access_op : List ClassFile → ℕ → ClassFile → Op → List LinkErr
no_access_op all c f (Static op item desc) =
    no_access_item all f (member_in f.pool item).class ++ no_access_field all c f op (member_in f.pool item)
no_access_op all c f (FieldOp op item desc) =
    no_access_item all f (member_in f.pool item).class ++ no_access_field all c f op (member_in f.pool item)
no_access_op all c f (Invoke op item desc) =
    no_access_item all f (member_in f.pool item).class ++ no_access_method all c f (member_in f.pool item)
no_access_op all c f (New item) = no_access_item all f (class_text f.pool item)
no_access_op all c f (AnewArray item) = no_access_item all f (class_text f.pool item)
no_access_op all c f (Cast op item) = no_access_item all f (class_text f.pool item)
no_access_op all c f (MultiNewArray item dims) = no_access_item all f (class_text f.pool item)
no_access_op all c f _ = []

-- of an instruction at its address
abbrev pub no_access_placed : List ClassFile → ℕ → ClassFile → Placed → List LinkErr
no_access_placed all c f p = no_access_op all c f p.op

-- of an entry of an exception table; 0 stands for any class
unfoldable pub no_access_entry : List ClassFile → ClassFile → TableItem → List LinkErr
no_access_entry all f e = if e.class == 0 then [] else no_access_item all f (class_text f.pool e.class)

-- of a method: its code, then its exception table
unfoldable pub no_access_in : List ClassFile → ℕ → ClassFile → MethodItem → List LinkErr
no_access_in all c f m =
    flat_map (no_access_placed all c f) (ops_of f.pool m) ++ flat_map (no_access_entry all f) (table_of m)

-- of a file
unfoldable pub no_access : List ClassFile → ℕ → ClassFile → List LinkErr
no_access all c f = flat_map (no_access_in all c f) f.methods
