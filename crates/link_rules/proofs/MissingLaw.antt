-- The check goes over the classes that a file names.
use Rattle.std.proofs.Common.{◌≡◌, ℕ, ◌==◌, Bool, true, false, List, [], ◌∷◌, ◌++◌, Option, Some, None, ap, sym, ◌∙◌, refl, append_assoc}
use Rattle.std.specs.Prelude.{if◌then◌else◌}
use Rattle.std.specs.List.{flat_map}
use Rattle.std.specs.Option.{option_to_list}
use Rattle.std.proofs.lemmas.Grind.{flat_map-append}
use Rattle.std.proofs.lemmas.List.Folds.{flat_map-map}
use Rattle.jvm_base.specs.declared.code_item.TableItem.{TableItem}
use Rattle.jvm_base.specs.declared.desc.MethodDesc.{MethodDesc}
use Rattle.jvm_base.specs.Descriptors.{desc_of, method_of}
use Rattle.jvm_base.specs.Words.{from}
use Rattle.class_format.specs.declared.class.ClassFile.{ClassFile}
use Rattle.class_format.specs.declared.class.MethodItem.{MethodItem}
use Rattle.code_table.specs.declared.code.Placed.{Placed}
use Rattle.code_table.specs.declared.op.Op.{Op}
use Rattle.code_table.specs.declared.op.Op.TheVariants.{Static, Field, Invoke, New, AnewArray, Cast, MultiNewArray}
use Rattle.class_names.specs.Texts.{text_in, class_text, member_in}
use Rattle.class_names.specs.Classes.{ops_of, table_of, super_text, interface_texts}
use Rattle.class_names.specs.Named.{named_by, item_names, desc_names, method_desc_names, op_names, entry_names, field_names, method_names, class_names}
use Rattle.link_rules.specs.Classes.{missing, no_class}
use Rattle.link_rules.specs.Walks.Missing.{missing_text, missing_desc, missing_method_desc, missing_op, missing_placed, missing_entry, missing_field, missing_method, missing_interface, missing_members, missing_file}

-- a function over lists of lists, list by list
pub nested : {A B C : Type 0} (f : B → List C) (g : A → List B) (h : A → List C) (xs : List A) → ((x : A) → flat_map f (g x) ≡ h x) → flat_map f (flat_map g xs) ≡ flat_map h xs
nested f g h [] e = refl
nested f g h (x ∷ xs) e = flat_map-append f (g x) (flat_map g xs) ∙ ap (λ z. z ++ flat_map f (flat_map g xs)) (e x) ∙ ap (λ z. h x ++ z) (nested f g h xs e)

-- over two lists
pub parted : {B C : Type 0} (f : B → List C) (xs ys : List B) (a b : List C) → flat_map f xs ≡ a → flat_map f ys ≡ b → flat_map f (xs ++ ys) ≡ a ++ b
parted f xs ys a b p q = flat_map-append f xs ys ∙ ap (λ z. z ++ flat_map f ys) p ∙ ap (λ z. a ++ z) q

-- over what an option gives
given : {A B C : Type 0} (f : B → List C) (g : A → List B) (h : A → List C) (o : Option A) → ((x : A) → flat_map f (g x) ≡ h x) → flat_map f (from [] g o) ≡ from [] h o
given f g h None e = refl
given f g h (Some x) e = e x

of_method_desc : (names : List (List ℕ)) (f : ClassFile) (d : MethodDesc) → flat_map (missing names f) (method_desc_names d) ≡ missing_method_desc names f d
of_method_desc names f d =
    parted (missing names f) (flat_map desc_names d.args) (flat_map desc_names (option_to_list d.ret)) _ _
    (nested (missing names f) desc_names (missing_desc names f) d.args (λ x. refl))
    (nested (missing names f) desc_names (missing_desc names f) (option_to_list d.ret) (λ x. refl))

of_op : (names : List (List ℕ)) (f : ClassFile) (op : Op) → flat_map (missing names f) (op_names f.pool op) ≡ missing_op names f op
of_op names f (Static op item d) = flat_map-append (missing names f) (named_by (member_in f.pool item).class) (desc_names d)
of_op names f (Field op item d) = flat_map-append (missing names f) (named_by (member_in f.pool item).class) (desc_names d)
of_op names f (Invoke op item d) =
    parted (missing names f) (named_by (member_in f.pool item).class) (method_desc_names d) _ _ refl (of_method_desc names f d)
of_op names f (New item) = refl
of_op names f (AnewArray item) = refl
of_op names f (Cast op item) = refl
of_op names f (MultiNewArray item dims) = refl
of_op names f _ = refl

chosen : {B C : Type 0} (f : B → List C) (b : Bool) (xs : List B) → flat_map f (if b then [] else xs) ≡ (if b then [] else flat_map f xs)
chosen f true xs = refl
chosen f false xs = refl

of_entry : (names : List (List ℕ)) (f : ClassFile) (e : TableItem) → flat_map (missing names f) (entry_names f.pool e) ≡ missing_entry names f e
unfolding missing_entry
of_entry names f e = chosen (missing names f) (e.class == 0) (item_names f.pool e.class)

of_method : (names : List (List ℕ)) (f : ClassFile) (m : MethodItem) → flat_map (missing names f) (method_names f.pool m) ≡ missing_method names f m
of_method names f m =
    parted (missing names f) (from [] method_desc_names (method_of (text_in f.pool m.desc))) _ _ _
    (given (missing names f) method_desc_names (missing_method_desc names f) (method_of (text_in f.pool m.desc)) (of_method_desc names f))
    (parted (missing names f) (flat_map (λ p. op_names f.pool p.op) (ops_of f.pool m)) (flat_map (entry_names f.pool) (table_of m)) _ _
    (nested (missing names f) (λ (p : Placed). op_names f.pool p.op) (missing_placed names f) (ops_of f.pool m) (λ p. of_op names f p.op))
    (nested (missing names f) (entry_names f.pool) (missing_entry names f) (table_of m) (of_entry names f)))

of_interfaces : (names : List (List ℕ)) (f : ClassFile) → flat_map (missing names f) (flat_map named_by (interface_texts f)) ≡ flat_map (missing_interface names f) f.interfaces
unfolding missing_interface
of_interfaces names f =
    nested (missing names f) named_by (missing_text names f) (interface_texts f) (λ t. refl) ∙ flat_map-map (missing_text names f) (class_text f.pool) f.interfaces

-- the places of a file, in order
pub of_file : (names : List (List ℕ)) (f : ClassFile) → missing_file names f ≡ no_class names f
unfolding missing_file class_names
of_file names f =
    append_assoc (flat_map (missing_text names f) (option_to_list (super_text f))) (flat_map (missing_interface names f) f.interfaces) (missing_members names f)
    ∙ sym (parted (missing names f) (flat_map named_by (option_to_list (super_text f))) _ _ _
    (nested (missing names f) named_by (missing_text names f) (option_to_list (super_text f)) (λ t. refl))
    (parted (missing names f) (flat_map named_by (interface_texts f)) _ _ _
    (of_interfaces names f)
    (parted (missing names f) (flat_map (field_names f.pool) f.fields) (flat_map (method_names f.pool) f.methods) _ _
    (nested (missing names f) (field_names f.pool) (missing_field names f) f.fields (λ x. given (missing names f) desc_names (missing_desc names f) (desc_of (text_in f.pool x.desc)) (λ d. refl)))
    (nested (missing names f) (method_names f.pool) (missing_method names f) f.methods (of_method names f)))))
