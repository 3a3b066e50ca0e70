-- Look-ups by a sign are those of the member that has it.
use Rattle.std.proofs.Common.{◌≡◌, ℕ, ◌<◌, Bool, true, false, List, [], ◌++◌, length, map, Option, Some, None, refl, sym, ap, ◌∙◌, arith}
use Rattle.std.specs.Prelude.{if◌then◌else◌}
use Rattle.std.proofs.lemmas.List.{length-map}
use Rattle.std.proofs.lemmas.List.Quantifiers.{position-Some}
use Rattle.jvm_base.specs.Words.{from}
use Rattle.hierarchy.specs.Hierarchy.{row_of}
use Rattle.hierarchy.specs.Joined.{AreJoined}
use Rattle.hierarchy.specs.Walks.{all_from, first_some, or_else, IsWalked}
use Rattle.class_format.specs.declared.class.ClassFile.{ClassFile}
use Rattle.class_format.specs.Flags.{is_interface}
use Rattle.class_names.specs.Classes.{this_name}
use Rattle.class_names.specs.Known.{is_name}
use Rattle.class_names.specs.Texts.{Member, is_array}
use Rattle.link_rules.specs.Numbers.{number_of, holder_of, flags_at, super_row, interface_row, super_rows, interface_rows, field_rows, lineage, interfaces_of}
use Rattle.link_uses.specs.declared.lookup.Found.{Found}
use Rattle.link_uses.specs.declared.owned.Owned.{Owned}
use Rattle.link_uses.specs.Lookups.{own_field, own_method, field_from, class_method, interface_method, method_from, found_field, found_method}
use Rattle.link_members.specs.Signs.{Sign}
use Rattle.link_uses.specs.Owned.{sign_of, found_at, signed_field, signed_class_method, signed_interface_method, signed_method, IsOwned}
use Rattle.link_uses.specs.Tables.{HasRanks}
use Rattle.link_uses.proofs.OwnedLaws.{kept_field, kept_method, no_field, no_method, first_none, none_twice}
use Rattle.link_uses.proofs.WalkedLaws.{first_same, first_walked, class_walked}

-- the class whose members a class item has is there
holder_within : (all : List ClassFile) (text : List ℕ) → 0 < length all → holder_of all text < length all
holder_within all text some = by (is_array text)
  where
    of : (o : Option ℕ) → number_of all text ≡ o → from 0 (λ k. k) o < length all
    of None e = some
    of (Some n) e = let h = (position-Some (is_name text) (map this_name all) n [] e).0 in let l = length-map all this_name in omega arith

    by : (b : Bool) → (if b then 0 else from 0 (λ k. k) (number_of all text)) < length all
    by true = some
    by false = of (number_of all text) refl

-- a field from a class on
field_of : (all : List ClassFile) (owned : Owned) (fields : List (List ℕ)) (m : Member) (sign : Option Sign) (c : ℕ) → IsOwned all owned → IsWalked (field_rows all) fields → sign ≡ sign_of owned.names m → c < length all → signed_field owned.fields.entries fields sign c ≡ field_from all m c
field_of all owned fields m None c o w e h = sym (first_none (own_field all m) (all_from (field_rows all) c) (no_field all owned m o (sym e)))
field_of all owned fields m (Some s) c o w e h =
    let inside : c < length (field_rows all) = let l = length-map all (λ g. interface_row all g ++ super_row all g) in omega arith in
    first_same (found_at owned.fields.entries s) (own_field all m) (row_of fields c) (kept_field all owned m s o (sym e)) ∙ first_walked (own_field all m) (field_rows all) fields c w inside

-- the field that is looked up by the number of its class and its sign
pub field_signed : (all : List ClassFile) (owned : Owned) (fields : List (List ℕ)) (m : Member) (sign : Option Sign) (c : ℕ) → IsOwned all owned → IsWalked (field_rows all) fields → 0 < length all → sign ≡ sign_of owned.names m → c ≡ holder_of all m.class → signed_field owned.fields.entries fields sign c ≡ found_field all m
field_signed all owned fields m sign c o w some es ec =
    ap (λ (k : ℕ). signed_field owned.fields.entries fields sign k) ec ∙ field_of all owned fields m sign (holder_of all m.class) o w es (holder_within all m.class some)

-- a method of a class
class_method_of : (all : List ClassFile) (owned : Owned) (supers interfaces met : List (List ℕ)) (m : Member) (sign : Option Sign) (c : ℕ) → IsOwned all owned → IsWalked (super_rows all) supers → IsWalked (interface_rows all) interfaces → AreJoined supers interfaces met → HasRanks (interface_rows all) → sign ≡ sign_of owned.names m → c < length all → signed_class_method owned.methods.entries supers met sign c ≡ class_method all m c
class_method_of all owned supers interfaces met m None c o w v j r e h =
    sym (none_twice (own_method all m) (lineage all c) (interfaces_of all c) (no_method all owned m o (sym e)))
class_method_of all owned supers interfaces met m (Some s) c o w v j r e h =
    let inside : c < length (super_rows all) = let l = length-map all (super_row all) in omega arith in
    class_walked (own_method all m) (found_at owned.methods.entries s) (super_rows all) (interface_rows all) supers interfaces met r.0 c (kept_method all owned m s o (sym e)) w v j r.1 inside

-- a method of an interface
interface_method_of : (all : List ClassFile) (owned : Owned) (interfaces : List (List ℕ)) (m : Member) (sign : Option Sign) (c : ℕ) → IsOwned all owned → IsWalked (interface_rows all) interfaces → sign ≡ sign_of owned.names m → c < length all → signed_interface_method owned.methods.entries interfaces sign c ≡ interface_method all m c
interface_method_of all owned interfaces m None c o v e h =
    let none : (k : ℕ) → own_method all m k ≡ None = no_method all owned m o (sym e) in
    sym (ap (λ z. or_else z (own_method all m 0)) (first_none (own_method all m) (all_from (interface_rows all) c) none) ∙ none 0)
interface_method_of all owned interfaces m (Some s) c o v e h =
    let f : ℕ → Option Found = own_method all m in
    let kept : ℕ → Option Found = found_at owned.methods.entries s in
    let same : (k : ℕ) → kept k ≡ f k = kept_method all owned m s o (sym e) in
    let inside : c < length (interface_rows all) = let l = length-map all (interface_row all) in omega arith in
    ap (λ z. or_else z (kept 0)) (first_same kept f (row_of interfaces c) same ∙ first_walked f (interface_rows all) interfaces c v inside)
    ∙ ap (or_else (first_some f (all_from (interface_rows all) c))) (same 0)

-- a method of either
method_of : (all : List ClassFile) (owned : Owned) (supers interfaces met : List (List ℕ)) (m : Member) (sign : Option Sign) (c : ℕ) → IsOwned all owned → IsWalked (super_rows all) supers → IsWalked (interface_rows all) interfaces → AreJoined supers interfaces met → HasRanks (interface_rows all) → sign ≡ sign_of owned.names m → c < length all → signed_method all owned.methods.entries supers interfaces met sign c ≡ method_from all m c
method_of all owned supers interfaces met m sign c o w v j r e h = by (is_interface (flags_at all c))
  where
    by : (b : Bool) → (if b then signed_interface_method owned.methods.entries interfaces sign c else signed_class_method owned.methods.entries supers met sign c) ≡ (if b then interface_method all m c else class_method all m c)
    by true = interface_method_of all owned interfaces m sign c o v e h
    by false = class_method_of all owned supers interfaces met m sign c o w v j r e h

-- the method that is looked up by the number of its class and its sign
pub method_signed : (all : List ClassFile) (owned : Owned) (supers interfaces met : List (List ℕ)) (m : Member) (sign : Option Sign) (c : ℕ) → IsOwned all owned → IsWalked (super_rows all) supers → IsWalked (interface_rows all) interfaces → AreJoined supers interfaces met → HasRanks (interface_rows all) → 0 < length all → sign ≡ sign_of owned.names m → c ≡ holder_of all m.class → signed_method all owned.methods.entries supers interfaces met sign c ≡ found_method all m
method_signed all owned supers interfaces met m sign c o w v j r some es ec =
    ap (λ (k : ℕ). signed_method all owned.methods.entries supers interfaces met sign k) ec ∙ method_of all owned supers interfaces met m sign (holder_of all m.class) o w v j r es (holder_within all m.class some)
