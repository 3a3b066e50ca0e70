-- Looking fields and methods up by class, name and descriptor (JVMS2 5.4.3).
use Rattle.std.specs.Prelude.{ℕ, Bool, ◌&&◌, List, Option, None, option_map, position, slice_get, if◌then◌else◌}
use Rattle.jvm_base.specs.Words.{from}
use Rattle.class_format.specs.declared.class.ClassFile.{ClassFile}
use Rattle.class_format.specs.declared.class.FieldItem.{FieldItem}
use Rattle.class_format.specs.declared.class.MethodItem.{MethodItem}
use Rattle.class_format.specs.Flags.{is_interface}
use Rattle.hierarchy.specs.Walks.{all_from, first_some, or_else}
use Rattle.class_names.specs.Known.{is_name}
use Rattle.link_uses.specs.declared.lookup.Found.{Found}
use Rattle.class_names.specs.Texts.{Member, text_in}
use Rattle.link_rules.specs.Numbers.{holder_of, flags_at, fields_at, methods_at, field_rows, interface_rows, lineage, interfaces_of}

-- the declared field has the member's name and descriptor
unfoldable pub is_field_of : ClassFile → Member → FieldItem → Bool
is_field_of g m x = is_name m.name (text_in g.pool x.name) && is_name m.desc (text_in g.pool x.desc)

-- likewise a method
unfoldable pub is_method_of : ClassFile → Member → MethodItem → Bool
is_method_of g m x = is_name m.name (text_in g.pool x.name) && is_name m.desc (text_in g.pool x.desc)

-- the field that the class of a number declares itself
unfoldable pub own_field : List ClassFile → Member → ℕ → Option Found
own_field all m k = from None (λ g. option_map (λ i. record { class = k; place = i }) (position (is_field_of g m) g.fields)) (slice_get all k)

-- the method that it declares
unfoldable pub own_method : List ClassFile → Member → ℕ → Option Found
own_method all m k = from None (λ g. option_map (λ i. record { class = k; place = i }) (position (is_method_of g m) g.methods)) (slice_get all k)

-- a field: in the class, then in its superinterfaces, then in its superclass, and so on
abbrev pub field_from : List ClassFile → Member → ℕ → Option Found
field_from all m c = first_some (own_field all m) (all_from (field_rows all) c)

-- a method of a class: in it and its superclasses, then in all superinterfaces
abbrev pub class_method : List ClassFile → Member → ℕ → Option Found
class_method all m c =
    or_else
    (first_some (own_method all m) (lineage all c))
    (first_some (own_method all m) (interfaces_of all c))

-- a method of an interface: in it and its superinterfaces, then in Object, whose number is 0
abbrev pub interface_method : List ClassFile → Member → ℕ → Option Found
interface_method all m c =
    or_else (first_some (own_method all m) (all_from (interface_rows all) c)) (own_method all m 0)

-- a method of a class or an interface
abbrev pub method_from : List ClassFile → Member → ℕ → Option Found
method_from all m c =
    if is_interface (flags_at all c) then interface_method all m c else class_method all m c

-- the field that a member item names
abbrev pub found_field : List ClassFile → Member → Option Found
found_field all m = field_from all m (holder_of all m.class)

-- the method that it names
abbrev pub found_method : List ClassFile → Member → Option Found
found_method all m = method_from all m (holder_of all m.class)

-- the flags of a found field
abbrev pub field_flags : List ClassFile → Found → ℕ
field_flags all x = from 0 (λ f. f.flags) (slice_get (fields_at all x.class) x.place)

-- of a found method
abbrev pub method_flags : List ClassFile → Found → ℕ
method_flags all x = from 0 (λ m. m.flags) (slice_get (methods_at all x.class) x.place)
