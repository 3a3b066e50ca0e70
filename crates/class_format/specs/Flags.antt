-- Access flags (JVMS2 tables 4.1, 4.4 and 4.5), and which of them contradict each other. Bits that
-- aren't named here may have any value.
use Rattle.std.specs.Prelude.{ℕ, Bool, not, ◌&&◌, ◌||◌, ◌==◌, bit_and}

-- one bit of the flags
abbrev pub has_flag : ℕ → ℕ → Bool
has_flag flags bit = not (bit_and flags bit == 0)

-- ACC_PUBLIC, of a class, field or method
abbrev pub is_public : ℕ → Bool
is_public flags = has_flag flags 1

-- ACC_PRIVATE, of a field or method
abbrev pub is_private : ℕ → Bool
is_private flags = has_flag flags 2

-- ACC_PROTECTED, of a field or method
abbrev pub is_protected : ℕ → Bool
is_protected flags = has_flag flags 4

-- ACC_STATIC, of a field or method
abbrev pub is_static : ℕ → Bool
is_static flags = has_flag flags 8

-- ACC_FINAL, of a class, field or method
abbrev pub is_final : ℕ → Bool
is_final flags = has_flag flags 16

-- ACC_SYNCHRONIZED, of a method; of a class the same bit is ACC_SUPER
abbrev pub is_synchronized : ℕ → Bool
is_synchronized flags = has_flag flags 32

-- ACC_VOLATILE, of a field
abbrev pub is_volatile : ℕ → Bool
is_volatile flags = has_flag flags 64

-- ACC_NATIVE, of a method
abbrev pub is_native : ℕ → Bool
is_native flags = has_flag flags 256

-- ACC_INTERFACE, of a class
abbrev pub is_interface : ℕ → Bool
is_interface flags = has_flag flags 512

-- ACC_ABSTRACT, of a class or method
abbrev pub is_abstract : ℕ → Bool
is_abstract flags = has_flag flags 1024

-- more than one of public, private and protected
abbrev pub has_two_accesses : ℕ → Bool
has_two_accesses flags =
    is_public flags && is_private flags || is_public flags && is_protected flags
    || is_private flags && is_protected flags

-- an interface counts as abstract
abbrev pub class_flags_clash : ℕ → Bool
class_flags_clash flags =
    is_final flags && (is_abstract flags || is_interface flags) || has_two_accesses flags

-- a final field isn't volatile
abbrev pub field_flags_clash : ℕ → Bool
field_flags_clash flags = is_final flags && is_volatile flags || has_two_accesses flags

-- what an abstract method isn't. without_receiver: by its flags or by its name
abbrev pub is_bound : Bool → ℕ → Bool
is_bound without_receiver flags =
    is_private flags || without_receiver || is_final flags || is_synchronized flags
    || is_native flags

-- an abstract method is there to be overridden
abbrev pub method_flags_clash : Bool → ℕ → Bool
method_flags_clash without_receiver flags =
    is_abstract flags && is_bound without_receiver flags || has_two_accesses flags
