-- What operands must be, and the rules that a type breaks which is none.
use Rattle.std.specs.Prelude.{ℕ, ◌==◌, nat_lt, Bool, true, false, ◌&&◌, ◌||◌, if◌then◌else◌, List, [], ◌∷◌, ◌++◌, Option}
use Rattle.flow_types.specs.Types.{type_fits}
use Rattle.flow_types.specs.Primitives.{same_primitive}
use Rattle.flow_types.specs.declared.element.Element.{Element}
use Rattle.flow_types.specs.declared.element.Element.TheVariants.{Primitive, Object}
use Rattle.flow_types.specs.declared.element.Primitive.{Primitive as PrimitiveType}
use Rattle.flow_types.specs.declared.element.Primitive.TheVariants as primitive
use Rattle.flow_types.specs.declared.flow_type.FlowType.{FlowType}
use Rattle.flow_types.specs.declared.flow_type.FlowType.TheVariants.{Unusable, Int, Long, High, Null, Class, Array, Fresh, FreshThis}
use Rattle.instruction_table.specs.declared.row.Need.{Need}
use Rattle.instruction_table.specs.declared.row.Need.TheVariants as need
use Rattle.instruction_table.specs.declared.rule.TheConstants as rule

-- ---- kinds

-- an int
abbrev pub is_int : FlowType → Bool
is_int Int = true
is_int _ = false

-- a long
abbrev pub is_long : FlowType → Bool
is_long Long = true
is_long _ = false

-- the second half of a long
abbrev pub is_high : FlowType → Bool
is_high High = true
is_high _ = false

-- a reference, initialised or not
abbrev pub is_reference : FlowType → Bool
is_reference Unusable = false
is_reference Int = false
is_reference Long = false
is_reference High = false
is_reference _ = true

-- a reference to an object that no initialiser was called on
abbrev pub is_uninitialised : FlowType → Bool
is_uninitialised (Fresh at) = true
is_uninitialised FreshThis = true
is_uninitialised _ = false

-- ---- arrays

-- an element of the primitive type; boolean serves as byte
abbrev pub holds : PrimitiveType → Element → Bool
holds k (Object c) = false
holds k (Primitive j) =
    same_primitive k j
    || (same_primitive k primitive.Byte && same_primitive j primitive.Boolean)

-- null, or an array over the primitive type of one dimension
abbrev pub is_array_of : PrimitiveType → FlowType → Bool
is_array_of k Null = true
is_array_of k (Array d e) = d == 1 && holds k e
is_array_of k _ = false

-- the elements of an array of d dimensions are references
abbrev pub has_part : ℕ → Element → Bool
has_part d (Primitive k) = nat_lt 1 d
has_part d (Object c) = nat_lt 0 d

-- null, or an array of references
abbrev pub is_reference_array : FlowType → Bool
is_reference_array Null = true
is_reference_array (Array d e) = has_part d e
is_reference_array _ = false

-- null, or an array
abbrev pub is_array : FlowType → Bool
is_array Null = true
is_array (Array d e) = true
is_array _ = false

-- ---- rules

-- what a type breaks that must be an initialised reference: the rule, unless the test says that
-- the reference is fine
abbrev pub judged : FlowType → Bool → ℕ → List ℕ
judged t fine broken =
    if is_reference t
    then (if is_uninitialised t then rule.UNINITIALISED ∷ []
    else (if fine then [] else broken ∷ []))
    else rule.OPERAND ∷ []

-- what the object breaks of which a field of the class c is set, in a method of the owner: the
-- receiver of the owner's own constructor may be uninitialised still
abbrev pub own_rules : List (Option ℕ) → ℕ → ℕ → FlowType → List ℕ
own_rules supers owner c FreshThis = if c == owner then [] else rule.UNINITIALISED ∷ []
own_rules supers owner c t = judged t (type_fits supers t (Class c)) rule.REFERENCE

-- the rules that an operand breaks that must be so, in a method of the owner
abbrev pub need_rules : List (Option ℕ) → ℕ → Need → FlowType → List ℕ
need_rules supers owner need.Int t = if is_int t then [] else rule.OPERAND ∷ []
need_rules supers owner need.Long t = if is_long t then [] else rule.OPERAND ∷ []
need_rules supers owner (need.Fitting broken wanted) t = judged t (type_fits supers t wanted) broken
need_rules supers owner (need.Primitives k) t = judged t (is_array_of k t) rule.ARRAY
need_rules supers owner need.References t = judged t (is_reference_array t) rule.ARRAY
need_rules supers owner need.Array t = judged t (is_array t) rule.ARRAY
need_rules supers owner (need.Own c) t = own_rules supers owner c t

-- the rules that the newest operands break that must be so, in their order
abbrev pub needs_rules : List (Option ℕ) → ℕ → List Need → List FlowType → List ℕ
needs_rules supers owner [] ts = []
needs_rules supers owner (n ∷ ns) [] = rule.MISSING ∷ []
needs_rules supers owner (n ∷ ns) (t ∷ ts) =
    need_rules supers owner n t ++ needs_rules supers owner ns ts
