-- The order of types.
use Rattle.std.specs.Prelude.{ℕ, ◌^◌, ◌-◌, ◌<◌, ◌==◌, nat_lt, min, Bool, true, false, ◌&&◌, if◌then◌else◌, List, length, Option}
use Rattle.flow_types.specs.Tree.{is_below, first_common}
use Rattle.flow_types.specs.declared.element.Element.{Element}
use Rattle.flow_types.specs.declared.element.Element.TheVariants.{Primitive, Object}
use Rattle.flow_types.specs.declared.flow_type.FlowType.{FlowType}
use Rattle.flow_types.specs.declared.flow_type.FlowType.TheVariants.{Unusable, Int, Long, High, Null, Class, Array, Fresh, FreshThis}
use Rattle.flow_types.specs.Primitives.{same_primitive}

-- an array's element fits another: a primitive type itself alone, a class its superclasses too
abbrev pub elem_fits : List (Option ℕ) → Element → Element → Bool
elem_fits supers (Primitive a) (Primitive b) = same_primitive a b
elem_fits supers (Object a) (Object b) = is_below supers a b
elem_fits supers (Primitive a) (Object b) = false
elem_fits supers (Object a) (Primitive b) = false

-- the element is the class Object
abbrev pub is_object : Element → Bool
is_object (Primitive k) = false
is_object (Object c) = c == 0

-- an array of `dims` dimensions over `elem` fits one of `up` dimensions over `part`: elements of
-- one depth fit, or its parts are arrays that stand as Objects
abbrev pub array_fits : List (Option ℕ) → ℕ → Element → ℕ → Element → Bool
array_fits supers dims elem up part =
    if dims == up then elem_fits supers elem part else (is_object part && nat_lt up dims)

-- ---- what each type fits: itself, what lies above it, and Unusable

-- Unusable, Unusable alone
abbrev pub unusable_fits : FlowType → Bool
unusable_fits Unusable = true
unusable_fits _ = false

-- an int
abbrev pub int_fits : FlowType → Bool
int_fits Unusable = true
int_fits Int = true
int_fits _ = false

-- a long
abbrev pub long_fits : FlowType → Bool
long_fits Unusable = true
long_fits Long = true
long_fits _ = false

-- the second half of a long
abbrev pub high_fits : FlowType → Bool
high_fits Unusable = true
high_fits High = true
high_fits _ = false

-- null, each initialised reference
abbrev pub null_fits : FlowType → Bool
null_fits Unusable = true
null_fits Null = true
null_fits (Class c) = true
null_fits (Array dims elem) = true
null_fits _ = false

-- an object of a class, each superclass
abbrev pub class_fits : List (Option ℕ) → ℕ → FlowType → Bool
class_fits supers c Unusable = true
class_fits supers c (Class d) = is_below supers c d
class_fits supers c _ = false

-- an array, Object and the arrays that it fits
abbrev pub array_type_fits : List (Option ℕ) → ℕ → Element → FlowType → Bool
array_type_fits supers d e Unusable = true
array_type_fits supers d e (Class c) = c == 0
array_type_fits supers d e (Array up part) = array_fits supers d e up part
array_type_fits supers d e _ = false

-- an uninitialised object, what was made by the same instruction
abbrev pub fresh_fits : ℕ → FlowType → Bool
fresh_fits a Unusable = true
fresh_fits a (Fresh b) = a == b
fresh_fits a _ = false

-- a constructor's uninitialised receiver
abbrev pub fresh_this_fits : FlowType → Bool
fresh_this_fits Unusable = true
fresh_this_fits FreshThis = true
fresh_this_fits _ = false

-- a value of the first type may stand for one of the second
abbrev pub type_fits : List (Option ℕ) → FlowType → FlowType → Bool
type_fits supers Unusable high = unusable_fits high
type_fits supers Int high = int_fits high
type_fits supers Long high = long_fits high
type_fits supers High high = high_fits high
type_fits supers Null high = null_fits high
type_fits supers (Class c) high = class_fits supers c high
type_fits supers (Array dims elem) high = array_type_fits supers dims elem high
type_fits supers (Fresh a) high = fresh_fits a high
type_fits supers FreshThis high = fresh_this_fits high

-- ---- the least type above two

-- the levels of an array that hold references
abbrev pub levels_of : ℕ → Element → ℕ
levels_of dims (Primitive k) = dims - 1
levels_of dims (Object c) = dims

-- an array of n dimensions over Object, or Object itself
abbrev pub objects_of : ℕ → FlowType
objects_of n = if n == 0 then Class 0 else Array n (Object 0)

-- above an array of d dimensions over the class a and one of d' over another element
abbrev pub of_above : List (Option ℕ) → ℕ → ℕ → ℕ → Element → FlowType
of_above supers d a d' (Primitive k) = objects_of (min d (d' - 1))
of_above supers d a d' (Object b) =
    if d == d' then Array d (Object (first_common (length supers) supers a b))
    else objects_of (min d d')

-- above two arrays of which neither fits the other: part by part where both are of classes in as
-- many dimensions, else over Object as deep as both hold references
abbrev pub arrays_above : List (Option ℕ) → ℕ → Element → ℕ → Element → FlowType
arrays_above supers d (Primitive k) d' e' = objects_of (min (d - 1) (levels_of d' e'))
arrays_above supers d (Object a) d' e' = of_above supers d a d' e'

-- above a class and a type of which neither fits the other
abbrev pub class_joined : List (Option ℕ) → ℕ → FlowType → FlowType
class_joined supers a (Class b) = Class (first_common (length supers) supers a b)
class_joined supers a (Array d e) = Class 0
class_joined supers a _ = Unusable

-- above an array and a type of which neither fits the other
abbrev pub array_joined : List (Option ℕ) → ℕ → Element → FlowType → FlowType
array_joined supers d e (Array d' e') = arrays_above supers d e d' e'
array_joined supers d e (Class b) = Class 0
array_joined supers d e _ = Unusable

-- above two types of which neither fits the other; unlike kinds have Unusable alone above them
abbrev pub unlike_joined : List (Option ℕ) → FlowType → FlowType → FlowType
unlike_joined supers (Class a) b = class_joined supers a b
unlike_joined supers (Array d e) b = array_joined supers d e b
unlike_joined supers _ b = Unusable

-- the least type that both fit
abbrev pub joined : List (Option ℕ) → FlowType → FlowType → FlowType
joined supers a b =
    if type_fits supers a b then b
    else (if type_fits supers b a then a
    else unlike_joined supers a b)

-- its class is one of the classes
abbrev pub IsElem : List (Option ℕ) → Element → Type 0
IsElem supers (Primitive k) = Unit {0}
IsElem supers (Object c) = c < length supers

-- a type over the classes: it has one of them, and an array has 1 to 255 dimensions
abbrev pub IsType : List (Option ℕ) → FlowType → Type 0
IsType supers (Class c) = c < length supers
IsType supers (Array d e) = (0 < d) × (d < 2 ^ 8) × IsElem supers e
IsType supers _ = Unit {0}
