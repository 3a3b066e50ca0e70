-- The order of lists of types.
use Rattle.std.specs.Prelude.{◌≡◌, ℕ, Bool, true, false, ◌&&◌, if◌then◌else◌, List, [], ◌∷◌, Option, Some, None}
use Rattle.flow_types.specs.Types.{type_fits, joined, IsType}
use Rattle.flow_types.specs.declared.flow_type.FlowType.{FlowType}
use Rattle.flow_types.specs.declared.flow_type.FlowType.TheVariants.{Unusable, High}

-- two lists of one length, in which each type fits the one at its place
abbrev pub types_fit : List (Option ℕ) → List FlowType → List FlowType → Bool
types_fit supers [] [] = true
types_fit supers (a ∷ ys) (b ∷ zs) = type_fits supers a b && types_fit supers ys zs
types_fit supers [] (b ∷ zs) = false
types_fit supers (a ∷ ys) [] = false

-- the least types that both fit, place by place
abbrev pub types_joined : List (Option ℕ) → List FlowType → List FlowType → List FlowType
types_joined supers [] zs = []
types_joined supers (a ∷ ys) [] = []
types_joined supers (a ∷ ys) (b ∷ zs) = joined supers a b ∷ types_joined supers ys zs

-- a type that a stack place can have
abbrev pub is_operand : FlowType → Bool
is_operand Unusable = false
is_operand High = false
is_operand _ = true

-- a type in front of a list, where there is one
abbrev pub put_first : FlowType → Option (List FlowType) → Option (List FlowType)
put_first t None = None
put_first t (Some ts) = Some (t ∷ ts)

-- the least stack that both fit; None where depths or kinds are unlike
abbrev pub stacks_joined :
    List (Option ℕ) → List FlowType → List FlowType → Option (List FlowType)
stacks_joined supers [] [] = Some []
stacks_joined supers (a ∷ ys) (b ∷ zs) =
    if is_operand (joined supers a b)
    then put_first (joined supers a b) (stacks_joined supers ys zs)
    else None
stacks_joined supers [] (b ∷ zs) = None
stacks_joined supers (a ∷ ys) [] = None

-- two stacks of one depth, in which operands of each place have one above them
abbrev pub stacks_meet : List (Option ℕ) → List FlowType → List FlowType → Bool
stacks_meet supers [] [] = true
stacks_meet supers (a ∷ ys) (b ∷ zs) = is_operand (joined supers a b) && stacks_meet supers ys zs
stacks_meet supers [] (b ∷ zs) = false
stacks_meet supers (a ∷ ys) [] = false

-- each is a type over the classes
abbrev pub AreTypes : List (Option ℕ) → List FlowType → Type 0
AreTypes supers [] = Unit {0}
AreTypes supers (t ∷ ts) = IsType supers t × AreTypes supers ts

-- no stack place is Unusable or the second half of a long
abbrev pub AreOperands : List FlowType → Type 0
AreOperands [] = Unit {0}
AreOperands (t ∷ ts) = (is_operand t ≡ true) × AreOperands ts
