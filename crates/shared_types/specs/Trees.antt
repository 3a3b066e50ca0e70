-- What a tree of types stands for.
use Rattle.std.specs.Prelude.{◌≡◌, ◌⊎◌, ◌≤◌, ℕ, ◌+◌, Bool, true, ◌&&◌, ◌==◌, List, [], ◌∷◌, ◌++◌, length, Option, Some, None}
use Rattle.std.proofs.Math.ListN.{replicate}
use Rattle.flow_types.specs.TypeLists.{types_joined, is_operand}
use Rattle.flow_types.specs.declared.flow_type.FlowType.{FlowType}
use Rattle.flow_types.specs.declared.flow_type.FlowType.TheVariants as flow
use Rattle.shared_types.specs.Blocks.{is_unusable}
use Rattle.shared_types.specs.declared.tree.Tree.{Tree}
use Rattle.shared_types.specs.declared.tree.Tree.TheVariants.{Unusable, Few, Pair'}
use Rattle.shared_types.specs.declared.tree.Joined.{Joined}
use Rattle.shared_types.specs.declared.tree.Joined.TheVariants.{Same, New, Unlike}

-- the types in order
abbrev pub types : Tree → List FlowType
types (Unusable count) = replicate count flow.Unusable
types (Few ts) = ts
types (Pair' p first count q second) = types first ++ types second

-- each pair knows how many types its first tree has
abbrev pub is_sized : Tree → Bool
is_sized (Unusable count) = true
is_sized (Few ts) = true
is_sized (Pair' p first count q second) =
    count == length (types first) && (is_sized first && is_sized second)

abbrev pub IsSized : Tree → Type 0
IsSized t = is_sized t ≡ true

-- what was found of the types above those of two trees: those of the first, or another tree's;
-- nothing where the trees are of unlike shapes
abbrev pub IsJoined : List (Option ℕ) → List FlowType → List FlowType → Joined → Type 0
IsJoined supers high low Same = types_joined supers high low ≡ high
IsJoined supers high low (New t) = IsSized t × (types t ≡ types_joined supers high low)
IsJoined supers high low Unlike = Unit {0}

-- a type takes the place of each copy of another one
abbrev pub AreReplaced : FlowType → FlowType → List FlowType → List FlowType → Type 0
AreReplaced was now [] [] = Unit {0}
AreReplaced was now (t ∷ ts) (u ∷ us) =
    (((t ≡ was) × (u ≡ now)) ⊎ ((t ≡ was → ⊥) × (u ≡ t))) × AreReplaced was now ts us
AreReplaced was now [] (u ∷ us) = ⊥
AreReplaced was now (t ∷ ts) [] = ⊥

-- the tree of types of which each copy was replaced; None where there is no copy
abbrev pub IsReplaced : FlowType → FlowType → List FlowType → Option Tree → Type 0
IsReplaced was now ts None = AreReplaced was now ts ts
IsReplaced was now ts (Some t) = IsSized t × AreReplaced was now ts (types t)

-- each type is Unusable
abbrev pub all_unusable : List FlowType → Bool
all_unusable [] = true
all_unusable (t ∷ ts) = is_unusable t && all_unusable ts

-- each type can stand on a stack
abbrev pub all_operands : List FlowType → Bool
all_operands [] = true
all_operands (t ∷ ts) = is_operand t && all_operands ts

-- a long takes a slot more than any other type
abbrev pub more_slots : FlowType → ℕ
more_slots flow.Long = 1
more_slots _ = 0

-- how many longs there are
abbrev pub longs : List FlowType → ℕ
longs [] = 0
longs (t ∷ ts) = more_slots t + longs ts

-- a tree has room for so many types, and the first of them are a list's
abbrev pub IsWhole : Tree → ℕ → ℕ → Type 0
IsWhole tree room len = IsSized tree × (room ≡ length (types tree)) × (len ≤ room)
