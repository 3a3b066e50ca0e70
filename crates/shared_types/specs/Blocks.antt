-- What a block of types knows of them.
use Rattle.std.specs.Prelude.{◌≡◌, ◌≤◌, ℕ, suc, Bool, true, false, if◌then◌else◌, List, [], ◌∷◌, length, Option, Some, None}
use Rattle.flow_types.specs.Types.{type_fits}
use Rattle.flow_types.specs.declared.flow_type.FlowType.{FlowType}
use Rattle.flow_types.specs.declared.flow_type.FlowType.TheVariants as flow

-- a type is Unusable
abbrev pub is_unusable : FlowType → Bool
is_unusable flow.Unusable = true
is_unusable _ = false

-- the places of the types that aren't Unusable, where the first type's place has this number
abbrev pub used_from : ℕ → List FlowType → List ℕ
used_from first [] = []
used_from first (t ∷ ts) =
    if is_unusable t then used_from (suc first) ts else first ∷ used_from (suc first) ts

-- a block knows the places of its types that aren't Unusable, and each place fits a byte
abbrev pub IsIndexed : List FlowType → List ℕ → Type 0
IsIndexed ts used = (used ≡ used_from 0 ts) × (length ts ≤ 256)

-- a type fits another one, where both are there
abbrev pub fits_if_there : List (Option ℕ) → Option FlowType → Option FlowType → Bool
fits_if_there supers (Some t) (Some u) = type_fits supers t u
fits_if_there supers (Some t) None = true
fits_if_there supers None u = true
