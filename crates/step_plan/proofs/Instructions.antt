-- Instructions, by their operands' depths.
use Rattle.std.proofs.Common.{◌≡◌, ℕ, List, ◌∷◌, Option, Some, refl}
use Rattle.std.specs.Prelude.{slice_get}
use Rattle.jvm_base.specs.declared.desc.Desc.{Desc}
use Rattle.jvm_base.specs.declared.value.Value.{Value}
use Rattle.jvm_base.specs.declared.value.Value.TheVariants.{Int, Ref}
use Rattle.machine_state.specs.declared.request.Request.TheVariants.{Put, Load, Store}
use Rattle.machine_state.specs.Instructions.{loads, stores, puts, put_value, stored_value}
use Rattle.machine_state.specs.Next.{Next, Needs, Stuck}

-- a read of an element, by its index and the array
abbrev pub loads_by : Option Value → Option Value → Next
loads_by (Some (Int i)) (Some (Ref n)) = Needs (Load n i)
loads_by _ _ = Stuck

pub loads_are : (vs : List Value) → loads vs ≡ loads_by (slice_get vs 0) (slice_get vs 1)
loads_are (Int i ∷ Ref n ∷ vs) = refl
loads_are _ = refl

-- a write of one
abbrev pub stores_by : ℕ → Option Value → Option Value → Option Value → Next
stores_by o (Some v) (Some (Int i)) (Some (Ref n)) = Needs (Store n i (stored_value o v))
stores_by o _ _ _ = Stuck

pub stores_are : (o : ℕ) (vs : List Value) → stores o vs ≡ stores_by o (slice_get vs 0) (slice_get vs 1) (slice_get vs 2)
stores_are o (v ∷ Int i ∷ Ref n ∷ vs) = refl
stores_are o _ = refl

-- a write of a field
abbrev pub puts_by : Desc → ℕ → Option Value → Option Value → Next
puts_by d place (Some v) (Some (Ref n)) = Needs (Put n place (put_value d v))
puts_by d place _ _ = Stuck

pub puts_are : (d : Desc) (place : ℕ) (vs : List Value) → puts d place vs ≡ puts_by d place (slice_get vs 0) (slice_get vs 1)
puts_are d place (v ∷ Ref n ∷ vs) = refl
puts_are d place _ = refl
