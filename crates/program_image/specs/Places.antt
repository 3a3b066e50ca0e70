-- Places in the code, and maps by them.
use Rattle.std.specs.Prelude.{ℕ, List, [], ◌∷◌, Option}
use Rattle.std.specs.declared.cmp.Ordering.{Ordering}
use Rattle.std.specs.Ordering.{ordering_then, nat_cmp}
use Rattle.jvm_base.specs.Maps.{find, put}
use Rattle.program_image.specs.declared.info.Target.{Target}

-- a method and an address
abbrev pub Place : Type 0
Place = ℕ × ℕ

-- by the method, then by the address
abbrev pub place_cmp : Place → Place → Ordering
place_cmp a b = ordering_then (nat_cmp a.0 b.0) (nat_cmp a.1 b.1)

-- a target as it is given: with its method and its address
abbrev pub Placing : Type 0
Placing = ℕ × ℕ × Target

-- targets by place, in the order of places
abbrev pub Targets : Type 0
Targets = List (Place × Target)

-- the targets, with those of a list
abbrev pub placed : Targets → List Placing → Targets
placed targets [] = targets
placed targets (t ∷ ts) = placed (put place_cmp (t.0, t.1) t.2 targets) ts

-- the target at an address of a method
abbrev pub target_at : Targets → ℕ → ℕ → Option Target
target_at targets m at = find place_cmp (m, at) targets
