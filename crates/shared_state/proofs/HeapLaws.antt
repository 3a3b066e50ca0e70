-- Objects that are made and taken out again.
use Rattle.std.proofs.Common.{◌≡◌, refl, ap, [], ◌∷◌, None, arith}
use Rattle.std.specs.declared.cmp.Ordering.{Ordering}
use Rattle.std.specs.declared.cmp.Ordering.TheVariants.{Less, Equal, Greater}
use Rattle.std.specs.Ordering.{match_ordering}
use Rattle.std.specs.Map.{remove_entry}
use Rattle.std.specs.BTreeMap.{is_at}
use Rattle.jvm_base.specs.Maps.{put}
use Rattle.jvm_base.specs.Names.{name_cmp}
use Rattle.jvm_base.specs.declared.name.Name.{Name}
use Rattle.jvm_base.specs.declared.value.ObjectBody.{ObjectBody}
use Rattle.machine_state.specs.State.{Heap, body_at}
use Rattle.machine_state.proofs.NameTests.{name_itself}

-- an object of a new name is made and taken out
pub made_gone : (n : Name) (b : ObjectBody) (heap : Heap) → body_at heap n ≡ None → remove_entry (is_at (name_cmp n)) (put name_cmp n b heap) ≡ heap
made_gone n b [] e = rw (name_itself n) refl
made_gone n b (o ∷ os) e = by (name_cmp n o.0) refl (made_gone n b os)
  where
    by : (r : Ordering) → name_cmp n o.0 ≡ r → (body_at os n ≡ None → remove_entry (is_at (name_cmp n)) (put name_cmp n b os) ≡ os)
        → remove_entry (is_at (name_cmp n)) (match_ordering (name_cmp n o.0) ((n, b) ∷ o ∷ os) ((o.0, b) ∷ os) (o ∷ put name_cmp n b os)) ≡ o ∷ os
    by Less h later = rw h (rw (name_itself n) refl)
    by Equal h later = absurd (grind (arith, h, e))
    by Greater h later = rw (h, h) (ap (λ r. o ∷ r) (later (rw h at e)))
