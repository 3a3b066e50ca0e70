-- Equal descriptors, found items, and values of a call.
use Rattle.std.proofs.Common.{◌≡◌, refl, Bool, true, false, List, [], ◌∷◌, ◌++◌, take, length}
use Rattle.std.specs.Prelude.{◌&&◌, reverse}
use mathlib.Core.List.{reverse-cons}
use Rattle.jvm_base.specs.declared.value.Value.{Value}
use Rattle.program_image.specs.Program.{Program}
use Rattle.flow_types.proofs.ListLaws.{and_parts, and_both}
use Rattle.instruction_table.specs.declared.row.Need.{Need}
use Rattle.frame_soundness.specs.Meeting.{met, all_met}

-- ---- the operands of a call, in their order

abbrev pub exactly_met : Program → List Need → List Value → Bool
exactly_met image [] [] = true
exactly_met image (n ∷ ns) (v ∷ vs) = met image n v && exactly_met image ns vs
exactly_met image [] (v ∷ vs) = false
exactly_met image (n ∷ ns) [] = false

pub exact-take : (image : Program) (ns : List Need) (vs : List Value) → all_met image ns vs ≡ true → exactly_met image ns (take (length ns) vs) ≡ true
exact-take image [] vs h = refl
exact-take image (n ∷ ns) [] h = absurd cc
exact-take image (n ∷ ns) (v ∷ vs) h = let (p, q) = and_parts _ _ h in and_both _ _ p (exact-take image ns vs q)

pub exact-append : (image : Program) (ns ms : List Need) (vs us : List Value) → exactly_met image ns vs ≡ true → exactly_met image ms us ≡ true → exactly_met image (ns ++ ms) (vs ++ us) ≡ true
exact-append image [] ms [] us h k = k
exact-append image (n ∷ ns) ms (v ∷ vs) us h k = let (p, q) = and_parts _ _ h in and_both _ _ p (exact-append image ns ms vs us q k)
exact-append image [] ms (v ∷ vs) us h k = absurd cc
exact-append image (n ∷ ns) ms [] us h k = absurd cc

pub exact-reverse : (image : Program) (ns : List Need) (vs : List Value) → exactly_met image ns vs ≡ true → exactly_met image (reverse ns) (reverse vs) ≡ true
exact-reverse image [] [] h = refl
exact-reverse image (n ∷ ns) (v ∷ vs) h =
    let (p, q) = and_parts _ _ h in
    let r : exactly_met image (n ∷ []) (v ∷ []) ≡ true = and_both _ _ p refl in
    rw (reverse-cons n ns, reverse-cons v vs) (exact-append image (reverse ns) (n ∷ []) (reverse vs) (v ∷ []) (exact-reverse image ns vs q) r)
exact-reverse image [] (v ∷ vs) h = absurd cc
exact-reverse image (n ∷ ns) [] h = absurd cc
