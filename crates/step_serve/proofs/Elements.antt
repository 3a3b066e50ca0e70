-- What is told of elements.
use Rattle.std.proofs.Common.{◌≡◌, ℕ, ℤ, Bool, true, false, List, [], ◌∷◌, Option, Some, None, refl, sym, ap, subst, ◌∙◌}
use Rattle.std.specs.Prelude.{if◌then◌else◌, unsigned_abs, slice_get}
use Rattle.jvm_base.specs.Words.{from}
use Rattle.jvm_base.specs.declared.name.Name.{Name}
use Rattle.jvm_base.specs.declared.value.Value.{Value}
use Rattle.jvm_base.specs.declared.value.ObjectBody.TheVariants.{Fields, Array}
use Rattle.program_image.specs.Program.{Program}
use Rattle.machine_state.specs.Bodies.{element_at, takes_value, get, load, store}
use Rattle.machine_state.specs.BootClasses.{array_index, array_store}
use Rattle.machine_state.specs.Changes.{SetsElement}
use Rattle.machine_state.specs.Deeds.{Deed, faulted, reading, changing}
use Rattle.machine_state.specs.Events.{FieldOf, ElementOf, One}
use Rattle.machine_state.specs.declared.request.Answer.TheVariants.{Gives}
use Rattle.machine_state.specs.declared.served.Effect.TheVariants as effect
use Rattle.machine_state.specs.declared.served.Effects.TheVariants as effects
use Rattle.machine_state.specs.declared.served.Served.{Served}
use Rattle.machine_state.specs.declared.served.Wish.{Wish}
use Rattle.machine_state.specs.State.{Heap}
use Rattle.step_serve.specs.Elements.{stored}
use Rattle.step_serve.specs.Telling.{Tells, TellsSome, IsPlain}

-- a field is read
pub get_told : (heap : Heap) (w : Wish) (n : Name) (i : ℕ) (vs : List Value) (v : Value) (s : Served) → Some v ≡ slice_get vs i → ((d : Deed) → IsPlain heap effects.Nothing (Gives (Some v)) d → Tells heap w d s) → TellsSome heap w (get n i (Some (Fields vs))) s
get_told heap w n i vs v s e told =
    let at : Value → Option Deed = λ (x : Value). Some (reading (FieldOf n i) (One x) (Some x)) in
    subst (λ (o : Option Value). TellsSome heap w (from None at o) s) e
    (told (reading (FieldOf n i) (One v) (Some v)) (record { makes = refl; waiters = refl; changes = refl; answers = refl }))

-- there is no such field
pub get_none : (n : Name) (i : ℕ) (vs : List Value) → None ≡ slice_get vs i → get n i (Some (Fields vs)) ≡ None
get_none n i vs e =
    let at : Value → Option Deed = λ (x : Value). Some (reading (FieldOf n i) (One x) (Some x)) in
    ap (λ (o : Option Value). from None at o) (sym e)

-- an element is read
pub load_told : (heap : Heap) (w : Wish) (p : Program) (n : Name) (i : ℤ) (vs : List Value) (v : Value) (s : Served) → Some v ≡ element_at i vs → ((d : Deed) → IsPlain heap effects.Nothing (Gives (Some v)) d → Tells heap w d s) → TellsSome heap w (load p s.choice.name n i (Some (Array vs))) s
load_told heap w p n i vs v s e told =
    let at : Value → Deed = λ (x : Value). reading (ElementOf n (unsigned_abs i)) (One x) (Some x) in
    subst (λ (o : Option Value). Tells heap w (from (faulted p s.choice.name array_index) at o) s) e
    (told (at v) (record { makes = refl; waiters = refl; changes = refl; answers = refl }))

-- an element that is there is written
pub store_told : (heap : Heap) (w : Wish) (p : Program) (n : Name) (i : ℤ) (v old : Value) (vs : List Value) (s : Served) → Some old ≡ element_at i vs → Tells heap w (stored p s.choice.name n i v (takes_value p n.class v)) s → TellsSome heap w (store p s.choice.name n i v (Some (Array vs))) s
store_told heap w p n i v old vs s e told =
    subst (λ (o : Option Value). Tells heap w (from (faulted p s.choice.name array_index) (λ (x : Value). stored p s.choice.name n i v (takes_value p n.class v)) o) s) e told

-- its array takes the value
pub set_told : (heap : Heap) (w : Wish) (p : Program) (n : Name) (i : ℤ) (v : Value) (k : ℕ) (b : Bool) (s : Served) → b ≡ true → k ≡ unsigned_abs i → ((d : Deed) → IsPlain heap (effects.One (effect.SetsElement n k v)) (Gives None) d → Tells heap w d s) → Tells heap w (stored p s.choice.name n i v b) s
set_told heap w p n i v k b s t is told =
    subst (λ (x : Bool). Tells heap w (stored p s.choice.name n i v x) s) (sym t)
    (told _ (record { makes = refl; waiters = refl; changes = ap (λ (j : ℕ). SetsElement n j v ∷ []) is; answers = refl }))

-- or doesn't
pub refused_told : (heap : Heap) (w : Wish) (p : Program) (n : Name) (i : ℤ) (v : Value) (b : Bool) (s : Served) → b ≡ false → Tells heap w (faulted p s.choice.name array_store) s → Tells heap w (stored p s.choice.name n i v b) s
refused_told heap w p n i v b s t told =
    subst (λ (x : Bool). Tells heap w (stored p s.choice.name n i v x) s) (sym t) told
