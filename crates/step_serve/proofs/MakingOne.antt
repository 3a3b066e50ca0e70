-- Deeds that make one object.
use Rattle.std.proofs.Common.{◌≡◌, ℕ, List, [], ◌∷◌, Some, refl, sym, ap, ◌∙◌}
use Rattle.jvm_base.specs.declared.value.Value.{Value}
use Rattle.jvm_base.specs.declared.value.Value.TheVariants.{Ref}
use Rattle.jvm_base.specs.Names.{named}
use Rattle.machine_state.specs.Making.{making}
use Rattle.jvm_base.specs.declared.value.ObjectBody.{ObjectBody}
use Rattle.jvm_base.specs.declared.value.ObjectBody.TheVariants.{Fields, Text}
use Rattle.program_image.specs.Program.{Program}
use Rattle.program_image.specs.Words.{zeros_of}
use Rattle.machine_state.specs.BootClasses.{string}
use Rattle.machine_state.specs.Changes.{Change, Made}
use Rattle.machine_state.specs.Deeds.{faulted, making_text}
use Rattle.machine_state.specs.Events.{Place, Held}
use Rattle.machine_state.specs.declared.request.Answer.TheVariants.{Gives, Raises}
use Rattle.machine_state.specs.declared.served.Effects.{Effects}
use Rattle.machine_state.specs.declared.served.Effects.TheVariants.{One}
use Rattle.machine_state.specs.declared.served.Effect.TheVariants as effect
use Rattle.machine_state.specs.declared.state.Choice.{Choice}
use Rattle.machine_state.specs.Serving.{changes_of}
use Rattle.machine_state.specs.State.{Heap}
use Rattle.step_serve.specs.Telling.{IsMaking, with_changes}

-- an exception, under the choice's name
pub fault_made : (heap : Heap) (p : Program) (class : ℕ) (effects : Effects) (zeros : List Value) (c r : Choice) (more : List Change) → r ≡ c → zeros ≡ zeros_of p class → changes_of heap effects ≡ Made c.name (Fields zeros) ∷ more → IsMaking heap class effects (Raises c.name) (with_changes more (faulted p r.name class))
fault_made heap p class effects zeros c r more same z e = record {
  makes = refl;
  waiters = refl;
  changes =
      e ∙ ap (λ (x : Choice). Made x.name (Fields zeros) ∷ more) (sym same)
      ∙ ap (λ (vs : List Value). Made r.name (Fields vs) ∷ more) z;
  answers = ap (λ (x : Choice). Raises x.name) (sym same);
}

-- a String
pub text_made : (heap : Heap) (us : List ℕ) (reads : List (Place × Held)) (c r : Choice) → r ≡ c → IsMaking heap string (One (effect.Made c.name (Text us))) (Gives (Some (Ref c.name))) (making_text r.name reads us)
text_made heap us reads c r same = record {
  makes = refl;
  waiters = refl;
  changes = ap (λ (x : Choice). Made x.name (Text us) ∷ []) (sym same);
  answers = ap (λ (x : Choice). Gives (Some (Ref x.name))) (sym same);
}

-- an object
pub object_made : (heap : Heap) (class : ℕ) (body : ObjectBody) (c r : Choice) → r ≡ c → IsMaking heap class (One (effect.Made (named c.name.node class c.name.index) body)) (Gives (Some (Ref c.name))) (making r.name ((named r.name.node class r.name.index, body) ∷ []))
object_made heap class body c r same = record {
  makes = refl;
  waiters = refl;
  changes = ap (λ (x : Choice). Made (named x.name.node class x.name.index) body ∷ []) (sym same);
  answers = ap (λ (x : Choice). Gives (Some (Ref x.name))) (sym same);
}
