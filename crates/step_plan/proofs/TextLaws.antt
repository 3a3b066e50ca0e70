-- What comes of texts that are known, and of those that aren't.
use Rattle.std.proofs.Common.{◌≡◌, ℕ, List, Option, Some, None, refl}
use Rattle.jvm_base.specs.Words.{from}
use Rattle.jvm_base.specs.declared.name.Name.{Name}
use Rattle.jvm_base.specs.declared.value.Value.{Value}
use Rattle.jvm_base.specs.declared.value.Value.TheVariants.{Int, Long, Ref, Null}
use Rattle.machine_state.specs.Intrinsics.{Shown}
use Rattle.machine_state.specs.IntrinsicCalls.{with_shown}
use Rattle.machine_state.specs.Next.{Next, Wants, Who, with_text}
use Rattle.step_plan.specs.declared.texts.Text.{Text}
use Rattle.step_plan.specs.declared.texts.Text.TheVariants.{Known, Wanted}
use Rattle.step_plan.specs.Texts.{object_text, text_of}

-- what comes of a text
abbrev pub of_text : (List ℕ → Next) → Text → Next
of_text f (Known us) = f us
of_text f (Wanted n) = Wants n

by_known : (n : Name) (f : List ℕ → Next) (o : Option (List ℕ)) → from (Wants n) f o ≡ of_text f (from (Wanted n) Known o)
by_known n f None = refl
by_known n f (Some us) = refl

-- that of an object
pub with_text_is : (who : Who) (n : Name) (f : List ℕ → Next) → with_text who n f ≡ of_text f (object_text who.known n)
with_text_is who n f = by_known n f (who.known n)

-- that of an argument
pub with_shown_is : (who : Who) (s : Shown) (v : Value) (f : List ℕ → Next) → with_shown who s v f ≡ of_text f (text_of who.known s v)
with_shown_is who s (Int a) f = refl
with_shown_is who s (Long a) f = refl
with_shown_is who s (Ref n) f = by_known n f (who.known n)
with_shown_is who s Null f = refl
