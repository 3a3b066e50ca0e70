-- The last level is the top one, and a thread plans by that alone.
use Rattle.std.proofs.Common.{◌≡◌, ◌-◌, ◌<◌, List, [], ◌∷◌, length, reverse, get_or, Some, refl, sym, ap, ◌∙◌, arith}
use Rattle.std.specs.Prelude.{slice_get}
use Rattle.std.proofs.lemmas.List.{get_or-reverse, length-reverse}
use Rattle.std.proofs.lemmas.Option.{slice_get-get_or}
use Rattle.jvm_base.specs.declared.name.Name.{Name}
use Rattle.jvm_base.specs.declared.frame.Level.{Level}
use Rattle.jvm_base.specs.declared.frame.Level.TheVariants.{Code, Init}
use Rattle.program_image.specs.Program.{Program}
use Rattle.machine_state.specs.Next.{Who}
use Rattle.machine_state.specs.Plan.{running_plan, raising_plan}
use Rattle.step_plan.specs.Tops.{running_on, raising_on}

pub top_is : {A : Type 0} (xs : List A) → slice_get (reverse xs) 0 ≡ slice_get xs (length xs - 1)
top_is [] = refl
top_is (x ∷ xs) =
    let all = x ∷ xs in
    let l : 0 < length (reverse all) = rw (length-reverse all) (omega arith) in
    let e : length all - 1 - 0 ≡ length all - 1 = omega arith in
    slice_get-get_or (reverse all) 0 x l
    ∙ ap Some (get_or-reverse all 0 x (omega arith) ∙ ap (λ k. get_or all k x) e)
    ∙ sym (slice_get-get_or all (length all - 1) x (omega arith))

pub running_is : (p : Program) (who : Who) (ls : List Level) → running_plan p who ls ≡ running_on p who (slice_get ls 0)
running_is p who [] = refl
running_is p who (Code f ∷ ls) = refl
running_is p who (Init c b ∷ ls) = refl

pub raising_is : (p : Program) (e : Name) (ls : List Level) → raising_plan p e ls ≡ raising_on p e (slice_get ls 0)
raising_is p e [] = refl
raising_is p e (Code f ∷ ls) = refl
raising_is p e (Init c b ∷ ls) = refl
