-- The top level, where levels are kept with the top one last.
use Rattle.std.proofs.Common.{◌≡◌, ℕ, ◌+◌, ◌-◌, ◌<◌, Bool, false, List, [], ◌∷◌, length, reverse, get_or, refl, sym, ap, subst, ◌∙◌, arith}
use Rattle.std.specs.Prelude.{slice_set}
use Rattle.std.proofs.lemmas.List.{length-reverse}
use Rattle.code_table.specs.declared.op.Op.{Op}
use Rattle.code_table.specs.declared.op.Op.TheVariants as op
use Rattle.jvm_base.proofs.Tops.{reverse-set, get_or-last}
use Rattle.jvm_base.specs.declared.frame.Frame.{Frame}
use Rattle.jvm_base.specs.declared.frame.Level.{Level}
use Rattle.jvm_base.specs.declared.frame.Level.TheVariants.{Code, Init}
use Rattle.jvm_base.specs.declared.frame.Phase.{Phase}
use Rattle.jvm_base.specs.declared.frame.Phase.TheVariants as phase
use Rattle.program_image.specs.Program.{Program}
use Rattle.machine_state.specs.Complete.{entered_by}
use Rattle.step_complete.specs.Condition.{is_return}
use Rattle.step_complete.specs.declared.turns.Turn.{Turn}
use Rattle.step_complete.specs.declared.turns.Turn.TheVariants as turn
use Rattle.step_complete.specs.Turns.{turned}

-- what isn't a return by its form isn't one by the test
pub no_return : (o : Op) → ((x : ℕ) → o ≡ op.Return x → ⊥) → is_return o ≡ false
no_return (op.Return x) h = absurd (h x refl)
no_return _ h = refl

-- the same level on top of others
retop : (y z : Level) (ls : List Level) → y ∷ [] ≡ z ∷ [] → y ∷ ls ≡ z ∷ ls
retop y z ls h = cc

-- a lock that is entered changes the top level alone
entered-top : (p : Program) (f : Frame) (ph : Phase) (y : Level) (ls : List Level) → y ∷ [] ≡ entered_by p f [] ph → y ∷ ls ≡ entered_by p f ls ph
entered-top p f phase.Lock y ls h = retop y _ ls h
entered-top p f phase.Body y ls h = retop y _ ls h
entered-top p f (phase.Unlock v) y ls h = retop y _ ls h

-- a turn changes the top level alone
pub turned-top : (p : Program) (t : Turn) (x y : Level) (ls : List Level) → y ∷ [] ≡ turned p t (x ∷ []) → y ∷ ls ≡ turned p t (x ∷ ls)
turned-top p (turn.Answers v) (Code f) y ls h = retop y _ ls h
turned-top p turn.Enters (Code f) y ls h = entered-top p f f.phase y ls h
turned-top p turn.Leaves (Code f) y ls h = retop y _ ls h
turned-top p turn.Unlocks (Code f) y ls h = retop y _ ls h
turned-top p turn.Notes (Code f) y ls h = retop y _ ls h
turned-top p (turn.Moves given) (Code f) y ls h = retop y _ ls h
turned-top p (turn.Catches e at) (Code f) y ls h = retop y _ ls h
turned-top p (turn.Answers v) (Init c b) y ls h = retop y _ ls h
turned-top p turn.Enters (Init c b) y ls h = retop y _ ls h
turned-top p turn.Leaves (Init c b) y ls h = retop y _ ls h
turned-top p turn.Unlocks (Init c b) y ls h = retop y _ ls h
turned-top p turn.Notes (Init c b) y ls h = retop y _ ls h
turned-top p (turn.Moves given) (Init c b) y ls h = retop y _ ls h
turned-top p (turn.Catches e at) (Init c b) y ls h = retop y _ ls h

-- levels whose last one is replaced by what a turn makes of it
pub turned-set : (p : Program) (t : Turn) (items now : List Level) (len : ℕ) (top new : Level) → reverse items ≡ now → len ≡ length items → 0 < len → top ≡ get_or items (len - 1) top → new ∷ [] ≡ turned p t (top ∷ []) → reverse (slice_set items (len - 1) new) ≡ turned p t now
turned-set p t items [] len top new e l some at h = absurd (omega (arith, ap length e, length-reverse items))
turned-set p t items (x ∷ xs) len top new e l some at h =
    let is : top ≡ x = at ∙ get_or-last items (len - 1) x top xs e (omega arith) in
    reverse-set items (len - 1) x new xs e (omega arith)
    ∙ turned-top p t x new xs (h ∙ ap (λ (z : Level). turned p t (z ∷ [])) is)
