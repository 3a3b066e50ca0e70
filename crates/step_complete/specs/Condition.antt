-- What a thread owes before its levels change. A sound machine of a linked and verified program has
-- all of it.
use Rattle.std.specs.Prelude.{◌≡◌, ◌≢◌, ◌≤◌, ℕ, Bool, true, false, List, [], ◌∷◌, Option, Some, None}
use Rattle.jvm_base.specs.declared.value.Value.{Value}
use Rattle.jvm_base.specs.declared.frame.Phase.TheVariants as phase
use Rattle.jvm_base.specs.declared.frame.Frame.{Frame}
use Rattle.jvm_base.specs.declared.frame.Level.{Level}
use Rattle.jvm_base.specs.declared.frame.Level.TheVariants.{Code}
use Rattle.code_table.specs.declared.code.Placed.{Placed}
use Rattle.code_table.specs.declared.op.Op.{Op}
use Rattle.code_table.specs.declared.op.Op.TheVariants as op
use Rattle.program_image.specs.Program.{Program}
use Rattle.program_image.specs.Words.{instruction_at}
use Rattle.frame_ops.specs.Stepping.{CanRun, CanTake}
use Rattle.machine_state.specs.declared.request.Answer.{Answer}
use Rattle.machine_state.specs.declared.request.Answer.TheVariants.{Gives, Raises, Slept}
use Rattle.step_complete.specs.declared.asked.Asked.{Asked}
use Rattle.step_complete.specs.declared.asked.Asked.TheVariants as asked
use Rattle.step_complete.specs.declared.turns.Turn.{Turn}
use Rattle.step_complete.specs.declared.turns.Turn.TheVariants as turn

-- the frame's instruction, where there is one, takes this answer
abbrev pub TakesAnswer : Program → Option Value → Frame → Type 0
TakesAnswer p v f = (i : Placed) → instruction_at p f.method f.at ≡ Some i → CanTake i v f

-- the instruction returns
abbrev pub is_return : Op → Bool
is_return (op.Return o) = true
is_return _ = false

-- a frame that takes a turn: what answers its instruction, puts it in place; a lock is entered for the
-- frame itself, or by an instruction; it is left by a return, which takes nothing, or by another
-- instruction; a move has what it takes; an exception has room
abbrev pub CanTurnFrame : Program → Turn → Frame → Type 0
CanTurnFrame p (turn.Answers v) f = TakesAnswer p v f
CanTurnFrame p turn.Enters f = f.phase ≢ phase.Lock → TakesAnswer p None f
CanTurnFrame p turn.Leaves f =
    (i : Placed) →
    instruction_at p f.method f.at ≡ Some i → is_return i.op ≡ false → CanTake i None f
CanTurnFrame p turn.Unlocks f = Unit {0}
CanTurnFrame p turn.Notes f = Unit {0}
CanTurnFrame p (turn.Moves given) f =
    (i : Placed) → instruction_at p f.method f.at ≡ Some i → CanRun i given f
CanTurnFrame p (turn.Catches e to) f = 1 ≤ f.stack.room

-- the top level is such a frame, or no frame
abbrev pub CanTurn : Program → Turn → List Level → Type 0
CanTurn p t (Code f ∷ ls) = CanTurnFrame p t f
CanTurn p t _ = Unit {0}

-- the turn that an answer comes to
abbrev pub given_turn : Asked → Option Value → Turn
given_turn asked.Enter v = turn.Enters
given_turn (asked.Exit true) v = turn.Unlocks
given_turn (asked.Exit false) v = turn.Leaves
given_turn (asked.Wait lock) v = turn.Answers v
given_turn asked.Other v = turn.Answers v
given_turn _ v = turn.Notes

-- the top level can take an answer
abbrev pub CanComplete : Program → Asked → Answer → List Level → Type 0
CanComplete p a (Gives v) ls = CanTurn p (given_turn a v) ls
CanComplete p a (Raises e) ls = Unit {0}
CanComplete p (asked.Wait lock) (Slept k) ls = CanTurn p (turn.Answers None) ls
CanComplete p a (Slept k) ls = Unit {0}

-- a class's initialisation begins
abbrev pub begins : Asked → Answer → Bool
begins (asked.Begin class) (Gives v) = true
begins _ _ = false
