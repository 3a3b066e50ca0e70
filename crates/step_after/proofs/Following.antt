-- After its step a thread of a sound machine can go on.
use Rattle.std.proofs.Common.{◌≡◌, Bool, List, [], ◌∷◌, sym, subst}
use Rattle.jvm_base.specs.declared.name.Name.{Name}
use Rattle.jvm_base.specs.declared.frame.Level.{Level}
use Rattle.jvm_base.specs.declared.frame.Level.TheVariants.{Code, Init}
use Rattle.jvm_base.specs.Tops.{below}
use Rattle.program_image.specs.Program.{Program}
use Rattle.machine_state.specs.declared.request.Answer.{Answer}
use Rattle.machine_state.specs.declared.state.Mode.{Mode}
use Rattle.machine_state.specs.Complete.{Stand}
use Rattle.machine_state.specs.Step.{moved_on}
use Rattle.frame_soundness.specs.AcceptedProgram.{Types, Accepted}
use Rattle.machine_soundness.specs.Bodies.{there_in}
use Rattle.step_complete.specs.Asked.{asked_for}
use Rattle.step_complete.specs.Condition.{CanTurn, CanComplete}
use Rattle.step_complete.specs.declared.asked.Asked.{Asked}
use Rattle.step_complete.specs.declared.turns.Turn.{Turn}
use Rattle.step_complete.specs.declared.turns.Turn.TheVariants as turn
use Rattle.step_complete.specs.Turns.{turned}
use Rattle.step_after.specs.Going.{stand_of, CanGoOn}
use Rattle.step_after.specs.Laws.{IsFrameTop, TakesTurn, CompletesOne, GoesSo, CanGoOnLaw}
use Rattle.step_after.specs.declared.after.After.{After}
use Rattle.step_after.specs.declared.after.After.TheVariants as after
use Rattle.step_after.proofs.Going.{HasLevels, levels_of, top_answers, leaves_fit, catches_fit, moves_fit, completes_fit}
use Rattle.step_after.proofs.Stepped.{stands_fit}

module _ (p : Program) (types : Types) (a : Accepted p types) (there now : Name → Bool) where
  turns_fit : (t : Turn) (ls : List Level) → HasLevels p types there ls → HasLevels p types now (turned p t ls) → TakesTurn p t ls → CanTurn p t ls
  turns_fit (turn.Answers v) ls h k asks = top_answers p types a there now v ls h k asks
  turns_fit (turn.Moves given) [] h k told = tt
  turns_fit (turn.Moves given) (Init c b ∷ ls) h k told = tt
  turns_fit (turn.Moves given) (Code f ∷ ls) h k told = moves_fit p types a there now given f ls h told
  turns_fit (turn.Catches e to) [] h k u = tt
  turns_fit (turn.Catches e to) (Init c b ∷ ls) h k u = tt
  turns_fit (turn.Catches e to) (Code f ∷ ls) h k u = catches_fit p types a there now e to f ls k
  turns_fit turn.Enters ls h k bad = absurd bad
  turns_fit turn.Leaves ls h k bad = absurd bad
  turns_fit turn.Unlocks ls h k bad = absurd bad
  turns_fit turn.Notes ls h k bad = absurd bad

  completed : (asked : Asked) (answer : Answer) (mode : Mode) (ls : List Level) → HasLevels p types there ls → HasLevels p types now (stand_of p (after.Completes asked) answer mode ls).1 → CompletesOne p asked answer ls → CanComplete p asked answer ls
  unfolding stand_of
  completed asked answer mode ls h k one =
      subst (λ (x : Asked). CanComplete p x answer ls) (sym one.is_asked)
      (completes_fit p types a there now one.request answer mode ls one.raises h (subst (λ (x : Asked). HasLevels p types now (stand_of p (after.Completes x) answer mode ls).1) one.is_asked k) one.asks)

  pub follows : (w : After) (answer : Answer) (mode : Mode) (ls : List Level) → HasLevels p types there ls → HasLevels p types now (stand_of p w answer mode ls).1 → GoesSo p w answer ls → CanGoOn p w answer ls
  unfolding stand_of
  follows (after.Turns t) answer mode ls h k so = turns_fit t ls h k so
  follows (after.Leaves v) answer mode [] h k so = absurd so
  follows (after.Leaves v) answer mode (Init c b ∷ ls) h k so = absurd so
  follows (after.Leaves v) answer mode (Code f ∷ ls) h k so = leaves_fit p types a there now v f ls h k
  follows (after.Completes asked) answer mode ls h k so = completed asked answer mode ls h k so
  follows (after.Throws e) answer mode ls h k so = tt
  follows (after.Calls f) answer mode ls h k so = tt
  follows after.Drops answer mode ls h k so = tt
  follows after.Retakes answer mode ls h k so = tt

pub can_go_on : CanGoOnLaw
can_go_on p types a m c th k w sound at deed fits stands so =
    let before = levels_of p types (there_in m.heap) th.mode th.levels (sound.threads c.thread th at).levels in
    let then = stands_fit p types a m c th k sound at deed fits in
    follows p types a (there_in m.heap) (there_in (moved_on m c.thread th k).heap) w k.deed.answer th.mode th.levels before
    (subst (λ (s : Stand). HasLevels p types (there_in (moved_on m c.thread th k).heap) s.1) stands then) so
