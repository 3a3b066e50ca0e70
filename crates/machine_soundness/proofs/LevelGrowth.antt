-- Levels that fit still fit when objects are made, and none goes.
use Rattle.std.proofs.Common.{Bool, List, None, Option, Some, [], refl, true, ◌∷◌, ◌≡◌}
use Rattle.std.specs.Option.{option_to_list}
use Rattle.jvm_base.specs.declared.frame.Frame.{Frame}
use Rattle.jvm_base.specs.declared.frame.Level.{Level}
use Rattle.jvm_base.specs.declared.frame.Level.TheVariants.{Code, Init}
use Rattle.jvm_base.specs.declared.frame.Phase.{Phase}
use Rattle.jvm_base.specs.declared.frame.Phase.TheVariants as phase
use Rattle.jvm_base.specs.declared.name.Name.{Name}
use Rattle.jvm_base.specs.declared.value.Value.{Value}
use Rattle.program_image.specs.Program.{Program}
use Rattle.flow_types.proofs.ListLaws.{and_both, and_parts}
use Rattle.flow_types.specs.declared.flow_type.FlowType.{FlowType}
use Rattle.frame_soundness.proofs.GrowLaws.{Grows, frame-grows, value-grows}
use Rattle.frame_soundness.specs.AcceptedProgram.{Types}
use Rattle.machine_soundness.specs.Bodies.{all_suit, suits}
use Rattle.machine_soundness.specs.Levels.{LevelsFit, Lower, PhaseFits}

module _ (image : Program) (there more : Name → Bool) (g : Grows there more) where
  -- a value in a place
  pub suit-one : (v : Value) (t : FlowType) → suits image there v t ≡ true → suits image more v t ≡ true
  suit-one v t h = let (x, y) = and_parts _ _ h in and_both _ _ (value-grows there more v g x) y

  -- values in places, one by one
  pub suit-grows : (vs : List Value) (ts : List FlowType) → all_suit image there vs ts ≡ true → all_suit image more vs ts ≡ true
  suit-grows [] [] h = refl
  suit-grows (v ∷ vs) (t ∷ ts) h =
      let (p, q) = and_parts _ _ h in and_both _ _ (suit-one v t p) (suit-grows vs ts q)
  suit-grows [] (t ∷ ts) h = absurd cc
  suit-grows (v ∷ vs) [] h = absurd cc

  -- levels below the top one
  pub lower-grows : (types : Types) (ls : List Level) → Lower image types there ls → Lower image types more ls
  lower-grows types [] h = tt
  lower-grows types (Code f ∷ ls) h = (frame-grows image there more g types f h.0, (h.1.0, (h.1.1.0, lower-grows types ls h.1.1.1)))
  lower-grows types (Init c b ∷ ls) h = (h.0, lower-grows types ls h.1)

  -- what the top frame is about
  pub phase-grows : (raised : Option Name) (f : Frame) (p : Phase) → PhaseFits image there raised f p → PhaseFits image more raised f p
  phase-grows raised f phase.Lock h = h
  phase-grows raised f phase.Body h = tt
  phase-grows None f (phase.Unlock v) h = suit-grows (option_to_list v) _ h
  phase-grows (Some e) f (phase.Unlock v) h = h

  -- all levels
  pub levels-grow : (types : Types) (raised : Option Name) (ls : List Level) → LevelsFit image types there raised ls → LevelsFit image types more raised ls
  levels-grow types raised [] h = tt
  levels-grow types raised (Code f ∷ ls) h = (frame-grows image there more g types f h.0, (phase-grows raised f f.phase h.1.0, (h.1.1.0, lower-grows types ls h.1.1.1)))
  levels-grow types raised (Init c b ∷ ls) h = (h.0, lower-grows types ls h.1)
