-- The levels of a thread, the top one first, as they change at the top.
use Rattle.std.specs.Prelude.{ℕ, ◌+◌, ◌<◌, ◌≤◌, List, [], ◌∷◌, ◌++◌, drop, length, Option}
use Rattle.std.specs.Option.{option_to_list}
use Rattle.jvm_base.specs.declared.value.Value.{Value}
use Rattle.jvm_base.specs.declared.frame.Frame.{Frame}
use Rattle.jvm_base.specs.declared.frame.Level.{Level}
use Rattle.jvm_base.specs.declared.frame.Level.TheVariants.{Code, Init}

-- the levels below the top one
abbrev pub below : List Level → List Level
below [] = []
below (l ∷ ls) = ls

-- the top frame is replaced
abbrev pub with_top : Frame → List Level → List Level
with_top f [] = []
with_top f (l ∷ ls) = Code f ∷ ls

-- ---- an instruction is answered

-- the frame has the operands that are taken, and room for an answer
pub record FrameTakes (takes : ℕ) (f : Frame) : Type 0 where
  pub enough : takes ≤ length f.stack.values
  pub room : length f.stack.values < f.stack.room + takes

-- the frame at its next address, the answer in place of the operands that were taken
abbrev pub frame_answered : ℕ → ℕ → Option Value → Frame → Frame
frame_answered next takes value f =
    let values = option_to_list value ++ drop takes f.stack.values in
    record f { at = next; stack = record { values = values; room = f.stack.room } }

-- the level is such a frame
abbrev pub LevelTakes : ℕ → Level → Type 0
LevelTakes takes (Code f) = FrameTakes takes f
LevelTakes takes (Init c b) = ⊥

-- the level, its frame answered
abbrev pub level_answered : ℕ → ℕ → Option Value → Level → Level
level_answered next takes value (Code f) = Code (frame_answered next takes value f)
level_answered next takes value (Init c b) = Init c b

-- the top level is such a frame
abbrev pub TopTakes : ℕ → List Level → Type 0
TopTakes takes [] = ⊥
TopTakes takes (l ∷ ls) = LevelTakes takes l

-- the levels, the frame of the top one answered
abbrev pub top_answered : ℕ → ℕ → Option Value → List Level → List Level
top_answered next takes value [] = []
top_answered next takes value (l ∷ ls) = level_answered next takes value l ∷ ls
