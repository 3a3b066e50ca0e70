-- What can still rise, weighed.
use Rattle.program_image.specs.Program.{Program}
use Rattle.flow_types.specs.Tree.{superclasses}
use Rattle.std.specs.Prelude.{ℕ, suc, ◌+◌, ◌*◌, List, [], ◌∷◌, length, Option, Some, None}
use Rattle.flow_types.specs.declared.flow_frame.FlowFrame.{FlowFrame}
use Rattle.flow_types.specs.FrameRank.{frame_rank}
use Rattle.flow_verifier.specs.declared.method.Method.{Method}
use Rattle.flow_verifier.specs.Given.{edges}
use Rattle.flow_verifier.specs.Typing.{places}

-- how often the frame of an instruction can still rise
abbrev pub place_rank : List (Option ℕ) → ℕ → Option FlowFrame → ℕ
place_rank supers most None = most + 1
place_rank supers most (Some f) = frame_rank supers f

-- how often a frame that is there can rise, at most
abbrev pub most : Program → Method → ℕ
most p m = places m * (length (superclasses p) + 257) + 2

-- the rises that are left, each counted by the weight of its place
abbrev pub weighed : List (Option ℕ) → ℕ → (ℕ → ℕ) → List (Option FlowFrame) → ℕ
weighed supers top w [] = 0
weighed supers top w (o ∷ os) =
    w 0 * place_rank supers top o + weighed supers top (λ i. w (suc i)) os

-- the weights of the places on the list
abbrev pub listed : (ℕ → ℕ) → List ℕ → ℕ
listed w [] = 0
listed w (x ∷ xs) = w x + listed w xs

-- the visits that may still come, each counted by the weight of its place
unfoldable pub potential :
    Program → Method → (ℕ → ℕ) → List (Option FlowFrame) → List ℕ → ℕ
potential p m w fs todo = weighed (superclasses p) (most p m) w fs + listed w todo

-- the steps that may still come
unfoldable pub steps_left : Program → Method → List (Option FlowFrame) → List ℕ → ℕ
steps_left p m fs todo = potential p m (λ i. length (edges p m i)) fs todo

-- the turns that may still come
unfoldable pub turns_left : Program → Method → List (Option FlowFrame) → List ℕ → ℕ
turns_left p m fs todo = potential p m (λ i. 1) fs todo
