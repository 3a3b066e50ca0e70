-- Where an instruction leads: to so many handlers first, and then to successors.
use Rattle.std.specs.Prelude.{ℕ, ◌+◌, nat_lt, ◌&&◌, if◌then◌else◌, List, [], ◌∷◌, ◌++◌, length, map, filter, slice_get, Option, Some, None}
use Rattle.code_table.specs.declared.code.Placed.{Placed}
use Rattle.program_image.specs.Program.{Program}
use Rattle.instruction_table.specs.Rows.{jumps, falls}
use Rattle.flow_verifier.specs.declared.method.Method.{Method}
use Rattle.flow_verifier.specs.Methods.{ops_of, place_of}
use Rattle.flow_verifier.specs.Worklist.Ranges.{covers_place}

-- the places of these addresses
abbrev pub jump_places : List Placed → List ℕ → List ℕ
jump_places ops to = map (place_of ops) to

-- the place behind, if control may go on and there is one
abbrev pub fall_places : ℕ → ℕ → Placed → List ℕ
fall_places count i o = if falls o.op && nat_lt (i + 1) count then (i + 1) ∷ [] else []

-- where control goes on from an instruction, if it is there
abbrev pub successors_there : List Placed → ℕ → Option Placed → List ℕ
successors_there ops i None = []
successors_there ops i (Some o) = jump_places ops (jumps o.op) ++ fall_places (length ops) i o

-- where control goes on from the instruction at a place
unfoldable pub successors : Program → Method → ℕ → List ℕ
successors p m i = successors_there (ops_of p m.number) i (slice_get (ops_of p m.number) i)

-- how many handlers cover the instruction at a place
unfoldable pub ways_caught : Program → Method → ℕ → ℕ
ways_caught p m i = length (filter (covers_place (ops_of p m.number) i) m.handlers)
