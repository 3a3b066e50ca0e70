-- The forms in memory: which calls fail, and how much a call takes.
use Rattle.std.specs.Prelude.{◌≡◌, ◌⊎◌, ℕ, ◌-◌, ◌≤◌, ◌<◌, min, map, string_bytes, List, length, Contains, Some}
use Rattle.cjvm_io.specs.declared.mem_shelf.MemShelf.{MemShelf}
use Rattle.cjvm_io.specs.declared.vec_sink.VecSink.{VecSink}
use Rattle.cjvm_io.specs.Faults.{next_count}
use Rattle.cjvm_io.specs.Shelves.{Files, bytes_under, named_bytes}

-- ---- a shelf

-- its names with their bytes
abbrev pub files_of : MemShelf → Files
files_of shelf = named_bytes shelf.files.items

-- the next call is one of those that fail
abbrev pub IsShelfFault : MemShelf → Type 0
IsShelfFault shelf = Contains shelf.fails.items (next_count shelf.calls)

-- the file is there, and isn't too long
pub record HasFile (shelf : MemShelf) (name : List ℕ) (limit : ℕ) : Type 0 where
  pub bytes : List ℕ
  pub has : bytes_under (files_of shelf) name ≡ Some bytes
  pub short : length bytes ≤ limit

-- ---- a sink

-- it has no room for any byte of the piece
abbrev pub IsFull : VecSink → List ℕ → Type 0
IsFull sink piece = (length sink.bytes.items ≡ sink.room) × (0 < length piece)

-- the next call is one of those that fail, or finds no room
abbrev pub IsSinkFault : VecSink → List ℕ → Type 0
IsSinkFault sink piece = IsFull sink piece ⊎ Contains sink.fails.items (next_count sink.calls)

-- how many bytes of a piece a call takes: as many as there are, as may be taken at once, and as there
-- is room for
abbrev pub taken : VecSink → List ℕ → ℕ
taken sink piece = min (min (length piece) sink.piece) (sink.room - length sink.bytes.items)
