-- How fields, elements, lengths and buffers are served.
use Rattle.std.specs.Prelude.{ℕ, ℤ, pos, ◌%◌, ◌^◌, ◌==◌, nat_lt, Bool, true, false, if◌then◌else◌, int_lt, unsigned_abs, List, [], ◌∷◌, ◌++◌, length, Option, Some, None, slice_get}
use Rattle.std.specs.Int.{w32, cast_signed}
use Rattle.jvm_base.specs.Words.{from}
use Rattle.jvm_base.specs.declared.name.Name.{Name}
use Rattle.jvm_base.specs.declared.value.Value.{Value}
use Rattle.jvm_base.specs.declared.value.Value.TheVariants.{Int, Ref}
use Rattle.jvm_base.specs.declared.value.ObjectBody.{ObjectBody}
use Rattle.jvm_base.specs.declared.value.ObjectBody.TheVariants.{Fields, Array, Text}
use Rattle.program_image.specs.Buffers.{is_buffer}
use Rattle.program_image.specs.Program.{Program}
use Rattle.program_image.specs.Subclass.{is_sub_of, part_of}
use Rattle.machine_state.specs.BootClasses.{array_index, array_store}
use Rattle.machine_state.specs.Changes.{SetsField, SetsElement, SetsContent}
use Rattle.machine_state.specs.declared.request.Answer.TheVariants.{Gives}
use Rattle.machine_state.specs.Deeds.{Deed, quiet, reading, changing, faulted, making_text}
use Rattle.machine_state.specs.Events.{FieldOf, ElementOf, ContentOf, One, Content}
use Rattle.machine_state.specs.Intrinsics.{new_buffer, buffer_of, buffer_text, buffer_length}

-- a count as an int: its low 32 bits
abbrev pub count_value : ℕ → Value
count_value n = Int (cast_signed w32 (n % 2 ^ 32))

-- ---- fields

-- a field is read; one that isn't there isn't served
abbrev pub get : Name → ℕ → Option ObjectBody → Option Deed
get n i (Some (Fields vs)) =
    from None (λ v. Some (reading (FieldOf n i) (One v) (Some v))) (slice_get vs i)
get n i _ = None

-- a field is written
abbrev pub put : Name → ℕ → Value → Option ObjectBody → Option Deed
put n i v (Some (Fields vs)) =
    if nat_lt i (length vs) then Some (changing (SetsField n i v ∷ []) None) else None
put n i v _ = None

-- ---- elements

-- the element at an index
abbrev pub element_at : ℤ → List Value → Option Value
element_at i vs = if int_lt i (pos 0) then None else slice_get vs (unsigned_abs i)

-- an element is read; an index out of range raises
abbrev pub load : Program → Name → Name → ℤ → Option ObjectBody → Option Deed
load p name n i (Some (Array vs)) =
    Some (from (faulted p name array_index)
    (λ v. reading (ElementOf n (unsigned_abs i)) (One v) (Some v))
    (element_at i vs))
load p name n i _ = None

-- an array of the class takes the value
abbrev pub takes_value : Program → ℕ → Value → Bool
takes_value p c (Ref v) =
    from false (λ part. is_sub_of p.classes v.class part) (part_of p.classes c)
takes_value p c _ = true

-- an element is written; an index out of range raises, then a value that the array doesn't take
abbrev pub store : Program → Name → Name → ℤ → Value → Option ObjectBody → Option Deed
store p name n i v (Some (Array vs)) =
    Some (from (faulted p name array_index)
    (λ old. if takes_value p n.class v then changing (SetsElement n (unsigned_abs i) v ∷ []) None
    else faulted p name array_store)
    (element_at i vs))
store p name n i v _ = None

-- the length of an array
abbrev pub len : Option ObjectBody → Option Deed
len (Some (Array vs)) = Some (quiet (Some (count_value (length vs))))
len _ = None

-- ---- buffers

-- what an append answers: the buffer, but nothing where a constructor appends
abbrev pub appended : Name → ℕ → Option Value
appended n k = if k == buffer_of then None else Some (Ref n)

-- a text put at the end of a buffer's content
abbrev pub appending : Name → ℕ → List ℕ → List ℕ → Deed
appending n k us ts = record {
  makes = [];
  waiters = [];
  reads = (ContentOf n, Content ts) ∷ [];
  locks = [];
  changes = SetsContent n (ts ++ us) ∷ [];
  answer = Gives (appended n k);
}

-- a buffer's length
abbrev pub measuring : Name → List ℕ → Deed
measuring n ts = reading (ContentOf n) (Content ts) (Some (count_value (length ts)))

-- a method of a buffer by its number, with the buffer's content
abbrev pub buffer_by : Name → Name → ℕ → List ℕ → List ℕ → Deed
buffer_by name n k us ts =
    if k == new_buffer then quiet None
    else (if k == buffer_text then making_text name ((ContentOf n, Content ts) ∷ []) ts
    else (if k == buffer_length then measuring n ts
    else appending n k us ts))

-- a method of a buffer is called
abbrev pub buffer : Name → Name → ℕ → List ℕ → Option ObjectBody → Option Deed
buffer name n k us (Some (Text ts)) =
    if is_buffer n.class then Some (buffer_by name n k us ts) else None
buffer name n k us _ = None
