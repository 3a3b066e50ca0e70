-- What a call of a native method does: one step, without a frame of its own.
use Rattle.std.specs.Prelude.{ℕ, ℤ, pos, Bool, false, ◌==◌, ◌||◌, if◌then◌else◌, int_lt, unsigned_abs, List, [], ◌∷◌, ◌++◌, codes, length, Some, None, slice_get}
use Rattle.std.specs.Fmt.{signed_decimal}
use Rattle.jvm_base.specs.Words.{from}
use Rattle.jvm_base.specs.declared.name.Name.{Name}
use Rattle.jvm_base.specs.declared.value.Value.{Value}
use Rattle.jvm_base.specs.declared.value.Value.TheVariants.{Int, Long, Ref, Null}
use Rattle.jvm_base.specs.declared.frame.Frame.{Frame}
use Rattle.program_image.specs.Program.{Program}
use Rattle.program_image.specs.Signatures.{same_text}
use Rattle.frame_ops.specs.Narrowing.{as_unit}
use Rattle.machine_state.specs.BootClasses.{string, null_pointer, string_index}
use Rattle.machine_state.specs.Bodies.{count_value}
use Rattle.machine_state.specs.Intrinsics.{Intrinsic, Shown, Letter, Truth, intrinsic_of, WaitOn, NotifyOne, NotifyAllOf, TextLength, CharAt, SameText, Concat, ValueOf, NewBuffer, BufferOf, Append, BufferText, BufferLength, Prints, PrintsLine, PrintsEnd, StartThread, JoinThread, CurrentThread, Sleep, Yield}
use Rattle.machine_state.specs.declared.request.Request.TheVariants.{MakeText, Wait, Notify, NotifyAll, Start, Join, Buffer, Print}
use Rattle.machine_state.specs.Next.{Next, Needs, Stuck, Who, fault, with_text, answers}

-- ---- arguments as texts

-- an int as a boolean: it is false where it is 0
abbrev pub truth_text : ℤ → List ℕ
truth_text a = if int_lt a (pos 0) || int_lt (pos 0) a then codes "true" else codes "false"

-- an int as a number, a char or a boolean
abbrev pub int_text : Shown → ℤ → List ℕ
int_text Letter a = as_unit a ∷ []
int_text Truth a = truth_text a
int_text _ a = signed_decimal a

-- what comes of the text of an argument; that of a null String is `null`
abbrev pub with_shown : Who → Shown → Value → (List ℕ → Next) → Next
with_shown who shown (Int a) f = f (int_text shown a)
with_shown who shown (Long a) f = f (signed_decimal a)
with_shown who shown (Ref n) f = with_text who n f
with_shown who shown Null f = f (codes "null")

-- a line's end
abbrev pub line_end : List ℕ
line_end = 10 ∷ []

-- ---- Strings

-- the unit at an index
abbrev pub char_at : Program → Frame → List ℕ → ℤ → Next
char_at p f us i =
    if int_lt i (pos 0) then fault string_index
    else from (fault string_index) (λ u. answers p f (Some (Int (pos u))))
    (slice_get us (unsigned_abs i))

-- a boolean as an int
abbrev pub bool_value : Bool → Value
bool_value b = Int (pos (if b then 1 else 0))

-- whether an object is a String of the same text
abbrev pub same_as : Program → Who → Frame → List ℕ → Value → Next
same_as p who f us (Ref n) =
    if n.class == string
    then with_text who n (λ ws. answers p f (Some (bool_value (same_text us ws))))
    else answers p f (Some (bool_value false))
same_as p who f us v = answers p f (Some (bool_value false))

-- a String with another behind it
abbrev pub joined : Who → List ℕ → Value → Next
joined who us (Ref n) = with_text who n (λ ws. Needs (MakeText (us ++ ws)))
joined who us v = fault null_pointer

-- ---- buffers

-- a buffer with the text of a String; `k` is the method's number
abbrev pub filled : Who → ℕ → Name → Value → Next
filled who k o (Ref n) = with_text who n (λ us. Needs (Buffer o k us))
filled who k o v = fault null_pointer

-- ---- all of them

-- with the values of the call, the receiver first, where there is one
abbrev pub intrinsic_call : Program → Who → ℕ → Frame → Intrinsic → List Value → Next
intrinsic_call p who k f WaitOn (Ref o ∷ vs) = Needs (Wait o)
intrinsic_call p who k f NotifyOne (Ref o ∷ vs) = Needs (Notify o)
intrinsic_call p who k f NotifyAllOf (Ref o ∷ vs) = Needs (NotifyAll o)
intrinsic_call p who k f TextLength (Ref o ∷ vs) =
    with_text who o (λ us. answers p f (Some (count_value (length us))))
intrinsic_call p who k f CharAt (Ref o ∷ Int i ∷ vs) = with_text who o (λ us. char_at p f us i)
intrinsic_call p who k f SameText (Ref o ∷ v ∷ vs) = with_text who o (λ us. same_as p who f us v)
intrinsic_call p who k f Concat (Ref o ∷ v ∷ vs) = with_text who o (λ us. joined who us v)
intrinsic_call p who k f ValueOf (Int a ∷ vs) = Needs (MakeText (signed_decimal a))
intrinsic_call p who k f ValueOf (Long a ∷ vs) = Needs (MakeText (signed_decimal a))
intrinsic_call p who k f NewBuffer (Ref o ∷ vs) = Needs (Buffer o k [])
intrinsic_call p who k f BufferOf (Ref o ∷ v ∷ vs) = filled who k o v
intrinsic_call p who k f (Append shown) (Ref o ∷ v ∷ vs) =
    with_shown who shown v (λ us. Needs (Buffer o k us))
intrinsic_call p who k f BufferText (Ref o ∷ vs) = Needs (Buffer o k [])
intrinsic_call p who k f BufferLength (Ref o ∷ vs) = Needs (Buffer o k [])
intrinsic_call p who k f (Prints shown) (Ref o ∷ v ∷ vs) =
    with_shown who shown v (λ us. Needs (Print us))
intrinsic_call p who k f (PrintsLine shown) (Ref o ∷ v ∷ vs) =
    with_shown who shown v (λ us. Needs (Print (us ++ line_end)))
intrinsic_call p who k f PrintsEnd (Ref o ∷ vs) = Needs (Print line_end)
intrinsic_call p who k f StartThread (Ref o ∷ vs) = Needs (Start o)
intrinsic_call p who k f JoinThread (Ref o ∷ vs) = Needs (Join o)
intrinsic_call p who k f CurrentThread vs = answers p f (Some (Ref who.object))
intrinsic_call p who k f Sleep vs = answers p f None
intrinsic_call p who k f Yield vs = answers p f None
intrinsic_call p who k f _ vs = Stuck

-- by its number
abbrev pub calls_intrinsic : Program → Who → ℕ → Frame → List Value → Next
calls_intrinsic p who k f vs = from Stuck (λ i. intrinsic_call p who k f i vs) (intrinsic_of k)
