-- The boot classes' native methods: which intrinsic is which (docs/BOOT.md).
use Rattle.std.specs.Prelude.{ℕ, List, [], ◌∷◌, Option, slice_get}

-- how an argument is shown as a text: an int or long in decimal, a char, a boolean, or a String
pub data Shown : Type 0 where
  Number : Shown
  Letter : Shown
  Truth : Shown
  Words : Shown

-- of Object, String, StringBuffer, PrintStream and Thread
pub data Intrinsic : Type 0 where
  WaitOn : Intrinsic
  NotifyOne : Intrinsic
  NotifyAllOf : Intrinsic
  TextLength : Intrinsic
  CharAt : Intrinsic
  SameText : Intrinsic
  Concat : Intrinsic
  ValueOf : Intrinsic
  NewBuffer : Intrinsic
  BufferOf : Intrinsic
  Append : Shown → Intrinsic
  BufferText : Intrinsic
  BufferLength : Intrinsic
  Prints : Shown → Intrinsic
  PrintsLine : Shown → Intrinsic
  PrintsEnd : Intrinsic
  StartThread : Intrinsic
  JoinThread : Intrinsic
  CurrentThread : Intrinsic
  Sleep : Intrinsic
  Yield : Intrinsic

-- each at its number
abbrev pub intrinsics : List Intrinsic
intrinsics =
    WaitOn ∷ NotifyOne ∷ NotifyAllOf
    ∷ TextLength ∷ CharAt ∷ SameText ∷ Concat ∷ ValueOf ∷ ValueOf
    ∷ NewBuffer ∷ BufferOf
    ∷ Append Number ∷ Append Number ∷ Append Letter ∷ Append Truth ∷ Append Words
    ∷ BufferText ∷ BufferLength
    ∷ Prints Number ∷ Prints Number ∷ Prints Letter ∷ Prints Truth ∷ Prints Words
    ∷ PrintsLine Number ∷ PrintsLine Number ∷ PrintsLine Letter ∷ PrintsLine Truth
    ∷ PrintsLine Words ∷ PrintsEnd
    ∷ StartThread ∷ JoinThread ∷ CurrentThread ∷ Sleep ∷ Yield ∷ []

-- the intrinsic of a number
abbrev pub intrinsic_of : ℕ → Option Intrinsic
intrinsic_of k = slice_get intrinsics k

-- ---- the numbers of those that a buffer is asked by

-- `<init>()V`
abbrev pub new_buffer : ℕ
new_buffer = 9

-- `<init>(Ljava/lang/String;)V`
abbrev pub buffer_of : ℕ
buffer_of = 10

-- `toString()Ljava/lang/String;`
abbrev pub buffer_text : ℕ
buffer_text = 16

-- `length()I`
abbrev pub buffer_length : ℕ
buffer_length = 17
