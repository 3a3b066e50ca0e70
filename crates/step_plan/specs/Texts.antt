-- Arguments of intrinsics as texts.
use Rattle.std.specs.Prelude.{ℕ, List, codes, Option}
use Rattle.std.specs.Fmt.{signed_decimal}
use Rattle.jvm_base.specs.Words.{from}
use Rattle.jvm_base.specs.declared.name.Name.{Name}
use Rattle.jvm_base.specs.declared.value.Value.{Value}
use Rattle.jvm_base.specs.declared.value.Value.TheVariants.{Int, Long, Ref, Null}
use Rattle.machine_state.specs.Intrinsics as machine
use Rattle.machine_state.specs.IntrinsicCalls.{int_text}
use Rattle.step_plan.specs.declared.intrinsic.Shown.{Shown}
use Rattle.step_plan.specs.declared.intrinsic.Shown.TheVariants as shown
use Rattle.step_plan.specs.declared.intrinsic.Intrinsic.{Intrinsic}
use Rattle.step_plan.specs.declared.intrinsic.Intrinsic.TheVariants as told
use Rattle.step_plan.specs.declared.intrinsic.OnArgument.{OnArgument}
use Rattle.step_plan.specs.declared.intrinsic.OnArgument.TheVariants as argument
use Rattle.step_plan.specs.declared.intrinsic.OnObject.{OnObject}
use Rattle.step_plan.specs.declared.intrinsic.OnObject.TheVariants as object
use Rattle.step_plan.specs.declared.texts.Text.{Text}
use Rattle.step_plan.specs.declared.texts.Text.TheVariants.{Known, Wanted}

-- how an argument is shown
abbrev pub seen_shown : Shown → machine.Shown
seen_shown shown.Number = machine.Number
seen_shown shown.Letter = machine.Letter
seen_shown shown.Truth = machine.Truth
seen_shown shown.Words = machine.Words

-- an intrinsic on an object
abbrev pub seen_object : OnObject → machine.Intrinsic
seen_object object.Wait = machine.WaitOn
seen_object object.Notify = machine.NotifyOne
seen_object object.NotifyAll = machine.NotifyAllOf
seen_object object.Length = machine.TextLength
seen_object object.NewBuffer = machine.NewBuffer
seen_object object.BufferText = machine.BufferText
seen_object object.BufferLength = machine.BufferLength
seen_object object.PrintEnd = machine.PrintsEnd
seen_object object.Start = machine.StartThread
seen_object object.Join = machine.JoinThread

-- one on an object and an argument
abbrev pub seen_argument : OnArgument → machine.Intrinsic
seen_argument argument.CharAt = machine.CharAt
seen_argument argument.SameText = machine.SameText
seen_argument argument.Concat = machine.Concat
seen_argument argument.BufferOf = machine.BufferOf
seen_argument (argument.Append s) = machine.Append (seen_shown s)
seen_argument (argument.Print s) = machine.Prints (seen_shown s)
seen_argument (argument.PrintLine s) = machine.PrintsLine (seen_shown s)

-- each
abbrev pub seen : Intrinsic → machine.Intrinsic
seen told.ValueOf = machine.ValueOf
seen told.CurrentThread = machine.CurrentThread
seen told.Sleep = machine.Sleep
seen told.Yield = machine.Yield
seen (told.OnObject i) = seen_object i
seen (told.OnArgument i) = seen_argument i

-- the text of an object, where it is known
abbrev pub object_text : (Name → Option (List ℕ)) → Name → Text
object_text known n = from (Wanted n) Known (known n)

-- that of an argument
abbrev pub text_of : (Name → Option (List ℕ)) → machine.Shown → Value → Text
text_of known s (Int a) = Known (int_text s a)
text_of known s (Long a) = Known (signed_decimal a)
text_of known s (Ref n) = object_text known n
text_of known s Null = Known (codes "null")
