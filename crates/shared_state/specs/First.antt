-- What static fields hold at first, and what opens a program.
use Rattle.std.specs.Prelude.{◌≡◌, List, map, filter}
use Rattle.jvm_base.specs.Words.{from}
use Rattle.jvm_base.specs.declared.value.Value.{Value}
use Rattle.class_format.specs.Flags.{is_static}
use Rattle.program_image.specs.declared.info.FieldInfo.{FieldInfo}
use Rattle.program_image.specs.Words.{zero_of, zeros_of}
use Rattle.program_image.specs.Program.{Program}
use Rattle.machine_state.specs.BootClasses.{print_stream, thread}
use Rattle.machine_state.specs.PreMade.{arguments}
use Rattle.shared_state.specs.declared.start.Opening.{Opening}

-- its constant, or else the zero of its type
abbrev pub first_value : FieldInfo → Value
first_value f = from (zero_of f.desc) (λ v. v) f.constant

-- of the static fields among these, in their order
abbrev pub own_statics : List FieldInfo → List Value
own_statics fields = map first_value (filter (λ f. is_static f.flags) fields)

-- the array that `main` is given, and what the stream's and the first thread's objects hold
pub record IsOpening (p : Program) (o : Opening) : Type 0 where
  pub array_is : o.array ≡ arguments p
  pub stream_is : o.stream ≡ zeros_of p print_stream
  pub thread_is : o.thread ≡ zeros_of p thread
