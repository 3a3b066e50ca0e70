-- What a machine asks of a program, and that each accepted one has it.
use Rattle.std.specs.Prelude.{ℕ, List}
use Rattle.std.specs.List.{All}
use Rattle.class_format.specs.Meaning.{IsClass}
use Rattle.class_format.specs.declared.class.ClassFile.{ClassFile}
use Rattle.class_link.specs.Linked.{linked}
use Rattle.acceptance.specs.Accepted.{AreAccepted}
use Rattle.one_machine.specs.Ready.{CanRun}
use Rattle.step_soundness.specs.Waiting.{HaveCode}

-- what accepted class files are linked to can be run
abbrev pub RunnableLaw : Type 0
RunnableLaw = (files : List ClassFile) (main : List ℕ) →
    All IsClass files → AreAccepted files main → CanRun (linked files main)

-- and its initialisers of classes, `main` and the `run` of threads have code
abbrev pub HaveCodeLaw : Type 0
HaveCodeLaw = (files : List ClassFile) (main : List ℕ) →
    All IsClass files → AreAccepted files main → HaveCode (linked files main)
