-- The objects that are there before the first step, and their names: numbered through, of node 255.
use Rattle.std.specs.Prelude.{ℕ, ◌+◌, ◌==◌, if◌then◌else◌, List, [], ◌∷◌, ◌++◌, length}
use Rattle.jvm_base.specs.Names.{named}
use Rattle.jvm_base.specs.declared.name.Name.{Name}
use Rattle.jvm_base.specs.declared.value.Value.{Value}
use Rattle.jvm_base.specs.declared.value.Value.TheVariants.{Ref}
use Rattle.jvm_base.specs.declared.value.ObjectBody.{ObjectBody}
use Rattle.jvm_base.specs.declared.value.ObjectBody.TheVariants.{Fields, Array, Text}
use Rattle.program_image.specs.declared.info.ClassInfo.{ClassInfo}
use Rattle.program_image.specs.Program.{Program}
use Rattle.program_image.specs.Words.{statics_of, zeros_of}
use Rattle.machine_state.specs.BootClasses.{class_class, string, system, print_stream, thread}
use Rattle.machine_state.specs.Classes.{array_class_over}

-- the node of names that no step makes
abbrev pub no_node : ℕ
no_node = 255

-- ---- names

-- the object that holds a class's statics and is its lock
abbrev pub holder : ℕ → Name
holder c = named no_node class_class c

-- a text of an index
abbrev pub text_name : ℕ → Name
text_name index = named no_node string index

-- the index behind the holders and the literals
abbrev pub behind_literals : Program → ℕ
behind_literals p = length p.classes + length p.literals

-- the PrintStream of `System.out`
abbrev pub stream : Program → Name
stream p = named no_node print_stream (behind_literals p)

-- the array that `main` is given
abbrev pub arguments : Program → Name
arguments p = named no_node (array_class_over p string) (behind_literals p + 1)

-- the Thread object of thread 0, behind so many texts of the arguments
abbrev pub main_thread : Program → ℕ → Name
main_thread p count = named no_node thread (behind_literals p + 2 + count)

-- ---- bodies

-- the statics of a class, where `System.out` is the stream
abbrev pub first_statics : Program → ℕ → List Value
first_statics p c = if c == system then Ref (stream p) ∷ [] else statics_of p c

-- the holders of these classes, the first of which has this number
abbrev pub holders : Program → ℕ → List ClassInfo → List (Name × ObjectBody)
holders p c [] = []
holders p c (k ∷ ks) = (holder c, Fields (first_statics p c)) ∷ holders p (c + 1) ks

-- Strings of these contents, the first of which has this index
abbrev pub texts : ℕ → List (List ℕ) → List (Name × ObjectBody)
texts index [] = []
texts index (us ∷ uss) = (text_name index, Text us) ∷ texts (index + 1) uss

-- references to these Strings
abbrev pub text_references : ℕ → List (List ℕ) → List Value
text_references index [] = []
text_references index (us ∷ uss) = Ref (text_name index) ∷ text_references (index + 1) uss

-- holders, literals, the stream, the argument array, its Strings, and the Thread object of thread 0
abbrev pub pre_made : Program → List (List ℕ) → List (Name × ObjectBody)
pre_made p args =
    holders p 0 p.classes
    ++ (texts (length p.classes) p.literals
    ++ ((stream p, Fields (zeros_of p print_stream))
    ∷ (arguments p, Array (text_references (behind_literals p + 2) args))
    ∷ (texts (behind_literals p + 2) args
    ++ (main_thread p (length args), Fields (zeros_of p thread)) ∷ [])))
