-- What `new` and its like make: an object, or arrays of arrays, the outermost first and level by
-- level, under names whose indices follow one another (JVMS2 6, multianewarray).
use Rattle.std.specs.Prelude.{ℕ, zero, suc, ◌+◌, ◌*◌, ◌==◌, ◌||◌, if◌then◌else◌, List, [], ◌∷◌, ◌++◌, map, replicate, Some}
use Rattle.jvm_base.specs.Names.{named}
use Rattle.jvm_base.specs.Words.{from}
use Rattle.jvm_base.specs.declared.name.Name.{Name}
use Rattle.jvm_base.specs.declared.value.Value.{Value}
use Rattle.jvm_base.specs.declared.value.Value.TheVariants.{Ref}
use Rattle.jvm_base.specs.declared.value.ObjectBody.{ObjectBody}
use Rattle.jvm_base.specs.declared.value.ObjectBody.TheVariants.{Fields, Array, Text}
use Rattle.program_image.specs.Buffers.{is_buffer}
use Rattle.program_image.specs.Program.{Program}
use Rattle.program_image.specs.Subclass.{part_of}
use Rattle.program_image.specs.Words.{zeros_of}
use Rattle.machine_state.specs.BootClasses.{string}
use Rattle.machine_state.specs.Changes.{Made}
use Rattle.machine_state.specs.Classes.{element_zero}
use Rattle.machine_state.specs.declared.request.Answer.TheVariants.{Gives}
use Rattle.machine_state.specs.Deeds.{Deed}

-- references to so many objects of a class, the first of which has this index
abbrev pub references : ℕ → ℕ → ℕ → ℕ → List Value
references node c index zero = []
references node c index (suc n) = Ref (named node c index) ∷ references node c (index + 1) n

-- the class of the parts of an array class
abbrev pub part_class : Program → ℕ → ℕ
part_class p c = from 0 (λ k. k) (part_of p.classes c)

-- the elements of an array: arrays of the level below, or what its class has at first
abbrev pub elements : Program → ℕ → ℕ → ℕ → ℕ → List ℕ → List Value
elements p node c first size [] = replicate size (element_zero p c)
elements p node c first size (s ∷ ss) = references node (part_class p c) first size

-- so many arrays of one level, where `first` is the index of the first one's first element
abbrev pub arrays : Program → ℕ → ℕ → ℕ → ℕ → ℕ → List ℕ → List (Name × ObjectBody)
arrays p node c zero index first sizes = []
arrays p node c (suc n) index first [] = []
arrays p node c (suc n) index first (s ∷ below) =
    (named node c index, Array (elements p node c first s below))
    ∷ arrays p node c n (index + 1) (first + s) (s ∷ below)

-- the arrays of all levels, of which the first has so many
abbrev pub levels : Program → ℕ → ℕ → ℕ → ℕ → List ℕ → List (Name × ObjectBody)
levels p node c count index [] = []
levels p node c count index (s ∷ ss) =
    arrays p node c count index (index + count) (s ∷ ss)
    ++ levels p node (part_class p c) (count * s) (index + count) ss

-- a new object that is no array
abbrev pub new_body : Program → ℕ → ObjectBody
new_body p c = if is_buffer c || c == string then Text [] else Fields (zeros_of p c)

-- what is made: an object of a class without sizes, else its arrays
abbrev pub made_objects : Program → Name → ℕ → List ℕ → List (Name × ObjectBody)
made_objects p name c [] = (named name.node c name.index, new_body p c) ∷ []
made_objects p name c (s ∷ ss) = levels p name.node c 1 name.index (s ∷ ss)

-- these objects are made, and the first one is answered
abbrev pub making : Name → List (Name × ObjectBody) → Deed
making name objects = record {
  makes = map (λ o. o.0.class) objects;
  waiters = [];
  reads = [];
  locks = [];
  changes = map (λ o. Made o.0 o.1) objects;
  answer = Gives (Some (Ref name));
}
