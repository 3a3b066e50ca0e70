-- Descriptors that still lie in a text.
use Rattle.std.specs.Prelude.{◌≡◌, ◌==◌, ◌<◌, [], ◌∷◌, ◌++◌, length, option_map, Result, ℕ, List, nat_le, if◌then◌else◌, Option, Some, None, option_and_then}
use Rattle.std.specs.Borrow.{Bor}
use Rattle.jvm_base.specs.declared.units.NameErr.{NameErr}
use Rattle.jvm_base.specs.Reads.{told}
use Rattle.jvm_base.specs.Refusing.{want}
use Rattle.jvm_base.specs.Told.{Gives}
use Rattle.jvm_base.specs.declared.desc.Elem.{Elem}
use Rattle.jvm_base.specs.declared.desc.Elem.TheVariants as elem
use Rattle.jvm_base.specs.declared.desc.Desc.{Desc}
use Rattle.jvm_base.specs.declared.desc_text.SeenElem.{SeenElem}
use Rattle.jvm_base.specs.declared.desc_text.SeenElem.TheVariants.{Byte, Char, Double, Float, Int, Long, Short, Boolean, Object}
use Rattle.jvm_base.specs.declared.desc_text.SeenDesc.{SeenDesc}
use Rattle.jvm_base.specs.declared.desc_text.SeenArg.{SeenArg}
use Rattle.jvm_base.specs.declared.desc_text.SeenArg.TheVariants.{End, Next}
use Rattle.jvm_base.specs.Descriptors.{args_slots, args_of}
use Rattle.jvm_base.specs.Letters.{args_end}

-- the element type that a reader saw
abbrev pub seen_elem : SeenElem → Elem
seen_elem Byte = elem.Byte
seen_elem Char = elem.Char
seen_elem Double = elem.Double
seen_elem Float = elem.Float
seen_elem Int = elem.Int
seen_elem Long = elem.Long
seen_elem Short = elem.Short
seen_elem Boolean = elem.Boolean
seen_elem (Object name) = elem.Object name.now

-- the descriptor that a reader saw
abbrev pub seen_desc : SeenDesc → Desc
seen_desc d = record { dims = d.dims; elem = seen_elem d.elem }

-- the parameters, if they take at most so many slots
abbrev pub within : ℕ → Option (List Desc × List ℕ) → Option (List Desc × List ℕ)
within most read = option_and_then (λ x. if nat_le (args_slots x.0) most then Some x else None) read

-- what was read from the front, and what follows it, seen as lists
abbrev pub seen_rest : {X : Type 0} → X × Bor (List ℕ) → X × List ℕ
seen_rest x = (x.0, x.1.now)

-- what was read from the front, and what follows it, unless memory ran out
abbrev pub ReadsFirst : {X : Type 0} → NameErr → Result (X × Bor (List ℕ)) NameErr → Option (X × List ℕ) → Type 0
ReadsFirst refusal result read = Gives told seen_rest result (want read refusal)

-- one more parameter in front of those that follow it
abbrev pub with_args : List Desc → Option (List Desc × List ℕ) → Option (List Desc × List ℕ)
with_args front read = option_map (λ x. (front ++ x.0, x.1)) read

-- what follows a `)` at the front
abbrev pub after_args_of : List ℕ → Option (List ℕ)
after_args_of [] = None
after_args_of (u ∷ us) = if u == args_end then Some us else None

-- a first parameter, and the parameters after it
pub record IsNext (us : List ℕ) (room : ℕ) (desc : Desc) (left : ℕ) (rest : List ℕ) : Type 0 where
  pub all : within room (args_of us) ≡ with_args (desc ∷ []) (within left (args_of rest))
  pub shorter : length rest < length us

-- what stands at the front of parameters that may take so many slots
abbrev pub IsFirstOf : List ℕ → ℕ → Option SeenArg → Type 0
IsFirstOf us room None = within room (args_of us) ≡ None
IsFirstOf us room (Some (End rest)) = within room (args_of us) ≡ Some ([], rest.now)
IsFirstOf us room (Some (Next desc left rest)) = IsNext us room (seen_desc desc) left rest.now
