-- Descriptors as texts, JVMS2 4.3.
use Rattle.std.specs.Prelude.{ℕ, ◌<◌, ◌≤◌, List, [], ◌∷◌, ◌++◌, length, take, drop, replicate, position, sum_by, Bool, false, not, ◌&&◌, ◌==◌, nat_lt, nat_le, IsTrue, if◌then◌else◌, Option, Some, None, option_map, option_and_then, suc, zero}
use Rattle.std.specs.Option.{option_map_or}
use Rattle.std.specs.List.{flat_map, list_all, AllByRecursion}
use Rattle.jvm_base.specs.Letters.{byte_letter, char_letter, double_letter, float_letter, int_letter, long_letter, class_letter, short_letter, boolean_letter, void_letter, array_letter, class_end, args_begin, args_end}
use Rattle.jvm_base.specs.declared.desc.Elem.{Elem}
use Rattle.jvm_base.specs.declared.desc.Elem.TheVariants.{Byte, Char, Double, Float, Int, Long, Short, Boolean, Object}
use Rattle.jvm_base.specs.declared.desc.Desc.{Desc}
use Rattle.jvm_base.specs.declared.desc.MethodDesc.{MethodDesc}

-- ---- the spelling

-- the text of an element type: one letter, or a class name between `L` and `;`
abbrev pub elem_text : Elem → List ℕ
elem_text Byte = byte_letter ∷ []
elem_text Char = char_letter ∷ []
elem_text Double = double_letter ∷ []
elem_text Float = float_letter ∷ []
elem_text Int = int_letter ∷ []
elem_text Long = long_letter ∷ []
elem_text Short = short_letter ∷ []
elem_text Boolean = boolean_letter ∷ []
elem_text (Object name) = class_letter ∷ name ++ class_end ∷ []

-- a `[` for each dimension, and the element type
abbrev pub desc_text : Desc → List ℕ
desc_text d = replicate d.dims array_letter ++ elem_text d.elem

-- descriptors one behind the other
abbrev pub args_text : List Desc → List ℕ
args_text ds = flat_map desc_text ds

-- the type of a result, or `V`
abbrev pub return_text : Option Desc → List ℕ
return_text None = void_letter ∷ []
return_text (Some d) = desc_text d

-- parameters in brackets, and the result
abbrev pub method_text : MethodDesc → List ℕ
method_text m = args_begin ∷ args_text m.args ++ args_end ∷ return_text m.ret

-- ---- slots

-- a long or double takes two slots
abbrev pub elem_slots : Elem → ℕ
elem_slots Double = 2
elem_slots Long = 2
elem_slots _ = 1

-- the local variables that a value takes: an array takes one
abbrev pub desc_slots : Desc → ℕ
desc_slots d = if d.dims == 0 then elem_slots d.elem else 1

-- the slots of all parameters
abbrev pub args_slots : List Desc → ℕ
args_slots ds = sum_by desc_slots ds

-- ---- what has a spelling

-- a class's name in a descriptor isn't empty, and has no `;` and no `[`
abbrev pub is_class_name : List ℕ → Bool
is_class_name us = nat_lt 0 (length us) && list_all (λ u. not (u == class_end) && not (u == array_letter)) us

-- a class name that can stand in a descriptor
abbrev pub IsElem : Elem → Type 0
IsElem (Object name) = IsTrue (is_class_name name)
IsElem _ = Unit {0}

-- an element type in at most 255 dimensions
pub record IsDesc (d : Desc) : Type 0 where
  pub dims : d.dims < 256
  pub elem : IsElem d.elem

-- a result, or none for `V`
abbrev pub IsReturn : Option Desc → Type 0
IsReturn None = Unit {0}
IsReturn (Some d) = IsDesc d

-- parameters take at most 255 slots, no receiver counted
pub record IsMethodDesc (m : MethodDesc) : Type 0 where
  pub args : AllByRecursion IsDesc m.args
  pub slots : args_slots m.args ≤ 255
  pub ret : IsReturn m.ret

-- ---- the reading

-- the element type of one letter
abbrev pub letter_elem : ℕ → Option Elem
letter_elem u =
    if u == byte_letter then Some Byte
    else (if u == char_letter then Some Char
    else (if u == double_letter then Some Double
    else (if u == float_letter then Some Float
    else (if u == int_letter then Some Int
    else (if u == long_letter then Some Long
    else (if u == short_letter then Some Short
    else (if u == boolean_letter then Some Boolean
    else None)))))))

-- a class's name up to the first `;`, and what follows that
abbrev pub name_at : List ℕ → Option (Elem × List ℕ)
name_at us = option_and_then
    (λ i. if is_class_name (take i us) then Some (Object (take i us), drop (suc i) us) else None)
    (position (λ u. u == class_end) us)

-- an element type at the front, and what follows it
unfoldable pub elem_at : List ℕ → Option (Elem × List ℕ)
elem_at [] = None
elem_at (u ∷ us) = if u == class_letter then name_at us else option_map (λ e. (e, us)) (letter_elem u)

-- a descriptor of a field at the front, and what follows it
unfoldable pub desc_at : List ℕ → Option (Desc × List ℕ)
desc_at us = option_and_then
    (λ n. if nat_lt n 256 then option_map (λ x. (record { dims = n; elem = x.0 }, x.1)) (elem_at (drop n us)) else None)
    (position (λ u. not (u == array_letter)) us)

-- what was read, where nothing follows it
abbrev pub whole : {X : Type 0} → X × List ℕ → Option X
whole x = if length x.1 == 0 then Some x.0 else None

-- the descriptor of a field that a text is
unfoldable pub desc_of : List ℕ → Option Desc
desc_of us = option_and_then whole (desc_at us)

-- parameters up to the `)`, of which there are fewer than `most`, and what follows it
unfoldable pub args_at : (most : ℕ) → List ℕ → Option (List Desc × List ℕ)
args_at zero us = None
args_at (suc most) [] = None
args_at (suc most) (u ∷ us) =
    if u == args_end then Some ([], us)
    else option_and_then (λ x. option_map (λ y. (x.0 ∷ y.0, y.1)) (args_at most x.1)) (desc_at (u ∷ us))

-- all parameters at the front, and what follows them
abbrev pub args_of : List ℕ → Option (List Desc × List ℕ)
args_of us = args_at (length us) us

-- a text that is `V`
abbrev pub is_void : List ℕ → Bool
is_void [] = false
is_void (u ∷ us) = u == void_letter && (length us == 0)

-- the result that a text is
abbrev pub return_of : List ℕ → Option (Option Desc)
return_of us = if is_void us then Some None else option_map Some (desc_of us)

-- the method of these parameters and result, where the parameters fit
abbrev pub method_if : List Desc → Option Desc → Option MethodDesc
method_if args ret = if nat_le (args_slots args) 255 then Some (record { args = args; ret = ret }) else None

-- the descriptor of a method that a text is
unfoldable pub method_of : List ℕ → Option MethodDesc
method_of [] = None
method_of (u ∷ us) =
    if u == args_begin then option_and_then (λ x. option_and_then (method_if x.0) (return_of x.1)) (args_of us)
    else None

-- whether a text is the descriptor of a method whose parameters take at most so many slots
abbrev pub is_method_of : List ℕ → ℕ → Bool
is_method_of us most = option_map_or (λ m. nat_le (args_slots m.args) most) (method_of us) false
