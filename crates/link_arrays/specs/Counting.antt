-- Array types, up to the most classes of a program.
use Rattle.std.specs.Prelude.{◌≡◌, ℕ, ◌+◌, ◌<◌, ◌≤◌, true, List, length, nat_lt, Option, Some, None, Result, Ok, Err, if◌then◌else◌}
use Rattle.jvm_base.specs.declared.desc.Desc.{Desc}
use Rattle.jvm_base.specs.declared.desc.Elem.{Elem}
use Rattle.jvm_base.specs.Told.{Gives}
use Rattle.class_format.specs.declared.class.ClassFile.{ClassFile}
use Rattle.numbering.specs.Seen.{is_seen}
use Rattle.program_image.specs.Signatures.{same_desc}
use Rattle.link_arrays.specs.declared.error.ArraysErr.{ArraysErr}
use Rattle.link_arrays.specs.declared.error.ArraysErr.TheVariants.{TooMany, NoMemory}
use Rattle.link_arrays.specs.Arrays.{array, with_types, array_types}
use Rattle.link_arrays.specs.ArrayClasses.{class_limit}

-- what an error tells: want of memory tells nothing
abbrev pub told : ArraysErr → Option ArraysErr
told NoMemory = None
told e = Some e

-- these types, where they and so many declared classes aren't too many
abbrev pub counted : ℕ → List Desc → Result (List Desc) ArraysErr
counted declared types = if nat_lt class_limit (declared + length types) then Err TooMany else Ok types

-- the array types of a program of these files, likewise
abbrev pub arrays_of : ℕ → List ClassFile → Result (List Desc) ArraysErr
arrays_of declared files = counted declared (array_types files)

-- a call adds these types to those that were there, or refuses them all as too many
abbrev pub Adds : ℕ → List Desc → List Desc → Result (Unit {0}) ArraysErr → List Desc → Type 0
Adds declared old more result new = Gives told (λ _. new) result (counted declared (with_types old more))

-- the parts of each array type that are arrays are there too
pub record AreClosed (types : List Desc) : Type 0 where
  pub part : (dims : ℕ) (elem : Elem) → 0 < dims → is_seen same_desc types (array (dims + 1) elem) ≡ true → is_seen same_desc types (array dims elem) ≡ true

-- array types with their parts, which aren't too many so far
pub record AreSoFar (declared : ℕ) (types : List Desc) : Type 0 where
  pub closed : AreClosed types
  pub few : declared + length types ≤ class_limit
