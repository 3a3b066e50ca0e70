-- Which method a call runs (JVMS2 6, invokevirtual and invokeinterface).
use Rattle.std.specs.Prelude.{ℕ, Bool, true, false, not, ◌&&◌, ◌||◌, ◌==◌, List, [], length, map, Option, Some, None, slice_get, slice_index, take, if◌then◌else◌}
use Rattle.std.proofs.Common.{zero, suc}
use Rattle.std.specs.Option.{option_to_list}
use Rattle.jvm_base.specs.Words.{from}
use Rattle.class_format.specs.KnownTexts.{is_clinit}
use Rattle.class_format.specs.Flags.{is_public, is_private, is_protected, is_static}
use Rattle.hierarchy.specs.Walks.{all_from, first_some}
use Rattle.program_image.specs.declared.info.ClassInfo.{ClassInfo}
use Rattle.program_image.specs.declared.info.MethodInfo.{MethodInfo}
use Rattle.program_image.specs.declared.info.Body.{Body}
use Rattle.program_image.specs.declared.info.Body.TheVariants.{Abstract}
use Rattle.program_image.specs.declared.select.Selected.{Selected}
use Rattle.program_image.specs.declared.select.Selected.TheVariants.{Found, NoBody, NoInterface, NotPublic}
use Rattle.program_image.specs.Signatures.{same_text, same_signature}
use Rattle.program_image.specs.Subclass.{is_sub_of}

-- the place of the last `/` among the first n units, and 0 where there is none
abbrev pub last_slash : ℕ → List ℕ → ℕ
last_slash zero name = 0
last_slash (suc n) name = if slice_index name n == 47 then n else last_slash n name

-- the package of a class: its name up to the last `/`
abbrev pub package_of : List ℕ → List ℕ
package_of name = take (last_slash (length name) name) name

-- the package of the class of a number
abbrev pub package_at : List ClassInfo → ℕ → List ℕ
package_at classes c = from [] (λ info. package_of info.name) (slice_get classes c)

-- a method is accessible from a class (JVMS2 5.4.4): a public one from each, a private one from its
-- own class, and any other from its package, a protected one from the classes below its own too
abbrev pub is_accessible : List ClassInfo → MethodInfo → ℕ → Bool
is_accessible classes m c =
    if is_public m.flags then true
    else (if is_private m.flags then m.owner == c else (same_text (package_at classes m.owner) (package_at classes c) || (is_protected m.flags && is_sub_of classes c m.owner)))

-- a call of the method has a receiver: `<clinit>` counts as static
abbrev pub is_instance : MethodInfo → Bool
is_instance m = not (is_static m.flags || is_clinit m.name)

-- an instance method of the called one's name and descriptor
abbrev pub is_like : List MethodInfo → ℕ → ℕ → Bool
is_like methods called m = from false (λ x. from false (λ y. is_instance y && same_signature y x) (slice_get methods m)) (slice_get methods called)

-- the method, where it is such a one
abbrev pub like_one : List MethodInfo → ℕ → ℕ → Option ℕ
like_one methods called m = if is_like methods called m then Some m else None

-- the methods that the class of a number declares
abbrev pub methods_of : List ClassInfo → ℕ → List ℕ
methods_of classes c = from [] (λ info. info.methods) (slice_get classes c)

-- such a one that a class declares
abbrev pub declared_by : List ClassInfo → List MethodInfo → ℕ → ℕ → Option ℕ
declared_by classes methods called c = first_some (like_one methods called) (methods_of classes c)

-- the same, where the called one is accessible from the class
abbrev pub open_in : List ClassInfo → List MethodInfo → ℕ → ℕ → Option ℕ
open_in classes methods called c = if from false (λ m. is_accessible classes m c) (slice_get methods called) then declared_by classes methods called c else None

-- the superclass of a class
abbrev pub over_class : ClassInfo → List ℕ
over_class info = option_to_list info.super_class

-- the class and its superclasses, upwards
abbrev pub supers : List ClassInfo → ℕ → List ℕ
supers classes c = all_from (map over_class classes) c

-- the first that is found from a class upwards
abbrev pub found_up : List ClassInfo → List MethodInfo → ℕ → ℕ → Option ℕ
found_up classes methods called c = first_some (open_in classes methods called) (supers classes c)

-- the method has nothing to run
abbrev pub is_abstract_body : Body → Bool
is_abstract_body Abstract = true
is_abstract_body _ = false

-- what a call does with the method that is found
abbrev pub chosen : Bool → ℕ → Option MethodInfo → Selected
chosen interface m None = NoBody
chosen interface m (Some found) = if is_abstract_body found.body then NoBody else (if interface && not (is_public found.flags) then NotPublic else Found m)

-- what a call of a method runs on a receiver of the class; `interface` says that an interface's
-- method is called
abbrev pub select_of : List ClassInfo → List MethodInfo → ℕ → ℕ → Bool → Selected
select_of classes methods c called interface =
    if interface && not (is_sub_of classes c (from 0 (λ m. m.owner) (slice_get methods called))) then NoInterface
    else from NoBody (λ m. chosen interface m (slice_get methods m)) (found_up classes methods called c)
