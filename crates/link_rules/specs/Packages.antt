-- The package of a class: its name up to the last `/` (JVMS2 5.3).
use Rattle.std.specs.Prelude.{ℕ, Bool, List, take, length, ◌==◌, slice_index, if◌then◌else◌, zero, suc}
use Rattle.class_names.specs.Known.{is_name}

-- the place of the last `/` among the first n units; 0 where there is none
abbrev pub last_slash : ℕ → List ℕ → ℕ
last_slash zero name = 0
last_slash (suc n) name = if slice_index name n == 47 then n else last_slash n name

abbrev pub package_of : List ℕ → List ℕ
package_of name = take (last_slash (length name) name) name

-- two classes are in one package
abbrev pub is_one_package : List ℕ → List ℕ → Bool
is_one_package a b = is_name (package_of a) (package_of b)
