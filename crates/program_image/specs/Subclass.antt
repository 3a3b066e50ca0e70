-- Subclasses (JVMS2 2.6.7).
use Rattle.std.specs.Prelude.{◌≡◌, ℕ, Bool, false, ◌==◌, ◌||◌, List, ◌++◌, length, map, Option, Some, None, slice_get}
use Rattle.std.proofs.Common.{zero, suc}
use Rattle.std.specs.List.{Contains, list_any}
use Rattle.std.specs.Option.{option_to_list}
use Rattle.jvm_base.specs.Words.{from}
use Rattle.hierarchy.specs.Hierarchy.{row_of}
use Rattle.program_image.specs.declared.info.ClassInfo.{ClassInfo}

-- the superclass and the superinterfaces
abbrev pub above : ClassInfo → List ℕ
above info = option_to_list info.super_class ++ info.interfaces

-- the class of an array's parts
abbrev pub part_in : ClassInfo → Option ℕ
part_in info = from None (λ a. a.part) info.array

-- superclass, superinterfaces and part
abbrev pub all_above : ClassInfo → List ℕ
all_above info = above info ++ option_to_list (part_in info)

-- the class of the parts of the class of a number, where that is an array of references
abbrev pub part_of : List ClassInfo → ℕ → Option ℕ
part_of classes c = from None part_in (slice_get classes c)

-- The class is the other one, or what is directly above it is the other one or below that, or both are
-- arrays whose parts are so. It is the least such relation, being a `data`.
pub data IsSub (classes : List ClassInfo) : ℕ → ℕ → Type 0 where
  same : {c : ℕ} → IsSub classes c c
  up : {c k d : ℕ} → Contains (row_of (map above classes) c) k → IsSub classes k d → IsSub classes c d
  parts : {c d p q : ℕ} → part_of classes c ≡ Some p → part_of classes d ≡ Some q → IsSub classes p q → IsSub classes c d

-- a test of two numbers that are there
abbrev pub both : (ℕ → ℕ → Bool) → Option ℕ → Option ℕ → Bool
both f (Some p) (Some q) = f p q
both f (Some p) None = false
both f None q = false

-- the same as a test, over at most so many steps
unfoldable pub sub_by : ℕ → List ClassInfo → ℕ → ℕ → Bool
sub_by zero classes c d = c == d
sub_by (suc steps) classes c d =
    c == d || (list_any (λ k. sub_by steps classes k d) (row_of (map above classes) c) || both (sub_by steps classes) (part_of classes c) (part_of classes d))

-- where nothing lies above itself, one step more than there are classes is enough
unfoldable pub is_sub_of : List ClassInfo → ℕ → ℕ → Bool
is_sub_of classes c d = sub_by (suc (length classes)) classes c d
