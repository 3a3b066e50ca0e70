-- A class and its superclasses, one after the other.
use Rattle.std.proofs.Common.{◌≡◌, ℕ, zero, suc, ◌+◌, ◌-◌, ◌<◌, ◌≤◌, List, [], ◌∷◌, ◌++◌, length, map, Option, Some, None, refl, sym, ap, subst, ◌∙◌, arith, append_assoc, add-one}
use Rattle.std.proofs.lemmas.List.{length-map, map-append}
use Rattle.std.specs.List.{flat_map}
use Rattle.std.specs.Option.{option_to_list}
use Rattle.hierarchy.specs.Hierarchy.{row_of}
use Rattle.hierarchy.specs.Walks.{walk, all_from}
use Rattle.program_image.specs.declared.info.ClassInfo.{ClassInfo}
use Rattle.program_image.specs.Selection.{over_class, supers}

-- the walk from a number, if there is one
abbrev pub walk_next : ℕ → List (List ℕ) → Option ℕ → List ℕ
walk_next n rows None = []
walk_next n rows (Some c) = walk n rows c

-- a list that nothing is put behind
pub behind_none : {A : Type 0} (xs : List A) → xs ++ [] ≡ xs
behind_none [] = refl
behind_none {A} (x ∷ xs) = ap (λ (ys : List A). x ∷ ys) (behind_none xs)

-- one row at most has one number
along : (n : ℕ) (rows : List (List ℕ)) (o : Option ℕ) → flat_map (walk n rows) (option_to_list o) ≡ walk_next n rows o
along n rows None = refl
along n rows (Some k) = behind_none (walk n rows k)

walk_one : (n : ℕ) (rows : List (List ℕ)) (c : ℕ) → walk (suc n) rows c ≡ c ∷ flat_map (walk n rows) (row_of rows c)
unfolding walk
walk_one n rows c = refl

-- the walk begins with the number, and goes on above it
pub walk_step : (n m : ℕ) (rows : List (List ℕ)) (c : ℕ) (o : Option ℕ) → option_to_list o ≡ row_of rows c → m ≡ suc n → walk m rows c ≡ c ∷ walk_next n rows o
walk_step n m rows c o e is =
    ap (λ (k : ℕ). walk k rows c) is ∙ walk_one n rows c
    ∙ ap (λ (row : List ℕ). c ∷ flat_map (walk n rows) row) (sym e)
    ∙ ap (λ (ws : List ℕ). c ∷ ws) (along n rows o)

walk_zero : (rows : List (List ℕ)) (c : ℕ) → walk 0 rows c ≡ []
unfolding walk
walk_zero rows c = refl

-- with no steps left there is nothing
pub walk_none : (rows : List (List ℕ)) (o : Option ℕ) (n : ℕ) → n ≡ 0 → walk_next n rows o ≡ []
walk_none rows None n e = refl
walk_none rows (Some c) n e = ap (λ (k : ℕ). walk k rows c) e ∙ walk_zero rows c

supers_are : (classes : List ClassInfo) (c : ℕ) → supers classes c ≡ walk (length (map over_class classes) + 2) (map over_class classes) c
unfolding all_from
supers_are classes c = refl

-- a class and its superclasses are a walk
pub supers_walk : (classes : List ClassInfo) (c n : ℕ) → n ≡ length classes + 2 → walk n (map over_class classes) c ≡ supers classes c
supers_walk classes c n e =
    ap (λ (k : ℕ). walk k (map over_class classes) c) (omega (arith, e, length-map classes over_class))
    ∙ sym (supers_are classes c)

-- ---- a loop over the classes upwards

-- at its start
pub walks_first : (classes : List ClassInfo) (list : List ℕ) (c n k : ℕ) → list ≡ [] → n ≡ length classes + 2 → k ≡ 0 → list ++ walk_next (n - k) (map over_class classes) (Some c) ≡ supers classes c
walks_first classes list c n k is e z =
    ap (λ (xs : List ℕ). xs ++ walk_next (n - k) (map over_class classes) (Some c)) is
    ∙ supers_walk classes c (n - k) (omega arith)

-- one step on
pub walks_on : (classes : List ClassInfo) (list all : List ℕ) (n k c : ℕ) (o : Option ℕ) → k < n → option_to_list o ≡ row_of (map over_class classes) c → list ++ walk_next (n - k) (map over_class classes) (Some c) ≡ all → (list ++ c ∷ []) ++ walk_next (n - (k + 1)) (map over_class classes) o ≡ all
walks_on classes list all n k c o lt row e =
    append_assoc list (c ∷ []) (walk_next (n - (k + 1)) (map over_class classes) o)
    ∙ ap (λ (ws : List ℕ). list ++ ws) (sym (walk_step (n - (k + 1)) (n - k) (map over_class classes) c o row (omega arith)))
    ∙ e

-- at its end, by steps or by classes
pub walks_last : (classes : List ClassInfo) (list all : List ℕ) (n k : ℕ) (o : Option ℕ) → n ≤ k → list ++ walk_next (n - k) (map over_class classes) o ≡ all → list ≡ all
walks_last classes list all n k o le e =
    sym (behind_none list)
    ∙ ap (λ (ws : List ℕ). list ++ ws) (sym (walk_none (map over_class classes) o (n - k) (omega arith)))
    ∙ e

pub walks_over : (classes : List ClassInfo) (list all : List ℕ) (n : ℕ) (o : Option ℕ) → o ≡ None → list ++ walk_next n (map over_class classes) o ≡ all → list ≡ all
walks_over classes list all n o is e =
    sym (behind_none list)
    ∙ ap (λ (p : Option ℕ). list ++ walk_next n (map over_class classes) p) (sym is)
    ∙ e
