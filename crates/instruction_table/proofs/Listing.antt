-- Lists that are filled by a loop.
use Rattle.std.proofs.Common.{◌≡◌, ◌∙◌, ap, refl, ℕ, zero, suc, ◌+◌, ◌-◌, ◌<◌, List, [], ◌∷◌, ◌++◌, drop, length, arith, add-one}
use Rattle.std.specs.Prelude.{get_or, map, reverse, replicate}
use Rattle.std.proofs.lemmas.List.{drop_more}
use mathlib.Core.List.{reverse-cons}
use Rattle.jvm_base.specs.declared.desc.Desc.{Desc}
use Rattle.program_image.specs.Program.{Program}
use Rattle.instruction_table.specs.ClassTypes.{desc_type}
use Rattle.instruction_table.specs.Rows.{value}
use Rattle.instruction_table.specs.declared.row.Need.{Need}
use Rattle.instruction_table.specs.declared.row.Need.TheVariants.{Int}
use Rattle.instruction_table.specs.declared.rule.TheConstants as rule

-- what a call takes for the last n parameters
abbrev pub last_arguments : Program → ℕ → List Desc → List Need
last_arguments p n args = reverse (map (λ d. value rule.REFERENCE (desc_type p d)) (drop (length args - n) args))

-- one more, from the end
pub one_argument : (p : Program) (args : List Desc) (i : ℕ) (d : Desc) → i < length args → last_arguments p (i + 1) args ≡ last_arguments p i args ++ value rule.REFERENCE (desc_type p (get_or args (length args - 1 - i) d)) ∷ []
one_argument p args i d lt =
    let e : length args - (i + 1) ≡ length args - 1 - i = omega arith in
    let f : length args - 1 - i + 1 ≡ length args - i = omega arith in
    ap (λ k. reverse (map (λ z. value rule.REFERENCE (desc_type p z)) (drop k args))) e
    ∙ ap (λ zs. reverse (map (λ z. value rule.REFERENCE (desc_type p z)) zs)) (drop_more args (length args - 1 - i) d (omega arith))
    ∙ reverse-cons (value rule.REFERENCE (desc_type p (get_or args (length args - 1 - i) d))) (map (λ z. value rule.REFERENCE (desc_type p z)) (drop (length args - 1 - i + 1) args))
    ∙ ap (λ k. reverse (map (λ z. value rule.REFERENCE (desc_type p z)) (drop k args)) ++ value rule.REFERENCE (desc_type p (get_or args (length args - 1 - i) d)) ∷ []) f

pub no_arguments : (p : Program) (args : List Desc) → last_arguments p 0 args ≡ []
no_arguments p args = ap (λ zs. reverse (map (λ z. value rule.REFERENCE (desc_type p z)) zs)) (past (length args) args (omega arith))
  where
    past : (n : ℕ) (args : List Desc) → n ≡ length args → drop (n - 0) args ≡ []
    past n args e = rw (e, minus_none (length args)) (all args)
      where
        minus_none : (n : ℕ) → n - 0 ≡ n
        minus_none n = omega arith

        all : (xs : List Desc) → drop (length xs) xs ≡ []
        all [] = refl
        all (x ∷ xs) = all xs

pub all_arguments : (p : Program) (args : List Desc) (i : ℕ) → i ≡ length args → last_arguments p i args ≡ reverse (map (λ d. value rule.REFERENCE (desc_type p d)) args)
all_arguments p args i e = let f : length args - i ≡ 0 = omega arith in ap (λ k. reverse (map (λ d. value rule.REFERENCE (desc_type p d)) (drop k args))) f

-- one more of the same
pub one_size : (n : ℕ) → replicate n Int ++ Int ∷ [] ≡ replicate (n + 1) Int
one_size n = rw (add-one n) (more n)
  where
    more : (n : ℕ) → replicate n Int ++ Int ∷ [] ≡ replicate (suc n) Int
    more zero = refl
    more (suc n) = ap (λ xs. Int ∷ xs) (more n)
