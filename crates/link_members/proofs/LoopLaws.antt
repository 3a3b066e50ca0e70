-- Where classes have ranks none lies above itself, and where none is refused they have.
use Rattle.std.proofs.Common.{◌≡◌, ℕ, ◌+◌, ◌<◌, ◌≤◌, Bool, true, false, List, [], ◌∷◌, ◌++◌, length, slice_index, ap, ◌∙◌, subst, refl, arith, inl, inr}
use Rattle.std.specs.List.{Contains}
use Rattle.std.proofs.lemmas.Bool.{cases_lt}
use Rattle.class_format.specs.declared.class.ClassFile.{ClassFile}
use Rattle.class_names.specs.Classes.{this_name}
use Rattle.hierarchy.specs.Hierarchy.{row_of, IsWithin, IsRanked, Under}
use Rattle.hierarchy.specs.Hierarchy.Under.{directly, over}
use Rattle.hierarchy.specs.Loops.{on_loop}
use Rattle.hierarchy.proofs.LoopLaws.{loop_under, under_loop}
use Rattle.hierarchy.proofs.Tests.{not_true}
use Rattle.std.proofs.Math.ListN.{get_or-eq_default}
use Rattle.link_rules.specs.declared.error.LinkWhy.TheVariants.{SuperLoop}
use Rattle.link_rules.specs.Answers.{refused_if}
use Rattle.link_rules.specs.Classes.{super_loop}
use Rattle.link_rules.specs.Numbers.{numbered}
use Rattle.link_members.specs.Rows.{IsFalling}

pub under_falls : (rows : List (List ℕ)) (ranks : List ℕ) (c d : ℕ) → IsRanked rows ranks → Under rows c d → slice_index ranks d < slice_index ranks c
under_falls rows ranks c d r (directly w) = r.falls c d w
under_falls rows ranks c d r (over {k = m} w u) = let a = r.falls c m w in let b = under_falls rows ranks m d r u in omega arith

-- where there are ranks, no class is refused
pub no_loops : (rows : List (List ℕ)) (ranks : List ℕ) (k : ℕ) (files : List ClassFile) → IsRanked rows ranks → numbered (super_loop rows) k files ≡ []
no_loops rows ranks k [] r = refl
no_loops rows ranks k (f ∷ files) r =
    let e : on_loop rows k ≡ false = not_true (on_loop rows k) (λ e. let f = under_falls rows ranks k k r (loop_under rows k e) in omega arith) in
    ap (λ b. refused_if b SuperLoop f (this_name f) ++ numbered (super_loop rows) (k + 1) files) e ∙ no_loops rows ranks (k + 1) files r

pub parts_none : {A : Type 0} (xs ys : List A) → xs ++ ys ≡ [] → (xs ≡ []) × (ys ≡ [])
parts_none [] ys e = (refl, e)
parts_none (x ∷ xs) ys e = absurd cc

one_refused : (b : Bool) (f : ClassFile) → b ≡ true → refused_if b SuperLoop f (this_name f) ≡ [] → ⊥
one_refused true f e h = absurd cc
one_refused false f e h = absurd cc

-- a class that lies above itself is refused
loop_refused : (rows : List (List ℕ)) (x k : ℕ) (files : List ClassFile) → IsWithin rows → Under rows x x → k ≤ x → x < k + length files → numbered (super_loop rows) k files ≡ [] → ⊥
loop_refused rows x k [] w u low high none = absurd (omega arith)
loop_refused rows x k (f ∷ files) w u low high none =
    let parts = parts_none (refused_if (on_loop rows k) SuperLoop f (this_name f)) (numbered (super_loop rows) (k + 1) files) none in
    elim (cases_lt k x) [
      | inl less ↦ loop_refused rows x (k + 1) files w u (omega arith) (omega arith) parts.1
      | inr more ↦
          let same : x ≡ k = omega arith in
          one_refused (on_loop rows k) f (under_loop rows k w (subst (λ z. Under rows z z) same u)) parts.0
    ]

first_falls : (rows : List (List ℕ)) (first c d : ℕ) → IsFalling rows first → c < first → Under rows c d → d < c
first_falls rows first c d f h (directly w) = f c d h w
first_falls rows first c d f h (over {k = m} w u) =
    let a = f c m h w in let b = first_falls rows first m d f (omega arith) u in omega arith

row_within : (rows : List (List ℕ)) (c k : ℕ) → Contains (row_of rows c) k → c < length rows
row_within rows c k w = elim (cases_lt c (length rows)) [
  | inl less ↦ less
  | inr more ↦ let e = get_or-eq_default rows [] {n = c} more in let none : Contains [] k = subst (λ z. Contains z k) e w in let l = none.1 in absurd (omega arith)
]

under_within : (rows : List (List ℕ)) (c d : ℕ) → Under rows c d → c < length rows
under_within rows c d (directly w) = row_within rows c d w
under_within rows c d (over {k = m} w u) = row_within rows c m w

-- where no class but the first ones has a row with higher numbers, and none of the others is refused, none lies above itself
pub none_above_itself : (rows : List (List ℕ)) (x k : ℕ) (files : List ClassFile) → IsWithin rows → IsFalling rows k → k + length files ≡ length rows → Under rows x x → numbered (super_loop rows) k files ≡ [] → ⊥
none_above_itself rows x k files w f n u none =
    let inside : x < length rows = under_within rows x x u in
    elim (cases_lt x k) [
      | inl less ↦ let fall = first_falls rows k x x f less u in omega arith
      | inr more ↦ loop_refused rows x k files w u (omega arith) (omega arith) none
    ]
