-- What a table has for the texts of a pool.
use Rattle.std.proofs.Common.{◌≡◌, ℕ, ◌+◌, nat_lt, true, List, [], ◌∷◌, ◌++◌, length, get_or, Option, Some, None, slice_get, refl, sym, ap, ◌∙◌, subst}
use Rattle.std.proofs.lemmas.List.{length_push}
use Rattle.jvm_base.specs.declared.pool.PoolItem.{PoolItem}
use Rattle.jvm_base.specs.declared.pool.PoolItem.TheVariants.{NameAndKind}
use Rattle.class_names.specs.Texts.{text_in, class_text, member_of_pair, no_member}
use Rattle.link_rules.proofs.MarkLaws.{last_or_before}
use Rattle.link_uses.specs.TextNumbers.{AreOf, pair_of}
use Rattle.link_uses.proofs.ItemLaws.{got}

-- a table grows by one text
pub of_more : {A : Type 0} (f : List ℕ → A) (pool : List PoolItem) (told more : List A) (x : A) (index : ℕ) → length told ≡ index → AreOf f pool told → x ≡ f (text_in pool index) → more ≡ told ++ x ∷ [] → (length more ≡ index + 1) × AreOf f pool more
of_more {A} f pool told more x index n are same grown = (
  ap length grown ∙ length_push told x ∙ ap (λ k. k + 1) n,
  λ t y h.
      last_or_before told x y t (subst (λ (z : List A). slice_get z t ≡ Some y) grown h) (λ k z. z ≡ f (text_in pool k)) are (subst (λ k. x ≡ f (text_in pool k)) (sym n) same),
)

-- what it has at an index
pub of_there : {A : Type 0} (f : List ℕ → A) (pool : List PoolItem) (told : List A) (t : ℕ) (x : A) → AreOf f pool told → true ≡ nat_lt t (length told) → x ≡ get_or told t x → x ≡ f (text_in pool t)
of_there f pool told t x are within at = are t x (got told t x within at)

-- the member of a class and a pair
pub pair_some : (pool : List PoolItem) (class : ℕ) (o : Option PoolItem) (texts : ℕ × ℕ) → pair_of o ≡ Some texts → member_of_pair pool class o ≡ record { class = class_text pool class; name = text_in pool texts.0; desc = text_in pool texts.1 }
pair_some pool class (Some (NameAndKind name desc)) texts e =
    let s : (name, desc) ≡ texts = cc in
    ap (λ (t : ℕ × ℕ). record { class = class_text pool class; name = text_in pool t.0; desc = text_in pool t.1 }) s
pair_some pool class _ texts e = absurd cc

pub pair_none : (pool : List PoolItem) (class : ℕ) (o : Option PoolItem) → pair_of o ≡ None → member_of_pair pool class o ≡ no_member
pair_none pool class (Some (NameAndKind name desc)) e = absurd cc
pair_none pool class _ e = refl
