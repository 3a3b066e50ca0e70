-- What a table tells of the texts of a pool.
use Rattle.std.proofs.Common.{◌≡◌, ℕ, ◌+◌, ◌<◌, List, [], ◌∷◌, ◌++◌, length, map, drop, get_or, Option, Some, None, slice_get, sym, ap, ◌∙◌, subst, add-one, drop-cons, append-nil, append_assoc}
use Rattle.std.specs.List.{filter_map, cons_option}
use Rattle.std.specs.Option.{option_to_list}
use Rattle.std.proofs.lemmas.List.{length_push}
use Rattle.jvm_base.specs.declared.pool.PoolItem.{PoolItem}
use Rattle.class_names.specs.Texts.{text_in}
use Rattle.link_rules.proofs.MarkLaws.{last_or_before}
use Rattle.link_members.specs.Told.{AreTold}

-- a table grows by one text
pub told_more : (number : List ℕ → Option ℕ) (pool : List PoolItem) (told more : List (Option ℕ)) (x : Option ℕ) (index : ℕ) → length told ≡ index → AreTold number pool told → x ≡ number (text_in pool index) → more ≡ told ++ x ∷ [] → (length more ≡ index + 1) × AreTold number pool more
told_more number pool told more x index n are same grown = (
  ap length grown ∙ length_push told x ∙ ap (λ k. k + 1) n,
  λ t y h.
      last_or_before told x y t (subst (λ (z : List (Option ℕ)). slice_get z t ≡ Some y) grown h) (λ k z. z ≡ number (text_in pool k)) are (subst (λ k. x ≡ number (text_in pool k)) (sym n) same),
)

-- a list that gains the number of one item more, where there is one
pub numbers_more : (number : List ℕ → Option ℕ) (text : ℕ → List ℕ) (items : List ℕ) (i : ℕ) (now new whole : List ℕ) → i < length items → new ≡ now ++ option_to_list (number (text (get_or items i 0))) → whole ≡ now ++ filter_map number (map text (drop i items)) → whole ≡ new ++ filter_map number (map text (drop (i + 1) items))
numbers_more number text items i now new whole h en e =
    let rest : List ℕ = filter_map number (map text (drop (i + 1) items)) in
    let front : drop i items ≡ get_or items i 0 ∷ drop (i + 1) items = rw (add-one, drop-cons items i 0) in
    e ∙ ap (λ z. now ++ filter_map number (map text z)) front ∙ one (number (text (get_or items i 0))) rest ∙ ap (λ z. z ++ rest) (sym en)
  where
    one : (o : Option ℕ) (rest : List ℕ) → now ++ cons_option o rest ≡ (now ++ option_to_list o) ++ rest
    one None rest = ap (λ z. z ++ rest) (sym (append-nil now))
    one (Some n) rest = sym (append_assoc now (n ∷ []) rest)
