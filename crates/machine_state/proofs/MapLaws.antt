-- Look-ups in changed entries.
use Rattle.std.proofs.Common.{◌≡◌, Bool, cond, List, [], ◌∷◌, Some, None, refl, sym, ap, ◌∙◌, subst}
use Rattle.std.specs.declared.cmp.Ordering.{Ordering}
use Rattle.std.specs.declared.cmp.Ordering.TheVariants.{Less, Equal, Greater}
use Rattle.std.specs.Ordering.{eq_by_cmp, match_ordering}
use Rattle.std.specs.Cmp.{IsTotalOrder, eq_by_cmp_equiv}
use Rattle.std.specs.FinMap as map
use Rattle.std.specs.FinMap.Entries.{by_order, where_key}
use Rattle.std.specs.FinMap.Entries as entries
use Rattle.std.proofs.lemmas.Map.{lookup-set_value}
use Rattle.std.specs.Prelude.{IsSome}
use Rattle.jvm_base.specs.declared.name.Name.{Name}
use Rattle.jvm_base.specs.Names.{name_cmp, name_eq}
use Rattle.jvm_base.specs.Maps.{find, put, replace}
use Rattle.jvm_base.proofs.NameLaws.{name_eq-true}
use Rattle.machine_state.proofs.NameTests.{names_total}

module _ {K X : Type 0} (R : K → K → Ordering) where
  same_find : (q : K) (es : List (K × X)) → find R q es ≡ map.find R q es
  same_find q [] = refl
  same_find q (e ∷ es) = ap (cond (eq_by_cmp R q e.0) (Some e.1)) (same_find q es)

  same_put : (k : K) (v : X) (es : List (K × X)) → put R k v es ≡ map.put R k v es
  same_put k v [] = refl
  same_put k v (e ∷ es) = ap (λ r. match_ordering (R k e.0) ((k, v) ∷ e ∷ es) ((e.0, v) ∷ es) (e ∷ r)) (same_put k v es) ∙ by_cases (R k e.0)
    where
      by_cases : (o : Ordering) → match_ordering o ((k, v) ∷ e ∷ es) ((e.0, v) ∷ es) (e ∷ map.put R k v es) ≡ by_order o ((k, v) ∷ e ∷ es) ((e.0, v) ∷ es) (e ∷ map.put R k v es)
      by_cases Less = refl
      by_cases Equal = refl
      by_cases Greater = refl

  pub find-put : IsTotalOrder R → (q k : K) (v : X) (es : List (K × X)) → find R q (put R k v es) ≡ cond (eq_by_cmp R q k) (Some v) (find R q es)
  find-put o q k v es = ap (find R q) (same_put k v es) ∙ same_find q (map.put R k v es) ∙ entries.find-put R o q k v es ∙ ap (cond (eq_by_cmp R q k) (Some v)) (sym (same_find q es))

  pub find-where_key : (p : K → Bool) (q : K) → ((x : K) → R q x ≡ Equal → p x ≡ p q) → (es : List (K × X)) → find R q (where_key R p es) ≡ cond (p q) (find R q es) None
  find-where_key p q alike es = same_find q (where_key R p es) ∙ entries.find-where_key R p q alike es ∙ ap (λ o. cond (p q) o None) (sym (same_find q es))

-- a name that is there takes another value
pub find-replace : {X : Type 0} (n q : Name) (v b : X) (es : List (Name × X)) → find name_cmp n es ≡ Some b → find name_cmp q (replace name_cmp n v es) ≡ cond (name_eq q n) (Some v) (find name_cmp q es)
find-replace n q v b es e = lookup-set_value (eq_by_cmp_equiv names_total) (name_eq n) (λ x y t. ap (λ (z : Name). name_eq z y) (name_eq-true n x t)) q v es (subst (λ o. IsSome o) (sym e) refl) ∙ ap (λ t. cond t (Some v) (find name_cmp q es)) ((eq_by_cmp_equiv names_total).symm n q)
