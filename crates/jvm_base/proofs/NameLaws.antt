-- Only equal names tie.
use Rattle.std.proofs.Common.{◌≡◌, ℕ, true, ap, refl}
use Rattle.std.specs.declared.cmp.Ordering.{Ordering}
use Rattle.std.specs.declared.cmp.Ordering.TheVariants.{Less, Equal, Greater}
use Rattle.std.specs.Ordering.{nat_cmp, is_eq}
use Rattle.std.proofs.lemmas.Map.Lookups.{CmpEqualImpliesEq, exact_pairs, exact_unsigned}
use Rattle.jvm_base.specs.declared.name.Name.{Name}
use Rattle.jvm_base.specs.Names.{name_cmp, name_eq}

pub exact_names : CmpEqualImpliesEq name_cmp
exact_names a b h = ap (λ (p : ℕ × (ℕ × ℕ)). record { node = p.0; class = p.1.0; index = p.1.1 }) (exact_pairs nat_cmp _ exact_unsigned (exact_pairs nat_cmp nat_cmp exact_unsigned exact_unsigned) (a.node, (a.class, a.index)) (b.node, (b.class, b.index)) h)

is_equal : (o : Ordering) → is_eq o ≡ true → o ≡ Equal
is_equal Less e = absurd cc
is_equal Equal e = refl
is_equal Greater e = absurd cc

pub name_eq-true : (a b : Name) → name_eq a b ≡ true → a ≡ b
name_eq-true a b e = exact_names a b (is_equal (name_cmp a b) e)
