-- What changes of the map of owners say of monitors.
use Rattle.std.proofs.Common.{rules, ◌≡◌, ◌∙◌, sym, refl, ap, subst, ℕ, Bool, ◌&&◌, ◌==◌, Option, Some}
use Rattle.std.specs.Prelude.{IsSome}
use Rattle.std.specs.declared.cmp.Ordering.{Ordering}
use Rattle.std.specs.declared.cmp.Ordering.TheVariants.{Less, Equal, Greater}
use Rattle.std.specs.Ordering.{nat_cmp, is_eq, ordering_then}
use Rattle.std.specs.Map.{lookup}
use Rattle.std.specs.HashMap.{HashMap, UpdatesBy, WritesThrough}
use Rattle.std.proofs.Math.Path.{fun_ext}
use Rattle.jvm_base.specs.Names.{name_eq}
use Rattle.jvm_base.specs.declared.name.Name.{Name}
use Rattle.cluster_monitor.specs.declared.monitors.Held.{Held}
use Rattle.cluster_monitor.specs.Monitors.{Owners, owner_at, IsOwnedBy}

-- numbers that tie are equal
ties : (x y : ℕ) → is_eq (nat_cmp x y) ≡ (x == y)
ties x y = search rules

-- pairs tie where both parts do
then_ties : (a b : Ordering) → is_eq (ordering_then a b) ≡ (is_eq a && is_eq b)
then_ties Less b = refl
then_ties Equal b = refl
then_ties Greater b = refl

-- names that tie are equal part by part
name_ties : (a b : Name) → name_eq a b ≡ ((a.node == b.node) && ((a.class == b.class) && (a.index == b.index)))
name_ties a b =
    then_ties (nat_cmp a.node b.node) _ ∙ (ap (λ t. is_eq (nat_cmp a.node b.node) && t) (then_ties (nat_cmp a.class b.class) _ ∙ (ap (λ t. is_eq (nat_cmp a.class b.class) && t) (ties a.index b.index) ∙ ap (λ t. t && (a.index == b.index)) (ties a.class b.class))) ∙ ap (λ t. t && ((a.class == b.class) && (a.index == b.index))) (ties a.node b.node))

-- the two tests of names are one
pub one_test : (λ (a b : Name). (a.node == b.node) && ((a.class == b.class) && (a.index == b.index))) ≡ name_eq
one_test = fun_ext (λ a. fun_ext (λ b. sym (name_ties a b)))

-- a map in which one entry is set
pub is_owned : {S : Type 0} {n : Name} {w : Option Held} (eq : Name → Name → Bool) (m m' : HashMap Name Held S) {old : Owners} → eq ≡ name_eq → UpdatesBy eq (eq n) m m' w → m.entries ≡ old → IsOwnedBy n w old m'.entries
is_owned {S} {n} {w} eq m m' {old} t u e =
    let v = subst (λ x. UpdatesBy x (x n) m m' w) t u in record {
      owner = v.1;
      others = λ k h. rw (sym e) (v.2 k h);
    }

-- a map through an entry of which a value was written
pub is_written : {S : Type 0} {n : Name} {h : Held} (eq : Name → Name → Bool) (m m' : HashMap Name Held S) {old : Owners} → eq ≡ name_eq → WritesThrough eq (eq n) m h m' → IsSome (owner_at old n) → m.entries ≡ old → IsOwnedBy n (Some h) old m'.entries
is_written {S} {n} {h} eq m m' {old} t u s e =
    let there : IsSome (lookup (eq n) m.entries) = subst (λ x. IsSome (lookup (x n) m.entries)) (sym t) (subst (λ x. IsSome (owner_at x n)) (sym e) s) in
    is_owned eq m m' t (u.3 there) e
