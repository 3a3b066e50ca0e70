-- One type made another.
use Rattle.std.proofs.Common.{◌≡◌, ◌∙◌, ◌⊎◌, ◌==◌, sym, ap, refl, ℕ, true, false, List, [], ◌∷◌, ◌++◌, inl, inr, eqb→eq}
use Rattle.std.specs.Prelude.{map, reverse}
use Rattle.std.proofs.lemmas.Bool.{cases_Bool, eq-eqb}
use Rattle.std.proofs.lemmas.Float.{T_from_true}
use mathlib.Core.List.{reverse-cons, map-append}
use Rattle.flow_types.specs.declared.flow_type.FlowType.{FlowType}
use Rattle.flow_types.specs.declared.flow_type.FlowType.TheVariants.{Unusable, Int, Long, High, Null, Class, Array, Fresh, FreshThis}
use Rattle.shared_types.specs.Trees.{AreReplaced, longs, more_slots}
use Rattle.instruction_table.specs.Working.{begun, begun_one, is_same_new}
use Rattle.instruction_table.specs.Needs.{is_uninitialised, is_long}
use Rattle.instruction_table.proofs.Stacks.{short_slots}

reverse-map : (f : FlowType → FlowType) (xs : List FlowType) → reverse (map f xs) ≡ map f (reverse xs)
reverse-map f [] = refl
reverse-map f (x ∷ xs) =
    reverse-cons (f x) (map f xs) ∙ ap (λ ys. ys ++ (f x ∷ [])) (reverse-map f xs) ∙ sym (map-append f (reverse xs) (x ∷ [])) ∙ ap (map f) (sym (reverse-cons x xs))

pub reverse_begun : (was now : FlowType) (xs : List FlowType) → reverse (begun was now xs) ≡ begun was now (reverse xs)
reverse_begun was now xs = reverse-map (begun_one was now) xs

-- no long is of an object that isn't initialised
new_short : (was : FlowType) → is_same_new was Long ≡ false
new_short Unusable = refl
new_short Int = refl
new_short Long = refl
new_short High = refl
new_short Null = refl
new_short (Class c) = refl
new_short (Array d e) = refl
new_short (Fresh b) = refl
new_short FreshThis = refl

new_slots : (was t : FlowType) → is_same_new was t ≡ true → more_slots t ≡ 0
new_slots was Unusable e = refl
new_slots was Int e = refl
new_slots was Long e = let f : false ≡ true = sym (new_short was) ∙ e in absurd cc
new_slots was High e = refl
new_slots was Null e = refl
new_slots was (Class c) e = refl
new_slots was (Array d f) e = refl
new_slots was (Fresh b) e = refl
new_slots was FreshThis e = refl

-- what begins is no long, nor is what it becomes
short_begun : (was now t : FlowType) → is_long now ≡ false → more_slots (begun_one was now t) ≡ more_slots t
short_begun was now t h = elim (cases_Bool (is_same_new was t)) [
  | inl e ↦ rw e (short_slots now h ∙ sym (new_slots was t e))
  | inr e ↦ rw e refl
]

pub longs_begun : (was now : FlowType) (xs : List FlowType) → is_long now ≡ false → longs (begun was now xs) ≡ longs xs
longs_begun was now [] h = refl
longs_begun was now (x ∷ xs) h = rw (short_begun was now x h, longs_begun was now xs h) refl

pub never_unusable : (was : FlowType) → is_uninitialised was ≡ true → was ≡ Unusable → ⊥
never_unusable was h e = absurd (let f : is_uninitialised Unusable ≡ true = rw e at h in cc)

-- a type that isn't of an uninitialised object has no copies that are
not_new : (was t : FlowType) → is_uninitialised was ≡ false → is_same_new was t ≡ false
not_new Unusable t h = refl
not_new Int t h = refl
not_new Long t h = refl
not_new High t h = refl
not_new Null t h = refl
not_new (Class c) t h = refl
not_new (Array d e) t h = refl
not_new (Fresh a) t h = absurd cc
not_new FreshThis t h = absurd cc

pub none_begun : (was now : FlowType) (xs : List FlowType) → is_uninitialised was ≡ false → xs ≡ begun was now xs
none_begun was now [] h = refl
none_begun was now (x ∷ xs) h = rw (not_new was x h) (ap (λ ys. x ∷ ys) (none_begun was now xs h))

-- the two are of one object exactly where they are one type
is_same : (was t : FlowType) → is_uninitialised was ≡ true → t ≡ was → is_same_new was t ≡ true
is_same Unusable t h e = absurd cc
is_same Int t h e = absurd cc
is_same Long t h e = absurd cc
is_same High t h e = absurd cc
is_same Null t h e = absurd cc
is_same (Class c) t h e = absurd cc
is_same (Array d f) t h e = absurd cc
is_same (Fresh a) t h e = rw e (eq-eqb a a refl)
is_same FreshThis t h e = rw e refl

fresh_other : (a : ℕ) (t : FlowType) → (t ≡ Fresh a → ⊥) → is_same_new (Fresh a) t ≡ false
fresh_other a Unusable n = refl
fresh_other a Int n = refl
fresh_other a Long n = refl
fresh_other a High n = refl
fresh_other a Null n = refl
fresh_other a (Class c) n = refl
fresh_other a (Array d e) n = refl
fresh_other a (Fresh b) n =
    elim (cases_Bool (a == b)) [
      | inl q ↦ absurd (n (ap Fresh (sym (eqb→eq a b (T_from_true (a == b) q)))))
      | inr q ↦ q
    ]
fresh_other a FreshThis n = refl

this_other : (t : FlowType) → (t ≡ FreshThis → ⊥) → is_same_new FreshThis t ≡ false
this_other Unusable n = refl
this_other Int n = refl
this_other Long n = refl
this_other High n = refl
this_other Null n = refl
this_other (Class c) n = refl
this_other (Array d e) n = refl
this_other (Fresh b) n = refl
this_other FreshThis n = absurd (n refl)

is_other : (was t : FlowType) → is_uninitialised was ≡ true → (t ≡ was → ⊥) → is_same_new was t ≡ false
is_other Unusable t h n = absurd cc
is_other Int t h n = absurd cc
is_other Long t h n = absurd cc
is_other High t h n = absurd cc
is_other Null t h n = absurd cc
is_other (Class c) t h n = absurd cc
is_other (Array d f) t h n = absurd cc
is_other (Fresh a) t h n = fresh_other a t n
is_other FreshThis t h n = this_other t n

one_begun : (was now t u : FlowType) → is_uninitialised was ≡ true → (((t ≡ was) × (u ≡ now)) ⊎ ((t ≡ was → ⊥) × (u ≡ t))) → u ≡ begun_one was now t
one_begun was now t u h (inl (e, f)) = rw (is_same was t h e) f
one_begun was now t u h (inr (n, f)) = rw (is_other was t h n) f

pub all_begun : (was now : FlowType) (xs ys : List FlowType) → is_uninitialised was ≡ true → AreReplaced was now xs ys → ys ≡ begun was now xs
all_begun was now [] [] h r = refl
all_begun was now [] (y ∷ ys) h r = absurd r
all_begun was now (x ∷ xs) [] h r = absurd r
all_begun was now (x ∷ xs) (y ∷ ys) h (r, s) = rw (one_begun was now x y h r, all_begun was now xs ys h s) refl
