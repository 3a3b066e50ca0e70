-- A thread's last segment is the one at its last place.
use Rattle.std.proofs.Common.{◌≡◌, ◌∙◌, sym, subst, ◌+◌, ◌-◌, refl, ap, ℕ, zero, suc, ◌<◌, ◌||◌, Bool, true, false, List, [], ◌∷◌, length, drop, None, inl, inr, slice_set, arith, Option, Some}
use Rattle.std.specs.Prelude.{get_or, slice_get, OnSome}
use Rattle.std.specs.List.{list_any, remove}
use Rattle.std.proofs.lemmas.Bool.{cases_Bool}
use Rattle.std.proofs.lemmas.Option.{slice_get-get_or}
use Rattle.jvm_base.specs.Words.{from}
use Rattle.jvm_base.specs.declared.frame.Level.{Level}
use Rattle.thread_stacks.specs.Segments.{is_too_deep, top_of}
use Rattle.thread_stacks.specs.Running.LastPlaces.{is_at, IsLastPlace, IsLastAt, HasNone}
use Rattle.thread_stacks.specs.Stacks.{is_of, has_one, last_of, last_changed, last_gone, pushes_too_deep, top_level}
use Rattle.thread_stacks.specs.declared.segment.Segment.{Segment}

-- a test of what stands from a place on is one of the item there and of what stands behind it
pub any_back : {A : Type 0} (p : A → Bool) (xs : List A) (i : ℕ) → list_any p (drop i xs) ≡ (from false p (slice_get xs i) || list_any p (drop (suc i) xs))
any_back p [] zero = refl
any_back p [] (suc i) = refl
any_back p (x ∷ xs) zero = refl
any_back p (x ∷ xs) (suc i) = any_back p xs i

-- nothing stands from the end on
pub none_past : {A : Type 0} (p : A → Bool) (xs : List A) → list_any p (drop (length xs) xs) ≡ false
none_past p [] = refl
none_past p (x ∷ xs) = none_past p xs

-- what passes at a place passes somewhere
pub any_there : {A : Type 0} (p : A → Bool) (xs : List A) (i : ℕ) → from false p (slice_get xs i) ≡ true → list_any p xs ≡ true
any_there p [] zero e = absurd cc
any_there p [] (suc i) e = absurd cc
any_there p (x ∷ xs) zero e = rw e refl
any_there p (x ∷ xs) (suc i) e = elim (cases_Bool (p x)) [ inl h ↦ rw h refl | inr h ↦ rw h (any_there p xs i e) ]

-- the last segment
pub last_is_there : (t : ℕ) (ss : List Segment) (i : ℕ) → IsLastPlace t ss i → last_of t ss ≡ slice_get ss i
last_is_there t [] zero p = refl
last_is_there t [] (suc i) p = refl
last_is_there t (s ∷ ss) zero p = rw p.last (rw p.own refl)
last_is_there t (s ∷ ss) (suc i) p =
    let h : has_one t ss ≡ true = any_there (is_of t) ss i p.own in
    rw h (last_is_there t ss i (record { own = p.own; last = p.last }))

-- changed
pub change_is_there : (f : Segment → Segment) (t : ℕ) (ss : List Segment) (i : ℕ) (s : Segment) → IsLastPlace t ss i → last_changed f t ss ≡ slice_set ss i (f (get_or ss i s))
change_is_there f t [] zero s p = refl
change_is_there f t [] (suc i) s p = refl
change_is_there f t (r ∷ ss) zero s p = rw p.last (rw p.own refl)
change_is_there f t (r ∷ ss) (suc i) s p =
    let h : has_one t ss ≡ true = any_there (is_of t) ss i p.own in
    rw h (ap (λ rest. r ∷ rest) (change_is_there f t ss i s (record { own = p.own; last = p.last })))

-- taken away
pub gap_is_there : (t : ℕ) (ss : List Segment) (i : ℕ) → IsLastPlace t ss i → last_gone t ss ≡ remove ss i
gap_is_there t [] zero p = refl
gap_is_there t [] (suc i) p = refl
gap_is_there t (s ∷ ss) zero p = rw p.last (rw p.own refl)
gap_is_there t (s ∷ ss) (suc i) p =
    let h : has_one t ss ≡ true = any_there (is_of t) ss i p.own in
    rw h (ap (λ rest. s ∷ rest) (gap_is_there t ss i (record { own = p.own; last = p.last })))

-- of two tests that both fail
both_fail : (a b : Bool) → (a || b) ≡ false → (a ≡ false) × (b ≡ false)
both_fail false b e = (refl, e)
both_fail true b e = absurd cc

-- where there is none
pub none_is_last : (t : ℕ) (ss : List Segment) → has_one t ss ≡ false → last_of t ss ≡ None
none_is_last t [] e = refl
none_is_last t (s ∷ ss) e = let h = both_fail (is_of t s) (has_one t ss) e in rw h.1 (rw h.0 refl)

-- nothing is changed
pub none_is_changed : (f : Segment → Segment) (t : ℕ) (ss : List Segment) → has_one t ss ≡ false → last_changed f t ss ≡ ss
none_is_changed f t [] e = refl
none_is_changed f t (s ∷ ss) e = let h = both_fail (is_of t s) (has_one t ss) e in rw h.1 (rw h.0 refl)

-- nothing goes
pub none_is_gone : (t : ℕ) (ss : List Segment) → has_one t ss ≡ false → last_gone t ss ≡ ss
none_is_gone t [] e = refl
none_is_gone t (s ∷ ss) e = let h = both_fail (is_of t s) (has_one t ss) e in rw h.1 (rw h.0 refl)

-- a place where something stands is within
pub within_there : {A : Type 0} (p : A → Bool) (xs : List A) (i : ℕ) → from false p (slice_get xs i) ≡ true → i < length xs
within_there p [] zero e = absurd cc
within_there p [] (suc i) e = absurd cc
within_there p (x ∷ xs) zero e = omega arith
within_there p (x ∷ xs) (suc i) e = let h : i < length xs = within_there p xs i e in omega arith

-- all of a last place
pub is_last_at : (t : ℕ) (ss : List Segment) (i : ℕ) → IsLastPlace t ss i → IsLastAt t ss i
is_last_at t ss i p = record {
  within = within_there (is_of t) ss i p.own;
  some = any_there (is_of t) ss i p.own;
  last = last_is_there t ss i p;
  changed = λ f s. change_is_there f t ss i s p;
  gone = gap_is_there t ss i p;
}

-- all of none
pub has_none : (t : ℕ) (ss : List Segment) → has_one t ss ≡ false → HasNone t ss
has_none t ss e = record {
  none = e;
  last = none_is_last t ss e;
  changed = λ f. none_is_changed f t ss e;
  gone = none_is_gone t ss e;
}

-- one place further from the end
pub behind : (t : ℕ) (ss : List Segment) (n : ℕ) → n < length ss → has_one t (drop (length ss - n) ss) ≡ false → has_one t (drop (suc (length ss - 1 - n)) ss) ≡ false
behind t ss n lt h = let e : suc (length ss - 1 - n) ≡ length ss - n = omega arith in rw e h

-- and nothing there either
pub one_more : (t : ℕ) (ss : List Segment) (n : ℕ) → n < length ss → has_one t (drop (length ss - n) ss) ≡ false → is_at t ss (length ss - 1 - n) ≡ false → has_one t (drop (length ss - (n + 1)) ss) ≡ false
one_more t ss n lt h e =
    let q : length ss - (n + 1) ≡ length ss - 1 - n = omega arith in
    rw q (any_back (is_of t) ss (length ss - 1 - n) ∙ rw e (behind t ss n lt h))

-- where the segment there becomes what f makes of it, the segments are those with the last one changed
pub changed_to : (f : Segment → Segment) (t : ℕ) {ss items seen : List Segment} {i : ℕ} (s : Segment) {new : Segment} → IsLastAt t ss i → ss ≡ items → items ≡ seen → s ≡ get_or items i s → new ≡ f s → slice_set items i new ≡ last_changed f t seen
changed_to f t {ss} {items} {seen} {i} s {new} p a b e n =
    let r : IsLastAt t items i = subst (λ xs. IsLastAt t xs i) a p in
    let q : last_changed f t seen ≡ slice_set items i (f (get_or items i s)) = rw (sym b) (r.changed f s) in
    ap (λ x. slice_set items i x) (n ∙ ap f e) ∙ sym q

-- and a level pushed there is judged by the segment there
pub judged_there : (t : ℕ) (l : Level) {ss items seen : List Segment} {i : ℕ} (s : Segment) → IsLastAt t ss i → ss ≡ items → items ≡ seen → s ≡ get_or items i s → pushes_too_deep t l seen ≡ is_too_deep l s
judged_there t l {ss} {items} {seen} {i} s p a b e =
    let r : IsLastAt t items i = subst (λ xs. IsLastAt t xs i) a p in
    rw (sym b) (rw r.last (rw (slice_get-get_or items i s r.within) (ap (λ x. is_too_deep l x) (sym e))))

-- its top level is the thread's
pub top_there : (t : ℕ) {ss items seen : List Segment} {i : ℕ} (s : Segment) → IsLastAt t ss i → ss ≡ items → items ≡ seen → s ≡ get_or items i s → top_level t seen ≡ top_of s.levels
top_there t {ss} {items} {seen} {i} s p a b e =
    let r : IsLastAt t items i = subst (λ xs. IsLastAt t xs i) a p in
    rw (sym b) (rw r.last (rw (slice_get-get_or items i s r.within) (ap (λ x. top_of x.levels) (sym e))))

-- what stands at a place may be put there again
pub set_again : {A : Type 0} (xs : List A) (i : ℕ) (x : A) → x ≡ get_or xs i x → slice_set xs i x ≡ xs
set_again [] zero x e = refl
set_again [] (suc i) x e = refl
set_again (y ∷ xs) zero x e = ap (λ z. z ∷ xs) e
set_again (y ∷ xs) (suc i) x e = ap (λ zs. y ∷ zs) (set_again xs i x e)

-- what holds is said of an option too
pub said_of : {A : Type 0} (r : Option A) (P : Type 0) → P → OnSome r P
said_of None P p = tt
said_of (Some x) P p = p
