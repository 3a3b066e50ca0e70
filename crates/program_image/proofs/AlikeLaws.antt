-- Classes that look alike by their texts.
use Rattle.std.proofs.Common.{◌≡◌, ℕ, zero, suc, ◌+◌, ◌<◌, Bool, true, false, nat_eq, cond, List, [], ◌∷◌, ◌++◌, length, take, Option, Some, None, slice_get, slice_index, inl, inr, refl, sym, ap, subst, ◌∙◌, arith}
use Rattle.std.specs.Prelude.{◌&&◌, if◌then◌else◌}
use Rattle.std.specs.Ordering.{is_eq, nat_cmp, ordering_then}
use Rattle.std.specs.BTreeMap.{is_at}
use Rattle.std.proofs.lemmas.Bool.Decides.{nat_tests}
use Rattle.std.proofs.lemmas.List.{take_more}
use Rattle.jvm_base.specs.Words.{from}
use Rattle.hierarchy.specs.Walks.{first_some, or_else}
use Rattle.hierarchy.proofs.WalkLaws.{first_append, or_else_none}
use Rattle.program_image.specs.declared.alike.By.{By}
use Rattle.program_image.specs.declared.info.ClassInfo.{ClassInfo}
use Rattle.program_image.specs.Named.{first_by}
use Rattle.program_image.specs.Signatures.{same_text}
use Rattle.program_image.specs.Built.Alike.{Seen, Alikes, glance, glance_cmp, candidates, text_of, with_text, first_alike, AreAlike}
use Rattle.program_image.proofs.MemberLaws.{then_equal, numbers_equal}
use Rattle.program_image.proofs.NameLaws.{first_next}
use Rattle.program_image.proofs.Signatures.{both_true, texts_decide}

-- ---- what is seen

-- numbers that compare equal are one
one_number : (a b : ℕ) → is_eq (nat_cmp a b) ≡ true → a ≡ b
one_number a b e = let q : nat_eq a b ≡ true = sym (numbers_equal a b) ∙ e in grind (arith, nat_tests)

-- what compares equal is one
seen_one : (a b : Seen) → is_at (glance_cmp a) b ≡ true → a ≡ b
seen_one a b e =
    let both = both_true (is_eq (nat_cmp a.0 b.0)) (is_eq (nat_cmp a.1 b.1)) (sym (then_equal (nat_cmp a.0 b.0) (nat_cmp a.1 b.1)) ∙ e) in
    let first : a.0 ≡ b.0 = one_number a.0 b.0 both.0 in
    let second : a.1 ≡ b.1 = one_number a.1 b.1 both.1 in
    ap (λ z. the_seen z a.1) first ∙ ap (the_seen b.0) second
  where
    the_seen : ℕ → ℕ → Seen
    the_seen n m = (n, m)

-- a number compares equal to itself
itself : (a : ℕ) → is_eq (nat_cmp a a) ≡ true
itself a = numbers_equal a a ∙ grind (arith, nat_tests)

-- what is seen compares equal to itself
seen_itself : (a : Seen) → is_at (glance_cmp a) a ≡ true
seen_itself a =
    then_equal (nat_cmp a.0 a.0) (nat_cmp a.1 a.1)
    ∙ ap (λ b. b && is_eq (nat_cmp a.1 a.1)) (itself a.0)
    ∙ itself a.1

-- ---- one more class

-- the list under what is seen takes one more, and the others stay
pub added : (seen other : Seen) (k : ℕ) (was kept now : Option (List ℕ)) (found : Option (List ℕ))
    → found ≡ None
    → now ≡ cond (is_at (glance_cmp seen) other) (Some (from [] (λ ks. ks) was ++ k ∷ [])) kept
    → from [] (λ ks. ks) now ≡ (if is_at (glance_cmp seen) other then from [] (λ ks. ks) was ++ k ∷ [] else from [] (λ ks. ks) kept)
added seen other k was kept now found f e = ap (from [] (λ ks. ks)) e ∙ by (is_at (glance_cmp seen) other)
  where
    by : (b : Bool) → from [] (λ ks. ks) (cond b (Some (from [] (λ ks. ks) was ++ k ∷ [])) kept) ≡ (if b then from [] (λ ks. ks) was ++ k ∷ [] else from [] (λ ks. ks) kept)
    by true = refl
    by false = refl

-- the first of the text among those that look like it, where one more class does
pub one_more : (by : By) (classes : List ClassInfo) (i : ℕ) (k : ClassInfo) (olds news : Alikes) → slice_get classes i ≡ Some k
    → ((other : Seen) → candidates news other ≡ candidates olds other ++ (if is_at (glance_cmp (glance (text_of by k))) other then i ∷ [] else []))
    → AreAlike by classes (take i classes) olds → AreAlike by classes (take (i + 1) classes) news
one_more by classes i k olds news at more before = λ text.
    let seen = glance (text_of by k) in
    let ask : ℕ → Option ℕ = with_text by classes text in
    let last : List ℕ = if is_at (glance_cmp seen) (glance text) then i ∷ [] else [] in
    let here : ask i ≡ (if same_text (text_of by k) text then Some i else None) = ap (λ o. if from false (λ info. same_text (text_of by info) text) o then Some i else None) at in
    ap (first_some ask) (more (glance text))
    ∙ first_append ask (candidates olds (glance text)) last
    ∙ ap (λ o. or_else o (first_some ask last)) (before text)
    ∙ ap (or_else (first_by (text_of by) text (take i classes))) (looked text (is_at (glance_cmp seen) (glance text)) refl here)
    ∙ first_next (text_of by) classes i k text at
  where
    nothing : (text : List ℕ) (b : Bool) → same_text (text_of by k) text ≡ b → is_at (glance_cmp (glance (text_of by k))) (glance text) ≡ false → None ≡ (if b then Some i else None)
    nothing text true s e =
        let same : text_of by k ≡ text = (texts_decide (text_of by k) text).0 s in
        let t : true ≡ false = sym (seen_itself (glance (text_of by k))) ∙ ap (λ z. is_at (glance_cmp (glance (text_of by k))) (glance z)) same ∙ e in
        absurd cc
    nothing text false s e = refl

    looked : (text : List ℕ) (b : Bool) → is_at (glance_cmp (glance (text_of by k))) (glance text) ≡ b
        → with_text by classes text i ≡ (if same_text (text_of by k) text then Some i else None)
        → first_some (with_text by classes text) (if b then i ∷ [] else []) ≡ (if same_text (text_of by k) text then Some i else None)
    looked text true e here = or_else_none (with_text by classes text i) ∙ here
    looked text false e here = nothing text (same_text (text_of by k) text) refl e

-- ---- the search

-- the first answer along a list, where there is none before it
pub first_here : (ask : ℕ → Option ℕ) (items : List ℕ) (i x : ℕ) → i < length items → first_some ask (take i items) ≡ None → ask (slice_index items i) ≡ Some x → Some x ≡ first_some ask items
first_here ask [] i x h none here = absurd (omega arith)
first_here ask (y ∷ ys) zero x h none here = ap (λ o. or_else o (first_some ask ys)) (sym here)
first_here ask (y ∷ ys) (suc i) x h none here = by (ask y) refl none (λ rest. first_here ask ys i x (omega arith) rest here)
  where
    by : (o : Option ℕ) → ask y ≡ o → or_else o (first_some ask (take i ys)) ≡ None → (first_some ask (take i ys) ≡ None → Some x ≡ first_some ask ys) → Some x ≡ or_else o (first_some ask ys)
    by (Some z) e n rest = absurd cc
    by None e n rest = rest n

-- one more item without an answer
pub none_more : (ask : ℕ → Option ℕ) (items : List ℕ) (i : ℕ) → i < length items → first_some ask (take i items) ≡ None → ask (slice_index items i) ≡ None → first_some ask (take (i + 1) items) ≡ None
none_more ask items i h none here =
    let x = slice_index items i in
    ap (first_some ask) (take_more items i 0 h) ∙ first_append ask (take i items) (x ∷ [])
    ∙ ap (λ o. or_else o (first_some ask (x ∷ []))) none ∙ or_else_none (ask x) ∙ here

-- a class that is there has the text or not
pub has_there : (by : By) (classes : List ClassInfo) (text : List ℕ) (c : ℕ) (k : ClassInfo) (b : Bool) → slice_get classes c ≡ Some k → b ≡ same_text (text_of by k) text → (if b then Some c else None) ≡ with_text by classes text c
has_there by classes text c k b at e =
    ap (λ t. if t then Some c else None) e ∙ sym (ap (λ o. if from false (λ info. same_text (text_of by info) text) o then Some c else None) at)

-- one that isn't there has none
pub has_none : (by : By) (classes : List ClassInfo) (text : List ℕ) (c : ℕ) → slice_get classes c ≡ None → None ≡ with_text by classes text c
has_none by classes text c at = sym (ap (λ o. if from false (λ info. same_text (text_of by info) text) o then Some c else None) at)

-- the items up to the length are all
pub all_items : (ask : ℕ → Option ℕ) (items : List ℕ) (n : ℕ) → length items ≡ n → first_some ask (take n items) ≡ None → first_some ask items ≡ None
all_items ask items n e none =
    let all : take n items ≡ items = ap (λ k. take k items) (sym e) ∙ take_all items in
    ap (first_some ask) (sym all) ∙ none
  where
    take_all : (xs : List ℕ) → take (length xs) xs ≡ xs
    take_all [] = refl
    take_all (x ∷ xs) = ap (λ ys. x ∷ ys) (take_all xs)
