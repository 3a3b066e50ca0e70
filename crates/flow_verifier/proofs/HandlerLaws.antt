-- Handlers in a tree, and those of them that cover a place.
use Rattle.std.proofs.Common.{◌≡◌, ◌∙◌, sym, ap, subst, refl, ℕ, zero, suc, ◌≤◌, Bool, true, false, List, [], ◌∷◌, ◌++◌, length, slice_get, Some, inl, inr, arith}
use Rattle.std.specs.Prelude.{◌||◌, filter, cond, Contains, IsPermutation}
use Rattle.std.specs.List.{list_any}
use Rattle.std.proofs.lemmas.Bool.{cases_Bool}
use Rattle.std.proofs.lemmas.Bool.Decides.{nat_tests}
use Rattle.std.proofs.lemmas.List.Folds.{list_any-append}
use Rattle.std.proofs.lemmas.List.Elements.{filter-append}
use Rattle.std.proofs.lemmas.List.Sums.{length-filter}
use Rattle.std.proofs.lemmas.List.Sorted.{IsPermutation-sym, Contains-permutation, sum_by-IsPermutation}
use Rattle.std.proofs.lemmas.Option.{slice_get-get_or, slice_get_within, get_or_from_slice_get}
use Rattle.code_table.specs.declared.code.Placed.{Placed}
use Rattle.program_image.specs.Program.{Program}
use Rattle.flow_verifier.specs.declared.handler_tree.Span.{Span}
use Rattle.flow_verifier.specs.declared.method.Handler.{Handler}
use Rattle.flow_verifier.specs.declared.method.Method.{Method}
use Rattle.flow_verifier.specs.Methods.{ops_of}
use Rattle.flow_verifier.specs.Given.{covers}
use Rattle.flow_verifier.specs.Worklist.HandlerTrees.{includes, AreWithin}
use Rattle.flow_verifier.specs.Worklist.Ranges.{covers_place}
use Rattle.flow_verifier.specs.Worklist.Leading.{ways_caught}
use Rattle.flow_verifier.specs.Worklist.Catching.{AreCovering}
use Rattle.flow_verifier.proofs.CatchLaws.{covers_at}

-- ---- spans

within_wider : (small wide : Span) (hs : List Handler) → wide.start ≤ small.start → small.until ≤ wide.until → AreWithin small hs → AreWithin wide hs
within_wider small wide [] l u h = tt
within_wider small wide (x ∷ hs) l u h = let a = (h.0).0 in let b = (h.0).1 in ((omega arith, omega arith), within_wider small wide hs l u (h.1))

within_append : (span : Span) (hs gs : List Handler) → AreWithin span hs → AreWithin span gs → AreWithin span (hs ++ gs)
within_append span [] gs h g = g
within_append span (x ∷ hs) gs h g = (h.0, within_append span hs gs (h.1) g)

-- a span that is wider than two has the handlers of both
pub within_both : (one other wide : Span) (hs gs : List Handler) → wide.start ≤ one.start → wide.start ≤ other.start → one.until ≤ wide.until → other.until ≤ wide.until → AreWithin one hs → AreWithin other gs → AreWithin wide (hs ++ gs)
within_both one other wide hs gs a b c d h g = within_append wide hs gs (within_wider one wide hs a c h) (within_wider other wide gs b d g)

not_covered : (span : Span) (at : ℕ) (h : Handler) → includes span at ≡ false → span.start ≤ h.start → h.until ≤ span.until → covers at h ≡ false
not_covered span at h e l u = grind (arith, nat_tests)

-- no handler covers an address outside
pub none_covers_outside : (span : Span) (at : ℕ) (hs : List Handler) → includes span at ≡ false → AreWithin span hs → list_any (covers at) hs ≡ false
none_covers_outside span at [] e h = refl
none_covers_outside span at (x ∷ hs) e h = rw (not_covered span at x e ((h.0).0) ((h.0).1)) (none_covers_outside span at hs e (h.1))

none_found_outside : (span : Span) (at : ℕ) (hs : List Handler) → includes span at ≡ false → AreWithin span hs → filter (covers at) hs ≡ []
none_found_outside span at [] e h = refl
none_found_outside span at (x ∷ hs) e h = rw (not_covered span at x e ((h.0).0) ((h.0).1)) (none_found_outside span at hs e (h.1))

append_none : (hs gs : List Handler) → gs ≡ [] → hs ≡ hs ++ gs
append_none [] gs e = sym e
append_none (x ∷ hs) gs e = ap (λ z. x ∷ z) (append_none hs gs e)

pub none_added_outside : (span : Span) (at : ℕ) (found hs : List Handler) → includes span at ≡ false → AreWithin span hs → found ≡ found ++ filter (covers at) hs
none_added_outside span at found hs e h = append_none found (filter (covers at) hs) (none_found_outside span at hs e h)

pub any_parts : (at : ℕ) (hs gs : List Handler) → list_any (covers at) (hs ++ gs) ≡ (list_any (covers at) hs || list_any (covers at) gs)
any_parts at hs gs = list_any-append (covers at) hs gs

pub found_parts : (at : ℕ) (hs gs : List Handler) → filter (covers at) (hs ++ gs) ≡ filter (covers at) hs ++ filter (covers at) gs
found_parts at hs gs = filter-append (covers at) hs gs

-- ---- those that cover a place

-- what a filter lets through is on the list, and passes the test
filter_own : (test : Handler → Bool) (hs : List Handler) (k : ℕ) (h : Handler) → slice_get (filter test hs) k ≡ Some h → (test h ≡ true) × ((q : ℕ) × (slice_get hs q ≡ Some h))
filter_own test [] k h e = absurd cc
filter_own test (x ∷ hs) zero h e = elim (cases_Bool (test x)) [
  | inl p ↦ let f : Some x ≡ Some h = rw p at e in let g : x ≡ h = cc in (subst (λ z. test z ≡ true) g p, (zero, f))
  | inr p ↦ let (t, r) = filter_own test hs zero h (rw p at e) in let (q, w) = r in (t, (suc q, w))
]
filter_own test (x ∷ hs) (suc k) h e = elim (cases_Bool (test x)) [
  | inl p ↦ let (t, r) = filter_own test hs k h (rw p at e) in let (q, w) = r in (t, (suc q, w))
  | inr p ↦ let (t, r) = filter_own test hs (suc k) h (rw p at e) in let (q, w) = r in (t, (suc q, w))
]

-- a filter lets through what passes the test
filter_all : (test : Handler → Bool) (hs : List Handler) (q : ℕ) (h : Handler) → slice_get hs q ≡ Some h → test h ≡ true → (k : ℕ) × (slice_get (filter test hs) k ≡ Some h)
filter_all test [] q h e t = absurd cc
filter_all test (x ∷ hs) zero h e t = let f : x ≡ h = cc in let p : test x ≡ true = subst (λ z. test z ≡ true) (sym f) t in (zero, rw p e)
filter_all test (x ∷ hs) (suc q) h e t =
    let (k, w) = filter_all test hs q h e t in
    elim (cases_Bool (test x)) [
      | inl p ↦ (suc k, rw p w)
      | inr p ↦ (k, rw p w)
    ]

-- a list and its permutation have the same handlers
moved : (hs gs : List Handler) (q : ℕ) (h : Handler) → IsPermutation hs gs → slice_get hs q ≡ Some h → (k : ℕ) × (slice_get gs k ≡ Some h)
moved hs gs q h m e =
    let found : Contains gs h = Contains-permutation hs gs h m (q, slice_get_within hs q h e, get_or_from_slice_get hs q h h e) in
    let (k, inside, there) = found in
    (k, slice_get-get_or gs k h inside ∙ ap Some there)

count_moved : (test : Handler → Bool) (hs gs : List Handler) → IsPermutation hs gs → length (filter test gs) ≡ length (filter test hs)
count_moved test hs gs m = length-filter test gs ∙ (sum_by-IsPermutation (λ x. cond (test x) 1 0) hs gs m ∙ sym (length-filter test hs))

pub filter_alike : (hs : List Handler) (f g : Handler → Bool) → ((h : Handler) → f h ≡ g h) → length (filter f hs) ≡ length (filter g hs)
filter_alike [] f g e = refl
filter_alike (x ∷ hs) f g e =
    let r : length (filter f hs) ≡ length (filter g hs) = filter_alike hs f g e in
    elim (cases_Bool (g x)) [
      | inl p ↦ rw (e x, p) (ap suc r)
      | inr p ↦ rw (e x, p) r
    ]

-- those of all handlers in some order that cover an address cover the place of the address
pub covering : (p : Program) (m : Method) (at address : ℕ) (o : Placed) (all found : List Handler) → slice_get (ops_of p m.number) at ≡ Some o → o.at ≡ address → IsPermutation m.handlers all → found ≡ filter (covers address) all → AreCovering p m at found
unfolding ways_caught
covering p m at address o all found i a moves e =
    let same : (h : Handler) → covers_place (ops_of p m.number) at h ≡ covers address h = λ h. covers_at (ops_of p m.number) at address o h i a in record {
      own = λ k h w.
          let (t, r) = filter_own (covers address) all k h (ap (λ z. slice_get z k) (sym e) ∙ w) in
          let (q, there) = r in
          (same h ∙ t, moved all m.handlers q h (IsPermutation-sym m.handlers all moves) there);
      all = λ q h w t.
          let (j, there) = moved m.handlers all q h moves w in
          let (k, r) = filter_all (covers address) all j h there (sym (same h) ∙ t) in
          (k, ap (λ z. slice_get z k) e ∙ r);
      count = ap length e ∙ (count_moved (covers address) m.handlers all moves ∙ filter_alike m.handlers (covers address) (covers_place (ops_of p m.number) at) (λ h. sym (same h)));
    }
