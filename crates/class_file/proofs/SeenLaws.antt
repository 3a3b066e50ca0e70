-- A set of ranks has what a list of names and descriptors has.
use Rattle.std.proofs.Common.{◌≡◌, ℕ, List, [], ◌∷◌, ◌++◌, Bool, true, false, not, ◌&&◌, ◌||◌, cond, Some, slice_get, refl, sym, ◌∙◌}
use Rattle.std.specs.Prelude.{Ok, Err}
use Rattle.std.specs.BTreeMap.{is_at}
use Rattle.std.specs.BTreeSet.{BTreeSet, contains}
use Rattle.std.proofs.lemmas.List.Folds.{list_any-append}
use Rattle.jvm_base.specs.declared.pool.PoolItem.{PoolItem}
use Rattle.jvm_base.specs.declared.pool.PoolItem.TheVariants.{Gap}
use Rattle.constant_pool.specs.Items.{text_at, is_same_text}
use Rattle.class_format.specs.Judging.Keys.{key_cmp, key_ranks}
use Rattle.class_format.specs.Members.{is_among}
use Rattle.class_format.specs.declared.member_kind.MemberKind.{MemberKind}
use Rattle.class_format.proofs.KeyLaws.{same_key}
use Rattle.class_file.specs.Reading.Seen.{HasSeen}
use Rattle.class_file.specs.declared.error.ClassErr.TheVariants.{Twice}
use Rattle.class_format.specs.declared.member_kind.MemberHead.{MemberHead}
use Rattle.class_file.specs.Reading.Members.{head_at, new_head_at}
use Rattle.class_file.specs.Reading.Words.{Place, offset_of}

-- ---- one more

last : (a b : Bool) → (a || (b || false)) ≡ cond b true a
last true true = refl
last true false = refl
last false true = refl
last false false = refl

pub seen_more : (pool : List PoolItem) (gap : slice_get pool 0 ≡ Some Gap) (seen new : BTreeSet (ℕ × ℕ)) (keys : List (ℕ × ℕ)) (n d : ℕ) → HasSeen pool seen keys
    → ((q : ℕ × ℕ) → contains key_cmp new q ≡ cond (is_at (key_cmp (key_ranks pool (n, d))) q) true (contains key_cmp seen q))
    → HasSeen pool new (keys ++ (n, d) ∷ [])
seen_more pool gap seen new keys n d h updated m e =
    let test : ℕ × ℕ → Bool = λ k. is_same_text (text_at pool k.0) (text_at pool m) && is_same_text (text_at pool k.1) (text_at pool e) in
    let added : is_among pool (keys ++ (n, d) ∷ []) m e ≡ cond (test (n, d)) true (is_among pool keys m e) = list_any-append test keys ((n, d) ∷ []) ∙ last (is_among pool keys m e) (test (n, d)) in
    updated (key_ranks pool (m, e)) ∙ rw (same_key pool gap (n, d) (m, e), h m e) (sym added)

pub was_there : (added seen : Bool) → added ≡ not seen → added ≡ false → seen ≡ true
was_there added true e f = refl
was_there added false e f = absurd cc

pub was_new : (added seen : Bool) → added ≡ not seen → added ≡ true → seen ≡ false
was_new added true e f = absurd cc
was_new added false e f = refl

pub is_twice : (kind : MemberKind) (pool : List PoolItem) (keys : List (ℕ × ℕ)) (p : Place) (h : MemberHead) (q : Place) → head_at kind pool p ≡ Ok (h, q) → is_among pool keys h.name h.desc ≡ true → new_head_at kind pool keys p ≡ Err (Twice (offset_of p))
unfolding new_head_at
is_twice kind pool keys p h q e twice = rw (e, twice) refl

pub is_new : (kind : MemberKind) (pool : List PoolItem) (keys : List (ℕ × ℕ)) (p : Place) (h : MemberHead) (q : Place) → head_at kind pool p ≡ Ok (h, q) → is_among pool keys h.name h.desc ≡ false → new_head_at kind pool keys p ≡ Ok (h, q)
unfolding new_head_at
is_new kind pool keys p h q e new = rw (e, new) refl
