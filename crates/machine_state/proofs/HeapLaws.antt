-- What lies at the places of a changed heap.
use Rattle.std.proofs.Common.{◌≡◌, ◌≢◌, ◌⊎◌, inl, inr, ℕ, Bool, true, false, cond, ◌&&◌, ◌==◌, if◌then◌else◌, List, Option, Some, None, refl, sym, ap, ◌∙◌}
use Rattle.std.specs.Prelude.{slice_get, slice_set}
use Rattle.jvm_base.specs.declared.name.Name.{Name}
use Rattle.jvm_base.specs.declared.value.Value.{Value}
use Rattle.jvm_base.specs.declared.value.ObjectBody.{ObjectBody}
use Rattle.jvm_base.specs.declared.value.ObjectBody.TheVariants.{Fields, Array, Text}
use Rattle.jvm_base.specs.Maps.{put, replace}
use Rattle.jvm_base.proofs.NameLaws.{name_eq-true}
use Rattle.machine_state.proofs.MapLaws.{find-put, find-replace}
use Rattle.jvm_base.specs.Names.{name_cmp, name_eq}
use Rattle.jvm_base.specs.Words.{from}
use Rattle.program_image.specs.Buffers.{is_buffer}
use Rattle.machine_state.specs.State.{Heap, body_at}
use Rattle.machine_state.specs.Events.{Place, FieldOf, ElementOf, ContentOf, Held, One, Content, one_held, place_name, part_in, held_at}
use Rattle.machine_state.specs.Changes.{with_field, with_element, with_content, altered}
use Rattle.machine_state.specs.Accesses.{place_eq}
use Rattle.machine_state.proofs.NameTests.{names_total, same_or, test_true, test_false, not_both, set_same, set_other}

-- at a heap with one body put
pub held_put : (heap : Heap) (n : Name) (b : ObjectBody) (p : Place) → held_at (put name_cmp n b heap) p ≡ cond (name_eq (place_name p) n) (part_in p b) (held_at heap p)
held_put heap n b p = ap (from None (part_in p)) (find-put name_cmp names_total (place_name p) n b heap) ∙ by_test (name_eq (place_name p) n)
  where
    by_test : (t : Bool) → from None (part_in p) (cond t (Some b) (body_at heap (place_name p))) ≡ cond t (part_in p b) (held_at heap p)
    by_test true = refl
    by_test false = refl

-- and with one with_top
held_replaced : (heap : Heap) (n : Name) (old b : ObjectBody) (p : Place) → body_at heap n ≡ Some old → held_at (replace name_cmp n b heap) p ≡ cond (name_eq (place_name p) n) (part_in p b) (held_at heap p)
held_replaced heap n old b p e = ap (from None (part_in p)) (find-replace n (place_name p) b old heap e) ∙ by_test (name_eq (place_name p) n)
  where
    by_test : (t : Bool) → from None (part_in p) (cond t (Some b) (body_at heap (place_name p))) ≡ cond t (part_in p b) (held_at heap p)
    by_test true = refl
    by_test false = refl

-- a place that equals another is of the same name
pub same_owner : (p q : Place) → place_eq p q ≡ true → name_eq (place_name p) (place_name q) ≡ true
same_owner (FieldOf n i) (FieldOf m j) e = first (name_eq n m) (i == j) e
  where
    first : (a b : Bool) → (a && b) ≡ true → a ≡ true
    first true b e = refl
    first false b e = e
same_owner (ElementOf n i) (ElementOf m j) e = first (name_eq n m) (i == j) e
  where
    first : (a b : Bool) → (a && b) ≡ true → a ≡ true
    first true b e = refl
    first false b e = e
same_owner (ContentOf n) (ContentOf m) e = e
same_owner (FieldOf n i) (ElementOf m j) e = absurd cc
same_owner (FieldOf n i) (ContentOf m) e = absurd cc
same_owner (ElementOf n i) (FieldOf m j) e = absurd cc
same_owner (ElementOf n i) (ContentOf m) e = absurd cc
same_owner (ContentOf n) (FieldOf m j) e = absurd cc
same_owner (ContentOf n) (ElementOf m j) e = absurd cc

-- a change of bodies that sets one place, and keeps what else is held
pub record SetsPlace (f : ObjectBody → ObjectBody) (p : Place) (h : Held) : Type 0 where
  pub sets : (q : Place) (b : ObjectBody) (g : Held) → name_eq (place_name q) (place_name p) ≡ true → part_in q (f b) ≡ Some g → cond (place_eq q p) (Some h) (part_in q b) ≡ Some g

-- what an item holds after one of the list was set
item_set : (vs : List Value) (i j : ℕ) (v : Value) (g : Held) → one_held (slice_get (slice_set vs i v) j) ≡ Some g → cond (j == i) (Some (One v)) (one_held (slice_get vs j)) ≡ Some g
item_set vs i j v g e = by_place (same_or j i)
  where
    at_value : (o : Option Value) → slice_get (slice_set vs i v) i ≡ o → one_held o ≡ Some g → Some (One v) ≡ Some g
    at_value None a e = absurd cc
    at_value (Some w) a e = ap (λ x. Some (One x)) (sym (set_same vs i v w a)) ∙ e

    by_place : (j ≡ i) ⊎ (j ≢ i) → cond (j == i) (Some (One v)) (one_held (slice_get vs j)) ≡ Some g
    by_place (inl h) = ap (λ t. cond t (Some (One v)) (one_held (slice_get vs j))) (test_true j i h) ∙ at_value (slice_get (slice_set vs i v) i) refl (ap (λ (x : ℕ). one_held (slice_get (slice_set vs i v) x)) (sym h) ∙ e)
    by_place (inr ne) = ap (λ t. cond t (Some (One v)) (one_held (slice_get vs j))) (test_false j i ne) ∙ (ap one_held (sym (set_other vs i j v ne)) ∙ e)

-- a test behind one that passes
under : (t b : Bool) {A : Type 0} (x y z : A) → t ≡ true → cond b x y ≡ z → cond (t && b) x y ≡ z
under true b x y z e h = h
under false b x y z e h = absurd cc

-- a put sets a field
pub sets_field : (n : Name) (i : ℕ) (v : Value) → SetsPlace (with_field i v) (FieldOf n i) (One v)
sets_field n i v = record { sets = go }
  where
    go : (q : Place) (b : ObjectBody) (g : Held) → name_eq (place_name q) n ≡ true → part_in q (with_field i v b) ≡ Some g → cond (place_eq q (FieldOf n i)) (Some (One v)) (part_in q b) ≡ Some g
    go (FieldOf m j) (Fields vs) g s e = under (name_eq m n) (j == i) _ _ _ s (item_set vs i j v g e)
    go (FieldOf m j) (Array vs) g s e = absurd cc
    go (FieldOf m j) (Text us) g s e = absurd cc
    go (ElementOf m j) (Fields vs) g s e = absurd cc
    go (ElementOf m j) (Array vs) g s e = e
    go (ElementOf m j) (Text us) g s e = absurd cc
    go (ContentOf m) (Fields vs) g s e = absurd cc
    go (ContentOf m) (Array vs) g s e = absurd cc
    go (ContentOf m) (Text us) g s e = e

-- a store sets an element
pub sets_element : (n : Name) (i : ℕ) (v : Value) → SetsPlace (with_element i v) (ElementOf n i) (One v)
sets_element n i v = record { sets = go }
  where
    go : (q : Place) (b : ObjectBody) (g : Held) → name_eq (place_name q) n ≡ true → part_in q (with_element i v b) ≡ Some g → cond (place_eq q (ElementOf n i)) (Some (One v)) (part_in q b) ≡ Some g
    go (ElementOf m j) (Array vs) g s e = under (name_eq m n) (j == i) _ _ _ s (item_set vs i j v g e)
    go (ElementOf m j) (Fields vs) g s e = absurd cc
    go (ElementOf m j) (Text us) g s e = absurd cc
    go (FieldOf m j) (Array vs) g s e = absurd cc
    go (FieldOf m j) (Fields vs) g s e = e
    go (FieldOf m j) (Text us) g s e = absurd cc
    go (ContentOf m) (Fields vs) g s e = absurd cc
    go (ContentOf m) (Array vs) g s e = absurd cc
    go (ContentOf m) (Text us) g s e = e

-- an append sets a content
pub sets_content : (n : Name) (us : List ℕ) → SetsPlace (with_content us) (ContentOf n) (Content us)
sets_content n us = record { sets = go }
  where
    at_buffer : (b : Bool) (g : Held) → (if b then Some (Content us) else None) ≡ Some g → Some (Content us) ≡ Some g
    at_buffer true g e = e
    at_buffer false g e = absurd cc

    go : (q : Place) (b : ObjectBody) (g : Held) → name_eq (place_name q) n ≡ true → part_in q (with_content us b) ≡ Some g → cond (place_eq q (ContentOf n)) (Some (Content us)) (part_in q b) ≡ Some g
    go (ContentOf m) (Text ts) g s e = ap (λ t. cond t (Some (Content us)) (part_in (ContentOf m) (Text ts))) s ∙ at_buffer (is_buffer m.class) g e
    go (ContentOf m) (Fields vs) g s e = absurd cc
    go (ContentOf m) (Array vs) g s e = absurd cc
    go (FieldOf m j) (Fields vs) g s e = e
    go (FieldOf m j) (Array vs) g s e = absurd cc
    go (FieldOf m j) (Text ts) g s e = absurd cc
    go (ElementOf m j) (Array vs) g s e = e
    go (ElementOf m j) (Fields vs) g s e = absurd cc
    go (ElementOf m j) (Text ts) g s e = absurd cc

-- what a heap holds after one place is set: the new value there, and elsewhere what it held
pub held_altered : (heap : Heap) (f : ObjectBody → ObjectBody) (p : Place) (h : Held) → SetsPlace f p h
    → (q : Place) (g : Held) → held_at (altered heap (place_name p) f) q ≡ Some g → cond (place_eq q p) (Some h) (held_at heap q) ≡ Some g
held_altered heap f p h s q g e = by_body (body_at heap (place_name p)) refl e
  where
    there : (b : ObjectBody) → body_at heap (place_name p) ≡ Some b → name_eq (place_name q) (place_name p) ≡ true → part_in q b ≡ held_at heap q
    there b a t = ap (from None (part_in q)) (sym a ∙ ap (λ (x : Name). body_at heap x) (sym (name_eq-true (place_name q) (place_name p) t)))

    apart : (t : Bool) → place_eq q p ≡ t → name_eq (place_name q) (place_name p) ≡ false → t ≡ false
    apart true a n = absurd (let c : name_eq (place_name q) (place_name p) ≡ true = same_owner q p a in cc)
    apart false a n = refl

    nothing : (t : Bool) → place_eq q p ≡ t → body_at heap (place_name p) ≡ None → held_at heap q ≡ Some g → cond t (Some h) (held_at heap q) ≡ Some g
    nothing true a none e = absurd (not_both (ap (from None (part_in q)) (ap (λ (x : Name). body_at heap x) (name_eq-true (place_name q) (place_name p) (same_owner q p a)) ∙ none)) e)
    nothing false a none e = e

    by_same : (t : Bool) (b : ObjectBody) → name_eq (place_name q) (place_name p) ≡ t → body_at heap (place_name p) ≡ Some b → cond t (part_in q (f b)) (held_at heap q) ≡ Some g → cond (place_eq q p) (Some h) (held_at heap q) ≡ Some g
    by_same true b t a e = ap (cond (place_eq q p) (Some h)) (sym (there b a t)) ∙ s.sets q b g t e
    by_same false b t a e = ap (λ x. cond x (Some h) (held_at heap q)) (apart (place_eq q p) refl t) ∙ e

    by_body : (o : Option ObjectBody) → body_at heap (place_name p) ≡ o → held_at (from heap (λ b. replace name_cmp (place_name p) (f b) heap) o) q ≡ Some g → cond (place_eq q p) (Some h) (held_at heap q) ≡ Some g
    by_body None a e = nothing (place_eq q p) refl a e
    by_body (Some b) a e = by_same (name_eq (place_name q) (place_name p)) b refl a (sym (held_replaced heap (place_name p) b (f b) q a) ∙ e)
