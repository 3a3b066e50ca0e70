-- Each read of a run gives the last write of its place.
use Rattle.std.proofs.Common.{◌≡◌, ℕ, zero, suc, ◌+◌, ◌<◌, Bool, true, false, cond, ◌&&◌, ◌==◌, if◌then◌else◌, List, [], ◌∷◌, ◌++◌, map, Option, Some, None, refl, sym, ap, ◌∙◌, subst, arith}
use Rattle.std.specs.Prelude.{slice_get}
use Rattle.jvm_base.specs.declared.name.Name.{Name}
use Rattle.jvm_base.specs.declared.value.Value.{Value}
use Rattle.jvm_base.specs.declared.value.ObjectBody.{ObjectBody}
use Rattle.jvm_base.specs.declared.value.ObjectBody.TheVariants.{Fields, Array, Text}
use Rattle.jvm_base.specs.Maps.{put}
use Rattle.jvm_base.specs.Names.{name_cmp, name_eq}
use Rattle.program_image.specs.Buffers.{is_buffer}
use Rattle.jvm_base.proofs.NameLaws.{name_eq-true}
use Rattle.machine_state.specs.State.{State, Heap}
use Rattle.machine_state.specs.Events.{Place, FieldOf, ElementOf, ContentOf, Held, One, Content, one_held, place_name, part_in, held_at, Event, Reads, Writes, Locks, LockEvent, Told, told_by, onto, item_writes, body_writes, writes_of, writes}
use Rattle.machine_state.specs.Changes.{with_field, with_element, with_content, altered, Change, Made, SetsField, SetsElement, SetsContent, Owned, Freed, Sleeps, Moved, MovedAll, Becomes, Started, Finished, Lost, Printed, change, changed}
use Rattle.machine_state.specs.Deeds.{reads_of, Deed, events_of}
use Rattle.machine_state.specs.Accesses.{place_eq, after_event, last_write, LastWrite}
use Rattle.machine_state.specs.Laws.Locality.{AllHeld}
use Rattle.machine_state.proofs.NameTests.{test_true, test_false, some_is}
use Rattle.machine_state.proofs.HeapLaws.{SetsPlace, held_put, held_altered, sets_field, sets_element, sets_content}

-- ---- lists of events

-- what a place holds after events
abbrev pub over_all : Place → List Event → Option Held → Option Held
over_all p [] d = d
over_all p (e ∷ es) d = over_all p es (after_event p e d)

-- the last write after events were told
pub last_onto : (t : Option ℕ) (p : Place) (es : List Event) (told : List Told) → last_write p (onto (told_by t es) told) ≡ over_all p es (last_write p told)
last_onto t p [] told = refl
last_onto t p (e ∷ es) told = last_onto t p es (record { thread = t; event = e } ∷ told)

-- events told in two parts
pub onto_append : (t : Option ℕ) (xs ys : List Event) (told : List Told) → onto (told_by t (xs ++ ys)) told ≡ onto (told_by t ys) (onto (told_by t xs) told)
onto_append t [] ys told = refl
onto_append t (x ∷ xs) ys told = onto_append t xs ys (record { thread = t; event = x } ∷ told)

-- no event of the list is a read
abbrev pub NoRead : List Event → Type 0
NoRead [] = Unit {0}
NoRead (Reads p h ∷ es) = ⊥
NoRead (Writes p h ∷ es) = NoRead es
NoRead (Locks l ∷ es) = NoRead es

-- lists without a read
no_read-append : (xs ys : List Event) → NoRead xs → NoRead ys → NoRead (xs ++ ys)
no_read-append [] ys a b = b
no_read-append (Reads p h ∷ xs) ys a b = absurd a
no_read-append (Writes p h ∷ xs) ys a b = no_read-append xs ys a b
no_read-append (Locks l ∷ xs) ys a b = no_read-append xs ys a b

-- writes that follow one another
no_read-items : (at : ℕ → Place) (i : ℕ) (vs : List Value) → NoRead (item_writes at i vs)
no_read-items at i [] = tt
no_read-items at i (v ∷ vs) = no_read-items at (i + 1) vs

-- the writes of a body
pub no_read-body : (n : Name) (b : ObjectBody) → NoRead (body_writes n b)
no_read-body n (Fields vs) = no_read-items (FieldOf n) 0 vs
no_read-body n (Array vs) = no_read-items (ElementOf n) 0 vs
no_read-body n (Text us) = by_test (is_buffer n.class)
  where
    by_test : (b : Bool) → NoRead (if b then Writes (ContentOf n) (Content us) ∷ [] else [])
    by_test true = tt
    by_test false = tt

-- those of a change
no_read-change : (c : Change) → NoRead (writes_of c)
no_read-change (Made n b) = no_read-body n b
no_read-change (SetsField n i v) = tt
no_read-change (SetsElement n i v) = tt
no_read-change (SetsContent n us) = tt
no_read-change (Owned n o) = tt
no_read-change (Freed n) = tt
no_read-change (Sleeps n t) = tt
no_read-change (Moved n t) = tt
no_read-change (MovedAll n) = tt
no_read-change (Becomes c s) = tt
no_read-change (Started n) = tt
no_read-change (Finished t) = tt
no_read-change (Lost u) = tt
no_read-change (Printed us) = tt

-- those of changes
no_read-changes : (cs : List Change) → NoRead (writes cs)
no_read-changes [] = tt
no_read-changes (c ∷ cs) = no_read-append (writes_of c) (writes cs) (no_read-change c) (no_read-changes cs)

-- what is done with locks
no_read-locks : (ls : List LockEvent) → NoRead (map Locks ls)
no_read-locks [] = tt
no_read-locks (l ∷ ls) = no_read-locks ls

-- events without a read keep the law
pub silent : (t : Option ℕ) (es : List Event) (told : List Told) → NoRead es → LastWrite told → LastWrite (onto (told_by t es) told)
silent t [] told n l = l
silent t (Reads p h ∷ es) told n l = absurd n
silent t (Writes p h ∷ es) told n l = silent t es (record { thread = t; event = Writes p h } ∷ told) n (tt, l)
silent t (Locks k ∷ es) told n l = silent t es (record { thread = t; event = Locks k } ∷ told) n (tt, l)

-- what is done with locks changes no place
over-locks : (p : Place) (ls : List LockEvent) (d : Option Held) → over_all p (map Locks ls) d ≡ d
over-locks p [] d = refl
over-locks p (l ∷ ls) d = over-locks p ls d

-- ---- what the heap holds is what was written last

-- what the heap holds was written last
pub record Agrees (heap : Heap) (told : List Told) : Type 0 where
  pub last : (p : Place) (h : Held) → held_at heap p ≡ Some h → last_write p told ≡ Some h

-- writes of other places
misses : (at : ℕ → Place) (p : Place) → ((i : ℕ) → place_eq p (at i) ≡ false) → (vs : List Value) (k : ℕ) (d : Option Held) → over_all p (item_writes at k vs) d ≡ d
misses at p miss [] k d = refl
misses at p miss (v ∷ vs) k d = ap (λ t. over_all p (item_writes at (k + 1) vs) (cond t (Some (One v)) d)) (miss k) ∙ misses at p miss vs (k + 1) d

-- writes of later items
passed : (at : ℕ → Place) (p : Place) (j : ℕ) → ((i : ℕ) → place_eq p (at i) ≡ (j == i)) → (vs : List Value) (k : ℕ) (d : Option Held) → j < k → over_all p (item_writes at k vs) d ≡ d
passed at p j hit [] k d less = refl
passed at p j hit (v ∷ vs) k d less = ap (λ t. over_all p (item_writes at (k + 1) vs) (cond t (Some (One v)) d)) (hit k ∙ test_false j k (λ e. omega arith)) ∙ passed at p j hit vs (k + 1) d (omega arith)

-- the write of the item
hits : (at : ℕ → Place) (p : Place) (j : ℕ) → ((i : ℕ) → place_eq p (at i) ≡ (j == i)) → (vs : List Value) (k x : ℕ) (d : Option Held) (v : Value) → slice_get vs x ≡ Some v → j ≡ k + x → over_all p (item_writes at k vs) d ≡ Some (One v)
hits at p j hit [] k x d v e f = absurd cc
hits at p j hit (w ∷ vs) k zero d v e f = ap (λ t. over_all p (item_writes at (k + 1) vs) (cond t (Some (One w)) d)) (hit k ∙ test_true j k (omega arith)) ∙ passed at p j hit vs (k + 1) (Some (One w)) (omega arith) ∙ ap (λ y. Some (One y)) (some_is e)
hits at p j hit (w ∷ vs) k (suc x) d v e f = hits at p j hit vs (k + 1) x (after_event p (Writes (at k) (One w)) d) v e (omega arith)

-- a first test fails
both_false : (a b : Bool) → a ≡ false → (a && b) ≡ false
both_false a b e = ap (λ x. x && b) e

-- a first test passes
both_right : (a b : Bool) → a ≡ true → (a && b) ≡ b
both_right a b e = ap (λ x. x && b) e

-- a body's writes leave places of other names
over-apart : (n : Name) (b : ObjectBody) (p : Place) (d : Option Held) → name_eq (place_name p) n ≡ false → over_all p (body_writes n b) d ≡ d
over-apart n (Fields vs) (FieldOf m j) d e = misses (FieldOf n) (FieldOf m j) (λ i. both_false _ _ e) vs 0 d
over-apart n (Fields vs) (ElementOf m j) d e = misses (FieldOf n) (ElementOf m j) (λ i. refl) vs 0 d
over-apart n (Fields vs) (ContentOf m) d e = misses (FieldOf n) (ContentOf m) (λ i. refl) vs 0 d
over-apart n (Array vs) (FieldOf m j) d e = misses (ElementOf n) (FieldOf m j) (λ i. refl) vs 0 d
over-apart n (Array vs) (ElementOf m j) d e = misses (ElementOf n) (ElementOf m j) (λ i. both_false _ _ e) vs 0 d
over-apart n (Array vs) (ContentOf m) d e = misses (ElementOf n) (ContentOf m) (λ i. refl) vs 0 d
over-apart n (Text us) p d e = by_test (is_buffer n.class) p d e
  where
    by_test : (t : Bool) (p : Place) (d : Option Held) → name_eq (place_name p) n ≡ false → over_all p (if t then Writes (ContentOf n) (Content us) ∷ [] else []) d ≡ d
    by_test true (FieldOf m j) d e = refl
    by_test true (ElementOf m j) d e = refl
    by_test true (ContentOf m) d e = ap (λ x. cond x (Some (Content us)) d) e
    by_test false p d e = refl

-- and write what the body holds
over-made : (n : Name) (b : ObjectBody) (p : Place) (d : Option Held) (h : Held) → name_eq (place_name p) n ≡ true → part_in p b ≡ Some h → over_all p (body_writes n b) d ≡ Some h
over-made n (Fields vs) (FieldOf m j) d h e f = at_item (slice_get vs j) refl f
  where
    at_item : (o : Option Value) → slice_get vs j ≡ o → one_held o ≡ Some h → over_all (FieldOf m j) (item_writes (FieldOf n) 0 vs) d ≡ Some h
    at_item None g f = absurd cc
    at_item (Some v) g f = hits (FieldOf n) (FieldOf m j) j (λ i. both_right _ _ e) vs 0 j d v g (omega arith) ∙ f
over-made n (Array vs) (ElementOf m j) d h e f = at_item (slice_get vs j) refl f
  where
    at_item : (o : Option Value) → slice_get vs j ≡ o → one_held o ≡ Some h → over_all (ElementOf m j) (item_writes (ElementOf n) 0 vs) d ≡ Some h
    at_item None g f = absurd cc
    at_item (Some v) g f = hits (ElementOf n) (ElementOf m j) j (λ i. both_right _ _ e) vs 0 j d v g (omega arith) ∙ f
over-made n (Text us) (ContentOf m) d h e f = by_test (is_buffer n.class) (ap (λ (x : Name). if is_buffer x.class then Some (Content us) else None) (sym (name_eq-true m n e)) ∙ f)
  where
    by_test : (t : Bool) → (if t then Some (Content us) else None) ≡ Some h → over_all (ContentOf m) (if t then Writes (ContentOf n) (Content us) ∷ [] else []) d ≡ Some h
    by_test true f = ap (λ x. cond x (Some (Content us)) d) e ∙ f
    by_test false f = absurd cc
over-made n (Fields vs) (ElementOf m j) d h e f = absurd cc
over-made n (Fields vs) (ContentOf m) d h e f = absurd cc
over-made n (Array vs) (FieldOf m j) d h e f = absurd cc
over-made n (Array vs) (ContentOf m) d h e f = absurd cc
over-made n (Text us) (FieldOf m j) d h e f = absurd cc
over-made n (Text us) (ElementOf m j) d h e f = absurd cc

-- ---- each change keeps that

-- an object is made
pub agrees-made : (t : Option ℕ) (heap : Heap) (n : Name) (b : ObjectBody) (told : List Told) → Agrees heap told → Agrees (put name_cmp n b heap) (onto (told_by t (body_writes n b)) told)
agrees-made t heap n b told a = record { last = λ p h e. last_onto t p (body_writes n b) told ∙ by_test p h (name_eq (place_name p) n) refl (sym (held_put heap n b p) ∙ e) }
  where
    by_test : (p : Place) (h : Held) (s : Bool) → name_eq (place_name p) n ≡ s → cond s (part_in p b) (held_at heap p) ≡ Some h → over_all p (body_writes n b) (last_write p told) ≡ Some h
    by_test p h true s e = over-made n b p (last_write p told) h s e
    by_test p h false s e = over-apart n b p (last_write p told) s ∙ a.last p h e

-- a place is set
pub agrees-set : (t : Option ℕ) (heap : Heap) (f : ObjectBody → ObjectBody) (q : Place) (g : Held) (told : List Told) → SetsPlace f q g → Agrees heap told → Agrees (altered heap (place_name q) f) (onto (told_by t (Writes q g ∷ [])) told)
agrees-set t heap f q g told s a = record { last = λ p h e. by_test p h (place_eq p q) (held_altered heap f q g s p h e) }
  where
    by_test : (p : Place) (h : Held) (x : Bool) → cond x (Some g) (held_at heap p) ≡ Some h → cond x (Some g) (last_write p told) ≡ Some h
    by_test p h true e = e
    by_test p h false e = a.last p h e

-- every change
agrees-change : (t : Option ℕ) (c : Change) (m : State) (told : List Told) → Agrees m.heap told → Agrees (change c m).heap (onto (told_by t (writes_of c)) told)
agrees-change t (Made n b) m told a = agrees-made t m.heap n b told a
agrees-change t (SetsField n i v) m told a = agrees-set t m.heap (with_field i v) (FieldOf n i) (One v) told (sets_field n i v) a
agrees-change t (SetsElement n i v) m told a = agrees-set t m.heap (with_element i v) (ElementOf n i) (One v) told (sets_element n i v) a
agrees-change t (SetsContent n us) m told a = agrees-set t m.heap (with_content us) (ContentOf n) (Content us) told (sets_content n us) a
agrees-change t (Owned n o) m told a = a
agrees-change t (Freed n) m told a = a
agrees-change t (Sleeps n u) m told a = a
agrees-change t (Moved n u) m told a = a
agrees-change t (MovedAll n) m told a = a
agrees-change t (Becomes c s) m told a = a
agrees-change t (Started n) m told a = a
agrees-change t (Finished u) m told a = a
agrees-change t (Lost u) m told a = a
agrees-change t (Printed us) m told a = a

-- so changes keep the agreement
agrees-changes : (t : Option ℕ) (cs : List Change) (m : State) (told : List Told) → Agrees m.heap told → Agrees (changed cs m).heap (onto (told_by t (writes cs)) told)
agrees-changes t [] m told a = a
agrees-changes t (c ∷ cs) m told a = subst (λ x. Agrees (changed cs (change c m)).heap x) (sym (onto_append t (writes_of c) (writes cs) told)) (agrees-changes t cs (change c m) (onto (told_by t (writes_of c)) told) (agrees-change t c m told a))

-- ---- reads

-- reads of what the heap holds
reads-right : (t : Option ℕ) (heap : Heap) (rs : List (Place × Held)) (told : List Told) → AllHeld heap rs → Agrees heap told → LastWrite told → LastWrite (onto (told_by t (reads_of rs)) told) × Agrees heap (onto (told_by t (reads_of rs)) told)
reads-right t heap [] told h a l = (l, a)
reads-right t heap (r ∷ rs) told h a l = reads-right t heap rs (record { thread = t; event = Reads r.0 r.1 } ∷ told) h.1 (record { last = a.last }) (a.last r.0 r.1 h.0, l)

-- the events of a deed whose reads are right keep both
pub deed-right : (t : Option ℕ) (d : Deed) (m : State) (told : List Told) → AllHeld m.heap d.reads → Agrees m.heap told → LastWrite told
    → LastWrite (onto (told_by t (events_of d)) told) × Agrees (changed d.changes m).heap (onto (told_by t (events_of d)) told)
deed-right t d m told h a l =
    let r = reads-right t m.heap d.reads told h a l in
    let w1 = silent t (writes d.changes) (onto (told_by t (reads_of d.reads)) told) (no_read-changes d.changes) r.0 in
    let w2 = agrees-changes t d.changes m (onto (told_by t (reads_of d.reads)) told) r.1 in
    let k1 = silent t (map Locks d.locks) (onto (told_by t (writes d.changes)) (onto (told_by t (reads_of d.reads)) told)) (no_read-locks d.locks) w1 in
    let k2 = locks-agree (onto (told_by t (writes d.changes)) (onto (told_by t (reads_of d.reads)) told)) w2 in
    (subst LastWrite (sym whole) k1, subst (λ x. Agrees (changed d.changes m).heap x) (sym whole) k2)
  where
    locks-agree : (told : List Told) → Agrees (changed d.changes m).heap told → Agrees (changed d.changes m).heap (onto (told_by t (map Locks d.locks)) told)
    locks-agree told a = record { last = λ p h e. last_onto t p (map Locks d.locks) told ∙ over-locks p d.locks (last_write p told) ∙ a.last p h e }

    whole : onto (told_by t (events_of d)) told ≡ onto (told_by t (map Locks d.locks)) (onto (told_by t (writes d.changes)) (onto (told_by t (reads_of d.reads)) told))
    whole = onto_append t (reads_of d.reads) (writes d.changes ++ map Locks d.locks) told ∙ onto_append t (writes d.changes) (map Locks d.locks) (onto (told_by t (reads_of d.reads)) told)
