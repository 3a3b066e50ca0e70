-- Look-ups and changes of what is kept are those of the heap.
use Rattle.std.proofs.Common.{◌≡◌, ◌∙◌, sym, refl, ap, Bool, true, false, cond, List, [], ◌∷◌, Some, None}
use Rattle.std.specs.Prelude.{option_map}
use Rattle.std.specs.declared.cmp.Ordering.{Ordering}
use Rattle.std.specs.declared.cmp.Ordering.TheVariants.{Less, Equal, Greater}
use Rattle.std.specs.Ordering.{match_ordering}
use Rattle.std.specs.Map.{lookup, remove_entry, set_value}
use Rattle.std.specs.BTreeMap.{is_at, insert_entry}
use Rattle.std.proofs.lemmas.Map.Steps.{set_value_same}
use Rattle.jvm_base.specs.Maps.{put, replace}
use Rattle.jvm_base.specs.Names.{name_cmp, name_eq}
use Rattle.jvm_base.specs.Words.{from}
use Rattle.jvm_base.specs.declared.name.Name.{Name}
use Rattle.jvm_base.specs.declared.value.ObjectBody.{ObjectBody}
use Rattle.machine_state.specs.State.{Heap, body_at}
use Rattle.machine_state.specs.Changes.{altered}
use Rattle.shared_state.specs.declared.stored.Stored.{Stored}
use Rattle.shared_state.specs.Stored.{stored_body, stored_entry, heap_of}

abbrev Kept : Type 0
Kept = List (Name × Stored)

-- what is found
pub found_there : (n : Name) (es : Kept) → option_map stored_body (lookup (is_at (name_cmp n)) es) ≡ body_at (heap_of es) n
found_there n [] = refl
found_there n (e ∷ es) = by (name_eq n e.0) (found_there n es)
  where
    by : (b : Bool) → option_map stored_body (lookup (is_at (name_cmp n)) es) ≡ body_at (heap_of es) n
        → option_map stored_body (cond b (Some e.1) (lookup (is_at (name_cmp n)) es)) ≡ cond b (Some (stored_body e.1)) (body_at (heap_of es) n)
    by true later = refl
    by false later = later

-- what is put
pub put_there : (n : Name) (s : Stored) (es : Kept) → heap_of (insert_entry name_cmp es n s) ≡ put name_cmp n (stored_body s) (heap_of es)
put_there n s [] = refl
put_there n s (e ∷ es) = by (name_cmp n e.0) (put_there n s es)
  where
    by : (o : Ordering) → heap_of (insert_entry name_cmp es n s) ≡ put name_cmp n (stored_body s) (heap_of es)
        → heap_of (match_ordering o ((n, s) ∷ e ∷ es) ((e.0, s) ∷ es) (e ∷ insert_entry name_cmp es n s)) ≡ match_ordering o ((n, stored_body s) ∷ heap_of (e ∷ es)) ((e.0, stored_body s) ∷ heap_of es) (stored_entry e ∷ put name_cmp n (stored_body s) (heap_of es))
    by Less later = refl
    by Equal later = refl
    by Greater later = ap (λ r. stored_entry e ∷ r) later

-- what is taken out
pub removed_there : (n : Name) (es : Kept) → heap_of (remove_entry (is_at (name_cmp n)) es) ≡ remove_entry (is_at (name_cmp n)) (heap_of es)
removed_there n [] = refl
removed_there n (e ∷ es) = by (name_eq n e.0) (removed_there n es)
  where
    by : (b : Bool) → heap_of (remove_entry (is_at (name_cmp n)) es) ≡ remove_entry (is_at (name_cmp n)) (heap_of es)
        → heap_of (cond b es (e ∷ remove_entry (is_at (name_cmp n)) es)) ≡ cond b (heap_of es) (stored_entry e ∷ remove_entry (is_at (name_cmp n)) (heap_of es))
    by true later = refl
    by false later = ap (λ r. stored_entry e ∷ r) later

-- what is written
pub written_there : (n : Name) (s : Stored) (es : Kept) → heap_of (set_value (is_at (name_cmp n)) es s) ≡ replace name_cmp n (stored_body s) (heap_of es)
written_there n s [] = refl
written_there n s (e ∷ es) = by (name_eq n e.0) (written_there n s es)
  where
    by : (b : Bool) → heap_of (set_value (is_at (name_cmp n)) es s) ≡ replace name_cmp n (stored_body s) (heap_of es)
        → heap_of (cond b ((e.0, s) ∷ es) (e ∷ set_value (is_at (name_cmp n)) es s)) ≡ cond b ((e.0, stored_body s) ∷ heap_of es) (stored_entry e ∷ replace name_cmp n (stored_body s) (heap_of es))
    by true later = refl
    by false later = ap (λ r. stored_entry e ∷ r) later

-- an object that is there
pub body_there : (n : Name) (s : Stored) (es : Kept) (heap : Heap) → heap_of es ≡ heap → Some s ≡ lookup (is_at (name_cmp n)) es → body_at heap n ≡ Some (stored_body s)
body_there n s es heap v g = ap (λ h. body_at h n) (sym v) ∙ (sym (found_there n es) ∙ sym (ap (option_map stored_body) g))

-- is altered
pub altered_there : (n : Name) (s t : Stored) (es after : Kept) (heap : Heap) (f : ObjectBody → ObjectBody) → heap_of es ≡ heap → Some s ≡ lookup (is_at (name_cmp n)) es → stored_body t ≡ f (stored_body s) → after ≡ set_value (is_at (name_cmp n)) es t → heap_of after ≡ altered heap n f
altered_there n s t es after heap f v g w a =
    let here = body_there n s es heap v g in
    ap heap_of a ∙ (written_there n t es ∙ (ap (λ b. replace name_cmp n b (heap_of es)) w ∙ (ap (replace name_cmp n (f (stored_body s))) v ∙ sym (ap (from heap (λ b. replace name_cmp n (f b) heap)) here))))

-- nothing is altered where nothing is
pub absent_there : (n : Name) (es after : Kept) (heap : Heap) (f : ObjectBody → ObjectBody) → heap_of es ≡ heap → None ≡ lookup (is_at (name_cmp n)) es → after ≡ es → heap_of after ≡ altered heap n f
absent_there n es after heap f v g a =
    let here : body_at heap n ≡ None = ap (λ h. body_at h n) (sym v) ∙ (sym (found_there n es) ∙ sym (ap (option_map stored_body) g)) in
    ap heap_of a ∙ (v ∙ sym (ap (from heap (λ b. replace name_cmp n (f b) heap)) here))

-- one that takes what it has stays
pub same_there : (n : Name) (s t : Stored) (es after : Kept) (heap : Heap) → heap_of es ≡ heap → Some s ≡ lookup (is_at (name_cmp n)) es → after ≡ set_value (is_at (name_cmp n)) es t → t ≡ s → heap_of after ≡ heap
same_there n s t es after heap v g a same = ap heap_of (a ∙ (ap (set_value (is_at (name_cmp n)) es) same ∙ set_value_same (is_at (name_cmp n)) es s (sym g))) ∙ v
