-- Whether the first thread of an object has ended.
use Rattle.std.proofs.Common.{◌≡◌, ◌∙◌, refl, ap, List, [], ◌∷◌, Some, None, inl, inr}
use Rattle.std.specs.Prelude.{map, find}
use Rattle.std.proofs.lemmas.Bool.{cases_Bool}
use Rattle.jvm_base.specs.Names.{name_eq}
use Rattle.jvm_base.specs.Words.{from}
use Rattle.jvm_base.specs.declared.name.Name.{Name}
use Rattle.machine_state.specs.Serve.{thread_of}
use Rattle.machine_state.specs.State.{is_ended}
use Rattle.shared_state.specs.declared.thread.Thread.{Thread}
use Rattle.shared_state.specs.Looks.{is_of}
use Rattle.shared_state.specs.Parts.{thread_state}

-- as the table of Thread objects says
pub end_found : (n : Name) (ts : List Thread) → thread_of n (map (λ t. (t.object, is_ended t.mode)) (map thread_state ts)) ≡ from None (λ t. Some (is_ended t.mode)) (find (is_of n) ts)
end_found n [] = refl
end_found n (t ∷ ts) = elim (cases_Bool (name_eq t.object n)) [ inl h ↦ rw h refl | inr h ↦ rw h (end_found n ts) ]

pub first_found : (n : Name) (ts : List Thread) (t : Thread) → find (is_of n) ts ≡ Some t → thread_of n (map (λ t. (t.object, is_ended t.mode)) (map thread_state ts)) ≡ Some (is_ended t.mode)
first_found n ts t e = end_found n ts ∙ ap (from None (λ t. Some (is_ended t.mode))) e

pub none_found : (n : Name) (ts : List Thread) → find (is_of n) ts ≡ None → thread_of n (map (λ t. (t.object, is_ended t.mode)) (map thread_state ts)) ≡ None
none_found n ts e = end_found n ts ∙ ap (from None (λ t. Some (is_ended t.mode))) e
