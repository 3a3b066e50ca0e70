-- What new objects hold, from what is kept for each class.
use Rattle.std.proofs.Common.{◌≡◌, ℕ, zero, suc, ◌+◌, ◌<◌, ◌≤◌, not, List, [], ◌∷◌, ◌++◌, length, map, take, reverse, Option, Some, None, refl, sym, ap, ◌∙◌, arith}
use Rattle.std.specs.Prelude.{slice_get, filter}
use Rattle.std.specs.List.{flat_map}
use Rattle.std.proofs.lemmas.List.{reverse-append, map-append, append_assoc}
use Rattle.jvm_base.specs.Words.{from}
use Rattle.jvm_base.specs.declared.value.Value.{Value}
use Rattle.class_format.specs.Flags.{is_static}
use Rattle.program_image.specs.declared.info.ClassInfo.{ClassInfo}
use Rattle.program_image.specs.declared.info.FieldInfo.{FieldInfo}
use Rattle.program_image.specs.Program.{Program}
use Rattle.program_image.specs.Selection.{supers}
use Rattle.program_image.specs.Words.{fields_of, zero_of, zeros_of}
use Rattle.step_serve.specs.Blank.{own_zeros, own_row, AreBlanks}
use Rattle.machine_state.proofs.NameTests.{some_is}
use Rattle.step_serve.proofs.Chains.{behind_none}

-- the row of a class
abbrev row_for : ClassInfo → List Value
row_for k = own_zeros k.fields

-- ---- the rows are made

-- one more
rows_suc : (classes : List ClassInfo) (n : ℕ) (x : ClassInfo) → slice_get classes n ≡ Some x → map row_for (take (suc n) classes) ≡ map row_for (take n classes) ++ row_for x ∷ []
rows_suc [] n x e = absurd cc
rows_suc (k ∷ ks) zero x e = ap (λ (y : ClassInfo). row_for y ∷ []) (some_is e)
rows_suc (k ∷ ks) (suc n) x e = ap (λ (rows : List (List Value)). row_for k ∷ rows) (rows_suc ks n x e)

one_more : (n : ℕ) → suc n ≡ n + 1
one_more n = omega arith

pub rows_next : (classes : List ClassInfo) (n : ℕ) (x : ClassInfo) (rows new : List (List Value)) (row : List Value) → rows ≡ map row_for (take n classes) → slice_get classes n ≡ Some x → row ≡ row_for x → new ≡ rows ++ row ∷ [] → new ≡ map row_for (take (n + 1) classes)
rows_next classes n x rows new row e at is add =
    add ∙ ap (λ (rs : List (List Value)). rs ++ row ∷ []) e
    ∙ ap (λ (r : List Value). map row_for (take n classes) ++ r ∷ []) is
    ∙ sym (rows_suc classes n x at)
    ∙ ap (λ (k : ℕ). map row_for (take k classes)) (one_more n)

-- ---- and used

row_at : (classes : List ClassInfo) (c : ℕ) → own_row (map row_for classes) c ≡ own_zeros (from [] (λ k. k.fields) (slice_get classes c))
row_at [] c = refl
row_at (k ∷ ks) zero = refl
row_at (k ∷ ks) (suc c) = row_at ks c

-- the instance fields of a class
abbrev own_fields : Program → ℕ → List FieldInfo
own_fields p k = filter (λ f. not (is_static f.flags)) (fields_of p k)

zeros_along : (p : Program) (rows : List (List Value)) (cs : List ℕ) → AreBlanks p rows → flat_map (own_row rows) cs ≡ map (λ f. zero_of f.desc) (flat_map (own_fields p) cs)
zeros_along p rows [] e = refl
zeros_along p rows (c ∷ cs) e =
    ap (λ (rs : List (List Value)). own_row rs c ++ flat_map (own_row rows) cs) e
    ∙ ap (λ (row : List Value). row ++ flat_map (own_row rows) cs) (row_at p.classes c)
    ∙ ap (λ (vs : List Value). own_zeros (fields_of p c) ++ vs) (zeros_along p rows cs e)
    ∙ sym (map-append (λ f. zero_of f.desc) (own_fields p c) (flat_map (own_fields p) cs))

-- the rows of a class and those above it, the upmost first, are what a new object holds
pub zeros_by_rows : (p : Program) (rows : List (List Value)) (c : ℕ) → AreBlanks p rows → flat_map (own_row rows) (reverse (supers p.classes c)) ≡ zeros_of p c
zeros_by_rows p rows c e = zeros_along p rows (reverse (supers p.classes c)) e

-- one class more
pub zeros_on : (rows : List (List Value)) (zeros all : List Value) (old new : List ℕ) (c : ℕ) → old ≡ new ++ c ∷ [] → zeros ++ flat_map (own_row rows) (reverse old) ≡ all → (zeros ++ own_row rows c) ++ flat_map (own_row rows) (reverse new) ≡ all
zeros_on rows zeros all old new c is e =
    append_assoc zeros (own_row rows c) (flat_map (own_row rows) (reverse new))
    ∙ ap (λ (cs : List ℕ). zeros ++ flat_map (own_row rows) cs) (sym (ap reverse is ∙ reverse-append new (c ∷ [])))
    ∙ e

-- at the end no class is left
pub zeros_done : (p : Program) (rows : List (List Value)) (zeros : List Value) (left : List ℕ) (c : ℕ) → AreBlanks p rows → left ≡ [] → zeros ++ flat_map (own_row rows) (reverse left) ≡ flat_map (own_row rows) (reverse (supers p.classes c)) → zeros ≡ zeros_of p c
zeros_done p rows zeros left c b is e =
    sym (behind_none zeros)
    ∙ ap (λ (cs : List ℕ). zeros ++ flat_map (own_row rows) (reverse cs)) (sym is)
    ∙ e ∙ zeros_by_rows p rows c b
