-- A text while it is written.
use Rattle.std.proofs.Common.{◌≡◌, ◌≤◌, ◌<◌, ◌+◌, ℕ, List, [], ◌∷◌, ◌++◌, length, take, map, get_or, Some, ap, sym, ◌∙◌, arith, inl, inr, ◌⊎◌, None, append_assoc, append-nil}
use Rattle.std.specs.List.{flat_map, concat, slice_get, All, AllByRecursion}
use Rattle.std.proofs.lemmas.List.{take_more, take_all, flat_map_more}
use Rattle.std.proofs.lemmas.List.Elements.{All-more, recursion_from_All, All-from_recursion}
use Rattle.std.proofs.lemmas.Option.{slice_get_within, slice_get_cases, get_or_from_slice_get}
use Rattle.machine_state.specs.declared.state.Choice.{Choice}
use Rattle.order_text.specs.Spelling.{head_line, end_line, choice_line, order_text, HasClass, IsChoice, IsOrderText}

-- the lines of so many choices are written behind the first line
pub record Writes (order : List Choice) (at : ℕ) (text : List ℕ) : Type 0 where
  pub choices : All IsChoice (take at order)
  pub spelled : text ≡ head_line ++ flat_map choice_line (take at order)

-- one line more
pub writes_more : (order : List Choice) (at : ℕ) (text : List ℕ) (c : Choice) → slice_get order at ≡ Some c → IsChoice c → Writes order at text → Writes order (at + 1) (text ++ choice_line c)
writes_more order at text c here fits so_far =
    let within = slice_get_within order at c here in
    let is = get_or_from_slice_get order at c c here in
    let more = take_more order at c within in
    record {
      choices = All-more IsChoice order at c within so_far.choices (rw is fits);
      spelled = rw (more, is, so_far.spelled) (flat_map_more choice_line head_line (take at order) c);
    }

-- lines that are each made of one thing, and one line behind them
concat_lines : {X : Type 0} (f : X → List ℕ) (xs : List X) (last : List ℕ) → concat (map f xs ++ last ∷ []) ≡ flat_map f xs ++ last
concat_lines f [] last = append-nil last
concat_lines f (x ∷ xs) last = ap (λ z. f x ++ z) (concat_lines f xs last) ∙ sym (append_assoc (f x) (flat_map f xs) last)

-- the text in three parts
pub three_parts : (order : List Choice) → order_text order ≡ head_line ++ (flat_map choice_line order ++ end_line)
three_parts order = ap (λ z. head_line ++ z) (concat_lines choice_line order end_line)

-- all lines are written
pub writes_all : (order : List Choice) (at : ℕ) (text : List ℕ) → length order ≤ at → Writes order at text → IsOrderText (text ++ end_line) order
writes_all order at text past so_far =
    let all = take_all at order past in
    record {
      choices = recursion_from_All IsChoice order (rw (sym all) so_far.choices);
      spelled = ap (λ z. z ++ end_line) (so_far.spelled ∙ ap (λ z. head_line ++ flat_map choice_line z) all) ∙ append_assoc head_line (flat_map choice_line order) end_line ∙ sym (three_parts order);
    }

-- each of the choices has a class below the bound
pub has_class : (order : List Choice) (at : ℕ) (c : Choice) → AllByRecursion HasClass order → slice_get order at ≡ Some c → HasClass c
has_class order at c all here =
    rw (sym (get_or_from_slice_get order at c c here)) (All-from_recursion HasClass order all at c (slice_get_within order at c here))

-- past no choice
there : (order : List Choice) (at : ℕ) → at < length order → slice_get order at ≡ None → ((x : Choice) × (at < length order) × (slice_get order at ≡ Some x) × (get_or order at x ≡ x)) ⊎ ((length order ≤ at) × (slice_get order at ≡ None)) → ⊥
there order at within none (inl h) = cc (sym none ∙ h.2)
there order at within none (inr h) = omega (arith, within, h.0)

-- a place within is that of a choice
pub is_there : (order : List Choice) (at : ℕ) → at < length order → slice_get order at ≡ None → ⊥
is_there order at within none = there order at within none (slice_get_cases order at).1
