-- An order while it is read.
use Rattle.std.proofs.Common.{◌≡◌, ◌<◌, ◌≤◌, ◌+◌, ℕ, List, [], ◌∷◌, ◌++◌, length, decimal, ap, sym, ◌∙◌, refl, arith, append_assoc}
use Rattle.std.specs.List.{flat_map}
use Rattle.std.proofs.lemmas.List.{length-append, flat_map_more}
use Rattle.machine_state.specs.declared.state.Choice.{Choice}
use Rattle.order_text.specs.Spelling.{space, field, name_end, head_line, end_line, choice_line, IsChoice, AreChoices, IsOrderText}
use Rattle.order_text.proofs.Fronts.{line_parts}
use Rattle.order_text.proofs.LineLaws.{front_text}
use Rattle.order_text.proofs.Writing.{three_parts}

-- choices were read, the rest is left, and its first line has this number
pub record Reads (bytes : List ℕ) (order : List Choice) (rest : List ℕ) (line : ℕ) : Type 0 where
  pub choices : AreChoices order
  pub spelled : bytes ≡ front_text order rest
  pub number : line ≡ length order + 2
  pub room : line + length rest ≤ length bytes + 2

pub reads_first : (bytes rest : List ℕ) → bytes ≡ head_line ++ rest → Reads bytes [] rest 2
reads_first bytes rest e = record { choices = tt; spelled = e; number = refl; room = omega (arith, ap length e, length-append head_line rest) }

all_and : (order : List Choice) (c : Choice) → AreChoices order → IsChoice c → AreChoices (order ++ c ∷ [])
all_and [] c h k = (k, tt)
all_and (x ∷ xs) c h k = (h.0, all_and xs c h.1 k)

-- a line takes a byte at least
shorter : (c : Choice) (rest t : List ℕ) → rest ≡ choice_line c ++ t → length t + 1 ≤ length rest
shorter c rest t e =
    let later = field c.pick space ++ (name_end c.name ++ t) in
    let a = ap length (e ∙ line_parts c t) in
    let b = length-append (field c.thread space) later in
    let d = length-append (decimal c.thread) (space ∷ []) in
    let f = length-append (field c.pick space) (name_end c.name ++ t) in
    let g = length-append (name_end c.name) t in
    omega (arith, a, b, d, f, g)

pub reads_more : (bytes : List ℕ) (order : List Choice) (rest : List ℕ) (line : ℕ) (c : Choice) (t : List ℕ) → IsChoice c → rest ≡ choice_line c ++ t → Reads bytes order rest line → Reads bytes (order ++ c ∷ []) t (line + 1)
reads_more bytes order rest line c t fits e so_far = record {
  choices = all_and order c so_far.choices fits;
  spelled = so_far.spelled ∙ ap (λ z. head_line ++ z) (ap (λ z. flat_map choice_line order ++ z) e
      ∙ sym (append_assoc (flat_map choice_line order) (choice_line c) t)
      ∙ ap (λ z. z ++ t) (flat_map_more choice_line [] order c));
  number = omega (arith, so_far.number, length-append order (c ∷ []));
  room = omega (arith, so_far.room, shorter c rest t e);
}

-- nothing is left
is_empty : (tail : List ℕ) → length tail < 1 → tail ≡ []
is_empty [] few = refl
is_empty (b ∷ bs) few = absurd (omega (arith, few))

pub reads_all : (bytes : List ℕ) (order : List Choice) (rest : List ℕ) (line : ℕ) (tail : List ℕ) → rest ≡ end_line ++ tail → length tail < 1 → Reads bytes order rest line → IsOrderText bytes order
reads_all bytes order rest line tail e few so_far = record {
  choices = so_far.choices;
  spelled = so_far.spelled ∙ ap (front_text order) (e ∙ ap (λ z. end_line ++ z) (is_empty tail few)) ∙ sym (three_parts order);
}
