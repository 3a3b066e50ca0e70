-- The lines of a text.
use Rattle.std.proofs.Common.{◌≡◌, ◌<◌, ◌^◌, ◌==◌, ℕ, Bool, true, false, if◌then◌else◌, List, [], ◌∷◌, ◌++◌, map, decimal, ap, ◌∙◌, refl, arith, append_assoc, append-nil}
use Rattle.std.specs.List.{concat, flat_map, onto_first}
use Rattle.jvm_base.specs.declared.name.Name.{Name}
use Rattle.machine_state.specs.declared.state.Choice.{Choice}
use Rattle.order_text.specs.Spelling.{line_end, space, dot, head_line, end_line, field, name_end, choice_line, order_lines, order_text, IsName, IsChoice, AreChoices}
use Rattle.order_text.specs.Faults.{lines}
use Rattle.order_text.proofs.Writing.{three_parts}
use Rattle.order_text.proofs.Numerals.{NoneIs, decimal_has_none}

-- ---- one line

-- bytes in front of the first line
before_first_line : (xs t l : List ℕ) (ls : List (List ℕ)) → NoneIs line_end xs → lines t ≡ l ∷ ls → lines (xs ++ t) ≡ (xs ++ l) ∷ ls
before_first_line [] t l ls none e = e
before_first_line (x ∷ xs) t l ls none e = rw (none.0, before_first_line xs t l ls none.1 e) refl

-- it is the first line of whatever text it stands in front of
abbrev pub IsLine : List ℕ → Type 0
IsLine l = (rest : List ℕ) → lines (l ++ rest) ≡ l ∷ lines rest

longer : (xs l : List ℕ) → NoneIs line_end xs → IsLine l → IsLine (xs ++ l)
longer xs l none is rest = ap lines (append_assoc xs l rest) ∙ before_first_line xs (l ++ rest) l (lines rest) none (is rest)

with_nothing : (l : List ℕ) → IsLine l → IsLine (l ++ [])
with_nothing l is = rw (append-nil l) is

line_end_is_line : IsLine (line_end ∷ [])
line_end_is_line rest = refl

pub head_is_line : IsLine head_line
head_is_line rest = refl

pub end_is_line : IsLine end_line
end_is_line rest = refl

-- none in two texts
none_in_both : (b : ℕ) (xs ys : List ℕ) → NoneIs b xs → NoneIs b ys → NoneIs b (xs ++ ys)
none_in_both b [] ys h k = k
none_in_both b (x ∷ xs) ys h k = (h.0, none_in_both b xs ys h.1 k)

-- a field within a line
inner : (n behind : ℕ) → n < 2 ^ 32 → (behind == line_end) ≡ false → NoneIs line_end (field n behind)
inner n behind below other = none_in_both line_end (decimal n) (behind ∷ []) (decimal_has_none line_end n (omega arith) below) (other, tt)

-- the last field of a line
last_is_line : (n : ℕ) → n < 2 ^ 32 → IsLine (field n line_end)
last_is_line n below = longer (decimal n) (line_end ∷ []) (decimal_has_none line_end n (omega arith) below) line_end_is_line

name_end_is_line : (n : Name) → IsName n → IsLine (name_end n)
name_end_is_line n fits =
    longer (field n.node dot) (field n.class dot ++ (field n.index line_end ++ [])) (inner n.node dot (omega (arith, fits.node)) refl)
    (longer (field n.class dot) (field n.index line_end ++ []) (inner n.class dot (omega (arith, fits.class)) refl)
    (with_nothing (field n.index line_end) (last_is_line n.index fits.index)))

pub choice_is_line : (c : Choice) → IsChoice c → IsLine (choice_line c)
choice_is_line c fits =
    longer (field c.thread space) (field c.pick space ++ (name_end c.name ++ [])) (inner c.thread space fits.thread refl)
    (longer (field c.pick space) (name_end c.name ++ []) (inner c.pick space fits.pick refl)
    (with_nothing (name_end c.name) (name_end_is_line c.name fits.name)))

-- ---- lines of choices

-- choices in front of a text
pub lines_of_choices : (order : List Choice) (rest : List ℕ) → AreChoices order → lines (flat_map choice_line order ++ rest) ≡ map choice_line order ++ lines rest
lines_of_choices [] rest fits = refl
lines_of_choices (c ∷ cs) rest fits =
    ap lines (append_assoc (choice_line c) (flat_map choice_line cs) rest)
    ∙ choice_is_line c fits.0 (flat_map choice_line cs ++ rest)
    ∙ ap (λ z. choice_line c ∷ z) (lines_of_choices cs rest fits.1)

-- the first line and those of choices
abbrev pub front_lines : List Choice → List (List ℕ)
front_lines order = head_line ∷ map choice_line order

abbrev pub front_text : List Choice → List ℕ → List ℕ
front_text order rest = head_line ++ (flat_map choice_line order ++ rest)

pub lines_of_front : (order : List Choice) (rest : List ℕ) → AreChoices order → lines (front_text order rest) ≡ front_lines order ++ lines rest
lines_of_front order rest fits = head_is_line (flat_map choice_line order ++ rest) ∙ ap (λ z. head_line ∷ z) (lines_of_choices order rest fits)

-- the text with a byte in front
joined_at : (ends : Bool) (b : ℕ) (ls : List (List ℕ)) → concat (if ends then (b ∷ []) ∷ ls else onto_first b ls) ≡ b ∷ concat ls
joined_at true b ls = refl
joined_at false b [] = refl
joined_at false b (l ∷ ls) = refl

-- lines joined are the text
pub joined_lines : (text : List ℕ) → concat (lines text) ≡ text
joined_lines [] = refl
joined_lines (b ∷ bs) = joined_at (b == line_end) b (lines bs) ∙ ap (λ z. b ∷ z) (joined_lines bs)

-- the lines of an order's text
pub lines_of_order : (order : List Choice) → AreChoices order → lines (order_text order) ≡ order_lines order
lines_of_order order fits = ap lines (three_parts order) ∙ lines_of_front order end_line fits
