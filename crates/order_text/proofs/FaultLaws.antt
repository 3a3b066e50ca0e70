-- The first fault of a text.
use Rattle.std.proofs.Common.{◌≡◌, ◌<◌, ◌≤◌, ◌+◌, ◌-◌, ℕ, List, [], ◌∷◌, ◌++◌, length, take, map, ap, sym, ◌∙◌, refl, subst, arith, append_assoc, append-nil, ◌⊎◌, inl, inr}
use Rattle.std.specs.List.{concat}
use Rattle.std.proofs.Math.Seq.{take-append_seam, take-append-add}
use Rattle.std.proofs.lemmas.List.{length-append, length-map}
use Rattle.machine_state.specs.declared.state.Choice.{Choice}
use Rattle.order_text.specs.Spelling.{space, head_line, end_line, field, name_end, choice_line, order_lines, IsChoice, AreChoices}
use Rattle.order_text.specs.Faults.{lines, Begins, IsFirstFault}
use Rattle.order_text.proofs.Numerals.{cut}
use Rattle.order_text.proofs.LineLaws.{end_is_line, front_lines, front_text, lines_of_front, lines_of_order, joined_lines}

-- ---- lists

pub heads : {X : Type 0} (x y : X) (xs ys : List X) → x ∷ xs ≡ y ∷ ys → x ≡ y
heads x y xs ys e = cc

pub tails : {X : Type 0} (x y : X) (xs ys : List X) → x ∷ xs ≡ y ∷ ys → xs ≡ ys
tails x y xs ys e = cc

no_more : {X : Type 0} (xs : List X) (y : X) (ys : List X) → [] ≡ xs ++ y ∷ ys → ⊥
no_more [] y ys e = cc
no_more (x ∷ xs) y ys e = cc

-- ---- the lines of orders

-- the line of a choice isn't the last line
pub clash : (c : Choice) → IsChoice c → choice_line c ≡ end_line → ⊥
clash c fits e =
    let p = cut c.thread space end_line (concat (field c.pick space ∷ name_end c.name ∷ [])) fits.thread (omega arith) (sym e) in
    cc p.place

-- the last line, or that of a choice
abbrev IsLater : List ℕ → Type 0
IsLater l = (l ≡ end_line) ⊎ ((c : Choice) × IsChoice c × (l ≡ choice_line c))

-- each line behind the first is one of these
line_at : (o : List Choice) (xs : List (List ℕ)) (l : List ℕ) (rest : List (List ℕ)) → AreChoices o → map choice_line o ++ end_line ∷ [] ≡ xs ++ l ∷ rest → IsLater l
line_at [] [] l rest fits e = inl (sym (heads end_line l [] rest e))
line_at [] (x ∷ xs) l rest fits e = absurd (no_more xs l rest (tails end_line x [] (xs ++ l ∷ rest) e))
line_at (c ∷ cs) [] l rest fits e = inr (c, fits.0, sym (heads (choice_line c) l (map choice_line cs ++ end_line ∷ []) rest e))
line_at (c ∷ cs) (x ∷ xs) l rest fits e = line_at cs xs l rest fits.1 (tails (choice_line c) x (map choice_line cs ++ end_line ∷ []) (xs ++ l ∷ rest) e)

-- no line follows the last one
end_is_last : (o : List Choice) (xs : List (List ℕ)) (l : List ℕ) (rest : List (List ℕ)) → AreChoices o → map choice_line o ++ end_line ∷ [] ≡ xs ++ end_line ∷ l ∷ rest → ⊥
end_is_last [] [] l rest fits e = no_more [] l rest (tails end_line end_line [] (l ∷ rest) e)
end_is_last [] (x ∷ xs) l rest fits e = no_more xs end_line (l ∷ rest) (tails end_line x [] (xs ++ end_line ∷ l ∷ rest) e)
end_is_last (c ∷ cs) [] l rest fits e = clash c fits.0 (heads (choice_line c) end_line (map choice_line cs ++ end_line ∷ []) (l ∷ rest) e)
end_is_last (c ∷ cs) (x ∷ xs) l rest fits e = end_is_last cs xs l rest fits.1 (tails (choice_line c) x (map choice_line cs ++ end_line ∷ []) (xs ++ end_line ∷ l ∷ rest) e)

-- lines of choices lack the last one
end_is_there : (o order : List Choice) → AreChoices order → map choice_line o ++ end_line ∷ [] ≡ map choice_line order → ⊥
end_is_there [] [] fits e = no_more [] end_line [] (sym e)
end_is_there [] (c ∷ cs) fits e = clash c fits.0 (sym (heads end_line (choice_line c) [] (map choice_line cs) e))
end_is_there (x ∷ xs) [] fits e = no_more [] (choice_line x) (map choice_line xs ++ end_line ∷ []) (sym e)
end_is_there (x ∷ xs) (c ∷ cs) fits e = end_is_there xs cs fits.1 (tails (choice_line x) (choice_line c) (map choice_line xs ++ end_line ∷ []) (map choice_line cs) e)

-- ---- where a text stops

-- these lines begin an order's; with the next one, where there is one, they don't; where there is
-- none, they aren't all of an order's
record Stops (front tail : List (List ℕ)) : Type 0 where
  begins : Begins front
  next : (l : List ℕ) (ls : List (List ℕ)) → tail ≡ l ∷ ls → Begins (front ++ l ∷ []) → ⊥
  ends : tail ≡ [] → (o : List Choice) → AreChoices o → order_lines o ≡ front → ⊥

no_order : (front tail : List (List ℕ)) → Stops front tail → (o : List Choice) → AreChoices o → order_lines o ≡ front ++ tail → ⊥
no_order front [] stops o fits e = stops.ends refl o fits (e ∙ append-nil front)
no_order front (l ∷ ls) stops o fits e = stops.next l ls refl (o, ls, fits, e ∙ sym (append_assoc front (l ∷ []) ls))

no_further : (front tail : List (List ℕ)) → Stops front tail → length front + 1 ≤ length (front ++ tail) → Begins (take (length front + 1) (front ++ tail)) → ⊥
no_further front [] stops within b = omega (arith, within, length-append front [])
no_further front (l ∷ ls) stops within b = stops.next l ls refl (subst Begins (take-append-add front (l ∷ ls) 1) b)

-- the line behind those is the first fault
fault_is : (text : List ℕ) (front tail : List (List ℕ)) (line : ℕ) → line ≡ length front + 1 → lines text ≡ front ++ tail → Stops front tail → IsFirstFault text line
fault_is text front tail line at e stops =
    let before : line - 1 ≡ length front = omega (arith, at) in
    record {
      other = λ o t. no_order front tail stops o t.choices (sym (lines_of_order o t.choices) ∙ ap lines (sym t.spelled) ∙ e);
      before = rw (before, e) (omega (arith, length-append front tail), rw (take-append_seam front tail) stops.begins);
      here = λ b. no_further front tail stops (rw (← at, ← e) b.0) (rw (← at, ← e) b.1);
    }

-- no first line stands in front
pub head_is_missing : (text : List ℕ) → ((t : List ℕ) → text ≡ head_line ++ t → ⊥) → IsFirstFault text 1
head_is_missing text none = fault_is text [] (lines text) 1 refl refl (record {
  begins = ([], order_lines [], tt, refl);
  next = λ l ls e b. none (concat ls) (sym (joined_lines text) ∙ ap concat e ∙ ap (λ z. z ++ concat ls) (sym (heads head_line l (map choice_line b.0 ++ end_line ∷ []) b.1 b.3)));
  ends = λ nil o fits e. no_more [] head_line (map choice_line o ++ end_line ∷ []) (sym e);
})

-- behind choices
record IsNoLine (rest : List ℕ) : Type 0 where
  choice : (c : Choice) (t : List ℕ) → IsChoice c → rest ≡ choice_line c ++ t → ⊥
  last : (t : List ℕ) → rest ≡ end_line ++ t → ⊥

no_later : (rest l : List ℕ) (ls : List (List ℕ)) → IsNoLine rest → lines rest ≡ l ∷ ls → IsLater l → ⊥
no_later rest l ls none e (inl is) = none.last (concat ls) (sym (joined_lines rest) ∙ ap concat e ∙ ap (λ z. z ++ concat ls) is)
no_later rest l ls none e (inr is) = none.choice is.0 (concat ls) is.1 (sym (joined_lines rest) ∙ ap concat e ∙ ap (λ z. z ++ concat ls) is.2)

pub line_is_bad : (text : List ℕ) (order : List Choice) (rest : List ℕ) (line : ℕ) → line ≡ length order + 2 → AreChoices order → text ≡ front_text order rest → ((c : Choice) (t : List ℕ) → IsChoice c → rest ≡ choice_line c ++ t → ⊥) → ((t : List ℕ) → rest ≡ end_line ++ t → ⊥) → IsFirstFault text line
line_is_bad text order rest line at fits e no_choice no_end =
    fault_is text (front_lines order) (lines rest) line (omega (arith, at, length-map order choice_line)) (ap lines e ∙ lines_of_front order rest fits) (record {
      begins = (order, end_line ∷ [], fits, refl);
      next = λ l ls is b. no_later rest l ls (record { choice = no_choice; last = no_end }) is
          (line_at b.0 (map choice_line order) l b.1 b.2 (tails head_line head_line _ _ (b.3 ∙ append_assoc (front_lines order) (l ∷ []) b.1)));
      ends = λ none o more is. end_is_there o order fits (tails head_line head_line _ _ is);
    })

-- a byte follows the last line
byte_follows : (text : List ℕ) (order : List Choice) (b : ℕ) (rest : List ℕ) (line : ℕ) → line ≡ length order + 3 → AreChoices order → text ≡ front_text order (end_line ++ b ∷ rest) → IsFirstFault text line
byte_follows text order b rest line at fits e =
    let whole = front_lines order ++ end_line ∷ [] in
    fault_is text whole (lines (b ∷ rest)) line (omega (arith, at, length-map order choice_line, length-append (front_lines order) (end_line ∷ [])))
    (ap lines e ∙ lines_of_front order (end_line ++ b ∷ rest) fits ∙ ap (λ z. front_lines order ++ z) (end_is_line (b ∷ rest)) ∙ sym (append_assoc (front_lines order) (end_line ∷ []) (lines (b ∷ rest)))) (record {
      begins = (order, [], fits, sym (append-nil whole));
      next = λ l ls is x. end_is_last x.0 (map choice_line order) l x.1 x.2 (tails head_line head_line _ _
          (x.3 ∙ append_assoc whole (l ∷ []) x.1 ∙ append_assoc (front_lines order) (end_line ∷ []) (l ∷ x.1)));
      ends = λ nil o more is. cc (sym (joined_lines (b ∷ rest)) ∙ ap concat nil);
    })

-- something follows the last line
pub more_follows : (text : List ℕ) (order : List Choice) (tail : List ℕ) (line : ℕ) → line ≡ length order + 3 → AreChoices order → text ≡ front_text order (end_line ++ tail) → 0 < length tail → IsFirstFault text line
more_follows text order [] line at fits e some = absurd (omega (arith, some))
more_follows text order (b ∷ rest) line at fits e some = byte_follows text order b rest line at fits e
