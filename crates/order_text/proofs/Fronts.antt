-- What is read from the front of a text.
use Rattle.std.proofs.Common.{◌≡◌, ◌≤◌, ◌<◌, ◌+◌, ◌^◌, ◌==◌, ℕ, true, false, List, [], ◌++◌, length, take, drop, decimal, Option, Some, None, ap, sym, ◌∙◌, arith, append_assoc, append-nil}
use Rattle.std.specs.List.{position}
use Rattle.std.specs.Borrow.{Bor}
use Rattle.jvm_base.specs.declared.name.Name.{Name}
use Rattle.machine_state.specs.declared.state.Choice.{Choice}
use Rattle.order_text.specs.Spelling.{space, field, name_end, choice_line, IsName, IsChoice}
use Rattle.order_text.specs.Reading.Fronts.{value_of, is_numeral, IsNumberOf, IsFront}
use Rattle.order_text.proofs.Numerals.{numeral_is_decimal, decimal_is_numeral, decimal_value, cut, field_before}

-- ---- a number alone

pub not_numeral : (limit : ℕ) (bytes : List ℕ) → limit ≤ 2 ^ 32 → is_numeral bytes ≡ false → IsNumberOf limit bytes None
not_numeral limit bytes top h = record {
  found = tt;
  only = λ n below e. absurd (cc (sym h ∙ ap is_numeral e ∙ decimal_is_numeral n (omega (arith, below, top))));
}

pub number_is : (limit : ℕ) (bytes : List ℕ) → limit ≤ 2 ^ 32 → is_numeral bytes ≡ true → value_of bytes < limit → IsNumberOf limit bytes (Some (value_of bytes))
number_is limit bytes top h below = record {
  found = (below, numeral_is_decimal bytes h);
  only = λ n less e. ap Some (ap value_of e ∙ decimal_value n (omega (arith, less, top)));
}

pub number_is_over : (limit : ℕ) (bytes : List ℕ) → limit ≤ 2 ^ 32 → limit ≤ value_of bytes → IsNumberOf limit bytes None
number_is_over limit bytes top over = record {
  found = tt;
  only = λ n less e. absurd (omega (arith, over, less, ap value_of e ∙ decimal_value n (omega (arith, less, top))));
}

-- ---- a number with a byte behind it

-- what was read as a field
abbrev IsField : (limit behind : ℕ) → List ℕ → Option (ℕ × Bor (List ℕ)) → Type 0
IsField limit behind bytes result = IsFront (λ n. n < limit) (λ n. field n behind) bytes result

pub no_place : (limit behind : ℕ) (bytes : List ℕ) → limit ≤ 2 ^ 32 → behind < 48 → position (λ b. b == behind) bytes ≡ None → IsField limit behind bytes None
no_place limit behind bytes top low none = record {
  found = tt;
  only = λ n rest less e. absurd (cc (sym none ∙ (cut n behind bytes rest (omega (arith, less, top)) low e).place));
}

-- where the place is known, so is what stands there
at_place : (i j : ℕ) (o : Option ℕ) → o ≡ Some i → o ≡ Some j → j ≡ i
at_place i j o e f = cc

pub no_number : (limit behind i : ℕ) (bytes : List ℕ) → limit ≤ 2 ^ 32 → behind < 48 → position (λ b. b == behind) bytes ≡ Some i → IsNumberOf limit (take i bytes) None → IsField limit behind bytes None
no_number limit behind i bytes top low place none = record {
  found = tt;
  only = λ n rest less e.
      let p = cut n behind bytes rest (omega (arith, less, top)) low e in
      let same = at_place i (length (decimal n)) (position (λ b. b == behind) bytes) place p.place in
      absurd (cc (none.only n less (ap (λ k. take k bytes) (sym same) ∙ p.front)));
}

value_is : (i j : ℕ) → Some i ≡ Some j → i ≡ j
value_is i j e = cc

pub field_is : (limit behind i n : ℕ) (bytes : List ℕ) (rest : Bor (List ℕ)) → limit ≤ 2 ^ 32 → behind < 48 → position (λ b. b == behind) bytes ≡ Some i → IsNumberOf limit (take i bytes) (Some n) → rest.now ≡ drop (i + 1) bytes → IsField limit behind bytes (Some (n, rest))
field_is limit behind i n bytes rest top low place number is = record {
  found = (number.found.0, rw is (field_before n behind i bytes place number.found.1));
  only = λ m t less e.
      let p = cut m behind bytes t (omega (arith, less, top)) low e in
      let same = at_place i (length (decimal m)) (position (λ b. b == behind) bytes) place p.place in
      let one = value_is n m (number.only m less (ap (λ k. take k bytes) (sym same) ∙ p.front)) in
      ap (λ x. Some (x, rest.now)) one ∙ ap (λ z. Some (m, z)) (is ∙ ap (λ k. drop (k + 1) bytes) (sym same) ∙ p.back);
}

-- ---- a choice

-- the parts of what was seen
-- something that was seen, and what follows it
abbrev seen : {X : Type 0} → X → List ℕ → Option (X × List ℕ)
seen x s = Some (x, s)

-- one pair in one option
same_pair : {X : Type 0} (p q : X × List ℕ) → Some p ≡ Some q → p ≡ q
same_pair p q e = cc

seen_parts : {X : Type 0} (x y : X) (s t : List ℕ) → seen x s ≡ seen y t → (x ≡ y) × (s ≡ t)
seen_parts {X} x y s t e =
    let p = same_pair (x, s) (y, t) e in
    (ap (λ (z : X × List ℕ). z.0) p, ap (λ (z : X × List ℕ). z.1) p)

pub line_parts : (c : Choice) (rest : List ℕ) → choice_line c ++ rest ≡ field c.thread space ++ (field c.pick space ++ (name_end c.name ++ rest))
line_parts c rest =
    append_assoc (field c.thread space) (field c.pick space ++ (name_end c.name ++ [])) rest
    ∙ ap (λ z. field c.thread space ++ z) (append_assoc (field c.pick space) (name_end c.name ++ []) rest
    ∙ ap (λ z. field c.pick space ++ (z ++ rest)) (append-nil (name_end c.name)))

pub choice_is : (bytes : List ℕ) (thread : ℕ) (r : Bor (List ℕ)) (pick : ℕ) (s : Bor (List ℕ)) (name : Name) (t : Bor (List ℕ)) → IsField (2 ^ 32) space bytes (Some (thread, r)) → IsField (2 ^ 32) space r.now (Some (pick, s)) → IsFront IsName name_end s.now (Some (name, t)) → IsFront IsChoice choice_line bytes (Some (record { thread = thread; pick = pick; name = name }, t))
choice_is bytes thread r pick s name t a b d = record {
  found = (
    record { thread = a.found.0; pick = b.found.0; name = d.found.0 },
    a.found.1 ∙ ap (λ z. field thread space ++ z) (b.found.1 ∙ ap (λ z. field pick space ++ z) d.found.1) ∙ sym (line_parts (record { thread = thread; pick = pick; name = name }) t.now),
  );
  only = λ c rest fits e.
      let x = seen_parts thread c.thread r.now (field c.pick space ++ (name_end c.name ++ rest)) (a.only c.thread (field c.pick space ++ (name_end c.name ++ rest)) fits.thread (e ∙ line_parts c rest)) in
      let y = seen_parts pick c.pick s.now (name_end c.name ++ rest) (b.only c.pick (name_end c.name ++ rest) fits.pick x.1) in
      let z = seen_parts name c.name t.now rest (d.only c.name rest fits.name y.1) in
      ap (λ k. seen (record { thread = k; pick = pick; name = name }) t.now) x.0
      ∙ ap (λ k. seen (record { thread = c.thread; pick = k; name = name }) t.now) y.0
      ∙ ap (λ k. seen (record { thread = c.thread; pick = c.pick; name = k }) t.now) z.0
      ∙ ap (λ k. seen c k) z.1;
}

-- no line of a choice stands in front
pub none_in_front : (bytes : List ℕ) → IsFront IsChoice choice_line bytes None → (c : Choice) (t : List ℕ) → IsChoice c → bytes ≡ choice_line c ++ t → ⊥
none_in_front bytes none c t fits e = cc (none.only c t fits e)
