-- Choices and their rows.
use Rattle.std.proofs.Common.{◌≡◌, ℕ, zero, suc, ◌+◌, ◌-◌, ◌≤◌, ◌<◌, List, [], ◌∷◌, ◌++◌, length, get_or, Some, refl, sym, ap, ◌∙◌, arith, true, false}
use Rattle.std.specs.Prelude.{option_map, replicate, slice_get, slice_set, nat_le}
use Rattle.std.specs.List.Sorted.{IsPartitionPoint, IsPartitionedBy}
use Rattle.std.proofs.lemmas.Bool.Decides.{nat_tests}
use Rattle.std.proofs.lemmas.List.{append-nil, append_assoc, length-append, length-replicate, replicate-append-replicate}
use Rattle.std.proofs.lemmas.Option.{get_or_from_slice_get, slice_get-get_or, slice_get_within}
use Rattle.machine_state.specs.declared.state.Choice.{Choice}
use Rattle.machine_state.specs.declared.order.Row.{Row}
use Rattle.machine_state.specs.OrderRows.{spelled, end_of_rows, IsRising}

-- ---- how many there are

-- as many as the number where the last row ends
pub spelled_length : (s : ℕ) (rows : List Row) → IsRising s rows → s + length (spelled s rows) ≡ end_of_rows s rows
spelled_length s [] up = omega arith
spelled_length s (r ∷ rs) up =
    let h : r.until + length (spelled r.until rs) ≡ end_of_rows r.until rs = spelled_length r.until rs up.1 in
    let a : length (replicate (r.until - s) r.choice ++ spelled r.until rs) ≡ length (replicate (r.until - s) r.choice) + length (spelled r.until rs)
    = length-append (replicate (r.until - s) r.choice) (spelled r.until rs) in
    let b : length (replicate (r.until - s) r.choice) ≡ r.until - s = length-replicate (r.until - s) r.choice in
    let c : s ≤ r.until = up.0 in
    omega arith

pub row_count : (rows : List Row) (all : List Choice) → IsRising 0 rows → spelled 0 rows ≡ all → end_of_rows 0 rows ≡ length all
row_count rows all up e =
    let h : 0 + length (spelled 0 rows) ≡ end_of_rows 0 rows = spelled_length 0 rows up in
    let n : end_of_rows 0 rows ≡ length (spelled 0 rows) = omega arith in
    n ∙ ap (λ (l : List Choice). length l) e

-- ---- a row more

pub rising_pushed : (s : ℕ) (rows : List Row) (x : Row) → IsRising s rows → end_of_rows s rows ≤ x.until → IsRising s (rows ++ x ∷ [])
rising_pushed s [] x up le = (le, tt)
rising_pushed s (r ∷ rs) x up le = (up.0, rising_pushed r.until rs x up.1 le)

pub spelled_pushed : (s : ℕ) (rows : List Row) (x : Row) → spelled s (rows ++ x ∷ []) ≡ spelled s rows ++ replicate (x.until - end_of_rows s rows) x.choice
spelled_pushed s [] x = append-nil (replicate (x.until - s) x.choice)
spelled_pushed s (r ∷ rs) x =
    ap (λ (l : List Choice). replicate (r.until - s) r.choice ++ l) (spelled_pushed r.until rs x)
    ∙ sym (append_assoc (replicate (r.until - s) r.choice) (spelled r.until rs) (replicate (x.until - end_of_rows r.until rs) x.choice))

-- ---- the last row goes on

-- where it ended
pub last_end : (s k : ℕ) (rows : List Row) (r : Row) → k + 1 ≡ length rows → slice_get rows k ≡ Some r → end_of_rows s rows ≡ r.until
last_end s k [] r n e = absurd (omega arith)
last_end s zero (x ∷ []) r n e = let one : x ≡ r = cc in ap (λ (y : Row). y.until) one
last_end s (suc k) (x ∷ []) r n e = absurd (omega arith)
last_end s zero (x ∷ (y ∷ ys)) r n e = absurd (omega arith)
last_end s (suc k) (x ∷ (y ∷ ys)) r n e = last_end x.until k (y ∷ ys) r (omega arith) e

module _ (r x : Row) (le : r.until ≤ x.until) where
  pub rising_grown : (s k : ℕ) (rows : List Row) → k + 1 ≡ length rows → slice_get rows k ≡ Some r → IsRising s rows → IsRising s (slice_set rows k x)
  rising_grown s k [] n e up = absurd (omega arith)
  rising_grown s zero (y ∷ []) n e up =
      let one : y ≡ r = cc in
      let u : y.until ≡ r.until = ap (λ (z : Row). z.until) one in
      let a : s ≤ y.until = up.0 in
      (omega arith, tt)
  rising_grown s (suc k) (y ∷ []) n e up = absurd (omega arith)
  rising_grown s zero (y ∷ (z ∷ zs)) n e up = absurd (omega arith)
  rising_grown s (suc k) (y ∷ (z ∷ zs)) n e up = (up.0, rising_grown y.until k (z ∷ zs) (omega arith) e up.1)

  pub spelled_grown : x.choice ≡ r.choice → (s k : ℕ) (rows : List Row) → k + 1 ≡ length rows → slice_get rows k ≡ Some r → IsRising s rows
      → spelled s (slice_set rows k x) ≡ spelled s rows ++ replicate (x.until - end_of_rows s rows) x.choice
  spelled_grown same s k [] n e up = absurd (omega arith)
  spelled_grown same s zero (y ∷ []) n e up =
      let one : y ≡ r = cc in
      let u : y.until ≡ r.until = ap (λ (z : Row). z.until) one in
      let c : y.choice ≡ x.choice = ap (λ (z : Row). z.choice) one ∙ sym same in
      let a : s ≤ y.until = up.0 in
      let m : (y.until - s) + (x.until - y.until) ≡ x.until - s = omega arith in
      append-nil (replicate (x.until - s) x.choice)
      ∙ ap (λ (k : ℕ). replicate k x.choice) (sym m)
      ∙ sym (replicate-append-replicate (y.until - s) (x.until - y.until) x.choice)
      ∙ ap (λ (l : List Choice). l ++ replicate (x.until - y.until) x.choice) (ap (λ (d : Choice). replicate (y.until - s) d) (sym c) ∙ sym (append-nil (replicate (y.until - s) y.choice)))
  spelled_grown same s (suc k) (y ∷ []) n e up = absurd (omega arith)
  spelled_grown same s zero (y ∷ (z ∷ zs)) n e up = absurd (omega arith)
  spelled_grown same s (suc k) (y ∷ (z ∷ zs)) n e up =
      ap (λ (l : List Choice). replicate (y.until - s) y.choice ++ l) (spelled_grown same y.until k (z ∷ zs) (omega arith) e up.1)
      ∙ sym (append_assoc (replicate (y.until - s) y.choice) (spelled y.until (z ∷ zs)) (replicate (x.until - end_of_rows y.until (z ∷ zs)) x.choice))

-- of the last row's choice as many more
pub grown_last : (rows : List Row) (x last : Row) → slice_get rows (length rows - 1) ≡ Some last → last.choice ≡ x.choice → IsRising 0 rows → end_of_rows 0 rows ≤ x.until
    → IsRising 0 (slice_set rows (length rows - 1) x) × (spelled 0 (slice_set rows (length rows - 1) x) ≡ spelled 0 rows ++ replicate (x.until - end_of_rows 0 rows) x.choice)
grown_last rows x last e same up le =
    let inside : length rows - 1 < length rows = slice_get_within rows (length rows - 1) last e in
    let n : (length rows - 1) + 1 ≡ length rows = omega arith in
    let end : end_of_rows 0 rows ≡ last.until = last_end 0 (length rows - 1) rows last n e in
    let more : last.until ≤ x.until = omega arith in
    (rising_grown last x more 0 (length rows - 1) rows n e up, spelled_grown last x more (sym same) 0 (length rows - 1) rows n e up)

-- ---- a choice and its row

-- rows end one behind the other
later_end : (s : ℕ) (rows : List Row) (j : ℕ) (d : Row) → IsRising s rows → j < length rows → s ≤ (get_or rows j d).until
later_end s [] j d up lt = absurd (omega arith)
later_end s (r ∷ rs) zero d up lt = up.0
later_end s (r ∷ rs) (suc j) d up lt =
    let h : r.until ≤ (get_or rs j d).until = later_end r.until rs j d up.1 (omega arith) in
    let a : s ≤ r.until = up.0 in
    omega arith

ends_rise : (s : ℕ) (rows : List Row) (i j : ℕ) (d : Row) → IsRising s rows → i ≤ j → j < length rows → (get_or rows i d).until ≤ (get_or rows j d).until
ends_rise s [] i j d up le lt = absurd (omega arith)
ends_rise s (r ∷ rs) zero zero d up le lt = omega arith
ends_rise s (r ∷ rs) zero (suc j) d up le lt = later_end r.until rs j d up.1 (omega arith)
ends_rise s (r ∷ rs) (suc i) zero d up le lt = absurd (omega arith)
ends_rise s (r ∷ rs) (suc i) (suc j) d up le lt = ends_rise r.until rs i j d up.1 (omega arith) (omega arith)

-- those that end before a choice stand in front
pub partitioned : (rows : List Row) (at : ℕ) → IsRising 0 rows → IsPartitionedBy (λ r. nat_le r.until at) rows
partitioned rows at up i j d le lt e =
    let h : (get_or rows i d).until ≤ (get_or rows j d).until = ends_rise 0 rows i j d up le lt in
    grind (arith, nat_tests)

-- a choice in the first row, and one behind it
in_row : (n at : ℕ) (c : Choice) (rest : List Choice) → at < n → slice_get (replicate n c ++ rest) at ≡ Some c
in_row zero at c rest lt = absurd (omega arith)
in_row (suc n) zero c rest lt = refl
in_row (suc n) (suc at) c rest lt = in_row n at c rest (omega arith)

past_row : (n at : ℕ) (c : Choice) (rest : List Choice) → n ≤ at → slice_get (replicate n c ++ rest) at ≡ slice_get rest (at - n)
past_row zero at c rest le = ap (λ (k : ℕ). slice_get rest k) (let e : at ≡ at - zero = omega arith in e)
past_row (suc n) zero c rest le = absurd (omega arith)
past_row (suc n) (suc at) c rest le =
    let m : at - n ≡ suc at - suc n = omega arith in
    past_row n at c rest (omega arith) ∙ ap (λ (k : ℕ). slice_get rest k) m

-- a choice is that of the first row that ends behind it
pub found : (s at i : ℕ) (rows : List Row) → IsRising s rows → s ≤ at → i ≤ length rows
    → IsPartitionPoint (λ r. nat_le r.until at ≡ true) (λ r. nat_le r.until at ≡ false) rows i
    → option_map (λ r. r.choice) (slice_get rows i) ≡ slice_get (spelled s rows) (at - s)
found s at i [] up le inside point = refl
found s at zero (r ∷ rs) up le inside point =
    let h : nat_le r.until at ≡ false = point.1 0 r (omega arith) (omega arith) in
    let l : at < r.until = grind (arith, nat_tests) in
    sym (in_row (r.until - s) (at - s) r.choice (spelled r.until rs) (omega arith))
found s at (suc i) (r ∷ rs) up le inside point =
    let h : nat_le r.until at ≡ true = point.0 0 r (omega arith) (omega arith) in
    let l : r.until ≤ at = grind (arith, nat_tests) in
    let a : s ≤ r.until = up.0 in
    let n : (at - s) - (r.until - s) ≡ at - r.until = omega arith in
    found r.until at i rs up.1 l (omega arith) (λ k d ge lt. point.0 (suc k) d (omega arith) (omega arith), λ k d ge lt. point.1 (suc k) d (omega arith) (omega arith))
    ∙ ap (λ (k : ℕ). slice_get (spelled r.until rs) k) (sym n)
    ∙ sym (past_row (r.until - s) (at - s) r.choice (spelled r.until rs) (omega arith))

-- it is that of a row that ends behind it, where the one before doesn't
module _ (rows : List Row) (at i : ℕ) (r e : Row) (up : IsRising 0 rows) (is : slice_get rows i ≡ Some r) (lt : at < r.until) (before : 0 < i → (get_or rows (i - 1) e).until ≤ at) where
  inside : i < length rows
  inside = slice_get_within rows i r is

  in_front : (k : ℕ) (d : Row) → 0 ≤ k → k < i → nat_le (get_or rows k d).until at ≡ true
  in_front k d any below =
      let n : i < length rows = inside in
      let h : (get_or rows k d).until ≤ (get_or rows (i - 1) d).until = ends_rise 0 rows k (i - 1) d up (omega arith) (omega arith) in
      let one : get_or rows (i - 1) d ≡ get_or rows (i - 1) e = get_or_from_slice_get rows (i - 1) (get_or rows (i - 1) e) d (slice_get-get_or rows (i - 1) e (omega arith)) in
      let u : (get_or rows (i - 1) d).until ≡ (get_or rows (i - 1) e).until = ap (λ (x : Row). x.until) one in
      let b : (get_or rows (i - 1) e).until ≤ at = before (omega arith) in
      grind (arith, nat_tests)

  behind : (k : ℕ) (d : Row) → i ≤ k → k < length rows → nat_le (get_or rows k d).until at ≡ false
  behind k d above l =
      let h : (get_or rows i d).until ≤ (get_or rows k d).until = ends_rise 0 rows i k d up above l in
      let u : (get_or rows i d).until ≡ r.until = ap (λ (x : Row). x.until) (get_or_from_slice_get rows i r d is) in
      grind (arith, nat_tests)

  pub within : option_map (λ x. x.choice) (slice_get rows i) ≡ slice_get (spelled 0 rows) at
  within =
      let n : i < length rows = inside in
      let same : at - 0 ≡ at = omega arith in
      found 0 at i rows up (omega arith) (omega arith) (in_front, behind) ∙ ap (λ (k : ℕ). slice_get (spelled 0 rows) k) same
