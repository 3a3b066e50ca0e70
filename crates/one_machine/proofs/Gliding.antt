-- Moves in a row, one by one and of what lies around.
use Rattle.std.proofs.Common.{◌≡◌, ℕ, zero, suc, ◌+◌, true, Option, Some, None, refl, sym, ap, ◌∙◌, add-one}
use Rattle.std.specs.Prelude.{is_some, option_map}
use Rattle.jvm_base.specs.Words.{from}
use Rattle.one_machine.specs.Gliding.{Always, AreMoves, after_moves}

-- ---- one move more

-- the last of some moves
moved_last : {A : Type 0} (move : A → Option A) (n : ℕ) (a b : A) → after_moves move n a ≡ Some b → after_moves move (suc n) a ≡ move b
moved_last {A} move zero a b e = let one : a ≡ b = cc in by_move (move a) ∙ ap move one
  where
    by_move : (o : Option A) → from None (after_moves move zero) o ≡ o
    by_move None = refl
    by_move (Some x) = refl
moved_last {A} move (suc n) a b e = by_move (λ x h. moved_last move n x b h) (move a) e
  where
    by_move : ((x : A) → after_moves move n x ≡ Some b → after_moves move (suc n) x ≡ move b) → (o : Option A) → from None (after_moves move n) o ≡ Some b → from None (after_moves move (suc n)) o ≡ move b
    by_move more None h = absurd cc
    by_move more (Some x) h = more x h

-- a move that was made, behind others
pub moves_on : {A : Type 0} (move : A → Option A) (n : ℕ) (a b c : A) → after_moves move n a ≡ Some b → true ≡ is_some (move b) → c ≡ from b (λ x. x) (move b) → after_moves move (n + 1) a ≡ Some c
moves_on {A} move n a b c lead some is = ap (λ (k : ℕ). after_moves move k a) (add-one n) ∙ moved_last move n a b lead ∙ by_move (move b) some is
  where
    by_move : (o : Option A) → true ≡ is_some o → c ≡ from b (λ x. x) o → o ≡ Some c
    by_move None h e = absurd cc
    by_move (Some x) h e = ap Some (sym e)

-- ---- what lies around

module _ {A B : Type 0} (f : A → Option A) (g : B → Option B) (h : A → B) (around : (x : A) → g (h x) ≡ option_map h (f x)) where
  -- it moves as what lies inside
  moved_around : (n : ℕ) (a : A) → after_moves g n (h a) ≡ option_map h (after_moves f n a)
  moved_around zero a = refl
  moved_around (suc n) a = ap (from None (after_moves g n)) (around a) ∙ by_move (moved_around n) (f a)
    where
      by_move : ((x : A) → after_moves g n (h x) ≡ option_map h (after_moves f n x)) → (o : Option A) → from None (after_moves g n) (option_map h o) ≡ option_map h (from None (after_moves f n) o)
      by_move more None = refl
      by_move more (Some x) = more x

  pub moves_around : (most n : ℕ) (a b : A) → AreMoves f most n a b → AreMoves g most n (h a) (h b)
  moves_around most n a b m = record {
    lead = moved_around n a ∙ ap (option_map h) m.lead;
    few = m.few;
    all = λ lt. around b ∙ ap (option_map h) (m.all lt);
  }

  -- what always holds around, holds of what lies inside
  pub always_inside : (a : A) (P : B → Type 0) → Always g (h a) P → Always f a (λ x. P (h x))
  always_inside a P all n b e = all n (h b) (moved_around n a ∙ ap (option_map h) e)
