-- Counts, method by method.
use Rattle.std.proofs.Common.{◌≡◌, ℕ, ◌+◌, ◌<◌, suc, min, List, [], ◌∷◌, ◌++◌, length, take, Option, Some, None, Ok, refl, sym, ap, subst, ◌∙◌, arith}
use Rattle.std.specs.Prelude.{slice_index_or}
use Rattle.std.specs.List.{sum_by}
use Rattle.std.specs.Option.{unwrap_or}
use Rattle.std.proofs.Math.Seq.{take-suc}
use Rattle.std.proofs.lemmas.List.Elements.{All-nil, All-push}
use Rattle.std.proofs.lemmas.List.Sums.{sum_by-append}
use Rattle.std.proofs.lemmas.Option.{slice_get-get_or}
use Rattle.jvm_base.specs.declared.code_item.CodeItem.{CodeItem}
use Rattle.jvm_base.specs.declared.pool.PoolItem.{PoolItem}
use Rattle.jvm_base.proofs.Refusing.{ok_is, bind_ok}
use Rattle.class_format.specs.declared.class.MethodItem.{MethodItem}
use Rattle.code_table.specs.declared.error.CodeErr.{CodeErr}
use Rattle.code_table.specs.Decoded.{decoded}
use Rattle.jvm_base.specs.Told.{Fails}
use Rattle.code_table.specs.Told.{told}
use Rattle.decode_run.specs.declared.counts.Counts.{Counts}
use Rattle.decode_run.specs.Counts.{instructions_of, IsDecoded, one_if, count_of, most, IsCounted, IsRefusedAt}

-- ---- one more method

-- a sum cut at each step is the sum cut at the end
capped : (s k m : ℕ) → min (min s m + k) m ≡ min (s + k) m
capped s k m = omega arith

-- code that is decoded is counted as one, and no code as none
one_code : (pool : List PoolItem) (code : Option CodeItem) (n : Option ℕ) → instructions_of pool code ≡ Ok n → one_if n ≡ one_if code
one_code pool None n e = ap one_if (sym (ok_is None n e))
one_code pool (Some item) n e =
    let code = bind_ok (decoded item pool) _ n e in
    ap one_if (sym (ok_is (Some (length code.0.ops)) n code.2))

-- what was counted of a method
count_ok : (n : Option ℕ) → count_of (Ok n) ≡ unwrap_or n 0
count_ok None = refl
count_ok (Some n) = refl

-- the first methods and the next one
taken : (items : List MethodItem) (i : ℕ) (x : MethodItem) → i < length items → x ≡ slice_index_or items i x → take (i + 1) items ≡ take i items ++ x ∷ []
taken items i x lt e =
    let k : i + 1 ≡ suc i = omega arith in
    ap (λ (j : ℕ). take j items) k ∙ take-suc items i x lt ∙ ap (λ (y : MethodItem). take i items ++ y ∷ []) (sym e)

-- one more to a sum that is cut
summed : (f : MethodItem → ℕ) (items : List MethodItem) (x : MethodItem) (c k : ℕ) → c ≡ min (sum_by f items) most → f x ≡ k → min (c + k) most ≡ min (sum_by f (items ++ x ∷ [])) most
summed f items x c k e same =
    let more : sum_by f (items ++ x ∷ []) ≡ sum_by f items + f x = sum_by-append f items (x ∷ []) ∙ omega arith in
    rw (e, more, same) (capped (sum_by f items) k most)

-- one more method that is decoded
pub counted_more : (pool : List PoolItem) (items : List MethodItem) (i : ℕ) (x : MethodItem) (c d : Counts) (n : Option ℕ) → i < length items → x ≡ slice_index_or items i x → instructions_of pool x.code ≡ Ok n
    → d.methods ≡ min (c.methods + one_if n) most → d.instructions ≡ min (c.instructions + unwrap_or n 0) most → IsCounted pool (take i items) c → IsCounted pool (take (i + 1) items) d
counted_more pool items i x c d n lt e is codes instructions h =
    subst (λ (xs : List MethodItem). IsCounted pool xs d) (sym (taken items i x lt e)) (record {
      each = All-push (IsDecoded pool) (take i items) x h.each (n, is);
      codes = codes ∙ summed (λ m. one_if m.code) (take i items) x c.methods (one_if n) h.codes (sym (one_code pool x.code n is));
      instructions = instructions ∙ summed (λ m. count_of (instructions_of pool m.code)) (take i items) x c.instructions (unwrap_or n 0) h.instructions (ap count_of is ∙ count_ok n);
    })

-- ---- the one that is refused

-- the first method that is refused
pub refused_at : (pool : List PoolItem) (items : List MethodItem) (i : ℕ) (x : MethodItem) (c : Counts) (e : CodeErr) → i < length items → x ≡ slice_index_or items i x → Fails told e (instructions_of pool x.code) → IsCounted pool (take i items) c
    → IsRefusedAt pool items (record { method = i; why = e })
refused_at pool items i x c e lt same fails h = record {
  method = x;
  is = slice_get-get_or items i x lt ∙ ap Some (sym same);
  before = h.each;
  why = fails;
}

-- ---- before the first method

-- no methods
pub counted_none : (pool : List PoolItem) (items : List MethodItem) → IsCounted pool (take 0 items) (record { methods = 0; instructions = 0 })
counted_none pool items = record { each = All-nil (IsDecoded pool); codes = refl; instructions = refl }
