-- Reading at most one byte more than asked.
use Rattle.std.proofs.Common.{◌≡◌, ℕ, ◌<◌, ◌≤◌, List, [], ◌++◌, length, take, Option, Some, None, IfSome, arith, ap, ◌∙◌}
use Rattle.std.specs.Prelude.{option_map}
use Rattle.std.proofs.lemmas.List.{length-take, take_all}
use Rattle.cjvm_io.specs.Readings.{ReadsAll}

module _ (limit most : ℕ) (bytes : List ℕ) where
  -- more bytes than asked were read, so more were left
  pub too_long : (left : Option (List ℕ)) → IfSome (option_map (take most) left) (λ xs. bytes ≡ [] ++ xs) → limit < length bytes → IfSome left (λ xs. limit < length xs)
  too_long None b l = tt
  too_long (Some xs) b l = omega (arith, l, ap length b, length-take most xs)

  -- fewer bytes were read than might have been, so none is left
  pub reads_all : (left : Option (List ℕ)) → IfSome (option_map (take most) left) (λ xs. bytes ≡ [] ++ xs) → length bytes ≤ limit → length bytes < most → ReadsAll left limit bytes
  reads_all None b short less = record { bound = short; all = tt }
  reads_all (Some xs) b short less = record {
    bound = short;
    all = b ∙ take_all most xs (omega (arith, less, ap length b, length-take most xs));
  }
