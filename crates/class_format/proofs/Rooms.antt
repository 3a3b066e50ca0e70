-- The front of an array that is as long as a count of two bytes lets a list be.
use Rattle.std.proofs.Common.{◌≡◌, ℕ, ◌<◌, ◌^◌, length, take, replicate, arith, length-take-le}
use Rattle.std.proofs.lemmas.List.{length-replicate}

pub front_length : {X : Type 0} (n : ℕ) (x : X) → n < 2 ^ 16 → length (take n (replicate 65536 x)) ≡ n
front_length n x few = length-take-le n (replicate 65536 x) (omega (arith, length-replicate 65536 x))
