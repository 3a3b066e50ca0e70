-- One append after another.
use Rattle.std.proofs.Common.{ℕ, ◌+◌, length, Result, Ok, Err, subst, arith, List, [], ◌++◌, take, drop, sym, ◌∙◌, ap, append-nil, append_assoc, take-add}
use Rattle.std.specs.Prelude.{Some, None, Option, IsErr}
use Rattle.std.proofs.lemmas.List.{length-append, take-append-le}
use Rattle.std.proofs.Math.Seq.{take-append-add}
use Rattle.cjvm_io.specs.Sinks.{GainsFront, GainsAll}
use Rattle.std.specs.Io.KnownBytes.{Appends, Keeps}

pub appends_none : (a : Option (List ℕ)) → Appends a a []
appends_none None = tt
appends_none (Some xs) = sym (append-nil xs)

pub appends_more : (a b c : Option (List ℕ)) (xs ys : List ℕ) → Appends a b xs → Appends b c ys → Appends a c (xs ++ ys)
appends_more None b c xs ys p q = tt
appends_more (Some u) None c xs ys p q = absurd p
appends_more (Some u) (Some v) None xs ys p q = absurd q
appends_more (Some u) (Some v) (Some w) xs ys p q = q ∙ ap (λ z. z ++ ys) p ∙ append_assoc u xs ys

pub appends_kept : (a b c : Option (List ℕ)) (xs : List ℕ) → Appends a b xs → Keeps b c → Appends a c xs
appends_kept None b c xs p q = tt
appends_kept (Some u) None c xs p q = absurd p
appends_kept (Some u) (Some v) None xs p q = absurd q
appends_kept (Some u) (Some v) (Some w) xs p q = q ∙ p

-- a further piece of the same bytes
pub appends_on : (a b c : Option (List ℕ)) (xs : List ℕ) (n m : ℕ) → Appends a b (take n xs) → Appends b c (take m (drop n xs)) → Appends a c (take (n + m) xs)
appends_on a b c xs n m p q = rw take-add (appends_more a b c (take n xs) (take m (drop n xs)) p q)

-- all of one piece, and then of another what its write says
pub gains_then : {E : Type 0} (a b c : Option (List ℕ)) (xs ys : List ℕ) (r : Result Unit E) → Appends a b xs → GainsAll b c ys r → GainsAll a c (xs ++ ys) r
gains_then a b c xs ys (Ok u) p q = appends_more a b c xs ys p q
gains_then a b c xs ys (Err e) p q = record {
  count = length xs + q.count;
  within = omega (arith, q.within, length-append xs ys);
  gained = subst (λ (zs : List ℕ). Appends a c zs) (sym (take-append-add xs ys q.count)) (appends_more a b c xs (take q.count ys) p q.gained);
}

-- a front of one piece, where a write of it failed
pub gains_front : {E : Type 0} (a b : Option (List ℕ)) (xs ys : List ℕ) (r : Result Unit E) → IsErr r → GainsFront a b xs → GainsAll a b (xs ++ ys) r
gains_front a b xs ys (Ok u) i q = absurd cc
gains_front a b xs ys (Err e) i q = record {
  count = q.count;
  within = omega (arith, q.within, length-append xs ys);
  gained = subst (λ (zs : List ℕ). Appends a b zs) (sym (take-append-le q.count xs ys q.within)) q.gained;
}
