-- What a shelf that tells its files answers.
use Rattle.std.proofs.Common.{◌≡◌, ℕ, ◌≤◌, List, length, Result, subst, sym, ◌∙◌, ap, arith}
use Rattle.std.specs.Prelude.{Some, None, Ok, Err, IfOk}
use Rattle.cjvm_io.specs.declared.shelf.ShelfErr.{ShelfErr}
use Rattle.cjvm_io.specs.declared.shelf.ShelfErr.TheVariants.{NotThere, NoMemory}
use Rattle.cjvm_io.specs.Shelves.{Files, bytes_under, HasLonger, AnswersFrom, ShelfAnswers}

module _ {T : Type 0} (bytes_of : T → List ℕ) (fs : Files) (name : List ℕ) (limit : ℕ) where
  -- what the told files say is what is answered
  of_files : (r : Result T ShelfErr) → IfOk r (λ v. length (bytes_of v) ≤ limit) → AnswersFrom bytes_of fs name limit r → ShelfAnswers bytes_of (Some fs) name limit r
  of_files r b a = record {
    bound = b;
    of_told = λ gs e. let p : fs ≡ gs = cc in subst (λ (hs : Files). AnswersFrom bytes_of hs name limit r) p a;
  }

  -- there is no file of the name
  pub answers_missing : bytes_under fs name ≡ None → ShelfAnswers bytes_of (Some fs) name limit (Err NotThere)
  answers_missing n = of_files (Err NotThere) tt (record {
    ok = tt;
    not_there = λ p. n;
    too_long = λ p. absurd (let q = p in cc);
    is_too_long = λ h. absurd (let q : None ≡ Some h.bytes = sym n ∙ h.has in cc);
  })

  -- the file's bytes are given
  pub answers_ok : (v : T) → bytes_under fs name ≡ Some (bytes_of v) → length (bytes_of v) ≤ limit → ShelfAnswers bytes_of (Some fs) name limit (Ok v)
  answers_ok v s short = of_files (Ok v) short (record {
    ok = s;
    not_there = λ p. absurd (let q = p in cc);
    too_long = λ p. absurd (let q = p in cc);
    is_too_long = λ h.
        let q : Some h.bytes ≡ Some (bytes_of v) = sym h.has ∙ s in
        let r : h.bytes ≡ bytes_of v = cc in
        absurd (omega (arith, ap length r, h.long, short));
  })

  -- no memory was left for the file's bytes
  pub answers_no_memory : (bs : List ℕ) → bytes_under fs name ≡ Some bs → length bs ≤ limit → ShelfAnswers bytes_of (Some fs) name limit (Err NoMemory)
  answers_no_memory bs s short = of_files (Err NoMemory) tt (record {
    ok = tt;
    not_there = λ p. absurd (let q = p in cc);
    too_long = λ p. absurd (let q = p in cc);
    is_too_long = λ h.
        let q : Some h.bytes ≡ Some bs = sym h.has ∙ s in
        let r : h.bytes ≡ bs = cc in
        absurd (omega (arith, ap length r, h.long, short));
  })
