-- Parts one after the other: what is taken is the parts' spellings, and these are read again.
use Rattle.std.proofs.Common.{◌≡◌, ℕ, zero, suc, ◌^◌, ◌<◌, List, [], ◌∷◌, ◌++◌, length, Result, Ok, refl, sym, ap, subst, ◌∙◌, append_assoc, arith}
use Rattle.std.specs.Int.{w16}
use Rattle.std.specs.List.{flat_map, AllByRecursion}
use Rattle.std.proofs.lemmas.List.{append-nil}
use Rattle.std.proofs.lemmas.List.Concat.{flat_map-cons}
use Rattle.jvm_base.proofs.Refusing.{bind_ok, ok_is}
use Rattle.class_file.specs.declared.error.ClassErr.{ClassErr}
use Rattle.class_format.specs.Meaning.{AreBytes, Spelled}
use Rattle.class_file.specs.Reading.Words.{Place, number_at, each_at, counted_at, adding, listed_at}
use Rattle.class_format.specs.Spelling.{number2, listed}
use Rattle.class_file.proofs.ReadLaws.{at, Takes, takes_none, Takes-then, IsRead, read2}

-- a source that leads from one state to another, and was taken
pub record Took {S A : Type 0} (bytes : A → List ℕ) (Leads : S → A → S → Type 0) (s : S) (p : Place) (z : S × Place) : Type 0 where
  pub a : A
  pub leads : Leads s a z.0
  pub took : Takes p (bytes a) z.1

-- a part reads exactly the sources that lead from one state to another
pub record IsPart {S A : Type 0} (part : S → Place → Result (S × Place) ClassErr) (bytes : A → List ℕ) (Leads : S → A → S → Type 0) : Type 0 where
  pub takes : (s : S) (p : Place) (z : S × Place) → AreBytes p.rest → part s p ≡ Ok z → Took bytes Leads s p z
  pub again : (s t : S) (a : A) (n : ℕ) (rest : List ℕ) → Leads s a t → part s (at n (bytes a ++ rest)) ≡ Ok (t, at n rest)

-- sources that lead on one after the other
abbrev pub Lead : {S A : Type 0} → (S → A → S → Type 0) → S → List A → S → Type 0
Lead {S} Leads s [] t = s ≡ t
Lead {S} Leads s (a ∷ sources) t = (m : S) × Leads s a m × Lead Leads m sources t

pub record TookAll {S A : Type 0} (bytes : A → List ℕ) (Leads : S → A → S → Type 0) (n : ℕ) (s : S) (p : Place) (z : S × Place) : Type 0 where
  pub sources : List A
  pub lead : Lead Leads s sources z.0
  pub took : Takes p (flat_map bytes sources) z.1
  pub long : length sources ≡ n

pub record TookListed {S A : Type 0} (bytes : A → List ℕ) (Leads : S → A → S → Type 0) (s : S) (p : Place) (z : S × Place) : Type 0 where
  pub sources : List A
  pub lead : Lead Leads s sources z.0
  pub took : Takes p (listed bytes sources) z.1
  pub count : length sources < 2 ^ 16

module _ {S A : Type 0} (part : S → Place → Result (S × Place) ClassErr) (bytes : A → List ℕ) (Leads : S → A → S → Type 0) (is : IsPart part bytes Leads) where
  pub all_take : (n : ℕ) (s : S) (p : Place) (z : S × Place) → AreBytes p.rest → each_at part n s p ≡ Ok z → TookAll bytes Leads n s p z
  unfolding each_at
  all_take zero s p z fits e = subst (λ (z : S × Place). TookAll bytes Leads 0 s p z) (ok_is (s, p) z e) (record { sources = []; lead = refl; took = takes_none p fits; long = refl })
  all_take (suc n) s p z fits e =
      let a = bind_ok (part s p) (λ x. each_at part n x.0 x.1) z e in
      let first = is.takes s p a.0 fits a.1 in
      let others = all_take n a.0.0 a.0.1 z first.took.rest_fits a.2 in
      record {
        sources = first.a ∷ others.sources;
        lead = (a.0.0, first.leads, others.lead);
        took = rw flat_map-cons (Takes-then p (bytes first.a) a.0.1 (flat_map bytes others.sources) z.1 first.took others.took);
        long = ap suc others.long;
      }

  pub listed_take : (s : S) (p : Place) (z : S × Place) → AreBytes p.rest → counted_at part s p ≡ Ok z → TookListed bytes Leads s p z
  unfolding counted_at
  listed_take s p z fits e =
      let count = bind_ok (number_at w16 p) (λ count. each_at part count.0 s count.1) z e in
      let t = read2.takes p count.0.1 count.0.0 fits count.1 in
      let all = all_take count.0.0 s count.0.1 z t.0.rest_fits count.2 in
      let front : Takes p (number2 (length all.sources)) count.0.1 = subst (λ (n : ℕ). Takes p (number2 n) count.0.1) (sym all.long) t.0 in
      record {
        sources = all.sources;
        lead = all.lead;
        took = Takes-then p (number2 (length all.sources)) count.0.1 (flat_map bytes all.sources) z.1 front all.took;
        count = omega (arith, t.1, all.long);
      }

  pub all_again : (s t : S) (sources : List A) (n : ℕ) (rest : List ℕ) → Lead Leads s sources t → each_at part (length sources) s (at n (flat_map bytes sources ++ rest)) ≡ Ok (t, at n rest)
  unfolding each_at
  all_again s t [] n rest h = ap (λ (u : S). Ok (u, at n rest)) h
  all_again s t (a ∷ sources) n rest h =
      let regrouped : flat_map bytes (a ∷ sources) ++ rest ≡ bytes a ++ (flat_map bytes sources ++ rest) = ap (λ (z : List ℕ). z ++ rest) (flat_map-cons bytes a sources) ∙ append_assoc (bytes a) (flat_map bytes sources) rest in
      ap (λ b. each_at part (suc (length sources)) s (at n b)) regrouped ∙ rw (is.again s h.0 a n (flat_map bytes sources ++ rest) h.1) (all_again h.0 t sources n rest h.2)

  pub listed_again : (s t : S) (sources : List A) (n : ℕ) (rest : List ℕ) → Lead Leads s sources t → length sources < 2 ^ 16 → counted_at part s (at n (listed bytes sources ++ rest)) ≡ Ok (t, at n rest)
  unfolding counted_at
  listed_again s t sources n rest h lt =
      ap (λ b. counted_at part s (at n b)) (append_assoc (number2 (length sources)) (flat_map bytes sources) rest)
      ∙ rw (read2.again (length sources) n (flat_map bytes sources ++ rest) lt) (all_again s t sources n rest h)

-- ---- parts that add an item to a list

abbrev pub Adds : {A X : Type 0} → (List X → A → X → Type 0) → List X → A → List X → Type 0
Adds {A} {X} Is xs a ys = (x : X) × (ys ≡ xs ++ x ∷ []) × Is xs a x

pub record TookItem {A X : Type 0} (bytes : A → List ℕ) (Is : List X → A → X → Type 0) (xs : List X) (p : Place) (z : X × Place) : Type 0 where
  pub a : A
  pub is : Is xs a z.0
  pub took : Takes p (bytes a) z.1

-- an item reads exactly the sources of what comes behind the earlier ones
pub record IsItem {A X : Type 0} (item : List X → Place → Result (X × Place) ClassErr) (bytes : A → List ℕ) (Is : List X → A → X → Type 0) : Type 0 where
  pub takes : (xs : List X) (p : Place) (z : X × Place) → AreBytes p.rest → item xs p ≡ Ok z → TookItem bytes Is xs p z
  pub again : (xs : List X) (a : A) (x : X) (n : ℕ) (rest : List ℕ) → Is xs a x → item xs (at n (bytes a ++ rest)) ≡ Ok (x, at n rest)

pub record TookItems {A X : Type 0} (bytes : A → List ℕ) (Is : List X → A → X → Type 0) (p : Place) (z : List X × Place) : Type 0 where
  pub sources : List A
  pub spelled : Spelled Is [] sources z.0
  pub took : Takes p (listed bytes sources) z.1
  pub count : length sources < 2 ^ 16

module _ {A X : Type 0} (item : List X → Place → Result (X × Place) ClassErr) (bytes : A → List ℕ) (Is : List X → A → X → Type 0) (is : IsItem item bytes Is) where
  pub adds : IsPart (adding item) bytes (Adds Is)
  adds = record {
    takes = λ xs p z fits e.
        let x = bind_ok (item xs p) (λ x. Ok (xs ++ x.0 ∷ [], x.1)) z e in
        let t = is.takes xs p x.0 fits x.1 in
        let made : List X × Place = (xs ++ x.0.0 ∷ [], x.0.1) in
        subst (λ (z : List X × Place). Took bytes (Adds Is) xs p z) (ok_is made z x.2) (record { a = t.a; leads = (x.0.0, refl, t.is); took = t.took });
    again = λ xs ys a n rest h. rw (is.again xs a h.0 n rest h.2) (ap (λ (zs : List X). Ok (zs, at n rest)) (sym h.1));
  }

  pub spelled_of : (xs : List X) (sources : List A) (ys : List X) → Lead (Adds Is) xs sources ys → (zs : List X) × (ys ≡ xs ++ zs) × Spelled Is xs sources zs
  spelled_of xs [] ys h = ([], sym h ∙ sym (append-nil xs), tt)
  spelled_of xs (a ∷ sources) ys h =
      let x = h.1 in
      let later : Lead (Adds Is) (xs ++ x.0 ∷ []) sources ys = subst (λ (m : List X). Lead (Adds Is) m sources ys) x.1 h.2 in
      let others = spelled_of (xs ++ x.0 ∷ []) sources ys later in
      (x.0 ∷ others.0, others.1 ∙ append_assoc xs (x.0 ∷ []) others.0, (x.2, others.2))

  pub lead_of : (xs : List X) (sources : List A) (zs : List X) → Spelled Is xs sources zs → Lead (Adds Is) xs sources (xs ++ zs)
  lead_of xs [] [] h = sym (append-nil xs)
  lead_of xs [] (z ∷ zs) h = absurd h
  lead_of xs (a ∷ sources) [] h = absurd h
  lead_of xs (a ∷ sources) (z ∷ zs) h = (xs ++ z ∷ [], (z, refl, h.0), subst (λ (ys : List X). Lead (Adds Is) (xs ++ z ∷ []) sources ys) (append_assoc xs (z ∷ []) zs) (lead_of (xs ++ z ∷ []) sources zs h.1))

  pub items_take : (p : Place) (z : List X × Place) → AreBytes p.rest → listed_at item p ≡ Ok z → TookItems bytes Is p z
  items_take p z fits e =
      let t = listed_take (adding item) bytes (Adds Is) adds [] p z fits e in
      let s = spelled_of [] t.sources z.0 t.lead in
      record { sources = t.sources; spelled = subst (λ (xs : List X). Spelled Is [] t.sources xs) (sym s.1) s.2; took = t.took; count = t.count }

  pub items_again : (sources : List A) (xs : List X) (n : ℕ) (rest : List ℕ) → Spelled Is [] sources xs → length sources < 2 ^ 16 → listed_at item (at n (listed bytes sources ++ rest)) ≡ Ok (xs, at n rest)
  items_again sources xs n rest h lt = listed_again (adding item) bytes (Adds Is) adds [] xs sources n rest (lead_of [] sources xs h) lt

-- ---- items that are their own sources

abbrev pub Itself : {X : Type 0} → (X → Type 0) → List X → X → X → Type 0
Itself Fits earlier a x = (x ≡ a) × Fits a

pub itself_is : {X : Type 0} (Fits : X → Type 0) (earlier : List X) (sources xs : List X) → Spelled (Itself Fits) earlier sources xs → (xs ≡ sources) × AllByRecursion Fits sources
itself_is Fits earlier [] [] h = (refl, tt)
itself_is Fits earlier [] (x ∷ xs) h = absurd h
itself_is Fits earlier (a ∷ sources) [] h = absurd h
itself_is Fits earlier (a ∷ sources) (x ∷ xs) h = let others = itself_is Fits (earlier ++ x ∷ []) sources xs h.1 in (rw (h.0.0, others.0) refl, (h.0.1, others.1))

pub itself_of : {X : Type 0} (Fits : X → Type 0) (earlier : List X) (sources : List X) → AllByRecursion Fits sources → Spelled (Itself Fits) earlier sources sources
itself_of Fits earlier [] h = tt
itself_of Fits earlier (a ∷ sources) h = ((refl, h.0), itself_of Fits (earlier ++ a ∷ []) sources h.1)

pub spelled_long : {A X : Type 0} (Is : List X → A → X → Type 0) (earlier : List X) (sources : List A) (xs : List X) → Spelled Is earlier sources xs → length xs ≡ length sources
spelled_long Is earlier [] [] h = refl
spelled_long Is earlier [] (x ∷ xs) h = absurd h
spelled_long Is earlier (a ∷ sources) [] h = absurd h
spelled_long Is earlier (a ∷ sources) (x ∷ xs) h = ap suc (spelled_long Is (earlier ++ x ∷ []) sources xs h.1)

module _ {X : Type 0} (item : List X → Place → Result (X × Place) ClassErr) (bytes : X → List ℕ) (Fits : X → Type 0) where
  -- items that are read alike whatever is before them
  pub itself_item : ((earlier : List X) → IsRead (item earlier) bytes Fits) → IsItem item bytes (Itself Fits)
  itself_item read = record {
    takes = λ earlier p z fits e. let t = (read earlier).takes p z.1 z.0 fits e in record { a = z.0; is = (refl, t.1); took = t.0 };
    again = λ earlier a x n rest h. (read earlier).again a n rest h.1 ∙ ap (λ (y : X). Ok (y, at n rest)) (sym h.0);
  }

  -- a list of them, read whole
  pub same_read : IsItem item bytes (Itself Fits) → IsRead (listed_at item) (listed bytes) (λ xs. AllByRecursion Fits xs × (length xs < 2 ^ 16))
  same_read is = record {
    takes = λ p q xs fits e.
        let t = items_take item bytes (Itself Fits) is p (xs, q) fits e in
        let k = itself_is Fits [] t.sources xs t.spelled in
        subst (λ (ys : List X). Takes p (listed bytes ys) q × (AllByRecursion Fits ys × (length ys < 2 ^ 16))) (sym k.0) (t.took, (k.1, t.count));
    again = λ xs t rest fits. items_again item bytes (Itself Fits) is xs xs t rest (itself_of Fits [] xs fits.0) fits.1;
  }
