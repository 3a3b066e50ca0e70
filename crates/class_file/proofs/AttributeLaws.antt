-- Attributes that are read are the attributes that are spelled.
use Rattle.std.proofs.Common.{◌≡◌, ℕ, ◌^◌, ◌<◌, Bool, true, List, [], ◌∷◌, ◌++◌, length, Ok, refl, sym, ap, subst, ◌∙◌, append_assoc, arith}
use Rattle.std.specs.Int.{w16, w32}
use Rattle.std.specs.List.{AllByRecursion}
use Rattle.jvm_base.specs.declared.pool.PoolItem.{PoolItem}
use Rattle.jvm_base.proofs.Refusing.{bind_ok, need_ok, ok_is}
use Rattle.class_file.specs.declared.attribute.AttributeHead.{AttributeHead}
use Rattle.class_file.specs.declared.error.ClassErr.TheVariants.{ItemLink}
use Rattle.constant_pool.specs.Items.{is_text_at}
use Rattle.class_format.specs.Meaning.{AreBytes, FitsAttribute, AreAttributes}
use Rattle.class_file.specs.Reading.Members.{attribute_at, skipped_at, other_at}
use Rattle.class_file.specs.Reading.Words.{Place, offset_of, ◌>>=◌, need, number_at, bytes_at, counted_at}
use Rattle.class_format.specs.Spelling.{Attribute, number2, number4, listed, attribute_bytes}
use Rattle.class_file.proofs.PartLaws.{IsPart, Lead, listed_take, listed_again}
use Rattle.class_file.proofs.ReadLaws.{at, Takes, Takes-then, bytes_take, bytes_again, read2, read4}

-- ---- the head of an attribute

pub record IsHead (pool : List PoolItem) (p : Place) (z : AttributeHead × Place) : Type 0 where
  pub took : Takes p (number2 z.0.name ++ number4 z.0.len) z.1
  pub name : z.0.name < 2 ^ 16
  pub text : is_text_at pool z.0.name ≡ true
  pub len : z.0.len < 2 ^ 32

pub head_takes : (pool : List PoolItem) (p : Place) (z : AttributeHead × Place) → AreBytes p.rest → attribute_at pool p ≡ Ok z → IsHead pool p z
unfolding attribute_at
head_takes pool p z fits e =
    let name = bind_ok (number_at w16 p) _ z e in
    let text = need_ok (is_text_at pool name.0.0) (ItemLink (offset_of p)) _ z name.2 in
    let len = bind_ok (number_at w32 name.0.1) _ z text.1 in
    let t0 = read2.takes p name.0.1 name.0.0 fits name.1 in
    let t1 = read4.takes name.0.1 len.0.1 len.0.0 t0.0.rest_fits len.1 in
    let made : AttributeHead × Place = (record { name = name.0.0; len = len.0.0; at = offset_of name.0.1 }, len.0.1) in
    subst (λ (z : AttributeHead × Place). IsHead pool p z) (ok_is made z len.2) (record {
      took = Takes-then p (number2 name.0.0) name.0.1 (number4 len.0.0) len.0.1 t0.0 t1.0;
      name = t0.1;
      text = text.0;
      len = t1.1;
    })

-- the head that is read again of an attribute with these contents
abbrev pub head_of : ℕ → Attribute → List ℕ → AttributeHead
head_of t a rest = record { name = a.name; len = length a.contents; at = offset_of (at t (number4 (length a.contents) ++ (a.contents ++ rest))) }

pub head_again : (pool : List PoolItem) (a : Attribute) (t : ℕ) (rest : List ℕ) → FitsAttribute pool a → attribute_at pool (at t (attribute_bytes a ++ rest)) ≡ Ok (head_of t a rest, at t (a.contents ++ rest))
unfolding attribute_at
head_again pool a t rest h =
    let len : List ℕ = number4 (length a.contents) in
    let regrouped : attribute_bytes a ++ rest ≡ number2 a.name ++ (len ++ (a.contents ++ rest)) = append_assoc (number2 a.name ++ len) a.contents rest ∙ append_assoc (number2 a.name) len (a.contents ++ rest) in
    let off : ℕ = offset_of (at t (number2 a.name ++ (len ++ (a.contents ++ rest)))) in
    ap (λ (bytes : List ℕ). attribute_at pool (at t bytes)) regrouped
    ∙ ap (λ r. r >>= λ name. need (is_text_at pool name.0) (ItemLink off) >>= λ _. number_at w32 name.1 >>= λ l. Ok (record { name = name.0; len = l.0; at = offset_of name.1 }, l.1)) (read2.again a.name t (len ++ (a.contents ++ rest)) h.name)
    ∙ ap (λ (b : Bool). need b (ItemLink off) >>= λ _. number_at w32 (at t (len ++ (a.contents ++ rest))) >>= λ l. Ok (record { name = a.name; len = l.0; at = offset_of (at t (len ++ (a.contents ++ rest))) }, l.1)) h.text
    ∙ ap (λ r. r >>= λ l. Ok (record { name = a.name; len = l.0; at = offset_of (at t (len ++ (a.contents ++ rest))) }, l.1)) (read4.again (length a.contents) t (a.contents ++ rest) h.contents)

-- ---- skipped attributes

pub record IsSkipped {S : Type 0} (s : S) (len : ℕ) (p : Place) (z : S × Place) : Type 0 where
  pub contents : List ℕ
  pub took : Takes p contents z.1
  pub long : length contents ≡ len
  pub stays : z.0 ≡ s

pub skipped_takes : {S : Type 0} (s : S) (a : AttributeHead) (p : Place) (z : S × Place) → AreBytes p.rest → skipped_at s a p ≡ Ok z → IsSkipped s a.len p z
unfolding skipped_at
skipped_takes {S} s a p z fits e =
    let contents = bind_ok (bytes_at a.len p) (λ contents. Ok (s, contents.1)) z e in
    let t = bytes_take a.len p contents.0.1 contents.0.0 fits contents.1 in
    let made : S × Place = (s, contents.0.1) in
    subst (λ (z : S × Place). IsSkipped s a.len p z) (ok_is made z contents.2) (record { contents = contents.0.0; took = t.0; long = t.1; stays = refl })

pub skipped_again : {S : Type 0} (s : S) (contents : List ℕ) (name off t : ℕ) (rest : List ℕ) → skipped_at s (record { name = name; len = length contents; at = off }) (at t (contents ++ rest)) ≡ Ok (s, at t rest)
unfolding skipped_at
skipped_again s contents name off t rest = rw (bytes_again contents rest t) refl

-- an attribute of a head and contents of its length
abbrev pub whole : AttributeHead → List ℕ → Attribute
whole a contents = record { name = a.name; contents = contents }

pub whole_takes : (pool : List PoolItem) (p q : Place) (a : AttributeHead × Place) (contents : List ℕ) → IsHead pool p a → Takes a.1 contents q → length contents ≡ a.0.len → Takes p (attribute_bytes (whole a.0 contents)) q × FitsAttribute pool (whole a.0 contents)
whole_takes pool p q a contents h took long =
    let front : Takes p (number2 a.0.name ++ number4 (length contents)) a.1 = subst (λ (n : ℕ). Takes p (number2 a.0.name ++ number4 n) a.1) (sym long) h.took in
    (Takes-then p (number2 a.0.name ++ number4 (length contents)) a.1 contents q front took, record { name = h.name; text = h.text; contents = omega (arith, h.len, long) })

abbrev pub IsOther : List PoolItem → Unit {0} → Attribute → Unit {0} → Type 0
IsOther pool s a t = FitsAttribute pool a

pub other_part : (pool : List PoolItem) → IsPart (other_at pool) attribute_bytes (IsOther pool)
unfolding other_at
other_part pool = record {
  takes = λ s p z fits e.
      let a = bind_ok (attribute_at pool p) _ z e in
      let head = head_takes pool p a.0 fits a.1 in
      let t = skipped_takes s a.0.0 a.0.1 z head.took.rest_fits a.2 in
      let both = whole_takes pool p z.1 a.0 t.contents head t.took t.long in
      record { a = whole a.0.0 t.contents; leads = both.1; took = both.0 };
  again = λ s u a n rest h. rw (head_again pool a n rest h) (skipped_again s a.contents a.name _ n rest);
}

pub others_are : (pool : List PoolItem) (s t : Unit {0}) (attributes : List Attribute) → Lead (IsOther pool) s attributes t → AllByRecursion (FitsAttribute pool) attributes
others_are pool s t [] h = tt
others_are pool s t (a ∷ attributes) h = (h.1, others_are pool h.0 t attributes h.2)

pub others_lead : (pool : List PoolItem) (attributes : List Attribute) → AllByRecursion (FitsAttribute pool) attributes → Lead (IsOther pool) tt attributes tt
others_lead pool [] h = refl
others_lead pool (a ∷ attributes) h = (tt, h.0, others_lead pool attributes h.1)

pub record AreOthers (pool : List PoolItem) (p : Place) (q : Place) : Type 0 where
  pub attributes : List Attribute
  pub took : Takes p (listed attribute_bytes attributes) q
  pub fits : AreAttributes pool attributes

pub others_take : (pool : List PoolItem) (p : Place) (z : Unit {0} × Place) → AreBytes p.rest → counted_at (other_at pool) tt p ≡ Ok z → AreOthers pool p z.1
others_take pool p z fits e =
    let t = listed_take (other_at pool) attribute_bytes (IsOther pool) (other_part pool) tt p z fits e in
    record { attributes = t.sources; took = t.took; fits = (others_are pool tt z.0 t.sources t.lead, t.count) }

pub others_again : (pool : List PoolItem) (attributes : List Attribute) (t : ℕ) (rest : List ℕ) → AreAttributes pool attributes → counted_at (other_at pool) tt (at t (listed attribute_bytes attributes ++ rest)) ≡ Ok (tt, at t rest)
others_again pool attributes t rest h = listed_again (other_at pool) attribute_bytes (IsOther pool) (other_part pool) tt tt attributes t rest (others_lead pool attributes h.0) h.1
