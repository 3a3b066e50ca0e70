-- A pool that is read is the pool that is spelled.
use Rattle.std.proofs.Common.{◌≡◌, ℕ, zero, suc, ◌+◌, ◌-◌, ◌^◌, ◌<◌, ◌≤◌, Bool, true, false, cond, eqb, ltb, nat_lt, List, [], ◌∷◌, ◌++◌, length, Option, Some, Result, Ok, refl, sym, ap, subst, ◌∙◌, inl, inr, append_assoc, arith, ℤ, pos, FitsSigned, slice_get, length-append}
use lib.IntN.{negsuc}
use mir.Val.{sel, hbits, bits}
use borrow.Author.Tests.{ltb-true}
use Rattle.std.proofs.lemmas.Bool.{ltb-false, eqb-true}
use Rattle.std.proofs.lemmas.Bool.Decides.{nat_tests}
use Rattle.std.proofs.lemmas.Int.{of_z-to_z, to_z-of_z}
use Rattle.std.proofs.lemmas.List.Concat.{flat_map-cons}
use Rattle.std.specs.Int.{Width, w8, w16, w32, w64, to_be_bytes, cast_signed, cast_unsigned}
use Rattle.std.specs.List.{flat_map}
use Rattle.std.specs.Option.{option_map_or}
use Rattle.jvm_base.proofs.Texts.{text_reader}
use Rattle.jvm_base.specs.declared.pool.PoolItem.{PoolItem}
use Rattle.jvm_base.specs.declared.pool.PoolItem.TheVariants.{Gap, Utf8, Integer, Float, Long, Double, Class, Text, Field, Method, InterfaceMethod, NameAndKind}
use Rattle.jvm_base.specs.Text.{units_of, text_bytes}
use Rattle.jvm_base.proofs.Refusing.{bind_ok, need_ok, want_ok, ok_is}
use Rattle.jvm_base.proofs.Options.{chosen}
use Rattle.class_file.specs.declared.error.ClassErr.{ClassErr}
use Rattle.class_file.specs.declared.error.ClassErr.TheVariants.{PoolTag, PoolText}
use Rattle.constant_pool.specs.Items.{is_class_at}
use Rattle.constant_pool.specs.Links.{bad_link}
use Rattle.class_format.specs.Meaning.{AreBytes, FitsItem, AreItems, IsPool, Spelled}
use Rattle.constant_pool.specs.Items.{is_wide}
use Rattle.class_file.specs.Reading.Pools.{is_after_wide, text_item_at, number_item_at, wide_item_at, two_indices_at, pair_item_at, content_at, item_at, next_item_at, pool_at}
use Rattle.class_file.specs.Reading.Words.{Place, ◌>>=◌, want, number_at, bytes_at, each_at, adding}
use Rattle.class_format.specs.Spelling.{number2, number4, number8, item_bytes}
use Rattle.class_file.proofs.PartLaws.{Lead, spelled_long, IsItem, Adds, adds, all_take, all_again, spelled_of, lead_of}
use Rattle.class_file.proofs.ReadLaws.{at, Takes, takes_none, Takes-then, IsRead, bytes_take, bytes_again, read1, read2, read4, read8}

-- ---- what follows a tag

-- the content that was read behind a tag
record IsContent (tag : ℕ) (has_room : Bool) (p q : Place) (x : PoolItem) : Type 0 where
  pub text : List ℕ
  pub spelled : item_bytes x ≡ tag ∷ text
  pub took : Takes p text q
  pub fits : FitsItem x
  pub room : is_wide x ≡ true → has_room ≡ true

-- the sign of a number of this many bits
sign_by : (w : Width) (half n : ℕ) (b : Bool) → ltb n half ≡ b → half ≡ 2 ^ hbits w → 2 ^ bits w ≡ half + half → n < 2 ^ bits w → FitsSigned w (sel b (pos n) (negsuc (2 ^ bits w - suc n)))
sign_by w half n true t h d lt = record { sfits = omega (arith, ltb-true _ _ t) }
sign_by w half n false t h d lt = record { sfits = omega (arith, ltb-false _ _ t) }

signed32 : (n : ℕ) → n < 2 ^ 32 → FitsSigned w32 (cast_signed w32 n)
signed32 n lt = sign_by w32 (2 ^ 31) n (ltb n (2 ^ 31)) refl refl refl lt

signed64 : (n : ℕ) → n < 2 ^ 64 → FitsSigned w64 (cast_signed w64 n)
signed64 n lt = sign_by w64 (2 ^ 63) n (ltb n (2 ^ 63)) refl refl refl lt

unsigned_by : (w : Width) (half : ℕ) (z : ℤ) → half ≡ 2 ^ hbits w → 2 ^ bits w ≡ half + half → FitsSigned w z → cast_unsigned w z < 2 ^ bits w
unsigned_by w half (pos n) h d f = omega (arith, f.sfits)
unsigned_by w half (negsuc n) h d f = omega (arith, f.sfits)

unsigned32 : (z : ℤ) → FitsSigned w32 z → cast_unsigned w32 z < 2 ^ 32
unsigned32 z f = unsigned_by w32 (2 ^ 31) z refl refl f

unsigned64 : (z : ℤ) → FitsSigned w64 z → cast_unsigned w64 z < 2 ^ 64
unsigned64 z f = unsigned_by w64 (2 ^ 63) z refl refl f

text_takes : (i : ℕ) (r : Bool) (p q : Place) (x : PoolItem) → AreBytes p.rest → text_item_at i p ≡ Ok (x, q) → IsContent 1 r p q x
unfolding text_item_at
text_takes i r p q x fits e =
    let a = bind_ok (number_at w16 p) (λ len. bytes_at len.0 len.1 >>= λ bytes. want (units_of bytes.0) (PoolText i) >>= λ units. Ok (Utf8 units, bytes.1)) (x, q) e in
    let b = bind_ok (bytes_at a.0.0 a.0.1) (λ bytes. want (units_of bytes.0) (PoolText i) >>= λ units. Ok (Utf8 units, bytes.1)) (x, q) a.2 in
    let c = want_ok (units_of b.0.0) (PoolText i) (λ units. Ok (Utf8 units, b.0.1)) (x, q) b.2 in
    let is = ok_is (Utf8 c.0, b.0.1) (x, q) c.2 in
    let t0 = read2.takes p a.0.1 a.0.0 fits a.1 in
    let t1 = bytes_take a.0.0 a.0.1 b.0.1 b.0.0 t0.0.rest_fits b.1 in
    let u = text_reader.takes b.0.0 c.0 c.1 in
    let long : a.0.0 ≡ length (text_bytes c.0) = sym t1.1 ∙ ap length u.1 in
    let both = Takes-then p (number2 a.0.0) a.0.1 b.0.0 b.0.1 t0.0 t1.0 in
    let whole : Takes p (number2 (length (text_bytes c.0)) ++ text_bytes c.0) b.0.1 = subst (λ (z : List ℕ). Takes p (number2 (length (text_bytes c.0)) ++ z) b.0.1) u.1 (subst (λ (k : ℕ). Takes p (number2 k ++ b.0.0) b.0.1) long both) in
    subst (λ (z : PoolItem × Place). IsContent 1 r p z.1 z.0) is (record { text = number2 (length (text_bytes c.0)) ++ text_bytes c.0; spelled = refl; took = whole; fits = (u.0, omega (arith, t0.1, long)); room = λ h. absurd cc })

-- an item of one number
number_content : (tag limit : ℕ) (w : Width) → IsRead (number_at w) (to_be_bytes w) (λ n. n < limit) → (item : ℕ → PoolItem) (r : Bool) (p q : Place) (x : PoolItem)
    → ((n : ℕ) → n < limit → item_bytes (item n) ≡ tag ∷ to_be_bytes w n) → ((n : ℕ) → n < limit → FitsItem (item n)) → ((n : ℕ) → is_wide (item n) ≡ true → r ≡ true)
    → AreBytes p.rest → number_item_at w item p ≡ Ok (x, q) → IsContent tag r p q x
number_content tag limit w read item r p q x spelled fitting room fits e =
    let a = bind_ok (number_at w p) (λ n. Ok (item n.0, n.1)) (x, q) e in
    let t = read.takes p a.0.1 a.0.0 fits a.1 in
    subst (λ (z : PoolItem × Place). IsContent tag r p z.1 z.0) (ok_is (item a.0.0, a.0.1) (x, q) a.2) (record { text = to_be_bytes w a.0.0; spelled = spelled a.0.0 t.1; took = t.0; fits = fitting a.0.0 t.1; room = room a.0.0 })

-- an item of one number that takes two indices
wide_content : (tag i : ℕ) (item : ℕ → PoolItem) (r : Bool) (p q : Place) (x : PoolItem)
    → ((n : ℕ) → n < 2 ^ 64 → item_bytes (item n) ≡ tag ∷ number8 n) → ((n : ℕ) → n < 2 ^ 64 → FitsItem (item n))
    → AreBytes p.rest → wide_item_at i r item p ≡ Ok (x, q) → IsContent tag r p q x
wide_content tag i item r p q x spelled fitting fits e =
    let g = need_ok r (PoolTag i) (λ _. number_item_at w64 item p) (x, q) e in
    number_content tag (2 ^ 64) w64 read8 item r p q x spelled fitting (λ n h. g.0) fits g.1

not_wide : (r : Bool) (b : Bool) → b ≡ false → b ≡ true → r ≡ true
not_wide r true e h = absurd cc
not_wide r false e h = absurd cc

-- an item of two indices
pair_content : (tag : ℕ) (item : ℕ → ℕ → PoolItem) (r : Bool) (p q : Place) (x : PoolItem)
    → ((a b : ℕ) → item_bytes (item a b) ≡ tag ∷ number2 a ++ number2 b) → ((a b : ℕ) → a < 2 ^ 16 → b < 2 ^ 16 → FitsItem (item a b)) → ((a b : ℕ) → is_wide (item a b) ≡ false)
    → AreBytes p.rest → pair_item_at item p ≡ Ok (x, q) → IsContent tag r p q x
unfolding two_indices_at
pair_content tag item r p q x spelled fitting narrow fits e =
    let both = bind_ok (two_indices_at p) (λ pair. Ok (item pair.0.0 pair.0.1, pair.1)) (x, q) e in
    let a = bind_ok (number_at w16 p) _ both.0 both.1 in
    let b = bind_ok (number_at w16 a.0.1) (λ b. Ok ((a.0.0, b.0), b.1)) both.0 a.2 in
    let t0 = read2.takes p a.0.1 a.0.0 fits a.1 in
    let t1 = read2.takes a.0.1 b.0.1 b.0.0 t0.0.rest_fits b.1 in
    let pair : (ℕ × ℕ) × Place = ((a.0.0, b.0.0), b.0.1) in
    let is : (item a.0.0 b.0.0, b.0.1) ≡ (x, q) = ap (λ (z : (ℕ × ℕ) × Place). (item z.0.0 z.0.1, z.1)) (ok_is pair both.0 b.2) ∙ ok_is (item both.0.0.0 both.0.0.1, both.0.1) (x, q) both.2 in
    subst (λ (z : PoolItem × Place). IsContent tag r p z.1 z.0) is (record {
      text = number2 a.0.0 ++ number2 b.0.0;
      spelled = spelled a.0.0 b.0.0;
      took = Takes-then p (number2 a.0.0) a.0.1 (number2 b.0.0) b.0.1 t0.0 t1.0;
      fits = fitting a.0.0 b.0.0 t0.1 t1.1;
      room = not_wide r (is_wide (item a.0.0 b.0.0)) (narrow a.0.0 b.0.0);
    })

-- one test of the chain of tags
tagged : (tag k : ℕ) (r : Bool) (p q : Place) (x : PoolItem) (here other : Result (PoolItem × Place) ClassErr) → (here ≡ Ok (x, q) → IsContent k r p q x) → (other ≡ Ok (x, q) → IsContent tag r p q x) → cond (eqb tag k) here other ≡ Ok (x, q) → IsContent tag r p q x
tagged tag k r p q x here other by_this by_other e =
    elim (chosen (eqb tag k) here other (Ok (x, q)) e) [
      | inl h ↦ subst (λ (z : ℕ). IsContent z r p q x) (sym (eqb-true tag k h.0)) (by_this h.1)
      | inr h ↦ by_other h.1
    ]

content_takes : (tag i : ℕ) (r : Bool) (p q : Place) (x : PoolItem) → AreBytes p.rest → content_at tag i r p ≡ Ok (x, q) → IsContent tag r p q x
unfolding content_at
content_takes tag i r p q x fits e =
    tagged tag 1 r p q x _ _ (text_takes i r p q x fits)
    (tagged tag 3 r p q x _ _ (number_content 3 (2 ^ 32) w32 read4 (λ n. Integer (cast_signed w32 n)) r p q x (λ n lt. ap (λ (m : ℕ). 3 ∷ number4 m) (of_z-to_z w32 n lt)) signed32 (λ n. not_wide r false refl) fits)
    (tagged tag 4 r p q x _ _ (number_content 4 (2 ^ 32) w32 read4 Float r p q x (λ n lt. refl) (λ n lt. lt) (λ n. not_wide r false refl) fits)
    (tagged tag 5 r p q x _ _ (wide_content 5 i (λ n. Long (cast_signed w64 n)) r p q x (λ n lt. ap (λ (m : ℕ). 5 ∷ number8 m) (of_z-to_z w64 n lt)) signed64 fits)
    (tagged tag 6 r p q x _ _ (wide_content 6 i Double r p q x (λ n lt. refl) (λ n lt. lt) fits)
    (tagged tag 7 r p q x _ _ (number_content 7 (2 ^ 16) w16 read2 Class r p q x (λ n lt. refl) (λ n lt. lt) (λ n. not_wide r false refl) fits)
    (tagged tag 8 r p q x _ _ (number_content 8 (2 ^ 16) w16 read2 Text r p q x (λ n lt. refl) (λ n lt. lt) (λ n. not_wide r false refl) fits)
    (tagged tag 9 r p q x _ _ (pair_content 9 Field r p q x (λ a b. refl) (λ a b la lb. (la, lb)) (λ a b. refl) fits)
    (tagged tag 10 r p q x _ _ (pair_content 10 Method r p q x (λ a b. refl) (λ a b la lb. (la, lb)) (λ a b. refl) fits)
    (tagged tag 11 r p q x _ _ (pair_content 11 InterfaceMethod r p q x (λ a b. refl) (λ a b la lb. (la, lb)) (λ a b. refl) fits)
    (tagged tag 12 r p q x _ _ (pair_content 12 NameAndKind r p q x (λ a b. refl) (λ a b la lb. (la, lb)) (λ a b. refl) fits)
    (λ k. absurd cc))))))))))) e

item_takes : (i : ℕ) (r : Bool) (p q : Place) (x : PoolItem) → AreBytes p.rest → item_at i r p ≡ Ok (x, q) → Takes p (item_bytes x) q × FitsItem x × (is_wide x ≡ true → r ≡ true)
unfolding item_at
item_takes i r p q x fits e =
    let a = bind_ok (number_at w8 p) (λ tag. content_at tag.0 i r tag.1) (x, q) e in
    let t = read1.takes p a.0.1 a.0.0 fits a.1 in
    let c = content_takes a.0.0 i r a.0.1 q x t.0.rest_fits a.2 in
    (subst (λ (z : List ℕ). Takes p z q) (sym c.spelled) (Takes-then p (a.0.0 ∷ []) a.0.1 c.text q t.0 c.took), c.fits, c.room)

-- ---- read again

text_again : (i : ℕ) (us : List ℕ) (t : ℕ) (rest : List ℕ) → FitsItem (Utf8 us) → text_item_at i (at t ((number2 (length (text_bytes us)) ++ text_bytes us) ++ rest)) ≡ Ok (Utf8 us, at t rest)
unfolding text_item_at
text_again i us t rest h =
    ap (λ bytes. text_item_at i (at t bytes)) (append_assoc (number2 (length (text_bytes us))) (text_bytes us) rest)
    ∙ rw (read2.again (length (text_bytes us)) t (text_bytes us ++ rest) h.1, bytes_again (text_bytes us) rest t, text_reader.again us h.0) refl

number_again : (w : Width) (limit : ℕ) → IsRead (number_at w) (to_be_bytes w) (λ n. n < limit) → (item : ℕ → PoolItem) (n t : ℕ) (rest : List ℕ) → n < limit → number_item_at w item (at t (to_be_bytes w n ++ rest)) ≡ Ok (item n, at t rest)
number_again w limit read item n t rest lt = ap (λ r. r >>= λ n. Ok (item n.0, n.1)) (read.again n t rest lt)

pair_again : (item : ℕ → ℕ → PoolItem) (a b t : ℕ) (rest : List ℕ) → a < 2 ^ 16 → b < 2 ^ 16 → pair_item_at item (at t ((number2 a ++ number2 b) ++ rest)) ≡ Ok (item a b, at t rest)
unfolding two_indices_at
pair_again item a b t rest la lb =
    ap (λ bytes. pair_item_at item (at t bytes)) (append_assoc (number2 a) (number2 b) rest) ∙ rw (read2.again a t (number2 b ++ rest) la, read2.again b t rest lb) refl

behind_tag : (tag i : ℕ) (r : Bool) (t : ℕ) (bytes : List ℕ) → tag < 2 ^ 8 → item_at i r (at t (tag ∷ bytes)) ≡ content_at tag i r (at t bytes)
unfolding item_at
behind_tag tag i r t bytes lt = rw (read1.again tag t bytes lt) refl

item_again : (i : ℕ) (r : Bool) (x : PoolItem) (t : ℕ) (rest : List ℕ) → FitsItem x → (is_wide x ≡ true → r ≡ true) → item_at i r (at t (item_bytes x ++ rest)) ≡ Ok (x, at t rest)
unfolding content_at
item_again i r Gap t rest h room = absurd h
item_again i r (Utf8 us) t rest h room = behind_tag 1 i r t _ (omega arith) ∙ text_again i us t rest h
item_again i r (Integer n) t rest h room = behind_tag 3 i r t _ (omega arith) ∙ number_again w32 (2 ^ 32) read4 (λ n. Integer (cast_signed w32 n)) (cast_unsigned w32 n) t rest (unsigned32 n h) ∙ ap (λ (z : ℤ). Ok (Integer z, at t rest)) (to_z-of_z w32 n h)
item_again i r (Float n) t rest h room = behind_tag 4 i r t _ (omega arith) ∙ number_again w32 (2 ^ 32) read4 Float n t rest h
item_again i r (Long n) t rest h room = behind_tag 5 i r t _ (omega arith) ∙ rw (room refl) (number_again w64 (2 ^ 64) read8 (λ n. Long (cast_signed w64 n)) (cast_unsigned w64 n) t rest (unsigned64 n h) ∙ ap (λ (z : ℤ). Ok (Long z, at t rest)) (to_z-of_z w64 n h))
item_again i r (Double n) t rest h room = behind_tag 6 i r t _ (omega arith) ∙ rw (room refl) (number_again w64 (2 ^ 64) read8 Double n t rest h)
item_again i r (Class n) t rest h room = behind_tag 7 i r t _ (omega arith) ∙ number_again w16 (2 ^ 16) read2 Class n t rest h
item_again i r (Text n) t rest h room = behind_tag 8 i r t _ (omega arith) ∙ number_again w16 (2 ^ 16) read2 Text n t rest h
item_again i r (Field a b) t rest h room = behind_tag 9 i r t _ (omega arith) ∙ pair_again Field a b t rest h.0 h.1
item_again i r (Method a b) t rest h room = behind_tag 10 i r t _ (omega arith) ∙ pair_again Method a b t rest h.0 h.1
item_again i r (InterfaceMethod a b) t rest h room = behind_tag 11 i r t _ (omega arith) ∙ pair_again InterfaceMethod a b t rest h.0 h.1
item_again i r (NameAndKind a b) t rest h room = behind_tag 12 i r t _ (omega arith) ∙ pair_again NameAndKind a b t rest h.0 h.1

-- ---- the whole pool

-- what may come behind these items
abbrev pub NextBy : Bool → ℕ → ℕ → PoolItem → Type 0
NextBy true count i x = x ≡ Gap
NextBy false count i x = FitsItem x × (is_wide x ≡ true → nat_lt (i + 1) count ≡ true)

abbrev pub IsNext : ℕ → List PoolItem → PoolItem → PoolItem → Type 0
IsNext count pool a x = (x ≡ a) × NextBy (is_after_wide pool) count (length pool) x

next_takes : (b : Bool) (count i : ℕ) (p : Place) (z : PoolItem × Place) → AreBytes p.rest → cond b (Ok (Gap, p)) (item_at i (nat_lt (i + 1) count) p) ≡ Ok z → NextBy b count i z.0 × Takes p (item_bytes z.0) z.1
next_takes true count i p z fits e = subst (λ (z : PoolItem × Place). (z.0 ≡ Gap) × Takes p (item_bytes z.0) z.1) (ok_is (Gap, p) z e) (refl, takes_none p fits)
next_takes false count i p z fits e = let t = item_takes i (nat_lt (i + 1) count) p z.1 z.0 fits e in ((t.1, t.2), t.0)

next_again : (b : Bool) (count i : ℕ) (x : PoolItem) (n : ℕ) (rest : List ℕ) → NextBy b count i x → cond b (Ok (Gap, at n (item_bytes x ++ rest))) (item_at i (nat_lt (i + 1) count) (at n (item_bytes x ++ rest))) ≡ Ok (x, at n rest)
next_again true count i x n rest h = subst (λ (y : PoolItem). cond true (Ok (Gap, at n (item_bytes y ++ rest))) (item_at i (nat_lt (i + 1) count) (at n (item_bytes y ++ rest))) ≡ Ok (y, at n rest)) (sym h) refl
next_again false count i x n rest h = item_again i (nat_lt (i + 1) count) x n rest h.0 h.1

pub next_item : (count : ℕ) → IsItem (next_item_at count) item_bytes (IsNext count)
unfolding next_item_at
next_item count = record {
  takes = λ pool p z fits e.
      let t = next_takes (is_after_wide pool) count (length pool) p z fits e in
      record { a = z.0; is = (refl, t.0); took = t.1 };
  again = λ pool a x n rest h. subst (λ (y : PoolItem). next_item_at count pool (at n (item_bytes y ++ rest)) ≡ Ok (x, at n rest)) h.0 (next_again (is_after_wide pool) count (length pool) x n rest h.1);
}

-- ---- gaps behind wide items

last_is : (front : List PoolItem) (x : PoolItem) → slice_get (front ++ x ∷ []) (length front) ≡ Some x
last_is [] x = refl
last_is (y ∷ front) x = last_is front x

pub after_is : (front : List PoolItem) (x : PoolItem) → is_after_wide (front ++ x ∷ []) ≡ is_wide x
after_is front x =
    let k : length (front ++ x ∷ []) - 1 ≡ length front = omega (arith, length-append front (x ∷ [])) in
    ap (λ (i : ℕ). option_map_or is_wide (slice_get (front ++ x ∷ []) i) false) k ∙ ap (λ (o : Option PoolItem). option_map_or is_wide o false) (last_is front x)

room_of : (b : Bool) (count i : ℕ) (x : PoolItem) → NextBy b count i x → is_wide x ≡ true → nat_lt (i + 1) count ≡ true
room_of true count i x h w = let k : is_wide Gap ≡ true = subst (λ (y : PoolItem). is_wide y ≡ true) h w in absurd cc
room_of false count i x h w = h.1 w

pub step_of : (b : Bool) (count i : ℕ) (x : PoolItem) (items : List PoolItem) → NextBy b count i x → AreItems (is_wide x) items → AreItems b (x ∷ items)
step_of true count i x items h others = (h, subst (λ (y : PoolItem). AreItems (is_wide y) items) h others)
step_of false count i x items h others = (h.0, others)

none_after : (b : Bool) (n count : ℕ) → (b ≡ true → nat_lt n count ≡ true) → n + 0 ≡ count → b ≡ false
none_after true n count h e = absurd (let lt : nat_lt n count ≡ true = h refl in grind (arith, nat_tests))
none_after false n count h e = refl

items_of : (count : ℕ) (front sources items : List PoolItem) → Spelled (IsNext count) front sources items → (is_after_wide front ≡ true → nat_lt (length front) count ≡ true) → length front + length sources ≡ count → AreItems (is_after_wide front) items × (items ≡ sources)
items_of count front [] [] h room e = (none_after (is_after_wide front) (length front) count room e, refl)
items_of count front [] (x ∷ items) h room e = absurd h
items_of count front (a ∷ sources) [] h room e = absurd h
items_of count front (a ∷ sources) (x ∷ items) h room e =
    let long : length (front ++ x ∷ []) ≡ length front + 1 = omega (arith, length-append front (x ∷ [])) in
    let room_after : is_after_wide (front ++ x ∷ []) ≡ true → nat_lt (length (front ++ x ∷ [])) count ≡ true = λ w. rw long (room_of (is_after_wide front) count (length front) x h.0.1 (sym (after_is front x) ∙ w)) in
    let others = items_of count (front ++ x ∷ []) sources items h.1 room_after (omega (arith, e, long)) in
    (step_of (is_after_wide front) count (length front) x items h.0.1 (subst (λ (b : Bool). AreItems b items) (after_is front x) others.0), rw (h.0.0, others.1) refl)

wide_more : (b : Bool) (items : List PoolItem) (i count : ℕ) → AreItems b items → b ≡ true → i + suc (length items) ≤ count → nat_lt (i + 1) count ≡ true
wide_more b [] i count h w e = absurd cc
wide_more b (x ∷ items) i count h w e = grind (arith, nat_tests)

pub next_of : (b : Bool) (count i : ℕ) (x : PoolItem) (items : List PoolItem) → AreItems b (x ∷ items) → i + suc (length items) ≤ count → NextBy b count i x × AreItems (is_wide x) items
next_of true count i x items h e = (h.0, subst (λ (y : PoolItem). AreItems (is_wide y) items) (sym h.0) h.1)
next_of false count i x items h e = ((h.0, λ w. wide_more (is_wide x) items i count h.1 w e), h.1)

pub spelled_items : (count : ℕ) (front items : List PoolItem) → AreItems (is_after_wide front) items → length front + length items ≤ count → Spelled (IsNext count) front items items
spelled_items count front [] h e = tt
spelled_items count front (x ∷ items) h e =
    let next = next_of (is_after_wide front) count (length front) x items h e in
    let long : length (front ++ x ∷ []) ≡ length front + 1 = omega (arith, length-append front (x ∷ [])) in
    ((refl, next.0), spelled_items count (front ++ x ∷ []) items (subst (λ (b : Bool). AreItems b items) (sym (after_is front x)) next.1) (omega (arith, e, long)))

no_class : (n : ℕ) → is_class_at (Gap ∷ []) n ≡ true → ⊥
no_class zero e = cc
no_class (suc n) e = cc

-- a pool of more than index 0 counts its items
counted : (count : ℕ) (items : List PoolItem) → length items ≡ count - 1 → 0 < count → 1 + length items ≡ count
counted count items e some = omega (arith, e, some)

pub record IsPoolTaken (count : ℕ) (p : Place) (z : List PoolItem × Place) : Type 0 where
  pub took : Takes p (flat_map item_bytes z.0) z.1
  pub is : IsPool z.0
  pub long : length z.0 ≡ count

-- a count of 0 gives index 0 alone, like a count of 1
pub no_items : (count : ℕ) (p : Place) (z : List PoolItem × Place) → pool_at count p ≡ Ok z → count ≡ 0 → z.0 ≡ Gap ∷ []
unfolding pool_at each_at
no_items zero p z e is = let made : List PoolItem × Place = (Gap ∷ [], p) in sym (ap (λ (y : List PoolItem × Place). y.0) (ok_is made z e))
no_items (suc count) p z e is = absurd (omega (arith, is))

positive : (count : ℕ) → (count ≡ 0 → ⊥) → 0 < count
positive zero h = absurd (h refl)
positive (suc count) h = omega arith

-- a pool that has a class has a count
pub has_count : (count : ℕ) (p : Place) (z : List PoolItem × Place) (n : ℕ) → pool_at count p ≡ Ok z → is_class_at z.0 n ≡ true → 0 < count
has_count count p z n e is = positive count (λ none. no_class n (subst (λ (pool : List PoolItem). is_class_at pool n ≡ true) (no_items count p z e none) is))

-- and one that has a bad link
pub has_link : (count : ℕ) (p : Place) (z : List PoolItem × Place) (i : ℕ) → pool_at count p ≡ Ok z → bad_link z.0 ≡ Some i → 0 < count
has_link count p z i e bad = positive count (λ none. let k : bad_link (Gap ∷ []) ≡ Some i = subst (λ (pool : List PoolItem). bad_link pool ≡ Some i) (no_items count p z e none) bad in absurd cc)

pub pool_takes : (count : ℕ) (p : Place) (z : List PoolItem × Place) → AreBytes p.rest → pool_at count p ≡ Ok z → 0 < count → IsPoolTaken count p z
unfolding pool_at
pool_takes count p z fits e some =
    let t = all_take (adding (next_item_at count)) item_bytes (Adds (IsNext count)) (adds (next_item_at count) item_bytes (IsNext count) (next_item count)) (count - 1) (Gap ∷ []) p z fits e in
    let s = spelled_of (next_item_at count) item_bytes (IsNext count) (next_item count) (Gap ∷ []) t.sources z.0 t.lead in
    let same_long : length s.0 ≡ length t.sources = spelled_long (IsNext count) (Gap ∷ []) t.sources s.0 s.2 in
    let count_is : 1 + length s.0 ≡ count = counted count s.0 (omega (arith, t.long, same_long)) some in
    let items = items_of count (Gap ∷ []) t.sources s.0 s.2 (λ w. absurd cc) (omega (arith, count_is, same_long)) in
    let took : Takes p (flat_map item_bytes (Gap ∷ t.sources)) z.1 = subst (λ (text : List ℕ). Takes p text z.1) (sym (flat_map-cons item_bytes Gap t.sources)) t.took in
    let whole : z.0 ≡ Gap ∷ t.sources = s.1 ∙ ap (λ (others : List PoolItem). Gap ∷ others) items.1 in
    record {
      took = subst (λ (pool : List PoolItem). Takes p (flat_map item_bytes pool) z.1) (sym whole) took;
      is = subst IsPool (sym s.1) (refl, items.0);
      long = ap length s.1 ∙ omega (arith, count_is);
    }

pub pool_again : (pool : List PoolItem) (t : ℕ) (rest : List ℕ) → IsPool pool → pool_at (length pool) (at t (flat_map item_bytes pool ++ rest)) ≡ Ok (pool, at t rest)
unfolding pool_at
pool_again [] t rest h = absurd h
pool_again (x ∷ items) t rest h =
    let k : suc (length items) - 1 ≡ length items = omega arith in
    let bare : flat_map item_bytes (x ∷ items) ≡ flat_map item_bytes items = flat_map-cons item_bytes x items ∙ ap (λ y. item_bytes y ++ flat_map item_bytes items) h.0 in
    let lead : Lead (Adds (IsNext (suc (length items)))) (Gap ∷ []) items (Gap ∷ items) = lead_of (next_item_at (suc (length items))) item_bytes (IsNext (suc (length items))) (next_item (suc (length items))) (Gap ∷ []) items items (spelled_items (suc (length items)) (Gap ∷ []) items h.1 (omega arith)) in
    let read : each_at (adding (next_item_at (suc (length items)))) (length items) (Gap ∷ []) (at t (flat_map item_bytes items ++ rest)) ≡ Ok (Gap ∷ items, at t rest) =
    all_again (adding (next_item_at (suc (length items)))) item_bytes (Adds (IsNext (suc (length items)))) (adds (next_item_at (suc (length items))) item_bytes (IsNext (suc (length items))) (next_item (suc (length items)))) (Gap ∷ []) (Gap ∷ items) items t rest lead in
    ap (λ (bytes : List ℕ). pool_at (suc (length items)) (at t (bytes ++ rest))) bare
    ∙ ap (λ (n : ℕ). each_at (adding (next_item_at (suc (length items)))) n (Gap ∷ []) (at t (flat_map item_bytes items ++ rest))) k
    ∙ read ∙ ap (λ (y : PoolItem). Ok (y ∷ items, at t rest)) (sym h.0)
