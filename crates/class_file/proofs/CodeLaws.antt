-- Code that is read is the code that is spelled.
use Rattle.std.proofs.Common.{◌≡◌, ℕ, ◌+◌, ◌<◌, ◌^◌, true, ◌&&◌, nat_lt, List, [], ◌∷◌, ◌++◌, length, Ok, refl, sym, ap, subst, ◌∙◌, arith, length-append}
use Rattle.std.specs.List.{AllByRecursion}
use Rattle.std.specs.Prelude.{nat_eq}
use Rattle.std.proofs.lemmas.Bool.{eqb-true}
use Rattle.std.proofs.lemmas.Bool.Decides.{nat_tests}
use Rattle.jvm_base.specs.declared.code_item.CodeItem.{CodeItem}
use Rattle.jvm_base.specs.declared.code_item.TableItem.{TableItem}
use Rattle.jvm_base.specs.declared.pool.PoolItem.{PoolItem}
use Rattle.jvm_base.proofs.Refusing.{bind_ok, need_ok, bind_then, need_then, ok_is}
use Rattle.class_file.specs.declared.attribute.AttributeHead.{AttributeHead}
use Rattle.class_file.specs.declared.code.CodeSizes.{CodeSizes}
use Rattle.class_file.specs.declared.error.ClassErr.TheVariants.{AttrLength, CodeLength}
use Rattle.class_format.specs.Members.{is_code_len}
use Rattle.class_format.specs.Meaning.{AreBytes, FitsNumbers, FitsEntry, IsCode}
use Rattle.class_file.specs.Reading.Members.{other_at, entry_numbers_at, table_item_at, sizes_at, code_contents_at, code_at}
use Rattle.class_file.specs.Reading.Words.{Place, bytes_at, counted_at, listed_at}
use Rattle.class_format.specs.Spelling.{number2, number4, listed, attribute_bytes, table_bytes, code_bytes}
use Rattle.class_file.specs.Refused.{sizes_bytes, FitsCodeSizes, entry_tests, InEntry}
use Rattle.class_file.proofs.AttributeLaws.{others_take, others_again}
use Rattle.class_file.proofs.Groups.{IsTold, IsGroup, two, four, group_of, group_told, group_read}
use Rattle.class_file.proofs.PartLaws.{IsItem, Itself, itself_item, same_read}
use Rattle.class_file.proofs.ReadLaws.{regroup4, at, Takes, Takes-then, IsRead, bytes_take, bytes_again}

-- ---- entries of an exception table

pub entry_group : IsGroup entry_numbers_at 8 table_bytes FitsNumbers
unfolding entry_numbers_at
entry_group = group_of (two ∷ two ∷ two ∷ two ∷ []) (λ ns. record { start = ns.0; end = ns.1.0; handler = ns.1.1.0; class = ns.1.1.1.0 }) (λ t. (t.start, (t.end, (t.handler, (t.class, tt))))) (λ t. refl) table_bytes FitsNumbers
    (λ ns. refl) (λ ns fits. record { start = fits.0; end = fits.1.0; handler = fits.1.1.0; class = fits.1.1.1.0 }) (λ t fits. (fits.start, (fits.end, (fits.handler, (fits.class, tt)))))

pub entry_read : (pool : List PoolItem) (earlier : List TableItem) → IsRead (table_item_at pool earlier) table_bytes (FitsEntry pool)
unfolding table_item_at
entry_read pool earlier = group_read entry_numbers_at 8 table_bytes FitsNumbers (FitsEntry pool) entry_group (entry_tests pool) (λ p t fits met. record { fits = fits; link = met.0 }) (λ p t is. (is.fits, (is.link, tt)))

-- where an entry is refused
pub entry_told : (pool : List PoolItem) (earlier : List TableItem) → IsTold (table_item_at pool earlier) (InEntry pool)
unfolding table_item_at
entry_told pool earlier = group_told entry_numbers_at 8 table_bytes FitsNumbers entry_group (entry_tests pool) (λ t. t)

pub entry : (pool : List PoolItem) → IsItem (table_item_at pool) table_bytes (Itself (FitsEntry pool))
entry pool = itself_item (table_item_at pool) table_bytes (FitsEntry pool) (entry_read pool)

pub table_read : (pool : List PoolItem) → IsRead (listed_at (table_item_at pool)) (listed table_bytes) (λ table. AllByRecursion (FitsEntry pool) table × (length table < 2 ^ 16))
table_read pool = same_read (table_item_at pool) table_bytes (FitsEntry pool) (entry pool)

-- ---- the numbers of a Code

pub sizes_group : IsGroup sizes_at 8 sizes_bytes FitsCodeSizes
unfolding sizes_at
sizes_group = group_of (two ∷ two ∷ four ∷ []) (λ ns. record { max_stack = ns.0; max_locals = ns.1.0; len = ns.1.1.0 }) (λ c. (c.max_stack, (c.max_locals, (c.len, tt)))) (λ c. refl) sizes_bytes FitsCodeSizes
    (λ ns. refl) (λ ns fits. record { max_stack = fits.0; max_locals = fits.1.0; len = fits.1.1.0 }) (λ c fits. (fits.max_stack, (fits.max_locals, (fits.len, tt))))

-- ---- the contents of Code

pub record IsCodeTaken (pool : List PoolItem) (p : Place) (z : CodeItem × Place) : Type 0 where
  pub contents : List ℕ
  pub took : Takes p contents z.1
  pub is : IsCode pool z.0 contents

pub in_range : (n : ℕ) → is_code_len n ≡ true → (0 < n) × (n < 65536)
in_range n h = (grind (arith, nat_tests), grind (arith, nat_tests))

pub is_in_range : (n : ℕ) → 0 < n → n < 65536 → is_code_len n ≡ true
is_in_range n some short = grind (arith, nat_tests)

-- the numbers that a code has
abbrev sizes_of : CodeItem → CodeSizes
sizes_of c = record { max_stack = c.max_stack; max_locals = c.max_locals; len = length c.code }

pub contents_take : (pool : List PoolItem) (m : ℕ) (p : Place) (z : CodeItem × Place) → AreBytes p.rest → code_contents_at pool m p ≡ Ok z → IsCodeTaken pool p z
unfolding code_contents_at
contents_take pool m p z fits e =
    let sizes = bind_ok (sizes_at p) _ z e in
    let range = need_ok (is_code_len sizes.0.0.len) (CodeLength m) _ z sizes.2 in
    let code = bind_ok (bytes_at sizes.0.0.len sizes.0.1) _ z range.1 in
    let table = bind_ok (listed_at (table_item_at pool) code.0.1) _ z code.2 in
    let others = bind_ok (counted_at (other_at pool) tt table.0.1) _ z table.2 in
    let t0 = sizes_group.is.takes p sizes.0.1 sizes.0.0 fits sizes.1 in
    let t1 = bytes_take sizes.0.0.len sizes.0.1 code.0.1 code.0.0 t0.0.rest_fits code.1 in
    let t2 = (table_read pool).takes code.0.1 table.0.1 table.0.0 t1.0.rest_fits table.1 in
    let t3 = others_take pool table.0.1 others.0 t2.0.rest_fits others.1 in
    let bounds = in_range sizes.0.0.len range.0 in
    let made : CodeItem × Place = (record { max_stack = sizes.0.0.max_stack; max_locals = sizes.0.0.max_locals; code = code.0.0; table = table.0.0 }, others.0.1) in
    let c : CodeItem = made.0 in
    let numbers : List ℕ = sizes_bytes (sizes_of c) in
    let counted : Takes p numbers sizes.0.1 = subst (λ (n : ℕ). Takes p (number2 c.max_stack ++ number2 c.max_locals ++ number4 n) sizes.0.1) (sym t1.1) t0.0 in
    let one = Takes-then p numbers sizes.0.1 code.0.0 code.0.1 counted t1.0 in
    let two = Takes-then p (numbers ++ code.0.0) code.0.1 (listed table_bytes table.0.0) table.0.1 one t2.0 in
    let all : Takes p (code_bytes c t3.attributes) others.0.1 = Takes-then p (numbers ++ code.0.0 ++ listed table_bytes table.0.0) table.0.1 (listed attribute_bytes t3.attributes) others.0.1 two t3.took in
    let is : IsCode pool c (code_bytes c t3.attributes) = record {
      others = t3.attributes;
      spelled = refl;
      code = record {
        sizes = record { fits_stack = t0.1.max_stack; fits_locals = t0.1.max_locals; some = omega (arith, bounds.0, t1.1); short = omega (arith, bounds.1, t1.1) };
        bytes = t1.2;
        entries = t2.1.0;
        count = t2.1.1;
      };
      attributes = t3.fits;
    } in
    subst (λ (z : CodeItem × Place). IsCodeTaken pool p z) (ok_is made z others.2) (record { contents = code_bytes c t3.attributes; took = all; is = is })

pub contents_again : (pool : List PoolItem) (m : ℕ) (c : CodeItem) (contents : List ℕ) (t : ℕ) (rest : List ℕ) → IsCode pool c contents → code_contents_at pool m (at t (contents ++ rest)) ≡ Ok (c, at t rest)
unfolding code_contents_at
contents_again pool m c contents t rest h =
    let sizes : CodeSizes = sizes_of c in
    let fits : FitsCodeSizes sizes = record { max_stack = h.code.sizes.fits_stack; max_locals = h.code.sizes.fits_locals; len = omega (arith, h.code.sizes.short) } in
    let others_rest : List ℕ = listed attribute_bytes h.others ++ rest in
    let table_rest : List ℕ = listed table_bytes c.table ++ others_rest in
    let code_rest : List ℕ = c.code ++ table_rest in
    ap (λ (bytes : List ℕ). code_contents_at pool m (at t (bytes ++ rest))) h.spelled
    ∙ ap (λ (bytes : List ℕ). code_contents_at pool m (at t bytes)) (regroup4 (sizes_bytes sizes) c.code (listed table_bytes c.table) (listed attribute_bytes h.others) rest)
    ∙ bind_then (sizes_at (at t (sizes_bytes sizes ++ code_rest))) (sizes, at t code_rest) _ _ (sizes_group.is.again sizes t code_rest fits)
    (need_then (is_code_len (length c.code)) _ _ _ (is_in_range (length c.code) h.code.sizes.some h.code.sizes.short)
    (bind_then (bytes_at (length c.code) (at t code_rest)) (c.code, at t table_rest) _ _ (bytes_again c.code table_rest t)
    (bind_then (listed_at (table_item_at pool) (at t table_rest)) (c.table, at t others_rest) _ _ ((table_read pool).again c.table t others_rest (h.code.entries, h.code.count))
    (bind_then (counted_at (other_at pool) tt (at t others_rest)) (tt, at t rest) _ _ (others_again pool h.others t rest h.attributes) refl))))

-- ---- contents of the length that is said

pub record IsSizedCode (pool : List PoolItem) (len : ℕ) (p : Place) (z : CodeItem × Place) : Type 0 where
  pub contents : List ℕ
  pub took : Takes p contents z.1
  pub long : length contents ≡ len
  pub is : IsCode pool z.0 contents

sized : (text rest : List ℕ) (n len : ℕ) → n ≡ length (text ++ rest) → n ≡ len + length rest → length text ≡ len
sized text rest n len e h = omega (arith, e, h, length-append text rest)

pub code_takes : (pool : List PoolItem) (m : ℕ) (a : AttributeHead) (p : Place) (z : CodeItem × Place) → AreBytes p.rest → code_at pool m a p ≡ Ok z → IsSizedCode pool a.len p z
unfolding code_at
code_takes pool m a p z fits e =
    let code = bind_ok (code_contents_at pool m p) _ z e in
    let same = need_ok (nat_eq (length p.rest) (a.len + length code.0.1.rest)) (AttrLength a.at) _ z code.2 in
    let t = contents_take pool m p code.0 fits code.1 in
    let long : length t.contents ≡ a.len = sized t.contents code.0.1.rest (length p.rest) a.len (ap length t.took.parts) (eqb-true (length p.rest) (a.len + length code.0.1.rest) same.0) in
    subst (λ (z : CodeItem × Place). IsSizedCode pool a.len p z) (ok_is code.0 z same.1) (record { contents = t.contents; took = t.took; long = long; is = t.is })

pub code_again : (pool : List PoolItem) (m : ℕ) (c : CodeItem) (contents : List ℕ) (name off t : ℕ) (rest : List ℕ) → IsCode pool c contents → code_at pool m (record { name = name; len = length contents; at = off }) (at t (contents ++ rest)) ≡ Ok (c, at t rest)
unfolding code_at
code_again pool m c contents name off t rest h =
    let same : nat_eq (length (contents ++ rest)) (length contents + length rest) ≡ true = let k : length (contents ++ rest) ≡ length contents + length rest = omega (arith, length-append contents rest) in grind (arith, nat_tests) in
    bind_then (code_contents_at pool m (at t (contents ++ rest))) (c, at t rest) _ _ (contents_again pool m c contents t rest h) (need_then (nat_eq (length (contents ++ rest)) (length contents + length rest)) _ _ _ same refl)
