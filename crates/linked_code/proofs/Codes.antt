-- The instructions of an image: each is one of a declared method's code, which was decoded.
use Rattle.std.proofs.Common.{◌≡◌, ◌∙◌, sym, ap, subst, refl, ℕ, suc, ◌+◌, ◌-◌, ◌<◌, ◌==◌, Bool, true, false, List, [], ◌∷◌, ◌++◌, length, take, get_or, slice_get, find, Option, Some, None, Result, Ok, Err, inl, inr, arith}
use Rattle.std.specs.Prelude.{option_and_then, if◌then◌else◌}
use Rattle.std.specs.List.{AllByRecursion}
use Rattle.std.proofs.lemmas.List.Sums.{sum_by-cons}
use Rattle.std.proofs.lemmas.Bool.Decides.{nat_tests}
use Rattle.std.proofs.lemmas.Option.{slice_get_within}
use Rattle.jvm_base.specs.Words.{from}
use Rattle.jvm_base.specs.declared.code_item.CodeItem.{CodeItem}
use Rattle.jvm_base.specs.declared.pool.PoolItem.{PoolItem}
use Rattle.jvm_base.proofs.Options.{some_is, then_some}
use Rattle.boot_table.specs.Files.{boot_files}
use Rattle.boot_table.proofs.BootLaws.{boot_formed}
use Rattle.class_format.specs.Flags.{is_native}
use Rattle.class_format.specs.Judging.Formed.{FormedCodeOf, FormedMethod, FormedParts}
use Rattle.class_format.specs.Meaning.{IsClass}
use Rattle.class_format.specs.declared.class.ClassFile.{ClassFile}
use Rattle.class_format.specs.declared.class.MethodItem.{MethodItem}
use Rattle.class_format.proofs.FormedClass.{is_formed}
use Rattle.class_format.proofs.Recursion.{by_recursion}
use Rattle.class_names.specs.Classes.{code_of as code_in, ok_of, ops_of}
use Rattle.code_table.specs.Decoded.{decoded}
use Rattle.code_table.specs.declared.code.Code.{Code}
use Rattle.code_table.specs.declared.code.Placed.{Placed}
use Rattle.code_table.specs.declared.error.CodeErr.{CodeErr}
use Rattle.code_table.proofs.Acceptance.{is_code}
use Rattle.constant_pool.specs.Links.{bad_link}
use Rattle.flow_types.proofs.TreeLaws.{cases_lt}
use Rattle.link_image.specs.Methods.{count_methods, first_method, method_info, method_infos, bare_body}
use Rattle.link_image.specs.Sizes.{IsShort, HasShortCode}
use Rattle.link_image.proofs.ListLaws.{all_append}
use Rattle.link_image.proofs.Within.{count_method_infos}
use Rattle.program_image.specs.Handlers.{body_code}
use Rattle.program_image.specs.declared.info.Body.TheVariants as body
use Rattle.program_image.specs.declared.info.MethodInfo.{MethodInfo}
use Rattle.typed_code.specs.Decoding.{IsFine}
use Rattle.typed_code.proofs.Allowing.{fine_ops}
use Rattle.linked_classes.proofs.Above.{item_at, all_at}
use Rattle.linked_methods.proofs.Numbered.{before, method_there}

-- an item that a search finds
found_item : {A : Type 0} (t : A → Bool) (xs : List A) (x : A) → find t xs ≡ Some x → (i : ℕ) × (slice_get xs i ≡ Some x) × (t x ≡ true)
found_item t [] x e = absurd cc
found_item t (y ∷ ys) x e = by_test (t y) refl e (found_item t ys x)
  where
    by_test : (b : Bool) → t y ≡ b → (if b then Some y else find t ys) ≡ Some x → (find t ys ≡ Some x → (i : ℕ) × (slice_get ys i ≡ Some x) × (t x ≡ true)) → (i : ℕ) × (slice_get (y ∷ ys) i ≡ Some x) × (t x ≡ true)
    by_test true q h again = let s : y ≡ x = cc in (0, ap (λ (z : _). Some z) s, subst (λ z. t z ≡ true) s q)
    by_test false q h again = let (i, a, b) = again h in (suc i, a, b)

-- ---- class files

parts : (f : ClassFile) → IsClass f → FormedParts f f.pool
parts f is = (is_formed f f.pool refl is).1

-- the items of its pool lead to what they name
pub linked_pool : (f : ClassFile) → IsClass f → bad_link f.pool ≡ None
linked_pool f is = (parts f is).links

-- a method of a class file
pub formed_method : (f : ClassFile) → IsClass f → (i : ℕ) (x : MethodItem) → slice_get f.methods i ≡ Some x → FormedMethod f.pool x
formed_method f is i x e = all_at (FormedMethod f.pool) f.methods (by_recursion (FormedMethod f.pool) f.methods (parts f is).members.formed_methods) i x e

short : (pool : List PoolItem) (flags : ℕ) (code : Option CodeItem) → FormedCodeOf pool flags code → IsShort code
short pool flags None h = tt
short pool flags (Some c) h = (h.1.code.sizes.short, h.1.code.count)

-- its code is short
short_code : (f : ClassFile) → IsClass f → HasShortCode f
short_code f is =
    by_recursion (λ m. IsShort m.code) f.methods
    (λ k d lt. let m : MethodItem = get_or f.methods k d in short f.pool m.flags m.code ((parts f is).members.formed_methods k d lt).code)

-- ---- code

-- what is decoded is decoded from some code
pub decoded_from : (pool : List PoolItem) (o : Option CodeItem) (c : Code) → option_and_then (λ k. ok_of (decoded k pool)) o ≡ Some c → (k : CodeItem) × (o ≡ Some k) × (decoded k pool ≡ Ok c)
decoded_from pool None c e = absurd cc
decoded_from pool (Some k) c e = (k, refl, by_result (decoded k pool) e)
  where
    by_result : (r : Result Code CodeErr) → ok_of r ≡ Some c → r ≡ Ok c
    by_result (Ok d) h = let s : d ≡ c = cc in ap (λ (x : Code). Ok x) s
    by_result (Err x) h = absurd cc

-- each instruction is fine
fine : (f : ClassFile) → IsClass f → (i : ℕ) (x : MethodItem) → slice_get f.methods i ≡ Some x → (c : Code) → code_in f.pool x ≡ Some c → (j : ℕ) (o : Placed) → slice_get c.ops j ≡ Some o → IsFine f.pool o.op
fine f is i x e c q j o r =
    let (k, s, d) = decoded_from f.pool x.code c q in
    let formed : FormedCodeOf f.pool x.flags (Some k) = subst (λ (z : Option CodeItem). FormedCodeOf f.pool x.flags z) s (formed_method f is i x e).code in
    fine_ops f.pool k.code formed.1.code.bytes 0 c.ops (length k.code) (is_code k f.pool c d).covers j o r

has_code : (k : ℕ) (pool : List PoolItem) (x : MethodItem) (c : Code) (o : Option Code) → body_code (from (bare_body k x) body.Code o) ≡ Some c → o ≡ Some c
has_code k pool x c None h = absurd (bare (is_native x.flags) h)
  where
    bare : (b : Bool) → body_code (if b then body.Intrinsic k else body.Abstract) ≡ Some c → ⊥
    bare true h = cc
    bare false h = cc
has_code k pool x c (Some d) h = h

-- ---- methods by number

-- a number is that of a method, at a place of a class
split_count : (fs : List ClassFile) (m : ℕ) → m < count_methods fs → (c : ℕ) × (f : ClassFile) × (i : ℕ) × (slice_get fs c ≡ Some f) × (i < length f.methods) × (m ≡ count_methods (take c fs) + i)
split_count [] m l = let z : count_methods [] ≡ 0 = refl in absurd (omega arith)
split_count (f ∷ fs) m l =
    let s : count_methods (f ∷ fs) ≡ length f.methods + count_methods fs = sum_by-cons (λ (g : ClassFile). length g.methods) f fs in
    elim (cases_lt m (length f.methods)) [
      | inl a ↦ let z : count_methods [] ≡ 0 = refl in (0, f, m, refl, a, omega arith)
      | inr b ↦
          let (c, g, i, p, q, r) = split_count fs (m - length f.methods) (omega arith) in
          let w : count_methods (f ∷ take c fs) ≡ length f.methods + count_methods (take c fs) = sum_by-cons (λ (g : ClassFile). length g.methods) f (take c fs) in
          (suc c, g, i, p, q, omega arith)
    ]

-- where the code of a method's number is declared
pub record IsCodeAt (all : List ClassFile) (m : ℕ) (c : Code) : Type 0 where
  pub class : ℕ
  pub place : ℕ
  pub file : ClassFile
  pub item : MethodItem
  pub is_file : slice_get all class ≡ Some file
  pub is_item : slice_get file.methods place ≡ Some item
  pub number : m ≡ first_method all class + place
  pub is_code : code_in file.pool item ≡ Some c

pub code_there : (all : List ClassFile) (m : ℕ) (c : Code) → option_and_then (λ i. body_code i.body) (slice_get (method_infos all) m) ≡ Some c → IsCodeAt all m c
unfolding first_method
code_there all m c e =
    let (info, q, b) = then_some (λ (i : MethodInfo). body_code i.body) (slice_get (method_infos all) m) c e in
    let l : m < length (method_infos all) = slice_get_within (method_infos all) m info q in
    let n = count_method_infos all in
    let (k, f, i, p, r, s) = split_count all m (omega arith) in
    let (x, t) = item_at f.methods i r in
    let here : MethodInfo = method_info f (0 + k) (before all k i f) x in
    let y : info ≡ here = some_is info here (sym q ∙ ap (slice_get (method_infos all)) s ∙ method_there all k f i x p t) in
    record {
      class = k;
      place = i;
      file = f;
      item = x;
      is_file = p;
      is_item = t;
      number = s;
      is_code = has_code (before all k i f) f.pool x c (code_in f.pool x) (sym (ap (λ (z : MethodInfo). body_code z.body) y) ∙ b);
    }

-- ---- instructions

-- where an instruction is declared
pub record IsOpAt (all : List ClassFile) (m at : ℕ) (o : Placed) : Type 0 where
  pub class : ℕ
  pub place : ℕ
  pub index : ℕ
  pub file : ClassFile
  pub item : MethodItem
  pub is_file : slice_get all class ≡ Some file
  pub is_item : slice_get file.methods place ≡ Some item
  pub is_op : slice_get (ops_of file.pool item) index ≡ Some o
  pub number : m ≡ first_method all class + place
  pub here : o.at ≡ at
  pub fine : IsFine file.pool o.op

pub all_formed : (files : List ClassFile) → AllByRecursion IsClass files → AllByRecursion IsClass (boot_files ++ files)
all_formed files h = all_append IsClass boot_files files (by_recursion IsClass boot_files boot_formed) h

-- all code is short
pub all_short : (files : List ClassFile) → AllByRecursion IsClass files → AllByRecursion HasShortCode files
all_short [] h = tt
all_short (f ∷ files) h = (short_code f (h.0), all_short files (h.1))

-- each instruction that is looked up is declared
pub op_there : (all : List ClassFile) → AllByRecursion IsClass all → (m at : ℕ) (o : Placed) → option_and_then (λ code. find (λ i. i.at == at) code.ops) (option_and_then (λ i. body_code i.body) (slice_get (method_infos all) m)) ≡ Some o → IsOpAt all m at o
op_there all formed m at o e =
    let (c, q, g) = then_some (λ (code : Code). find (λ (i : Placed). i.at == at) code.ops) (option_and_then (λ (i : MethodInfo). body_code i.body) (slice_get (method_infos all) m)) o e in
    let x : IsCodeAt all m c = code_there all m c q in
    let (j, a, b) = found_item (λ (i : Placed). i.at == at) c.ops o g in
    record {
      class = x.class;
      place = x.place;
      index = j;
      file = x.file;
      item = x.item;
      is_file = x.is_file;
      is_item = x.is_item;
      is_op = ap (λ (z : Option Code). slice_get (from [] (λ (k : Code). k.ops) z) j) x.is_code ∙ a;
      number = x.number;
      here = grind (arith, nat_tests);
      fine = fine x.file (all_at IsClass all formed x.class x.file x.is_file) x.place x.item x.is_item c x.is_code j o a;
    }
