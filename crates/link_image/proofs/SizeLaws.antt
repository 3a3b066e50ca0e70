-- Class files are small, since their counts take two bytes.
use Rattle.std.proofs.Common.{◌≡◌, ℕ, ◌<◌, ◌+◌, ◌*◌, ◌^◌, List, [], ◌∷◌, ◌++◌, Option, Some, None, length, map, arith, Bool, true, false, refl, ap, ◌∙◌}
use Rattle.std.specs.Prelude.{◌||◌, cond}
use Rattle.std.specs.List.{All, AllByRecursion, flat_map}
use Rattle.std.proofs.lemmas.List.Elements.{All-append}
use Rattle.std.proofs.lemmas.List.{length-map, length-append}
use Rattle.std.proofs.lemmas.List.Sums.{sum_by-le, sum_by-append, sum_by-cons}
use Rattle.jvm_base.specs.declared.code_item.CodeItem.{CodeItem}
use Rattle.jvm_base.specs.declared.pool.PoolItem.{PoolItem}
use Rattle.class_format.specs.declared.class.ClassFile.{ClassFile}
use Rattle.class_format.specs.declared.class.MethodItem.{MethodItem}
use Rattle.class_format.specs.Meaning.{IsClass, IsMethod, HasCode, Spelled, contents_of, holds_code, plain_field, plain_method}
use Rattle.class_format.specs.Spelling.{Member}
use Rattle.class_format.specs.Flags.{is_native}
use Rattle.class_format.proofs.Recursion.{all_of, by_recursion}
use Rattle.link_rules.specs.declared.error.LinkWhy.{LinkWhy}
use Rattle.link_rules.specs.Answers.{refused_if}
use Rattle.link_rules.specs.Members.{is_wrong_method, wrong_field, wrong_method, wrong_members}
use Rattle.link_rules.specs.Sizes.{HasFewMethods}
use Rattle.link_members.proofs.LoopLaws.{parts_none}
use Rattle.link_image.specs.Methods.{count_methods, natives}
use Rattle.link_image.specs.Parts.{count_natives, AreSmall}
use Rattle.link_image.proofs.ListLaws.{all_more}
use Rattle.link_image.specs.Sizes.{HasFewFields, IsShort, HasShortCode}

pub few_fields : (f : ClassFile) → IsClass f → HasFewFields f
few_fields f h = let l = length-map f.fields (plain_field f.pool) in let c = h.field_count in omega arith

pub few_methods : (f : ClassFile) → IsClass f → HasFewMethods f
few_methods f h = let l = length-map f.methods (plain_method f.pool) in let c = h.method_count in omega arith

short : (pool : List PoolItem) (flags : ℕ) (o : Option CodeItem) (contents : List (List ℕ)) → HasCode pool flags o contents → IsShort o
short pool flags None contents h = tt
short pool flags (Some c) contents h =
    let code = h.3.code in
    let s = code.sizes in
    let l = s.short in
    let n = code.count in
    (omega arith, omega arith)

short_spelled : (pool : List PoolItem) (earlier : List MethodItem) (sources : List Member) (xs : List MethodItem) → Spelled (IsMethod pool) earlier sources xs → AllByRecursion (λ m. IsShort m.code) xs
short_spelled pool earlier [] [] h = tt
short_spelled pool earlier [] (x ∷ xs) h = absurd h
short_spelled pool earlier (a ∷ sources) [] h = absurd h
short_spelled pool earlier (a ∷ sources) (x ∷ xs) h = (short pool a.flags x.code (contents_of (holds_code pool) a.attributes) h.0.code, short_spelled pool (earlier ++ x ∷ []) sources xs h.1)

pub short_code : (f : ClassFile) → IsClass f → HasShortCode f
short_code f h = short_spelled f.pool [] (map (plain_method f.pool) f.methods) f.methods h.methods

-- the methods of few classes are few
pub few_in_all : (all : List ClassFile) → length all < 2 ^ 15 → All HasFewMethods all → count_methods all < 2 ^ 32
few_in_all all n h =
    let l : count_methods all < length all * 65536 + 1 = (let s = sum_by-le (λ (f : ClassFile). length f.methods) 65536 all (λ i d q. let w = h i d q in omega arith) in omega arith) in
    omega arith

-- ---- native methods

not_refused : (b : Bool) (why : LinkWhy) (f : ClassFile) (other : List ℕ) → refused_if b why f other ≡ [] → b ≡ false
not_refused true why f other e = absurd cc
not_refused false why f other e = refl

neither : (a b : Bool) → (a || b) ≡ false → a ≡ false
neither true b e = absurd cc
neither false b e = refl

no_native : (f : ClassFile) (m : MethodItem) → wrong_method f m ≡ [] → is_native m.flags ≡ false
unfolding wrong_method
no_native f m e = neither (is_native m.flags) _ (not_refused (is_wrong_method f m) _ f _ e)

no_natives : (f : ClassFile) (ms : List MethodItem) → flat_map (wrong_method f) ms ≡ [] → natives ms ≡ 0
no_natives f [] e = refl
no_natives f (m ∷ ms) e =
    let parts = parts_none (wrong_method f m) (flat_map (wrong_method f) ms) e in
    sum_by-cons (λ (x : MethodItem). cond (is_native x.flags) 1 0) m ms
    ∙ ap (λ b. cond b 1 0 + natives ms) (no_native f m parts.0)
    ∙ ap (λ n. 0 + n) (no_natives f ms parts.1)

none_in_file : (f : ClassFile) → wrong_members f ≡ [] → natives f.methods ≡ 0
unfolding wrong_members
none_in_file f e = no_natives f f.methods (parts_none (flat_map (wrong_field f) f.fields) (flat_map (wrong_method f) f.methods) e).1

-- files of which no member is refused have no native method
pub none_native : (files : List ClassFile) → flat_map wrong_members files ≡ [] → count_natives files ≡ 0
none_native [] e = refl
none_native (f ∷ fs) e =
    let parts = parts_none (wrong_members f) (flat_map wrong_members fs) e in
    sum_by-cons (λ (x : ClassFile). natives x.methods) f fs
    ∙ ap (λ n. n + count_natives fs) (none_in_file f parts.0)
    ∙ ap (λ n. 0 + n) (none_native fs parts.1)

-- ---- all classes

-- class files of which some are there, and few; the others have no native method
pub small_program : (boot files : List ClassFile) → 0 < length boot → length boot + length files < 2 ^ 15 → All IsClass boot → All IsClass files → count_natives boot < 256 → flat_map wrong_members files ≡ [] → AreSmall (boot ++ files)
small_program boot files some few p q natives_few none =
    let all : List ClassFile = boot ++ files in
    let n : length all ≡ length boot + length files = length-append boot files in
    let classes : AllByRecursion IsClass all = by_recursion IsClass all (All-append IsClass boot files p q) in
    let less : length all < 2 ^ 15 = omega arith in
    record {
      some = omega arith;
      few = less;
      fields = all_of HasFewFields all (all_more IsClass HasFewFields all few_fields classes);
      methods = few_in_all all less (all_of HasFewMethods all (all_more IsClass HasFewMethods all few_methods classes));
      natives = let s = sum_by-append (λ (x : ClassFile). natives x.methods) boot files in let z = none_native files none in omega arith;
      code = all_more IsClass HasShortCode all short_code classes;
    }
