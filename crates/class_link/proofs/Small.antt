-- Class files are small: their fields, methods and code have numbers of few bytes.
use Rattle.std.proofs.Common.{◌≡◌, ℕ, ◌+◌, ◌*◌, ◌<◌, ◌≤◌, ◌^◌, Bool, true, false, cond, ◌||◌, List, [], ◌∷◌, ◌++◌, length, Option, Some, None, slice_index_or, refl, ap, ◌∙◌, zero-add, arith}
use Rattle.std.specs.Prelude.{All, if◌then◌else◌}
use Rattle.std.specs.List.{AllByRecursion, flat_map, sum_by}
use Rattle.std.proofs.lemmas.List.{length-append}
use Rattle.std.proofs.lemmas.List.Elements.{All-append}
use Rattle.std.proofs.lemmas.List.Sums.{sum_by-cons, sum_by-append}
use Rattle.jvm_base.specs.declared.code_item.CodeItem.{CodeItem}
use Rattle.jvm_base.specs.declared.pool.PoolItem.{PoolItem}
use Rattle.boot_table.specs.Files.{boot_files}
use Rattle.boot_table.specs.Table.{boot_rows, first_rows, exceptions}
use Rattle.boot_table.proofs.BootLaws.{boot_formed}
use Rattle.class_format.specs.declared.class.ClassFile.{ClassFile}
use Rattle.class_format.specs.declared.class.MethodItem.{MethodItem}
use Rattle.class_format.specs.Flags.{is_native}
use Rattle.class_format.specs.Meaning.{IsClass}
use Rattle.class_format.specs.Judging.Formed.{FormedCodeOf, FormedParts}
use Rattle.class_format.proofs.FormedClass.{is_formed}
use Rattle.class_format.proofs.Recursion.{by_recursion}
use Rattle.link_members.proofs.LoopLaws.{parts_none}
use Rattle.link_rules.specs.declared.error.LinkErr.{LinkErr}
use Rattle.link_rules.specs.Sizes.{HasFewMethods}
use Rattle.link_rules.specs.Members.{wrong_field, wrong_method, wrong_members}
use Rattle.link_image.specs.Methods.{count_methods, natives}
use Rattle.link_image.specs.Parts.{count_natives, AreSmall}
use Rattle.link_image.specs.Sizes.{IsShort, HasShortCode}
use Rattle.class_link.proofs.BootLaws.{boot_count}

parts : (f : ClassFile) → IsClass f → FormedParts f f.pool
parts f is = (is_formed f f.pool refl is).1

short : (pool : List PoolItem) (flags : ℕ) (code : Option CodeItem) → FormedCodeOf pool flags code → IsShort code
short pool flags None h = tt
short pool flags (Some c) h = (h.1.code.sizes.short, h.1.code.count)

-- the code of a class file's methods is short
short_code : (f : ClassFile) → IsClass f → HasShortCode f
short_code f is =
    by_recursion (λ m. IsShort m.code) f.methods
    (λ k d lt. (let m : MethodItem = slice_index_or f.methods k d in short f.pool m.flags m.code ((parts f is).members.formed_methods k d lt).code))

-- the methods of some class files are counted in four bytes
methods_few : (files : List ClassFile) → AllByRecursion IsClass files → count_methods files ≤ length files * 65536
methods_few [] h = let none : count_methods [] ≡ 0 = refl in omega arith
methods_few (f ∷ files) h =
    let both = sum_by-cons (λ (g : ClassFile). length g.methods) f files in
    let few : length f.methods < 65536 = (parts f h.0).members.method_count in
    let rest = methods_few files h.1 in omega arith

not_native : (a b : Bool) (x : LinkErr) → (if (a || b) then x ∷ [] else []) ≡ [] → a ≡ false
not_native true b x e = absurd cc
not_native false b x e = refl

no_native : (f : ClassFile) (methods : List MethodItem) → flat_map (wrong_method f) methods ≡ [] → natives methods ≡ 0
unfolding wrong_method
no_native f [] e = refl
no_native f (m ∷ methods) e =
    let both = parts_none (wrong_method f m) (flat_map (wrong_method f) methods) e in
    let bare : is_native m.flags ≡ false = not_native (is_native m.flags) _ _ both.0 in
    let g : MethodItem → ℕ = λ x. cond (is_native x.flags) 1 0 in
    sum_by-cons g m methods
    ∙ ap (λ b. cond b 1 0 + sum_by g methods) bare
    ∙ zero-add (sum_by g methods)
    ∙ no_native f methods both.1

-- files that declare what they may have no native method
pub no_natives : (files : List ClassFile) → flat_map wrong_members files ≡ [] → count_natives files ≡ 0
unfolding wrong_members
no_natives [] e = refl
no_natives (f ∷ files) e =
    let both = parts_none (wrong_members f) (flat_map wrong_members files) e in
    let members = parts_none (flat_map (wrong_field f) f.fields) (flat_map (wrong_method f) f.methods) both.0 in
    let h : ClassFile → ℕ = λ g. natives g.methods in
    sum_by-cons h f files
    ∙ ap (λ n. n + sum_by h files) (no_native f f.methods members.1)
    ∙ zero-add (sum_by h files)
    ∙ no_natives files both.1

boot_natives_count : count_natives boot_files ≡ 34
unfolding boot_files boot_rows first_rows exceptions
boot_natives_count = refl

-- a program's classes are small
pub are_small : (files : List ClassFile) → length files ≤ 1024 → All IsClass files → flat_map wrong_members files ≡ [] → AreSmall (boot_files ++ files)
are_small files few formed none =
    let all : List ClassFile = boot_files ++ files in
    let is : All IsClass all = All-append IsClass boot_files files boot_formed formed in
    let count = boot_count in
    let both = length-append boot_files files in
    let methods = methods_few all (by_recursion IsClass all is) in
    let native : count_natives all ≡ 34 =
    sum_by-append (λ (g : ClassFile). natives g.methods) boot_files files
    ∙ ap (λ n. n + count_natives files) boot_natives_count
    ∙ ap (λ n. 34 + n) (no_natives files none) in
    record {
      some = omega arith;
      few = omega arith;
      fields = λ k d lt. (parts _ (is k d lt)).members.field_count;
      methods = omega arith;
      natives = omega arith;
      code = by_recursion HasShortCode all (λ k d lt. short_code _ (is k d lt));
    }

-- so are their pools
pub pools_few : (files : List ClassFile) → All IsClass files → All (λ f. length f.pool < 2 ^ 16) files
pools_few files is = λ k d lt. let f : ClassFile = slice_index_or files k d in (is_formed f f.pool refl (is k d lt)).0.count

pub methods_short : (files : List ClassFile) → All IsClass files → All HasFewMethods files
methods_short files is = λ k d lt. (parts _ (is k d lt)).members.method_count
