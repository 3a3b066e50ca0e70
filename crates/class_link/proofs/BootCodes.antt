-- Decoding the boot classes refuses nothing.
use Rattle.std.proofs.Common.{◌≡◌, ℕ, ◌+◌, true, List, [], ◌∷◌, Option, Some, None, Result, Ok, Err, ap, ◌∙◌, subst, refl}
use Rattle.std.specs.Prelude.{is_ok}
use Rattle.std.specs.List.{list_all}
use Rattle.boot_table.specs.Decoding.{is_decoded, are_decoded}
use Rattle.boot_table.specs.Files.{boot_files}
use Rattle.boot_table.proofs.BootLaws.{boot_decoded}
use Rattle.class_format.specs.declared.class.ClassFile.{ClassFile}
use Rattle.class_format.specs.declared.class.MethodItem.{MethodItem}
use Rattle.code_table.specs.declared.code.Code.{Code as Decoded}
use Rattle.code_table.specs.declared.error.CodeErr.{CodeErr}
use Rattle.code_table.specs.Decoded.{decoded}
use Rattle.jvm_base.specs.declared.code_item.CodeItem.{CodeItem}
use Rattle.jvm_base.specs.declared.pool.PoolItem.{PoolItem}
use Rattle.jvm_base.proofs.Options.{and_parts}
use Rattle.link_rules.specs.declared.error.LinkErr.{LinkErr}
use Rattle.link_rules.specs.declared.error.LinkErr.TheVariants.{Code, Bad, NoMemory}
use Rattle.link_rules.specs.Answers.{IsFirst}
use Rattle.link_rules.specs.Decoding.{refused_code, undecoded, undecoded_file}
use Rattle.link_rules.specs.Numbers.{numbered}
use Rattle.link_rules.proofs.Firsts.{none_back}

code_passes : (class method : ℕ) (r : Result Decoded CodeErr) → is_ok r ≡ true → refused_code class method r ≡ []
code_passes class method (Ok code) e = refl
code_passes class method (Err why) e = absurd cc

passes : (class method : ℕ) (pool : List PoolItem) (code : Option CodeItem) → is_decoded pool code ≡ true → undecoded class method pool code ≡ []
passes class method pool None e = refl
passes class method pool (Some c) e = code_passes class method (decoded c pool) e

methods_pass : (class method : ℕ) (pool : List PoolItem) (methods : List MethodItem) → list_all (λ m. is_decoded pool m.code) methods ≡ true → numbered (λ k m. undecoded class k pool m.code) method methods ≡ []
methods_pass class method pool [] e = refl
methods_pass class method pool (m ∷ methods) e =
    let both = and_parts (is_decoded pool m.code) (list_all (λ x. is_decoded pool x.code) methods) e in
    none_back (undecoded class method pool m.code) _ [] (passes class method pool m.code both.0) (methods_pass class (method + 1) pool methods both.1)

files_pass : (class : ℕ) (files : List ClassFile) → list_all are_decoded files ≡ true → numbered undecoded_file class files ≡ []
files_pass class [] e = refl
files_pass class (f ∷ files) e =
    let both = and_parts (are_decoded f) (list_all are_decoded files) e in
    none_back (undecoded_file class f) _ [] (methods_pass class 0 f.pool f.methods both.0) (files_pass (class + 1) files both.1)

nothing_first : (e : LinkErr) → IsFirst [] e → e ≡ NoMemory
nothing_first NoMemory h = refl
nothing_first (Code class method why) h = absurd cc
nothing_first (Bad why class other) h = absurd cc

-- so there may only be want of memory
pub boot_answers : (boot : List ClassFile) (e : LinkErr) → boot ≡ boot_files → IsFirst (numbered undecoded_file 0 boot) e → e ≡ NoMemory
boot_answers boot e same h =
    let none : numbered undecoded_file 0 boot ≡ [] = ap (numbered undecoded_file 0) same ∙ files_pass 0 boot_files boot_decoded in
    nothing_first e (subst (λ z. IsFirst z e) none h)
