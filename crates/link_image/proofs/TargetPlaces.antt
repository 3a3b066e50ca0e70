-- The places of the targets of a program rise.
use Rattle.std.proofs.Common.{◌≡◌, ℕ, suc, ◌+◌, ◌*◌, List, [], ◌∷◌, ◌++◌, Option, Some, None, Result, Ok, Err, length, ap, sym, ◌∙◌, subst, refl, arith, append_assoc}
use Rattle.std.specs.Prelude.{option_and_then}
use Rattle.std.specs.List.{flat_map, AllByRecursion}
use Rattle.std.proofs.lemmas.List.{length-append}
use Rattle.std.proofs.lemmas.List.Sums.{sum_by-append, sum_by_push}
use Rattle.std.proofs.Math.Seq.{take-append_seam}
use Rattle.jvm_base.specs.Words.{from}
use Rattle.jvm_base.specs.declared.code_item.CodeItem.{CodeItem}
use Rattle.jvm_base.specs.declared.pool.PoolItem.{PoolItem}
use Rattle.class_format.specs.declared.class.ClassFile.{ClassFile}
use Rattle.class_format.specs.declared.class.MethodItem.{MethodItem}
use Rattle.class_names.specs.Classes.{ok_of, ops_of, table_of}
use Rattle.code_table.specs.declared.code.Code.{Code}
use Rattle.code_table.specs.declared.code.Placed.{Placed}
use Rattle.code_table.specs.declared.error.CodeErr.{CodeErr}
use Rattle.code_table.specs.Decoded.{decoded}
use Rattle.code_table.specs.Sequences.{Leads}
use Rattle.code_table.proofs.ReadAt.{instruction_within}
use Rattle.code_table.proofs.Acceptance.{is_code}
use Rattle.program_image.specs.Condition.{place_of, Differ}
use Rattle.link_rules.specs.Numbers.{numbered}
use Rattle.link_image.specs.Methods.{count_methods, first_method}
use Rattle.link_image.specs.Sizes.{IsShort, HasShortCode}
use Rattle.link_image.specs.Targets.{Known, op_target, placed_target, caught, entry_target, method_targets, class_targets, all_targets}
use Rattle.link_image.proofs.Rising.{Rises, rises_from, rises_to, rises_append, rises_placing, rises_numbered, places_differ}

-- instructions that lead from one address to another
leads_rise : (k : Known) (f : ClassFile) (m : ℕ) (code : List ℕ) (pool : List PoolItem) (at : ℕ) (ps : List Placed) (to : ℕ) → Leads code pool at ps to → Rises (m * 4294967296 + at) (m * 4294967296 + to) (flat_map (placed_target k f m) ps)
leads_rise k f m code pool at [] to h = let e : at ≡ to = h in omega arith
leads_rise k f m code pool at (p ∷ ps) to h =
    let w = instruction_within code pool at p h.0 in
    let here = w.here in
    let behind = w.behind in
    let one = rises_placing m p.at (op_target k f p.op) in
    let first : Rises (m * 4294967296 + at) (m * 4294967296 + p.next) (placed_target k f m p) =
    rises_from (m * 4294967296 + at) (m * 4294967296 + p.at) (m * 4294967296 + p.next) (placed_target k f m p) (omega arith)
    (rises_to (m * 4294967296 + p.at) (m * 4294967296 + p.at + 1) (m * 4294967296 + p.next) (placed_target k f m p) (omega arith) one) in
    rises_append (m * 4294967296 + at) (m * 4294967296 + p.next) (m * 4294967296 + to) (placed_target k f m p) (flat_map (placed_target k f m) ps) first (leads_rise k f m code pool p.next ps to h.1)

-- the instructions of decoded code stand below 65,536
ops_rise : (k : Known) (f : ClassFile) (m : ℕ) (o : Option CodeItem) → IsShort o → Rises (m * 4294967296) (m * 4294967296 + 65536) (flat_map (placed_target k f m) (from [] (λ c. c.ops) (option_and_then (λ c. ok_of (decoded c f.pool)) o)))
ops_rise k f m None h = omega arith
ops_rise k f m (Some c) h = by (decoded c f.pool) refl
  where
    by : (r : Result Code CodeErr) → decoded c f.pool ≡ r → Rises (m * 4294967296) (m * 4294967296 + 65536) (flat_map (placed_target k f m) (from [] (λ c. c.ops) (ok_of r)))
    by (Ok code) e =
        let covers = (is_code c f.pool code e).covers in
        let short = h.0 in
        rises_from (m * 4294967296) (m * 4294967296 + 0) (m * 4294967296 + 65536) (flat_map (placed_target k f m) code.ops) (omega arith)
        (rises_to (m * 4294967296 + 0) (m * 4294967296 + length c.code) (m * 4294967296 + 65536) (flat_map (placed_target k f m) code.ops) (omega arith) (leads_rise k f m c.code f.pool 0 code.ops (length c.code) covers))
    by (Err e) _ = omega arith

-- so many entries stand behind them
table_rise : (k : Known) (f : ClassFile) (m : ℕ) (o : Option CodeItem) → IsShort o → Rises (m * 4294967296 + 65536) (m * 4294967296 + 4294967296) (numbered (entry_target k f m) 0 (from [] (λ c. c.table) o))
table_rise k f m None h = omega arith
table_rise k f m (Some c) h =
    let short = h.1 in
    let low : ℕ = m * 4294967296 + 65536 in
    rises_from low (low + 0 * 1) (m * 4294967296 + 4294967296) (numbered (entry_target k f m) 0 c.table) (omega arith)
    (rises_to (low + 0 * 1) (low + (0 + length c.table) * 1) (m * 4294967296 + 4294967296) (numbered (entry_target k f m) 0 c.table) (omega arith)
    (rises_numbered (entry_target k f m) low 1 0 c.table (λ i e l.
    rises_from (low + i * 1) (m * 4294967296 + (65536 + i)) (low + (i + 1) * 1) (entry_target k f m i e) (omega arith)
    (rises_to (m * 4294967296 + (65536 + i)) (m * 4294967296 + (65536 + i) + 1) (low + (i + 1) * 1) (entry_target k f m i e) (omega arith)
    (rises_placing m (65536 + i) (caught k f e))))))

method_rise : (k : Known) (f : ClassFile) (m : ℕ) (x : MethodItem) → IsShort x.code → Rises (m * 4294967296) (m * 4294967296 + 4294967296) (method_targets k f m x)
unfolding method_targets
method_rise k f m x h =
    rises_append (m * 4294967296) (m * 4294967296 + 65536) (m * 4294967296 + 4294967296) (flat_map (placed_target k f m) (ops_of f.pool x)) (numbered (entry_target k f m) 0 (table_of x))
    (ops_rise k f m x.code h) (table_rise k f m x.code h)

methods_rise : (k : Known) (f : ClassFile) (first i : ℕ) (xs : List MethodItem) → AllByRecursion (λ x. IsShort x.code) xs → Rises ((first + i) * 4294967296) ((first + i + length xs) * 4294967296) (numbered (λ j x. method_targets k f (first + j) x) i xs)
methods_rise k f first i [] h = omega arith
methods_rise k f first i (x ∷ xs) h =
    let rest : Rises ((first + (i + 1)) * 4294967296) ((first + (i + 1) + length xs) * 4294967296) (numbered (λ j x. method_targets k f (first + j) x) (i + 1) xs) = methods_rise k f first (i + 1) xs h.1 in
    let one : Rises ((first + i) * 4294967296) ((first + i) * 4294967296 + 4294967296) (method_targets k f (first + i) x) = method_rise k f (first + i) x h.0 in
    rises_append ((first + i) * 4294967296) ((first + i) * 4294967296 + 4294967296) ((first + i + suc (length xs)) * 4294967296) (method_targets k f (first + i) x) (numbered (λ j x. method_targets k f (first + j) x) (i + 1) xs) one
    (rises_from ((first + i) * 4294967296 + 4294967296) ((first + (i + 1)) * 4294967296) ((first + i + suc (length xs)) * 4294967296) (numbered (λ j x. method_targets k f (first + j) x) (i + 1) xs) (omega arith)
    (rises_to ((first + (i + 1)) * 4294967296) ((first + (i + 1) + length xs) * 4294967296) ((first + i + suc (length xs)) * 4294967296) (numbered (λ j x. method_targets k f (first + j) x) (i + 1) xs) (omega arith) rest))

class_rise : (k : Known) (first : ℕ) (f : ClassFile) → HasShortCode f → Rises (first * 4294967296) ((first + length f.methods) * 4294967296) (class_targets k first f)
unfolding class_targets
class_rise k first f h =
    let all : Rises ((first + 0) * 4294967296) ((first + 0 + length f.methods) * 4294967296) (numbered (λ j x. method_targets k f (first + j) x) 0 f.methods) = methods_rise k f first 0 f.methods h in
    let a : first + 0 ≡ first = omega arith in
    subst (λ n. Rises (n * 4294967296) ((n + length f.methods) * 4294967296) (class_targets k first f)) a all

first_behind : (before rest : List ClassFile) → first_method (before ++ rest) (length before) ≡ count_methods before
unfolding first_method
first_behind before rest = ap count_methods (take-append_seam before rest)

-- the targets of the classes behind some
rest_rise : (k : Known) (before rest : List ClassFile) → k.all ≡ before ++ rest → AllByRecursion HasShortCode rest → Rises (count_methods before * 4294967296) (count_methods (before ++ rest) * 4294967296) (numbered (λ c f. class_targets k (first_method k.all c) f) (length before) rest)
rest_rise k before [] e h = let s = sum_by-append (λ (f : ClassFile). length f.methods) before [] in omega arith
rest_rise k before (f ∷ fs) e h =
    let e2 : k.all ≡ (before ++ f ∷ []) ++ fs = e ∙ sym (append_assoc before (f ∷ []) fs) in
    let first : first_method k.all (length before) ≡ count_methods before = ap (λ z. first_method z (length before)) e ∙ first_behind before (f ∷ fs) in
    let more : count_methods (before ++ f ∷ []) ≡ count_methods before + length f.methods = sum_by_push (λ (g : ClassFile). length g.methods) before f in
    let len : length (before ++ f ∷ []) ≡ length before + 1 = length-append before (f ∷ []) in
    let whole : count_methods ((before ++ f ∷ []) ++ fs) ≡ count_methods (before ++ f ∷ fs) = ap count_methods (append_assoc before (f ∷ []) fs) in
    let one : Rises (count_methods before * 4294967296) ((count_methods before + length f.methods) * 4294967296) (class_targets k (first_method k.all (length before)) f) =
    subst (λ n. Rises (n * 4294967296) ((n + length f.methods) * 4294967296) (class_targets k (first_method k.all (length before)) f)) first (class_rise k (first_method k.all (length before)) f h.0) in
    let rest0 : Rises (count_methods (before ++ f ∷ []) * 4294967296) (count_methods ((before ++ f ∷ []) ++ fs) * 4294967296) (numbered (λ c g. class_targets k (first_method k.all c) g) (length (before ++ f ∷ [])) fs) = rest_rise k (before ++ f ∷ []) fs e2 h.1 in
    let rest1 : Rises (count_methods (before ++ f ∷ []) * 4294967296) (count_methods (before ++ f ∷ fs) * 4294967296) (numbered (λ c g. class_targets k (first_method k.all c) g) (length before + 1) fs) =
    subst (λ n. Rises (count_methods (before ++ f ∷ []) * 4294967296) (n * 4294967296) (numbered (λ c g. class_targets k (first_method k.all c) g) (length before + 1) fs)) whole
    (subst (λ n. Rises (count_methods (before ++ f ∷ []) * 4294967296) (count_methods ((before ++ f ∷ []) ++ fs) * 4294967296) (numbered (λ c g. class_targets k (first_method k.all c) g) n fs)) len rest0) in
    let rest2 : Rises ((count_methods before + length f.methods) * 4294967296) (count_methods (before ++ f ∷ fs) * 4294967296) (numbered (λ c g. class_targets k (first_method k.all c) g) (length before + 1) fs) =
    subst (λ n. Rises (n * 4294967296) (count_methods (before ++ f ∷ fs) * 4294967296) (numbered (λ c g. class_targets k (first_method k.all c) g) (length before + 1) fs)) more rest1 in
    rises_append (count_methods before * 4294967296) ((count_methods before + length f.methods) * 4294967296) (count_methods (before ++ f ∷ fs) * 4294967296) (class_targets k (first_method k.all (length before)) f) (numbered (λ c g. class_targets k (first_method k.all c) g) (length before + 1) fs) one rest2

-- no place stands twice among the targets of a program
pub targets_differ : (k : Known) → AllByRecursion HasShortCode k.all → Differ place_of (all_targets k)
unfolding all_targets
targets_differ k h = places_differ 0 (count_methods k.all * 4294967296) (all_targets k) (rest_rise k [] k.all refl h)
