use Rattle.std.proofs.Common.{◌≡◌, ℕ, ◌+◌, ◌++◌, ◌<◌, List, Option, Some, length, slice_get, get_or, drop, map, reverse, ap, sym, ◌∙◌, arith}
use Rattle.std.proofs.lemmas.List.{length-map}
use Rattle.std.proofs.lemmas.Option.{slice_get_within, get_or_from_slice_get}
use Rattle.class_format.specs.declared.class.ClassFile.{ClassFile}
use Rattle.class_names.specs.Classes.{codes_of}
use Rattle.code_table.specs.declared.code.Code.{Code}
use Rattle.link_rules.specs.Numbers.{numbered}
use Rattle.program_image.specs.declared.info.MethodInfo.{MethodInfo}
use Rattle.link_image.specs.Methods.{natives, natives_before, class_methods, method_infos}
use Rattle.link_image.proofs.Counts.{natives_zero, natives_more, natives_in}
use Rattle.link_image.proofs.Steps.{not_past, popped_map, some_left_map, numbered_more_at}
use Rattle.link_image.proofs.methods.method_infos.Goals as goal

-- as many lists of code as classes
count : (all : List ClassFile) (codes : List (List (Option Code))) (n : ℕ) → codes ≡ map codes_of all → n ≡ length codes → n ≡ length all
count all codes n e h = h ∙ ap length e ∙ length-map all codes_of

item : (all : List ClassFile) (k : ℕ) (f : ClassFile) → slice_get all k ≡ Some f → f ≡ get_or all k f
item all k f e = sym (get_or_from_slice_get all k f f e)

pub loop-owner-init : goal.loop-owner-init
unfolding method_infos
loop-owner-init c = record {
  counted = natives_zero c.args.program.now;
  codes = c.in_ok-codes.ensures ∙ ap reverse c.requires.codes;
  infos = ap (λ z. z ++ method_infos c.args.program.now) (sym c.new-infos.ensures);
}

pub loop-owner-preserved-in_default : goal.loop-owner-preserved-in_default
loop-owner-preserved-in_default c =
    let n = count c.args.program.now c.args.codes c.len-count.result c.requires.codes c.len-count.ensures in
    let inside : c.loop-owner.owner < length c.args.program.now = omega arith in
    let no : ⊥ = not_past c.args.program.now c.loop-owner.owner inside c.in_default.ensures in
    absurd no

pub loop-owner-preserved-in_default-pop : goal.loop-owner-preserved-in_default-pop
loop-owner-preserved-in_default-pop c =
    let inside : c.loop-owner.owner < length c.args.program.now = slice_get_within c.args.program.now c.loop-owner.owner c.in-Some.file.now (sym c.in-Some.ensures) in
    let no : ⊥ = some_left_map codes_of c.args.program.now c.loop-owner.codes c.loop-owner.owner inside c.loop-owner.invariant.codes c.in_default-pop.ensures.0 in
    absurd no

pub add_methods-requires-clause-codes : goal.add_methods-requires-clause-codes
add_methods-requires-clause-codes c =
    let all : List ClassFile = c.args.program.now in
    let k : ℕ = c.loop-owner.owner in
    let e : slice_get all k ≡ Some c.in-Some.file.now = sym c.in-Some.ensures in
    (popped_map codes_of all c.loop-owner.codes c.pop.new.self k c.in-Some-pop.code c.in-Some.file.now (slice_get_within all k c.in-Some.file.now e) (item all k c.in-Some.file.now e) c.loop-owner.invariant.codes c.in-Some-pop.ensures).0

pub add_methods-requires-clause-few : goal.add_methods-requires-clause-few
add_methods-requires-clause-few c =
    let l = natives_in c.args.program.now c.loop-owner.owner c.in-Some.file.now (sym c.in-Some.ensures) in
    let q = c.loop-owner.invariant.counted in
    let few = c.requires.few in
    omega arith

pub loop-owner-preserved : goal.loop-owner-preserved
loop-owner-preserved c =
    let all : List ClassFile = c.args.program.now in
    let k : ℕ = c.loop-owner.owner in
    let f : ClassFile = c.in-Some.file.now in
    let e : slice_get all k ≡ Some f = sym c.in-Some.ensures in
    let g : ℕ → ClassFile → List MethodInfo = λ i x. class_methods (natives_before all i) i x in
    let own : class_methods c.loop-owner.natives k f ≡ g k f = ap (λ n. class_methods n k f) c.loop-owner.invariant.counted in
    let step = numbered_more_at g all k f _ c.loop-owner.infos (class_methods c.loop-owner.natives k f) e c.loop-owner.invariant.infos own in
    record {
      counted = c.in_ok-natives.ensures.after ∙ ap (λ n. n + natives f.methods) c.loop-owner.invariant.counted ∙ natives_more all k f e;
      codes = (popped_map codes_of all c.loop-owner.codes c.pop.new.self k c.in-Some-pop.code f (slice_get_within all k f e) (item all k f e) c.loop-owner.invariant.codes c.in-Some-pop.ensures).1;
      infos = step ∙ ap (λ z. z ++ numbered g (k + 1) (drop (k + 1) all)) (sym c.in_ok-natives.ensures.infos);
    }
