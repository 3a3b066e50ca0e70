use Rattle.std.proofs.Common.{◌≡◌, ℕ, ◌+◌, ◌++◌, ◌<◌, List, Option, Some, length, slice_get, get_or, drop, map, ap, sym, ◌∙◌, subst, arith}
use Rattle.std.specs.Prelude.{option_map}
use Rattle.std.proofs.lemmas.List.{length-map}
use Rattle.std.proofs.lemmas.Option.{get_or_from_slice_get, slice_get-map}
use Rattle.class_format.specs.declared.class.ClassFile.{ClassFile}
use Rattle.class_names.specs.Classes.{codes_of}
use Rattle.code_table.specs.declared.code.Code.{Code}
use Rattle.link_rules.specs.Numbers.{numbered}
use Rattle.link_uses.specs.Items.{AreItems}
use Rattle.link_uses.proofs.ItemLaws.{items_at}
use Rattle.program_image.specs.Places.{Placing}
use Rattle.link_image.specs.Methods.{first_method}
use Rattle.link_image.specs.Seen.{seen_lookup}
use Rattle.link_image.specs.Sizes.{HasShortCode}
use Rattle.link_image.specs.Targets.{class_targets, all_targets}
use Rattle.link_image.proofs.Counts.{first_zero, first_more, first_in}
use Rattle.link_image.proofs.ListLaws.{all_at}
use Rattle.link_image.proofs.Steps.{not_past, numbered_more_at}
use Rattle.link_image.proofs.targets.all_targets.Goals as goal

-- the code of a class in the list of all
codes_at : (all : List ClassFile) (codes : List (List (Option Code))) (k : ℕ) (f : ClassFile) (r items : List (Option Code)) → codes ≡ map codes_of all → slice_get all k ≡ Some f → r ≡ get_or codes k r → items ≡ r → items ≡ codes_of f
codes_at all codes k f r items e h is same =
    same ∙ is ∙ get_or_from_slice_get codes k (codes_of f) r (ap (λ z. slice_get z k) e ∙ slice_get-map codes_of all k ∙ ap (option_map codes_of) h)

pub loop-c-init : goal.loop-c-init
unfolding all_targets
loop-c-init c = record {
  first = first_zero c.args.lookup.now.resolver.now;
  targets = ap (λ z. z ++ all_targets (seen_lookup c.args.lookup.now)) (sym c.new-targets.ensures);
}

pub loop-c-preserved-in_default : goal.loop-c-preserved-in_default
loop-c-preserved-in_default c =
    let all : List ClassFile = c.args.lookup.now.resolver.now in
    let n : length c.args.codes.now ≡ length all = ap length c.requires.codes ∙ length-map all codes_of in
    let inside : c.loop-c.c < length all = omega arith in
    let no : ⊥ = not_past all c.loop-c.c inside (c.in_default.ensures ∙ ap (λ z. slice_get z c.loop-c.c) c.program-program.ensures) in
    absurd no

pub add_class-requires-clause-found : goal.add_class-requires-clause-found
add_class-requires-clause-found c =
    let all : List ClassFile = c.args.lookup.now.resolver.now in
    let f : ClassFile = c.in-Some.file.now in
    let e : slice_get all c.loop-c.c ≡ Some f = sym (c.in-Some.ensures ∙ ap (λ z. slice_get z c.loop-c.c) c.program-program.ensures) in
    let n : length c.args.codes.now ≡ length all = ap length c.requires.codes ∙ length-map all codes_of in
    let inside : c.loop-c.c < length all = omega arith in
    let own : AreItems all f.pool c.index-items-c.result = items_at all all c.args.items.now c.loop-c.c f c.index-items-c.result c.requires.items inside (sym (get_or_from_slice_get all c.loop-c.c f f e)) c.index-items-c.is in
    subst (AreItems all f.pool) (sym c.as_slice-found.ensures) own

pub add_class-requires-clause-codes : goal.add_class-requires-clause-codes
add_class-requires-clause-codes c =
    let e : slice_get c.args.lookup.now.resolver.now c.loop-c.c ≡ Some c.in-Some.file.now = sym (c.in-Some.ensures ∙ ap (λ z. slice_get z c.loop-c.c) c.program-program.ensures) in
    codes_at c.args.lookup.now.resolver.now c.args.codes.now c.loop-c.c c.in-Some.file.now c.index-codes-c.result c.as_slice-code.result.now c.requires.codes e c.index-codes-c.is c.as_slice-code.ensures

pub add_class-requires-clause-short : goal.add_class-requires-clause-short
add_class-requires-clause-short c =
    let e : slice_get c.args.lookup.now.resolver.now c.loop-c.c ≡ Some c.in-Some.file.now = sym (c.in-Some.ensures ∙ ap (λ z. slice_get z c.loop-c.c) c.program-program.ensures) in
    all_at HasShortCode c.args.lookup.now.resolver.now c.loop-c.c c.in-Some.file.now c.requires.short e

pub add_class-requires-clause-few : goal.add_class-requires-clause-few
add_class-requires-clause-few c =
    let e : slice_get c.args.lookup.now.resolver.now c.loop-c.c ≡ Some c.in-Some.file.now = sym (c.in-Some.ensures ∙ ap (λ z. slice_get z c.loop-c.c) c.program-program.ensures) in
    let l = first_in c.args.lookup.now.resolver.now c.loop-c.c c.in-Some.file.now e in
    let q = c.loop-c.invariant.first in
    let few = c.requires.few in
    omega arith

pub overflow_cast-first : goal.overflow_cast-first
overflow_cast-first c =
    let e : slice_get c.args.lookup.now.resolver.now c.loop-c.c ≡ Some c.in-Some.file.now = sym (c.in-Some.ensures ∙ ap (λ z. slice_get z c.loop-c.c) c.program-program.ensures) in
    let l = first_in c.args.lookup.now.resolver.now c.loop-c.c c.in-Some.file.now e in
    let few = c.requires.few in
    omega (arith, c.len.ensures)

pub overflow_add-first : goal.overflow_add-first
overflow_add-first c =
    let e : slice_get c.args.lookup.now.resolver.now c.loop-c.c ≡ Some c.in-Some.file.now = sym (c.in-Some.ensures ∙ ap (λ z. slice_get z c.loop-c.c) c.program-program.ensures) in
    let l = first_in c.args.lookup.now.resolver.now c.loop-c.c c.in-Some.file.now e in
    let q = c.loop-c.invariant.first in
    let few = c.requires.few in
    omega (arith, c.len.ensures)

pub loop-c-preserved : goal.loop-c-preserved
loop-c-preserved c =
    let all : List ClassFile = c.args.lookup.now.resolver.now in
    let f : ClassFile = c.in-Some.file.now in
    let e : slice_get all c.loop-c.c ≡ Some f = sym (c.in-Some.ensures ∙ ap (λ z. slice_get z c.loop-c.c) c.program-program.ensures) in
    let q = c.loop-c.invariant.first in
    let more = first_more all c.loop-c.c f e in
    let g : ℕ → ClassFile → List Placing = λ k x. class_targets (seen_lookup c.args.lookup.now) (first_method all k) x in
    let own : class_targets (seen_lookup c.args.lookup.now) c.loop-c.first f ≡ g c.loop-c.c f = ap (λ n. class_targets (seen_lookup c.args.lookup.now) n f) q in
    let step = numbered_more_at g all c.loop-c.c f _ c.loop-c.targets (class_targets (seen_lookup c.args.lookup.now) c.loop-c.first f) e c.loop-c.invariant.targets own in
    record {
      first = omega (arith, c.len.ensures);
      targets = step ∙ ap (λ z. z ++ numbered g (c.loop-c.c + 1) (drop (c.loop-c.c + 1) all)) (sym c.in_ok-add_class.ensures);
    }
