use Rattle.std.proofs.Common.{◌≡◌, ℕ, ◌+◌, ◌<◌, ◌≤◌, List, [], ◌∷◌, ◌++◌, length, ap, sym, subst, ◌∙◌, Result, false, rules, arith}
use Rattle.class_format.specs.declared.class.ClassFile.{ClassFile}
use Rattle.one_jvm.specs.declared.loading.Loaded.{Loaded}
use Rattle.one_jvm.specs.declared.outcome.Refusal.{Refusal}
use Rattle.one_jvm.specs.Steps.Loading.{HasLoaded, first_place, Loads}
use Rattle.one_jvm.specs.Steps.Parts.{asked_by}
use Rattle.one_jvm.proofs.LoadLemmas.{named_at, one_read, reads, breaks, not_order, same_failure}
use Rattle.one_jvm.proofs.loading.load.Goals as goal

pub returns-in_err-class-clause-answer : goal.returns-in_err-class-clause-answer
returns-in_err-class-clause-answer g c =
    let names : List (List ℕ) = (asked_by c.args.request.now).files in
    let lt : c.loop-file.file < length names = omega arith in
    let told = g.S.Shelf.files c.args.shelf.now in
    let files = c.loop-file.invariant.files in
    let begin : c.first_place-file.result ≡ first_place (asked_by c.args.request.now).command = c.first_place-file.ensures ∙ ap first_place c.command.ensures in
    let first : first_place (asked_by c.args.request.now).command ≤ c.loop-file.file = subst (λ (n : ℕ). n ≤ c.loop-file.file) begin c.loop-file.auto.file in
    same_failure told (asked_by c.args.request.now) (g.S.Shelf.faults c.args.shelf.now) (g.S.Shelf.faults c.read_file.new.shelf) c.in_err-class.field-0.0 c.from_residual-in_err-class.result (λ (r : Result Loaded Refusal). Loads told (asked_by c.args.request.now) (g.S.Shelf.faults c.args.shelf.now) (g.S.Shelf.faults c.read_file.new.shelf) r) (λ d h. h) c.from_residual-in_err-class.ensures.1
    (breaks told (asked_by c.args.request.now) c.loop-file.file c.file.result.now c.loop-file.classes false (named_at names c.loop-file.file c.file.result.now lt c.file.ensures) (reads told (asked_by c.args.request.now) c.loop-file.file c.in_ok-text.text.items c.loop-file.classes c.loop-file.invariant.loaded) (not_order (asked_by c.args.request.now).command c.loop-file.file first) (g.S.Shelf.faults c.args.shelf.now) (g.S.Shelf.faults c.loop-file.shelf) (g.S.Shelf.faults c.read_file.new.shelf) c.in_err-class.field-0.0 c.loop-file.invariant.later (rw files at c.in_err-class.ensures.answer))

pub loop-file-preserved : goal.loop-file-preserved
loop-file-preserved g c =
    let names : List (List ℕ) = (asked_by c.args.request.now).files in
    let lt : c.loop-file.file < length names = omega arith in
    let told = g.S.Shelf.files c.args.shelf.now in
    let files = c.loop-file.invariant.files in
    let begin : c.first_place-file.result ≡ first_place (asked_by c.args.request.now).command = c.first_place-file.ensures ∙ ap first_place c.command.ensures in
    let first : first_place (asked_by c.args.request.now).command ≤ c.loop-file.file = subst (λ (n : ℕ). n ≤ c.loop-file.file) begin c.loop-file.auto.file in
    let pushed : c.push.new.self ≡ c.loop-file.classes ++ c.in_ok-class.class ∷ [] = search rules in
    record {
      loaded = subst (λ (classes : List ClassFile). HasLoaded told (asked_by c.args.request.now) (c.loop-file.file + 1) c.in_ok-text.text.items classes) (sym pushed) (one_read told (asked_by c.args.request.now) c.loop-file.file c.file.result.now c.in_ok-text.text.items c.loop-file.classes c.in_ok-class.class (named_at names c.loop-file.file c.file.result.now lt c.file.ensures) first c.loop-file.invariant.loaded (rw files at c.in_ok-class.ensures.answer));
      files = c.in_ok-class.ensures.files ∙ files;
      later = omega (arith, c.in_ok-class.ensures.later, c.loop-file.invariant.later);
    }
