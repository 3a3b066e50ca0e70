use Rattle.std.proofs.Common.{◌≡◌, ℕ, ◌+◌, ◌++◌, ◌<◌, List, length, get_or, take, drop, ap, sym, ◌∙◌, arith}
use Rattle.class_format.specs.declared.class.MethodItem.{MethodItem}
use Rattle.class_names.specs.Classes.{code_of}
use Rattle.link_rules.specs.Numbers.{map_from}
use Rattle.link_image.specs.Methods.{natives, method_info}
use Rattle.link_image.proofs.Steps.{popped_map, some_left_map, map_more, count_step}
use Rattle.class_format.specs.Flags.{is_native}
use Rattle.program_image.specs.declared.info.MethodInfo.{MethodInfo}
use Rattle.link_image.proofs.methods.add_methods.Goals as goal
use Rattle.link_image.proofs.methods.add_methods.Goals.{in-Some, in-None}

pub method_info-requires-clause-code : goal.method_info-requires-clause-code
method_info-requires-clause-code c =
    let methods : List MethodItem = c.args.file.now.methods in
    let at : c.index-methods-i.result ≡ get_or methods c.loop-i.i c.index-methods-i.result = c.index-methods-i.is ∙ ap (λ z. get_or z c.loop-i.i c.index-methods-i.result) c.as_slice-methods.ensures in
    let n : length c.as_slice-methods.result.now ≡ length methods = ap length c.as_slice-methods.ensures in
    elim c.match-pop.branch [
      | in-Some w ↦ w.code-is ∙ (popped_map (code_of c.args.file.now.pool) methods c.loop-i.codes c.pop.new.self c.loop-i.i w.in-Some.code c.index-methods-i.result (omega arith) at c.loop-i.invariant.codes w.in-Some.ensures).0
      | in-None w ↦ absurd (some_left_map (code_of c.args.file.now.pool) methods c.loop-i.codes c.loop-i.i (omega arith) c.loop-i.invariant.codes w.in-None.ensures.0)
    ]

pub loop-i-preserved : goal.loop-i-preserved
loop-i-preserved c =
    let methods : List MethodItem = c.args.file.now.methods in
    let i : ℕ = c.loop-i.i in
    let item : MethodItem = c.index-methods-i.result in
    let at : item ≡ get_or methods i item = c.index-methods-i.is ∙ ap (λ z. get_or z i item) c.as_slice-methods.ensures in
    let n : length c.as_slice-methods.result.now ≡ length methods = ap length c.as_slice-methods.ensures in
    let inside : i < length methods = omega arith in
    let g : ℕ → MethodItem → MethodInfo = λ j m. method_info c.args.file.now c.args.owner (c.args.before + natives (take j methods)) m in
    let own : c.in_ok-method_info.field-0 ≡ g i (get_or methods i item) = c.in_ok-method_info.ensures ∙ ap (λ k. method_info c.args.file.now c.args.owner k item) c.loop-i.invariant.counted ∙ ap (g i) at in
    let step = map_more g methods i i item _ c.loop-i.infos c.in_ok-method_info.field-0 inside c.loop-i.invariant.infos own in
    record {
      counted = c.count-natives.ensures ∙ count_step (λ (m : MethodItem). is_native m.flags) methods i item c.args.before c.loop-i.natives inside at c.loop-i.invariant.counted;
      codes = elim c.match-pop.branch [
        | in-Some w ↦ (popped_map (code_of c.args.file.now.pool) methods c.loop-i.codes c.pop.new.self i w.in-Some.code item inside at c.loop-i.invariant.codes w.in-Some.ensures).1
        | in-None w ↦ absurd (some_left_map (code_of c.args.file.now.pool) methods c.loop-i.codes i inside c.loop-i.invariant.codes w.in-None.ensures.0)
      ];
      infos = step ∙ ap (λ z. z ++ map_from g (i + 1) (drop (i + 1) methods)) (sym c.in_ok-push.ensures.ok);
    }
