use Rattle.std.proofs.Common.{◌++◌, ap, ◌∙◌}
use Rattle.link_members.specs.declared.declarations.Declared.{Declared}
use Rattle.link_members.specs.Declarations.{methods_at, signed_if, signed_one}
use Rattle.link_members.proofs.DeclaredLaws.{methods_more}
use Rattle.link_members.proofs.declarations.add_methods.Goals as goal

pub loop-method-preserved : goal.loop-method-preserved
loop-method-preserved c = λ k.
    let now = methods_at c.loop-method.methods.entries k in
    let one : Declared = record { class = c.args.class; flags = c.method-item.result.flags } in
    methods_more (signed_one c.args.names.now k c.args.class c.args.file.now) c.as_slice-added.result.now c.loop-method.method-index c.method-item.result now (methods_at c.add_signed.new.methods.entries k) _ c.loop-method-test.true c.method-item.is (c.in_ok-add_signed.ensures k ∙ ap (λ o. now ++ signed_if o one k) c.sign_of-sign.ensures) (c.loop-method.invariant k)
