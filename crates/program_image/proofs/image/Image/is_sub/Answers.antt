use Rattle.std.proofs.Common.{◌∙◌, ap, subst}
use Rattle.std.specs.Prelude.{IsTrue, ◌↔◌}
use Rattle.program_image.specs.Subclass.{IsSub, is_sub_of}
use Rattle.program_image.proofs.SubLaws.{sub_told}
use Rattle.program_image.proofs.image.Image.is_sub.Goals as goal

pub returns-clause-relation : goal.returns-clause-relation
returns-clause-relation c =
    let classes = ap (λ p. p.classes) c.self.view_is in
    let told = sub_told c.self.inside.classes c.self.inside.ancestry.ranks c.args.low c.args.high c.is_below.result c.self.invariant.ancestry.ranked (c.is_below.ensures ∙ ap (λ cs. is_sub_of cs c.args.low c.args.high) c.as_slice.ensures) in
    subst (λ cs. IsTrue c.is_below.result ↔ IsSub cs c.args.low c.args.high) classes told
