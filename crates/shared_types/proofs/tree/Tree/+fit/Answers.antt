use Rattle.std.proofs.Common.{◌≡◌, ◌∙◌, sym, length}
use Rattle.flow_types.specs.Tree.{superclasses}
use Rattle.shared_types.specs.Trees.{types}
use Rattle.shared_types.proofs.Laws.{fit_first_top, top_fits_first, length_top}
use Rattle.shared_types.proofs.tree.Tree.+fit.Goals as goal

pub returns-in-Unusable : goal.returns-in-Unusable
returns-in-Unusable t c =
    let e : length (types c.args.self.now) ≡ c.in-Unusable.field-0 = (rw c.in-Unusable.is at c.requires.alike) ∙ length_top c.in-Unusable.field-0 in
    rw c.in-Unusable.is (sym (fit_first_top (superclasses c.args.image.now) c.args.n c.in-Unusable.field-0 (types c.args.self.now) e))

pub returns-in-Unusable-self : goal.returns-in-Unusable-self
returns-in-Unusable-self t c =
    let e : c.in-Unusable-self.field-0 ≡ length (types c.args.high.now) = sym (length_top c.in-Unusable-self.field-0) ∙ (rw c.in-Unusable-self.is at c.requires.alike) in
    rw c.in-Unusable-self.is (c.are_unusable.ensures ∙ sym (top_fits_first (superclasses c.args.image.now) c.args.n c.in-Unusable-self.field-0 (types c.args.high.now) e))
