use Rattle.std.proofs.Common.{◌≡◌, Bool, true, false, not, refl, sym, ◌∙◌}
use Rattle.link_arrays.proofs.Levels.{levels_stop}
use Rattle.link_arrays.proofs.arrays.Arrays.add_parts.Goals as goal

from_not : (b : Bool) → not b ≡ false → b ≡ true
from_not true e = refl
from_not false e = absurd cc

pub returns-then-not-branch : goal.returns-then-not-branch
returns-then-not-branch c =
    levels_stop c.args.self.now c.loop-dims.self c.add.new.self c.loop-dims.dims c.args.desc.now.dims c.args.desc.now.elem c.requires c.loop-dims.invariant.lower c.loop-dims.invariant.whole
    (from_not _ (sym c.in_ok-add.ensures.fresh ∙ c.if-not-branch.true)) c.in_ok-add.ensures.types
