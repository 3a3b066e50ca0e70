use Rattle.std.proofs.Common.{ℕ, ◌<◌, get_or}
use Rattle.class_format.specs.Meaning.{FitsLink}
use Rattle.class_format.proofs.formed.are_links.Given as goal

abbrev pub invariant-loop-class : goal.invariant-loop-class
invariant-loop-class l = (k : ℕ) (d : ℕ) → k < l.class-index → FitsLink l.texts (get_or l.classes k d)
