use Rattle.constant_pool.specs.Facts.Kinds.{kind_of}
use Rattle.constant_pool.proofs.Filled.{IsFilled}
use Rattle.constant_pool.proofs.text_facts.fill_kinds.Given as goal

abbrev pub invariant-loop-index : goal.invariant-loop-index
invariant-loop-index l = IsFilled kind_of (λ kind. kind) l.pool l.kinds l.index
