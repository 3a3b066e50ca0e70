use Rattle.one_jvm.specs.Steps.Parts.{asked_by}
use Rattle.one_jvm.proofs.LoadLemmas.{GoesOn}
use Rattle.one_jvm.proofs.loading.load.Given as goal

abbrev pub invariant-loop-file : goal.invariant-loop-file
invariant-loop-file g l =
    GoesOn (g.S.Shelf.files l.fn.shelf) (asked_by l.request) l.file l.text.items l.classes (g.S.Shelf.files l.shelf) (g.S.Shelf.faults l.fn.shelf) (g.S.Shelf.faults l.shelf)
