use Rattle.step_complete.proofs.turns.enter.Goals as goal

pub answer-requires : goal.answer-requires
answer-requires c = record {
  whole = c.requires.whole;
  takes = c.requires.takes c.in_default.not-Lock;
}
