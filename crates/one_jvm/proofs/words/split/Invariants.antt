use Rattle.one_jvm.proofs.WordLemmas.{Splits}
use Rattle.one_jvm.proofs.words.split.Given as goal

-- whatever comes behind the characters so far
abbrev pub invariant-loop-c : goal.invariant-loop-c
invariant-loop-c l = Splits l.strings l.last l.yielded
