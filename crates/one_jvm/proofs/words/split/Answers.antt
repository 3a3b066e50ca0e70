use Rattle.std.proofs.Common.{◌≡◌, [], ◌∷◌, ◌++◌, sym, ap, ◌∙◌, rules}
use Rattle.std.proofs.lemmas.List.{map-id}
use Rattle.std.proofs.lemmas.Iterator.{YieldsList-from_chars}
use Rattle.std.proofs.lemmas.Iterator.Consumers.{YieldsList-end}
use Rattle.one_jvm.specs.Words.{strings_of}
use Rattle.one_jvm.proofs.WordLemmas.{splits_none, splits_all}
use Rattle.one_jvm.proofs.words.split.Goals as goal

pub returns : goal.returns
returns c =
    let t = YieldsList-end (YieldsList-from_chars c.args.text.now c.utf8.text cc) c.loop-c.yielded _ c.loop-c.yielded_by _ _ c.in-None.is c.next.ensures.steps in
    let pushed : c.push-2.new.self ≡ c.loop-c.strings ++ c.loop-c.last ∷ [] = search rules in
    pushed ∙ splits_all c.loop-c.strings c.loop-c.last c.loop-c.yielded c.loop-c.invariant ∙ ap strings_of (sym (map-id c.loop-c.yielded) ∙ t.0)
