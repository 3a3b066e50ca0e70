use Rattle.std.proofs.Common.{ℕ, List, subst}
use Rattle.std.specs.Prelude.{MatchOption}
use Rattle.hierarchy.specs.Hierarchy.{IsRanked, Under}
use Rattle.link_members.proofs.LoopLaws.{no_loops, none_above_itself}
use Rattle.link_members.proofs.loops.check_loops.Goals as goal

pub unreachable-requires : goal.unreachable-requires
unreachable-requires c =
    let rows : List (List ℕ) = c.args.rows.now in
    let loop = subst (λ o. MatchOption o ((x : ℕ) × Under rows x x) (λ ranks. IsRanked rows ranks)) c.in-None.is c.in_ok-ranks.ensures in
    none_above_itself rows loop.0 c.args.first c.args.files.now c.requires.within c.requires.falling c.requires.files_in loop.1 c.in_ok-check_each-in-None.ensures

pub returns-clause-answer : goal.returns-clause-answer
returns-clause-answer c =
    let rows : List (List ℕ) = c.args.rows.now in
    let ranked = subst (λ o. MatchOption o ((x : ℕ) × Under rows x x) (λ ranks. IsRanked rows ranks)) c.in-Some.is c.in_ok-ranks.ensures in
    no_loops rows c.in-Some.ranks c.args.first c.args.files.now ranked
