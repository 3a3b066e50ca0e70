use Rattle.std.proofs.Common.{ℕ, ◌∙◌, MatchOption, sym, subst}
use Rattle.hierarchy.specs.Hierarchy.{IsWithin, IsRanked, Under}
use Rattle.program_image.proofs.Rows.{within_plain, ranked_of}
use Rattle.program_image.proofs.ancestry.Ancestry.new.Goals as goal

pub closure-requires-clause-within : goal.closure-requires-clause-within
closure-requires-clause-within c = subst IsWithin (sym (c.as_slice-2.ensures ∙ c.in_ok-rows.ensures)) (within_plain c.args.classes.now c.requires.within)

pub closure-requires-clause-ranked : goal.closure-requires-clause-ranked
closure-requires-clause-ranked c =
    let whole = c.as_slice.ensures ∙ c.in_ok-whole.ensures in
    let rows = c.as_slice-2.ensures ∙ c.in_ok-rows.ensures in
    let told = subst (λ o. MatchOption o ((n : ℕ) × Under c.as_slice.result.now n n) (λ ranks. IsRanked c.as_slice.result.now ranks)) c.in-Some.is c.in_ok-ranks.ensures in
    subst (λ z. IsRanked c.as_slice-2.result.now z) (sym c.as_slice-3.ensures) (ranked_of c.args.classes.now c.as_slice.result.now c.as_slice-2.result.now c.in-Some.ranks whole rows told)
