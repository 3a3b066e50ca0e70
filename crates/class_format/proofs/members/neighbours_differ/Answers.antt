use Rattle.std.proofs.Common.{◌≡◌, ◌-◌, ◌∙◌, get_or, true, false, refl, sym, arith}
use Rattle.std.proofs.lemmas.Map.Keys.{apart_from_distinct}
use Rattle.class_format.proofs.KeyLaws.{key_eq, key_eq-is, distinct_neighbours}
use Rattle.class_format.proofs.members.neighbours_differ.Goals as goal

pub returns-then-eq : goal.returns-then-eq
returns-then-eq c =
    let later = c.loop-later.later in
    let one = get_or c.args.keys.now (later - 1) (0, 0) in
    let next = get_or c.args.keys.now later (0, 0) in (
      λ t. absurd cc,
      λ h.
          let other = apart_from_distinct key_eq c.args.keys.now (later - 1) later (0, 0) h (omega (arith, c.loop-later.auto.later)) c.loop-later-test.true in
          let contradiction : true ≡ false = sym c.if-eq.true ∙ c.eq.ensures ∙ sym (key_eq-is one next) ∙ other in
          absurd cc,
    )

pub returns : goal.returns
returns c = (λ t. distinct_neighbours c.args.keys.now c.loop-later.later c.requires c.loop-later-test.false c.loop-later.invariant, λ h. refl)
