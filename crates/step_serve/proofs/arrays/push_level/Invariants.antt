use Rattle.std.proofs.Common.{◌≡◌, ◌+◌, ◌*◌, ◌-◌, ◌∷◌, ◌++◌, map}
use Rattle.machine_state.specs.Making.{arrays}
use Rattle.machine_state.specs.declared.served.Effect.TheVariants as effect
use Rattle.step_serve.proofs.arrays.push_level.Given as goal

abbrev pub invariant-loop-place : goal.invariant-loop-place
invariant-loop-place l =
    l.effects ++ map (λ o. effect.Made o.0 o.1) (arrays l.image l.level.node l.level.class (l.level.count - l.place) (l.level.index + l.place) (l.level.index + l.level.count + l.place * l.size) (l.size ∷ l.below))
    ≡ l.initial.effects ++ map (λ o. effect.Made o.0 o.1) (arrays l.image l.level.node l.level.class l.level.count l.level.index (l.level.index + l.level.count) (l.size ∷ l.below))
