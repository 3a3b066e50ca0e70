-- Handlers in a tree.
use Rattle.std.specs.Prelude.{ℕ, ◌≤◌, Bool, nat_le, nat_lt, ◌&&◌, List, [], ◌∷◌, ◌++◌}
use Rattle.flow_verifier.specs.declared.method.Handler.{Handler}
use Rattle.flow_verifier.specs.declared.handler_tree.Span.{Span}
use Rattle.flow_verifier.specs.declared.handler_tree.HandlerTree.{HandlerTree}
use Rattle.flow_verifier.specs.declared.handler_tree.HandlerTree.TheVariants.{Nothing, One, Pair'}

-- the handlers in order
abbrev pub handlers_in : HandlerTree → List Handler
handlers_in Nothing = []
handlers_in (One h) = h ∷ []
handlers_in (Pair' span p first q second) = handlers_in first ++ handlers_in second

-- an address lies in a span
abbrev pub includes : Span → ℕ → Bool
includes span at = nat_le span.start at && nat_lt at span.until

-- the handlers' ranges lie in a span
abbrev pub AreWithin : Span → List Handler → Type 0
AreWithin span [] = Unit {0}
AreWithin span (h ∷ hs) =
    ((span.start ≤ h.start) × (h.until ≤ span.until)) × AreWithin span hs

-- each pair knows a span in which its handlers lie
abbrev pub IsBounded : HandlerTree → Type 0
IsBounded Nothing = Unit {0}
IsBounded (One h) = Unit {0}
IsBounded (Pair' span p first q second) =
    AreWithin span (handlers_in first ++ handlers_in second)
    × (IsBounded first × IsBounded second)
