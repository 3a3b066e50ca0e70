-- Changes that are done together or not at all, whatever memory is there.
use Rattle.std.specs.Prelude.{◌≡◌, ℕ, Bool, true, false, not, List, [], ◌∷◌, filter, Option, Some, None}
use Rattle.jvm_base.specs.Maps.{put}
use Rattle.jvm_base.specs.Names.{name_cmp}
use Rattle.machine_state.specs.declared.state.ThreadState.{ThreadState}
use Rattle.machine_state.specs.State.{Heap, body_at}
use Rattle.machine_state.specs.Changes.{Change, Made, Freed, Sleeps, Becomes, Finished, Lost, with_ended}

-- objects are made, each of a name that is new
abbrev pub AreNew : Heap → List Change → Type 0
AreNew heap [] = Unit {0}
AreNew heap (Made n b ∷ cs) = (body_at heap n ≡ None) × AreNew (put name_cmp n b heap) cs
AreNew heap (c ∷ cs) = ⊥

-- two changes of one step: a class fails with a new exception; a lock is freed by who falls asleep on
-- it; a thread ends with an exception; or both are new objects
abbrev pub ArePair : Heap → Change → Change → Type 0
ArePair heap (Made n b) (Becomes k s) = Unit {0}
ArePair heap (Freed n) (Sleeps l t) = Unit {0}
ArePair heap (Lost u) (Finished t) = Unit {0}
ArePair heap c d = AreNew heap (c ∷ d ∷ [])

-- the changes of one step: at most one, such a pair, or new objects
abbrev pub IsOrderly : Heap → List Change → Type 0
IsOrderly heap [] = Unit {0}
IsOrderly heap (c ∷ []) = Unit {0}
IsOrderly heap (c ∷ d ∷ []) = ArePair heap c d
IsOrderly heap cs = AreNew heap cs

-- ---- the end of a thread, which comes once the thread has gone on

-- a thread ends by the change
abbrev pub is_end : Change → Bool
is_end (Finished t) = true
is_end _ = false

-- the changes but the ends of threads
abbrev pub lasting : List Change → List Change
lasting cs = filter (λ c. not (is_end c)) cs

-- the first thread that ends by these changes
abbrev pub ended_in : List Change → Option ℕ
ended_in [] = None
ended_in (Finished t ∷ cs) = Some t
ended_in (c ∷ cs) = ended_in cs

-- threads after the end of one, if one ends
abbrev pub after_end : Option ℕ → List ThreadState → List ThreadState
after_end None ths = ths
after_end (Some t) ths = with_ended t ths
