-- Calls on a node's classes, one after another, and the law that each class is run once.
use Rattle.std.specs.Prelude.{ℕ, ◌+◌, ◌≤◌, ◌==◌, Bool, true, false, ◌&&◌, if◌then◌else◌, List, [], ◌∷◌, Option, Some}
use Rattle.jvm_base.specs.Words.{from}
use Rattle.machine_state.specs.declared.state.ClassState.TheVariants as state
use Rattle.class_init.specs.Classes.{Classes, becomes, woken, told, asked}
use Rattle.class_init.specs.declared.classes.Asked.{Asked}
use Rattle.class_init.specs.declared.classes.Asked.TheVariants as answer

-- a thread asks for a class; its initialiser ends well, or fails; one queued for it is woken
pub data Call : Type 0 where
  Ask : ℕ → ℕ → Call
  Done : ℕ → Call
  Fail : ℕ → Call
  Wake : ℕ → Call

-- the classes after the call
abbrev pub after : Call → Classes → Classes
after (Ask t c) m = from m (asked t c m) (told t c m)
after (Done c) m = becomes c state.Done m
after (Fail c) m = becomes c state.Failed m
after (Wake c) m = woken c m

-- the thread is told to run the initialiser
abbrev pub is_run : Option Asked → Bool
is_run (Some answer.Run) = true
is_run _ = false

-- by this call a thread is told to run the initialiser of this class
abbrev pub begins : ℕ → Call → Classes → Bool
begins c (Ask t d) m = d == c && is_run (told t d m)
begins c k m = false

-- how often that comes in all of the calls
abbrev pub run_count : ℕ → List Call → Classes → ℕ
run_count c [] m = 0
run_count c (k ∷ ks) m = (if begins c k m then 1 else 0) + run_count c ks (after k m)

-- it comes once at most
abbrev pub RunOnceLaw : Type 0
RunOnceLaw = (c : ℕ) (calls : List Call) (m : Classes) → run_count c calls m ≤ 1
