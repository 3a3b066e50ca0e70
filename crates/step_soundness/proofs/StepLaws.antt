-- A sound machine stays sound, and no sound thread is stuck.
use Rattle.std.proofs.Common.{◌≡◌, subst, refl, ℕ, Bool, true, false, List, [], ◌∷◌, Option, Some, None}
use Rattle.std.specs.Prelude.{if◌then◌else◌, nat_lt, slice_get, is_some}
use Rattle.jvm_base.specs.Words.{from}
use Rattle.jvm_base.specs.declared.frame.Frame.{Frame}
use Rattle.jvm_base.specs.declared.frame.Level.{Level}
use Rattle.jvm_base.specs.declared.frame.Level.TheVariants.{Code, Init}
use Rattle.jvm_base.specs.declared.frame.Phase.{Phase}
use Rattle.jvm_base.specs.declared.frame.Phase.TheVariants as phase
use Rattle.jvm_base.specs.declared.name.Name.{Name}
use Rattle.jvm_base.specs.declared.value.Value.{Value}
use Rattle.jvm_base.specs.declared.value.Value.TheVariants.{Ref}
use Rattle.program_image.specs.declared.select.Selected.{Selected}
use Rattle.program_image.specs.declared.select.Selected.TheVariants.{Found, NoBody, NoInterface, NotPublic}
use Rattle.program_image.specs.Program.{Program}
use Rattle.program_image.specs.Selection.{select_of}
use Rattle.instruction_table.specs.ClassTypes.{owner_of}
use Rattle.machine_state.specs.declared.request.Request.TheVariants.{Fault, InitDone}
use Rattle.machine_state.specs.declared.state.Choice.{Choice}
use Rattle.machine_state.specs.declared.state.Mode.{Mode}
use Rattle.machine_state.specs.declared.state.Mode.TheVariants.{Entry, Running, Raising, Waiting, Ended}
use Rattle.machine_state.specs.declared.state.ThreadState.{ThreadState}
use Rattle.machine_state.specs.Calls.{max_depth, calls}
use Rattle.machine_state.specs.Classes.{clinit_of, thread_run}
use Rattle.machine_state.specs.Next.{Next, Calls, Needs, Wants, Stuck, Who, plain, asking}
use Rattle.machine_state.specs.Plan.{frame_plan, running_plan, unwinds, handled, handler_for, raising_plan, runs_thread, entry_plan, plan}
use Rattle.machine_state.specs.PreMade.{holder, arguments}
use Rattle.machine_state.specs.Runs.{any_choice}
use Rattle.machine_state.specs.State.{State, owner_at, waiters_of}
use Rattle.machine_state.specs.Step.{Taken, who, attempt, allowed, granted, taken_by, moved_on, step_of, step}
use Rattle.frame_soundness.specs.AcceptedProgram.{Types, Accepted}
use Rattle.frame_soundness.specs.Frames.{FrameFits}
use Rattle.machine_soundness.specs.Bodies.{there_in}
use Rattle.machine_soundness.specs.Levels.{PhaseFits, LevelsFit, ModeFits, ThreadFits}
use Rattle.machine_soundness.specs.Sound.{Sound, a_holder}
use Rattle.machine_soundness.proofs.ArrayLaws.{arrays-fit}
use Rattle.machine_soundness.proofs.ServeLaws.{serve-fits, retakes-fit}
use Rattle.machine_soundness.proofs.StateLaws.{taken-sound}
use Rattle.step_soundness.specs.Laws.{MovesOn, IsAwake, SoundStepLaw, NeverStuckLaw}
use Rattle.step_soundness.proofs.BodyPlans.{body-fine}
use Rattle.step_soundness.proofs.CallPlans.{IntrinsicsFine, WhoFits}
use Rattle.step_soundness.proofs.IntrinsicPlans.{intrinsics-fine}
use Rattle.step_soundness.proofs.NextLaws.{some_is}
use Rattle.step_soundness.proofs.Requests.{Owes}
use Rattle.step_soundness.proofs.ThreadLaws.{ServesFit, attempt-fits, who-fits}

module _ (image : Program) (types : Types) (accepted : Accepted image types) (m : State) (s : Sound image types m) where
  module _ (intrinsics : (f : Frame) (t : FrameFits image types (there_in m.heap) f) → IntrinsicsFine image types accepted (there_in m.heap) (λ k l. s.premade (holder k) (a_holder k l)) f t) where
    owed-moves : (f : Frame) (n : Next) → Owes image types accepted (there_in m.heap) f n → MovesOn n
    owed-moves f (Wants n) h = h
    owed-moves f Stuck h = h
    owed-moves f _ h = tt

    calls-move : (w : Who) (k : ℕ) (vs : List Value) → MovesOn (calls w k vs)
    calls-move w k vs = by_test (nat_lt w.depth max_depth)
      where
        by_test : (b : Bool) → MovesOn (if b then Calls k vs else Needs (Fault 32))
        by_test true = tt
        by_test false = tt

    running-moves : (w : Who) → WhoFits image (there_in m.heap) w → (ls : List Level) → LevelsFit image types (there_in m.heap) None ls → MovesOn (running_plan image w ls).next
    running-moves w wf [] h = tt
    running-moves w wf (Code f ∷ ls) h = by_phase f.phase f.lock refl h.1.0
      where
        by_phase : (p : Phase) (o : Option Name) → f.lock ≡ o → PhaseFits image (there_in m.heap) None f p → MovesOn (frame_plan image w f p o).next
        by_phase phase.Body o q x = owed-moves f _ (body-fine image types accepted (there_in m.heap) s.premade f h.0 (intrinsics f h.0) w wf)
        by_phase phase.Lock (Some n) q x = tt
        by_phase phase.Lock None q x = let y : false ≡ true = subst (λ z. is_some z ≡ true) q x in absurd cc
        by_phase (phase.Unlock v) o q x = tt
    running-moves w wf (Init k true ∷ ls) h = tt
    running-moves w wf (Init k false ∷ ls) h = by_clinit (clinit_of image k)
      where
        by_clinit : (o : Option ℕ) → MovesOn (from (Needs (InitDone k)) (λ j. calls w j []) o)
        by_clinit None = tt
        by_clinit (Some j) = calls-move w j []

    raising-moves : (e : Name) (ls : List Level) → MovesOn (raising_plan image e ls).next
    raising-moves e [] = tt
    raising-moves e (Code f ∷ ls) = by_handler (handler_for image f e)
      where
        by_phase : (p : Phase) (l : Option Name) → MovesOn (unwinds p l)
        by_phase phase.Body (Some n) = tt
        by_phase phase.Body None = tt
        by_phase phase.Lock l = tt
        by_phase (phase.Unlock v) l = tt

        by_handler : (o : Option ℕ) → MovesOn (from (unwinds f.phase f.lock) (handled f e) o)
        by_handler None = by_phase f.phase f.lock
        by_handler (Some to) = tt
    raising-moves e (Init k b ∷ ls) = tt

    entry-moves : (w : Who) → MovesOn (entry_plan image w).next
    entry-moves w = by_first w.first
      where
        by_selected : (t : Selected) → MovesOn (runs_thread image w t)
        by_selected (Found k) = calls-move w k (Ref w.object ∷ [])
        by_selected NoBody = tt
        by_selected NoInterface = tt
        by_selected NotPublic = tt

        by_first : (b : Bool) → MovesOn (if b then asking (owner_of image image.main) (calls w image.main (Ref (arguments image) ∷ [])) else plain (runs_thread image w (select_of image.classes image.methods w.object.class (thread_run image) false))).next
        by_first true = calls-move w image.main (Ref (arguments image) ∷ [])
        by_first false = by_selected (select_of image.classes image.methods w.object.class (thread_run image) false)

    pub never-stuck : (w : Who) → WhoFits image (there_in m.heap) w → (th : ThreadState) → ThreadFits image types (there_in m.heap) th → IsAwake th.mode → MovesOn (plan image w th.mode th.levels).next
    unfolding plan
    never-stuck w wf th t a = by_mode_of th.mode t.levels a
      where
        by_mode_of : (mode : Mode) → ModeFits image types (there_in m.heap) mode th.levels → IsAwake mode → MovesOn (plan image w mode th.levels).next
        by_mode_of Entry h a = entry-moves w
        by_mode_of Running h a = running-moves w wf th.levels h
        by_mode_of (Raising e) h a = raising-moves e th.levels
        by_mode_of (Waiting n k) h a = absurd a
        by_mode_of Ended h a = absurd a

    pub step-sound : (c : Choice) → ServesFit image m c → (l : State) → step image m c ≡ Some l → Sound image types l
    unfolding step taken_by
    step-sound c serves l e = by_thread (slice_get m.threads c.thread) refl e
      where
        by_allowed : (th : ThreadState) → slice_get m.threads c.thread ≡ Some th → (k : Taken) → attempt image m c th ≡ Some k → (b : Bool) → allowed m c k ≡ b → from None (λ j. Some (moved_on m c.thread th j)) (if b then Some k else None) ≡ Some l → Sound image types l
        by_allowed th q k a false b e = absurd cc
        by_allowed th q k a true b e = subst (λ z. Sound image types z) (some_is e) (taken-sound image types m c.thread th k s q (attempt-fits image types accepted m s c serves intrinsics th (s.threads c.thread th q) k a b))

        by_attempt : (th : ThreadState) → slice_get m.threads c.thread ≡ Some th → (o : Option Taken) → attempt image m c th ≡ o → from None (λ j. Some (moved_on m c.thread th j)) (granted m c o) ≡ Some l → Sound image types l
        by_attempt th q None a e = absurd cc
        by_attempt th q (Some k) a e = by_allowed th q k a (allowed m c k) refl e

        by_thread : (o : Option ThreadState) → slice_get m.threads c.thread ≡ o → step_of image m c o ≡ Some l → Sound image types l
        by_thread None q e = absurd cc
        by_thread (Some th) q e = by_attempt th q (attempt image m c th) refl e

module _ (image : Program) (types : Types) (accepted : Accepted image types) (m : State) (s : Sound image types m) where
  pub all-intrinsics : (f : Frame) (t : FrameFits image types (there_in m.heap) f) → IntrinsicsFine image types accepted (there_in m.heap) (λ k b. s.premade (holder k) (a_holder k b)) f t
  all-intrinsics f t = intrinsics-fine image types accepted (there_in m.heap) (λ k b. s.premade (holder k) (a_holder k b)) f t

  -- what serves is right
  serves-fit : (c : Choice) → ServesFit image m c
  serves-fit c = record {
    requests = λ r ts d a q y. serve-fits image accepted.classes m c accepted.subs s.bodies (arrays-fit image accepted.classes m c accepted.subs s.bodies) c.thread r ts a d q y;
    retaking = λ n k d x q w. retakes-fit image accepted.classes m c accepted.subs s.bodies c.thread n k (owner_at m.monitors n) (waiters_of n m.waiting) x d q w;
  }

pub sound-step : SoundStepLaw
sound-step image types accepted m l c s e = step-sound image types accepted m s (all-intrinsics image types accepted m s) c (serves-fit image types accepted m s c) l e

pub none-stuck : NeverStuckLaw
none-stuck image types accepted m t th s e a =
    let f : ThreadFits image types (there_in m.heap) th = s.threads t th e in
    never-stuck image types accepted m s (all-intrinsics image types accepted m s) (who m.heap t th) (who-fits image types accepted m s (any_choice t) th f) th f a
