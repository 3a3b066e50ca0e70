-- Frames that fit, as the frame goes on, and after an answer.
use Rattle.std.proofs.Common.{◌≡◌, ◌∙◌, Bool, true, List, Option}
use Rattle.std.specs.Option.{option_to_list}
use Rattle.jvm_base.specs.declared.frame.Frame.{Frame}
use Rattle.jvm_base.specs.declared.name.Name.{Name}
use Rattle.jvm_base.specs.declared.value.Value.{Value}
use Rattle.program_image.specs.Program.{Program}
use Rattle.flow_types.specs.declared.flow_type.FlowType.{FlowType}
use Rattle.instruction_table.specs.declared.work.Work.{Work}
use Rattle.machine_state.specs.Next.{answered}
use Rattle.frame_soundness.specs.AcceptedProgram.{Types, FlowsTo, Accepted}
use Rattle.frame_soundness.specs.Fitting.{Fits}
use Rattle.frame_soundness.specs.Frames.{FrameFits}
use Rattle.frame_soundness.specs.Values.{all_held}
use Rattle.frame_soundness.proofs.HeldLaws.{all-up}

module _ (image : Program) (types : Types) (accepted : Accepted image types) (there : Name → Bool) where
  -- a frame whose values are of the types that are given stands where those flow
  pub arrives-held : (f g : Frame) (w : Work) → FrameFits image types there f → g.method ≡ f.method → g.lock ≡ f.lock → g.stack.room ≡ f.stack.room → all_held image f.method there g.locals w.locals ≡ true → all_held image f.method there g.stack.values w.stack ≡ true → FlowsTo image w (types f.method g.at) → FrameFits image types there g
  arrives-held f g w s m k r hl hs to =
      let fits' : Fits image f.method there g.locals g.stack.values to.work = record {
        locals_held = all-up image accepted.subs.tree f.method there g.locals w.locals to.work.locals hl to.under.locals;
        stack = record { held = all-up image accepted.subs.tree f.method there g.stack.values w.stack to.work.stack hs to.under.stack; operands = to.operands };
      } in
      record {
        code = s.code;
        is_code = rw m s.is_code;
        room = r ∙ s.room;
        work = to.work;
        is_typed = rw m to.is_work;
        fits = rw m fits';
        locked = rw (m, k) s.locked;
        lock = rw k s.lock;
      }

  pub arrives : (f g : Frame) (w : Work) → FrameFits image types there f → g.method ≡ f.method → g.lock ≡ f.lock → g.stack.room ≡ f.stack.room → Fits image f.method there g.locals g.stack.values w → FlowsTo image w (types f.method g.at) → FrameFits image types there g
  arrives f g w s m k r fit to = arrives-held f g w s m k r fit.locals_held fit.stack.held to

  -- a frame that goes on by itself
  pub record GoesOn (f g : Frame) : Type 0 where
    pub fits : FrameFits image types there g
    pub same_method : g.method ≡ f.method
    pub same_phase : g.phase ≡ f.phase

  -- an answer of these types lets the frame go on, whatever objects have been made since
  abbrev pub Answers : Frame → List FlowType → Type 0
  Answers f ts = (more : Name → Bool) → FrameFits image types more f → (v : Option Value) → all_held image f.method more (option_to_list v) ts ≡ true → FrameFits image types more (answered image v f)
