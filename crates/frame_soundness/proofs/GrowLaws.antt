-- Frames that fit still fit when objects are made, and none goes.
use Rattle.std.proofs.Common.{◌≡◌, refl, ℕ, Bool, true, List, [], ◌∷◌, Option, Some, None}
use Rattle.jvm_base.specs.Words.{from}
use Rattle.jvm_base.specs.declared.frame.Frame.{Frame}
use Rattle.jvm_base.specs.declared.name.Name.{Name}
use Rattle.jvm_base.specs.declared.value.Value.{Value}
use Rattle.jvm_base.specs.declared.value.Value.TheVariants.{Int, Long, Ref, Null}
use Rattle.program_image.specs.Program.{Program}
use Rattle.flow_types.specs.declared.flow_type.FlowType.{FlowType}
use Rattle.flow_types.proofs.ListLaws.{and_parts, and_both}
use Rattle.frame_soundness.specs.AcceptedProgram.{Types}
use Rattle.frame_soundness.specs.Frames.{FrameFits}
use Rattle.frame_soundness.specs.Values.{is_there, all_held}

-- what is there stays
abbrev pub Grows : (Name → Bool) → (Name → Bool) → Type 0
Grows there more = (n : Name) → there n ≡ true → more n ≡ true

pub value-grows : (there more : Name → Bool) (v : Value) → Grows there more → is_there there v ≡ true → is_there more v ≡ true
value-grows there more (Ref n) g h = g n h
value-grows there more (Int a) g h = refl
value-grows there more (Long a) g h = refl
value-grows there more Null g h = refl

module _ (image : Program) (there more : Name → Bool) (g : Grows there more) where
  pub held-grows : (m : ℕ) (vs : List Value) (ts : List FlowType) → all_held image m there vs ts ≡ true → all_held image m more vs ts ≡ true
  held-grows m [] [] h = refl
  held-grows m (v ∷ vs) (t ∷ ts) h =
      let (p, q) = and_parts _ _ h in let (x, y) = and_parts _ _ p in
      and_both _ _ (and_both _ _ (value-grows there more v g x) y) (held-grows m vs ts q)
  held-grows m [] (t ∷ ts) h = absurd cc
  held-grows m (v ∷ vs) [] h = absurd cc

  lock-grows : (o : Option Name) → from true there o ≡ true → from true more o ≡ true
  lock-grows None h = refl
  lock-grows (Some n) h = g n h

  pub frame-grows : (types : Types) (f : Frame) → FrameFits image types there f → FrameFits image types more f
  frame-grows types f s = record {
    code = s.code;
    is_code = s.is_code;
    room = s.room;
    work = s.work;
    is_typed = s.is_typed;
    fits = record { locals_held = held-grows f.method f.locals s.work.locals s.fits.locals_held; stack = record { held = held-grows f.method f.stack.values s.work.stack s.fits.stack.held; operands = s.fits.stack.operands } };
    locked = s.locked;
    lock = lock-grows f.lock s.lock;
  }
