-- Typings of decoded methods, all together.
use Rattle.std.proofs.Common.{◌≡◌, ◌∙◌, sym, ap, subst, refl, ℕ, true, List, [], length, Option, Some, None}
use Rattle.std.specs.Prelude.{option_map, option_and_then, ◌∷◌}
use Rattle.std.specs.List.{AllByRecursion}
use Rattle.jvm_base.specs.Words.{from}
use Rattle.code_table.specs.declared.code.Code.{Code}
use Rattle.code_table.specs.declared.code.Placed.{Placed}
use Rattle.code_table.specs.Accepted.{IsEntry}
use Rattle.program_image.specs.Handlers.{code_of, handler_of}
use Rattle.program_image.specs.Program.{Program}
use Rattle.program_image.specs.Words.{instruction_at}
use Rattle.flow_types.specs.Tree.{superclasses}
use Rattle.flow_types.specs.Types.{type_fits}
use Rattle.flow_types.specs.declared.flow_frame.FlowFrame.{FlowFrame}
use Rattle.flow_types.specs.declared.flow_type.FlowType.TheVariants as flow
use Rattle.instruction_table.specs.ClassTypes.{class_type}
use Rattle.instruction_table.specs.Rows.{throwable}
use Rattle.instruction_table.specs.Working.{with_stack}
use Rattle.instruction_table.specs.declared.work.Work.{Work}
use Rattle.flow_verifier.specs.Given.{work_of}
use Rattle.flow_verifier.specs.Methods.{ops_of, place_of, method_with, no_method}
use Rattle.flow_verifier.specs.Typing.{frame_at, IsTyping}
use Rattle.frame_soundness.specs.AcceptedProgram.{Types, FlowsTo, Instruction, Enters, Subs}
use Rattle.typed_code.specs.Framing.{WasDecoded, AreDecoded, HaveTypings, AreKept, FramingLaw}
use Rattle.typed_code.proofs.Addresses.{at_address}
use Rattle.typed_code.proofs.Allowing.{fine_ops}
use Rattle.typed_code.proofs.Typings.{keeps_instruction, keeps_entry, keeps_handler}

module _ (p : Program) (subs : Subs p) (decoded : AreDecoded p) (typings : HaveTypings p) where
  -- frames that are the method's typing, where it has code
  abbrev Framed : ℕ → Type 0
  Framed m = (fs : List (Option FlowFrame)) × ((c : Code) → code_of p m ≡ Some c → IsTyping p (method_with p m c) fs)

  framed : (m : ℕ) → Framed m
  framed m = by_code (code_of p m) refl
    where
      by_code : (o : Option Code) → code_of p m ≡ o → Framed m
      by_code None e = ([], λ c f. absurd (let z : ◌≡◌ {A = Option Code} None (Some c) = sym e ∙ f in cc))
      by_code (Some d) e = (
        (typings m d e).0,
        λ c f. subst (λ (o : Option Code). IsTyping p (from (no_method m) (method_with p m) o) (typings m d e).0) f (typings m d e).1,
      )

  -- the frames of each method, by addresses
  types : Types
  types m at = option_and_then (λ (o : Placed). option_map work_of (frame_at (framed m).0 (place_of (ops_of p m) at))) (instruction_at p m at)

  module _ (m : ℕ) (c : Code) (is_code : code_of p m ≡ Some c) where
    d : WasDecoded c
    d = decoded m c is_code

    typed : (at : ℕ) → types m at ≡ option_and_then (λ (o : Placed). option_map work_of (frame_at (framed m).0 (place_of c.ops at))) (at_address at c.ops)
    unfolding types
    typed at =
        ap (λ (o : Option Code). option_and_then (λ (q : Placed). option_map work_of (frame_at (framed m).0 (place_of (from [] (λ k. k.ops) o) at))) (option_and_then (λ (k : Code). at_address at k.ops) o)) is_code

    entries : AllByRecursion (IsEntry c.ops (length d.item.code)) c.table
    entries = subst (AllByRecursion (IsEntry c.ops (length d.item.code))) (sym d.is_code.table) d.is_code.entries

    instruction : (at : ℕ) (w : Work) → types m at ≡ Some w → Instruction p types m at w
    instruction = keeps_instruction p subs types m c is_code d.item.code d.pool d.is_code.covers d.is_code.lands entries (fine_ops d.pool d.item.code d.bytes 0 c.ops (length d.item.code) d.is_code.covers) (framed m).0 ((framed m).1 c is_code) typed

    entry : Enters p types m c
    entry = keeps_entry p subs types m c is_code d.item.code d.pool d.is_code.covers d.is_code.lands entries (fine_ops d.pool d.item.code d.bytes 0 c.ops (length d.item.code) d.is_code.covers) (framed m).0 ((framed m).1 c is_code) typed

    handler : (at e to : ℕ) (w : Work) → types m at ≡ Some w → handler_of p m at e ≡ Some to → type_fits (superclasses p) (class_type p e) (flow.Class throwable) ≡ true → FlowsTo p (with_stack w (class_type p e ∷ [])) (types m to)
    handler = keeps_handler p subs types m c is_code d.item.code d.pool d.is_code.covers d.is_code.lands entries (fine_ops d.pool d.item.code d.bytes 0 c.ops (length d.item.code) d.is_code.covers) (framed m).0 ((framed m).1 c is_code) typed

  -- a method without code has no frames
  coded : (m at : ℕ) (w : Work) → types m at ≡ Some w → (c : Code) × (code_of p m ≡ Some c)
  unfolding types
  coded m at w e = by_code (code_of p m) refl
    where
      by_code : (o : Option Code) → code_of p m ≡ o → (c : Code) × (code_of p m ≡ Some c)
      by_code (Some c) q = (c, q)
      by_code None q =
          let z : types m at ≡ None = ap (λ (o : Option Code). option_and_then (λ (q : Placed). option_map work_of (frame_at (framed m).0 (place_of (ops_of p m) at))) (option_and_then (λ (k : Code). at_address at k.ops) o)) q in
          let y : ◌≡◌ {A = Option Work} None (Some w) = sym z ∙ e in absurd cc

  kept : AreKept p types
  kept = record {
    instructions = λ m at w e. let (c, q) = coded m at w e in instruction m c q at w e;
    entries = λ m c q. entry m c q;
    handlers = λ m at e to w g h t. let (c, q) = coded m at w g in handler m c q at e to w g h t;
  }

-- typings are frames that are kept to
pub framing_law : FramingLaw
framing_law p subs decoded typings = (types p subs decoded typings, kept p subs decoded typings)
