-- Which class files are accepted as a program: they are linked, and each method with code has a typing.
use Rattle.std.specs.Prelude.{◌≡◌, ℕ, ◌<◌, List, [], length, slice_get, Option, Some, Result, Ok, Err}
use Rattle.class_format.specs.declared.class.ClassFile.{ClassFile}
use Rattle.class_link.specs.Linked.{linked}
use Rattle.class_link.specs.Refusals.{link_refusals}
use Rattle.code_table.specs.declared.code.Code.{Code}
use Rattle.program_image.specs.Handlers.{code_of}
use Rattle.program_image.specs.Program.{Program}
use Rattle.flow_types.specs.declared.flow_frame.FlowFrame.{FlowFrame}
use Rattle.flow_verifier.specs.Methods.{method_of, IsVerifiable}
use Rattle.flow_verifier.specs.Typing.{IsTyping, Judged}
use Rattle.flow_verifier.specs.declared.answer.FlowErr.{FlowErr}
use Rattle.flow_verifier.specs.declared.answer.VerifyErr.{VerifyErr}
use Rattle.flow_verifier.specs.declared.answer.VerifyErr.TheVariants.{Flow, NoMemory}
use Rattle.acceptance.specs.declared.accepting.Rejection.{Rejection}
use Rattle.acceptance.specs.declared.accepting.Rejection.TheVariants as rejection

-- the method of a number has code
abbrev pub HasCode : Program → ℕ → Type 0
HasCode p n = (c : Code) × (code_of p n ≡ Some c)

-- it has a typing
abbrev pub HasTyping : Program → ℕ → Type 0
HasTyping p n = (fs : List (Option FlowFrame)) × IsTyping p (method_of p n) fs

-- each method with code below a number has one
abbrev pub AreTyped : Program → ℕ → Type 0
AreTyped p n = (m : ℕ) → m < n → HasCode p m → HasTyping p m

-- the first method that has none, with the first rule that its least closed assignment breaks
pub record IsFirstRefused (p : Program) (e : FlowErr) : Type 0 where
  pub has_code : HasCode p e.method
  pub before : AreTyped p e.method
  pub here : Judged p (method_of p e.method) (Err (Flow e))

-- all methods have a typing, or the first that has none is told
abbrev pub AreJudged : {A : Type 0} → Program → ℕ → Result A VerifyErr → Type 0
AreJudged p n (Ok x) = AreTyped p n
AreJudged p n (Err NoMemory) = Unit {0}
AreJudged p n (Err (Flow e)) = IsFirstRefused p e

-- each method with code may be verified
abbrev pub AreVerifiable : Program → Type 0
AreVerifiable p = (n : ℕ) → HasCode p n → IsVerifiable p n

-- ---- class files

-- linking refuses nothing of them with this main class, and each method with code has a typing: those
-- of the boot classes too
pub record AreAccepted (files : List ClassFile) (main : List ℕ) : Type 0 where
  pub links : link_refusals files main ≡ []
  pub typed : AreTyped (linked files main) (length (linked files main).methods)

-- linking refuses nothing of them, but a method has no typing; this is told of the first
pub record AreUntyped (e : FlowErr) (files : List ClassFile) (main : List ℕ) : Type 0 where
  pub links : link_refusals files main ≡ []
  pub first : IsFirstRefused (linked files main) e

-- why they aren't accepted: the first refusal of linking, else that of the first method without a
-- typing; want of memory may be answered at any time
abbrev pub AreRejected : List ClassFile → List ℕ → Rejection → Type 0
AreRejected files main (rejection.Link e) = slice_get (link_refusals files main) 0 ≡ Some e
AreRejected files main (rejection.Flow e) = AreUntyped e files main
AreRejected files main rejection.NoMemory = Unit {0}

-- what accepting them answers: their image, or why they aren't accepted
abbrev pub IsAcceptance : List ClassFile → List ℕ → Result Program Rejection → Type 0
IsAcceptance files main (Ok image) = (image ≡ linked files main) × AreAccepted files main
IsAcceptance files main (Err e) = AreRejected files main e
