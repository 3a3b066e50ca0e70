-- A method as the verifier sees it: its entry and its handlers, by places of instructions.
use Rattle.std.specs.Prelude.{◌≡◌, ◌<◌, ◌^◌, ℕ, zero, suc, ◌+◌, Bool, false, ◌==◌, ◌&&◌, not, nat_lt, if◌then◌else◌, List, [], ◌∷◌, ◌++◌, map, length, slice_get, Option, Some}
use Rattle.jvm_base.specs.Words.{from}
use Rattle.jvm_base.specs.declared.code_item.TableItem.{TableItem}
use Rattle.code_table.specs.declared.code.Placed.{Placed}
use Rattle.code_table.specs.declared.code.Code.{Code}
use Rattle.program_image.specs.declared.info.Target.{Target}
use Rattle.program_image.specs.declared.info.Target.TheVariants as target
use Rattle.program_image.specs.Program.{Program, target_of}
use Rattle.program_image.specs.Handlers.{code_of}
use Rattle.flow_types.specs.Tree.{superclasses}
use Rattle.flow_types.specs.TypeLists.{AreTypes}
use Rattle.flow_types.specs.Frames.{Room}
use Rattle.flow_types.specs.declared.flow_type.FlowType.{FlowType}
use Rattle.flow_types.specs.declared.flow_type.FlowType.TheVariants as flow
use Rattle.instruction_table.specs.ClassTypes.{plain, desc_type, owner_of, args_of, is_initialiser, is_static_method}
use Rattle.instruction_table.specs.Rows.{row, jumps, throwable}
use Rattle.instruction_table.specs.Working.{site_of}
use Rattle.instruction_table.specs.Under.{IsRow, IsSite}
use Rattle.flow_verifier.specs.declared.method.Handler.{Handler}
use Rattle.flow_verifier.specs.declared.method.Method.{Method}

-- the instructions of a method, in order of their addresses
abbrev pub ops_of : Program → ℕ → List Placed
ops_of p n = from [] (λ c. c.ops) (code_of p n)

-- addresses rise from one instruction to the next
abbrev pub Rises : List Placed → Type 0
Rises ops = (i j : ℕ) (a b : Placed) →
    slice_get ops i ≡ Some a → slice_get ops j ≡ Some b → i < j → a.at < b.at

-- the place of the instruction at an address: behind those with a lower one
unfoldable pub place_of : List Placed → ℕ → ℕ
place_of [] at = 0
place_of (o ∷ ops) at = if nat_lt o.at at then suc (place_of ops at) else 0

-- ---- entry (JVMS2 4.9.2)

-- a constructor's receiver is uninitialised, but for Object's
abbrev pub begins_fresh : Program → ℕ → Bool
begins_fresh p n = is_initialiser p n && not (owner_of p n == 0)

-- the type of the receiver, in the first local; a static method has none
abbrev pub receiver : Program → ℕ → List FlowType
receiver p n =
    if is_static_method p n then []
    else (if begins_fresh p n then flow.FreshThis else flow.Class (plain p (owner_of p n))) ∷ []

-- a long takes the next local too
abbrev pub with_half : FlowType → List FlowType
with_half flow.Long = flow.Long ∷ flow.High ∷ []
with_half t = t ∷ []

-- types in their locals
abbrev pub spread : List FlowType → List FlowType
spread [] = []
spread (t ∷ ts) = with_half t ++ spread ts

-- the types of the receiver and of the parameters, in their locals
abbrev pub parameters : Program → ℕ → List FlowType
parameters p n = spread (receiver p n ++ map (desc_type p) (args_of p n))

-- so many locals, of which those that no parameter takes are Unusable; what lies past them is left out
abbrev pub fitted : ℕ → List FlowType → List FlowType
fitted zero ts = []
fitted (suc n) [] = flow.Unusable ∷ fitted n []
fitted (suc n) (t ∷ ts) = t ∷ fitted n ts

-- ---- handlers (JVMS2 4.7.3)

-- an entry for no class takes all that is thrown; one for a class that isn't known takes nothing
abbrev pub class_caught : Program → Option Target → ℕ
class_caught p (Some (target.Class c)) = plain p c
class_caught p _ = 0

-- the class of what the entry of a place in the table takes: its target stands behind those of the
-- code's addresses
abbrev pub handler_class : Program → ℕ → ℕ → TableItem → ℕ
handler_class p n i e =
    if e.class == 0 then throwable else class_caught p (target_of p n (65536 + i))

-- an entry of the table as a handler
abbrev pub handler : Program → ℕ → List Placed → ℕ → TableItem → Handler
handler p n ops i e = record {
  start = e.start;
  until = e.end;
  to = place_of ops e.handler;
  class = handler_class p n i e;
}

-- the entries of the table as handlers, of which the first has the place i
abbrev pub handlers_from :
    Program → ℕ → List Placed → ℕ → List TableItem → List Handler
handlers_from p n ops i [] = []
handlers_from p n ops i (e ∷ es) =
    handler p n ops i e ∷ handlers_from p n ops (i + 1) es

-- ---- methods

-- a method with this code, as it is verified
abbrev pub method_with : Program → ℕ → Code → Method
method_with p n c = record {
  number = n;
  max_stack = c.max_stack;
  entry = fitted c.max_locals (parameters p n);
  fresh = not (is_static_method p n) && begins_fresh p n;
  crowded = nat_lt c.max_locals (length (parameters p n));
  handlers = handlers_from p n c.ops 0 c.table;
}

-- a method without code
abbrev pub no_method : ℕ → Method
no_method n = record {
  number = n;
  max_stack = 0;
  entry = [];
  fresh = false;
  crowded = false;
  handlers = [];
}

-- the method of a number, as it is verified
abbrev pub method_of : Program → ℕ → Method
method_of p n = from (no_method n) (method_with p n) (code_of p n)

-- the room of a method's frames; one place more is for a handler's exception
abbrev pub room_of : Method → Room
room_of m = record { locals = length m.entry; stack = m.max_stack + 1 }

-- what decoding and linking owe to a method that is verified
pub record IsMethod (p : Program) (m : Method) : Type 0 where
  pub within : m.number < length p.methods
  pub some : 0 < length (ops_of p m.number)
  pub few : length (ops_of p m.number) < 2 ^ 32
  pub throwable_there : throwable < length (superclasses p)
  pub site : IsSite (site_of p m.number)
  pub rising : Rises (ops_of p m.number)
  pub rows : (i : ℕ) (o : Placed) →
      slice_get (ops_of p m.number) i ≡ Some o →
      IsRow (superclasses p) (row p m.number o.at o.op)
  pub targets : (i k to : ℕ) (o : Placed) →
      slice_get (ops_of p m.number) i ≡ Some o → slice_get (jumps o.op) k ≡ Some to →
      place_of (ops_of p m.number) to < length (ops_of p m.number)
  pub handlers : (i : ℕ) (h : Handler) →
      slice_get m.handlers i ≡ Some h →
      (h.to < length (ops_of p m.number)) × (h.class < length (superclasses p))
  pub entry : AreTypes (superclasses p) m.entry

-- a method with code of which that holds
pub record IsVerifiable (p : Program) (n : ℕ) : Type 0 where
  pub code : Code
  pub has_code : code_of p n ≡ Some code
  pub few_entries : length code.table < 65536
  pub fine : IsMethod p (method_of p n)
