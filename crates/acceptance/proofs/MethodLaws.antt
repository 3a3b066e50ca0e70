-- A method with decoded code, in a program whose numbers fit, is as the verifier wants it.
use Rattle.std.proofs.Common.{◌≡◌, ◌∙◌, sym, ap, subst, refl, ℕ, zero, suc, ◌+◌, ◌<◌, ◌≤◌, ◌^◌, true, false, Bool, List, [], ◌∷◌, ◌++◌, length, map, slice_get, Option, Some, None, ◌==◌, if◌then◌else◌, arith}
use Rattle.std.specs.List.{AllByRecursion, AllPass}
use Rattle.std.proofs.lemmas.Option.{slice_get_within, get_or_from_slice_get}
use Rattle.std.proofs.lemmas.List.Elements.{All-get_or}
use Rattle.jvm_base.specs.Words.{from}
use Rattle.jvm_base.specs.declared.code_item.CodeItem.{CodeItem}
use Rattle.jvm_base.specs.declared.code_item.TableItem.{TableItem}
use Rattle.jvm_base.specs.declared.desc.Desc.{Desc}
use Rattle.jvm_base.specs.declared.pool.PoolItem.{PoolItem}
use Rattle.code_table.specs.Accepted.{IsCode, IsEntry, Lands}
use Rattle.code_table.specs.Targets.{targets_of, is_start}
use Rattle.code_table.specs.declared.code.Code.{Code}
use Rattle.code_table.specs.declared.code.Placed.{Placed}
use Rattle.code_table.specs.declared.op.Op.{Op}
use Rattle.code_table.specs.declared.op.Op.TheVariants as op
use Rattle.program_image.specs.declared.info.MethodInfo.{MethodInfo}
use Rattle.program_image.specs.declared.info.Target.{Target}
use Rattle.program_image.specs.declared.info.Target.TheVariants as target
use Rattle.program_image.specs.Handlers.{code_of}
use Rattle.program_image.specs.Program.{Program, target_of}
use Rattle.flow_types.specs.Tree.{superclasses}
use Rattle.flow_types.specs.Types.{IsType}
use Rattle.flow_types.specs.TypeLists.{AreTypes}
use Rattle.flow_types.specs.declared.flow_type.FlowType.{FlowType}
use Rattle.flow_types.specs.declared.flow_type.FlowType.TheVariants as flow
use Rattle.instruction_table.specs.ClassTypes.{plain, desc_type, method_at, owner_of, args_of, is_static_method, class_in}
use Rattle.instruction_table.specs.Rows.{jumps, throwable}
use Rattle.flow_verifier.specs.Methods.{ops_of, Rises, place_of, receiver, begins_fresh, with_half, spread, parameters, fitted, class_caught, handler_class, handler, handlers_from, method_with, no_method, IsMethod, IsVerifiable}
use Rattle.flow_verifier.specs.declared.method.Handler.{Handler}
use Rattle.acceptance.proofs.DecodedFacts.{rise, few, some, start_placed}
use Rattle.acceptance.proofs.Typed.{IsSmall, IsSmallTarget, IsTyped}
use Rattle.acceptance.proofs.TypedLaws.{desc_fine, row_is, target_in, plain_in, count}

-- some code was decoded, and isn't empty nor long
pub record IsDecoded (c : Code) : Type 0 where
  pub item : CodeItem
  pub pool : List PoolItem
  pub is_code : IsCode item pool c
  pub some : 0 < length item.code
  pub few : length item.code < 2 ^ 16
  pub few_entries : length item.table < 2 ^ 16

module _ (p : Program) (typed : IsTyped p) (n : ℕ) (c : Code) (has : code_of p n ≡ Some c) (decoded : IsDecoded c) where
  plain_zero : 0 < length (superclasses p)
  plain_zero = let t : 0 < length p.classes = typed.some in let k : length (superclasses p) ≡ length p.classes = count p typed in omega arith

  -- ---- entry

  halves : (t : FlowType) → IsType (superclasses p) t → AreTypes (superclasses p) (with_half t)
  halves flow.Long h = (h, (tt, tt))
  halves flow.Unusable h = (h, tt)
  halves flow.Int h = (h, tt)
  halves flow.High h = (h, tt)
  halves flow.Null h = (h, tt)
  halves (flow.Class k) h = (h, tt)
  halves (flow.Array d e) h = (h, tt)
  halves (flow.Fresh at) h = (h, tt)
  halves flow.FreshThis h = (h, tt)

  joined : (ts us : List FlowType) → AreTypes (superclasses p) ts → AreTypes (superclasses p) us → AreTypes (superclasses p) (ts ++ us)
  joined [] us h g = g
  joined (t ∷ ts) us h g = (h.0, joined ts us (h.1) g)

  spread_types : (ts : List FlowType) → AreTypes (superclasses p) ts → AreTypes (superclasses p) (spread ts)
  spread_types [] h = tt
  spread_types (t ∷ ts) h = joined (with_half t) (spread ts) (halves t (h.0)) (spread_types ts (h.1))

  desc_types : (ds : List Desc) → AllByRecursion IsSmall ds → AreTypes (superclasses p) (map (desc_type p) ds)
  desc_types [] h = tt
  desc_types (d ∷ ds) h = ((desc_fine p typed d (h.0)).0, desc_types ds (h.1))

  fitted_types : (k : ℕ) (ts : List FlowType) → AreTypes (superclasses p) ts → AreTypes (superclasses p) (fitted k ts)
  fitted_types zero ts h = tt
  fitted_types (suc k) [] h = (tt, fitted_types k [] tt)
  fitted_types (suc k) (t ∷ ts) h = (h.0, fitted_types k ts (h.1))

  receiver_types : (owner : ℕ) → owner < length p.classes → (static fresh : Bool) → AreTypes (superclasses p) (if static then [] else (if fresh then flow.FreshThis else flow.Class (plain p owner)) ∷ [])
  receiver_types owner l true fresh = tt
  receiver_types owner l false true = (tt, tt)
  receiver_types owner l false false = (plain_in p typed owner l, tt)

  -- the arguments' descriptors are those of the method
  args_small : (o : Option MethodInfo) → method_at p n ≡ o → AllByRecursion IsSmall (from [] (λ i. i.desc.args) o)
  args_small None e = tt
  args_small (Some i) e = (typed.methods n i e).args

  entry_types : owner_of p n < length p.classes → AreTypes (superclasses p) (fitted c.max_locals (parameters p n))
  entry_types l =
      fitted_types c.max_locals (parameters p n) (spread_types (receiver p n ++ map (desc_type p) (args_of p n)) (joined (receiver p n) (map (desc_type p) (args_of p n)) (receiver_types (owner_of p n) l (is_static_method p n) (begins_fresh p n)) (desc_types (args_of p n) (args_small (method_at p n) refl))))

  -- ---- code

  ops : ops_of p n ≡ c.ops
  ops = ap (λ (o : Option Code). from [] (λ k. k.ops) o) has

  -- a test that each item passes
  passes : (test : ℕ → Bool) (xs : List ℕ) → AllPass test xs → (k to : ℕ) → slice_get xs k ≡ Some to → test to ≡ true
  passes test xs all k to e =
      subst (λ (x : ℕ). test x ≡ true) (get_or_from_slice_get xs k to to e) (All-get_or (λ x. test x ≡ true) xs k to (slice_get_within xs k to e) all)

  -- the jumps of an instruction are its targets
  same_targets : (o : Op) → jumps o ≡ targets_of o
  same_targets (op.IfZero a to) = refl
  same_targets (op.IfInts a to) = refl
  same_targets (op.IfRefs a to) = refl
  same_targets (op.IfNull a to) = refl
  same_targets (op.Goto to) = refl
  same_targets (op.TableSwitch other low high to) = refl
  same_targets (op.LookupSwitch other pairs) = refl
  same_targets _ = refl

  -- what holds of each item holds of one
  at_place : {A : Type 0} (P : A → Type 0) (xs : List A) → AllByRecursion P xs → (i : ℕ) (x : A) → slice_get xs i ≡ Some x → P x
  at_place P [] all i x e = absurd cc
  at_place P (y ∷ ys) all zero x e = let s : y ≡ x = cc in subst P s (all.0)
  at_place P (y ∷ ys) all (suc i) x e = at_place P ys (all.1) i x e

  -- a jump leads to an instruction
  jumps_land : (i k to : ℕ) (o : Placed) → slice_get c.ops i ≡ Some o → slice_get (jumps o.op) k ≡ Some to → place_of c.ops to < length c.ops
  jumps_land i k to o here jump =
      let lands : Lands c.ops o = at_place (Lands c.ops) c.ops decoded.is_code.lands i o here in
      let target : slice_get (targets_of o.op) k ≡ Some to = ap (λ xs. slice_get xs k) (sym (same_targets o.op)) ∙ jump in
      start_placed c.ops to (passes (is_start c.ops) (targets_of o.op) lands k to target)

  -- ---- handlers

  caught_in : (t : Option Target) → IsSmallTarget (length p.classes) t → class_caught p t < length (superclasses p)
  caught_in None l = plain_zero
  caught_in (Some (target.Class k)) l = plain_in p typed k l
  caught_in (Some (target.Method m)) l = plain_zero
  caught_in (Some (target.Field k place fixed)) l = plain_zero
  caught_in (Some (target.Constant v)) l = plain_zero

  handler_in : throwable < length (superclasses p) → (i : ℕ) (e : TableItem) → handler_class p n i e < length (superclasses p)
  handler_in l i e =
      elim (e.class == 0) as (λ b. (if b then throwable else class_caught p (target_of p n (65536 + i))) < length (superclasses p)) [
        | true ↦ l
        | false ↦ caught_in (target_of p n (65536 + i)) (typed.targets n (65536 + i))
      ]

  -- each entry of the table leads to an instruction
  handlers_land : throwable < length (superclasses p) → (end i : ℕ) (es : List TableItem) → AllByRecursion (IsEntry c.ops end) es → (k : ℕ) (h : Handler) → slice_get (handlers_from p n c.ops i es) k ≡ Some h → (h.to < length c.ops) × (h.class < length (superclasses p))
  handlers_land l end i [] all k h e = absurd cc
  handlers_land l end i (x ∷ xs) all zero h e =
      let s : handler p n c.ops i x ≡ h = cc in
      subst (λ (g : Handler). (g.to < length c.ops) × (g.class < length (superclasses p))) s
      (start_placed c.ops x.handler (all.0.handler), handler_in l i x)
  handlers_land l end i (x ∷ xs) all (suc k) h e = handlers_land l end (i + 1) xs (all.1) k h e

  -- ---- the method

  module _ (throws : throwable < length p.classes) (owner : owner_of p n < length p.classes) (there : n < length p.methods) where
    throws_in : throwable < length (superclasses p)
    throws_in = let k : length (superclasses p) ≡ length p.classes = count p typed in omega arith

    owner_in : owner_of p n < length (superclasses p)
    owner_in = let k : length (superclasses p) ≡ length p.classes = count p typed in omega arith

    new_in : (at : ℕ) → class_in (target_of p n at) < length (superclasses p)
    new_in at =
        let k : length (superclasses p) ≡ length p.classes = count p typed in
        let l : class_in (target_of p n at) < length p.classes = target_in p typed (target_of p n at) (typed.targets n at) in
        omega arith

    -- over the instructions as they stand in the code
    is_method : IsMethod p (method_with p n c)
    is_method = record {
      within = there;
      some = subst (λ (xs : List Placed). 0 < length xs) (sym ops) (some decoded.item.code decoded.pool c.ops decoded.is_code.covers decoded.some);
      few = subst (λ (xs : List Placed). length xs < 2 ^ 32) (sym ops) (let f : 0 + length c.ops ≤ length decoded.item.code = few decoded.item.code decoded.pool 0 c.ops (length decoded.item.code) decoded.is_code.covers in let g : length decoded.item.code < 2 ^ 16 = decoded.few in omega arith);
      throwable_there = throws_in;
      site = record { owner = owner_in; news = new_in };
      rising = subst Rises (sym ops) (rise decoded.item.code decoded.pool 0 c.ops (length decoded.item.code) decoded.is_code.covers);
      rows = λ i o e. row_is p typed n o.at o.op (typed.ops n i o e);
      targets = subst (λ (xs : List Placed). (i k to : ℕ) (o : Placed) → slice_get xs i ≡ Some o → slice_get (jumps o.op) k ≡ Some to → place_of xs to < length xs) (sym ops) jumps_land;
      handlers = subst (λ (xs : List Placed). (i : ℕ) (h : Handler) → slice_get (handlers_from p n c.ops 0 c.table) i ≡ Some h → (h.to < length xs) × (h.class < length (superclasses p))) (sym ops) (handlers_land throws_in (length decoded.item.code) 0 c.table (subst (AllByRecursion (IsEntry c.ops (length decoded.item.code))) (sym decoded.is_code.table) decoded.is_code.entries));
      entry = entry_types owner;
    }

    -- the method may be verified
    pub is_verifiable : IsVerifiable p n
    is_verifiable = record {
      code = c;
      has_code = has;
      few_entries = subst (λ (es : List TableItem). length es < 65536) (sym decoded.is_code.table) decoded.few_entries;
      fine = subst (λ (o : Option Code). IsMethod p (from (no_method n) (method_with p n) o)) (sym has) is_method;
    }
