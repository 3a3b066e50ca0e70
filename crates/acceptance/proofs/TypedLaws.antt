-- The types that rows give are types of the program, where its descriptors and arrays are small.
use Rattle.std.proofs.Common.{◌≡◌, refl, ℕ, suc, ◌+◌, ◌<◌, ◌^◌, true, false, Bool, List, [], ◌∷◌, ◌++◌, length, Option, Some, None, ◌==◌, if◌then◌else◌, arith}
use Rattle.std.specs.List.{AllByRecursion}
use Rattle.std.specs.Prelude.{nat_eq, ◌&&◌}
use Rattle.std.specs.Option.{is_none}
use Rattle.std.proofs.lemmas.List.{length-map}
use Rattle.std.specs.Cmp.Lexicographic.{pointwise}
use Rattle.std.proofs.lemmas.Bool.Decides.{nat_tests}
use Rattle.jvm_base.specs.Words.{from}
use Rattle.jvm_base.specs.declared.desc.Desc.{Desc}
use Rattle.jvm_base.specs.declared.desc.Elem.{Elem}
use Rattle.jvm_base.specs.declared.desc.Elem.TheVariants as elem
use Rattle.jvm_base.specs.declared.desc.MethodDesc.{MethodDesc}
use Rattle.jvm_base.specs.declared.value.Value.{Value}
use Rattle.jvm_base.specs.declared.value.Value.TheVariants as value
use Rattle.code_table.specs.declared.op.Op.{Op}
use Rattle.code_table.specs.declared.op.Op.TheVariants as op
use Rattle.program_image.specs.declared.info.ClassInfo.{ClassInfo}
use Rattle.program_image.specs.declared.info.Target.{Target}
use Rattle.program_image.specs.declared.info.Target.TheVariants as target
use Rattle.program_image.specs.Program.{Program, target_of}
use Rattle.flow_types.specs.Tables.{in_table}
use Rattle.flow_types.specs.Tree.{superclasses}
use Rattle.flow_types.specs.Types.{IsType, IsElem}
use Rattle.flow_types.specs.TypeLists.{is_operand}
use Rattle.flow_types.specs.declared.flow_type.FlowType.{FlowType}
use Rattle.flow_types.specs.declared.flow_type.FlowType.TheVariants as flow
use Rattle.instruction_table.specs.ClassTypes.{plain, named_from, class_named, element_type, array_at, class_type, ground_type, desc_type, array_over, class_in, constant_type, value_type, is_an_interface, owner_of, method_in, field_class_in, result_of, is_initialiser}
use Rattle.instruction_table.specs.Rows.{row, array_loads, array_load, array_stores, array_store, dups, dup_row, resizes, resize_row, static_row, field_row, invoke_row, result, cast_row, number_type, is_on_ints, value as value_need, object_of, reference, arguments, receiver_class, return_need, is_of_kind}
use Rattle.instruction_table.specs.Under.{IsRow, IsGiven, IsInitGiven}
use Rattle.instruction_table.specs.declared.row.Row.TheVariants.{Acts, Drops, Doubles, Inits, Ends}
use Rattle.instruction_table.specs.declared.row.Need.TheVariants as need
use Rattle.instruction_table.specs.declared.row.Group.TheVariants as group
use Rattle.instruction_table.specs.declared.rule.TheConstants as rule
use Rattle.code_table.specs.declared.opcode.TheConstants as code
use Rattle.instruction_table.specs.declared.row.Need.{Need}
use Rattle.instruction_table.specs.declared.row.Gives.TheVariants as gives
use Rattle.acceptance.proofs.Typed.{IsSmall, AreSmall, IsSmallResult, IsSmallOp, IsSmallValue, IsSmallTarget, IsTyped}

-- a table's row has what each of its rows has
in_rows : {A : Type 0} (P : A → Type 0) (rows : List (ℕ × A)) (other : A) (n : ℕ) → AllByRecursion (λ r. P r.1) rows → P other → P (in_table rows other n)
in_rows P [] other n all here = here
in_rows P (r ∷ rows) other n all here =
    elim (n == r.0) as (λ b. P (if b then r.1 else in_table rows other n)) [
      | true ↦ all.0
      | false ↦ in_rows P rows other n (all.1) here
    ]

-- one of two has what both have
either : {A : Type 0} (P : A → Type 0) (b : Bool) (x y : A) → P x → P y → P (if b then x else y)
either P true x y a c = a
either P false x y a c = c

module _ (p : Program) (typed : IsTyped p) where
  -- the tree of superclasses
  abbrev pub supers : List (Option ℕ)
  supers = superclasses p

  -- as many superclasses as classes
  pub count : length supers ≡ length p.classes
  count = length-map p.classes (λ (c : ClassInfo). c.super_class)

  some : 0 < length supers
  some = let t : 0 < length p.classes = typed.some in let c : length supers ≡ length p.classes = count in omega arith

  -- ---- classes

  -- a class stands for itself or for Object
  pub plain_in : (c : ℕ) → c < length p.classes → plain p c < length supers
  plain_in c l = either (λ k. k < length supers) (is_an_interface p c) 0 c some (let k : length supers ≡ length p.classes = count in omega arith)

  -- a name finds a class of the list, or 0
  found : (n : ℕ) (name : List ℕ) (ks : List ClassInfo) → 0 < n + length ks → named_from n name ks < n + length ks
  found n name [] l = l
  found n name (k ∷ ks) l =
      let there : named_from (suc n) name ks < suc n + length ks = found (suc n) name ks (omega arith) in
      either (λ m. m < n + suc (length ks)) (pointwise nat_eq k.name name) n (named_from (suc n) name ks) (omega arith) (omega arith)

  named_in : (name : List ℕ) → plain p (class_named p name) < length supers
  named_in name =
      let t : 0 < length p.classes = typed.some in
      let f : class_named p name < 0 + length p.classes = found 0 name p.classes (omega arith) in
      plain_in (class_named p name) (omega arith)

  -- ---- types

  -- a type of the program that a stack place can have
  abbrev pub Fine : FlowType → Type 0
  Fine t = IsType supers t × (is_operand t ≡ true)

  elem_is : (e : Elem) → IsElem supers (element_type p e)
  elem_is elem.Byte = tt
  elem_is elem.Char = tt
  elem_is elem.Double = tt
  elem_is elem.Float = tt
  elem_is elem.Int = tt
  elem_is elem.Long = tt
  elem_is elem.Short = tt
  elem_is elem.Boolean = tt
  elem_is (elem.Object name) = named_in name

  ground_fine : (e : Elem) → Fine (ground_type p e)
  ground_fine elem.Byte = (tt, refl)
  ground_fine elem.Char = (tt, refl)
  ground_fine elem.Double = (tt, refl)
  ground_fine elem.Float = (tt, refl)
  ground_fine elem.Int = (tt, refl)
  ground_fine elem.Long = (tt, refl)
  ground_fine elem.Short = (tt, refl)
  ground_fine elem.Boolean = (tt, refl)
  ground_fine (elem.Object name) = (named_in name, refl)

  -- of a small descriptor
  pub desc_fine : (d : Desc) → IsSmall d → Fine (desc_type p d)
  desc_fine d small =
      elim (d.dims == 0) as (λ b. (d.dims == 0) ≡ b → Fine (if b then ground_type p d.elem else flow.Array d.dims (element_type p d.elem))) [
        | true ↦ λ e. ground_fine d.elem
        | false ↦ λ e. ((grind (arith, nat_tests), small, elem_is d.elem), refl)
      ] refl

  -- of a class's objects
  pub class_fine : (c : ℕ) → c < length p.classes → Fine (class_type p c)
  class_fine c l =
      elim (array_at p c) as (λ o. array_at p c ≡ o → Fine (from (flow.Class (plain p c)) (λ a. flow.Array a.dims (element_type p a.elem)) o)) [
        | None ↦ λ e. (plain_in c l, refl)
        | Some a ↦ λ e. let d : (0 < a.dims) × (a.dims < 2 ^ 8) = typed.arrays c a e in ((d.0, d.1, elem_is a.elem), refl)
      ] refl

  value_fine : (v : Value) → IsSmallValue (length p.classes) v → Fine (value_type p v)
  value_fine (value.Int n) l = (tt, refl)
  value_fine (value.Long n) l = (tt, refl)
  value_fine (value.Ref name) l = class_fine name.class l
  value_fine value.Null l = (tt, refl)

  constant_fine : (t : Option Target) → IsSmallTarget (length p.classes) t → Fine (constant_type p t)
  constant_fine None l = (tt, refl)
  constant_fine (Some (target.Constant v)) l = value_fine v l
  constant_fine (Some (target.Class c)) l = (tt, refl)
  constant_fine (Some (target.Method m)) l = (tt, refl)
  constant_fine (Some (target.Field c place fixed)) l = (tt, refl)

  -- the class that a target names
  pub target_in : (t : Option Target) → IsSmallTarget (length p.classes) t → class_in t < length p.classes
  target_in None l = typed.some
  target_in (Some (target.Constant v)) l = typed.some
  target_in (Some (target.Class c)) l = l
  target_in (Some (target.Method m)) l = typed.some
  target_in (Some (target.Field c place fixed)) l = typed.some

  named_fine : (m at : ℕ) → Fine (class_type p (class_in (target_of p m at)))
  named_fine m at = class_fine (class_in (target_of p m at)) (target_in (target_of p m at) (typed.targets m at))

  over_fine : (t : FlowType) → Fine t → Fine (array_over t)
  over_fine (flow.Array d e) f = ((omega arith, omega arith, f.0.2), refl)
  over_fine (flow.Class c) f = ((omega arith, omega arith, f.0), refl)
  over_fine flow.Unusable f = ((omega arith, omega arith, some), refl)
  over_fine flow.Int f = ((omega arith, omega arith, some), refl)
  over_fine flow.Long f = ((omega arith, omega arith, some), refl)
  over_fine flow.High f = ((omega arith, omega arith, some), refl)
  over_fine flow.Null f = ((omega arith, omega arith, some), refl)
  over_fine (flow.Fresh at) f = ((omega arith, omega arith, some), refl)
  over_fine flow.FreshThis f = ((omega arith, omega arith, some), refl)

  -- ---- rows

  -- of a number's kind
  number_fine : (o : ℕ) → Fine (number_type o)
  number_fine o = either Fine (is_on_ints o) flow.Int flow.Long (tt, refl) (tt, refl)

  loads_is : (o : ℕ) → IsRow supers (array_load o)
  loads_is o = in_rows (IsRow supers) array_loads (Acts (need.Int ∷ need.References ∷ []) gives.Part) o ((tt, refl), ((tt, refl), ((tt, refl), ((tt, refl), ((tt, refl), tt))))) (need.Int, refl)

  stores_is : (o : ℕ) → IsRow supers (array_store o)
  stores_is o = in_rows (IsRow supers) array_stores (Acts (reference ∷ need.Int ∷ need.References ∷ []) gives.Nothing) o (tt, (tt, (tt, (tt, (tt, tt))))) tt

  dups_is : (o : ℕ) → IsRow supers (dup_row o)
  dups_is o = in_rows (IsRow supers) dups (Doubles group.Wide group.Wide) o (tt, (tt, (tt, (tt, (tt, tt))))) tt

  resizes_is : (o : ℕ) → IsRow supers (resize_row o)
  resizes_is o = in_rows (IsRow supers) resizes (Acts (need.Int ∷ []) (gives.One flow.Int)) o ((tt, refl), ((tt, refl), tt)) (tt, refl)

  static_is : (o : ℕ) (t : FlowType) → Fine t → IsRow supers (static_row o t)
  static_is o t f = either (IsRow supers) (o == code.GETSTATIC) (Acts [] (gives.One t)) (Acts (value_need rule.REFERENCE t ∷ []) gives.Nothing) f tt

  field_is : (o : ℕ) (t : FlowType) (c : ℕ) → Fine t → IsRow supers (field_row p o t c)
  field_is o t c f = either (IsRow supers) (o == code.GETFIELD) (Acts (object_of p c ∷ []) (gives.One t)) (Acts (value_need rule.REFERENCE t ∷ need.Own c ∷ []) gives.Nothing) f tt

  cast_is : (o : ℕ) (t : FlowType) → Fine t → IsRow supers (cast_row o t)
  cast_is o t f = either (IsRow supers) (o == code.CHECKCAST) (Acts (reference ∷ []) (gives.One t)) (Acts (reference ∷ []) (gives.One flow.Int)) f (tt, refl)

  result_is : (needs : List Need) (ret : Option Desc) → IsSmallResult ret → IsGiven supers needs (result p ret)
  result_is needs None l = tt
  result_is needs (Some d) l = desc_fine d l

  init_is : (ret : Option Desc) → IsSmallResult ret → IsInitGiven supers (result p ret)
  init_is None l = tt
  init_is (Some d) l = desc_fine d l

  invoke_is : (current o : ℕ) (d : MethodDesc) (m : ℕ) → AreSmall d → IsRow supers (invoke_row p current o d m)
  invoke_is current o d m small =
      let given : (needs : List Need) → IsRow supers (Acts needs (result p d.ret)) = λ needs. result_is needs d.ret small.ret in
      let args : List Need = arguments p d.args in
      let called : List Need = args ++ object_of p (receiver_class p current o m) ∷ [] in
      either (IsRow supers) (o == code.INVOKESTATIC) (Acts args (result p d.ret)) (if o == code.INVOKESPECIAL && is_initialiser p m then Inits args (owner_of p m) (result p d.ret) else Acts called (result p d.ret)) (given args) (either (IsRow supers) (o == code.INVOKESPECIAL && is_initialiser p m) (Inits args (owner_of p m) (result p d.ret)) (Acts called (result p d.ret)) (init_is d.ret small.ret) (given called))

  -- each row gives types of the program
  pub row_is : (m at : ℕ) (o : Op) → IsSmallOp o → IsRow supers (row p m at o)
  row_is m at op.Nop l = tt
  row_is m at op.AconstNull l = (tt, refl)
  row_is m at (op.Iconst n) l = (tt, refl)
  row_is m at (op.Lconst n) l = (tt, refl)
  row_is m at (op.Push n) l = (tt, refl)
  row_is m at (op.Ldc i) l = constant_fine (target_of p m at) (typed.targets m at)
  row_is m at (op.Ldc2 i) l = constant_fine (target_of p m at) (typed.targets m at)
  row_is m at (op.Load o n) l = tt
  row_is m at (op.ArrayLoad o) l = loads_is o
  row_is m at (op.Store o n) l = tt
  row_is m at (op.ArrayStore o) l = stores_is o
  row_is m at (op.Pop o) l = either (IsRow supers) (o == code.POP) (Drops group.One) (Drops group.Wide) tt tt
  row_is m at (op.Dup o) l = dups_is o
  row_is m at op.Swap l = tt
  row_is m at (op.Arith o) l = number_fine o
  row_is m at (op.Divide o) l = number_fine o
  row_is m at (op.Negate o) l = number_fine o
  row_is m at (op.Shift o) l = number_fine o
  row_is m at (op.Bits o) l = number_fine o
  row_is m at (op.Iinc n by) l = tt
  row_is m at (op.Resize o) l = resizes_is o
  row_is m at op.Lcmp l = (tt, refl)
  row_is m at (op.IfZero o to) l = tt
  row_is m at (op.IfInts o to) l = tt
  row_is m at (op.IfRefs o to) l = tt
  row_is m at (op.IfNull o to) l = tt
  row_is m at (op.Goto to) l = tt
  row_is m at (op.TableSwitch other low high to) l = tt
  row_is m at (op.LookupSwitch other pairs) l = tt
  row_is m at (op.Return o) l = either (IsRow supers) (o == code.RETURN) (Ends [] (is_none (result_of p m))) (Ends (return_need o (result_of p m) ∷ []) (from false (is_of_kind o) (result_of p m))) tt tt
  row_is m at (op.Static o i d) l = static_is o (desc_type p d) (desc_fine d l)
  row_is m at (op.Field o i d) l = field_is o (desc_type p d) (field_class_in (target_of p m at)) (desc_fine d l)
  row_is m at (op.Invoke o i d) l = invoke_is (owner_of p m) o d (method_in (target_of p m at)) l
  row_is m at (op.New i) l = (tt, refl)
  row_is m at (op.NewArray k) l = ((omega arith, omega arith, tt), refl)
  row_is m at (op.AnewArray i) l = over_fine (class_type p (class_in (target_of p m at))) (named_fine m at)
  row_is m at (op.MultiNewArray i n) l = named_fine m at
  row_is m at op.ArrayLength l = (tt, refl)
  row_is m at op.Athrow l = tt
  row_is m at (op.Cast o i) l = cast_is o (class_type p (class_in (target_of p m at))) (named_fine m at)
  row_is m at (op.Monitor o) l = tt
