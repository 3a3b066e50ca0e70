-- What the types of a program's rows rest on: numbers that fit.
use Rattle.std.specs.Prelude.{◌≡◌, ◌<◌, ◌^◌, ℕ, length, slice_get, Option, Some, None}
use Rattle.std.specs.List.{AllByRecursion}
use Rattle.jvm_base.specs.declared.desc.Desc.{Desc}
use Rattle.jvm_base.specs.declared.desc.MethodDesc.{MethodDesc}
use Rattle.jvm_base.specs.declared.value.Value.{Value}
use Rattle.jvm_base.specs.declared.value.Value.TheVariants.{Ref}
use Rattle.code_table.specs.declared.op.Op.{Op}
use Rattle.code_table.specs.declared.op.Op.TheVariants.{Static, Field, Invoke}
use Rattle.code_table.specs.declared.code.Placed.{Placed}
use Rattle.program_image.specs.declared.info.ArrayInfo.{ArrayInfo}
use Rattle.program_image.specs.declared.info.MethodInfo.{MethodInfo}
use Rattle.program_image.specs.declared.info.Target.{Target}
use Rattle.program_image.specs.declared.info.Target.TheVariants as target
use Rattle.program_image.specs.Program.{Program, target_of}
use Rattle.instruction_table.specs.ClassTypes.{array_at, method_at}
use Rattle.flow_verifier.specs.Methods.{ops_of}

-- a descriptor has at most 255 dimensions
abbrev pub IsSmall : Desc → Type 0
IsSmall d = d.dims < 2 ^ 8

-- so has the one of a result, if there is one
abbrev pub IsSmallResult : Option Desc → Type 0
IsSmallResult None = Unit {0}
IsSmallResult (Some d) = IsSmall d

-- and so have those of a method
pub record AreSmall (d : MethodDesc) : Type 0 where
  pub args : AllByRecursion IsSmall d.args
  pub ret : IsSmallResult d.ret

-- the descriptors that an instruction holds
abbrev pub IsSmallOp : Op → Type 0
IsSmallOp (Static o item d) = IsSmall d
IsSmallOp (Field o item d) = IsSmall d
IsSmallOp (Invoke o item d) = AreSmall d
IsSmallOp _ = Unit {0}

-- the class of a constant's object is the program's
abbrev pub IsSmallValue : ℕ → Value → Type 0
IsSmallValue classes (Ref name) = name.class < classes
IsSmallValue classes _ = Unit {0}

-- and so is the class that a target names
abbrev pub IsSmallTarget : ℕ → Option Target → Type 0
IsSmallTarget classes (Some (target.Class c)) = c < classes
IsSmallTarget classes (Some (target.Constant v)) = IsSmallValue classes v
IsSmallTarget classes _ = Unit {0}

-- the numbers of a program fit
pub record IsTyped (p : Program) : Type 0 where
  pub some : 0 < length p.classes
  pub arrays : (c : ℕ) (a : ArrayInfo) → array_at p c ≡ Some a → (0 < a.dims) × (a.dims < 2 ^ 8)
  pub targets : (m at : ℕ) → IsSmallTarget (length p.classes) (target_of p m at)
  pub methods : (m : ℕ) (i : MethodInfo) → method_at p m ≡ Some i → AreSmall i.desc
  pub ops : (m k : ℕ) (o : Placed) → slice_get (ops_of p m) k ≡ Some o → IsSmallOp o.op
