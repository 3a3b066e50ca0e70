-- A boot class as its names, flags and instructions.
use Rattle.std.specs.Prelude.{ℕ, List, Option}

-- a field or method that code names: the class, the name, the descriptor
pub record Member : Type 0 where
  pub class : List ℕ
  pub name : List ℕ
  pub desc : List ℕ

-- an instruction by its mnemonic (JVMS2 6)
pub data Instruction : Type 0 where
  Aload0 : Instruction
  Aload1 : Instruction
  Areturn : Instruction
  Return : Instruction
  Getfield : Member → Instruction
  Putfield : Member → Instruction
  Invokespecial : Member → Instruction
  Invokeinterface : Member → Instruction
  -- to the address that lies so many bytes behind its own
  Ifnull : ℕ → Instruction

-- code without an exception table
pub record Code : Type 0 where
  pub max_stack : ℕ
  pub max_locals : ℕ
  pub ops : List Instruction

-- a field without a constant
pub record Field : Type 0 where
  pub flags : ℕ
  pub name : List ℕ
  pub desc : List ℕ

-- a native or abstract method has no code
pub record Method : Type 0 where
  pub flags : ℕ
  pub name : List ℕ
  pub desc : List ℕ
  pub code : Option Code

-- a class or interface; only java/lang/Object has no superclass
pub record Row : Type 0 where
  pub name : List ℕ
  pub super_class : Option (List ℕ)
  pub interfaces : List (List ℕ)
  pub flags : ℕ
  pub fields : List Field
  pub methods : List Method
