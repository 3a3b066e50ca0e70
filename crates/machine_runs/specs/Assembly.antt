-- Words for writing programs. An address counts instructions here, so that the one behind `at`
-- stands at `at + 1`; the machine asks nothing else of addresses.
use Rattle.std.specs.Prelude.{ℕ, ◌+◌, ℤ, true, false, List, [], ◌∷◌, ◌++◌, map, codes, length, Option, Some, None}
use Rattle.std.specs.Option.{option_to_list}
use Rattle.jvm_base.specs.declared.code_item.TableItem.{TableItem}
use Rattle.jvm_base.specs.declared.desc.Desc.{Desc}
use Rattle.jvm_base.specs.declared.desc.Elem.TheVariants as elem
use Rattle.jvm_base.specs.declared.desc.MethodDesc.{MethodDesc}
use Rattle.jvm_base.specs.declared.value.Value.TheVariants.{Int, Long, Ref}
use Rattle.code_table.specs.declared.code.Placed.{Placed}
use Rattle.code_table.specs.declared.op.Op.{Op}
use Rattle.code_table.specs.declared.op.Op.TheVariants as op
use Rattle.code_table.specs.declared.opcode.TheConstants as code
use Rattle.program_image.specs.declared.info.Body.{Body}
use Rattle.program_image.specs.declared.info.Body.TheVariants as body
use Rattle.program_image.specs.declared.info.ClassInfo.{ClassInfo}
use Rattle.program_image.specs.declared.info.FieldInfo.{FieldInfo}
use Rattle.program_image.specs.declared.info.MethodInfo.{MethodInfo}
use Rattle.program_image.specs.declared.info.Target.{Target}
use Rattle.program_image.specs.declared.info.Target.TheVariants as target
use Rattle.program_image.specs.Places.{Place}
use Rattle.machine_state.specs.PreMade.{text_name}

-- ---- types

-- int
abbrev pub int : Desc
int = record { dims = 0; elem = elem.Int }

-- long
abbrev pub long : Desc
long = record { dims = 0; elem = elem.Long }

-- byte
abbrev pub byte : Desc
byte = record { dims = 0; elem = elem.Byte }

-- char
abbrev pub char : Desc
char = record { dims = 0; elem = elem.Char }

-- boolean
abbrev pub boolean : Desc
boolean = record { dims = 0; elem = elem.Boolean }

-- an object of a class
abbrev pub object : List ℕ → Desc
object name = record { dims = 0; elem = elem.Object name }

-- an array of a type
abbrev pub array : Desc → Desc
array d = record d { dims = d.dims + 1 }

-- String
abbrev pub text : Desc
text = object (codes "java/lang/String")

-- a method's arguments and result
abbrev pub signature : List Desc → Option Desc → MethodDesc
signature args ret = record { args = args; ret = ret }

-- ---- instructions, each with what it names

-- an instruction, and what it names, if anything
abbrev pub Line : Type 0
Line = Op × Option Target

-- one that names nothing
abbrev pub does : Op → Line
does o = (o, None)

-- an int constant
abbrev pub iconst : ℤ → Line
iconst n = does (op.Iconst n)

-- loads of a local
abbrev pub iload : ℕ → Line
iload n = does (op.Load code.ILOAD n)

-- of a long
abbrev pub lload : ℕ → Line
lload n = does (op.Load code.LLOAD n)

-- of a reference
abbrev pub aload : ℕ → Line
aload n = does (op.Load code.ALOAD n)

-- stores into a local
abbrev pub istore : ℕ → Line
istore n = does (op.Store code.ISTORE n)

-- of a long
abbrev pub lstore : ℕ → Line
lstore n = does (op.Store code.LSTORE n)

-- of a reference
abbrev pub astore : ℕ → Line
astore n = does (op.Store code.ASTORE n)

-- the newest operand doubled
abbrev pub dup : Line
dup = does (op.Dup code.DUP)

-- the end of a method without result
abbrev pub return : Line
return = does (op.Return code.RETURN)

-- an int of `ldc`
abbrev pub constant : ℤ → Line
constant n = (op.Ldc 0, Some (target.Constant (Int n)))

-- a literal, by the index of its String
abbrev pub literal : ℕ → Line
literal index = (op.Ldc 0, Some (target.Constant (Ref (text_name index))))

-- the constant of `ldc2_w`
abbrev pub long_constant : ℤ → Line
long_constant n = (op.Ldc2 0, Some (target.Constant (Long n)))

-- a read of a static; fields go by the class that declares them and their place
abbrev pub getstatic : Desc → ℕ → ℕ → Line
getstatic d c place = (op.Static code.GETSTATIC 0 d, Some (target.Field c place true))

-- a write of a static
abbrev pub putstatic : Desc → ℕ → ℕ → Line
putstatic d c place = (op.Static code.PUTSTATIC 0 d, Some (target.Field c place true))

-- a read of a field
abbrev pub getfield : Desc → ℕ → ℕ → Line
getfield d c place = (op.Field code.GETFIELD 0 d, Some (target.Field c place false))

-- a write of a field
abbrev pub putfield : Desc → ℕ → ℕ → Line
putfield d c place = (op.Field code.PUTFIELD 0 d, Some (target.Field c place false))

-- calls, by the opcode, the descriptor and the number of the method
abbrev pub invoke : ℕ → List Desc → Option Desc → ℕ → Line
invoke o args ret m = (op.Invoke o 0 (signature args ret), Some (target.Method m))

-- a new object; classes go by number
abbrev pub new : ℕ → Line
new c = (op.New 0, Some (target.Class c))

-- a cast
abbrev pub checkcast : ℕ → Line
checkcast c = (op.Cast code.CHECKCAST 0, Some (target.Class c))

-- a test
abbrev pub instanceof : ℕ → Line
instanceof c = (op.Cast code.INSTANCEOF 0, Some (target.Class c))

-- an array of references
abbrev pub anewarray : ℕ → Line
anewarray c = (op.AnewArray 0, Some (target.Class c))

-- an array of arrays
abbrev pub multianewarray : ℕ → ℕ → Line
multianewarray c n = (op.MultiNewArray 0 n, Some (target.Class c))

-- arithmetic by the opcode
abbrev pub arith : ℕ → Line
arith o = does (op.Arith o)

-- the end of a method with an int
abbrev pub ireturn : Line
ireturn = does (op.Return code.IRETURN)

-- with a long
abbrev pub lreturn : Line
lreturn = does (op.Return code.LRETURN)

-- a jump to an address
abbrev pub goto : ℕ → Line
goto to = does (op.Goto to)

-- a lock is entered
abbrev pub monitorenter : Line
monitorenter = does (op.Monitor code.MONITORENTER)

-- a lock is left
abbrev pub monitorexit : Line
monitorexit = does (op.Monitor code.MONITOREXIT)

-- ---- methods

-- the lines in their places, from an address on
abbrev pub placed_from : ℕ → List Line → List Placed
placed_from at [] = []
placed_from at (l ∷ ls) = record { at = at; next = at + 1; op = l.0 } ∷ placed_from (at + 1) ls

-- what they name, in the method of a number
abbrev pub named_from : ℕ → ℕ → List Line → List (Place × Target)
named_from m at [] = []
named_from m at (l ∷ ls) = map (λ t. ((m, at), t)) (option_to_list l.1) ++ named_from m (at + 1) ls

-- an entry of an exception table, and the class that it catches; none catches all
pub record Handler : Type 0 where
  pub start : ℕ
  pub end : ℕ
  pub handler : ℕ
  pub class : Option ℕ

-- a method as it is written; one without lines is abstract
pub record Method : Type 0 where
  pub owner : ℕ
  pub name : List ℕ
  pub desc : MethodDesc
  pub flags : ℕ
  pub max_locals : ℕ
  pub lines : List Line
  pub handlers : List Handler

-- an entry names its class by a pool index, which is 0 where it catches all
abbrev pub table_item : Handler → TableItem
table_item h =
    record
    { start = h.start; end = h.end; handler = h.handler; class = length (option_to_list h.class) }

-- the class of an entry has an address of its own
abbrev pub caught_from : ℕ → ℕ → List Handler → List (Place × Target)
caught_from m i [] = []
caught_from m i (h ∷ hs) =
    map (λ c. ((m, 65536 + i), target.Class c)) (option_to_list h.class) ++ caught_from m (i + 1) hs

-- its code, where it has lines
abbrev pub body_by : Method → List Line → Body
body_by m [] = body.Abstract
body_by m (l ∷ ls) =
    body.Code
    (record { max_stack = 8; max_locals = m.max_locals; ops = placed_from 0 m.lines; table = map table_item m.handlers })

-- the method as a program has it
abbrev pub method_info : Method → MethodInfo
method_info m =
    record
    { owner = m.owner; name = m.name; desc = m.desc; flags = m.flags; body = body_by m m.lines }

-- what the methods name, the first of which has this number, in the order of places
abbrev pub targets_from : ℕ → List Method → List (Place × Target)
targets_from n [] = []
targets_from n (m ∷ ms) =
    named_from n 0 m.lines ++ (caught_from n 0 m.handlers ++ targets_from (n + 1) ms)

-- a method with lines and no handlers
abbrev pub method : ℕ → List ℕ → MethodDesc → ℕ → ℕ → List Line → Method
method owner name desc flags max_locals lines =
    record
    { owner = owner; name = name; desc = desc; flags = flags; max_locals = max_locals; lines = lines; handlers = [] }

-- the same method with handlers
abbrev pub with_handlers : Method → List Handler → Method
with_handlers m hs = record m { handlers = hs }

-- from an address up to another, at a third, of a class and those below it
abbrev pub catches : ℕ → ℕ → ℕ → ℕ → Handler
catches start end handler class =
    record { start = start; end = end; handler = handler; class = Some class }

-- of any class
abbrev pub catches_all : ℕ → ℕ → ℕ → Handler
catches_all start end handler = record { start = start; end = end; handler = handler; class = None }

-- ---- flags (JVMS2 tables 4.4 and 4.5)

-- public
abbrev pub public : ℕ
public = 1

-- public and static
abbrev pub public_static : ℕ
public_static = 9

-- public and synchronized
abbrev pub public_synchronized : ℕ
public_synchronized = 33

-- ---- classes

-- a class below another
abbrev pub class_under : ℕ → List ℕ → List FieldInfo → List ℕ → ClassInfo
class_under above name fields methods =
    record
    { name = name; flags = 33; super_class = Some above; interfaces = []; fields = fields; methods = methods; clinit = None; array = None }

-- an interface
abbrev pub interface_named : List ℕ → List ℕ → ClassInfo
interface_named name methods = record (class_under 0 name [] methods) { flags = 1537 }

-- a class with an initialiser
abbrev pub with_clinit : ℕ → ClassInfo → ClassInfo
with_clinit m c = record c { clinit = Some m }

-- a class of arrays
abbrev pub array_class : List ℕ → Desc → Option ℕ → ClassInfo
array_class name d part =
    record
    { name = name; flags = 1041; super_class = Some 0; interfaces = []; fields = []; methods = []; clinit = None; array = Some (record { dims = d.dims; elem = d.elem; part = part }) }

-- an instance field of a class, at a place
abbrev pub field : ℕ → List ℕ → Desc → ℕ → FieldInfo
field owner name desc place =
    record { owner = owner; name = name; desc = desc; flags = 0; place = place; constant = None }

-- a static one
abbrev pub static_field : ℕ → List ℕ → Desc → ℕ → FieldInfo
static_field owner name desc place =
    record { owner = owner; name = name; desc = desc; flags = 8; place = place; constant = None }

-- the class of arrays of Strings
abbrev pub strings : ClassInfo
strings = array_class (codes "[Ljava/lang/String;") (array text) (Some 2)
