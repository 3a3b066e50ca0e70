-- The linked boot classes, with their methods by number (docs/BOOT.md). `boot_is_the_table` says
-- that names and flags are those of the table of boot classes.
use Rattle.std.specs.Prelude.{ℕ, zero, suc, ◌+◌, ◌-◌, ◌*◌, ◌==◌, if◌then◌else◌, List, [], ◌∷◌, ◌++◌, map, codes, Some, None}
use Rattle.jvm_base.specs.declared.desc.Desc.{Desc}
use Rattle.jvm_base.specs.declared.desc.MethodDesc.{MethodDesc}
use Rattle.code_table.specs.declared.op.Op.TheVariants as op
use Rattle.code_table.specs.declared.opcode.TheConstants as code
use Rattle.program_image.specs.declared.info.Body.TheVariants as body
use Rattle.program_image.specs.declared.info.ClassInfo.{ClassInfo}
use Rattle.program_image.specs.declared.info.MethodInfo.{MethodInfo}
use Rattle.program_image.specs.declared.info.Target.{Target}
use Rattle.program_image.specs.Places.{Place}
use Rattle.machine_runs.specs.Assembly.{Method, int, long, char, boolean, object, text, signature, does, aload, return, getfield, putfield, invoke, method, method_info, targets_from, public, field}

-- ---- types

-- StringBuffer
abbrev pub buffer : Desc
buffer = object (codes "java/lang/StringBuffer")

-- Runnable
abbrev pub runnable : Desc
runnable = object (codes "java/lang/Runnable")

-- Object
abbrev pub any_object : Desc
any_object = object (codes "java/lang/Object")

-- Thread
abbrev pub any_thread : Desc
any_thread = object (codes "java/lang/Thread")

-- without arguments and result
abbrev pub plain : MethodDesc
plain = signature [] None

-- ---- methods

-- a native method: which class, its name, its descriptor, and which intrinsic
abbrev pub native_of : ℕ → ℕ → List ℕ → MethodDesc → ℕ → MethodInfo
native_of flags owner name desc k =
    record { owner = owner; name = name; desc = desc; flags = flags; body = body.Intrinsic k }

-- an instance method
abbrev pub native : ℕ → List ℕ → MethodDesc → ℕ → MethodInfo
native owner name desc k = native_of 257 owner name desc k

-- a static one
abbrev pub native_static : ℕ → List ℕ → MethodDesc → ℕ → MethodInfo
native_static owner name desc k = native_of 265 owner name desc k

-- the name of constructors
abbrev pub init_name : List ℕ
init_name = codes "<init>"

-- a constructor that calls the one of a number
abbrev pub init_calling : ℕ → ℕ → Method
init_calling owner above =
    method owner init_name plain public 1
    (aload 0 ∷ invoke code.INVOKESPECIAL [] None above ∷ return ∷ [])

-- one that hands a text up
abbrev pub text_init_calling : ℕ → ℕ → Method
text_init_calling owner above =
    method owner init_name (signature (text ∷ []) None) public 2
    (aload 0 ∷ aload 1 ∷ invoke code.INVOKESPECIAL (text ∷ []) None above ∷ return ∷ [])

-- one that stores its argument in the class's one field
abbrev pub init_storing : ℕ → Desc → Method
init_storing owner d =
    method owner init_name (signature (d ∷ []) None) public 2
    (aload 0 ∷ invoke code.INVOKESPECIAL [] None 0 ∷ aload 0 ∷ aload 1 ∷ putfield d owner 0 ∷ return ∷ [])

-- 0 to 30: Object, String, StringBuffer, PrintStream and Runnable

-- 0
abbrev pub object_init : Method
object_init = method 0 init_name plain public 1 (return ∷ [])

-- the native ones, and `run` of Runnable
abbrev pub native_methods : List MethodInfo
native_methods =
    native_of 273 0 (codes "wait") plain 0
    ∷ native_of 273 0 (codes "notify") plain 1
    ∷ native_of 273 0 (codes "notifyAll") plain 2
    ∷ native 2 (codes "length") (signature [] (Some int)) 3
    ∷ native 2 (codes "charAt") (signature (int ∷ []) (Some char)) 4
    ∷ native 2 (codes "equals") (signature (any_object ∷ []) (Some boolean)) 5
    ∷ native 2 (codes "concat") (signature (text ∷ []) (Some text)) 6
    ∷ native_static 2 (codes "valueOf") (signature (int ∷ []) (Some text)) 7
    ∷ native_static 2 (codes "valueOf") (signature (long ∷ []) (Some text)) 8
    ∷ native 3 init_name plain 9
    ∷ native 3 init_name (signature (text ∷ []) None) 10
    ∷ native 3 (codes "append") (signature (int ∷ []) (Some buffer)) 11
    ∷ native 3 (codes "append") (signature (long ∷ []) (Some buffer)) 12
    ∷ native 3 (codes "append") (signature (char ∷ []) (Some buffer)) 13
    ∷ native 3 (codes "append") (signature (boolean ∷ []) (Some buffer)) 14
    ∷ native 3 (codes "append") (signature (text ∷ []) (Some buffer)) 15
    ∷ native 3 (codes "toString") (signature [] (Some text)) 16
    ∷ native 3 (codes "length") (signature [] (Some int)) 17
    ∷ native 5 (codes "print") (signature (int ∷ []) None) 18
    ∷ native 5 (codes "print") (signature (long ∷ []) None) 19
    ∷ native 5 (codes "print") (signature (char ∷ []) None) 20
    ∷ native 5 (codes "print") (signature (boolean ∷ []) None) 21
    ∷ native 5 (codes "print") (signature (text ∷ []) None) 22
    ∷ native 5 (codes "println") (signature (int ∷ []) None) 23
    ∷ native 5 (codes "println") (signature (long ∷ []) None) 24
    ∷ native 5 (codes "println") (signature (char ∷ []) None) 25
    ∷ native 5 (codes "println") (signature (boolean ∷ []) None) 26
    ∷ native 5 (codes "println") (signature (text ∷ []) None) 27
    ∷ native 5 (codes "println") plain 28
    ∷ record { owner = 6; name = codes "run"; desc = plain; flags = 1025; body = body.Abstract }
    ∷ []

-- 31 to 33: the constructors and `run` of Thread

-- `run` calls that of the target, if there is one
abbrev pub thread_run : Method
thread_run =
    method 7 (codes "run") plain public 1
    (aload 0 ∷ getfield runnable 7 0 ∷ does (op.IfNull code.IFNULL 6) ∷ aload 0 ∷ getfield runnable 7 0 ∷ invoke code.INVOKEINTERFACE [] None 30 ∷ return ∷ [])

-- 31 to 33
abbrev pub thread_code : List Method
thread_code = init_calling 7 0 ∷ init_storing 7 runnable ∷ thread_run ∷ []

-- 34 to 38
abbrev pub thread_natives : List MethodInfo
thread_natives =
    native 7 (codes "start") plain 29
    ∷ native 7 (codes "join") plain 30
    ∷ native_static 7 (codes "currentThread") (signature [] (Some any_thread)) 31
    ∷ native_static 7 (codes "sleep") (signature (long ∷ []) None) 32
    ∷ native_static 7 (codes "yield") plain 33
    ∷ []

-- 39 to 41: Throwable
abbrev pub throwable_code : List Method
throwable_code =
    init_calling 8 0 ∷ init_storing 8 text
    ∷ method 8 (codes "getMessage") (signature [] (Some text)) public 1
    (aload 0 ∷ getfield text 8 0 ∷ does (op.Return code.ARETURN) ∷ [])
    ∷ []

-- the superclasses of 9 to 33
abbrev pub exception_supers : List ℕ
exception_supers =
    8 ∷ 9 ∷ 8 ∷ 10 ∷ 10 ∷ 10 ∷ 14 ∷ 14 ∷ 10 ∷ 10 ∷ 10 ∷ 10 ∷ 10 ∷ 21 ∷ 10 ∷ 9 ∷ 11 ∷ 25 ∷ 25 ∷ 25
    ∷ 28 ∷ 28 ∷ 11 ∷ 31 ∷ 10 ∷ []

-- the first constructor of Throwable or a class below it; the one that is given a text comes next
abbrev pub first_init : ℕ → ℕ
first_init zero = 39
first_init (suc n) = 42 + 2 * n

-- the constructors of classes from one on, with these superclasses, counted from Throwable
abbrev pub exception_code : ℕ → List ℕ → List Method
exception_code c [] = []
exception_code c (above ∷ more) =
    init_calling c (first_init (above - 8)) ∷ text_init_calling c (first_init (above - 8) + 1)
    ∷ exception_code (c + 1) more

-- 39 to 91
abbrev pub late_code : List Method
late_code = throwable_code ++ exception_code 9 exception_supers

-- all methods in order
abbrev pub boot_methods : List MethodInfo
boot_methods =
    method_info object_init
    ∷ (native_methods ++ (map method_info thread_code ++ (thread_natives ++ map method_info late_code)))

-- what their code names
abbrev pub boot_targets : List (Place × Target)
boot_targets =
    targets_from 0 (object_init ∷ []) ++ (targets_from 31 thread_code ++ targets_from 39 late_code)

-- ---- classes

-- so many numbers from one on
abbrev pub numbers_from : ℕ → ℕ → List ℕ
numbers_from n zero = []
numbers_from n (suc k) = n ∷ numbers_from (n + 1) k

-- a class below Object
abbrev pub boot_class : List ℕ → ℕ → List ℕ → ClassInfo
boot_class name flags methods =
    record
    { name = name; flags = flags; super_class = Some 0; interfaces = []; fields = []; methods = methods; clinit = None; array = None }

-- the names of 9 to 33
abbrev pub exception_names : List (List ℕ)
exception_names =
    codes "java/lang/Exception"
    ∷ codes "java/lang/RuntimeException"
    ∷ codes "java/lang/Error"
    ∷ codes "java/lang/ArithmeticException"
    ∷ codes "java/lang/NullPointerException"
    ∷ codes "java/lang/IndexOutOfBoundsException"
    ∷ codes "java/lang/ArrayIndexOutOfBoundsException"
    ∷ codes "java/lang/StringIndexOutOfBoundsException"
    ∷ codes "java/lang/NegativeArraySizeException"
    ∷ codes "java/lang/ArrayStoreException"
    ∷ codes "java/lang/ClassCastException"
    ∷ codes "java/lang/IllegalMonitorStateException"
    ∷ codes "java/lang/IllegalArgumentException"
    ∷ codes "java/lang/IllegalThreadStateException"
    ∷ codes "java/lang/IllegalStateException"
    ∷ codes "java/lang/InterruptedException"
    ∷ codes "java/lang/LinkageError"
    ∷ codes "java/lang/ExceptionInInitializerError"
    ∷ codes "java/lang/NoClassDefFoundError"
    ∷ codes "java/lang/IncompatibleClassChangeError"
    ∷ codes "java/lang/AbstractMethodError"
    ∷ codes "java/lang/IllegalAccessError"
    ∷ codes "java/lang/VirtualMachineError"
    ∷ codes "java/lang/StackOverflowError"
    ∷ codes "java/lang/UnsupportedOperationException"
    ∷ []

-- the classes with these superclasses and names, where the first one's constructor has this number;
-- class 31 alone is abstract
abbrev pub exception_classes : ℕ → List ℕ → List (List ℕ) → List ClassInfo
exception_classes m (above ∷ supers) (name ∷ names) =
    record (boot_class name (if m == 86 then 1057 else 33) (m ∷ (m + 1) ∷ []))
    { super_class = Some above }
    ∷ exception_classes (m + 2) supers names
exception_classes m _ _ = []

-- all classes in order
abbrev pub boot_classes : List ClassInfo
boot_classes =
    record (boot_class (codes "java/lang/Object") 33 (numbers_from 0 4)) { super_class = None }
    ∷ boot_class (codes "java/lang/Class") 49 []
    ∷ boot_class (codes "java/lang/String") 49 (numbers_from 4 6)
    ∷ boot_class (codes "java/lang/StringBuffer") 49 (numbers_from 10 9)
    ∷ record (boot_class (codes "java/lang/System") 49 [])
    { fields = record { owner = 4; name = codes "out"; desc = object (codes "java/io/PrintStream"); flags = 25; place = 0; constant = None } ∷ [] }
    ∷ boot_class (codes "java/io/PrintStream") 33 (numbers_from 19 11)
    ∷ boot_class (codes "java/lang/Runnable") 1537 (30 ∷ [])
    ∷ record (boot_class (codes "java/lang/Thread") 33 (numbers_from 31 8))
    { interfaces = 6 ∷ []; fields = record (field 7 (codes "target") runnable 0) { flags = 2 } ∷ [] }
    ∷ record (boot_class (codes "java/lang/Throwable") 33 (numbers_from 39 3))
    { fields = record (field 8 (codes "message") text 0) { flags = 2 } ∷ [] }
    ∷ exception_classes 42 exception_supers exception_names
