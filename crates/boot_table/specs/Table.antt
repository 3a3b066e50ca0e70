-- The boot classes, in their order: class 0 is java/lang/Object.
use Rattle.std.specs.Prelude.{ℕ, ◌+◌, List, [], ◌∷◌, ◌++◌, Some, None, codes}
use Rattle.boot_table.specs.Rows.{Row, Field, Method, Member, Instruction}
use Rattle.boot_table.specs.Rows.Instruction.{Aload0, Aload1, Areturn, Return, Getfield, Putfield, Invokespecial, Invokeinterface, Ifnull}

-- ---- flags (JVMS2 tables 4.1, 4.4, 4.5)

-- ACC_PUBLIC
abbrev pub public : ℕ
public = 1

-- ACC_PRIVATE
abbrev pub private : ℕ
private = 2

-- ACC_STATIC
abbrev pub static : ℕ
static = 8

-- ACC_FINAL
abbrev pub final : ℕ
final = 16

-- ACC_SUPER, of a class: invokespecial treats superclasses' methods as JVMS2 6 says
abbrev pub supers : ℕ
supers = 32

-- ACC_NATIVE
abbrev pub native : ℕ
native = 256

-- ACC_INTERFACE
abbrev pub interface : ℕ
interface = 512

-- ACC_ABSTRACT
abbrev pub is_abstract : ℕ
is_abstract = 1024

-- ---- names

-- the class at the top
abbrev pub object : List ℕ
object = codes "java/lang/Object"

-- the class of threads
abbrev pub thread : List ℕ
thread = codes "java/lang/Thread"

-- the class of what is thrown
abbrev pub throwable : List ℕ
throwable = codes "java/lang/Throwable"

-- the interface of what a thread runs
abbrev pub runnable : List ℕ
runnable = codes "java/lang/Runnable"

-- the descriptor of a method without parameters and result
abbrev pub plain : List ℕ
plain = codes "()V"

-- of one that is given a String
abbrev pub takes_text : List ℕ
takes_text = codes "(Ljava/lang/String;)V"

-- ---- methods

-- a method without code
abbrev pub bare : ℕ → List ℕ → List ℕ → Method
bare flags name desc = record { flags = flags; name = name; desc = desc; code = None }

-- a native one: the one at k, counted through all boot classes, is intrinsic k
abbrev pub natives : List ℕ → List ℕ → Method
natives name desc = bare (public + native) name desc

-- a public method with code
abbrev pub coded : List ℕ → List ℕ → ℕ → ℕ → List Instruction → Method
coded name desc max_stack max_locals ops = record {
  flags = public;
  name = name;
  desc = desc;
  code = Some (record { max_stack = max_stack; max_locals = max_locals; ops = ops });
}

-- a call of a constructor
abbrev pub constructs : List ℕ → List ℕ → Instruction
constructs class desc = Invokespecial (record { class = class; name = codes "<init>"; desc = desc })

-- a constructor that calls the superclass's
abbrev pub init : List ℕ → Method
init above = coded (codes "<init>") plain 1 1 (Aload0 ∷ constructs above plain ∷ Return ∷ [])

-- one that hands a text up
abbrev pub init_text : List ℕ → Method
init_text above = coded (codes "<init>") takes_text 2 2 (Aload0 ∷ Aload1 ∷ constructs above takes_text ∷ Return ∷ [])

-- one that stores what it is given
abbrev pub init_storing : List ℕ → Member → Method
init_storing desc field =
    coded (codes "<init>") desc 2 2 (Aload0 ∷ constructs object plain ∷ Aload0 ∷ Aload1 ∷ Putfield field ∷ Return ∷ [])

-- ---- fields that code uses

-- the text of what is thrown
abbrev pub message : Member
message = record { class = throwable; name = codes "message"; desc = codes "Ljava/lang/String;" }

-- what a thread runs
abbrev pub target : Member
target = record { class = thread; name = codes "target"; desc = codes "Ljava/lang/Runnable;" }

-- such a field as its class declares it
abbrev pub private_field : Member → Field
private_field m = record { flags = private; name = m.name; desc = m.desc }

-- ---- classes

-- a class right below java/lang/Object
abbrev pub under_object : List ℕ → List (List ℕ) → ℕ → List Field → List Method → Row
under_object name interfaces flags fields methods = record {
  name = name;
  super_class = Some object;
  interfaces = interfaces;
  flags = flags;
  fields = fields;
  methods = methods;
}

-- an exception of these flags
abbrev pub exception_of : ℕ → List ℕ → List ℕ → Row
exception_of flags name above = record {
  name = name;
  super_class = Some above;
  interfaces = [];
  flags = flags;
  fields = [];
  methods = init above ∷ init_text above ∷ [];
}

-- an exception, by its name and its superclass
abbrev pub exception : List ℕ → List ℕ → Row
exception name above = exception_of (public + supers) name above

-- the classes below java/lang/Throwable
unfoldable pub exceptions : List Row
exceptions =
    exception (codes "java/lang/Exception") throwable
    ∷ exception (codes "java/lang/RuntimeException") (codes "java/lang/Exception")
    ∷ exception (codes "java/lang/Error") throwable
    ∷ exception (codes "java/lang/ArithmeticException") (codes "java/lang/RuntimeException")
    ∷ exception (codes "java/lang/NullPointerException") (codes "java/lang/RuntimeException")
    ∷ exception (codes "java/lang/IndexOutOfBoundsException") (codes "java/lang/RuntimeException")
    ∷ exception (codes "java/lang/ArrayIndexOutOfBoundsException") (codes "java/lang/IndexOutOfBoundsException")
    ∷ exception (codes "java/lang/StringIndexOutOfBoundsException") (codes "java/lang/IndexOutOfBoundsException")
    ∷ exception (codes "java/lang/NegativeArraySizeException") (codes "java/lang/RuntimeException")
    ∷ exception (codes "java/lang/ArrayStoreException") (codes "java/lang/RuntimeException")
    ∷ exception (codes "java/lang/ClassCastException") (codes "java/lang/RuntimeException")
    ∷ exception (codes "java/lang/IllegalMonitorStateException") (codes "java/lang/RuntimeException")
    ∷ exception (codes "java/lang/IllegalArgumentException") (codes "java/lang/RuntimeException")
    ∷ exception (codes "java/lang/IllegalThreadStateException") (codes "java/lang/IllegalArgumentException")
    ∷ exception (codes "java/lang/IllegalStateException") (codes "java/lang/RuntimeException")
    ∷ exception (codes "java/lang/InterruptedException") (codes "java/lang/Exception")
    ∷ exception (codes "java/lang/LinkageError") (codes "java/lang/Error")
    ∷ exception (codes "java/lang/ExceptionInInitializerError") (codes "java/lang/LinkageError")
    ∷ exception (codes "java/lang/NoClassDefFoundError") (codes "java/lang/LinkageError")
    ∷ exception (codes "java/lang/IncompatibleClassChangeError") (codes "java/lang/LinkageError")
    ∷ exception (codes "java/lang/AbstractMethodError") (codes "java/lang/IncompatibleClassChangeError")
    ∷ exception (codes "java/lang/IllegalAccessError") (codes "java/lang/IncompatibleClassChangeError")
    ∷ exception_of (public + supers + is_abstract) (codes "java/lang/VirtualMachineError") (codes "java/lang/Error")
    ∷ exception (codes "java/lang/StackOverflowError") (codes "java/lang/VirtualMachineError")
    ∷ exception (codes "java/lang/UnsupportedOperationException") (codes "java/lang/RuntimeException")
    ∷ []

-- the classes up to java/lang/Throwable
unfoldable pub first_rows : List Row
first_rows =
    record {
      name = object;
      super_class = None;
      interfaces = [];
      flags = public + supers;
      fields = [];
      methods =
          coded (codes "<init>") plain 0 1 (Return ∷ [])
          ∷ bare (public + final + native) (codes "wait") plain
          ∷ bare (public + final + native) (codes "notify") plain
          ∷ bare (public + final + native) (codes "notifyAll") plain
          ∷ [];
    }
    ∷ under_object (codes "java/lang/Class") [] (public + final + supers) [] []
    ∷ under_object (codes "java/lang/String") [] (public + final + supers) []
    (natives (codes "length") (codes "()I")
    ∷ natives (codes "charAt") (codes "(I)C")
    ∷ natives (codes "equals") (codes "(Ljava/lang/Object;)Z")
    ∷ natives (codes "concat") (codes "(Ljava/lang/String;)Ljava/lang/String;")
    ∷ bare (public + static + native) (codes "valueOf") (codes "(I)Ljava/lang/String;")
    ∷ bare (public + static + native) (codes "valueOf") (codes "(J)Ljava/lang/String;")
    ∷ [])
    ∷ under_object (codes "java/lang/StringBuffer") [] (public + final + supers) []
    (natives (codes "<init>") plain
    ∷ natives (codes "<init>") takes_text
    ∷ natives (codes "append") (codes "(I)Ljava/lang/StringBuffer;")
    ∷ natives (codes "append") (codes "(J)Ljava/lang/StringBuffer;")
    ∷ natives (codes "append") (codes "(C)Ljava/lang/StringBuffer;")
    ∷ natives (codes "append") (codes "(Z)Ljava/lang/StringBuffer;")
    ∷ natives (codes "append") (codes "(Ljava/lang/String;)Ljava/lang/StringBuffer;")
    ∷ natives (codes "toString") (codes "()Ljava/lang/String;")
    ∷ natives (codes "length") (codes "()I")
    ∷ [])
    ∷ under_object (codes "java/lang/System") [] (public + final + supers)
    (record { flags = public + static + final; name = codes "out"; desc = codes "Ljava/io/PrintStream;" } ∷ []) []
    ∷ under_object (codes "java/io/PrintStream") [] (public + supers) []
    (natives (codes "print") (codes "(I)V")
    ∷ natives (codes "print") (codes "(J)V")
    ∷ natives (codes "print") (codes "(C)V")
    ∷ natives (codes "print") (codes "(Z)V")
    ∷ natives (codes "print") takes_text
    ∷ natives (codes "println") (codes "(I)V")
    ∷ natives (codes "println") (codes "(J)V")
    ∷ natives (codes "println") (codes "(C)V")
    ∷ natives (codes "println") (codes "(Z)V")
    ∷ natives (codes "println") takes_text
    ∷ natives (codes "println") plain
    ∷ [])
    ∷ under_object runnable [] (public + interface + is_abstract) []
    (bare (public + is_abstract) (codes "run") plain ∷ [])
    ∷ under_object thread (runnable ∷ []) (public + supers) (private_field target ∷ [])
    (init object
    ∷ init_storing (codes "(Ljava/lang/Runnable;)V") target
    ∷ coded (codes "run") plain 1 1
    (Aload0
    ∷ Getfield target
    ∷ Ifnull 12
    ∷ Aload0
    ∷ Getfield target
    ∷ Invokeinterface (record { class = runnable; name = codes "run"; desc = plain })
    ∷ Return
    ∷ [])
    ∷ natives (codes "start") plain
    ∷ natives (codes "join") plain
    ∷ bare (public + static + native) (codes "currentThread") (codes "()Ljava/lang/Thread;")
    ∷ bare (public + static + native) (codes "sleep") (codes "(J)V")
    ∷ bare (public + static + native) (codes "yield") plain
    ∷ [])
    ∷ under_object throwable [] (public + supers) (private_field message ∷ [])
    (init object
    ∷ init_storing takes_text message
    ∷ coded (codes "getMessage") (codes "()Ljava/lang/String;") 1 1 (Aload0 ∷ Getfield message ∷ Areturn ∷ [])
    ∷ [])
    ∷ []

-- all boot classes, each at its number
unfoldable pub boot_rows : List Row
boot_rows = first_rows ++ exceptions
