-- The boot classes that the machine itself names, by number (docs/BOOT.md).
use Rattle.std.specs.Prelude.{ℕ}

-- the boot classes are 0 to 33
abbrev pub boot_class_count : ℕ
boot_class_count = 34

-- `java/lang/Class`, whose objects hold the statics of classes
abbrev pub class_class : ℕ
class_class = 1

-- `java/lang/String`
abbrev pub string : ℕ
string = 2

-- `java/lang/System`
abbrev pub system : ℕ
system = 4

-- `java/io/PrintStream`
abbrev pub print_stream : ℕ
print_stream = 5

-- `java/lang/Thread`
abbrev pub thread : ℕ
thread = 7

-- `java/lang/Error`
abbrev pub error : ℕ
error = 11

-- ---- what the machine raises

-- `java/lang/ArithmeticException`
abbrev pub arithmetic : ℕ
arithmetic = 12

-- `java/lang/NullPointerException`
abbrev pub null_pointer : ℕ
null_pointer = 13

-- `java/lang/ArrayIndexOutOfBoundsException`
abbrev pub array_index : ℕ
array_index = 15

-- `java/lang/StringIndexOutOfBoundsException`
abbrev pub string_index : ℕ
string_index = 16

-- `java/lang/NegativeArraySizeException`
abbrev pub negative_size : ℕ
negative_size = 17

-- `java/lang/ArrayStoreException`
abbrev pub array_store : ℕ
array_store = 18

-- `java/lang/ClassCastException`
abbrev pub class_cast : ℕ
class_cast = 19

-- `java/lang/IllegalMonitorStateException`
abbrev pub monitor_state : ℕ
monitor_state = 20

-- `java/lang/IllegalThreadStateException`
abbrev pub thread_state : ℕ
thread_state = 22

-- `java/lang/ExceptionInInitializerError`
abbrev pub initializer_error : ℕ
initializer_error = 26

-- `java/lang/NoClassDefFoundError`
abbrev pub no_class_found : ℕ
no_class_found = 27

-- `java/lang/IncompatibleClassChangeError`
abbrev pub class_change : ℕ
class_change = 28

-- `java/lang/AbstractMethodError`
abbrev pub abstract_method : ℕ
abstract_method = 29

-- `java/lang/IllegalAccessError`
abbrev pub illegal_access : ℕ
illegal_access = 30

-- `java/lang/StackOverflowError`
abbrev pub stack_overflow : ℕ
stack_overflow = 32
