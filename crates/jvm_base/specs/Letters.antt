-- The characters of descriptors, JVMS2 4.3.
use Rattle.std.specs.Prelude.{ℕ}

-- `B`
abbrev pub byte_letter : ℕ
byte_letter = 66

-- `C`
abbrev pub char_letter : ℕ
char_letter = 67

-- `D`
abbrev pub double_letter : ℕ
double_letter = 68

-- `F`
abbrev pub float_letter : ℕ
float_letter = 70

-- `I`
abbrev pub int_letter : ℕ
int_letter = 73

-- `J`
abbrev pub long_letter : ℕ
long_letter = 74

-- `L`, in front of a class's name
abbrev pub class_letter : ℕ
class_letter = 76

-- `S`
abbrev pub short_letter : ℕ
short_letter = 83

-- `Z`
abbrev pub boolean_letter : ℕ
boolean_letter = 90

-- `V`, for no result
abbrev pub void_letter : ℕ
void_letter = 86

-- `[`, one for each dimension
abbrev pub array_letter : ℕ
array_letter = 91

-- `;`, behind a class's name
abbrev pub class_end : ℕ
class_end = 59

-- `(`, in front of the parameters
abbrev pub args_begin : ℕ
args_begin = 40

-- `)`, behind the parameters
abbrev pub args_end : ℕ
args_end = 41
