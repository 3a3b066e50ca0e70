-- A program over the boot classes, and lines that programs share.
use Rattle.std.specs.Prelude.{ℕ, List, [], ◌∷◌, ◌++◌, map, codes, None}
use Rattle.code_table.specs.declared.opcode.TheConstants as code
use Rattle.program_image.specs.declared.info.ClassInfo.{ClassInfo}
use Rattle.program_image.specs.Program.{Program}
use Rattle.machine_runs.specs.Assembly.{Line, Method, int, long, char, boolean, object, array, text, signature, getstatic, invoke, method, method_info, targets_from, public_static}
use Rattle.machine_runs.specs.Boot.{boot_classes, boot_methods, boot_targets}

-- with classes from 34 on, methods from 92 on, the contents of literals and the number of `main`
abbrev pub linked : List ClassInfo → List Method → List (List ℕ) → ℕ → Program
linked classes methods literals main = record {
  classes = boot_classes ++ classes;
  methods = boot_methods ++ map method_info methods;
  targets = boot_targets ++ targets_from 92 methods;
  literals = literals;
  main = main;
}

-- `main` of the class of a number, with so many locals
abbrev pub main_method : ℕ → ℕ → List Line → Method
main_method owner max_locals lines =
    method owner (codes "main") (signature (array text ∷ []) None) public_static max_locals lines

-- `System.out`
abbrev pub out : Line
out = getstatic (object (codes "java/io/PrintStream")) 4 0

-- `println` of a type
abbrev pub println_int : Line
println_int = invoke code.INVOKEVIRTUAL (int ∷ []) None 24

-- of a long
abbrev pub println_long : Line
println_long = invoke code.INVOKEVIRTUAL (long ∷ []) None 25

-- of a char
abbrev pub println_char : Line
println_char = invoke code.INVOKEVIRTUAL (char ∷ []) None 26

-- of a boolean
abbrev pub println_boolean : Line
println_boolean = invoke code.INVOKEVIRTUAL (boolean ∷ []) None 27

-- of a String
abbrev pub println_text : Line
println_text = invoke code.INVOKEVIRTUAL (text ∷ []) None 28

-- a constructor of a class without arguments
abbrev pub calls_init : ℕ → Line
calls_init m = invoke code.INVOKESPECIAL [] None m
