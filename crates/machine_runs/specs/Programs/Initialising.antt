-- Statics and initialisers.
use Rattle.std.specs.Prelude.{ℕ, pos, List, [], ◌∷◌, codes, Some, None}
use Rattle.jvm_base.specs.declared.value.Value.TheVariants.{Int}
use Rattle.code_table.specs.declared.op.Op.TheVariants as op
use Rattle.code_table.specs.declared.opcode.TheConstants as code
use Rattle.program_image.specs.Program.{Program}
use Rattle.machine_state.specs.BootClasses.{initializer_error, no_class_found}
use Rattle.machine_runs.specs.Assembly.{Method, Line, int, signature, does, arith, iconst, astore, goto, return, ireturn, literal, getstatic, putstatic, invoke, new, dup, method, public_static, class_under, with_clinit, static_field, strings, with_handlers, catches}
use Rattle.machine_runs.specs.Boot.{plain}
use Rattle.machine_runs.specs.Linked.{linked, main_method, out, println_int, println_text, calls_init}

-- the initialiser of a class
abbrev pub clinit : ℕ → List Line → Method
clinit owner lines = method owner (codes "<clinit>") plain 8 0 lines

-- class Base { static int x; static { System.out.println("Base"); x = 5; } }
-- class Derived extends Base {
--   static final int K = 7; static int y;
--   static { System.out.println("Derived"); y = Base.x * 2; }
-- }
-- class Statics {
--   static int z;
--   public static void main(String[] args) {
--     System.out.println(z + Derived.K);
--     System.out.println(Derived.y);
--     Derived.y = 3;
--     System.out.println(Derived.y);
--     z = 4;
--     System.out.println(z);
--   }
-- }
abbrev pub statics : Program
statics =
    linked
    (class_under 0 (codes "Statics") (static_field 34 (codes "z") int 0 ∷ []) (92 ∷ [])
    ∷ with_clinit 93 (class_under 0 (codes "Base") (static_field 35 (codes "x") int 0 ∷ []) (93 ∷ []))
    ∷ with_clinit 94 (class_under 35 (codes "Derived")
    (record (static_field 36 (codes "K") int 0) { flags = 24; constant = Some (Int (pos 7)) } ∷ static_field 36 (codes "y") int 1 ∷ []) (94 ∷ []))
    ∷ strings ∷ [])
    (main_method 34 1
    (out ∷ getstatic int 34 0 ∷ getstatic int 36 0 ∷ arith code.IADD ∷ println_int
    ∷ out ∷ getstatic int 36 1 ∷ println_int
    ∷ iconst (pos 3) ∷ putstatic int 36 1
    ∷ out ∷ getstatic int 36 1 ∷ println_int
    ∷ iconst (pos 4) ∷ putstatic int 34 0
    ∷ out ∷ getstatic int 34 0 ∷ println_int
    ∷ return ∷ [])
    ∷ clinit 35 (out ∷ literal 38 ∷ println_text ∷ iconst (pos 5) ∷ putstatic int 35 0 ∷ return ∷ [])
    ∷ clinit 36 (out ∷ literal 39 ∷ println_text ∷ getstatic int 35 0 ∷ iconst (pos 2) ∷ arith code.IMUL ∷ putstatic int 36 1 ∷ return ∷ [])
    ∷ [])
    (codes "Base" ∷ codes "Derived" ∷ []) 92

-- class Bad { static int x = 1 / zero(); static int zero() { return 0; } }
-- class Failing {
--   public static void main(String[] args) {
--     try { System.out.println(Bad.x); } catch (ExceptionInInitializerError e) { System.out.println(1); }
--     try { System.out.println(Bad.x); } catch (NoClassDefFoundError e) { System.out.println(2); }
--     new Object().notify();
--   }
-- }
abbrev pub failing : Program
failing =
    linked
    (class_under 0 (codes "Failing") [] (92 ∷ [])
    ∷ with_clinit 93 (class_under 0 (codes "Bad") (static_field 35 (codes "x") int 0 ∷ []) (93 ∷ 94 ∷ []))
    ∷ strings ∷ [])
    (with_handlers
    (main_method 34 2
    (out ∷ getstatic int 35 0 ∷ println_int ∷ goto 8
    ∷ astore 1 ∷ out ∷ iconst (pos 1) ∷ println_int
    ∷ out ∷ getstatic int 35 0 ∷ println_int ∷ goto 16
    ∷ astore 1 ∷ out ∷ iconst (pos 2) ∷ println_int
    ∷ new 0 ∷ dup ∷ calls_init 0 ∷ invoke code.INVOKEVIRTUAL [] None 2
    ∷ return ∷ []))
    (catches 0 3 4 initializer_error ∷ catches 8 11 12 no_class_found ∷ [])
    ∷ clinit 35 (iconst (pos 1) ∷ invoke code.INVOKESTATIC [] (Some int) 94 ∷ does (op.Divide code.IDIV) ∷ putstatic int 35 0 ∷ return ∷ [])
    ∷ method 35 (codes "zero") (signature [] (Some int)) public_static 0 (iconst (pos 0) ∷ ireturn ∷ [])
    ∷ [])
    [] 92
