-- Calls, and what is thrown through them.
use Rattle.std.specs.Prelude.{pos, negsuc, [], ◌∷◌, codes, Some, None}
use Rattle.code_table.specs.declared.op.Op.TheVariants as op
use Rattle.code_table.specs.declared.opcode.TheConstants as code
use Rattle.program_image.specs.Program.{Program}
use Rattle.machine_state.specs.BootClasses.{string, thread, arithmetic}
use Rattle.machine_runs.specs.Assembly.{int, long, text, signature, does, arith, iconst, iload, lload, aload, istore, astore, dup, return, ireturn, lreturn, long_constant, literal, getfield, putfield, invoke, new, checkcast, instanceof, method, public, public_static, class_under, interface_named, field, strings, with_handlers, catches, catches_all}
use Rattle.machine_runs.specs.Boot.{init_calling}
use Rattle.machine_runs.specs.Linked.{linked, main_method, out, println_int, println_long, println_text, calls_init}

-- class Shape { int area() { return 1; } }
-- class Square extends Shape {
--   int side;
--   int area() { return side * side; }
--   int both() { return super.area() + area(); }
-- }
-- interface Sized { int size(); }
-- class Box extends Square implements Sized { public int size() { return side + 1; } }
-- class Calls {
--   static int factorial(int n) { if (n >= 2) return n * factorial(n - 1); return 1; }
--   static long mix(long a, int b, long c) { return a - b * c; }
--   public static void main(String[] args) {
--     System.out.println(factorial(5));
--     Box b = new Box(); b.side = 7;
--     Shape s = b; System.out.println(s.area());
--     System.out.println(b.both());
--     Sized t = b; System.out.println(t.size());
--     System.out.println(mix(1L, 2, 3L));
--   }
-- }
abbrev pub calls : Program
calls =
    linked
    (class_under 0 (codes "Calls") [] (92 ∷ 93 ∷ 94 ∷ [])
    ∷ class_under 0 (codes "Shape") [] (95 ∷ 96 ∷ [])
    ∷ class_under 35 (codes "Square") (field 36 (codes "side") int 0 ∷ []) (97 ∷ 98 ∷ 99 ∷ [])
    ∷ record (class_under 36 (codes "Box") [] (100 ∷ 101 ∷ [])) { interfaces = 38 ∷ [] }
    ∷ interface_named (codes "Sized") (102 ∷ [])
    ∷ strings ∷ [])
    (method 34 (codes "factorial") (signature (int ∷ []) (Some int)) public_static 1
    (iload 0 ∷ iconst (pos 2) ∷ does (op.IfInts code.IF_ICMPLT 10)
    ∷ iload 0 ∷ iload 0 ∷ iconst (pos 1) ∷ arith code.ISUB ∷ invoke code.INVOKESTATIC (int ∷ []) (Some int) 92 ∷ arith code.IMUL ∷ ireturn
    ∷ iconst (pos 1) ∷ ireturn ∷ [])
    ∷ method 34 (codes "mix") (signature (long ∷ int ∷ long ∷ []) (Some long)) public_static 5
    (lload 0 ∷ iload 2 ∷ does (op.Resize code.I2L) ∷ lload 3 ∷ arith code.LMUL ∷ arith code.LSUB ∷ lreturn ∷ [])
    ∷ main_method 34 2
    (out ∷ iconst (pos 5) ∷ invoke code.INVOKESTATIC (int ∷ []) (Some int) 92 ∷ println_int
    ∷ new 37 ∷ dup ∷ calls_init 100 ∷ astore 1 ∷ aload 1 ∷ iconst (pos 7) ∷ putfield int 36 0
    ∷ out ∷ aload 1 ∷ invoke code.INVOKEVIRTUAL [] (Some int) 96 ∷ println_int
    ∷ out ∷ aload 1 ∷ invoke code.INVOKEVIRTUAL [] (Some int) 99 ∷ println_int
    ∷ out ∷ aload 1 ∷ invoke code.INVOKEINTERFACE [] (Some int) 102 ∷ println_int
    ∷ out ∷ long_constant (pos 1) ∷ iconst (pos 2) ∷ long_constant (pos 3) ∷ invoke code.INVOKESTATIC (long ∷ int ∷ long ∷ []) (Some long) 93 ∷ println_long
    ∷ return ∷ [])
    ∷ init_calling 35 0
    ∷ method 35 (codes "area") (signature [] (Some int)) public 1 (iconst (pos 1) ∷ ireturn ∷ [])
    ∷ init_calling 36 95
    ∷ method 36 (codes "area") (signature [] (Some int)) public 1 (aload 0 ∷ getfield int 36 0 ∷ aload 0 ∷ getfield int 36 0 ∷ arith code.IMUL ∷ ireturn ∷ [])
    ∷ method 36 (codes "both") (signature [] (Some int)) public 1
    (aload 0 ∷ invoke code.INVOKESPECIAL [] (Some int) 96 ∷ aload 0 ∷ invoke code.INVOKEVIRTUAL [] (Some int) 98 ∷ arith code.IADD ∷ ireturn ∷ [])
    ∷ init_calling 37 97
    ∷ method 37 (codes "size") (signature [] (Some int)) public 1 (aload 0 ∷ getfield int 36 0 ∷ iconst (pos 1) ∷ arith code.IADD ∷ ireturn ∷ [])
    ∷ method 38 (codes "size") (signature [] (Some int)) 1025 0 []
    ∷ [])
    [] 94

-- class Throwing {
--   static int over(int n) { return 10 / n; }
--   static int guarded(int n) {
--     try { return over(n); } catch (ArithmeticException e) { return -1; }
--     finally { System.out.println(n); }
--   }
--   public static void main(String[] args) {
--     System.out.println(guarded(5));
--     System.out.println(guarded(0));
--     try { throw new IllegalStateException("x"); }
--     catch (RuntimeException e) { System.out.println(e.getMessage()); }
--     Object o = "s";
--     System.out.println(o instanceof String ? 1 : 0);
--     Thread t = (Thread) o;
--   }
-- }
abbrev pub throwing : Program
throwing =
    linked
    (class_under 0 (codes "Throwing") [] (92 ∷ 93 ∷ 94 ∷ []) ∷ strings ∷ [])
    (method 34 (codes "over") (signature (int ∷ []) (Some int)) public_static 1
    (does (op.Push (pos 10)) ∷ iload 0 ∷ does (op.Divide code.IDIV) ∷ ireturn ∷ [])
    ∷ with_handlers
    (method 34 (codes "guarded") (signature (int ∷ []) (Some int)) public_static 3
    (iload 0 ∷ invoke code.INVOKESTATIC (int ∷ []) (Some int) 92 ∷ istore 1
    ∷ out ∷ iload 0 ∷ println_int ∷ iload 1 ∷ ireturn
    ∷ astore 1 ∷ iconst (negsuc 0) ∷ istore 2
    ∷ out ∷ iload 0 ∷ println_int ∷ iload 2 ∷ ireturn
    ∷ astore 1 ∷ out ∷ iload 0 ∷ println_int ∷ aload 1 ∷ does op.Athrow ∷ []))
    (catches 0 3 8 arithmetic ∷ catches_all 0 3 16 ∷ catches_all 8 11 16 ∷ [])
    ∷ with_handlers
    (main_method 34 3
    (out ∷ iconst (pos 5) ∷ invoke code.INVOKESTATIC (int ∷ []) (Some int) 93 ∷ println_int
    ∷ out ∷ iconst (pos 0) ∷ invoke code.INVOKESTATIC (int ∷ []) (Some int) 93 ∷ println_int
    ∷ new 23 ∷ dup ∷ literal 36 ∷ invoke code.INVOKESPECIAL (text ∷ []) None 71 ∷ does op.Athrow
    ∷ astore 1 ∷ out ∷ aload 1 ∷ invoke code.INVOKEVIRTUAL [] (Some text) 41 ∷ println_text
    ∷ literal 37 ∷ astore 2
    ∷ out ∷ aload 2 ∷ instanceof string ∷ println_int
    ∷ aload 2 ∷ checkcast thread ∷ astore 1
    ∷ return ∷ []))
    (catches 8 13 13 10 ∷ [])
    ∷ [])
    (codes "x" ∷ codes "s" ∷ []) 94
