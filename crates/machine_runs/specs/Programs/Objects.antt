-- Fields and arrays.
use Rattle.std.specs.Prelude.{pos, [], ◌∷◌, codes, Some, None}
use Rattle.code_table.specs.declared.element_kind.TheConstants as kind
use Rattle.code_table.specs.declared.op.Op.TheVariants as op
use Rattle.code_table.specs.declared.opcode.TheConstants as code
use Rattle.program_image.specs.Program.{Program}
use Rattle.machine_state.specs.BootClasses.{array_store}
use Rattle.machine_runs.specs.Assembly.{int, long, array, does, arith, iconst, aload, astore, dup, goto, return, long_constant, getfield, putfield, new, anewarray, multianewarray, class_under, array_class, field, strings, with_handlers, catches}
use Rattle.machine_runs.specs.Boot.{init_calling}
use Rattle.machine_runs.specs.Linked.{linked, main_method, out, println_int, calls_init}

-- class Fields {
--   int x; long y;
--   public static void main(String[] args) {
--     Fields f = new Fields();
--     f.x = 3; f.y = 4L;
--     System.out.println(f.x + (int) f.y);
--     f = null;
--     System.out.println(f.x);
--   }
-- }
abbrev pub fields : Program
fields =
    linked
    (class_under 0 (codes "Fields") (field 34 (codes "x") int 0 ∷ field 34 (codes "y") long 1 ∷ []) (92 ∷ 93 ∷ []) ∷ strings ∷ [])
    (init_calling 34 0
    ∷ main_method 34 2
    (new 34 ∷ dup ∷ calls_init 92 ∷ astore 1
    ∷ aload 1 ∷ iconst (pos 3) ∷ putfield int 34 0
    ∷ aload 1 ∷ long_constant (pos 4) ∷ putfield long 34 1
    ∷ out ∷ aload 1 ∷ getfield int 34 0 ∷ aload 1 ∷ getfield long 34 1 ∷ does (op.Resize code.L2I) ∷ arith code.IADD ∷ println_int
    ∷ does op.AconstNull ∷ astore 1
    ∷ out ∷ aload 1 ∷ getfield int 34 0 ∷ println_int
    ∷ return ∷ [])
    ∷ [])
    [] 93

-- class Arrays {
--   public static void main(String[] args) {
--     int[] a = new int[3];
--     a[0] = 5; a[2] = 7;
--     System.out.println(a[0] + a[2] + a.length);
--     int[][] b = new int[2][3];
--     b[1][2] = 9;
--     System.out.println(b[1][2] + b[0].length);
--     Object[] c = new String[1];
--     try { c[0] = b; } catch (ArrayStoreException e) { System.out.println(1); }
--     a[3] = 1;
--   }
-- }
abbrev pub arrays : Program
arrays =
    linked
    (class_under 0 (codes "Arrays") [] (92 ∷ [])
    ∷ strings ∷ array_class (codes "[I") (array int) None ∷ array_class (codes "[[I") (array (array int)) (Some 36) ∷ [])
    (with_handlers
    (main_method 34 5
    (iconst (pos 3) ∷ does (op.NewArray kind.T_INT) ∷ astore 1
    ∷ aload 1 ∷ iconst (pos 0) ∷ iconst (pos 5) ∷ does (op.ArrayStore code.IASTORE)
    ∷ aload 1 ∷ iconst (pos 2) ∷ iconst (pos 7) ∷ does (op.ArrayStore code.IASTORE)
    ∷ out ∷ aload 1 ∷ iconst (pos 0) ∷ does (op.ArrayLoad code.IALOAD) ∷ aload 1 ∷ iconst (pos 2) ∷ does (op.ArrayLoad code.IALOAD) ∷ arith code.IADD
    ∷ aload 1 ∷ does op.ArrayLength ∷ arith code.IADD ∷ println_int
    ∷ iconst (pos 2) ∷ iconst (pos 3) ∷ multianewarray 37 2 ∷ astore 2
    ∷ aload 2 ∷ iconst (pos 1) ∷ does (op.ArrayLoad code.AALOAD) ∷ iconst (pos 2) ∷ iconst (pos 9) ∷ does (op.ArrayStore code.IASTORE)
    ∷ out ∷ aload 2 ∷ iconst (pos 1) ∷ does (op.ArrayLoad code.AALOAD) ∷ iconst (pos 2) ∷ does (op.ArrayLoad code.IALOAD)
    ∷ aload 2 ∷ iconst (pos 0) ∷ does (op.ArrayLoad code.AALOAD) ∷ does op.ArrayLength ∷ arith code.IADD ∷ println_int
    ∷ iconst (pos 1) ∷ anewarray 2 ∷ astore 3
    ∷ aload 3 ∷ iconst (pos 0) ∷ aload 2 ∷ does (op.ArrayStore code.AASTORE) ∷ goto 57
    ∷ astore 4 ∷ out ∷ iconst (pos 1) ∷ println_int
    ∷ aload 1 ∷ iconst (pos 3) ∷ iconst (pos 1) ∷ does (op.ArrayStore code.IASTORE)
    ∷ return ∷ []))
    (catches 48 52 53 array_store ∷ [])
    ∷ [])
    [] 92
