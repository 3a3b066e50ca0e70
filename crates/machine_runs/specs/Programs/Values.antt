-- Numbers, jumps and texts.
use Rattle.std.specs.Prelude.{pos, negsuc, [], ◌∷◌, codes, Some, None}
use Rattle.code_table.specs.declared.op.Op.TheVariants as op
use Rattle.code_table.specs.declared.opcode.TheConstants as code
use Rattle.program_image.specs.Program.{Program}
use Rattle.machine_runs.specs.Assembly.{int, long, char, boolean, text, does, arith, iconst, iload, lload, aload, istore, lstore, astore, dup, goto, return, constant, long_constant, literal, invoke, new, class_under, strings}
use Rattle.machine_runs.specs.Boot.{buffer, any_object}
use Rattle.machine_runs.specs.Linked.{linked, main_method, out, println_int, println_long, println_char, println_boolean, println_text}

-- class Numbers {
--   public static void main(String[] args) {
--     int x = -2147483648, y = -1;
--     System.out.println(x / y); System.out.println(x % y);
--     System.out.println(-7 >> 1); System.out.println(-7 >>> 28);
--     long z = 1L << 40;
--     System.out.println(z); int w = (int) (z >> 9); System.out.println(w * w);
--     System.out.println((byte) 200); System.out.println((char) 65601); System.out.println((short) 40000);
--     int k = 7;
--     switch (k) { case 5: k = 1; break; case 6: k = 2; break; case 7: k = 3; break; default: k = 4; }
--     switch (k) { case -100: k = 5; break; case 3: k = 6; break; default: k = 7; }
--     System.out.println(k);
--     System.out.println(5L > 4L ? 1 : 0);
--     System.out.println(x - 1);
--   }
-- }
abbrev pub numbers : Program
numbers =
    linked
    (class_under 0 (codes "Numbers") [] (92 ∷ []) ∷ strings ∷ [])
    (main_method 34 6
    (constant (negsuc 2147483647) ∷ istore 1 ∷ iconst (negsuc 0) ∷ istore 2
    ∷ out ∷ iload 1 ∷ iload 2 ∷ does (op.Divide code.IDIV) ∷ println_int
    ∷ out ∷ iload 1 ∷ iload 2 ∷ does (op.Divide code.IREM) ∷ println_int
    ∷ out ∷ does (op.Push (negsuc 6)) ∷ iconst (pos 1) ∷ does (op.Shift code.ISHR) ∷ println_int
    ∷ out ∷ does (op.Push (negsuc 6)) ∷ does (op.Push (pos 28)) ∷ does (op.Shift code.IUSHR) ∷ println_int
    ∷ long_constant (pos 1) ∷ does (op.Push (pos 40)) ∷ does (op.Shift code.LSHL) ∷ lstore 3
    ∷ out ∷ lload 3 ∷ println_long
    ∷ out ∷ lload 3 ∷ does (op.Push (pos 9)) ∷ does (op.Shift code.LSHR) ∷ does (op.Resize code.L2I) ∷ dup ∷ arith code.IMUL ∷ println_int
    ∷ out ∷ does (op.Push (pos 200)) ∷ does (op.Resize code.I2B) ∷ println_int
    ∷ out ∷ constant (pos 65601) ∷ does (op.Resize code.I2C) ∷ println_char
    ∷ out ∷ constant (pos 40000) ∷ does (op.Resize code.I2S) ∷ println_int
    ∷ does (op.Push (pos 7)) ∷ istore 5
    ∷ iload 5 ∷ does (op.TableSwitch 64 (pos 5) (pos 7) (55 ∷ 58 ∷ 61 ∷ []))
    ∷ iconst (pos 1) ∷ istore 5 ∷ goto 66
    ∷ iconst (pos 2) ∷ istore 5 ∷ goto 66
    ∷ iconst (pos 3) ∷ istore 5 ∷ goto 66
    ∷ iconst (pos 4) ∷ istore 5
    ∷ iload 5 ∷ does (op.LookupSwitch 74 ((negsuc 99, 68) ∷ (pos 3, 71) ∷ []))
    ∷ iconst (pos 5) ∷ istore 5 ∷ goto 76
    ∷ does (op.Push (pos 6)) ∷ istore 5 ∷ goto 76
    ∷ does (op.Push (pos 7)) ∷ istore 5
    ∷ out ∷ iload 5 ∷ println_int
    ∷ out ∷ long_constant (pos 5) ∷ long_constant (pos 4) ∷ does op.Lcmp ∷ does (op.IfZero code.IFLE 86) ∷ iconst (pos 1) ∷ goto 87 ∷ iconst (pos 0) ∷ println_int
    ∷ out ∷ iload 1 ∷ iconst (pos 1) ∷ arith code.ISUB ∷ println_int
    ∷ return ∷ [])
    ∷ [])
    [] 92

-- class Texts {
--   public static void main(String[] args) {
--     StringBuffer b = new StringBuffer();
--     b.append("n=").append(7L).append('c').append(true).append((String) null);
--     System.out.println(b.toString());
--     System.out.println("abc".charAt(1));
--     System.out.println("ab".concat("c").equals("abc"));
--     System.out.println("abc".equals(b));
--     System.out.println(String.valueOf(-5).length());
--     System.out.println("".charAt(0));
--   }
-- }
abbrev pub texts : Program
texts =
    linked
    (class_under 0 (codes "Texts") [] (92 ∷ []) ∷ strings ∷ [])
    (main_method 34 2
    (new 3 ∷ dup ∷ invoke code.INVOKESPECIAL [] None 10 ∷ astore 1
    ∷ aload 1 ∷ literal 36 ∷ invoke code.INVOKEVIRTUAL (text ∷ []) (Some buffer) 16
    ∷ long_constant (pos 7) ∷ invoke code.INVOKEVIRTUAL (long ∷ []) (Some buffer) 13
    ∷ does (op.Push (pos 99)) ∷ invoke code.INVOKEVIRTUAL (char ∷ []) (Some buffer) 14
    ∷ iconst (pos 1) ∷ invoke code.INVOKEVIRTUAL (boolean ∷ []) (Some buffer) 15
    ∷ does op.AconstNull ∷ invoke code.INVOKEVIRTUAL (text ∷ []) (Some buffer) 16 ∷ does (op.Pop code.POP)
    ∷ out ∷ aload 1 ∷ invoke code.INVOKEVIRTUAL [] (Some text) 17 ∷ println_text
    ∷ out ∷ literal 37 ∷ iconst (pos 1) ∷ invoke code.INVOKEVIRTUAL (int ∷ []) (Some char) 5 ∷ println_char
    ∷ out ∷ literal 38 ∷ literal 39 ∷ invoke code.INVOKEVIRTUAL (text ∷ []) (Some text) 7 ∷ literal 37
    ∷ invoke code.INVOKEVIRTUAL (any_object ∷ []) (Some boolean) 6 ∷ println_boolean
    ∷ out ∷ literal 37 ∷ aload 1 ∷ invoke code.INVOKEVIRTUAL (any_object ∷ []) (Some boolean) 6 ∷ println_boolean
    ∷ out ∷ does (op.Push (negsuc 4)) ∷ invoke code.INVOKESTATIC (int ∷ []) (Some text) 8 ∷ invoke code.INVOKEVIRTUAL [] (Some int) 4 ∷ println_int
    ∷ out ∷ literal 40 ∷ iconst (pos 0) ∷ invoke code.INVOKEVIRTUAL (int ∷ []) (Some char) 5 ∷ println_char
    ∷ return ∷ [])
    ∷ [])
    (codes "n=" ∷ codes "abc" ∷ codes "ab" ∷ codes "c" ∷ [] ∷ []) 92
