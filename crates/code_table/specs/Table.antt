-- The instructions (JVMS2 6, 9): one row for each opcode.
use Rattle.std.specs.Prelude.{◌≡◌, ℕ, pos, neg_ℤ, Bool, true, ◌&&◌, nat_lt, List, [], ◌∷◌, map, Option, Some, None, find, ◌==◌}
use Prim.Native.String.{String}
use Rattle.code_table.specs.declared.op.Op.TheVariants.{Nop, AconstNull, Iconst, Lconst, Push, Load, ArrayLoad, Store, ArrayStore, Pop, Dup, Swap, Arith, Divide, Negate, Shift, Bits, Iinc, Resize, Lcmp, IfZero, IfInts, IfRefs, IfNull, Goto, Return, Static, Field, Invoke, New, NewArray, AnewArray, ArrayLength, Athrow, Cast, Monitor, MultiNewArray}
use Rattle.code_table.specs.declared.opcode.TheConstants as op
use Rattle.code_table.specs.Forms.{Form, Alone, Byte, Short, Local, LocalAndByte, Near, Far, Constant, ConstantW, Constant2W, OnField, OnMethod, OnInterface, OnClass, ElementClass, ElementKind, Dimensions, TableSwitch, LookupSwitch, Wide, LeftOut, LeftOutLocal, Unknown}

-- an opcode's mnemonic, its byte, and its form, which holds the instruction that is meant
pub record Row : Type 0 where
  pub name : String
  pub byte : ℕ
  pub form : Form

-- a row of these
abbrev pub row : String → ℕ → Form → Row
row name byte form = record { name = name; byte = byte; form = form }

-- The opcodes by rising bytes; 186 and 202 to 255 have no row. A short form holds its plain form's
-- opcode: `op.ILOAD` is the byte of `iload`, by `named_opcodes`.
unfoldable pub table : List Row
table =
    row "nop" 0 (Alone Nop)
    ∷ row "aconst_null" 1 (Alone AconstNull)
    ∷ row "iconst_m1" 2 (Alone (Iconst (neg_ℤ (pos 1))))
    ∷ row "iconst_0" 3 (Alone (Iconst (pos 0)))
    ∷ row "iconst_1" 4 (Alone (Iconst (pos 1)))
    ∷ row "iconst_2" 5 (Alone (Iconst (pos 2)))
    ∷ row "iconst_3" 6 (Alone (Iconst (pos 3)))
    ∷ row "iconst_4" 7 (Alone (Iconst (pos 4)))
    ∷ row "iconst_5" 8 (Alone (Iconst (pos 5)))
    ∷ row "lconst_0" 9 (Alone (Lconst (pos 0)))
    ∷ row "lconst_1" 10 (Alone (Lconst (pos 1)))
    ∷ row "fconst_0" 11 LeftOut
    ∷ row "fconst_1" 12 LeftOut
    ∷ row "fconst_2" 13 LeftOut
    ∷ row "dconst_0" 14 LeftOut
    ∷ row "dconst_1" 15 LeftOut
    ∷ row "bipush" 16 (Byte Push)
    ∷ row "sipush" 17 (Short Push)
    ∷ row "ldc" 18 Constant
    ∷ row "ldc_w" 19 ConstantW
    ∷ row "ldc2_w" 20 Constant2W
    ∷ row "iload" 21 (Local (Load op.ILOAD))
    ∷ row "lload" 22 (Local (Load op.LLOAD))
    ∷ row "fload" 23 LeftOutLocal
    ∷ row "dload" 24 LeftOutLocal
    ∷ row "aload" 25 (Local (Load op.ALOAD))
    ∷ row "iload_0" 26 (Alone (Load op.ILOAD 0))
    ∷ row "iload_1" 27 (Alone (Load op.ILOAD 1))
    ∷ row "iload_2" 28 (Alone (Load op.ILOAD 2))
    ∷ row "iload_3" 29 (Alone (Load op.ILOAD 3))
    ∷ row "lload_0" 30 (Alone (Load op.LLOAD 0))
    ∷ row "lload_1" 31 (Alone (Load op.LLOAD 1))
    ∷ row "lload_2" 32 (Alone (Load op.LLOAD 2))
    ∷ row "lload_3" 33 (Alone (Load op.LLOAD 3))
    ∷ row "fload_0" 34 LeftOut
    ∷ row "fload_1" 35 LeftOut
    ∷ row "fload_2" 36 LeftOut
    ∷ row "fload_3" 37 LeftOut
    ∷ row "dload_0" 38 LeftOut
    ∷ row "dload_1" 39 LeftOut
    ∷ row "dload_2" 40 LeftOut
    ∷ row "dload_3" 41 LeftOut
    ∷ row "aload_0" 42 (Alone (Load op.ALOAD 0))
    ∷ row "aload_1" 43 (Alone (Load op.ALOAD 1))
    ∷ row "aload_2" 44 (Alone (Load op.ALOAD 2))
    ∷ row "aload_3" 45 (Alone (Load op.ALOAD 3))
    ∷ row "iaload" 46 (Alone (ArrayLoad op.IALOAD))
    ∷ row "laload" 47 (Alone (ArrayLoad op.LALOAD))
    ∷ row "faload" 48 LeftOut
    ∷ row "daload" 49 LeftOut
    ∷ row "aaload" 50 (Alone (ArrayLoad op.AALOAD))
    ∷ row "baload" 51 (Alone (ArrayLoad op.BALOAD))
    ∷ row "caload" 52 (Alone (ArrayLoad op.CALOAD))
    ∷ row "saload" 53 (Alone (ArrayLoad op.SALOAD))
    ∷ row "istore" 54 (Local (Store op.ISTORE))
    ∷ row "lstore" 55 (Local (Store op.LSTORE))
    ∷ row "fstore" 56 LeftOutLocal
    ∷ row "dstore" 57 LeftOutLocal
    ∷ row "astore" 58 (Local (Store op.ASTORE))
    ∷ row "istore_0" 59 (Alone (Store op.ISTORE 0))
    ∷ row "istore_1" 60 (Alone (Store op.ISTORE 1))
    ∷ row "istore_2" 61 (Alone (Store op.ISTORE 2))
    ∷ row "istore_3" 62 (Alone (Store op.ISTORE 3))
    ∷ row "lstore_0" 63 (Alone (Store op.LSTORE 0))
    ∷ row "lstore_1" 64 (Alone (Store op.LSTORE 1))
    ∷ row "lstore_2" 65 (Alone (Store op.LSTORE 2))
    ∷ row "lstore_3" 66 (Alone (Store op.LSTORE 3))
    ∷ row "fstore_0" 67 LeftOut
    ∷ row "fstore_1" 68 LeftOut
    ∷ row "fstore_2" 69 LeftOut
    ∷ row "fstore_3" 70 LeftOut
    ∷ row "dstore_0" 71 LeftOut
    ∷ row "dstore_1" 72 LeftOut
    ∷ row "dstore_2" 73 LeftOut
    ∷ row "dstore_3" 74 LeftOut
    ∷ row "astore_0" 75 (Alone (Store op.ASTORE 0))
    ∷ row "astore_1" 76 (Alone (Store op.ASTORE 1))
    ∷ row "astore_2" 77 (Alone (Store op.ASTORE 2))
    ∷ row "astore_3" 78 (Alone (Store op.ASTORE 3))
    ∷ row "iastore" 79 (Alone (ArrayStore op.IASTORE))
    ∷ row "lastore" 80 (Alone (ArrayStore op.LASTORE))
    ∷ row "fastore" 81 LeftOut
    ∷ row "dastore" 82 LeftOut
    ∷ row "aastore" 83 (Alone (ArrayStore op.AASTORE))
    ∷ row "bastore" 84 (Alone (ArrayStore op.BASTORE))
    ∷ row "castore" 85 (Alone (ArrayStore op.CASTORE))
    ∷ row "sastore" 86 (Alone (ArrayStore op.SASTORE))
    ∷ row "pop" 87 (Alone (Pop op.POP))
    ∷ row "pop2" 88 (Alone (Pop op.POP2))
    ∷ row "dup" 89 (Alone (Dup op.DUP))
    ∷ row "dup_x1" 90 (Alone (Dup op.DUP_X1))
    ∷ row "dup_x2" 91 (Alone (Dup op.DUP_X2))
    ∷ row "dup2" 92 (Alone (Dup op.DUP2))
    ∷ row "dup2_x1" 93 (Alone (Dup op.DUP2_X1))
    ∷ row "dup2_x2" 94 (Alone (Dup op.DUP2_X2))
    ∷ row "swap" 95 (Alone Swap)
    ∷ row "iadd" 96 (Alone (Arith op.IADD))
    ∷ row "ladd" 97 (Alone (Arith op.LADD))
    ∷ row "fadd" 98 LeftOut
    ∷ row "dadd" 99 LeftOut
    ∷ row "isub" 100 (Alone (Arith op.ISUB))
    ∷ row "lsub" 101 (Alone (Arith op.LSUB))
    ∷ row "fsub" 102 LeftOut
    ∷ row "dsub" 103 LeftOut
    ∷ row "imul" 104 (Alone (Arith op.IMUL))
    ∷ row "lmul" 105 (Alone (Arith op.LMUL))
    ∷ row "fmul" 106 LeftOut
    ∷ row "dmul" 107 LeftOut
    ∷ row "idiv" 108 (Alone (Divide op.IDIV))
    ∷ row "ldiv" 109 (Alone (Divide op.LDIV))
    ∷ row "fdiv" 110 LeftOut
    ∷ row "ddiv" 111 LeftOut
    ∷ row "irem" 112 (Alone (Divide op.IREM))
    ∷ row "lrem" 113 (Alone (Divide op.LREM))
    ∷ row "frem" 114 LeftOut
    ∷ row "drem" 115 LeftOut
    ∷ row "ineg" 116 (Alone (Negate op.INEG))
    ∷ row "lneg" 117 (Alone (Negate op.LNEG))
    ∷ row "fneg" 118 LeftOut
    ∷ row "dneg" 119 LeftOut
    ∷ row "ishl" 120 (Alone (Shift op.ISHL))
    ∷ row "lshl" 121 (Alone (Shift op.LSHL))
    ∷ row "ishr" 122 (Alone (Shift op.ISHR))
    ∷ row "lshr" 123 (Alone (Shift op.LSHR))
    ∷ row "iushr" 124 (Alone (Shift op.IUSHR))
    ∷ row "lushr" 125 (Alone (Shift op.LUSHR))
    ∷ row "iand" 126 (Alone (Bits op.IAND))
    ∷ row "land" 127 (Alone (Bits op.LAND))
    ∷ row "ior" 128 (Alone (Bits op.IOR))
    ∷ row "lor" 129 (Alone (Bits op.LOR))
    ∷ row "ixor" 130 (Alone (Bits op.IXOR))
    ∷ row "lxor" 131 (Alone (Bits op.LXOR))
    ∷ row "iinc" 132 (LocalAndByte Iinc)
    ∷ row "i2l" 133 (Alone (Resize op.I2L))
    ∷ row "i2f" 134 LeftOut
    ∷ row "i2d" 135 LeftOut
    ∷ row "l2i" 136 (Alone (Resize op.L2I))
    ∷ row "l2f" 137 LeftOut
    ∷ row "l2d" 138 LeftOut
    ∷ row "f2i" 139 LeftOut
    ∷ row "f2l" 140 LeftOut
    ∷ row "f2d" 141 LeftOut
    ∷ row "d2i" 142 LeftOut
    ∷ row "d2l" 143 LeftOut
    ∷ row "d2f" 144 LeftOut
    ∷ row "i2b" 145 (Alone (Resize op.I2B))
    ∷ row "i2c" 146 (Alone (Resize op.I2C))
    ∷ row "i2s" 147 (Alone (Resize op.I2S))
    ∷ row "lcmp" 148 (Alone Lcmp)
    ∷ row "fcmpl" 149 LeftOut
    ∷ row "fcmpg" 150 LeftOut
    ∷ row "dcmpl" 151 LeftOut
    ∷ row "dcmpg" 152 LeftOut
    ∷ row "ifeq" 153 (Near (IfZero op.IFEQ))
    ∷ row "ifne" 154 (Near (IfZero op.IFNE))
    ∷ row "iflt" 155 (Near (IfZero op.IFLT))
    ∷ row "ifge" 156 (Near (IfZero op.IFGE))
    ∷ row "ifgt" 157 (Near (IfZero op.IFGT))
    ∷ row "ifle" 158 (Near (IfZero op.IFLE))
    ∷ row "if_icmpeq" 159 (Near (IfInts op.IF_ICMPEQ))
    ∷ row "if_icmpne" 160 (Near (IfInts op.IF_ICMPNE))
    ∷ row "if_icmplt" 161 (Near (IfInts op.IF_ICMPLT))
    ∷ row "if_icmpge" 162 (Near (IfInts op.IF_ICMPGE))
    ∷ row "if_icmpgt" 163 (Near (IfInts op.IF_ICMPGT))
    ∷ row "if_icmple" 164 (Near (IfInts op.IF_ICMPLE))
    ∷ row "if_acmpeq" 165 (Near (IfRefs op.IF_ACMPEQ))
    ∷ row "if_acmpne" 166 (Near (IfRefs op.IF_ACMPNE))
    ∷ row "goto" 167 (Near Goto)
    ∷ row "jsr" 168 LeftOut
    ∷ row "ret" 169 LeftOutLocal
    ∷ row "tableswitch" 170 TableSwitch
    ∷ row "lookupswitch" 171 LookupSwitch
    ∷ row "ireturn" 172 (Alone (Return op.IRETURN))
    ∷ row "lreturn" 173 (Alone (Return op.LRETURN))
    ∷ row "freturn" 174 LeftOut
    ∷ row "dreturn" 175 LeftOut
    ∷ row "areturn" 176 (Alone (Return op.ARETURN))
    ∷ row "return" 177 (Alone (Return op.RETURN))
    ∷ row "getstatic" 178 (OnField (Static op.GETSTATIC))
    ∷ row "putstatic" 179 (OnField (Static op.PUTSTATIC))
    ∷ row "getfield" 180 (OnField (Field op.GETFIELD))
    ∷ row "putfield" 181 (OnField (Field op.PUTFIELD))
    ∷ row "invokevirtual" 182 (OnMethod (Invoke op.INVOKEVIRTUAL))
    ∷ row "invokespecial" 183 (OnMethod (Invoke op.INVOKESPECIAL))
    ∷ row "invokestatic" 184 (OnMethod (Invoke op.INVOKESTATIC))
    ∷ row "invokeinterface" 185 (OnInterface (Invoke op.INVOKEINTERFACE))
    ∷ row "new" 187 (OnClass New)
    ∷ row "newarray" 188 (ElementKind NewArray)
    ∷ row "anewarray" 189 (ElementClass AnewArray)
    ∷ row "arraylength" 190 (Alone ArrayLength)
    ∷ row "athrow" 191 (Alone Athrow)
    ∷ row "checkcast" 192 (OnClass (Cast op.CHECKCAST))
    ∷ row "instanceof" 193 (OnClass (Cast op.INSTANCEOF))
    ∷ row "monitorenter" 194 (Alone (Monitor op.MONITORENTER))
    ∷ row "monitorexit" 195 (Alone (Monitor op.MONITOREXIT))
    ∷ row "wide" 196 Wide
    ∷ row "multianewarray" 197 (Dimensions MultiNewArray)
    ∷ row "ifnull" 198 (Near (IfNull op.IFNULL))
    ∷ row "ifnonnull" 199 (Near (IfNull op.IFNONNULL))
    ∷ row "goto_w" 200 (Far Goto)
    ∷ row "jsr_w" 201 LeftOut
    ∷ []

-- the bytes rise from row to row
abbrev pub rise : List ℕ → Bool
rise (a ∷ b ∷ bs) = nat_lt a b && rise (b ∷ bs)
rise _ = true

-- no two rows have one byte, since the bytes rise
abbrev pub IsOrdered : Type 0
IsOrdered = rise (map (λ r. r.byte) table) ≡ true

-- the form of a row, if there is one
abbrev pub form_in : Option Row → Form
form_in (Some r) = r.form
form_in None = Unknown

-- the form of a byte
unfoldable pub form_at : ℕ → Form
form_at byte = form_in (find (λ r. r.byte == byte) table)
