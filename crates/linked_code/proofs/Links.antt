-- What each instruction of an image names is there and of its kind.
use Rattle.std.proofs.Common.{◌≡◌, refl, ℕ, List, ◌++◌, Some}
use Rattle.boot_table.specs.Files.{boot_files}
use Rattle.class_format.specs.declared.class.ClassFile.{ClassFile}
use Rattle.code_table.specs.declared.code.Placed.{Placed}
use Rattle.code_table.specs.declared.op.Op.{Op}
use Rattle.code_table.specs.declared.op.Op.TheVariants as op
use Rattle.link_arrays.specs.Arrays.{array_types}
use Rattle.link_arrays.specs.Literals.{literals}
use Rattle.link_image.specs.Image.{image_of}
use Rattle.link_uses.specs.declared.lookup.Found.{Found}
use Rattle.program_image.specs.Program.{Program, target_of}
use Rattle.program_image.specs.Words.{instruction_at}
use Rattle.frame_soundness.specs.AcceptedProgram.{IsLinked, IsSwitch}
use Rattle.linked_classes.specs.Linking.{AreRight}
use Rattle.linked_methods.specs.Linking.{AreRightMembers}
use Rattle.linked_code.specs.Linking.{AreRightUses, LinksLaw}
use Rattle.linked_code.proofs.Codes.{IsOpAt, all_formed, op_there}
use Rattle.linked_code.proofs.Members.{reads_static, calls}
use Rattle.linked_code.proofs.Named.{loads, loads_wide, makes, makes_kind, makes_over, makes_many}
use Rattle.linked_code.proofs.Objects.{reads_field}

module _ (files : List ClassFile) (main : Found) (right : AreRight files (array_types files) (literals files) main) (members : AreRightMembers files) (uses : AreRightUses files) where
  abbrev p : Program
  p = image_of (boot_files ++ files) (array_types files) (literals files) main

  -- the instruction of an address is declared
  there : (m at : ℕ) (o : Placed) → instruction_at p m at ≡ Some o → IsOpAt (boot_files ++ files) m at o
  unfolding image_of
  there m at o e = op_there (boot_files ++ files) (all_formed files members.formed) m at o e

  -- by its opcode
  linked : (m at : ℕ) (o : Placed) → IsOpAt (boot_files ++ files) m at o → (z : Op) → o.op ≡ z → IsSwitch z → IsLinked p z (target_of p m at)
  linked m at o x (op.Ldc i) e s = loads files main right members uses m at o x i e
  linked m at o x (op.Ldc2 i) e s = loads_wide files main right members uses m at o x i e
  linked m at o x (op.Static k i d) e s = reads_static files main right members uses m at o x k i d e
  linked m at o x (op.Field k i d) e s = reads_field files main right members uses m at o x k i d e
  linked m at o x (op.Invoke k i d) e s = calls files main right members uses m at o x k i d e
  linked m at o x (op.New i) e s = makes files main right members uses m at o x i e
  linked m at o x (op.NewArray k) e s = makes_kind files main right members uses m at o x k e
  linked m at o x (op.AnewArray i) e s = makes_over files main right members uses m at o x i e
  linked m at o x (op.MultiNewArray i n) e s = makes_many files main right members uses m at o x i n e
  linked m at o x _ e s = s

-- the links of an image are right
pub links_law : LinksLaw
links_law files main right members uses m at o e =
    let x : IsOpAt (boot_files ++ files) m at o = there files main right members uses m at o e in
    linked files main right members uses m at o x o.op refl x.fine.switches
