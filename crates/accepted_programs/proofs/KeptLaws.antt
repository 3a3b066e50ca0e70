-- What acceptance owes, put together.
use Rattle.std.proofs.Common.{◌≡◌, ℕ, ◌<◌, List, ◌++◌, length, slice_get, Some}
use Rattle.std.specs.List.{All, AllByRecursion}
use Rattle.std.proofs.lemmas.Option.{slice_get_within}
use Rattle.jvm_base.specs.declared.desc.Desc.{Desc}
use Rattle.jvm_base.specs.declared.pool.PoolItem.{PoolItem}
use Rattle.jvm_base.proofs.Options.{then_some}
use Rattle.boot_table.specs.Files.{boot_files}
use Rattle.boot_table.proofs.BootLaws.{boot_formed}
use Rattle.class_format.specs.Meaning.{IsClass}
use Rattle.class_format.specs.declared.class.ClassFile.{ClassFile}
use Rattle.class_format.proofs.Recursion.{by_recursion}
use Rattle.code_table.specs.declared.code.Code.{Code}
use Rattle.code_table.proofs.Sequencing.{rises}
use Rattle.program_image.specs.Handlers.{code_of, body_code}
use Rattle.program_image.specs.Program.{Program}
use Rattle.link_arrays.specs.Arrays.{array_types}
use Rattle.link_arrays.specs.Literals.{literals}
use Rattle.link_image.specs.Image.{image_of}
use Rattle.link_image.proofs.ListLaws.{all_append, all_more}
use Rattle.class_link.specs.Linked.{linked, start_of}
use Rattle.acceptance.specs.Accepted.{AreAccepted}
use Rattle.acceptance.proofs.LevelLaws.{types_level}
use Rattle.acceptance.proofs.LinkedLaws.{IsLevel}
use Rattle.acceptance.proofs.Verifiable.{one_tree}
use Rattle.flow_types.specs.Tree.{superclasses, IsTree}
use Rattle.program_reads.specs.Whole.{IsWhole}
use Rattle.typed_classes.specs.Tables.{AreClassesTyped}
use Rattle.typed_classes.proofs.ClassLaws.{classes_law}
use Rattle.typed_code.specs.Decoding.{IsFineCode}
use Rattle.typed_code.specs.Framing.{WasDecoded, AreDecoded, HaveTypings}
use Rattle.typed_code.proofs.Allowing.{fine_ops}
use Rattle.typed_code.proofs.Kept.{framing_law}
use Rattle.linked_classes.specs.Linking.{AreRight}
use Rattle.linked_classes.proofs.Above.{table_law}
use Rattle.linked_methods.specs.Linking.{AreMethodsRight, AreRightMembers}
use Rattle.linked_methods.proofs.Methods.{methods_law}
use Rattle.accepted_programs.specs.Kept.{KeptLaw}
use Rattle.accepted_programs.proofs.Reading.{HasByteCode, byte_code, was_read}
use Rattle.accepted_programs.proofs.Rules.{right_above, no_final, no_wrong}
use Rattle.accepted_programs.proofs.Whole.{boot, classes_there, fields_there, methods_there, run_there, supers_there}

module _ (files : List ClassFile) (main : List ℕ) (formed : All IsClass files) (accepted : AreAccepted files main) where
  abbrev p : Program
  p = linked files main

  tree : IsTree (superclasses (linked files main))
  tree = one_tree files main (record { formed = formed; none = accepted.links })

  -- classes lie rightly above one another
  pub right : AreRight files (array_types files) (literals files) (start_of files main)
  right = record {
    right_above = right_above files main accepted.links;
    no_final = no_final files main accepted.links;
    deep = all_more IsLevel (λ (d : Desc). 0 < d.dims) (array_types files) (λ d h. h.0) (types_level files);
    tree = tree;
  }

  classes : AreClassesTyped (linked files main)
  classes = classes_law (linked files main) (table_law files (array_types files) (literals files) (start_of files main) right)

  -- what they declare is of its kind
  pub members : AreRightMembers files
  members = record { formed = by_recursion IsClass files formed; right = no_wrong files main accepted.links }

  methods : AreMethodsRight (linked files main)
  methods = methods_law files (array_types files) (literals files) (start_of files main) right members

  -- all classes have code of bytes
  bytes : AllByRecursion HasByteCode (boot_files ++ files)
  bytes = all_append HasByteCode boot_files files
      (all_more IsClass HasByteCode boot_files byte_code (by_recursion IsClass boot_files boot_formed))
      (all_more IsClass HasByteCode files byte_code (by_recursion IsClass files formed))

  decoded : AreDecoded (linked files main)
  unfolding image_of
  decoded m c e = was_read (boot_files ++ files) bytes m c e

  typings : HaveTypings (linked files main)
  typings m c e =
      let i = then_some (λ info. body_code info.body) (slice_get (linked files main).methods m) c e in
      accepted.typed m (slice_get_within (linked files main).methods m i.0 i.1) (c, e)

  fine : (m : ℕ) (c : Code) → code_of (linked files main) m ≡ Some c → (pool : List PoolItem) × IsFineCode pool c
  fine m c e =
      let d : WasDecoded c = decoded m c e in (
        d.pool,
        record {
          rising = rises d.item.code d.pool c.ops 0 (length d.item.code) d.is_code.covers;
          ops = fine_ops d.pool d.item.code d.bytes 0 c.ops (length d.item.code) d.is_code.covers;
        },
      )

  whole : IsWhole (linked files main)
  whole = record {
    boot = boot files (array_types files) (literals files) (start_of files main);
    supers_in = supers_there files (array_types files) (literals files) (start_of files main) tree;
    classes_in = classes_there files (array_types files) (literals files) (start_of files main);
    fields_in = fields_there files (array_types files) (literals files) (start_of files main);
    methods_in = methods_there files (array_types files) (literals files) (start_of files main);
    run_in = run_there files (array_types files) (literals files) (start_of files main);
    rising = λ m c e. (fine m c e).1.rising;
  }

-- all that is accepted is kept to
pub kept_law : KeptLaw
kept_law files main formed accepted =
    let (types, kept) = framing_law (linked files main) (classes files main formed accepted).subs (decoded files main formed accepted) (typings files main formed accepted) in (
      types,
      record {
        classes = classes files main formed accepted;
        methods = methods files main formed accepted;
        kept = kept;
        fine = fine files main formed accepted;
        whole = whole files main formed accepted;
      },
    )
