-- What linking and verifying give, put together.
use Rattle.std.proofs.Common.{ℕ, ◌<◌, ◌^◌, List}
use Rattle.std.specs.List.{All}
use Rattle.jvm_base.specs.declared.desc.Desc.{Desc}
use Rattle.class_format.specs.Meaning.{IsClass}
use Rattle.class_format.specs.declared.class.ClassFile.{ClassFile}
use Rattle.link_arrays.specs.Arrays.{array_types}
use Rattle.link_arrays.specs.Literals.{literals}
use Rattle.link_image.proofs.ListLaws.{all_more}
use Rattle.class_link.specs.Linked.{linked, start_of}
use Rattle.acceptance.specs.Accepted.{AreAccepted}
use Rattle.acceptance.proofs.LevelLaws.{types_level}
use Rattle.acceptance.proofs.LinkedLaws.{IsLevel}
use Rattle.acceptance.proofs.RankLaws.{has_ranks}
use Rattle.frame_soundness.specs.AcceptedProgram.{Types, Accepted, Classes, Entries, Starts}
use Rattle.linked_code.specs.Linking.{AreRightUses, IsCodeLinked}
use Rattle.linked_code.proofs.Links.{links_law}
use Rattle.linked_start.specs.Linking.{AreBootRight, AreNativesRight}
use Rattle.linked_start.specs.Premises.{AreGiven}
use Rattle.linked_start.proofs.Boot.{boot_law}
use Rattle.linked_start.proofs.Coded.{code_law}
use Rattle.linked_start.proofs.Entries.{entries_law}
use Rattle.linked_start.proofs.Natives.{natives_law}
use Rattle.linked_start.proofs.Premises.{premises_law}
use Rattle.linked_start.proofs.Starts.{starts_law}
use Rattle.accepted_programs.specs.Kept.{IsKept}
use Rattle.accepted_programs.proofs.KeptLaws.{right, members, kept_law}
use Rattle.accepted_programs.proofs.Rules.{no_missing, no_lacking, no_wrong_use}
use Rattle.runnable_programs.specs.Runnable.{RunnableLaw, HaveCodeLaw}

module _ (files : List ClassFile) (main : List ℕ) (formed : All IsClass files) (accepted : AreAccepted files main) where
  given : AreGiven files main
  given = premises_law files main accepted.links

  -- no rule on code refuses the files
  uses : AreRightUses files
  uses = record {
    decoded = given.decoding;
    named = no_missing files main accepted.links;
    found = no_lacking files main accepted.links;
    suited = no_wrong_use files main accepted.links;
    shallow = all_more IsLevel (λ (d : Desc). d.dims < 2 ^ 8) (array_types files) (λ d h. h.1) (types_level files);
    ranked = has_ranks files main accepted.links;
  }

  links : IsCodeLinked (linked files main)
  links = links_law files (start_of files main) (right files main formed accepted) (members files main formed accepted) uses

  boot : AreBootRight (linked files main)
  boot = boot_law files (array_types files) (literals files) (start_of files main) (right files main formed accepted)

  natives : AreNativesRight (linked files main)
  natives = natives_law files (array_types files) (literals files) (start_of files main) (right files main formed accepted) (members files main formed accepted)

  entries : Entries (linked files main)
  entries = entries_law files (array_types files) (literals files) (start_of files main) (right files main formed accepted) (members files main formed accepted) given.strings given.begins

  begins : Starts (linked files main)
  begins = starts_law files (array_types files) (literals files) (start_of files main) (right files main formed accepted) (members files main formed accepted).formed given.strings

  -- classes and methods are as they are typed, boot classes as a machine uses them
  classes : (types : Types) → IsKept (linked files main) types → Classes (linked files main)
  classes types kept = record {
    fault = boot.fault;
    holders = boot.holders;
    string_class = boot.string_class;
    buffer_class = boot.buffer_class;
    natives = natives;
    strings = kept.classes.strings;
    buffers = kept.classes.buffers;
    supers_fit = kept.classes.supers_fit;
    owners = kept.methods.owners;
    coded_in = kept.methods.coded_in;
    inits = kept.methods.inits;
    parts = kept.classes.parts;
  }

  -- each part of what a machine asks for, in one typing
  typed : (types : Types) → IsKept (linked files main) types → Accepted (linked files main) types
  typed types kept = record {
    subs = kept.classes.subs;
    classes = classes types kept;
    starts = entries;
    begins = begins;
    instructions = kept.kept.instructions;
    entries = kept.kept.entries;
    handlers = kept.kept.handlers;
    links = links;
  }

-- what is accepted can be run
pub runnable_law : RunnableLaw
runnable_law files main formed accepted =
    let (types, kept) = kept_law files main formed accepted in
    record { types = types; accepted = typed files main formed accepted types kept; whole = kept.whole }

-- and what no instruction calls has code
pub have_code_law : HaveCodeLaw
have_code_law files main formed accepted =
    let given : AreGiven files main = premises_law files main accepted.links in
    code_law files (array_types files) (literals files) (start_of files main) (right files main formed accepted) (members files main formed accepted) given.begins given.decoding
