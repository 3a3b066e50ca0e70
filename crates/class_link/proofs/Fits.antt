-- Where no rule refuses the files, the parts of their image fit.
use Rattle.std.proofs.Common.{◌≡◌, ℕ, ◌+◌, ◌<◌, ◌≤◌, Bool, true, false, List, [], ◌∷◌, ◌++◌, length, refl, arith}
use Rattle.std.specs.Prelude.{All, if◌then◌else◌}
use Rattle.std.specs.List.{flat_map}
use Rattle.std.proofs.lemmas.Bool.{ltb-false}
use Rattle.boot_table.specs.Files.{boot_files}
use Rattle.class_format.specs.declared.class.ClassFile.{ClassFile}
use Rattle.class_format.specs.Meaning.{IsClass}
use Rattle.link_arrays.specs.Arrays.{array_types}
use Rattle.link_arrays.specs.ArrayClasses.{too_many}
use Rattle.link_arrays.specs.Literals.{literals}
use Rattle.link_arrays.proofs.LiteralLaws.{contents_differ, few_literals}
use Rattle.link_image.specs.Parts.{Fit}
use Rattle.link_members.proofs.LoopLaws.{parts_none}
use Rattle.link_rules.specs.declared.error.LinkErr.{LinkErr}
use Rattle.link_rules.specs.Descriptors.{left_out_desc}
use Rattle.link_rules.specs.Members.{wrong_members, bad_overrides}
use Rattle.link_rules.specs.Numbers.{numbered, methods_at}
use Rattle.link_uses.specs.declared.lookup.Found.{Found}
use Rattle.class_link.specs.Refusals.{declared_refusals, use_refusals, member_refusals}
use Rattle.class_link.proofs.BootLaws.{class_count}
use Rattle.class_link.proofs.Small.{pools_few}

-- where no rule on members refuses the files, none declares what it may not
pub none_wrong : (all : List ClassFile) (first : ℕ) (files : List ClassFile) → member_refusals all first files ≡ [] → flat_map wrong_members files ≡ []
unfolding member_refusals declared_refusals
none_wrong all first files e =
    let members = parts_none (declared_refusals all first files) (use_refusals all first files) e in
    let declared = parts_none (flat_map left_out_desc files) (flat_map wrong_members files ++ numbered (bad_overrides all) first files) members.0 in
    (parts_none (flat_map wrong_members files) (numbered (bad_overrides all) first files) declared.1).0

-- a test that refuses nothing
pub not_refused : (b : Bool) (x : LinkErr) → (if b then x ∷ [] else []) ≡ [] → b ≡ false
not_refused true x e = absurd cc
not_refused false x e = refl

pub fits : (files : List ClassFile) (start : Found) → length files ≤ 1024 → All IsClass files → too_many (34 + length files) files ≡ false → start.place < length (methods_at (boot_files ++ files) start.class) → Fit (boot_files ++ files) (array_types files) (literals files) start
fits files start few formed count inside =
    let all = class_count (boot_files ++ files) files refl in
    let most = ltb-false 16777216 (34 + length files + length (array_types files)) count in
    let texts = few_literals files few (pools_few files formed) in
    record {
      classes = omega arith;
      objects = omega arith;
      differ = contents_differ files;
      main_in = inside;
    }
