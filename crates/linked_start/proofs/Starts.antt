-- The objects that are there before the first step are of their types.
use Rattle.std.proofs.Common.{◌≡◌, refl, ℕ, List, [], ◌∷◌, ◌++◌}
use Rattle.jvm_base.specs.Descriptors.{desc_of, desc_at, elem_at}
use Rattle.jvm_base.specs.declared.desc.Desc.{Desc}
use Rattle.boot_table.specs.Files.{boot_files}
use Rattle.boot_table.specs.Table.{boot_rows, first_rows, exceptions}
use Rattle.class_format.specs.declared.class.ClassFile.{ClassFile}
use Rattle.link_uses.specs.declared.lookup.Found.{Found}
use Rattle.link_image.specs.Classes.{class_infos}
use Rattle.link_image.specs.Image.{image_of}
use Rattle.flow_types.specs.declared.flow_type.FlowType.TheVariants as flow
use Rattle.machine_state.specs.BootClasses.{system, print_stream}
use Rattle.frame_soundness.specs.Holding.{static_types}
use Rattle.linked_start.specs.Linking.{StartsLaw}
use Rattle.linked_start.proofs.Boot.{stream_class, thread_class}
use Rattle.linked_start.proofs.Constants.{constants}
use Rattle.linked_start.proofs.Strings.{strings_class}

-- System has one static, its stream
out_is : (files : List ClassFile) (arrays : List Desc) (literals : List (List ℕ)) (main : Found) → static_types (image_of (boot_files ++ files) arrays literals main) system ≡ flow.Class print_stream ∷ []
unfolding image_of class_infos boot_files boot_rows first_rows exceptions desc_of desc_at elem_at
out_is files arrays literals main = refl

-- all of it
pub starts_law : StartsLaw
starts_law files arrays literals main right formed given =
    let s = strings_class files arrays literals main right given in
    record {
      constants = constants files arrays literals main right formed;
      out = out_is files arrays literals main;
      stream_class = stream_class files arrays literals main right;
      thread_class = thread_class files arrays literals main right;
      strings_class = (s.info, s.is_array, s.component);
    }
