use Rattle.std.proofs.Common.{◌≡◌, List, ◌++◌, map, ap, sym, ◌∙◌, subst}
use Rattle.std.proofs.lemmas.List.{map-append}
use Rattle.boot_table.specs.Files.{boot_files}
use Rattle.class_format.specs.declared.class.ClassFile.{ClassFile}
use Rattle.class_names.specs.Classes.{codes_of}
use Rattle.link_arrays.specs.Arrays.{array_types}
use Rattle.link_arrays.specs.Literals.{literals}
use Rattle.link_uses.specs.Items.{HaveItems}
use Rattle.link_uses.proofs.ItemLaws.{items_joined}
use Rattle.link_image.specs.Image.{image_of}
use Rattle.link_image.specs.Parts.{AreSmall, Fit}
use Rattle.link_image.proofs.IsImageLaw.{ok_as}
use Rattle.class_link.proofs.Fits.{fits}
use Rattle.class_link.proofs.Small.{are_small}
use Rattle.class_link.proofs.making.image.Goals as goal

pub build-requires-clause-small : goal.build-requires-clause-small
build-requires-clause-small c =
    subst AreSmall (sym c.requires.program) (are_small c.args.files.now c.requires.few c.requires.formed c.requires.declared)

pub build-requires-clause-fit : goal.build-requires-clause-fit
build-requires-clause-fit c =
    let files : List ClassFile = c.args.files.now in
    let fit = fits files c.args.start c.requires.few c.requires.formed c.requires.count c.requires.start in
    let one = subst (λ z. Fit z (array_types files) (literals files) c.args.start) (sym c.requires.program) fit in
    let two = subst (λ z. Fit c.args.resolver.now z (literals files) c.args.start) (sym c.requires.arrays) one in
    subst (λ z. Fit c.args.resolver.now c.args.arrays.now z c.args.start) (sym c.in_ok-literals.ensures) two

pub build-requires-clause-items : goal.build-requires-clause-items
build-requires-clause-items c =
    let all : List ClassFile = c.args.resolver.now in
    let files : List ClassFile = c.args.files.now in
    let program : c.args.boot.now ++ files ≡ all = ap (λ z. z ++ files) c.requires.boot ∙ sym c.requires.program in
    subst (λ z. HaveItems all z (c.in_ok-boot_items.boot_items ++ c.args.items)) program (items_joined all c.args.boot.now files c.in_ok-boot_items.boot_items c.args.items c.in_ok-boot_items.ensures c.requires.items)

pub build-requires-clause-codes : goal.build-requires-clause-codes
build-requires-clause-codes c =
    let files : List ClassFile = c.args.files.now in
    let boot = c.in_ok-boot_codes.ensures ∙ ap (map codes_of) c.requires.boot in
    ap (λ z. z ++ c.args.codes) boot
    ∙ ap (λ z. map codes_of boot_files ++ z) c.requires.codes
    ∙ sym (map-append codes_of boot_files files)
    ∙ ap (map codes_of) (sym c.requires.program)

pub returns : goal.returns
returns c =
    let files : List ClassFile = c.args.files.now in
    let same : image_of c.args.resolver.now c.args.arrays.now c.in_ok-literals.literals c.args.start ≡ image_of (boot_files ++ files) (array_types files) (literals files) c.args.start =
    ap (λ z. image_of z c.args.arrays.now c.in_ok-literals.literals c.args.start) c.requires.program
    ∙ ap (λ z. image_of (boot_files ++ files) z c.in_ok-literals.literals c.args.start) c.requires.arrays
    ∙ ap (λ z. image_of (boot_files ++ files) (array_types files) z c.args.start) c.in_ok-literals.ensures in
    ok_as c.build.result _ _ same c.build.ensures
