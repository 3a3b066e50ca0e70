use Rattle.std.proofs.Common.{◌≡◌, ◌∙◌, ◌∷◌, [], ◌++◌, Some, slice_get, sym, ap}
use Rattle.std.specs.Prelude.{if◌then◌else◌}
use Rattle.std.specs.BTreeMap.{is_at}
use Rattle.std.proofs.lemmas.Option.{slice_get-get_or}
use Rattle.program_image.specs.Built.Alike.{candidates, glance, glance_cmp, text_of}
use Rattle.program_image.proofs.AlikeLaws.{one_more}
use Rattle.program_image.proofs.alike.alike.Goals as goal

pub loop-class-preserved : goal.loop-class-preserved
loop-class-preserved c =
    let classes = c.args.classes.now in
    let i = c.loop-class.class in
    let k = c.index-classes-class.result in
    let olds = c.loop-class.alike.entries in
    let there : slice_get classes i ≡ Some k = slice_get-get_or classes i k c.loop-class-test.true ∙ ap Some (sym c.index-classes-class.is) in
    let seen : c.glance-seen.result ≡ glance (text_of c.args.by k) = c.glance-seen.ensures ∙ ap glance c.text_of.ensures in
    one_more c.args.by classes i k olds c.add.new.alike.entries there
    (λ other. c.in_ok-add.ensures other ∙ ap (λ s. candidates olds other ++ (if is_at (glance_cmp s) other then i ∷ [] else [])) seen)
    c.loop-class.invariant
