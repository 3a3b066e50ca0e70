use Rattle.std.proofs.Common.{◌≡◌, ◌<◌, Some, length, get_or, slice_get, sym, ◌∙◌, ap, subst, refl}
use Rattle.std.proofs.lemmas.Option.{slice_get-get_or}
use Rattle.hierarchy.specs.Walks.{or_else}
use Rattle.program_image.specs.declared.info.ClassInfo.{ClassInfo}
use Rattle.program_image.proofs.Rows.{there}
use Rattle.program_image.proofs.Upwards.{found_from, rank_in, IsAt, up_unfolds, up_at, up_falls, some_first, none_first}
use Rattle.program_image.proofs.select.find_up.Goals as goal

pub returns-then-is_some : goal.returns-then-is_some
returns-then-is_some c =
    let cs = c.args.classes.now in
    let inside : c.in-Some.k < length cs = subst (IsAt (length cs)) c.in-Some.is c.loop-at.invariant.0 in
    let got = there cs c.in-Some.k inside in
    let info = got.0 in
    let e = got.1 in
    let ms = c.args.methods.now in
    let q = c.args.called in
    let some = sym c.is_some.ensures ∙ c.if-is_some.true in
    sym (c.loop-at.invariant.1 ∙ ap (found_from cs ms q) c.in-Some.is ∙ up_unfolds cs ms c.args.ancestry.now.ranks q c.in-Some.k info c.requires.ancestry.ranked e ∙ ap (λ o. or_else o (found_from cs ms q info.super_class)) (sym c.open_declared-found.ensures) ∙ some_first _ _ some)

pub loop-at-smaller : goal.loop-at-smaller
loop-at-smaller c =
    let cs = c.args.classes.now in
    let inside : c.in-Some.k < length cs = subst (IsAt (length cs)) c.in-Some.is c.loop-at.invariant.0 in
    let info : ClassInfo = get_or cs c.in-Some.k c.index-classes-k.result in
    let e : slice_get cs c.in-Some.k ≡ Some info = slice_get-get_or cs c.in-Some.k c.index-classes-k.result inside in
    let fall = up_falls cs c.args.ancestry.now.ranks c.in-Some.k info info.super_class c.requires.ancestry.ranked e refl in
    subst (λ o. rank_in c.args.ancestry.now.ranks info.super_class < rank_in c.args.ancestry.now.ranks o) (sym c.in-Some.is) fall

pub loop-at-preserved : goal.loop-at-preserved
loop-at-preserved c =
    let cs = c.args.classes.now in
    let inside : c.in-Some.k < length cs = subst (IsAt (length cs)) c.in-Some.is c.loop-at.invariant.0 in
    let info : ClassInfo = get_or cs c.in-Some.k c.index-classes-k.result in
    let e : slice_get cs c.in-Some.k ≡ Some info = slice_get-get_or cs c.in-Some.k c.index-classes-k.result inside in
    let ms = c.args.methods.now in
    let q = c.args.called in
    let none = sym c.is_some.ensures ∙ c.if-is_some.false in (
      up_at cs c.in-Some.k info info.super_class c.requires.ancestry.within e refl,
      c.loop-at.invariant.1 ∙ ap (found_from cs ms q) c.in-Some.is ∙ up_unfolds cs ms c.args.ancestry.now.ranks q c.in-Some.k info c.requires.ancestry.ranked e ∙ ap (λ o. or_else o (found_from cs ms q info.super_class)) (sym c.open_declared-found.ensures) ∙ none_first _ _ none,
    )
