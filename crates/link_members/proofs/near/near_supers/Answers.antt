use Rattle.std.proofs.Common.{rules, ◌≡◌, ℕ, ◌<◌, Bool, Option, None, [], length, get_or, ap, ◌∙◌, arith}
use Rattle.std.specs.Prelude.{◌==◌, if◌then◌else◌}
use Rattle.std.specs.List.{list_any}
use Rattle.std.proofs.lemmas.List.{get_or_default, get_or-replicate, length-map, take_at}
use Rattle.link_rules.specs.Numbers.{super_rows, super_row}
use Rattle.link_members.specs.Declarations.{near_at, near_to, is_other}
use Rattle.link_members.proofs.SuperLaws.{any_above}
use Rattle.link_members.proofs.near.near_supers.Goals as goal

pub returns : goal.returns
returns c = λ k h.
    let all = c.args.program.now in
    let q : ℕ → Bool = λ j. j == k in
    let p : ℕ → Bool = is_other c.args.number k in
    let x : Option Bool = near_to all c.args.f.now k in
    let count : length c.deref_mut.result.now ≡ length c.args.supers.now = c.deref_mut.ensures.len ∙ c.in_ok-near.ensures.len in
    let inside : k < length c.deref_mut.result.now = (let a = length-map all (super_row all) in let b = c.requires.walked.same in omega arith) in
    let same : c.from_vec.result ≡ c.mark_all.new.near = c.from_vec.ensures ∙ take_at c.mark_all.new.near _ _ (c.mark_all.ensures.long ∙ c.deref_mut.ensures.len) in
    let blank : near_at c.deref_mut.result.now k ≡ None = ap (λ z. near_at z k) (c.deref_mut.ensures.value ∙ c.in_ok-near.ensures.items_if_clones_equal (λ y h. search rules)) ∙ get_or-replicate (length c.args.supers.now) k None None (let b = count in omega arith) in
    let there : c.args.number < length c.args.supers.now = let s = c.requires.walked.same in let i = c.requires.inside in omega arith in
    let row : c.as_slice-walk.result.now ≡ get_or c.args.supers.now c.args.number [] = c.as_slice-walk.ensures ∙ c.index-supers-number.is ∙ get_or_default c.args.supers.now c.args.number _ [] there in
    ap (λ z. near_at z k) same
    ∙ c.mark_all.ensures.marked k inside
    ∙ ap (λ z. if list_any p c.as_slice-walk.result.now then x else z) blank
    ∙ ap (λ b. if b then x else None) (ap (list_any p) row ∙ any_above (super_rows all) c.args.supers.now c.args.ranks.now c.args.number q c.requires.ranked c.requires.walked c.requires.inside)
