use Rattle.std.proofs.Common.{◌<◌, ℕ, Bool, take, slice_index, ap, sym, subst, ◌∙◌}
use Rattle.std.specs.Prelude.{if◌then◌else◌}
use Rattle.std.specs.List.{list_any}
use Rattle.std.proofs.lemmas.List.Folds.{list_any_more}
use Rattle.link_members.specs.Declarations.{near_at, near_to, is_other}
use Rattle.link_members.proofs.NearLaws.{one_mark}
use Rattle.link_members.proofs.near.mark_all.Goals as goal

pub loop-k-preserved : goal.loop-k-preserved
loop-k-preserved c = record {
  long = c.mark.ensures.long ∙ c.loop-k.invariant.long;
  marked = λ d h.
      let p : ℕ → Bool = is_other c.args.number d in
      let x = near_to c.args.program.now c.args.f.now d in
      let old = near_at c.args.near.now d in
      one_mark x old (near_at c.loop-k.near d) (near_at c.mark.new.near d) (list_any p (take c.loop-k.k-index c.args.walk.now)) (p (slice_index c.args.walk.now c.loop-k.k-index)) (c.loop-k.invariant.marked d h) (c.mark.ensures.marked d (subst (λ n. d < n) (sym c.loop-k.invariant.long) h))
      ∙ ap (λ b. if b then x else old) (sym (list_any_more p c.args.walk.now c.loop-k.k-index 0 c.loop-k-test.true));
}
