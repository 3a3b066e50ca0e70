use Rattle.std.proofs.Common.{◌∙◌, refl, ap}
use Rattle.thread_stacks.specs.Segments.{with_top}
use Rattle.thread_stacks.proofs.PlaceLaws.{changed_to, top_there, set_again, said_of}
use Rattle.thread_stacks.proofs.stacks.Stacks.top.Goals as goal

pub returns : goal.returns
returns c =
    let seen = ap (λ s. s.items) c.self.view_is in
    let value = c.index_mut.ensures.value in
    let e = top_there c.args.thread c.index_mut.result.now c.in_ok-place.ensures c.as_slice.ensures.value seen value in (
      (
        refl,
        λ w. said_of c.top.result _ (record {
          items = changed_to (with_top w) c.args.thread c.index_mut.result.now c.in_ok-place.ensures c.as_slice.ensures.value seen value refl;
          room = ap (λ s. s.room) c.self.view_is;
        }),
        set_again c.self.inside.segments.items c.in_ok-place.place c.index_mut.result.now value ∙ seen,
      ),
      record { writes_back = tt; variant = rw e c.top.ensures.variant; value = rw e c.top.ensures.value },
    )
