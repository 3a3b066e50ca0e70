use Rattle.std.proofs.Common.{◌≡◌, ◌∙◌, ◌-◌, ap, length, arith}
use Rattle.jvm_base.specs.Maps.{put}
use Rattle.jvm_base.specs.Names.{name_cmp, named}
use Rattle.jvm_base.specs.declared.value.ObjectBody.TheVariants.{Fields, Array}
use Rattle.machine_state.specs.PreMade.{holders, texts, text_references, behind_literals, stream, arguments, main_thread}
use Rattle.machine_state.specs.Start.{all_put}
use Rattle.shared_state.proofs.StartLaws.{pre_heap}
use Rattle.shared_state.proofs.start.first_heap.Goals as goal

pub returns : goal.returns
returns c =
    let p = c.args.image.now in
    let args = c.args.args.now in
    let o = c.args.opening in
    let a = c.put_holders.new.heap in
    let b = c.put_texts.new.heap in
    let s = c.make.new.self in
    let d = c.make-2.new.self in
    let e = c.put_texts-2.new.heap in
    let index : c.args.first - 2 ≡ behind_literals p = omega (arith, c.requires.first) in
    let out = c.named-out.ensures ∙ ap (named 255 5) index in
    let contents = c.as_slice.ensures ∙ c.literals.ensures in
    pre_heap p args a b s d e c.make-3.new.self
    (c.in_ok-put_holders.ensures ∙ ap (all_put (holders p 0 p.classes)) c.new-heap.ensures)
    (c.in_ok-put_texts.ensures ∙ (ap (λ k. all_put (texts k c.as_slice.result.now) a) c.classes.ensures ∙ ap (λ us. all_put (texts (length p.classes) us) a) contents))
    (c.in_ok-make.ensures.ok ∙ (ap (λ n. put name_cmp n (Fields o.stream) b) out ∙ ap (λ vs. put name_cmp (stream p) (Fields vs) b) c.requires.opening.stream_is))
    (c.in_ok-make-2.ensures.ok ∙ (ap (λ n. put name_cmp n (Array c.in_ok-texts.texts) s) c.requires.opening.array_is ∙ ap (λ vs. put name_cmp (arguments p) (Array vs) s) (c.in_ok-texts.ensures ∙ ap (λ k. text_references k args) c.requires.first)))
    (c.in_ok-put_texts-2.ensures ∙ ap (λ k. all_put (texts k args) d) c.requires.first)
    (c.in_ok-make-3.ensures.ok ∙ (ap (λ n. put name_cmp n (Fields o.thread) e) c.requires.thread ∙ ap (λ vs. put name_cmp (main_thread p (length args)) (Fields vs) e) c.requires.opening.thread_is))
