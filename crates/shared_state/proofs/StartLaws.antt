-- The state before the first step, part by part.
use Rattle.std.proofs.Common.{◌≡◌, ◌∙◌, sym, refl, ap, ℕ, zero, suc, ◌+◌, ◌<◌, if◌then◌else◌, nat_lt, List, [], ◌∷◌, ◌++◌, drop, length, arith, append_assoc}
use Rattle.jvm_base.specs.Maps.{put}
use Rattle.jvm_base.specs.Names.{name_cmp}
use Rattle.jvm_base.specs.declared.name.Name.{Name}
use Rattle.jvm_base.specs.declared.value.ObjectBody.{ObjectBody}
use Rattle.jvm_base.specs.declared.value.ObjectBody.TheVariants.{Fields, Array}
use Rattle.program_image.specs.Program.{Program}
use Rattle.program_image.specs.Words.{zeros_of}
use Rattle.program_image.specs.declared.info.ClassInfo.{ClassInfo}
use Rattle.machine_state.specs.declared.state.ClassState.{ClassState}
use Rattle.machine_state.specs.declared.state.ClassState.TheVariants.{Done, Untouched}
use Rattle.machine_state.specs.BootClasses.{boot_class_count, print_stream, thread}
use Rattle.machine_state.specs.PreMade.{holder, holders, texts, text_references, first_statics, behind_literals, stream, arguments, main_thread, pre_made}
use Rattle.machine_state.specs.Start.{all_put, first_states}
use Rattle.machine_state.specs.State.{Heap}

-- the rest from a place on begins with an item
drop_some : {A : Type 0} (xs : List A) (i : ℕ) → i < length xs → (x : A) × (drop i xs ≡ x ∷ drop (suc i) xs)
drop_some [] i h = absurd (omega (arith, h))
drop_some (y ∷ ys) zero h = (y, refl)
drop_some (y ∷ ys) (suc i) h = drop_some ys i (omega (arith, h))

-- one class more has its state
pub states_step : (old new : List ClassState) (s : ClassState) (i : ℕ) (ks : List ClassInfo) → i < length ks → new ≡ old ++ s ∷ [] → s ≡ (if nat_lt i boot_class_count then Done else Untouched) → old ++ first_states i (drop i ks) ≡ first_states 0 ks → new ++ first_states (i + 1) (drop (i + 1) ks) ≡ first_states 0 ks
states_step old new s i ks h n e v =
    let d = drop_some ks i h in
    let one : i + 1 ≡ suc i = omega arith in
    let next : first_states i (drop i ks) ≡ s ∷ first_states (i + 1) (drop (i + 1) ks) =
    ap (first_states i) d.1 ∙ (ap (λ k. (if nat_lt i boot_class_count then Done else Untouched) ∷ first_states (i + 1) (drop k ks)) (sym one) ∙ ap (λ x. x ∷ first_states (i + 1) (drop (i + 1) ks)) (sym e)) in
    ap (λ xs. xs ++ first_states (i + 1) (drop (i + 1) ks)) n ∙ (append_assoc old (s ∷ []) (first_states (i + 1) (drop (i + 1) ks)) ∙ (sym (ap (λ xs. old ++ xs) next) ∙ v))

-- and its holder
pub holders_step : (p : Program) (i : ℕ) (ks : List ClassInfo) (heap next first : Heap) → i < length ks → next ≡ put name_cmp (holder i) (Fields (first_statics p i)) heap → all_put (holders p i (drop i ks)) heap ≡ all_put (holders p 0 ks) first → all_put (holders p (i + 1) (drop (i + 1) ks)) next ≡ all_put (holders p 0 ks) first
holders_step p i ks heap next first h n v =
    let d = drop_some ks i h in
    let one : i + 1 ≡ suc i = omega arith in
    ap (all_put (holders p (i + 1) (drop (i + 1) ks))) n ∙ (ap (λ k. all_put (holders p (i + 1) (drop k ks)) (put name_cmp (holder i) (Fields (first_statics p i)) heap)) one ∙ (sym (ap (λ xs. all_put (holders p i xs) heap) d.1) ∙ v))

-- objects that are put in two parts
put_more : (xs ys : List (Name × ObjectBody)) (heap : Heap) → all_put (xs ++ ys) heap ≡ all_put ys (all_put xs heap)
put_more [] ys heap = refl
put_more (x ∷ xs) ys heap = put_more xs ys (put name_cmp x.0 x.1 heap)

-- all objects that are there
pub pre_heap : (p : Program) (args : List (List ℕ)) (a b c d e f : Heap)
    → a ≡ all_put (holders p 0 p.classes) []
    → b ≡ all_put (texts (length p.classes) p.literals) a
    → c ≡ put name_cmp (stream p) (Fields (zeros_of p print_stream)) b
    → d ≡ put name_cmp (arguments p) (Array (text_references (behind_literals p + 2) args)) c
    → e ≡ all_put (texts (behind_literals p + 2) args) d
    → f ≡ put name_cmp (main_thread p (length args)) (Fields (zeros_of p thread)) e
    → f ≡ all_put (pre_made p args) []
pre_heap p args a b c d e f ha hb hc hd he hf =
    let last : List (Name × ObjectBody) = (main_thread p (length args), Fields (zeros_of p thread)) ∷ [] in
    let those : List (Name × ObjectBody) = texts (behind_literals p + 2) args ++ last in
    let array : Name × ObjectBody = (arguments p, Array (text_references (behind_literals p + 2) args)) in
    let these : List (Name × ObjectBody) = (stream p, Fields (zeros_of p print_stream)) ∷ array ∷ those in
    let whole = put_more (holders p 0 p.classes) (texts (length p.classes) p.literals ++ these) [] in
    let literals = put_more (texts (length p.classes) p.literals) these (all_put (holders p 0 p.classes) []) in
    let ab = hb ∙ ap (all_put (texts (length p.classes) p.literals)) ha in
    let ac = hc ∙ ap (put name_cmp (stream p) (Fields (zeros_of p print_stream))) ab in
    let ad = hd ∙ ap (put name_cmp (arguments p) (Array (text_references (behind_literals p + 2) args))) ac in
    let ae = he ∙ ap (all_put (texts (behind_literals p + 2) args)) ad in
    let af = hf ∙ ap (put name_cmp (main_thread p (length args)) (Fields (zeros_of p thread))) ae in
    af ∙ sym (whole ∙ (literals ∙ put_more (texts (behind_literals p + 2) args) last _))
