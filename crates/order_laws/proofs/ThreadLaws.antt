-- A Thread object is started once, so no two threads are of one.
use Rattle.std.proofs.Common.{◌≡◌, ℕ, zero, suc, Bool, true, false, cond, List, [], ◌∷◌, ◌++◌, map, Option, Some, None, refl, sym, ap, ◌∙◌, subst}
use Rattle.std.specs.Prelude.{◌||◌, find, slice_get, slice_set}
use Rattle.std.specs.Cmp.{eq_by_cmp_equiv}
use Rattle.std.specs.List.{AllByRecursion, IsDistinct, list_any}
use Rattle.std.proofs.lemmas.List.{map-append}
use Rattle.std.proofs.lemmas.Map.Keys.{IsDistinct-push}
use Rattle.jvm_base.specs.Names.{name_eq}
use Rattle.jvm_base.specs.Words.{from}
use Rattle.jvm_base.specs.declared.name.Name.{Name}
use Rattle.program_image.specs.Condition.{Differ}
use Rattle.program_image.specs.Program.{Program}
use Rattle.machine_state.specs.declared.request.Request.{Request}
use Rattle.machine_state.specs.declared.request.Request.TheVariants.{Start, Join, Finish}
use Rattle.machine_state.specs.declared.state.Choice.{Choice}
use Rattle.machine_state.specs.declared.state.ThreadState.{ThreadState}
use Rattle.machine_state.specs.Changes.{Change, Started, Finished, change, changed, new_thread}
use Rattle.machine_state.specs.Complete.{Stand}
use Rattle.machine_state.specs.Deeds.{Deed}
use Rattle.machine_state.specs.Laws.Locality.{AreAt}
use Rattle.machine_state.specs.Requests.{Key, OfLock, OfThreads, key_of, cell}
use Rattle.machine_state.specs.Runs.{run}
use Rattle.machine_state.specs.Serve.{serve, starts, joins, ends, thread_of}
use Rattle.machine_state.specs.Start.{start}
use Rattle.machine_state.specs.State.{State, is_ended}
use Rattle.machine_state.specs.Step.{Taken, after, moved_on, taken_by, step_of, step}
use Rattle.machine_state.proofs.Endings.{ended_maps}
use Rattle.machine_state.proofs.LocalLaws.{local_served, local_retakes}
use Rattle.machine_state.proofs.NameTests.{names_total, name_itself, some_is}
use Rattle.machine_state.proofs.Sources.{Source, idle, asks, wakes, of_taken}
use Rattle.order_laws.specs.Starting.{OneThreadLaw}

-- the Thread objects of threads
abbrev objects : List ThreadState → List Name
objects ths = map (λ (th : ThreadState). th.object) ths

-- each thread has one of its own
abbrev AreApart : List ThreadState → Type 0
AreApart ths = IsDistinct name_eq (objects ths)

-- changes start threads of objects that none of these and none before it has
abbrev StartNew : List Name → List Change → Type 0
StartNew ns [] = Unit {0}
StartNew ns (Started n ∷ hs) = (list_any (name_eq n) ns ≡ false) × StartNew (ns ++ n ∷ []) hs
StartNew ns (h ∷ hs) = StartNew ns hs

-- ---- changes

-- one more thread, of an object that is new
more_apart : (ths : List ThreadState) (n : Name) → AreApart ths → list_any (name_eq n) (objects ths) ≡ false → AreApart (ths ++ new_thread n ∷ [])
more_apart ths n a e = subst (λ ns. IsDistinct name_eq ns) (sym (map-append (λ (th : ThreadState). th.object) ths (new_thread n ∷ []))) (IsDistinct-push (eq_by_cmp_equiv names_total) (objects ths) n a e)

-- such changes keep the objects apart
changed_apart : (hs : List Change) (m : State) → AreApart m.threads → StartNew (objects m.threads) hs → AreApart (changed hs m).threads
changed_apart [] m a s = a
changed_apart (Started n ∷ hs) m a s = changed_apart hs (change (Started n) m) (more_apart m.threads n a s.0) (subst (λ ns. StartNew ns hs) (sym (map-append (λ (th : ThreadState). th.object) m.threads (new_thread n ∷ []))) s.1)
changed_apart (Finished t ∷ hs) m a s =
    let same = ended_maps (λ (th : ThreadState). th.object) (λ th. refl) m.threads t in
    changed_apart hs (change (Finished t) m) (subst (λ ns. IsDistinct name_eq ns) (sym same) a) (subst (λ ns. StartNew ns hs) (sym same) s)
changed_apart (h ∷ hs) m a s = changed_apart hs (change h m) a s

-- ---- what is served

-- a part that isn't the threads'
abbrev IsElsewhere : Key → Type 0
IsElsewhere OfThreads = ⊥
IsElsewhere k = Unit {0}

-- starts no thread
none_started : (key : Key) (name : Name) → IsElsewhere key → (ns : List Name) (hs : List Change) → AreAt key name hs → StartNew ns hs
none_started key name o ns [] h = tt
none_started key name o ns (Started n ∷ hs) h = absurd (subst (λ k. IsElsewhere k) h.0 o)
none_started key name o ns (h ∷ hs) i = none_started key name o ns hs i.1

-- an object that no thread is found of is new
not_found_is_new : (n : Name) (ths : List ThreadState) → thread_of n (map (λ (th : ThreadState). (th.object, is_ended th.mode)) ths) ≡ None → list_any (name_eq n) (objects ths) ≡ false
not_found_is_new n [] e = refl
not_found_is_new n (th ∷ ths) e = by_test (name_eq th.object n) refl (not_found_is_new n ths) e
  where
    by_test : (b : Bool) → name_eq th.object n ≡ b → (thread_of n (map (λ (th : ThreadState). (th.object, is_ended th.mode)) ths) ≡ None → list_any (name_eq n) (objects ths) ≡ false) → from None (λ (x : Name × Bool). Some x.1) (cond b (Some (th.object, is_ended th.mode)) (find (λ (x : Name × Bool). name_eq x.0 n) (map (λ (th : ThreadState). (th.object, is_ended th.mode)) ths))) ≡ None → (name_eq n th.object || list_any (name_eq n) (objects ths)) ≡ false
    by_test true q f e = absurd cc
    by_test false q f e = let other : name_eq n th.object ≡ false = (eq_by_cmp_equiv names_total).symm n th.object ∙ q in ap (λ (b : Bool). b || list_any (name_eq n) (objects ths)) other ∙ f e

-- an object that has a thread isn't started
starts_new : (p : Program) (name n : Name) (ths : List ThreadState) (o : Option Bool) → thread_of n (map (λ (th : ThreadState). (th.object, is_ended th.mode)) ths) ≡ o → StartNew (objects ths) (starts p name n o).changes
starts_new p name n ths None e = (not_found_is_new n ths e, tt)
starts_new p name n ths (Some b) e = tt

joins_new : (ns : List Name) (o : Option Bool) (d : Deed) → joins o ≡ Some d → StartNew ns d.changes
joins_new ns None d e = subst (λ (x : Deed). StartNew ns x.changes) (some_is e) tt
joins_new ns (Some true) d e = subst (λ (x : Deed). StartNew ns x.changes) (some_is e) tt
joins_new ns (Some false) d e = absurd cc

ends_new : (ns : List Name) (t : ℕ) (e : Option Name) → StartNew ns (ends t e).changes
ends_new ns t None = tt
ends_new ns t (Some e) = tt

-- only a start starts a thread
served_new : (p : Program) (m : State) (c : Choice) (r : Request) (d : Deed) → serve p c.thread c r (cell m (key_of r)) ≡ Some d → StartNew (objects m.threads) d.changes
unfolding serve
served_new p m c (Start n) d e = subst (λ (x : Deed). StartNew (objects m.threads) x.changes) (some_is e) (starts_new p c.name n m.threads _ refl)
served_new p m c (Join n) d e = joins_new (objects m.threads) _ d e
served_new p m c (Finish x) d e = subst (λ (x : Deed). StartNew (objects m.threads) x.changes) (some_is e) (ends_new (objects m.threads) c.thread x)
served_new p m c r d e = none_started (key_of r) c.name tt (objects m.threads) d.changes (local_served p c.thread m c r d e).homes

-- as a step does what it serves
source_new : (p : Program) (m : State) (c : Choice) (d : Deed) → Source p m c d → StartNew (objects m.threads) d.changes
source_new p m c d idle = tt
source_new p m c d (asks r d1 e) = served_new p m c r d1 e
source_new p m c d (wakes n k d1 e) = none_started (OfLock n) c.name tt (objects m.threads) d1.changes (local_retakes m.heap c.name n c.thread k _ _ d1 e).homes

-- ---- steps

-- a thread keeps its object
same_objects : (ths : List ThreadState) (t : ℕ) (th : ThreadState) (s : Stand) → slice_get ths t ≡ Some th → objects (slice_set ths t (after th s)) ≡ objects ths
same_objects [] t th s e = refl
same_objects (x ∷ xs) zero th s e = ap (λ (y : ThreadState). y.object ∷ objects xs) (sym (some_is e))
same_objects (x ∷ xs) (suc t) th s e = ap (λ ns. x.object ∷ ns) (same_objects xs t th s e)

-- a step that is taken keeps them apart
moved_apart : (p : Program) (m : State) (c : Choice) (th : ThreadState) (k : Taken) → slice_get m.threads c.thread ≡ Some th → taken_by p m c th ≡ Some k → AreApart m.threads → AreApart (moved_on m c.thread th k).threads
unfolding moved_on
moved_apart p m c th k e f a =
    let same = same_objects m.threads c.thread th k.stand e in
    changed_apart k.deed.changes (record m { threads = slice_set m.threads c.thread (after th k.stand) })
    (subst (λ ns. IsDistinct name_eq ns) (sym same) a)
    (subst (λ ns. StartNew ns k.deed.changes) (sym same) (source_new p m c k.deed (of_taken p m c th k f)))

-- so does a step
step_apart : (p : Program) (m l : State) (c : Choice) → step p m c ≡ Some l → AreApart m.threads → AreApart l.threads
unfolding step
step_apart p m l c e a = by_thread (slice_get m.threads c.thread) refl e
  where
    by_taken : (th : ThreadState) → slice_get m.threads c.thread ≡ Some th → (o : Option Taken) → taken_by p m c th ≡ o → from None (λ k. Some (moved_on m c.thread th k)) o ≡ Some l → AreApart l.threads
    by_taken th i None f e = absurd cc
    by_taken th i (Some k) f e = subst (λ (x : State). AreApart x.threads) (some_is e) (moved_apart p m c th k i f a)

    by_thread : (o : Option ThreadState) → slice_get m.threads c.thread ≡ o → step_of p m c o ≡ Some l → AreApart l.threads
    by_thread None i e = absurd cc
    by_thread (Some th) i e = by_taken th i (taken_by p m c th) refl e

-- so does a run
run_apart : (p : Program) (m last : State) (order : List Choice) → run p m order ≡ Some last → AreApart m.threads → AreApart last.threads
unfolding run
run_apart p m last [] e a = subst (λ (x : State). AreApart x.threads) (some_is e) a
run_apart p m last (c ∷ cs) e a = by_step (step p m c) refl (λ l. run_apart p l last cs) e
  where
    by_step : (o : Option State) → step p m c ≡ o → ((l : State) → run p l cs ≡ Some last → AreApart l.threads → AreApart last.threads) → from None (λ next. run p next cs) o ≡ Some last → AreApart last.threads
    by_step None s f e = absurd cc
    by_step (Some l) s f e = f l e (step_apart p m l c s a)

-- one thread is apart from none
start_apart : (p : Program) (args : List (List ℕ)) → AreApart (start p args).threads
unfolding start IsDistinct
start_apart p args = (tt, tt)

-- ---- by number

-- a thread among others has an object that none of them has
other_object : (n : Name) (ths : List ThreadState) (i : ℕ) (th : ThreadState) → AllByRecursion (λ (y : Name). name_eq n y ≡ false) (objects ths) → slice_get ths i ≡ Some th → n ≡ th.object → ⊥
other_object n [] i th h e q = absurd cc
other_object n (x ∷ xs) zero th h e q =
    let s : x ≡ th = some_is e in
    let same : name_eq n x.object ≡ true = subst (λ (y : ThreadState). name_eq n y.object ≡ true) (sym s) (subst (λ (y : Name). name_eq n y ≡ true) q (name_itself n)) in
    let other : name_eq n x.object ≡ false = h.0 in
    let z : true ≡ false = sym same ∙ other in absurd cc
other_object n (x ∷ xs) (suc i) th h e q = other_object n xs i th h.1 e q

-- two threads of one object are one
apart_differ : (ths : List ThreadState) → AreApart ths → Differ (λ (th : ThreadState). th.object) ths
unfolding IsDistinct
apart_differ [] a i j x y e f q = absurd cc
apart_differ (th ∷ ths) a zero zero x y e f q = refl
apart_differ (th ∷ ths) a zero (suc j) x y e f q = absurd (other_object th.object ths j y a.0 f (ap (λ (z : ThreadState). z.object) (some_is e) ∙ q))
apart_differ (th ∷ ths) a (suc i) zero x y e f q = absurd (other_object th.object ths i x a.0 e (ap (λ (z : ThreadState). z.object) (some_is f) ∙ sym q))
apart_differ (th ∷ ths) a (suc i) (suc j) x y e f q = ap suc (apart_differ ths a.1 i j x y e f q)

pub one_thread_law : OneThreadLaw
one_thread_law p args order last leads = apart_differ last.threads (run_apart p (start p args) last order leads (start_apart p args))
