-- Arrays of arrays, level by level.
use Rattle.std.proofs.Common.{◌≡◌, ℕ, zero, suc, ◌+◌, ◌*◌, ◌-◌, ◌<◌, ◌≤◌, ◌^◌, Bool, true, false, ◌==◌, List, [], ◌∷◌, ◌++◌, length, map, get_or, take, drop, Option, Some, None, refl, sym, ap, subst, ◌∙◌, arith, append_assoc}
use Rattle.std.proofs.Math.Nat.{mul-le-mul_left}
use Rattle.std.proofs.Math.Seq.{take-length}
use Rattle.std.proofs.lemmas.Bool.{le-leb}
use Rattle.std.proofs.lemmas.List.{length-map, map-append, length-append, length-replicate}
use Rattle.std.specs.Prelude.{◌&&◌, ◌≢◌, replicate, is_none, is_some, nat_le, nat_eq, not, Result, IfOk, MatchOption}
use Rattle.jvm_base.specs.Names.{named}
use Rattle.jvm_base.specs.declared.name.Name.{Name}
use Rattle.jvm_base.specs.declared.value.ObjectBody.{ObjectBody}
use Rattle.jvm_base.specs.declared.value.ObjectBody.TheVariants.{Array}
use Rattle.jvm_base.specs.declared.value.Value.{Value}
use Rattle.jvm_base.specs.declared.value.Value.TheVariants.{Ref}
use Rattle.program_image.specs.Program.{Program}
use Rattle.machine_state.specs.Making.{arrays, elements, levels, part_class, references, making, made_objects}
use Rattle.machine_state.specs.Changes.{Change, Made}
use Rattle.machine_state.specs.Deeds.{Deed}
use Rattle.machine_state.specs.PreMade.{no_node}
use Rattle.machine_state.specs.Serving.{Meets, change_of, changes_of}
use Rattle.machine_state.specs.declared.request.Answer.TheVariants.{Gives}
use Rattle.machine_state.specs.declared.served.Effects.{Effects}
use Rattle.machine_state.specs.declared.served.Effects.TheVariants as effects
use Rattle.machine_state.specs.declared.served.Served.{Served}
use Rattle.machine_state.specs.declared.served.Wish.{Wish}
use Rattle.machine_state.specs.declared.state.Choice.{Choice}
use Rattle.jvm_base.specs.declared.memory.NoMemory.{NoMemory}
use Rattle.machine_state.specs.declared.served.Effect.{Effect}
use Rattle.machine_state.specs.declared.served.Effect.TheVariants as effect
use Rattle.machine_state.specs.Serve.{all_new, name_fits}
use Rattle.machine_state.specs.State.{Heap, body_at}
use Rattle.step_serve.specs.Levels.{array_count}
use Rattle.step_serve.specs.Telling.{Tells}
use Rattle.step_serve.specs.declared.arrays.Level.{Level}

-- ---- how many

length-arrays : (p : Program) (node c n index first s : ℕ) (below : List ℕ) → length (arrays p node c n index first (s ∷ below)) ≡ n
length-arrays p node c zero index first s below = refl
length-arrays p node c (suc n) index first s below = ap suc (length-arrays p node c n (index + 1) (first + s) s below)

-- as many as are counted
pub length-levels : (p : Program) (node c count index : ℕ) (sizes : List ℕ) → length (levels p node c count index sizes) ≡ array_count count sizes
length-levels p node c count index [] = refl
length-levels p node c count index (s ∷ ss) =
    omega (
      arith,
      length-append (arrays p node c count index (index + count) (s ∷ ss)) (levels p node (part_class p c) (count * s) (index + count) ss),
      length-arrays p node c count index (index + count) s ss,
      length-levels p node (part_class p c) (count * s) (index + count) ss,
    )

-- ---- their classes

-- one level has one class
classes-arrays : (p : Program) (node c n index first s : ℕ) (below : List ℕ) → map (λ (o : Name × ObjectBody). o.0.class) (arrays p node c n index first (s ∷ below)) ≡ replicate n c
classes-arrays p node c zero index first s below = refl
classes-arrays p node c (suc n) index first s below = ap (λ (cs : List ℕ). c ∷ cs) (classes-arrays p node c n (index + 1) (first + s) s below)

both : (a b c : Bool) → (a && (b && c)) ≡ ((a && b) && c)
both true b c = refl
both false b c = refl

-- names of two lists are new where those of both are
new-append : (heap : Heap) (node index n : ℕ) (xs ys : List ℕ) → length xs ≡ n → all_new heap node index (xs ++ ys) ≡ (all_new heap node index xs && all_new heap node (index + n) ys)
new-append heap node index n [] ys e = ap (λ (i : ℕ). all_new heap node i ys) (omega (arith, e))
new-append heap node index n (x ∷ xs) ys e =
    ap (λ (b : Bool). is_none (body_at heap (named node x index)) && b)
    (new-append heap node (index + 1) (length xs) xs ys refl ∙ ap (λ (i : ℕ). all_new heap node (index + 1) xs && all_new heap node i ys) (omega (arith, e)))
    ∙ both (is_none (body_at heap (named node x index))) _ _

-- those of all levels are new where those of the first one and of the levels below are
pub new-levels : (heap : Heap) (p : Program) (node c count index s : ℕ) (ss : List ℕ) →
    all_new heap node index (map (λ (o : Name × ObjectBody). o.0.class) (levels p node c count index (s ∷ ss)))
    ≡ (all_new heap node index (replicate count c) && all_new heap node (index + count) (map (λ (o : Name × ObjectBody). o.0.class) (levels p node (part_class p c) (count * s) (index + count) ss)))
new-levels heap p node c count index s ss =
    ap (all_new heap node index) (map-append (λ (o : Name × ObjectBody). o.0.class) (arrays p node c count index (index + count) (s ∷ ss)) (levels p node (part_class p c) (count * s) (index + count) ss)
    ∙ ap (λ (cs : List ℕ). cs ++ map (λ (o : Name × ObjectBody). o.0.class) (levels p node (part_class p c) (count * s) (index + count) ss)) (classes-arrays p node c count index (index + count) s ss))
    ∙ new-append heap node index count (replicate count c) _ (length-replicate count c)

-- what is behind the first size
below_is : (s : ℕ) (ss : List ℕ) → take (length (s ∷ ss) - 1) (drop 1 (s ∷ ss)) ≡ ss
below_is s ss =
    let few : length (s ∷ ss) - 1 ≡ length ss = omega arith in
    ap (λ (n : ℕ). take n ss) few ∙ take-length ss

-- the level below
abbrev lower : Program → Level → ℕ → Level
lower p l s = record {
  node = l.node;
  class = part_class p l.class;
  count = l.count * s;
  index = l.index + l.count;
}

-- whether the names of all levels are new
abbrev are_new : Heap → Program → Level → List ℕ → Bool
are_new heap p l sizes = all_new heap l.node l.index (map (λ (o : Name × ObjectBody). o.0.class) (levels p l.node l.class l.count l.index sizes))

-- the first level's are
pub new-then : (heap : Heap) (p : Program) (l next : Level) (sizes : List ℕ) (a b : Bool) → 1 ≤ length sizes → a ≡ all_new heap l.node l.index (replicate l.count l.class) → a ≡ true
    → next ≡ lower p l (get_or sizes 0 0) → b ≡ are_new heap p next (take (length sizes - 1) (drop 1 sizes)) → b ≡ are_new heap p l sizes
new-then heap p l next [] a b some new is e h = absurd (omega (arith, some))
new-then heap p l next (s ∷ ss) a b some new is e h =
    h ∙ ap (λ (n : Level). are_new heap p n (take (length (s ∷ ss) - 1) (drop 1 (s ∷ ss)))) e
    ∙ ap (are_new heap p (lower p l s)) (below_is s ss)
    ∙ sym (ap (λ (x : Bool). x && are_new heap p (lower p l s) ss) (sym new ∙ is))
    ∙ sym (new-levels heap p l.node l.class l.count l.index s ss)

-- or not
pub new-else : (heap : Heap) (p : Program) (l : Level) (sizes : List ℕ) (a : Bool) → 1 ≤ length sizes → a ≡ all_new heap l.node l.index (replicate l.count l.class) → a ≡ false → a ≡ are_new heap p l sizes
new-else heap p l [] a some new is = absurd (omega (arith, some))
new-else heap p l (s ∷ ss) a some new is =
    is ∙ sym (ap (λ (x : Bool). x && are_new heap p (lower p l s) ss) (sym new ∙ is))
    ∙ sym (new-levels heap p l.node l.class l.count l.index s ss)

none_of : (o : Option ObjectBody) → is_some o ≡ false → is_none o ≡ true
none_of None e = refl
none_of (Some b) e = absurd cc

-- one name of a level after the other
pub new-next : (heap : Heap) (node c index end : ℕ) → index < end → is_some (body_at heap (named node c index)) ≡ false → all_new heap node index (replicate (end - index) c) ≡ all_new heap node (index + 1) (replicate (end - (index + 1)) c)
new-next heap node c index end lt e =
    let left : end - index ≡ suc (end - (index + 1)) = omega (arith, lt) in
    ap (λ (k : ℕ). all_new heap node index (replicate k c)) left
    ∙ ap (λ (b : Bool). b && all_new heap node (index + 1) (replicate (end - (index + 1)) c)) (none_of _ e)

-- ---- what they hold

-- one reference after the other
pub references-next : (node c index end : ℕ) (vs : List Value) → index < end → (vs ++ Ref (named node c index) ∷ []) ++ references node c (index + 1) (end - (index + 1)) ≡ vs ++ references node c index (end - index)
references-next node c index end vs lt =
    let left : suc (end - (index + 1)) ≡ end - index = omega (arith, lt) in
    append_assoc vs (Ref (named node c index) ∷ []) (references node c (index + 1) (end - (index + 1)))
    ∙ ap (λ (k : ℕ). vs ++ references node c index k) left

room_for : (index count place s : ℕ) (below : List ℕ) → 1 ≤ length below → place < count → index + array_count count (s ∷ below) ≤ 2 ^ 32 → index + count + place * s + s ≤ 2 ^ 32
room_for index count place s [] some lt le = absurd (omega (arith, some))
room_for index count place s (b ∷ bs) some lt le =
    let more : place + 1 ≤ count = omega (arith, lt) in
    omega (arith, le, mul-le-mul_left s more)

-- the arrays of the level below are among those that are counted
pub room : (index count place s : ℕ) (below : List ℕ) (n k : ℕ) → 1 ≤ length below → place < count → index + array_count count (s ∷ below) ≤ 2 ^ 32 → n ≡ index + count → k ≡ s → n + place * k + s ≤ 2 ^ 32
room index count place s below n k some lt le e h =
    subst (λ (x : ℕ). x + place * k + s ≤ 2 ^ 32) (sym e)
    (subst (λ (x : ℕ). index + count + place * x + s ≤ 2 ^ 32) (sym h) (room_for index count place s below some lt le))

-- the effects of arrays
abbrev made_all : List (Name × ObjectBody) → List Effect
made_all os = map (λ (o : Name × ObjectBody). effect.Made o.0 o.1) os

-- one array after the other
pub arrays-next : (p : Program) (node c count index place s : ℕ) (below : List ℕ) (es : List Effect) → place < count →
    (es ++ effect.Made (named node c (index + place)) (Array (elements p node c (index + count + place * s) s below)) ∷ [])
    ++ map (λ (o : Name × ObjectBody). effect.Made o.0 o.1) (arrays p node c (count - (place + 1)) (index + (place + 1)) (index + count + (place + 1) * s) (s ∷ below))
    ≡ es ++ map (λ (o : Name × ObjectBody). effect.Made o.0 o.1) (arrays p node c (count - place) (index + place) (index + count + place * s) (s ∷ below))
arrays-next p node c count index place s below es lt =
    let left : suc (count - (place + 1)) ≡ count - place = omega (arith, lt) in
    let first : index + count + (place + 1) * s ≡ index + count + place * s + s = omega arith in
    let next : index + (place + 1) ≡ index + place + 1 = omega arith in
    append_assoc es (effect.Made (named node c (index + place)) (Array (elements p node c (index + count + place * s) s below)) ∷ []) _
    ∙ ap (λ (os : List (Name × ObjectBody)). es ++ effect.Made (named node c (index + place)) (Array (elements p node c (index + count + place * s) s below)) ∷ made_all os)
    (ap (λ (f : ℕ). arrays p node c (count - (place + 1)) (index + (place + 1)) f (s ∷ below)) first
    ∙ ap (λ (i : ℕ). arrays p node c (count - (place + 1)) i (index + count + place * s + s) (s ∷ below)) next)
    ∙ ap (λ (k : ℕ). es ++ made_all (arrays p node c k (index + place) (index + count + place * s) (s ∷ below))) left

-- all levels are one level and those below it
pub levels-made : (p : Program) (node c count index s : ℕ) (ss : List ℕ) (old mid new : List Effect) →
    mid ≡ old ++ map (λ (o : Name × ObjectBody). effect.Made o.0 o.1) (arrays p node c count index (index + count) (s ∷ ss))
    → new ≡ mid ++ map (λ (o : Name × ObjectBody). effect.Made o.0 o.1) (levels p node (part_class p c) (count * s) (index + count) ss)
    → new ≡ old ++ map (λ (o : Name × ObjectBody). effect.Made o.0 o.1) (levels p node c count index (s ∷ ss))
levels-made p node c count index s ss old mid new e h =
    let upper = arrays p node c count index (index + count) (s ∷ ss) in
    let lower = levels p node (part_class p c) (count * s) (index + count) ss in
    h ∙ ap (λ (es : List Effect). es ++ made_all lower) e
    ∙ append_assoc old (made_all upper) (made_all lower)
    ∙ ap (λ (es : List Effect). old ++ es) (sym (map-append (λ (o : Name × ObjectBody). effect.Made o.0 o.1) upper lower))

-- ---- what is told

-- effects are changes
effects_are : (heap : Heap) (os : List (Name × ObjectBody)) → map (change_of heap) (map (λ (o : Name × ObjectBody). effect.Made o.0 o.1) os) ≡ map (λ (o : Name × ObjectBody). Made o.0 o.1) os
effects_are heap [] = refl
effects_are heap (o ∷ os) = ap (λ (cs : List Change). Made o.0 o.1 ∷ cs) (effects_are heap os)

-- the classes of objects
abbrev classes_of : List (Name × ObjectBody) → List ℕ
classes_of os = map (λ (o : Name × ObjectBody). o.0.class) os

-- what is made with sizes are all their levels
objects_are : (p : Program) (name : Name) (c : ℕ) (sizes : List ℕ) → sizes ≢ [] → made_objects p name c sizes ≡ levels p name.node c 1 name.index sizes
objects_are p name c [] ne = absurd (ne refl)
objects_are p name c (s ∷ ss) ne = refl

-- whether a name fits so many
abbrev fits_by : Bool → Bool → Bool → Bool → Bool
fits_by a b c d = not a && (b && (c && d))

one_and : (n : ℕ) → 1 + n ≡ suc n
one_and n = omega arith

fits_are : (heap : Heap) (p : Program) (name : Name) (c : ℕ) (sizes : List ℕ) → sizes ≢ [] →
    name_fits heap name (classes_of (made_objects p name c sizes))
    ≡ fits_by (name.node == no_node) (name.class == c) (nat_le (name.index + array_count 1 sizes) (2 ^ 32)) (all_new heap name.node name.index (classes_of (levels p name.node c 1 name.index sizes)))
fits_are heap p name c [] ne = absurd (ne refl)
fits_are heap p name c (s ∷ ss) ne =
    ap (λ (n : ℕ). fits_by (name.node == no_node) (name.class == c) (nat_le (name.index + n) (2 ^ 32)) (all_new heap name.node name.index (classes_of (levels p name.node c 1 name.index (s ∷ ss)))))
    (one_and (length (classes_of (levels p name.node (part_class p c) (1 * s) (name.index + 1) ss)))
    ∙ length-map (levels p name.node c 1 name.index (s ∷ ss)) (λ (o : Name × ObjectBody). o.0.class) ∙ length-levels p name.node c 1 name.index (s ∷ ss))

-- the node makes nothing
pub no_fit_node : (heap : Heap) (p : Program) (name : Name) (c : ℕ) (sizes : List ℕ) → sizes ≢ [] → (name.node == no_node) ≡ true → name_fits heap name (classes_of (made_objects p name c sizes)) ≡ false
no_fit_node heap p name c sizes ne e =
    fits_are heap p name c sizes ne
    ∙ ap (λ (b : Bool). fits_by b (name.class == c) (nat_le (name.index + array_count 1 sizes) (2 ^ 32)) (all_new heap name.node name.index (classes_of (levels p name.node c 1 name.index sizes)))) e

not_so : (a x y : Bool) → fits_by a false x y ≡ false
not_so true x y = refl
not_so false x y = refl

not_few : (a b x : Bool) → fits_by a b false x ≡ false
not_few true b x = refl
not_few false true x = refl
not_few false false x = refl

-- the class is another one
pub no_fit_class : (heap : Heap) (p : Program) (name : Name) (c : ℕ) (sizes : List ℕ) → sizes ≢ [] → (name.class == c) ≡ false → name_fits heap name (classes_of (made_objects p name c sizes)) ≡ false
no_fit_class heap p name c sizes ne e =
    fits_are heap p name c sizes ne
    ∙ ap (λ (b : Bool). fits_by (name.node == no_node) b (nat_le (name.index + array_count 1 sizes) (2 ^ 32)) (all_new heap name.node name.index (classes_of (levels p name.node c 1 name.index sizes)))) e
    ∙ not_so (name.node == no_node) (nat_le (name.index + array_count 1 sizes) (2 ^ 32)) (all_new heap name.node name.index (classes_of (levels p name.node c 1 name.index sizes)))

le_false : (a b : ℕ) → b < a → nat_le a b ≡ false
le_false a b h = grind (arith, h)

-- there are too many
pub no_fit_count : (heap : Heap) (p : Program) (name : Name) (c : ℕ) (sizes : List ℕ) → sizes ≢ [] → 2 ^ 32 < name.index + array_count 1 sizes → name_fits heap name (classes_of (made_objects p name c sizes)) ≡ false
no_fit_count heap p name c sizes ne lt =
    fits_are heap p name c sizes ne
    ∙ ap (λ (b : Bool). fits_by (name.node == no_node) (name.class == c) b (all_new heap name.node name.index (classes_of (levels p name.node c 1 name.index sizes)))) (le_false _ _ lt)
    ∙ not_few (name.node == no_node) (name.class == c) (all_new heap name.node name.index (classes_of (levels p name.node c 1 name.index sizes)))

-- else it fits where all names are new
fits_new : (heap : Heap) (p : Program) (name : Name) (c : ℕ) (sizes : List ℕ) → sizes ≢ [] → (name.node == no_node) ≡ false → (name.class == c) ≡ true → name.index + array_count 1 sizes ≤ 2 ^ 32 → name_fits heap name (classes_of (made_objects p name c sizes)) ≡ all_new heap name.node name.index (classes_of (levels p name.node c 1 name.index sizes))
fits_new heap p name c sizes ne e h le =
    let new = all_new heap name.node name.index (classes_of (levels p name.node c 1 name.index sizes)) in
    let few = nat_le (name.index + array_count 1 sizes) (2 ^ 32) in
    fits_are heap p name c sizes ne
    ∙ ap (λ (b : Bool). fits_by b (name.class == c) few new) e
    ∙ ap (λ (b : Bool). fits_by false b few new) h
    ∙ ap (λ (b : Bool). fits_by false true b new) (le-leb _ _ le)

-- what is made where all names are new
abbrev IsMadeOf : Bool → List (Name × ObjectBody) → Option (List Effect) → Type 0
IsMadeOf b os made = MatchOption made (b ≡ false) (λ (es : List Effect). (b ≡ true) × (es ≡ map (λ (o : Name × ObjectBody). effect.Made o.0 o.1) os))

-- or there is no memory
abbrev IsMadeAs : Bool → List (Name × ObjectBody) → Result (Option (List Effect)) NoMemory → Type 0
IsMadeAs b os r = IfOk r (IsMadeOf b os)

pub made_as : (heap : Heap) (p : Program) (name : Name) (c : ℕ) (sizes : List ℕ) (i : ℕ) (r : Result (Option (List Effect)) NoMemory) → sizes ≢ [] → i ≡ name.index → (name.node == no_node) ≡ false → (name.class == c) ≡ true → name.index + array_count 1 sizes ≤ 2 ^ 32
    → IsMadeAs (all_new heap name.node i (map (λ (o : Name × ObjectBody). o.0.class) (levels p name.node c 1 i sizes))) (levels p name.node c 1 i sizes) r
    → IsMadeAs (name_fits heap name (map (λ (o : Name × ObjectBody). o.0.class) (made_objects p name c sizes))) (made_objects p name c sizes) r
made_as heap p name c sizes i r ne is e h le made =
    subst (λ (b : Bool). IsMadeAs b (made_objects p name c sizes) r) (sym (fits_new heap p name c sizes ne e h le))
    (subst (λ (os : List (Name × ObjectBody)). IsMadeAs (all_new heap name.node name.index (classes_of (levels p name.node c 1 name.index sizes))) os r) (sym (objects_are p name c sizes ne))
    (subst (λ (x : ℕ). IsMadeAs (all_new heap name.node x (classes_of (levels p name.node c 1 x sizes))) (levels p name.node c 1 x sizes) r) is made))

-- what is told of arrays of arrays
abbrev told_with : Choice → Bool × Effects → Served
told_with c q = record {
  choice = c;
  pick_fits = nat_eq c.pick 0;
  name_fits = q.0;
  effects = q.1;
  answer = Gives (Some (Ref c.name));
}

told_by : (heap : Heap) (w : Wish) (p : Program) (c : Choice) (class : ℕ) (sizes : List ℕ) (q : Bool × Effects) → sizes ≢ []
    → ((d : Deed) (cs : List ℕ) → d.makes ≡ class ∷ cs → d.waiters ≡ [] → Meets w d c)
    → q.0 ≡ name_fits heap c.name (classes_of (made_objects p c.name class sizes))
    → (q.0 ≡ true → changes_of heap q.1 ≡ map (λ (o : Name × ObjectBody). Made o.0 o.1) (made_objects p c.name class sizes))
    → Tells heap w (making c.name (made_objects p c.name class sizes)) (told_with c q)
told_by heap w p c class [] q ne meets fits changes = absurd (ne refl)
told_by heap w p c class (s ∷ ss) q ne meets fits changes = record {
  choice = meets (making c.name (made_objects p c.name class (s ∷ ss))) _ refl refl;
  pick = refl;
  name = fits;
  changes = changes;
  answer = refl;
}

-- they are made
pub told_made : (heap : Heap) (w : Wish) (p : Program) (c : Choice) (class : ℕ) (sizes : List ℕ) (q : Bool × Effects) (o : Option (List Effect)) (es : List Effect) → sizes ≢ []
    → ((d : Deed) (cs : List ℕ) → d.makes ≡ class ∷ cs → d.waiters ≡ [] → Meets w d c)
    → q ≡ (true, effects.Many es)
    → o ≡ Some es
    → IsMadeOf (name_fits heap c.name (map (λ (o : Name × ObjectBody). o.0.class) (made_objects p c.name class sizes))) (made_objects p c.name class sizes) o
    → Tells heap w (making c.name (made_objects p c.name class sizes)) (told_with c q)
told_made heap w p c class sizes q o es ne meets is some made =
    let both : IsMadeOf (name_fits heap c.name (classes_of (made_objects p c.name class sizes))) (made_objects p c.name class sizes) (Some es) = subst (IsMadeOf (name_fits heap c.name (classes_of (made_objects p c.name class sizes))) (made_objects p c.name class sizes)) some made in
    subst (λ (x : Bool × Effects). Tells heap w (making c.name (made_objects p c.name class sizes)) (told_with c x)) (sym is)
    (told_by heap w p c class sizes (true, effects.Many es) ne meets (sym both.0)
    (λ _. ap (map (change_of heap)) both.1 ∙ effects_are heap (made_objects p c.name class sizes)))

-- the name doesn't fit
pub told_unfit : (heap : Heap) (w : Wish) (p : Program) (c : Choice) (class : ℕ) (sizes : List ℕ) (q : Bool × Effects) (o : Option (List Effect)) → sizes ≢ []
    → ((d : Deed) (cs : List ℕ) → d.makes ≡ class ∷ cs → d.waiters ≡ [] → Meets w d c)
    → q ≡ (false, effects.Nothing)
    → o ≡ None
    → IsMadeOf (name_fits heap c.name (map (λ (o : Name × ObjectBody). o.0.class) (made_objects p c.name class sizes))) (made_objects p c.name class sizes) o
    → Tells heap w (making c.name (made_objects p c.name class sizes)) (told_with c q)
told_unfit heap w p c class sizes q o ne meets is none made =
    let unfit : name_fits heap c.name (classes_of (made_objects p c.name class sizes)) ≡ false = subst (IsMadeOf (name_fits heap c.name (classes_of (made_objects p c.name class sizes))) (made_objects p c.name class sizes)) none made in
    subst (λ (x : Bool × Effects). Tells heap w (making c.name (made_objects p c.name class sizes)) (told_with c x)) (sym is)
    (told_by heap w p c class sizes (false, effects.Nothing) ne meets (sym unfit) (λ e. absurd cc))
