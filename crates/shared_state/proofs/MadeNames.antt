-- Objects whose names follow one another are new, where those names were tested.
use Rattle.std.proofs.Common.{◌≡◌, ◌∙◌, refl, sym, ap, subst, ℕ, zero, suc, ◌+◌, ◌<◌, ◌*◌, ◌==◌, nat_le, ◌^◌, Bool, true, false, ◌&&◌, not, cond, List, [], ◌∷◌, ◌++◌, map, length, Option, Some, None, arith}
use Rattle.std.specs.Prelude.{is_none}
use Rattle.jvm_base.specs.Maps.{put}
use Rattle.jvm_base.specs.Names.{name_cmp, name_eq, named}
use Rattle.jvm_base.specs.declared.name.Name.{Name}
use Rattle.jvm_base.specs.declared.value.ObjectBody.{ObjectBody}
use Rattle.jvm_base.proofs.NameLaws.{name_eq-true}
use Rattle.program_image.proofs.Signatures.{both_true}
use Rattle.program_image.specs.Program.{Program}
use Rattle.machine_state.specs.State.{Heap, body_at}
use Rattle.machine_state.specs.Changes.{Made}
use Rattle.machine_state.specs.Serve.{name_fits, all_new}
use Rattle.machine_state.specs.Making.{made_objects, levels, arrays, part_class}
use Rattle.machine_state.specs.PreMade.{no_node}
use Rattle.machine_state.proofs.NameTests.{names_total}
use Rattle.machine_state.proofs.MapLaws.{find-put}
use Rattle.shared_state.specs.Orderly.{AreNew, IsOrderly}

-- ---- names that follow one another

-- the objects' names are those from an index on
abbrev pub Follow : ℕ → ℕ → List (Name × ObjectBody) → Type 0
Follow node index [] = Unit {0}
Follow node index (o ∷ os) = (o.0 ≡ named node o.0.class index) × Follow node (index + 1) os

-- in two lists
follow_both : (node index : ℕ) (xs ys : List (Name × ObjectBody)) → Follow node index xs → Follow node (index + length xs) ys → Follow node index (xs ++ ys)
follow_both node index [] ys a b = subst (λ i. Follow node i ys) (omega arith) b
follow_both node index (x ∷ xs) ys a b = (a.0, follow_both node (index + 1) xs ys a.1 (subst (λ i. Follow node i ys) (omega arith) b))

-- the arrays of a level
level_length : (p : Program) (node c n index first s : ℕ) (below : List ℕ) → length (arrays p node c n index first (s ∷ below)) ≡ n
level_length p node c zero index first s below = refl
level_length p node c (suc n) index first s below = ap suc (level_length p node c n (index + 1) (first + s) s below)

level_follows : (p : Program) (node c n index first s : ℕ) (below : List ℕ) → Follow node index (arrays p node c n index first (s ∷ below))
level_follows p node c zero index first s below = tt
level_follows p node c (suc n) index first s below = (refl, level_follows p node c n (index + 1) (first + s) s below)

-- of all levels
levels_follow : (p : Program) (node c count index : ℕ) (sizes : List ℕ) → Follow node index (levels p node c count index sizes)
levels_follow p node c count index [] = tt
levels_follow p node c count index (s ∷ ss) =
    follow_both node index (arrays p node c count index (index + count) (s ∷ ss)) _ (level_follows p node c count index (index + count) s ss)
    (subst (λ n. Follow node (index + n) (levels p node (part_class p c) (count * s) (index + count) ss)) (sym (level_length p node c count index (index + count) s ss)) (levels_follow p node (part_class p c) (count * s) (index + count) ss))

-- of what is made
pub made_follow : (p : Program) (name : Name) (c : ℕ) (sizes : List ℕ) → Follow name.node name.index (made_objects p name c sizes)
made_follow p name c [] = (refl, tt)
made_follow p name c (s ∷ ss) = levels_follow p name.node c 1 name.index (s ∷ ss)

-- ---- they are new

-- what is tested empty is
is_empty : (o : Option ObjectBody) → is_none o ≡ true → o ≡ None
is_empty None e = refl
is_empty (Some b) e = absurd cc

-- names of two indices differ
differs : (n q : Name) → (q.index ≡ n.index → ⊥) → name_eq q n ≡ false
differs n q d = by (name_eq q n) refl
  where
    by : (b : Bool) → name_eq q n ≡ b → name_eq q n ≡ false
    by true h = absurd (d (ap (λ (x : Name). x.index) (name_eq-true q n h)))
    by false h = h

-- stays as it is where one is made
other_body : (n q : Name) (b : ObjectBody) (heap : Heap) → (q.index ≡ n.index → ⊥) → body_at (put name_cmp n b heap) q ≡ body_at heap q
other_body n q b heap d = find-put name_cmp names_total q n b heap ∙ ap (λ t. cond t (Some b) (body_at heap q)) (differs n q d)

-- names of later indices stay new
later_new : (heap : Heap) (n : Name) (b : ObjectBody) (node index : ℕ) (cs : List ℕ) → n.index < index → all_new (put name_cmp n b heap) node index cs ≡ all_new heap node index cs
later_new heap n b node index [] h = refl
later_new heap n b node index (c ∷ cs) h =
    ap (λ o. is_none o && all_new (put name_cmp n b heap) node (index + 1) cs) (other_body n (named node c index) b heap (λ e. omega (arith, h, e)))
    ∙ ap (λ t. is_none (body_at heap (named node c index)) && t) (later_new heap n b node (index + 1) cs (omega (arith, h)))

-- so all of them are new, one after the other
follow_new : (heap : Heap) (node index : ℕ) (os : List (Name × ObjectBody)) → Follow node index os → all_new heap node index (map (λ o. o.0.class) os) ≡ true → AreNew heap (map (λ o. Made o.0 o.1) os)
follow_new heap node index [] f e = tt
follow_new heap node index (o ∷ os) f e =
    let t = both_true _ _ e in
    let i : o.0.index ≡ index = ap (λ (x : Name). x.index) f.0 in (
      ap (body_at heap) f.0 ∙ is_empty _ t.0,
      follow_new (put name_cmp o.0 o.1 heap) node (index + 1) os f.1 (later_new heap o.0 o.1 node (index + 1) (map (λ o. o.0.class) os) (omega (arith, i)) ∙ t.1),
    )

-- a name that fits was tested so
fits_new : (heap : Heap) (name : Name) (c : ℕ) (cs : List ℕ) → name_fits heap name (c ∷ cs) ≡ true → all_new heap name.node name.index (c ∷ cs) ≡ true
fits_new heap name c cs e =
    let new = all_new heap name.node name.index (c ∷ cs) in
    let few = nat_le (name.index + (1 + length cs)) (2 ^ 32) in
    (both_true few new (both_true (name.class == c) (few && new) (both_true (not (name.node == no_node)) (name.class == c && (few && new)) e).1).1).1

-- what is made is orderly
pub making_orderly : (heap : Heap) (name : Name) (os : List (Name × ObjectBody)) → Follow name.node name.index os → name_fits heap name (map (λ o. o.0.class) os) ≡ true → IsOrderly heap (map (λ o. Made o.0 o.1) os)
making_orderly heap name [] f e = tt
making_orderly heap name (o ∷ []) f e = tt
making_orderly heap name (o ∷ x ∷ []) f e = follow_new heap name.node name.index (o ∷ x ∷ []) f (fits_new heap name o.0.class (x.0.class ∷ []) e)
making_orderly heap name (o ∷ x ∷ y ∷ os) f e = follow_new heap name.node name.index (o ∷ x ∷ y ∷ os) f (fits_new heap name o.0.class (map (λ o. o.0.class) (x ∷ y ∷ os)) e)
