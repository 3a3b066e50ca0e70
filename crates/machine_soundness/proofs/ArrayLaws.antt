-- Arrays of arrays: each made body fits, since the names in it are those of the level below.
use Rattle.std.proofs.Common.{Bool, List, None, Option, Some, [], ap, arith, inl, inr, length, map, refl, subst, suc, sym, true, zero, ℕ, ◌*◌, ◌++◌, ◌+◌, ◌<◌, ◌∷◌, ◌≡◌, ◌≤◌, ◌⊎◌}
use Rattle.std.proofs.Math.Nat.{eq-or-lt_of_le}
use native.Mathlib.Nat.{suc-mul}
use Rattle.jvm_base.specs.Names.{named}
use Rattle.jvm_base.specs.Words.{from}
use Rattle.jvm_base.specs.declared.name.Name.{Name}
use Rattle.jvm_base.specs.declared.value.ObjectBody.{ObjectBody}
use Rattle.program_image.specs.Program.{Program}
use Rattle.program_image.specs.Subclass.{part_in}
use Rattle.program_image.specs.declared.info.ArrayInfo.{ArrayInfo}
use Rattle.program_image.specs.declared.info.ClassInfo.{ClassInfo}
use Rattle.flow_types.proofs.ListLaws.{and_both}
use Rattle.flow_types.specs.declared.flow_type.FlowType.{FlowType}
use Rattle.instruction_table.specs.ClassTypes.{array_at, class_at, class_type}
use Rattle.machine_state.specs.Changes.{Change, Made, change, changed}
use Rattle.machine_state.specs.Classes.{element_zero}
use Rattle.machine_state.specs.Making.{arrays, levels, made_objects, part_class, references}
use Rattle.machine_state.specs.State.{State}
use Rattle.machine_state.specs.declared.state.Choice.{Choice}
use Rattle.frame_soundness.specs.AcceptedProgram.{AreArrays, Classes, Subs}
use Rattle.frame_soundness.specs.Holding.{component_type}
use Rattle.machine_soundness.proofs.HeapLaws.{BodiesFit, ChangesFit, changes-grow, each-replicate, element-zero, ref-suits, there-made}
use Rattle.machine_soundness.proofs.ServeLaws.{ArraysFit, NameOf, elements-body, name-of}
use Rattle.machine_soundness.specs.Bodies.{each_suits, there_in}

-- objects as changes
abbrev made_all : List (Name × ObjectBody) → List Change
made_all os = map (λ o. Made o.0 o.1) os

-- the names of all of them are there
abbrev AllNamed : (Name → Bool) → List (Name × ObjectBody) → Type 0
AllNamed more [] = Unit {0}
AllNamed more (o ∷ os) = (more o.0 ≡ true) × AllNamed more os

-- so are those of the parts of a list
named-append : (more : Name → Bool) (xs ys : List (Name × ObjectBody)) → AllNamed more (xs ++ ys) → AllNamed more xs × AllNamed more ys
named-append more [] ys h = (tt, h)
named-append more (x ∷ xs) ys h = let (p, q) = named-append more xs ys h.1 in ((h.0, p), q)

-- changes that fit, after others that do
fits-append : (image : Program) (more : Name → Bool) (xs ys : List (Name × ObjectBody)) → ChangesFit image more (made_all xs) → ChangesFit image more (made_all ys) → ChangesFit image more (made_all (xs ++ ys))
fits-append image more [] ys h k = k
fits-append image more (x ∷ xs) ys h k = (h.0, fits-append image more xs ys h.1 k)

-- once objects are made, their names are there
made-named : (os : List (Name × ObjectBody)) (m : State) → AllNamed (there_in (changed (made_all os) m).heap) os
made-named [] m = tt
made-named (o ∷ os) m = (changes-grow (made_all os) (change (Made o.0 o.1) m) o.0 (there-made m.heap o.0 o.1), made-named os (change (Made o.0 o.1) m))

-- the class of an array's parts
part-is : (image : Program) (c p : ℕ) (a : ArrayInfo) → array_at image c ≡ Some a → a.part ≡ Some p → part_class image c ≡ p
part-is image c p a e k = by_class (class_at image c) e
  where
    by_class : (o : Option ClassInfo) → from None (λ i. i.array) o ≡ Some a → from 0 (λ j. j) (from None part_in o) ≡ p
    by_class None e = absurd cc
    by_class (Some i) e = rw (e, k) refl

-- what holds of a number, and of each behind it, holds from it on
pub from-first : (P : ℕ → Type 0) (c j : ℕ) → c ≤ j → P c → (c < j → P j) → P j
from-first P c j l h again = by_case (eq-or-lt_of_le l)
  where
    by_case : (c ≡ j) ⊎ (c < j) → P j
    by_case (inl e) = subst P e h
    by_case (inr k) = again k

module _ (image : Program) (classes : Classes image) (subs : Subs image) (more : Name → Bool) (node : ℕ) where
  -- the names of a level are there
  level-there : (p count index first : ℕ) (s : ℕ) (below : List ℕ) → AllNamed more (arrays image node p count index first (s ∷ below)) → (j : ℕ) → index ≤ j → j < index + count → more (named node p j) ≡ true
  level-there p zero index first s below h j l u = absurd (omega arith)
  level-there p (suc n) index first s below h j l u = from-first (λ z. more (named node p z) ≡ true) index j l h.0 (λ x. level-there p n (index + 1) (first + s) s below h.1 j (omega arith) (omega arith))

  -- references to that level suit the class of its type
  references-suit : (p : ℕ) (t : FlowType) (size first : ℕ) → class_type image p ≡ t → ((j : ℕ) → first ≤ j → j < first + size → more (named node p j) ≡ true) → each_suits image more (references node p first size) t ≡ true
  references-suit p t zero first e h = refl
  references-suit p t (suc n) first e h =
      and_both _ _ (ref-suits image subs more (named node p first) t (h first (omega arith) (omega arith)) e)
      (references-suit p t n (first + 1) e (λ j l u. h j (omega arith) (omega arith)))

  -- the last level
  last-fits : (c : ℕ) (a : ArrayInfo) → array_at image c ≡ Some a → (count index first s : ℕ) → ChangesFit image more (made_all (arrays image node c count index first (s ∷ [])))
  last-fits c a e zero index first s = tt
  last-fits c a e (suc n) index first s = (elements-body image more (named node c index) a _ e (each-replicate image more s (element_zero image c) (component_type image a) (element-zero image more c a e)), last-fits c a e n (index + 1) (first + s) s)

  -- a level above another
  upper-fits : (c p : ℕ) (a : ArrayInfo) → array_at image c ≡ Some a → a.part ≡ Some p → (count index first s r : ℕ) (below : List ℕ) → ((j : ℕ) → first ≤ j → j < first + count * s → more (named node p j) ≡ true) → ChangesFit image more (made_all (arrays image node c count index first (s ∷ r ∷ below)))
  upper-fits c p a e k zero index first s r below h = tt
  upper-fits c p a e k (suc n) index first s r below h =
      let q : part_class image c ≡ p = part-is image c p a e k in
      let t : class_type image p ≡ component_type image a = classes.parts c p a e k in
      (elements-body image more (named node c index) a _ e (subst (λ z. each_suits image more (references node z first s) (component_type image a) ≡ true) (sym q) (references-suit p (component_type image a) s first t (λ j l u. h j l (head-bound n s first j u)))), upper-fits c p a e k n (index + 1) (first + s) s r below (λ j l u. h j (omega arith) (tail-bound n s first j u)))
    where
      head-bound : (n s first j : ℕ) → j < first + s → j < first + suc n * s
      head-bound n s first j u = rw (suc-mul n s) (omega arith)

      tail-bound : (n s first j : ℕ) → j < first + s + n * s → j < first + suc n * s
      tail-bound n s first j u = rw (suc-mul n s) (omega arith)

  -- all levels
  levels-fit : (sizes : List ℕ) (s : ℕ) (c count index : ℕ) → AreArrays image (suc (length sizes)) c → AllNamed more (levels image node c count index (s ∷ sizes)) → ChangesFit image more (made_all (levels image node c count index (s ∷ sizes)))
  levels-fit [] s c count index (a, e) h = fits-append image more (arrays image node c count index (index + count) (s ∷ [])) [] (last-fits c a e count index (index + count) s) tt
  levels-fit (r ∷ sizes) s c count index (a, p, e, k, w) h =
      let q : part_class image c ≡ p = part-is image c p a e k in
      let (x, y) = named-append more (arrays image node c count index (index + count) (s ∷ r ∷ sizes)) (levels image node (part_class image c) (count * s) (index + count) (r ∷ sizes)) h in
      let y2 : AllNamed more (levels image node p (count * s) (index + count) (r ∷ sizes)) = subst (λ z. AllNamed more (levels image node z (count * s) (index + count) (r ∷ sizes))) q y in
      let z = named-append more (arrays image node p (count * s) (index + count) (index + count + count * s) (r ∷ sizes)) (levels image node (part_class image p) (count * s * r) (index + count + count * s) sizes) y2 in
      let rest : ChangesFit image more (made_all (levels image node p (count * s) (index + count) (r ∷ sizes))) = levels-fit sizes r p (count * s) (index + count) w y2 in
      fits-append image more (arrays image node c count index (index + count) (s ∷ r ∷ sizes)) (levels image node (part_class image c) (count * s) (index + count) (r ∷ sizes))
      (upper-fits c p a e k count index (index + count) s r sizes (λ j l u. level-there p (count * s) (index + count) (index + count + count * s) r sizes (z.0) j l u))
      (subst (λ v. ChangesFit image more (made_all (levels image node v (count * s) (index + count) (r ∷ sizes)))) (sym q) rest)

-- so arrays of arrays fit
pub arrays-fit : (image : Program) (classes : Classes image) (m : State) (c : Choice) (subs : Subs image) (fit : BodiesFit image (there_in m.heap) m.heap) → ArraysFit image classes m c subs fit
arrays-fit image classes m c subs fit k n ns a h =
    let os : List (Name × ObjectBody) = made_objects image c.name k (n ∷ ns) in
    let named-all : AllNamed (there_in (changed (made_all os) m).heap) os = made-named os m in
    let nm : NameOf c.name k = name-of m.heap c.name k _ h in
    let same : named c.name.node k c.name.index ≡ c.name = subst (λ z. named c.name.node z c.name.index ≡ c.name) nm.class refl in
    record {
      changes = levels-fit image classes subs (there_in (changed (made_all os) m).heap) c.name.node ns n k 1 c.name.index a named-all;
      answer = and_both _ _ (ref-suits image subs (there_in (changed (made_all os) m).heap) c.name (class_type image k) (subst (λ z. there_in (changed (made_all os) m).heap z ≡ true) same named-all.0) (ap (class_type image) nm.class)) refl;
    }
