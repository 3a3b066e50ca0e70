-- Where an instruction leads, apart: to handlers and to successors.
use Rattle.std.proofs.Common.{◌≡◌, ◌∙◌, sym, ap, subst, refl, ℕ, zero, suc, ◌+◌, ◌<◌, Bool, true, false, List, [], ◌∷◌, ◌++◌, length, slice_get, Option, Some, None, inl, inr, arith}
use Rattle.std.specs.Prelude.{map, filter, nat_lt, ◌&&◌}
use Rattle.std.proofs.lemmas.Bool.{cases_Bool}
use Rattle.code_table.specs.declared.code.Placed.{Placed}
use Rattle.program_image.specs.Program.{Program}
use Rattle.instruction_table.specs.Rows.{jumps, falls}
use Rattle.jvm_base.specs.Words.{from}
use Rattle.flow_verifier.specs.declared.method.Handler.{Handler}
use Rattle.flow_verifier.specs.declared.method.Method.{Method}
use Rattle.flow_verifier.specs.declared.method.Edge.{Edge}
use Rattle.flow_verifier.specs.declared.method.Edge.TheVariants.{Next}
use Rattle.flow_verifier.specs.Methods.{ops_of, place_of}
use Rattle.flow_verifier.specs.Given.{jump_edges, fall_edges, covers, catching, edges_there, edges}
use Rattle.flow_verifier.specs.Worklist.Ranges.{covers_place}
use Rattle.flow_verifier.specs.Worklist.Leading.{jump_places, fall_places, successors_there, successors, ways_caught}

-- ---- lists

map_length : {A B : Type 0} (f : A → B) (xs : List A) → length (map f xs) ≡ length xs
map_length f [] = refl
map_length f (x ∷ xs) = ap suc (map_length f xs)

map_append : (xs ys : List ℕ) → map Next (xs ++ ys) ≡ map Next xs ++ map Next ys
map_append [] ys = refl
map_append (x ∷ xs) ys = ap (λ zs. Next x ∷ zs) (map_append xs ys)

map_get : (xs : List ℕ) (k x : ℕ) → slice_get xs k ≡ Some x → slice_get (map Next xs) k ≡ Some (Next x)
map_get [] k x e = absurd cc
map_get (y ∷ ys) zero x e = let f : y ≡ x = cc in ap (λ z. Some (Next z)) f
map_get (y ∷ ys) (suc k) x e = map_get ys k x e

append_length : (xs ys : List Edge) → length (xs ++ ys) ≡ length xs + length ys
append_length [] ys = omega arith
append_length (x ∷ xs) ys = let h : length (xs ++ ys) ≡ length xs + length ys = append_length xs ys in omega arith

get_right : (xs ys : List Edge) (k : ℕ) → slice_get (xs ++ ys) (length xs + k) ≡ slice_get ys k
get_right [] ys k = let e : 0 + k ≡ k = omega arith in rw e refl
get_right (x ∷ xs) ys k = let e : suc (length xs) + k ≡ suc (length xs + k) = omega arith in rw e (get_right xs ys k)

-- ---- handlers

-- a handler that an edge leads to
pub record Leads (hs : List Handler) (test : Handler → Bool) (e : Edge) : Type 0 where
  pub place : ℕ
  pub handler : Handler
  pub is_there : slice_get hs place ≡ Some handler
  pub passes : test handler ≡ true
  pub leads : e ≡ catching handler

later : (x : Handler) (hs : List Handler) (test : Handler → Bool) (e : Edge) → Leads hs test e → Leads (x ∷ hs) test e
later x hs test e h = record { place = suc h.place; handler = h.handler; is_there = h.is_there; passes = h.passes; leads = h.leads }

leads_of : (hs : List Handler) (test : Handler → Bool) (rest : List Edge) (k : ℕ) (e : Edge) → k < length (filter test hs) → slice_get (map catching (filter test hs) ++ rest) k ≡ Some e → Leads hs test e
leads_of [] test rest k e l i = absurd (omega arith)
leads_of (x ∷ hs) test rest zero e l i =
    elim (cases_Bool (test x)) [
      | inl p ↦ let q : Some (catching x) ≡ Some e = rw p at i in
          let r : e ≡ catching x = cc in record { place = 0; handler = x; is_there = refl; passes = p; leads = r }
      | inr p ↦ later x hs test e (leads_of hs test rest zero e (rw p at l) (rw p at i))
    ]
leads_of (x ∷ hs) test rest (suc k) e l i =
    elim (cases_Bool (test x)) [
      | inl p ↦ let q : suc k < suc (length (filter test hs)) = rw p at l in
          later x hs test e (leads_of hs test rest k e (omega arith) (rw p at i))
      | inr p ↦ later x hs test e (leads_of hs test rest (suc k) e (rw p at l) (rw p at i))
    ]

-- a handler that passes has an edge
way_of : (hs : List Handler) (test : Handler → Bool) (rest : List Edge) (q : ℕ) (h : Handler) → slice_get hs q ≡ Some h → test h ≡ true → (k : ℕ) × (slice_get (map catching (filter test hs) ++ rest) k ≡ Some (catching h))
way_of [] test rest q h i t = absurd cc
way_of (x ∷ hs) test rest zero h i t =
    let e : x ≡ h = cc in
    let p : test x ≡ true = subst (λ z. test z ≡ true) (sym e) t in
    (zero, rw p (ap (λ z. Some (catching z)) e))
way_of (x ∷ hs) test rest (suc q) h i t =
    let (k, w) = way_of hs test rest q h i t in
    elim (cases_Bool (test x)) [
      | inl p ↦ (suc k, rw p w)
      | inr p ↦ (k, rw p w)
    ]

-- ---- successors

jumps_are : (ops : List Placed) (to : List ℕ) → map Next (jump_places ops to) ≡ jump_edges ops to
jumps_are ops [] = refl
jumps_are ops (t ∷ ts) = ap (λ es. Next (place_of ops t) ∷ es) (jumps_are ops ts)

falls_are : (count i : ℕ) (o : Placed) → map Next (fall_places count i o) ≡ fall_edges count i o
falls_are count i o = elim (cases_Bool (falls o.op && nat_lt (i + 1) count)) [
  | inl e ↦ rw e refl
  | inr e ↦ rw e refl
]

covers_there : Option Placed → Handler → Bool
covers_there q h = from false (λ o. covers o.at h) q

parts : (ops : List Placed) (hs : List Handler) (i : ℕ) (q : Option Placed) → edges_there ops hs i q ≡ map catching (filter (covers_there q) hs) ++ map Next (successors_there ops i q)
unfolding covers_there
parts ops [] i None = refl
parts ops (h ∷ hs) i None = parts ops hs i None
parts ops hs i (Some o) = ap (λ es. map catching (filter (covers o.at) hs) ++ es) (sym (map_append (jump_places ops (jumps o.op)) (fall_places (length ops) i o) ∙ ap (λ es. es ++ map Next (fall_places (length ops) i o)) (jumps_are ops (jumps o.op)) ∙ ap (λ es. jump_edges ops (jumps o.op) ++ es) (falls_are (length ops) i o)))

-- the ways to handlers come first
pub edges_are : (p : Program) (m : Method) (i : ℕ) → edges p m i ≡ map catching (filter (covers_place (ops_of p m.number) i) m.handlers) ++ map Next (successors p m i)
unfolding edges successors covers_there
edges_are p m i = parts (ops_of p m.number) m.handlers i (slice_get (ops_of p m.number) i)

-- where the first ways lead
pub caught_way : (p : Program) (m : Method) (i k : ℕ) (e : Edge) → k < ways_caught p m i → slice_get (edges p m i) k ≡ Some e → Leads m.handlers (covers_place (ops_of p m.number) i) e
unfolding ways_caught
caught_way p m i k e l h = leads_of m.handlers (covers_place (ops_of p m.number) i) (map Next (successors p m i)) k e l (sym (ap (λ es. slice_get es k) (edges_are p m i)) ∙ h)

pub handler_way : (p : Program) (m : Method) (i q : ℕ) (h : Handler) → slice_get m.handlers q ≡ Some h → covers_place (ops_of p m.number) i h ≡ true → (k : ℕ) × (slice_get (edges p m i) k ≡ Some (catching h))
handler_way p m i q h e t =
    let (k, w) = way_of m.handlers (covers_place (ops_of p m.number) i) (map Next (successors p m i)) q h e t in
    (k, ap (λ es. slice_get es k) (edges_are p m i) ∙ w)

-- the other ways lead to successors
pub next_way : (p : Program) (m : Method) (i k to : ℕ) → slice_get (successors p m i) k ≡ Some to → slice_get (edges p m i) (ways_caught p m i + k) ≡ Some (Next to)
unfolding ways_caught
next_way p m i k to h =
    let hs : List Handler = filter (covers_place (ops_of p m.number) i) m.handlers in
    let n : length (map catching hs) ≡ length hs = map_length catching hs in
    ap (λ es. slice_get es (length hs + k)) (edges_are p m i)
    ∙ ap (λ z. slice_get (map catching hs ++ map Next (successors p m i)) (z + k)) (sym n)
    ∙ get_right (map catching hs) (map Next (successors p m i)) k
    ∙ map_get (successors p m i) k to h

-- how many ways there are
pub ways_are : (p : Program) (m : Method) (i : ℕ) → length (edges p m i) ≡ ways_caught p m i + length (successors p m i)
unfolding ways_caught
ways_are p m i =
    let hs : List Handler = filter (covers_place (ops_of p m.number) i) m.handlers in
    let a : length (map catching hs ++ map Next (successors p m i)) ≡ length (map catching hs) + length (map Next (successors p m i)) = append_length (map catching hs) (map Next (successors p m i)) in
    let b : length (map catching hs) ≡ length hs = map_length catching hs in
    let c : length (map Next (successors p m i)) ≡ length (successors p m i) = map_length Next (successors p m i) in
    ap length (edges_are p m i) ∙ omega arith
