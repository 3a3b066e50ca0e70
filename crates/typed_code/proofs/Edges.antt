-- The ways that lead from an instruction, and the entries of the exception table that take an exception.
use Rattle.std.proofs.Common.{◌≡◌, ◌∙◌, sym, ap, subst, refl, ℕ, zero, suc, ◌+◌, ◌<◌, Bool, true, false, List, [], ◌∷◌, ◌++◌, length, slice_get, Some, nat_lt, arith}
use Rattle.std.specs.Prelude.{map, filter, ◌==◌, ◌||◌, if◌then◌else◌}
use Rattle.std.proofs.lemmas.Bool.Decides.{nat_tests}
use Rattle.jvm_base.specs.declared.code_item.TableItem.{TableItem}
use Rattle.code_table.specs.declared.code.Placed.{Placed}
use Rattle.hierarchy.specs.Walks.{has}
use Rattle.program_image.specs.Handlers.{takes, handler_from}
use Rattle.program_image.specs.Program.{Program}
use Rattle.instruction_table.specs.Rows.{jumps, falls}
use Rattle.flow_verifier.specs.Methods.{ops_of, place_of, handler, handlers_from}
use Rattle.flow_verifier.specs.Given.{jump_edges, fall_edges, catching, covers, edges_there, edges}
use Rattle.flow_verifier.specs.declared.method.Edge.TheVariants.{Next, Caught}
use Rattle.flow_verifier.specs.declared.method.Handler.{Handler}
use Rattle.flow_verifier.specs.declared.method.Method.{Method}

-- ---- items of lists

-- an item stands in a list
abbrev pub IsIn : {A : Type 0} → A → List A → Type 0
IsIn x xs = (k : ℕ) × (slice_get xs k ≡ Some x)

in_next : {A : Type 0} (x y : A) (xs : List A) → IsIn x xs → IsIn x (y ∷ xs)
in_next x y xs (k, e) = (suc k, e)

in_left : {A : Type 0} (x : A) (xs ys : List A) (k : ℕ) → slice_get xs k ≡ Some x → IsIn x (xs ++ ys)
in_left x [] ys k e = absurd cc
in_left x (z ∷ xs) ys zero e = (0, e)
in_left x (z ∷ xs) ys (suc k) e = in_next x z (xs ++ ys) (in_left x xs ys k e)

in_right : {A : Type 0} (x : A) (xs ys : List A) → IsIn x ys → IsIn x (xs ++ ys)
in_right x [] ys h = h
in_right x (z ∷ xs) ys h = in_next x z (xs ++ ys) (in_right x xs ys h)

in_map : {A B : Type 0} (f : A → B) (x : A) (xs : List A) (k : ℕ) → slice_get xs k ≡ Some x → IsIn (f x) (map f xs)
in_map f x [] k e = absurd cc
in_map f x (z ∷ xs) zero e = let s : z ≡ x = cc in (0, ap (λ y. Some (f y)) s)
in_map f x (z ∷ xs) (suc k) e = in_next (f x) (f z) (map f xs) (in_map f x xs k e)

in_filter : {A : Type 0} (t : A → Bool) (x : A) (xs : List A) (k : ℕ) → t x ≡ true → slice_get xs k ≡ Some x → IsIn x (filter t xs)
in_filter t x [] k h e = absurd cc
in_filter t x (z ∷ xs) zero h e = let s : z ≡ x = cc in let g : t z ≡ true = ap t s ∙ h in rw g (0, e)
in_filter t x (z ∷ xs) (suc k) h e = by_test (t z) (in_filter t x xs k h e)
  where
    by_test : (b : Bool) → IsIn x (filter t xs) → IsIn x (if b then z ∷ filter t xs else filter t xs)
    by_test true i = in_next x z (filter t xs) i
    by_test false i = i

-- ---- ways

in_jumps : (ops : List Placed) (to : ℕ) (xs : List ℕ) → has xs to ≡ true → IsIn (Next (place_of ops to)) (jump_edges ops xs)
in_jumps ops to [] h = absurd cc
in_jumps ops to (x ∷ xs) h = by_test (x == to) refl h (in_jumps ops to xs)
  where
    by_test : (t : Bool) → (x == to) ≡ t → (t || has xs to) ≡ true → (has xs to ≡ true → IsIn (Next (place_of ops to)) (jump_edges ops xs)) → IsIn (Next (place_of ops to)) (jump_edges ops (x ∷ xs))
    by_test true q g again = let s : x ≡ to = grind (arith, nat_tests) in (0, ap (λ y. Some (Next (place_of ops y))) s)
    by_test false q g again = in_next (Next (place_of ops to)) (Next (place_of ops x)) (jump_edges ops xs) (again g)

in_falls : (count i : ℕ) (o : Placed) → falls o.op ≡ true → i + 1 < count → IsIn (Next (i + 1)) (fall_edges count i o)
in_falls count i o f l = let n : nat_lt (i + 1) count ≡ true = grind (arith, nat_tests) in rw (f, n) (0, refl)

module _ (p : Program) (m : Method) (ops : List Placed) (is_ops : ops_of p m.number ≡ ops) (i : ℕ) (o : Placed) (here : slice_get ops i ≡ Some o) where
  edges_are : edges p m i ≡ map catching (filter (covers o.at) m.handlers) ++ (jump_edges ops (jumps o.op) ++ fall_edges (length ops) i o)
  unfolding edges
  edges_are = ap (λ z. edges_there z m.handlers i (slice_get z i)) is_ops ∙ ap (edges_there ops m.handlers i) here

  -- to the next instruction
  pub edge_falls : falls o.op ≡ true → i + 1 < length ops → IsIn (Next (i + 1)) (edges p m i)
  edge_falls f l =
      subst (IsIn (Next (i + 1))) (sym edges_are)
      (in_right (Next (i + 1)) (map catching (filter (covers o.at) m.handlers)) _
      (in_right (Next (i + 1)) (jump_edges ops (jumps o.op)) _ (in_falls (length ops) i o f l)))

  -- where it jumps
  pub edge_jumps : (to : ℕ) → has (jumps o.op) to ≡ true → IsIn (Next (place_of ops to)) (edges p m i)
  edge_jumps to h =
      let (k, e) = in_jumps ops to (jumps o.op) h in
      subst (IsIn (Next (place_of ops to))) (sym edges_are)
      (in_right (Next (place_of ops to)) (map catching (filter (covers o.at) m.handlers)) _
      (in_left (Next (place_of ops to)) (jump_edges ops (jumps o.op)) (fall_edges (length ops) i o) k e))

  -- to a handler that covers it
  pub edge_caught : (h : Handler) → IsIn h m.handlers → covers o.at h ≡ true → IsIn (Caught h.to h.class) (edges p m i)
  edge_caught h (n, e) c =
      let (k, f) = in_filter (covers o.at) h m.handlers n c e in
      let (j, g) = in_map catching h (filter (covers o.at) m.handlers) k f in
      subst (IsIn (Caught h.to h.class)) (sym edges_are)
      (in_left (Caught h.to h.class) (map catching (filter (covers o.at) m.handlers)) _ j g)

-- ---- entries

-- an entry of the table takes what a class throws
pub record Catches (p : Program) (m at e : ℕ) (ops : List Placed) (first : ℕ) (es : List TableItem) (to : ℕ) : Type 0 where
  pub index : ℕ
  pub entry : TableItem
  pub is_entry : IsIn entry es
  pub takes_it : takes p.classes p.targets m at e index entry ≡ true
  pub leads : entry.handler ≡ to
  pub among : IsIn (handler p m ops index entry) (handlers_from p m ops first es)

-- the entry whose handler is found
pub catching_entry : (p : Program) (m at e : ℕ) (ops : List Placed) (first : ℕ) (es : List TableItem) (to : ℕ) → handler_from p.classes p.targets m at e first es ≡ Some to → Catches p m at e ops first es to
catching_entry p m at e ops first [] to h = absurd cc
catching_entry p m at e ops first (x ∷ xs) to h = by_test (takes p.classes p.targets m at e first x) refl h (catching_entry p m at e ops (first + 1) xs to)
  where
    by_test : (t : Bool) → takes p.classes p.targets m at e first x ≡ t → (if t then Some x.handler else handler_from p.classes p.targets m at e (first + 1) xs) ≡ Some to → (handler_from p.classes p.targets m at e (first + 1) xs ≡ Some to → Catches p m at e ops (first + 1) xs to) → Catches p m at e ops first (x ∷ xs) to
    by_test true q g again = record { index = first; entry = x; is_entry = (0, refl); takes_it = q; leads = cc; among = (0, refl) }
    by_test false q g again =
        let c : Catches p m at e ops (first + 1) xs to = again g in
        record {
          index = c.index;
          entry = c.entry;
          is_entry = in_next c.entry x xs c.is_entry;
          takes_it = c.takes_it;
          leads = c.leads;
          among = in_next (handler p m ops c.index c.entry) (handler p m ops first x) (handlers_from p m ops (first + 1) xs) c.among;
        }
