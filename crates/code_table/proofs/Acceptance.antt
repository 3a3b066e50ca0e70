-- `decoded` gives the code that the facts on bytes describe, and each refusal where it is due.
use Rattle.std.proofs.Common.{◌≡◌, ℕ, ◌⊎◌, inl, inr, List, [], ◌∷◌, ◌++◌, length, Option, Some, None, Result, Ok, Err, refl, ap, sym, subst, ◌∙◌, Bool, true, false, not, ◌&&◌, ◌||◌, ◌==◌, nat_lt, find, arith}
use Rattle.std.proofs.lemmas.Bool.Decides.{nat_tests}
use Rattle.std.proofs.lemmas.List.Sums.{AllPass-from_list_all, list_all-from_AllPass}
use Rattle.std.specs.Prelude.{position, IfOk, IfErr}
use Rattle.std.specs.List.{list_all, AllByRecursion}
use Rattle.std.specs.Option.{IfSome}
use Rattle.jvm_base.specs.declared.pool.PoolItem.{PoolItem}
use Rattle.jvm_base.specs.declared.code_item.CodeItem.{CodeItem}
use Rattle.jvm_base.specs.declared.code_item.TableItem.{TableItem}
use Rattle.code_table.specs.declared.error.CodeErr.{CodeErr}
use Rattle.code_table.specs.declared.error.CodeErr.TheVariants.{TargetOff, BadTable}
use Rattle.code_table.specs.declared.code.Placed.{Placed}
use Rattle.code_table.specs.declared.code.Code.{Code}
use Rattle.jvm_base.specs.Refusing.{◌>>=◌}
use Rattle.jvm_base.specs.Told.{Gives, itself}
use Rattle.code_table.specs.Told.{told}
use Rattle.code_table.specs.Sequences.{Covers, instructions_of}
use Rattle.code_table.specs.Targets.{targets_of, is_start, leads_off, is_bad_entry, refused}
use Rattle.code_table.specs.Decoded.{decoded}
use Rattle.code_table.specs.Accepted.{Lands, IsEntry, IsCode, JumpsOff, IsRefused, IsDue}
use Rattle.jvm_base.proofs.Refusing.{ok_is, bind_ok, bind_err}
use Rattle.jvm_base.proofs.Options.{not_false}
use Rattle.code_table.proofs.Firsts.{find_none, none_find, find_first, first_find, position_none, none_position, position_first, first_position}
use Rattle.code_table.proofs.Sequencing.{all_cover, cover_all, stop_there, there_stops}

-- what holds of each element gives another thing of each
each : {X : Type 0} (P Q : X → Type 0) → ((x : X) → P x → Q x) → (xs : List X) → AllByRecursion P xs → AllByRecursion Q xs
each P Q f [] h = tt
each P Q f (x ∷ xs) h = (f x h.0, each P Q f xs h.1)

-- a jump that does not lead off lands
lands : (ops : List Placed) (p : Placed) → leads_off (is_start ops) p ≡ false → Lands ops p
unfolding leads_off
lands ops p h = AllPass-from_list_all (is_start ops) (targets_of p.op) (not_false (list_all (is_start ops) (targets_of p.op)) h)

-- and the other way round
stays : (ops : List Placed) (p : Placed) → Lands ops p → leads_off (is_start ops) p ≡ false
unfolding leads_off
stays ops p h = ap not (list_all-from_AllPass (is_start ops) (targets_of p.op) h)

-- the four parts of a test on an entry
parts : (a b c d : Bool) → not (a && b && c && d) ≡ false → (a ≡ true) × (b ≡ true) × (c ≡ true) × (d ≡ true)
parts true true true true h = (refl, refl, refl, refl)
parts true true true false h = absurd (cc)
parts true true false d h = absurd (cc)
parts true false c d h = absurd (cc)
parts false b c d h = absurd (cc)

-- one of two tests holds where either does
one_of : (a b : Bool) → (a || b) ≡ true → (a ≡ true) ⊎ (b ≡ true)
one_of true b h = inl refl
one_of false b h = inr h

-- an entry that is not bad is in order
in_order : (ops : List Placed) (end : ℕ) (e : TableItem) → is_bad_entry (is_start ops) end e ≡ false → IsEntry ops end e
unfolding is_bad_entry
in_order ops end e h =
    let p = parts (is_start ops e.start) (is_start ops e.end || e.end == end) (is_start ops e.handler) (nat_lt e.start e.end) h in
    record {
      start = p.0;
      last = elim (one_of (is_start ops e.end) (e.end == end) p.1) [ inl a ↦ inl a | inr b ↦ inr (grind (arith, nat_tests)) ];
      handler = p.2;
      below = let t = p.3 in grind (arith, nat_tests);
    }

-- a test that holds, behind another
either_true : (a : Bool) → (a || true) ≡ true
either_true true = refl
either_true false = refl

-- an entry that is in order is not bad
is_good : (ops : List Placed) (end : ℕ) (e : TableItem) → IsEntry ops end e → is_bad_entry (is_start ops) end e ≡ false
unfolding is_bad_entry
is_good ops end e h =
    let below = h.below in
    let t : nat_lt e.start e.end ≡ true = grind (arith, nat_tests) in
    let last : (is_start ops e.end || e.end == end) ≡ true = elim h.last [
      | inl a ↦ rw a refl
      | inr b ↦ let same : (e.end == end) ≡ true = grind (arith, nat_tests) in rw same (either_true (is_start ops e.end))
    ] in
    rw (h.start, last, h.handler, t) refl

-- nothing was refused, or the first was
passed : {A B : Type 0} (why : A → CodeErr) (o : Option A) (f : Unit {0} → Result B CodeErr) (y : B) → refused why o >>= f ≡ Ok y → (o ≡ None) × (f tt ≡ Ok y)
passed why None f y h = (refl, h)
passed why (Some x) f y h = absurd (cc)

-- the first was refused, or what follows
failed : {A B : Type 0} (why : A → CodeErr) (o : Option A) (f : Unit {0} → Result B CodeErr) (e : CodeErr) → refused why o >>= f ≡ Err e → ((x : A) × (o ≡ Some x) × (e ≡ why x)) ⊎ ((o ≡ None) × (f tt ≡ Err e))
failed why None f e h = inr (refl, h)
failed why (Some x) f e h = inl (x, refl, (let g : why x ≡ e = cc in sym g))

module _ (item : CodeItem) (pool : List PoolItem) where
  -- the code of these instructions
  made : List Placed → Code
  made ops = record { max_stack = item.max_stack; max_locals = item.max_locals; ops = ops; table = item.table }

  -- the place of the first bad entry
  bad_entries : List Placed → Option ℕ
  bad_entries ops = position (is_bad_entry (is_start ops) (length item.code)) item.table

  -- what follows the targets: the exception table
  table_asked : List Placed → Unit {0} → Result Code CodeErr
  table_asked ops _ = refused BadTable (bad_entries ops) >>= λ _. Ok (made ops)

  -- what follows the instructions: the targets, then the table
  asked : List Placed → Result Code CodeErr
  asked ops = refused (λ p. TargetOff p.at) (find (leads_off (is_start ops)) ops) >>= table_asked ops

  -- decoding in these steps
  steps : decoded item pool ≡ (instructions_of item.code pool >>= asked)
  unfolding decoded asked table_asked bad_entries made
  steps = refl

  -- where no jump leads off, all land
  lands_all : (ops : List Placed) → find (leads_off (is_start ops)) ops ≡ None → AllByRecursion (Lands ops) ops
  lands_all ops h = each (λ p. leads_off (is_start ops) p ≡ false) (Lands ops) (lands ops) ops (find_none (leads_off (is_start ops)) ops h)

  -- and the other way round
  none_off : (ops : List Placed) → AllByRecursion (Lands ops) ops → find (leads_off (is_start ops)) ops ≡ None
  none_off ops h = none_find (leads_off (is_start ops)) ops (each (Lands ops) (λ p. leads_off (is_start ops) p ≡ false) (stays ops) ops h)

  -- what is decoded is the code of the item
  pub is_code : (code : Code) → decoded item pool ≡ Ok code → IsCode item pool code
  unfolding asked table_asked bad_entries made
  is_code code h =
      let a = bind_ok (instructions_of item.code pool) asked code (sym steps ∙ h) in
      let b = passed (λ (p : Placed). TargetOff p.at) (find (leads_off (is_start a.0)) a.0) (table_asked a.0) code a.2 in
      let c = passed BadTable (bad_entries a.0) (λ _. Ok (made a.0)) code b.1 in
      let e : made a.0 ≡ code = ok_is (made a.0) code c.1 in
      let P : Code → Type 0 = λ c. IsCode item pool c in
      subst P e (record {
        covers = all_cover item.code pool a.0 a.1;
        lands = lands_all a.0 b.0;
        entries = each (λ q. is_bad_entry (is_start a.0) (length item.code) q ≡ false) (IsEntry a.0 (length item.code)) (in_order a.0 (length item.code)) item.table
            (position_none (is_bad_entry (is_start a.0) (length item.code)) item.table c.0);
        max_stack = refl;
        max_locals = refl;
        table = refl;
      })

  -- the code of the item is what is decoded
  pub code_is : (code : Code) → IsCode item pool code → decoded item pool ≡ Ok code
  unfolding asked table_asked bad_entries made
  code_is code h =
      let good = none_position (is_bad_entry (is_start code.ops) (length item.code)) item.table
      (each (IsEntry code.ops (length item.code)) (λ q. is_bad_entry (is_start code.ops) (length item.code) q ≡ false) (is_good code.ops (length item.code)) item.table h.entries) in
      let same : made code.ops ≡ code = rw (← h.max_stack, ← h.max_locals, ← h.table) refl in
      steps ∙ rw (cover_all item.code pool code.ops h.covers, none_off code.ops h.lands, good) (ap (λ (c : Code). Ok c) same)

  -- the first jump that leads off, with what lies before and behind it
  jumps_off : (ops : List Placed) (p : Placed) (e : CodeErr) → Covers item.code pool ops → find (leads_off (is_start ops)) ops ≡ Some p → e ≡ TargetOff p.at → JumpsOff item pool e
  jumps_off ops p e covers h why =
      let f = find_first (leads_off (is_start ops)) ops p h in
      let P : List Placed → Type 0 = λ zs. Covers item.code pool zs × AllByRecursion (λ q. leads_off (is_start zs) q ≡ false) f.before × (leads_off (is_start zs) p ≡ true) in
      let all = subst P f.parts (covers, f.others, f.passes) in
      record { before = f.before; p = p; after = f.after; covers = all.0; others = all.1; off = all.2; why = why }

  -- a refusal of decoding is due
  pub is_refused : (e : CodeErr) → decoded item pool ≡ Err e → IsRefused item pool e
  unfolding asked table_asked bad_entries made
  is_refused e h = elim (bind_err (instructions_of item.code pool) asked e (sym steps ∙ h)) [
    | inl stopped ↦ inl (stop_there item.code pool e stopped)
    | inr a ↦ elim (failed (λ (p : Placed). TargetOff p.at) (find (leads_off (is_start a.0)) a.0) (table_asked a.0) e a.2) [
      | inl b ↦ inr (inl (jumps_off a.0 b.0 e (all_cover item.code pool a.0 a.1) b.1 b.2))
      | inr c ↦ elim (failed BadTable (bad_entries a.0) (λ _. Ok (made a.0)) e c.1) [
        | inl d ↦
            let f = position_first (is_bad_entry (is_start a.0) (length item.code)) item.table d.0 d.1 in
            let n : d.0 ≡ length f.first.before = let place = f.place in omega arith in
            inr (inr (record {
              ops = a.0;
              covers = all_cover item.code pool a.0 a.1;
              lands = lands_all a.0 c.0;
              before = f.first.before;
              entry = f.x;
              after = f.first.after;
              parts = f.first.parts;
              others = f.first.others;
              bad = f.first.passes;
              why = d.2 ∙ ap BadTable n;
            }))
        | inr none ↦ absurd (cc)
      ]
    ]
  ]

  -- a refusal that is due is that of decoding
  pub refused_is : (e : CodeErr) → IsRefused item pool e → decoded item pool ≡ Err e
  unfolding asked table_asked bad_entries made
  refused_is e (inl s) = steps ∙ rw (there_stops item.code pool e s) refl
  refused_is e (inr (inl j)) =
      let off = first_find (leads_off (is_start (j.before ++ j.p ∷ j.after))) j.before j.p j.after j.others j.off in
      steps ∙ rw (cover_all item.code pool (j.before ++ j.p ∷ j.after) j.covers, off, j.why) refl
  refused_is e (inr (inr b)) =
      let found = first_position (is_bad_entry (is_start b.ops) (length item.code)) b.before b.entry b.after b.others b.bad in
      let bad : bad_entries b.ops ≡ Some (length b.before) = rw b.parts found in
      steps ∙ rw (cover_all item.code pool b.ops b.covers, none_off b.ops b.lands, bad, b.why) refl

  -- the clauses on what a call returned

  -- what was answered is the code of the item
  pub found_of : (r : Result Code CodeErr) → Gives told itself r (decoded item pool) → IfOk r (λ code. IsCode item pool code)
  found_of (Ok code) h = is_code code h
  found_of (Err e) h = tt

  -- the code of the item is answered
  pub only_of : (r : Result Code CodeErr) → Gives told itself r (decoded item pool) → (code : Code) → IsCode item pool code → Gives told itself r (Ok code)
  only_of r h code is_it = rw (← code_is code is_it) h

  -- what a refusal tells is due
  tells : (o : Option CodeErr) → IfSome o (λ e. decoded item pool ≡ Err e) → IfSome o (IsRefused item pool)
  tells None h = tt
  tells (Some e) h = is_refused e h

  -- a refusal that was answered is due
  pub refused_of : (r : Result Code CodeErr) → Gives told itself r (decoded item pool) → IfErr r (λ e. IsDue item pool e)
  refused_of (Ok code) h = tt
  refused_of (Err e) h = tells (told e) h

  -- a refusal that is due is answered
  pub due_of : (r : Result Code CodeErr) → Gives told itself r (decoded item pool) → (e : CodeErr) → IsRefused item pool e → Gives told itself r (Err e)
  due_of r h e is_it = rw (← refused_is e is_it) h

  -- there is one answer

  -- an item has at most one code
  pub one_code : (a b : Code) → IsCode item pool a → IsCode item pool b → a ≡ b
  one_code a b ha hb = ok_is a b (sym (code_is a ha) ∙ code_is b hb)

  -- where it has one, no refusal is due
  pub code_or_refusal : (a : Code) (e : CodeErr) → IsCode item pool a → IsRefused item pool e → ⊥
  code_or_refusal a e ha he = let x = code_is a ha in let y = refused_is e he in cc

  -- at most one refusal is due
  pub one_refusal : (d e : CodeErr) → IsRefused item pool d → IsRefused item pool e → d ≡ e
  one_refusal d e hd he = let x = refused_is d hd in let y = refused_is e he in cc
