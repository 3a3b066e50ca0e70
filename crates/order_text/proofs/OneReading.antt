-- A text has one order, or one first fault.
use Rattle.std.proofs.Common.{◌≡◌, ◌≤◌, ◌-◌, ℕ, List, [], ◌∷◌, ◌++◌, take, drop, map, ap, sym, ◌∙◌, refl, arith, append_assoc, append-nil, inl, inr}
use Rattle.std.proofs.lemmas.Bool.{cases_lt}
use Rattle.std.proofs.lemmas.List.{take-append-drop, take-take}
use Rattle.std.specs.Prelude.{Result, Ok, Err, IfOk, IfErr}
use Rattle.jvm_base.specs.Told.{Gives, Tells, itself}
use Rattle.order_text.specs.declared.error.OrderErr.{OrderErr}
use Rattle.order_text.specs.declared.error.OrderErr.TheVariants.{BadOrder, NoMemory}
use Rattle.order_text.specs.Told.{told}
use Rattle.jvm_base.specs.declared.name.Name.{Name}
use Rattle.machine_state.specs.declared.state.Choice.{Choice}
use Rattle.order_text.specs.Spelling.{space, dot, line_end, head_line, end_line, field, name_end, choice_line, IsName, IsChoice, AreChoices, IsOrderText}
use Rattle.order_text.specs.Faults.{lines, BeginsFor, IsFirstFault}
use Rattle.order_text.proofs.Numerals.{field_splits}
use Rattle.order_text.proofs.LineLaws.{lines_of_order}
use Rattle.order_text.proofs.FaultLaws.{clash, heads, tails}

-- ---- one order

same_name : (m n : Name) → IsName m → IsName n → name_end m ≡ name_end n → m ≡ n
same_name m n a b e =
    let x = field_splits m.node n.node dot (field m.class dot ++ (field m.index line_end ++ [])) (field n.class dot ++ (field n.index line_end ++ [])) (omega (arith, a.node)) (omega (arith, b.node)) (omega arith) e in
    let y = field_splits m.class n.class dot (field m.index line_end ++ []) (field n.index line_end ++ []) (omega (arith, a.class)) (omega (arith, b.class)) (omega arith) x.1 in
    let z = field_splits m.index n.index line_end [] [] a.index b.index (omega arith) y.1 in
    ap (λ k. record { node = k; class = m.class; index = m.index }) x.0
    ∙ ap (λ k. record { node = n.node; class = k; index = m.index }) y.0
    ∙ ap (λ k. record { node = n.node; class = n.class; index = k }) z.0

same_choice : (c d : Choice) → IsChoice c → IsChoice d → choice_line c ≡ choice_line d → c ≡ d
same_choice c d a b e =
    let x = field_splits c.thread d.thread space (field c.pick space ++ (name_end c.name ++ [])) (field d.pick space ++ (name_end d.name ++ [])) a.thread b.thread (omega arith) e in
    let y = field_splits c.pick d.pick space (name_end c.name ++ []) (name_end d.name ++ []) a.pick b.pick (omega arith) x.1 in
    let z = same_name c.name d.name a.name b.name (sym (append-nil (name_end c.name)) ∙ y.1 ∙ append-nil (name_end d.name)) in
    ap (λ k. record { thread = k; pick = c.pick; name = c.name }) x.0
    ∙ ap (λ k. record { thread = d.thread; pick = k; name = c.name }) y.0
    ∙ ap (λ k. record { thread = d.thread; pick = d.pick; name = k }) z

same_order : (a b : List Choice) → AreChoices a → AreChoices b → map choice_line a ++ end_line ∷ [] ≡ map choice_line b ++ end_line ∷ [] → a ≡ b
same_order [] [] f g e = refl
same_order [] (d ∷ ds) f g e = absurd (clash d g.0 (sym (heads end_line (choice_line d) [] (map choice_line ds ++ end_line ∷ []) e)))
same_order (c ∷ cs) [] f g e = absurd (clash c f.0 (heads (choice_line c) end_line (map choice_line cs ++ end_line ∷ []) [] e))
same_order (c ∷ cs) (d ∷ ds) f g e =
    ap (λ x. x ∷ cs) (same_choice c d f.0 g.0 (heads (choice_line c) (choice_line d) (map choice_line cs ++ end_line ∷ []) (map choice_line ds ++ end_line ∷ []) e))
    ∙ ap (λ xs. d ∷ xs) (same_order cs ds f.1 g.1 (tails (choice_line c) (choice_line d) (map choice_line cs ++ end_line ∷ []) (map choice_line ds ++ end_line ∷ []) e))

pub order_is_one : (text : List ℕ) (a b : List Choice) → IsOrderText text a → IsOrderText text b → a ≡ b
order_is_one text a b x y =
    same_order a b x.choices y.choices (tails head_line head_line _ _
    (sym (lines_of_order a x.choices) ∙ ap lines (sym x.spelled ∙ y.spelled) ∙ lines_of_order b y.choices))

-- ---- one fault

-- fewer lines begin an order's too
fewer : (j k : ℕ) (text : List ℕ) → j ≤ k → BeginsFor k text → BeginsFor j text
fewer j k text less b = (
  omega (arith, less, b.0),
  (
    b.1.0,
    drop j (take k (lines text)) ++ b.1.1,
    b.1.2,
    b.1.3 ∙ ap (λ z. z ++ b.1.1) (sym (take-append-drop j (take k (lines text))))
        ∙ append_assoc (take j (take k (lines text))) (drop j (take k (lines text))) b.1.1
        ∙ ap (λ z. z ++ (drop j (take k (lines text)) ++ b.1.1)) (take-take j k (lines text) less),
  ),
)

pub fault_is_one : (text : List ℕ) (a b : ℕ) → IsFirstFault text a → IsFirstFault text b → a ≡ b
fault_is_one text a b x y =
    elim (cases_lt a b) [
      | inl less ↦ absurd (x.here (fewer a (b - 1) text (omega (arith, less)) y.before))
      | inr over ↦ elim (cases_lt b a) [
        | inl more ↦ absurd (y.here (fewer b (a - 1) text (omega (arith, more)) x.before))
        | inr same ↦ omega (arith, over, same)
      ]
    ]

-- ---- what is answered

pub gives_order : (text : List ℕ) (r : Result (List Choice) OrderErr) → IfOk r (λ o. IsOrderText text o) → IfErr r (Tells told (IsFirstFault text)) → (order : List Choice) → IsOrderText text order → Gives told itself r (Ok order)
gives_order text (Ok x) found fault order is = ap Ok (order_is_one text order x is found)
gives_order text (Err (BadOrder line)) found fault order is = absurd (fault.other order is)
gives_order text (Err NoMemory) found fault order is = tt

pub gives_fault : (text : List ℕ) (r : Result (List Choice) OrderErr) → IfOk r (λ o. IsOrderText text o) → IfErr r (Tells told (IsFirstFault text)) → (line : ℕ) → IsFirstFault text line → Gives told itself r (Err line)
gives_fault text (Ok x) found fault line is = absurd (is.other x found)
gives_fault text (Err (BadOrder other)) found fault line is = ap Err (fault_is_one text line other is fault)
gives_fault text (Err NoMemory) found fault line is = tt
