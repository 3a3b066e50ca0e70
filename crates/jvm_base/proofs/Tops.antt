-- Lists that are seen from their end.
use Rattle.std.proofs.Common.{◌≡◌, ℕ, ◌+◌, ◌-◌, ◌<◌, ◌≤◌, List, [], ◌∷◌, ◌++◌, length, take, drop, reverse, Option, sym, ap, ◌∙◌, arith}
use Rattle.std.specs.Prelude.{slice_set}
use Rattle.std.proofs.lemmas.List.{take-append-drop, drop_at, length-drop, length-append, reverse-append, reverse-reverse, length-reverse}
use Rattle.std.proofs.Math.Seq.{set-append_seam, get_or-append_seam}
use Rattle.std.proofs.Common.{get_or}
use Rattle.jvm_base.specs.Stack.{Stack}
use Rattle.jvm_base.specs.Tops.{level_answered, top_answered}
use Rattle.jvm_base.specs.declared.value.Value.{Value}
use Rattle.jvm_base.specs.declared.frame.Level.{Level}

-- what is left after the last ones are taken off
pub reverse-take : {X : Type 0} (xs : List X) (k : ℕ) → k ≤ length xs → reverse (take (length xs - k) xs) ≡ drop k (reverse xs)
reverse-take {X} xs k le =
    let n : ℕ = length xs - k in
    let front : List X = take (length xs - k) xs in
    let back : List X = drop (length xs - k) xs in
    let parts : reverse xs ≡ reverse (drop (length xs - k) xs) ++ reverse (take (length xs - k) xs) = ap reverse (sym (take-append-drop (length xs - k) xs)) ∙ reverse-append (take (length xs - k) xs) (drop (length xs - k) xs) in
    let len : length (reverse (drop (length xs - k) xs)) ≡ k = length-reverse (drop (length xs - k) xs) ∙ length-drop (length xs - k) xs ∙ omega arith in
    sym (ap (drop k) parts ∙ drop_at (reverse (drop (length xs - k) xs)) (reverse (take (length xs - k) xs)) k len)

-- the last one is replaced
pub reverse-set : {X : Type 0} (xs : List X) (n : ℕ) (x y : X) (ys : List X) → reverse xs ≡ x ∷ ys → n + 1 ≡ length xs → reverse (slice_set xs n y) ≡ y ∷ ys
reverse-set {X} xs n x y ys e len =
    let is : xs ≡ reverse ys ++ x ∷ [] = sym (reverse-reverse xs) ∙ ap reverse e ∙ reverse-append (x ∷ []) ys in
    let at : n ≡ length (reverse ys) = omega (arith, ap length is, length-append (reverse ys) (x ∷ [])) in
    ap (λ (zs : List X). reverse (slice_set zs n y)) is
    ∙ ap (λ (k : ℕ). reverse (slice_set (reverse ys ++ x ∷ []) k y)) at
    ∙ ap reverse (set-append_seam (reverse ys) x [] y)
    ∙ reverse-append (reverse ys) (y ∷ [])
    ∙ ap (λ (zs : List X). y ∷ zs) (reverse-reverse ys)

-- the last one is the first one seen
pub get_or-last : {X : Type 0} (xs : List X) (n : ℕ) (x d : X) (ys : List X) → reverse xs ≡ x ∷ ys → n + 1 ≡ length xs → get_or xs n d ≡ x
get_or-last {X} xs n x d ys e len =
    let is : xs ≡ reverse ys ++ x ∷ [] = sym (reverse-reverse xs) ∙ ap reverse e ∙ reverse-append (x ∷ []) ys in
    let at : n ≡ length (reverse ys) = omega (arith, ap length is, length-append (reverse ys) (x ∷ [])) in
    ap (λ (zs : List X). get_or zs n d) is
    ∙ ap (λ (k : ℕ). get_or (reverse ys ++ x ∷ []) k d) at
    ∙ get_or-append_seam (reverse ys) x [] d

-- ---- as the calls know it

abbrev stack : List Value → ℕ → Stack
stack values room = record { values = values; room = room }

pub taken : (items kept : List Value) (room n k : ℕ) (now : Stack) → stack (reverse items) room ≡ now → kept ≡ take (n - k) items → n ≡ length items → k ≤ length now.values → stack (reverse kept) room ≡ stack (drop k now.values) now.room
taken items kept room n k now e is len le =
    let values : reverse items ≡ now.values = ap (λ (s : Stack). s.values) e in
    let same : room ≡ now.room = ap (λ (s : Stack). s.room) e in
    let kept_is : reverse kept ≡ drop k now.values = ap reverse is ∙ ap (λ (m : ℕ). reverse (take (m - k) items)) len ∙ reverse-take items k (omega (arith, ap length values, length-reverse items)) ∙ ap (drop k) values in
    ap (λ (vs : List Value). stack vs room) kept_is ∙ ap (λ (r : ℕ). stack (drop k now.values) r) same

pub top_set : (items now : List Level) (len next takes : ℕ) (value : Option Value) (top new : Level) → reverse items ≡ now → len ≡ length items → 0 < len → top ≡ get_or items (len - 1) top → new ≡ level_answered next takes value top → reverse (slice_set items (len - 1) new) ≡ top_answered next takes value now
top_set items [] len next takes value top new e l some t h = absurd (omega (arith, ap length e, length-reverse items))
top_set items (x ∷ xs) len next takes value top new e l some t h =
    let is : top ≡ x = t ∙ get_or-last items (len - 1) x top xs e (omega arith) in
    reverse-set items (len - 1) x new xs e (omega arith) ∙ ap (λ (y : Level). y ∷ xs) (h ∙ ap (level_answered next takes value) is)
