-- The instance methods of each class by sign.
use Rattle.std.proofs.Common.{◌≡◌, ℕ, ◌+◌, ◌<◌, Bool, true, false, nat_eq, nat_lt, List, [], ◌∷◌, length, take, Option, Some, None, slice_get, slice_index, inl, inr, refl, sym, ap, ◌∙◌, arith}
use Rattle.std.specs.Prelude.{◌&&◌, if◌then◌else◌}
use Rattle.std.specs.declared.cmp.Ordering.{Ordering}
use Rattle.std.specs.declared.cmp.Ordering.TheVariants.{Less, Equal, Greater}
use Rattle.std.specs.Ordering.{is_eq, nat_cmp, ordering_then}
use Rattle.std.specs.Cmp.{nat_cmp_is}
use Rattle.std.specs.BTreeMap.{is_at}
use Rattle.std.proofs.lemmas.Bool.{cases_eq, cases_lt}
use Rattle.std.proofs.lemmas.Bool.Decides.{nat_tests}
use Rattle.std.proofs.lemmas.List.{take_more}
use Rattle.std.proofs.lemmas.Option.{slice_get_past}
use Rattle.jvm_base.specs.Words.{from}
use Rattle.hierarchy.specs.Walks.{first_some, or_else}
use Rattle.hierarchy.proofs.WalkLaws.{first_append, or_else_assoc, or_else_none}
use Rattle.program_image.specs.declared.info.ClassInfo.{ClassInfo}
use Rattle.program_image.specs.declared.info.MethodInfo.{MethodInfo}
use Rattle.program_image.specs.Signatures.{same_signature}
use Rattle.program_image.specs.Selection.{is_instance, like_one, methods_of, declared_by}
use Rattle.program_image.specs.Built.Signs.{Sign, sign_at, same_sign, AreSigns}
use Rattle.program_image.specs.Built.Members.{Member, member_cmp, member_at, member_one, members_in, AreDeclared}
use Rattle.program_image.proofs.Rows.{got}

-- ---- the order of members

-- an order by two is equal where both are
pub then_equal : (o p : Ordering) → is_eq (ordering_then o p) ≡ (is_eq o && is_eq p)
then_equal Less p = refl
then_equal Equal p = refl
then_equal Greater p = refl

same_true : (a b : ℕ) → a ≡ b → nat_eq a b ≡ true
same_true a b e = grind (arith, nat_tests)

same_false : (a b : ℕ) → (a ≡ b → ⊥) → nat_eq a b ≡ false
same_false a b e = grind (arith, nat_tests)

-- numbers compare equal where they are one
pub numbers_equal : (a b : ℕ) → is_eq (nat_cmp a b) ≡ nat_eq a b
numbers_equal a b = elim (cases_eq a b) [
  | inl e ↦ ap is_eq (sym (nat_cmp_is a b Equal e)) ∙ sym (same_true a b e)
  | inr ne ↦ elim (cases_lt a b) [
    | inl less ↦ ap is_eq (sym (nat_cmp_is a b Less less)) ∙ sym (same_false a b ne)
    | inr more ↦ ap is_eq (sym (nat_cmp_is a b Greater (omega arith))) ∙ sym (same_false a b ne)
  ]
]

-- members compare equal where class and sign are one
member_equal : (c : ℕ) (s : Sign) (key : Member) → is_at (member_cmp (c, s)) key ≡ (nat_eq c key.0 && same_sign s key.1)
member_equal c s key =
    then_equal (nat_cmp c key.0) (ordering_then (nat_cmp s.0 key.1.0) (nat_cmp s.1 key.1.1))
    ∙ ap (λ b. b && is_eq (ordering_then (nat_cmp s.0 key.1.0) (nat_cmp s.1 key.1.1))) (numbers_equal c key.0)
    ∙ ap (λ b. nat_eq c key.0 && b) (then_equal (nat_cmp s.0 key.1.0) (nat_cmp s.1 key.1.1) ∙ ap (λ b. b && is_eq (nat_cmp s.1 key.1.1)) (numbers_equal s.0 key.1.0) ∙ ap (λ b. nat_eq s.0 key.1.0 && b) (numbers_equal s.1 key.1.1))

-- ---- adding the methods of one class

-- the method that is added is that of one place
pub one_method : (ms : List MethodInfo) (signs : List Sign) (class : ℕ) (key : Member) (m : ℕ) (info : MethodInfo) (b : Bool) → slice_get ms m ≡ Some info → is_instance info ≡ b → member_one ms signs class key m ≡ (if b && is_at (member_cmp (class, sign_at signs m)) key then Some m else None)
one_method ms signs class key m info b e h =
    ap (λ o. if from false is_instance o && is_at (member_cmp (class, sign_at signs m)) key then Some m else None) e
    ∙ ap (λ z. if z && is_at (member_cmp (class, sign_at signs m)) key then Some m else None) h

-- one more method of a class
pub members_more : (ms : List MethodInfo) (signs : List Sign) (class : ℕ) (key : Member) (items : List ℕ) (i : ℕ) (old now new : Option ℕ) → i < length items → now ≡ or_else old (members_in ms signs class key (take i items)) → new ≡ or_else now (member_one ms signs class key (slice_index items i)) → new ≡ or_else old (members_in ms signs class key (take (i + 1) items))
members_more ms signs class key items i old now new h en ew =
    let f : ℕ → Option ℕ = member_one ms signs class key in
    let x = slice_index items i in
    let more : first_some f (take (i + 1) items) ≡ or_else (first_some f (take i items)) (f x) = ap (first_some f) (take_more items i 0 h) ∙ first_append f (take i items) (x ∷ []) ∙ ap (or_else (first_some f (take i items))) (or_else_none (f x)) in
    ew ∙ ap (λ o. or_else o (f x)) en ∙ or_else_assoc old (first_some f (take i items)) (f x) ∙ ap (or_else old) (sym more)

-- ---- the methods of all classes

-- methods of another class aren't of this one
other_class : (ms : List MethodInfo) (signs : List Sign) (class : ℕ) (key : Member) (items : List ℕ) → (class ≡ key.0 → ⊥) → members_in ms signs class key items ≡ None
other_class ms signs class key [] ne = refl
other_class ms signs class key (m ∷ items) ne =
    let b : is_at (member_cmp (class, sign_at signs m)) key ≡ false = member_equal class (sign_at signs m) key ∙ ap (λ z. z && same_sign (sign_at signs m) key.1) (same_false class key.0 ne) in
    let none : member_one ms signs class key m ≡ None = ap (λ z. if from false is_instance (slice_get ms m) && z then Some m else None) b ∙ never (from false is_instance (slice_get ms m)) m in
    ap (λ o. or_else o (members_in ms signs class key items)) none ∙ other_class ms signs class key items ne
  where
    never : (b : Bool) (m : ℕ) → (if b && false then Some m else None) ≡ None
    never true m = refl
    never false m = refl

-- what the classes below a number declare
abbrev pub declared_below : List ClassInfo → List MethodInfo → List Sign → ℕ → Member → Option ℕ
declared_below classes ms signs i key = if nat_lt key.0 i then members_in ms signs key.0 key (methods_of classes key.0) else None

less_true : (a b : ℕ) → a < b → nat_lt a b ≡ true
less_true a b h = grind (arith, nat_tests)

less_false : (a b : ℕ) → (a < b → ⊥) → nat_lt a b ≡ false
less_false a b h = grind (arith, nat_tests)

-- one more class
pub declared_more : (classes : List ClassInfo) (ms : List MethodInfo) (signs : List Sign) (i : ℕ) (info : ClassInfo) (key : Member) (now new : Option ℕ) → slice_get classes i ≡ Some info → now ≡ declared_below classes ms signs i key → new ≡ or_else now (members_in ms signs i key info.methods) → new ≡ declared_below classes ms signs (i + 1) key
declared_more classes ms signs i info key now new at en ew = elim (cases_eq key.0 i) [
  | inl s ↦
      let none : now ≡ None = en ∙ ap (λ b. if b then members_in ms signs key.0 key (methods_of classes key.0) else None) (less_false key.0 i (λ h. omega arith)) in
      let here : declared_below classes ms signs (i + 1) key ≡ members_in ms signs i key info.methods = ap (λ b. if b then members_in ms signs key.0 key (methods_of classes key.0) else None) (less_true key.0 (i + 1) (omega arith)) ∙ ap (λ c. members_in ms signs c key (methods_of classes c)) s ∙ ap (λ o. members_in ms signs i key (from [] (λ k. k.methods) o)) at in
      ew ∙ ap (λ o. or_else o (members_in ms signs i key info.methods)) none ∙ sym here
  | inr ne ↦
      let none = other_class ms signs i key info.methods (λ e. ne (sym e)) in
      ew ∙ ap (or_else now) none ∙ or_else_none now ∙ en ∙ ap (λ b. if b then members_in ms signs key.0 key (methods_of classes key.0) else None) (same_less key.0 i ne)
]
  where
    same_less : (a b : ℕ) → (a ≡ b → ⊥) → nat_lt a b ≡ nat_lt a (b + 1)
    same_less a b ne = elim (cases_lt a b) [
      | inl h ↦ less_true a b h ∙ sym (less_true a (b + 1) (omega arith))
      | inr h ↦ less_false a b (λ q. omega arith) ∙ sym (less_false a (b + 1) (λ q. omega arith))
    ]

-- all classes
pub declared_all : (classes : List ClassInfo) (ms : List MethodInfo) (signs : List Sign) (entries : List (Member × ℕ)) (i : ℕ) → length classes ≡ i → ((key : Member) → member_at entries key ≡ declared_below classes ms signs i key) → AreDeclared classes ms signs entries
declared_all classes ms signs entries i done h = record {
  each = λ key. elim (cases_lt key.0 i) [
    | inl less ↦ h key ∙ ap (λ b. if b then members_in ms signs key.0 key (methods_of classes key.0) else None) (less_true key.0 i less)
    | inr more ↦
        let past : slice_get classes key.0 ≡ None = slice_get_past classes key.0 (omega arith) in
        h key ∙ ap (λ b. if b then members_in ms signs key.0 key (methods_of classes key.0) else None) (less_false key.0 i (λ q. omega arith)) ∙ sym (ap (λ o. members_in ms signs key.0 key (from [] (λ k. k.methods) o)) past)
  ];
}

-- ---- the look-up

-- two questions that agree along a list have one first answer
pub first_same : {A : Type 0} (f g : ℕ → Option A) (xs : List ℕ) → ((x : ℕ) → f x ≡ g x) → first_some f xs ≡ first_some g xs
first_same f g [] h = refl
first_same f g (x ∷ xs) h = ap (λ o. or_else o (first_some f xs)) (h x) ∙ ap (or_else (g x)) (first_same f g xs h)

-- a method is of the called one's sign exactly where it is of its name and descriptor
one_like : (ms : List MethodInfo) (signs : List Sign) (class called : ℕ) (x : MethodInfo) → AreSigns ms signs → slice_get ms called ≡ Some x → (m : ℕ) → member_one ms signs class (class, sign_at signs called) m ≡ like_one ms called m
one_like ms signs class called x signed at m = elim (got ms m) [
  | inl e ↦ ap (λ o. if from false is_instance o && is_at (member_cmp (class, sign_at signs m)) (class, sign_at signs called) then Some m else None) e ∙ sym (ap (λ o. if from false (λ x. from false (λ y. is_instance y && same_signature y x) o) (slice_get ms called) then Some m else None) e ∙ ap (λ o. if from false (λ x. false) o then Some m else None) at)
  | inr g ↦
      let s : is_at (member_cmp (class, sign_at signs m)) (class, sign_at signs called) ≡ same_signature g.0 x = member_equal class (sign_at signs m) (class, sign_at signs called) ∙ ap (λ b. b && same_sign (sign_at signs m) (sign_at signs called)) (same_true class class refl) ∙ signed.tell m called g.0 x g.1 at in
      one_method ms signs class (class, sign_at signs called) m g.0 (is_instance g.0) g.1 refl
      ∙ ap (λ b. if is_instance g.0 && b then Some m else None) s
      ∙ sym (ap (λ o. if from false (λ x. from false (λ y. is_instance y && same_signature y x) o) (slice_get ms called) then Some m else None) g.1 ∙ ap (λ o. if from false (λ x. is_instance g.0 && same_signature g.0 x) o then Some m else None) at)
]

-- what is kept at a class and a sign is what the class declares
pub look_up : (classes : List ClassInfo) (ms : List MethodInfo) (signs : List Sign) (entries : List (Member × ℕ)) (class called : ℕ) (x : MethodInfo) → AreSigns ms signs → AreDeclared classes ms signs entries → slice_get ms called ≡ Some x → member_at entries (class, sign_at signs called) ≡ declared_by classes ms called class
look_up classes ms signs entries class called x signed declared at = declared.each (class, sign_at signs called) ∙ first_same (member_one ms signs class (class, sign_at signs called)) (like_one ms called) (methods_of classes class) (one_like ms signs class called x signed at)
