-- The answers of one stage after the other.
use Rattle.std.proofs.Common.{◌≡◌, List, [], ◌++◌, map, ap, sym, ◌∙◌, subst}
use Rattle.std.proofs.lemmas.List.{map-append}
use Rattle.link_rules.specs.declared.error.LinkErr.{LinkErr}
use Rattle.link_rules.specs.Answers.{IsFirst}
use Rattle.link_rules.proofs.Firsts.{first_front, first_back, none_back}

-- the first of no refusals is want of memory, which may be answered at any time
pub none_first : (none xs : List LinkErr) (e : LinkErr) → none ≡ [] → IsFirst none e → IsFirst xs e
none_first none xs e n h = first_front [] xs e (subst (λ z. IsFirst z e) n h)

pub names_joined : {A B : Type 0} (g : A → B) (xs ys : List A) (named : List B) → named ≡ map g xs → named ++ map g ys ≡ map g (xs ++ ys)
names_joined g xs ys named e = ap (λ z. z ++ map g ys) e ∙ sym (map-append g xs ys)

-- the first refusal of the second list, where the first is empty
pub second_first : (xs ys rest : List LinkErr) (e : LinkErr) → xs ≡ [] → IsFirst ys e → IsFirst (xs ++ (ys ++ rest)) e
second_first xs ys rest e x h = first_back xs (ys ++ rest) e x (first_front ys rest e h)

-- of the third, where both before it are
pub third_first : (xs ys zs rest : List LinkErr) (e : LinkErr) → xs ≡ [] → ys ≡ [] → IsFirst zs e → IsFirst (xs ++ (ys ++ (zs ++ rest))) e
third_first xs ys zs rest e x y h = first_back xs (ys ++ (zs ++ rest)) e x (second_first ys zs rest e y h)

-- of the fourth
pub fourth_first : (xs ys zs ws rest : List LinkErr) (e : LinkErr) → xs ≡ [] → ys ≡ [] → zs ≡ [] → IsFirst ws e → IsFirst (xs ++ (ys ++ (zs ++ (ws ++ rest)))) e
fourth_first xs ys zs ws rest e x y z h = first_back xs (ys ++ (zs ++ (ws ++ rest))) e x (third_first ys zs ws rest e y z h)

-- of the last of five
pub fifth_first : (xs ys zs ws vs : List LinkErr) (e : LinkErr) → xs ≡ [] → ys ≡ [] → zs ≡ [] → ws ≡ [] → IsFirst vs e → IsFirst (xs ++ (ys ++ (zs ++ (ws ++ vs)))) e
fifth_first xs ys zs ws vs e x y z w h =
    first_back xs (ys ++ (zs ++ (ws ++ vs))) e x
    (first_back ys (zs ++ (ws ++ vs)) e y (first_back zs (ws ++ vs) e z (first_back ws vs e w h)))

-- none of five has a refusal
pub five_none : (xs ys zs ws vs : List LinkErr) → xs ≡ [] → ys ≡ [] → zs ≡ [] → ws ≡ [] → vs ≡ [] → xs ++ (ys ++ (zs ++ (ws ++ vs))) ≡ []
five_none xs ys zs ws vs x y z w v =
    none_back xs _ [] x (none_back ys _ [] y (none_back zs _ [] z (none_back ws vs [] w v)))
