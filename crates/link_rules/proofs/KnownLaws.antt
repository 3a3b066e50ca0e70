-- A text of which a table tells that it names only classes that are there isn't refused.
use Rattle.std.proofs.Common.{◌≡◌, ℕ, Bool, true, false, ◌&&◌, List, [], ◌∷◌, Option, Some, None, refl, sym, subst}
use Rattle.std.specs.Prelude.{if◌then◌else◌, slice_get}
use Rattle.std.specs.List.{flat_map, list_all}
use Rattle.std.specs.Option.{option_to_list}
use Rattle.jvm_base.specs.declared.desc.Desc.{Desc}
use Rattle.jvm_base.specs.declared.desc.MethodDesc.{MethodDesc}
use Rattle.jvm_base.specs.declared.pool.PoolItem.{PoolItem}
use Rattle.jvm_base.specs.Descriptors.{desc_of, method_of}
use Rattle.jvm_base.specs.Words.{from}
use Rattle.class_format.specs.declared.class.ClassFile.{ClassFile}
use Rattle.class_names.specs.Known.{is_known}
use Rattle.class_names.specs.Texts.{is_array, member_in, text_in}
use Rattle.class_names.specs.Named.{desc_names}
use Rattle.link_rules.specs.declared.error.LinkErr.{LinkErr}
use Rattle.link_rules.specs.Classes.{missing}
use Rattle.link_rules.specs.Descriptors.{is_left_out_class, left_out_class}
use Rattle.link_rules.specs.Marks.{IsTold, AreTested}
use Rattle.link_rules.specs.Walks.Missing.{missing_text, missing_desc, missing_method_desc, knows_desc, knows_method, knows_field_text, knows_method_text, knows_class_text}
use Rattle.link_rules.specs.Walks.Spelled.{IsField, IsMethod}
use Rattle.link_rules.proofs.MarkLaws.{told_tested}

-- both tests hold
both : (a b : Bool) → (a && b) ≡ true → (a ≡ true) × (b ≡ true)
both true b h = (refl, h)
both false b h = absurd cc

-- a name that is there isn't refused
one : (names : List (List ℕ)) (f : ClassFile) (name : List ℕ) → is_known names name ≡ true → missing names f name ≡ []
one names f name h = rw h refl

-- where each of some things passes a test, and none that passes is refused, none is refused
none : {X : Type 0} (test : X → Bool) (refusals : X → List LinkErr) (xs : List X) → ((x : X) → test x ≡ true → refusals x ≡ []) → list_all test xs ≡ true → flat_map refusals xs ≡ []
none test refusals [] each h = refl
none test refusals (x ∷ xs) each h =
    let t = both (test x) (list_all test xs) h in
    rw (each x (t.0)) (none test refusals xs each (t.1))

-- a field's descriptor
desc_known : (names : List (List ℕ)) (f : ClassFile) (d : Desc) → knows_desc names d ≡ true → missing_desc names f d ≡ []
desc_known names f d h = none (is_known names) (missing names f) (desc_names d) (one names f) h

-- a method's
method_known : (names : List (List ℕ)) (f : ClassFile) (m : MethodDesc) → knows_method names m ≡ true → missing_method_desc names f m ≡ []
method_known names f m h =
    let t = both (list_all (knows_desc names) m.args) (list_all (knows_desc names) (option_to_list m.ret)) h in
    let args : flat_map (missing_desc names f) m.args ≡ [] = none (knows_desc names) (missing_desc names f) m.args (desc_known names f) (t.0) in
    rw args (none (knows_desc names) (missing_desc names f) (option_to_list m.ret) (desc_known names f) (t.1))

-- a text that passes a test
text_passes : (test : List ℕ → Bool) (pool : List PoolItem) (told : List Bool) (text : List ℕ) → AreTested test pool told → IsTold told pool text true → test text ≡ true
text_passes test pool told text tested is_told = sym (told_tested test pool told text true tested is_told)

-- the text of an array class
array_known : (names : List (List ℕ)) (f : ClassFile) (d : Option Desc) → from true (knows_desc names) d ≡ true → flat_map (missing names f) (from [] desc_names d) ≡ []
array_known names f None h = refl
array_known names f (Some d) h = desc_known names f d h

-- the text of a class item
text_known : (names : List (List ℕ)) (f : ClassFile) (text : List ℕ) → knows_class_text names text ≡ true → missing_text names f text ≡ []
unfolding knows_class_text knows_field_text
text_known names f text h = by (is_array text) h
  where
    by : (b : Bool) → (if b then from true (knows_desc names) (desc_of text) else is_known names text) ≡ true → flat_map (missing names f) (if b then from [] desc_names (desc_of text) else text ∷ []) ≡ []
    by true h = array_known names f (desc_of text) h
    by false h = rw (one names f text h) refl

-- ---- told by a table of a pool

-- the class of an item
pub class_told : (names : List (List ℕ)) (f : ClassFile) (pool : List PoolItem) (told : List Bool) (text : List ℕ) → AreTested (knows_class_text names) pool told → IsTold told pool text true → missing_text names f text ≡ []
class_told names f pool told text tested is_told = text_known names f text (text_passes (knows_class_text names) pool told text tested is_told)

-- the descriptor that an item of a field spells
pub field_told : (names : List (List ℕ)) (f : ClassFile) (pool : List PoolItem) (told : List Bool) (item : ℕ) (d : Desc) → AreTested (knows_field_text names) pool told → IsField pool item d → IsTold told pool (member_in pool item).desc true → missing_desc names f d ≡ []
unfolding knows_field_text
field_told names f pool told item d tested is_field is_told =
    let h = text_passes (knows_field_text names) pool told (member_in pool item).desc tested is_told in
    let g : from true (knows_desc names) (Some d) ≡ true = subst (λ (o : Option Desc). from true (knows_desc names) o ≡ true) is_field h in
    desc_known names f d g

-- the one that an item of a method spells
pub method_told : (names : List (List ℕ)) (f : ClassFile) (pool : List PoolItem) (told : List Bool) (item : ℕ) (m : MethodDesc) → AreTested (knows_method_text names) pool told → IsMethod pool item m → IsTold told pool (member_in pool item).desc true → missing_method_desc names f m ≡ []
unfolding knows_method_text
method_told names f pool told item m tested is_method is_told =
    let h = text_passes (knows_method_text names) pool told (member_in pool item).desc tested is_told in
    let g : from true (knows_method names) (Some m) ≡ true = subst (λ (o : Option MethodDesc). from true (knows_method names) o ≡ true) is_method h in
    method_known names f m g

-- the descriptor at an index, where none may lie in the text
desc_let : (names : List (List ℕ)) (f : ClassFile) (d : Option Desc) → from true (knows_desc names) d ≡ true → from [] (missing_desc names f) d ≡ []
desc_let names f None h = refl
desc_let names f (Some d) h = desc_known names f d h

method_let : (names : List (List ℕ)) (f : ClassFile) (m : Option MethodDesc) → from true (knows_method names) m ≡ true → from [] (missing_method_desc names f) m ≡ []
method_let names f None h = refl
method_let names f (Some m) h = method_known names f m h

-- that of a field which a class declares
pub declared_field_told : (names : List (List ℕ)) (f : ClassFile) (pool : List PoolItem) (told : List Bool) (i : ℕ) → AreTested (knows_field_text names) pool told → slice_get told i ≡ Some true → from [] (missing_desc names f) (desc_of (text_in pool i)) ≡ []
unfolding knows_field_text
declared_field_told names f pool told i tested h = desc_let names f (desc_of (text_in pool i)) (sym (tested i true h))

-- that of a method
pub declared_method_told : (names : List (List ℕ)) (f : ClassFile) (pool : List PoolItem) (told : List Bool) (i : ℕ) → AreTested (knows_method_text names) pool told → slice_get told i ≡ Some true → from [] (missing_method_desc names f) (method_of (text_in pool i)) ≡ []
unfolding knows_method_text
declared_method_told names f pool told i tested h = method_let names f (method_of (text_in pool i)) (sym (tested i true h))

-- ---- left-out-desc

-- an array class that isn't left out
pub class_let_in : (f : ClassFile) (pool : List PoolItem) (told : List Bool) (text : List ℕ) → AreTested is_left_out_class pool told → IsTold told pool text false → left_out_class f text ≡ []
class_let_in f pool told text tested is_told =
    let h : is_left_out_class text ≡ false = sym (told_tested is_left_out_class pool told text false tested is_told) in
    rw h refl
