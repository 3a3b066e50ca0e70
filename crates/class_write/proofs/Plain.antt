-- What is written is the spelling without what is skipped, and has room in its counts.
use Rattle.std.proofs.Common.{◌≡◌, ℕ, ◌<◌, ◌^◌, Bool, true, false, cond, not, nat_lt, List, [], ◌∷◌, ◌++◌, length, map, Option, Some, None, refl, sym, ap, subst, ◌∙◌, arith}
use Rattle.std.specs.Prelude.{position, Result, Ok, Err, IfOk}
use Rattle.std.specs.List.{flat_map, position_or_len, AllByRecursion}
use Rattle.std.proofs.lemmas.Bool.Decides.{nat_tests}
use Rattle.std.proofs.lemmas.List.{append-nil, length-map}
use Rattle.std.proofs.lemmas.List.Sums.{prefix_len-le-length}
use Rattle.jvm_base.specs.declared.code_item.CodeItem.{CodeItem}
use Rattle.jvm_base.specs.declared.pool.PoolItem.{PoolItem}
use Rattle.jvm_base.specs.declared.pool.PoolItem.TheVariants.{Gap, Utf8, Integer, Float, Long, Double, Class, Text, Field, Method, InterfaceMethod, NameAndKind}
use Rattle.class_format.specs.declared.class.ClassFile.{ClassFile}
use Rattle.class_format.specs.declared.class.FieldItem.{FieldItem}
use Rattle.class_format.specs.declared.class.MethodItem.{MethodItem}
use Rattle.class_format.specs.KnownTexts.{is_code, is_constant_value}
use Rattle.constant_pool.specs.Items.{is_wide}
use Rattle.class_format.specs.Spelling.{number2, listed, attribute_bytes, member_bytes, code_bytes}
use Rattle.class_format.specs.Meaning.{FitsItem, AreItems, IsPool, IsMethod, HasCode, Spelled, lowest_that, constant_attributes, code_attributes, plain_field, plain_method, plain, spelling, IsClass}
use Rattle.class_file.specs.Reading.Classes.{class_at}
use Rattle.class_file.proofs.ClassLaws.{class_again}
use Rattle.jvm_base.specs.declared.memory.NoMemory.{NoMemory}
use Rattle.class_write.specs.Writing.Parts.{constant_bytes, method_code_bytes, field_bytes, method_bytes, class_bytes}
use Rattle.class_write.specs.Writing.Written.{FitsWritten, FitsCode}

-- ---- a place that isn't there

pub no_place : {X : Type 0} (p : X → Bool) (xs : List X) → None ≡ position p xs → length xs ≡ position_or_len p xs
no_place p xs e =
    let le = prefix_len-le-length (λ x. not (p x)) xs in
    let cases : (b : Bool) → nat_lt (position_or_len p xs) (length xs) ≡ b → None ≡ cond b (Some (position_or_len p xs)) None → length xs ≡ position_or_len p xs = λ b. elim b as (λ b. nat_lt (position_or_len p xs) (length xs) ≡ b → None ≡ cond b (Some (position_or_len p xs)) None → length xs ≡ position_or_len p xs) [
      | true ↦ λ h k. absurd cc
      | false ↦ λ h k. grind (arith, nat_tests)
    ] in
    cases (nat_lt (position_or_len p xs) (length xs)) refl e

-- ---- the bytes

listed-one : {X : Type 0} (bytes : X → List ℕ) (x : X) → number2 1 ++ bytes x ≡ listed bytes (x ∷ [])
listed-one bytes x = ap (λ (z : List ℕ). number2 1 ++ z) (sym (append-nil (bytes x)))

flat_map-same : {X Y : Type 0} (f : X → List ℕ) (g : Y → List ℕ) (h : X → Y) → ((x : X) → f x ≡ g (h x)) → (xs : List X) → flat_map f xs ≡ flat_map g (map h xs)
flat_map-same f g h e [] = refl
flat_map-same f g h e (x ∷ xs) = rw (e x, flat_map-same f g h e xs) refl

listed-same : {X Y : Type 0} (f : X → List ℕ) (g : Y → List ℕ) (h : X → Y) → ((x : X) → f x ≡ g (h x)) → (xs : List X) → listed f xs ≡ listed g (map h xs)
listed-same f g h e xs = ap (λ n. number2 n ++ flat_map f xs) (sym (length-map xs h)) ∙ ap (λ (z : List ℕ). number2 (length (map h xs)) ++ z) (flat_map-same f g h e xs)

constant-same : (pool : List PoolItem) (constant : Option ℕ) → constant_bytes (lowest_that is_constant_value pool) constant ≡ listed attribute_bytes (constant_attributes pool constant)
constant-same pool None = refl
constant-same pool (Some value) = listed-one attribute_bytes (record { name = lowest_that is_constant_value pool; contents = number2 value })

field-same : (pool : List PoolItem) (f : FieldItem) → field_bytes (lowest_that is_constant_value pool) f ≡ member_bytes (plain_field pool f)
field-same pool f = ap (λ (z : List ℕ). number2 f.flags ++ number2 f.name ++ number2 f.desc ++ z) (constant-same pool f.constant)

code-same : (pool : List PoolItem) (code : Option CodeItem) → method_code_bytes (lowest_that is_code pool) code ≡ listed attribute_bytes (code_attributes pool code)
code-same pool None = refl
code-same pool (Some c) = listed-one attribute_bytes (record { name = lowest_that is_code pool; contents = code_bytes c [] })

method-same : (pool : List PoolItem) (m : MethodItem) → method_bytes (lowest_that is_code pool) m ≡ member_bytes (plain_method pool m)
method-same pool m = ap (λ (z : List ℕ). number2 m.flags ++ number2 m.name ++ number2 m.desc ++ z) (code-same pool m.code)

class-same : (c : ClassFile) → class_bytes (lowest_that is_constant_value c.pool) (lowest_that is_code c.pool) c ≡ spelling c
class-same c =
    rw (listed-same (field_bytes (lowest_that is_constant_value c.pool)) member_bytes (plain_field c.pool) (field-same c.pool) c.fields, listed-same (method_bytes (lowest_that is_code c.pool)) member_bytes (plain_method c.pool) (method-same c.pool) c.methods) refl

pub written-same : (c : ClassFile) (constant_name code_name : ℕ) → constant_name ≡ lowest_that is_constant_value c.pool → code_name ≡ lowest_that is_code c.pool → class_bytes constant_name code_name c ≡ spelling c
written-same c constant_name code_name e h = rw (e, h) (class-same c)

-- ---- the counts

pub count-fits : {X Y : Type 0} (h : X → Y) (xs : List X) → length (map h xs) < 2 ^ 16 → length xs < 2 ^ 16
count-fits h xs lt = omega (arith, length-map xs h)

item-written : (item : PoolItem) → FitsItem item → FitsWritten item
item-written Gap h = tt
item-written (Utf8 us) h = h.1
item-written (Integer n) h = tt
item-written (Float bits) h = tt
item-written (Long n) h = tt
item-written (Double bits) h = tt
item-written (Class name) h = tt
item-written (Text text) h = tt
item-written (Field class pair) h = tt
item-written (Method class pair) h = tt
item-written (InterfaceMethod class pair) h = tt
item-written (NameAndKind name desc) h = tt

gap-written : (item : PoolItem) → item ≡ Gap → FitsWritten item
gap-written item e = subst FitsWritten (sym e) tt

items-written : (after_wide : Bool) (items : List PoolItem) → AreItems after_wide items → AllByRecursion FitsWritten items
items-written true [] h = tt
items-written false [] h = tt
items-written true (item ∷ items) h = (gap-written item h.0, items-written false items h.1)
items-written false (item ∷ items) h = (item-written item h.0, items-written (is_wide item) items h.1)

pub pool-written : (pool : List PoolItem) → IsPool pool → AllByRecursion FitsWritten pool
pool-written [] h = absurd h
pool-written (item ∷ items) h = (gap-written item h.0, items-written false items h.1)

code-fits : (pool : List PoolItem) (flags : ℕ) (code : Option CodeItem) (contents : List (List ℕ)) → HasCode pool flags code contents → FitsCode code
code-fits pool flags None contents h = tt
code-fits pool flags (Some c) contents h = (h.3.code.sizes.short, h.3.code.count)

pub codes-fit : (pool : List PoolItem) (earlier methods : List MethodItem) → Spelled (IsMethod pool) earlier (map (plain_method pool) methods) methods → AllByRecursion (λ m. FitsCode m.code) methods
codes-fit pool earlier [] h = tt
codes-fit pool earlier (m ∷ methods) h = (code-fits pool m.flags m.code _ h.0.code, codes-fit pool (earlier ++ m ∷ []) methods h.1)

-- ---- read back

pub read_back : (c : ClassFile) → IsClass c → (r : Result (List ℕ) NoMemory) → IfOk r (λ bytes. bytes ≡ spelling c) → IfOk r (λ bytes. class_at bytes ≡ Ok c)
read_back c is (Ok bytes) e = class_again c bytes (record { source = plain c; spelled = e; means = is })
read_back c is (Err error) e = tt
