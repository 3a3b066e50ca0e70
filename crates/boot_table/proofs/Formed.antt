-- A test that computes whether a class file of the boot table's kind is spelled by some bytes: one
-- without constants and without exception tables.
use Rattle.std.proofs.Common.{◌≡◌, ℕ, ◌<◌, ◌^◌, Bool, true, false, not, ◌||◌, List, [], ◌∷◌, ◌++◌, length, map, Option, Some, None, get_or, refl, sym, subst, arith, zero, suc}
use Rattle.std.specs.Prelude.{◌&&◌, nat_lt, nat_eq, All}
use Rattle.std.specs.List.{AllByRecursion, AllPass, list_all}
use Rattle.std.specs.Option.{is_none}
use Rattle.std.proofs.lemmas.Bool.{ltb-true, eqb-true}
use Rattle.jvm_base.specs.declared.code_item.CodeItem.{CodeItem}
use Rattle.jvm_base.specs.declared.code_item.TableItem.{TableItem}
use Rattle.jvm_base.specs.declared.pool.PoolItem.{PoolItem}
use Rattle.jvm_base.specs.declared.pool.PoolItem.TheVariants.{Gap, Utf8, Class, Field, Method, InterfaceMethod, NameAndKind}
use Rattle.jvm_base.specs.Text.{text_bytes}
use Rattle.jvm_base.specs.Units.{AreUnits}
use Rattle.jvm_base.proofs.Options.{and_parts, not_true}
use Rattle.constant_pool.specs.Items.{is_text_that, is_class_at, is_wide}
use Rattle.constant_pool.specs.Links.{bad_link}
use Rattle.class_format.specs.declared.class.ClassFile.{ClassFile}
use Rattle.class_format.specs.declared.class.FieldItem.{FieldItem}
use Rattle.class_format.specs.declared.class.MethodItem.{MethodItem}
use Rattle.class_format.specs.declared.member_kind.MemberKind.{MemberKind}
use Rattle.class_format.specs.declared.member_kind.MemberKind.TheVariants as kinds
use Rattle.class_format.specs.Flags.{class_flags_clash}
use Rattle.class_format.specs.KnownTexts.{is_named, is_code}
use Rattle.class_format.specs.Members.{is_without_receiver, is_desc_of, flags_clash, is_among, code_count, field_key, method_key}
use Rattle.class_format.specs.Meaning.{FitsItem, AreItems, IsPool, FormedPool, AreBytes, FitsEntry, FitsCode, IsHead, FitsLink, FitsSuper, IsKnown, AreNames, IsClass}
use Rattle.class_format.specs.Versions.{is_other_version}
use Rattle.class_format.specs.Judging.Formed.{has_text_that, constant_passes, FitsConstant, FormedField, FormedCode, FormedCodeOf, FormedMethod, AreNew, FormedMembers, FormedParts}
use Rattle.class_format.proofs.FormedClass.{is_class}
use Rattle.class_format.proofs.Recursion.{all_of}

-- it takes two bytes
abbrev small : ℕ → Bool
small n = nat_lt n 65536

fits : (n : ℕ) → small n ≡ true → n < 2 ^ 16
fits n e = ltb-true n 65536 e

-- ---- the pool

abbrev fits_item : PoolItem → Bool
fits_item (Utf8 us) = list_all small us && small (length (text_bytes us))
fits_item (Class name) = small name
fits_item (Field class pair) = small class && small pair
fits_item (Method class pair) = small class && small pair
fits_item (InterfaceMethod class pair) = small class && small pair
fits_item (NameAndKind name desc) = small name && small desc
fits_item _ = false

units_fit : (us : List ℕ) → list_all small us ≡ true → AreUnits us
units_fit [] e = tt
units_fit (u ∷ us) e = let p = and_parts (small u) (list_all small us) e in (fits u p.0, units_fit us p.1)

two_fit : (m n : ℕ) → (small m && small n) ≡ true → (m < 2 ^ 16) × (n < 2 ^ 16)
two_fit m n e = let p = and_parts (small m) (small n) e in (fits m p.0, fits n p.1)

item_fits : (item : PoolItem) → fits_item item ≡ true → FitsItem item × (is_wide item ≡ false)
item_fits (Utf8 us) e =
    let p = and_parts (list_all small us) (small (length (text_bytes us))) e in
    ((units_fit us p.0, fits (length (text_bytes us)) p.1), refl)
item_fits (Class name) e = (fits name e, refl)
item_fits (Field class pair) e = (two_fit class pair e, refl)
item_fits (Method class pair) e = (two_fit class pair e, refl)
item_fits (InterfaceMethod class pair) e = (two_fit class pair e, refl)
item_fits (NameAndKind name desc) e = (two_fit name desc e, refl)
item_fits _ e = absurd cc

items_fit : (items : List PoolItem) → list_all fits_item items ≡ true → AreItems false items
items_fit [] e = refl
items_fit (item ∷ items) e =
    let p = and_parts (fits_item item) (list_all fits_item items) e in
    let f = item_fits item p.0 in
    (f.0, subst (λ b. AreItems b items) (sym f.1) (items_fit items p.1))

abbrev is_pool : List PoolItem → Bool
is_pool (Gap ∷ items) = list_all fits_item items
is_pool _ = false

pool_is : (pool : List PoolItem) → is_pool pool ≡ true → IsPool pool
pool_is [] e = absurd cc
pool_is (Gap ∷ items) e = (refl, items_fit items e)
pool_is (_ ∷ items) e = absurd cc

-- ---- fields and methods

abbrev is_head : MemberKind → List PoolItem → ℕ → ℕ → ℕ → Bool
is_head kind pool flags name desc =
    (small flags && (small name && small desc))
    && (is_text_that is_named pool name
    && (is_desc_of kind (is_without_receiver pool flags name) pool desc
    && not (flags_clash kind (is_without_receiver pool flags name) flags)))

head_is : (kind : MemberKind) (pool : List PoolItem) (flags name desc : ℕ) → is_head kind pool flags name desc ≡ true → IsHead kind pool (record { flags = flags; name = name; desc = desc })
head_is kind pool flags name desc e =
    let bare = is_without_receiver pool flags name in
    let p = and_parts (small flags && (small name && small desc)) (is_text_that is_named pool name && (is_desc_of kind bare pool desc && not (flags_clash kind bare flags))) e in
    let q = and_parts (small flags) (small name && small desc) p.0 in
    let two = two_fit name desc q.1 in
    let r = and_parts (is_text_that is_named pool name) (is_desc_of kind bare pool desc && not (flags_clash kind bare flags)) p.1 in
    let s = and_parts (is_desc_of kind bare pool desc) (not (flags_clash kind bare flags)) r.1 in
    record {
      fits = record { flags = fits flags q.0; name = two.0; desc = two.1 };
      named = r.0;
      typed = s.0;
      plain = not_true (flags_clash kind bare flags) s.1;
    }

abbrev is_field : List PoolItem → FieldItem → Bool
is_field pool f = is_head kinds.Field pool f.flags f.name f.desc && is_none f.constant

no_constant : (pool : List PoolItem) (flags desc : ℕ) (o : Option ℕ) → is_none o ≡ true → FitsConstant o × (constant_passes pool flags desc o ≡ true)
no_constant pool flags desc None e = (tt, refl)
no_constant pool flags desc (Some n) e = absurd cc

field_is : (pool : List PoolItem) (f : FieldItem) → is_field pool f ≡ true → FormedField pool f
field_is pool f e =
    let p = and_parts (is_head kinds.Field pool f.flags f.name f.desc) (is_none f.constant) e in
    let c = no_constant pool f.flags f.desc f.constant p.1 in
    record { head = head_is kinds.Field pool f.flags f.name f.desc p.0; fits_constant = c.0; constant = c.1 }

abbrev is_bare : List TableItem → Bool
is_bare [] = true
is_bare _ = false

no_entries : (pool : List PoolItem) (table : List TableItem) → is_bare table ≡ true → AllByRecursion (FitsEntry pool) table × (length table < 2 ^ 16)
no_entries pool [] e = (tt, omega arith)
no_entries pool (t ∷ ts) e = absurd cc

bytes_are : (bytes : List ℕ) → list_all (λ b. nat_lt b 256) bytes ≡ true → AreBytes bytes
bytes_are [] e i = omega arith
bytes_are (b ∷ bytes) e zero = ltb-true b 256 (and_parts (nat_lt b 256) (list_all (λ b. nat_lt b 256) bytes) e).0
bytes_are (b ∷ bytes) e (suc i) = bytes_are bytes (and_parts (nat_lt b 256) (list_all (λ b. nat_lt b 256) bytes) e).1 i

abbrev is_code_item : List PoolItem → CodeItem → Bool
is_code_item pool c =
    (small c.max_stack && small c.max_locals)
    && ((nat_lt 0 (length c.code) && small (length c.code))
    && (list_all (λ b. nat_lt b 256) c.code
    && (is_bare c.table && has_text_that is_code pool)))

code_is : (pool : List PoolItem) (c : CodeItem) → is_code_item pool c ≡ true → FormedCode pool c
code_is pool c e =
    let p = and_parts (small c.max_stack && small c.max_locals) _ e in
    let q = and_parts (nat_lt 0 (length c.code) && small (length c.code)) _ p.1 in
    let r = and_parts (list_all (λ b. nat_lt b 256) c.code) _ q.1 in
    let s = and_parts (is_bare c.table) (has_text_that is_code pool) r.1 in
    let sizes = two_fit c.max_stack c.max_locals p.0 in
    let len = and_parts (nat_lt 0 (length c.code)) (small (length c.code)) q.0 in
    let entries = no_entries pool c.table s.0 in
    record {
      code = record {
        sizes = record { fits_stack = sizes.0; fits_locals = sizes.1; some = ltb-true 0 (length c.code) len.0; short = fits (length c.code) len.1 };
        bytes = bytes_are c.code r.0;
        entries = entries.0;
        count = entries.1;
      };
      name = s.1;
    }

abbrev has_code : List PoolItem → ℕ → Option CodeItem → Bool
has_code pool flags None = nat_eq (code_count flags) 0
has_code pool flags (Some c) = nat_eq (code_count flags) 1 && is_code_item pool c

code_of : (pool : List PoolItem) (flags : ℕ) (o : Option CodeItem) → has_code pool flags o ≡ true → FormedCodeOf pool flags o
code_of pool flags None e = eqb-true (code_count flags) 0 e
code_of pool flags (Some c) e =
    let p = and_parts (nat_eq (code_count flags) 1) (is_code_item pool c) e in
    (eqb-true (code_count flags) 1 p.0, code_is pool c p.1)

abbrev is_method : List PoolItem → MethodItem → Bool
is_method pool m = is_head kinds.Method pool m.flags m.name m.desc && has_code pool m.flags m.code

method_is : (pool : List PoolItem) (m : MethodItem) → is_method pool m ≡ true → FormedMethod pool m
method_is pool m e =
    let p = and_parts (is_head kinds.Method pool m.flags m.name m.desc) (has_code pool m.flags m.code) e in
    record { head = head_is kinds.Method pool m.flags m.name m.desc p.0; code = code_of pool m.flags m.code p.1 }

abbrev are_new : {X : Type 0} → List PoolItem → (X → ℕ × ℕ) → List X → List X → Bool
are_new pool key earlier [] = true
are_new pool key earlier (x ∷ xs) =
    not (is_among pool (map key earlier) (key x).0 (key x).1) && are_new pool key (earlier ++ x ∷ []) xs

new_are : {X : Type 0} (pool : List PoolItem) (key : X → ℕ × ℕ) (earlier xs : List X) → are_new pool key earlier xs ≡ true → AreNew pool key earlier xs
new_are pool key earlier [] e = tt
new_are pool key earlier (x ∷ xs) e =
    let among = is_among pool (map key earlier) (key x).0 (key x).1 in
    let p = and_parts (not among) (are_new pool key (earlier ++ x ∷ []) xs) e in
    (not_true among p.0, new_are pool key (earlier ++ x ∷ []) xs p.1)

each : {X : Type 0} (p : X → Bool) (P : X → Type 0) (xs : List X) → ((x : X) → p x ≡ true → P x) → list_all p xs ≡ true → AllByRecursion P xs
each p P [] is e = tt
each p P (x ∷ xs) is e = let q = and_parts (p x) (list_all p xs) e in (is x q.0, each p P xs is q.1)

-- ---- the file

abbrev is_link : List PoolItem → ℕ → Bool
is_link pool n = small n && is_class_at pool n

link_is : (pool : List PoolItem) (n : ℕ) → is_link pool n ≡ true → FitsLink pool n
link_is pool n e = let p = and_parts (small n) (is_class_at pool n) e in (fits n p.0, p.1)

abbrev are_names : List PoolItem → ClassFile → Bool
are_names pool c =
    (small c.flags && not (class_flags_clash c.flags))
    && (is_link pool c.this_class
    && ((small c.super_class && (nat_eq c.super_class 0 || is_class_at pool c.super_class))
    && (list_all (is_link pool) c.interfaces && small (length c.interfaces))))

names_are : (pool : List PoolItem) (c : ClassFile) → are_names pool c ≡ true → AreNames pool c.flags c.this_class c.super_class c.interfaces
names_are pool c e =
    let p = and_parts (small c.flags && not (class_flags_clash c.flags)) _ e in
    let flags = and_parts (small c.flags) (not (class_flags_clash c.flags)) p.0 in
    let q = and_parts (is_link pool c.this_class) _ p.1 in
    let r = and_parts (small c.super_class && (nat_eq c.super_class 0 || is_class_at pool c.super_class)) _ q.1 in
    let above = and_parts (small c.super_class) (nat_eq c.super_class 0 || is_class_at pool c.super_class) r.0 in
    let s = and_parts (list_all (is_link pool) c.interfaces) (small (length c.interfaces)) r.1 in
    record {
      fits_flags = record { fits = fits c.flags flags.0; plain = not_true (class_flags_clash c.flags) flags.1 };
      this_link = link_is pool c.this_class q.0;
      super_link = record { fits = fits c.super_class above.0; link = above.1 };
      interface_links = each (is_link pool) (FitsLink pool) c.interfaces (link_is pool) s.0;
      interface_count = fits (length c.interfaces) s.1;
    }

abbrev are_members : List PoolItem → ClassFile → Bool
are_members pool c =
    (small (length c.fields) && small (length c.methods))
    && ((list_all (is_field pool) c.fields && list_all (is_method pool) c.methods)
    && (are_new pool field_key [] c.fields && are_new pool method_key [] c.methods))

members_are : (pool : List PoolItem) (c : ClassFile) → are_members pool c ≡ true → FormedMembers pool c.fields c.methods
members_are pool c e =
    let p = and_parts (small (length c.fields) && small (length c.methods)) _ e in
    let counts = two_fit (length c.fields) (length c.methods) p.0 in
    let q = and_parts (list_all (is_field pool) c.fields && list_all (is_method pool) c.methods) _ p.1 in
    let formed = and_parts (list_all (is_field pool) c.fields) (list_all (is_method pool) c.methods) q.0 in
    let new = and_parts (are_new pool field_key [] c.fields) (are_new pool method_key [] c.methods) q.1 in
    record {
      field_count = counts.0;
      method_count = counts.1;
      formed_fields = all_of (FormedField pool) c.fields (each (is_field pool) (FormedField pool) c.fields (field_is pool) formed.0);
      formed_methods = all_of (FormedMethod pool) c.methods (each (is_method pool) (FormedMethod pool) c.methods (method_is pool) formed.1);
      new_fields = new_are pool field_key [] c.fields new.0;
      new_methods = new_are pool method_key [] c.methods new.1;
    }

no_link : {A : Type 0} (o : Option A) → is_none o ≡ true → o ≡ None
no_link None e = refl
no_link (Some x) e = absurd cc

abbrev pub is_formed : ClassFile → Bool
is_formed c =
    (is_pool c.pool && small (length c.pool))
    && (is_none (bad_link c.pool)
    && ((small c.minor && small c.major) && (not (is_other_version c.major c.minor)
    && (are_names c.pool c && are_members c.pool c))))

-- what passes is spelled by some bytes
pub file_is : (c : ClassFile) → is_formed c ≡ true → IsClass c
file_is c e =
    let p = and_parts (is_pool c.pool && small (length c.pool)) _ e in
    let pool = and_parts (is_pool c.pool) (small (length c.pool)) p.0 in
    let q = and_parts (is_none (bad_link c.pool)) _ p.1 in
    let r = and_parts (small c.minor && small c.major) _ q.1 in
    let version = two_fit c.minor c.major r.0 in
    let s = and_parts (not (is_other_version c.major c.minor)) _ r.1 in
    let t = and_parts (are_names c.pool c) (are_members c.pool c) s.1 in
    let formed : FormedPool c.pool = record { items = pool_is c.pool pool.0; count = fits (length c.pool) pool.1 } in
    let parts : FormedParts c c.pool = record {
      links = no_link (bad_link c.pool) q.0;
      version = record { fits_minor = version.0; fits_major = version.1; version = not_true (is_other_version c.major c.minor) s.0 };
      names = names_are c.pool c t.0;
      members = members_are c.pool c t.1;
    } in
    is_class c c.pool refl (formed, parts)

-- each of the files that pass
pub files_are : (files : List ClassFile) → list_all is_formed files ≡ true → All IsClass files
files_are files e = all_of IsClass files (each is_formed IsClass files file_is e)
