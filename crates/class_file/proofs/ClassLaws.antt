-- A class file that is read is one that is spelled.
use Rattle.std.proofs.Common.{◌≡◌, ℕ, ◌^◌, ◌<◌, Bool, true, not, ◌||◌, eqb, List, [], ◌∷◌, ◌++◌, length, Option, Some, None, Result, Ok, Err, refl, sym, ap, subst, ◌∙◌, append_assoc, arith}
use Rattle.std.specs.Int.{w16, w32}
use Rattle.std.specs.List.{flat_map, AllByRecursion}
use Rattle.std.specs.Prelude.{IfOk, nat_eq}
use Rattle.std.proofs.lemmas.Bool.{eqb-true}
use Rattle.std.proofs.lemmas.List.{append-nil, nil_from_length}
use Rattle.jvm_base.specs.Told.{Gives, itself}
use Rattle.jvm_base.specs.declared.pool.PoolItem.{PoolItem}
use Rattle.jvm_base.proofs.Refusing.{bind_ok, need_ok, bind_then, need_then, ok_is}
use Rattle.jvm_base.proofs.Options.{not_true, is_not}
use Rattle.class_format.specs.declared.class.ClassFile.{ClassFile}
use Rattle.class_file.specs.declared.class_reader.Members.{Members}
use Rattle.class_file.specs.declared.class_reader.Names.{Names}
use Rattle.class_file.specs.declared.error.ClassErr.{ClassErr}
use Rattle.class_file.specs.declared.error.ClassErr.TheVariants.{Magic, Version, ItemLink, Flags, Extra}
use Rattle.class_format.specs.Versions.{is_other_version}
use Rattle.class_file.specs.Reading.Classes.{version_numbers_at, version_at, linked, class_index_at, super_index_at, interface_at, names_at, members_at, class_body_at, class_at}
use Rattle.class_format.specs.Flags.{class_flags_clash}
use Rattle.constant_pool.specs.Items.{is_class_at}
use Rattle.constant_pool.specs.Links.{bad_link}
use Rattle.class_format.specs.Meaning.{AreBytes, FitsLink, FitsSuper, IsKnown, AreNames, IsField, IsMethod, Means, IsClass, Spells, IsFront}
use Rattle.class_file.specs.Reading.Members.{other_at, field_at, method_at}
use Rattle.class_file.specs.Reading.Pools.{pool_at}
use Rattle.class_file.specs.Reading.Words.{Place, offset_of, ◌>>=◌, number_at, counted_at, listed_at}
use Rattle.class_format.specs.Spelling.{Attribute, Member, Source, magic_number, number2, number4, listed, item_bytes, pool_bytes, attribute_bytes, member_bytes, source_bytes}
use Rattle.class_file.specs.Reasons.{told}
use Rattle.class_file.specs.Refused.{version_bytes, front_bytes}
use Rattle.class_file.proofs.AttributeLaws.{others_take, others_again}
use Rattle.class_file.proofs.Groups.{IsGroup, number2_group, two, group_of, needs, group_read}
use Rattle.class_file.proofs.MemberLaws.{field_item, method_item}
use Rattle.class_file.proofs.PartLaws.{IsItem, items_take, items_again, Itself, itself_item, same_read}
use Rattle.class_file.proofs.PlainLaws.{is_class}
use Rattle.class_file.proofs.PoolLaws.{has_count, pool_takes, pool_again}
use Rattle.class_file.proofs.ReadLaws.{regroup9, at, Takes, Takes-then, IsRead, read2, read4}

-- ---- the version

-- minor and major, one after the other
pub version_group : IsGroup version_numbers_at 4 (λ v. number2 v.0 ++ number2 v.1) (λ v. (v.0 < 2 ^ 16) × (v.1 < 2 ^ 16))
unfolding version_numbers_at
version_group = group_of (two ∷ two ∷ []) (λ ns. (ns.0, ns.1.0)) (λ v. (v.0, (v.1, tt))) (λ v. refl) (λ v. number2 v.0 ++ number2 v.1) (λ v. (v.0 < 2 ^ 16) × (v.1 < 2 ^ 16))
    (λ ns. refl) (λ ns fits. (fits.0, fits.1.0)) (λ v fits. (fits.0, (fits.1, tt)))

abbrev pub known_tests : Place → ℕ × ℕ → List (Bool × ClassErr)
known_tests p v = (not (is_other_version v.1 v.0), Version v.1 v.0) ∷ []

-- a version behind its magic
abbrev pub known_at : Place → Result ((ℕ × ℕ) × Place) ClassErr
known_at p = version_numbers_at p >>= λ v. needs (known_tests p v.0) (Ok v)

known_read : IsRead known_at (λ v. number2 v.0 ++ number2 v.1) (λ v. IsKnown v.0 v.1)
known_read = group_read version_numbers_at 4 (λ v. number2 v.0 ++ number2 v.1) (λ v. (v.0 < 2 ^ 16) × (v.1 < 2 ^ 16)) (λ v. IsKnown v.0 v.1) version_group known_tests
    (λ p v fits met. record { fits_minor = fits.0; fits_major = fits.1; version = not_true (is_other_version v.1 v.0) met.0 })
    (λ p v known. ((known.fits_minor, known.fits_major), (is_not (is_other_version v.1 v.0) known.version, tt)))

pub version_read : IsRead version_at (λ v. version_bytes v.0 v.1) (λ v. IsKnown v.0 v.1)
unfolding version_at
version_read = record {
  takes = λ p q v fits e.
      let magic = bind_ok (number_at w32 p) _ (v, q) e in
      let right = need_ok (nat_eq magic.0.0 magic_number) Magic _ (v, q) magic.2 in
      let t = read4.takes p magic.0.1 magic.0.0 fits magic.1 in
      let first : Takes p (number4 magic_number) magic.0.1 = subst (λ (n : ℕ). Takes p (number4 n) magic.0.1) (eqb-true magic.0.0 magic_number right.0) t.0 in
      let known = known_read.takes magic.0.1 q v first.rest_fits right.1 in
      (Takes-then p (number4 magic_number) magic.0.1 (number2 v.0 ++ number2 v.1) q first known.0, known.1);
  again = λ v t rest known.
      let behind : List ℕ = (number2 v.0 ++ number2 v.1) ++ rest in
      bind_then (number_at w32 (at t (number4 magic_number ++ behind))) (magic_number, at t behind) _ _ (read4.again magic_number t behind (omega arith)) (known_read.again v t rest known);
}

-- ---- indices of classes

abbrev pub class_tests : List PoolItem → Place → ℕ → List (Bool × ClassErr)
class_tests pool p n = (is_class_at pool n, ItemLink (offset_of p)) ∷ []

pub index_read : (pool : List PoolItem) → IsRead (class_index_at pool) number2 (FitsLink pool)
unfolding class_index_at
index_read pool = group_read (number_at w16) 2 number2 (λ n. n < 2 ^ 16) (FitsLink pool) number2_group (class_tests pool) (λ p n fits met. (fits, met.0)) (λ p n link. (link.0, (link.1, tt)))

abbrev pub super_tests : List PoolItem → Place → ℕ → List (Bool × ClassErr)
super_tests pool p n = (nat_eq n 0 || is_class_at pool n, ItemLink (offset_of p)) ∷ []

pub super_read : (pool : List PoolItem) → IsRead (super_index_at pool) number2 (FitsSuper pool)
unfolding super_index_at
super_read pool = group_read (number_at w16) 2 number2 (λ n. n < 2 ^ 16) (FitsSuper pool) number2_group (super_tests pool) (λ p n fits met. record { fits = fits; link = met.0 }) (λ p n super. (super.fits, (super.link, tt)))

pub interface : (pool : List PoolItem) → IsItem (interface_at pool) number2 (Itself (FitsLink pool))
unfolding interface_at
interface pool = itself_item (interface_at pool) number2 (FitsLink pool) (λ earlier. index_read pool)

pub interfaces_read : (pool : List PoolItem) → IsRead (listed_at (interface_at pool)) (listed number2) (λ ns. AllByRecursion (FitsLink pool) ns × (length ns < 2 ^ 16))
interfaces_read pool = same_read (interface_at pool) number2 (FitsLink pool) (interface pool)

-- ---- flags and names

pub record TookNames (pool : List PoolItem) (start : Place) (front : List ℕ) (z : Names × Place) : Type 0 where
  pub took : Takes start (front ++ number2 z.0.flags ++ number2 z.0.this_class ++ number2 z.0.super_class ++ listed number2 z.0.interfaces) z.1
  pub are : AreNames pool z.0.flags z.0.this_class z.0.super_class z.0.interfaces

pub names_take : (pool : List PoolItem) (start : Place) (front : List ℕ) (p : Place) (z : Names × Place) → Takes start front p → names_at pool p ≡ Ok z → TookNames pool start front z
unfolding names_at
names_take pool start front p z before e =
    let flags = bind_ok (number_at w16 p) _ z e in
    let plain = need_ok (not (class_flags_clash flags.0.0)) (Flags (offset_of p)) _ z flags.2 in
    let this = bind_ok (class_index_at pool flags.0.1) _ z plain.1 in
    let super = bind_ok (super_index_at pool this.0.1) _ z this.2 in
    let list = bind_ok (listed_at (interface_at pool) super.0.1) _ z super.2 in
    let t0 = read2.takes p flags.0.1 flags.0.0 before.rest_fits flags.1 in
    let t1 = (index_read pool).takes flags.0.1 this.0.1 this.0.0 t0.0.rest_fits this.1 in
    let t2 = (super_read pool).takes this.0.1 super.0.1 super.0.0 t1.0.rest_fits super.1 in
    let t3 = (interfaces_read pool).takes super.0.1 list.0.1 list.0.0 t2.0.rest_fits list.1 in
    let one = Takes-then start front p (number2 flags.0.0) flags.0.1 before t0.0 in
    let two = Takes-then start (front ++ number2 flags.0.0) flags.0.1 (number2 this.0.0) this.0.1 one t1.0 in
    let three = Takes-then start (front ++ number2 flags.0.0 ++ number2 this.0.0) this.0.1 (number2 super.0.0) super.0.1 two t2.0 in
    let made : Names × Place = (record { flags = flags.0.0; this_class = this.0.0; super_class = super.0.0; interfaces = list.0.0 }, list.0.1) in
    subst (λ (z : Names × Place). TookNames pool start front z) (ok_is made z list.2) (record {
      took = Takes-then start (front ++ number2 flags.0.0 ++ number2 this.0.0 ++ number2 super.0.0) super.0.1 (listed number2 list.0.0) list.0.1 three t3.0;
      are = record { fits_flags = record { fits = t0.1; plain = not_true (class_flags_clash flags.0.0) plain.0 }; this_link = t1.1; super_link = t2.1; interface_links = t3.1.0; interface_count = t3.1.1 };
    })

abbrev pub names_of : Source → Names
names_of s = record { flags = s.flags; this_class = s.this_class; super_class = s.super_class; interfaces = s.interfaces }

pub names_again : (s : Source) (t : ℕ) (rest : List ℕ) → IsFront s → names_at s.pool (at t (number2 s.flags ++ (number2 s.this_class ++ (number2 s.super_class ++ (listed number2 s.interfaces ++ rest))))) ≡ Ok (names_of s, at t rest)
unfolding names_at
names_again s t rest h =
    let list_rest : List ℕ = listed number2 s.interfaces ++ rest in
    let super_rest : List ℕ = number2 s.super_class ++ list_rest in
    let this_rest : List ℕ = number2 s.this_class ++ super_rest in
    let n = h.names in
    bind_then (number_at w16 (at t (number2 s.flags ++ this_rest))) (s.flags, at t this_rest) _ _ (read2.again s.flags t this_rest n.fits_flags.fits)
    (need_then (not (class_flags_clash s.flags)) _ _ _ (is_not (class_flags_clash s.flags) n.fits_flags.plain)
    (bind_then (class_index_at s.pool (at t this_rest)) (s.this_class, at t super_rest) _ _ ((index_read s.pool).again s.this_class t super_rest n.this_link)
    (bind_then (super_index_at s.pool (at t super_rest)) (s.super_class, at t list_rest) _ _ ((super_read s.pool).again s.super_class t list_rest n.super_link)
    (bind_then (listed_at (interface_at s.pool) (at t list_rest)) (s.interfaces, at t rest) _ _ ((interfaces_read s.pool).again s.interfaces t rest (n.interface_links, n.interface_count)) refl))))

-- ---- all of it

pub linked_ok : {B : Type 0} (o : Option ℕ) (f : Unit {0} → Result B ClassErr) (y : B) → (linked o >>= f) ≡ Ok y → (o ≡ None) × (f tt ≡ Ok y)
linked_ok None f y e = (refl, e)
linked_ok (Some i) f y e = absurd cc

pub linked_then : {B : Type 0} (o : Option ℕ) (f : Unit {0} → Result B ClassErr) (y : Result B ClassErr) → o ≡ None → f tt ≡ y → (linked o >>= f) ≡ y
linked_then None f y e h = h
linked_then (Some i) f y e h = absurd cc

index_is : (pool : List PoolItem) (p : Place) (z : ℕ × Place) → class_index_at pool p ≡ Ok z → is_class_at pool z.0 ≡ true
unfolding class_index_at
index_is pool p z e =
    let class = bind_ok (number_at w16 p) _ z e in
    let link = need_ok (is_class_at pool class.0.0) (ItemLink (offset_of p)) _ z class.2 in
    subst (λ (z : ℕ × Place). is_class_at pool z.0 ≡ true) (ok_is class.0 z link.1) link.0

pub named_is : (pool : List PoolItem) (p : Place) (z : Names × Place) → names_at pool p ≡ Ok z → is_class_at pool z.0.this_class ≡ true
unfolding names_at
named_is pool p z e =
    let flags = bind_ok (number_at w16 p) _ z e in
    let plain = need_ok (not (class_flags_clash flags.0.0)) (Flags (offset_of p)) _ z flags.2 in
    let this = bind_ok (class_index_at pool flags.0.1) _ z plain.1 in
    let super = bind_ok (super_index_at pool this.0.1) _ z this.2 in
    let list = bind_ok (listed_at (interface_at pool) super.0.1) _ z super.2 in
    let made : Names × Place = (record { flags = flags.0.0; this_class = this.0.0; super_class = super.0.0; interfaces = list.0.0 }, list.0.1) in
    subst (λ (z : Names × Place). is_class_at pool z.0.this_class ≡ true) (ok_is made z list.2) (index_is pool flags.0.1 this.0 this.1)

-- ---- what stands before the fields

abbrev pub source_of : ℕ × ℕ → List PoolItem → Names → List Member → List Member → List Attribute → Source
source_of v pool names fields methods attributes = record {
  minor = v.0;
  major = v.1;
  pool = pool;
  flags = names.flags;
  this_class = names.this_class;
  super_class = names.super_class;
  interfaces = names.interfaces;
  fields = fields;
  methods = methods;
  attributes = attributes;
}

-- a front that was taken, whatever stands behind it
pub record TookFront (start : Place) (v : ℕ × ℕ) (pool : List PoolItem) (names : Names × Place) : Type 0 where
  pub took : Takes start (front_bytes (source_of v pool names.0 [] [] [])) names.1
  pub is : (fields methods : List Member) (attributes : List Attribute) → IsFront (source_of v pool names.0 fields methods attributes)

-- a class file has a class, its own, so its pool isn't empty
pub front_takes : (start : Place) (version : (ℕ × ℕ) × Place) (count : ℕ × Place) (pool : List PoolItem × Place) (names : Names × Place) → AreBytes start.rest
    → version_at start ≡ Ok version → number_at w16 version.1 ≡ Ok count → pool_at count.0 count.1 ≡ Ok pool → bad_link pool.0 ≡ None → names_at pool.0 pool.1 ≡ Ok names → TookFront start version.0 pool.0 names
front_takes start version count pool names fits version_is count_is pool_is links names_are =
    let v = version_read.takes start version.1 version.0 fits version_is in
    let c = read2.takes version.1 count.1 count.0 v.0.rest_fits count_is in
    let p = pool_takes count.0 count.1 pool c.0.rest_fits pool_is (has_count count.0 count.1 pool names.0.this_class pool_is (named_is pool.0 pool.1 names names_are)) in
    let counted : Takes version.1 (number2 (length pool.0)) count.1 = subst (λ (k : ℕ). Takes version.1 (number2 k) count.1) (sym p.long) c.0 in
    let items : Takes version.1 (pool_bytes pool.0) pool.1 = Takes-then version.1 (number2 (length pool.0)) count.1 (flat_map item_bytes pool.0) pool.1 counted p.took in
    let front : List ℕ = version_bytes version.0.0 version.0.1 ++ pool_bytes pool.0 in
    let before : Takes start front pool.1 = Takes-then start (version_bytes version.0.0 version.0.1) version.1 (pool_bytes pool.0) pool.1 v.0 items in
    let n = names_take pool.0 start front pool.1 names before names_are in
    record {
      took = n.took;
      is = λ fields methods attributes. record { version = v.1; pool = record { items = p.is; count = omega (arith, c.1, p.long) }; links = links; names = n.are };
    }

-- ---- all of it

-- a source that was taken, and what it means
pub record TookClass (start : Place) (z : ClassFile × Place) : Type 0 where
  pub source : Source
  pub took : Takes start (source_bytes source) z.1
  pub means : Means source z.0

abbrev class_of : ℕ → ℕ → List PoolItem → Members → ClassFile
class_of minor major pool m = record {
  minor = minor;
  major = major;
  pool = pool;
  flags = m.names.flags;
  this_class = m.names.this_class;
  super_class = m.names.super_class;
  interfaces = m.names.interfaces;
  fields = m.fields;
  methods = m.methods;
}

members_take : (start : Place) (v : ℕ × ℕ) (pool : List PoolItem) (p : Place) (z : Members × Place)
    → ((names : Names × Place) → bad_link pool ≡ None → names_at pool p ≡ Ok names → TookFront start v pool names) → members_at pool p ≡ Ok z → TookClass start (class_of v.0 v.1 pool z.0, z.1)
unfolding members_at
members_take start v pool p z front_of e =
    let links = linked_ok (bad_link pool) _ z e in
    let names = bind_ok (names_at pool p) _ z links.1 in
    let fields = bind_ok (listed_at (field_at pool) names.0.1) _ z names.2 in
    let methods = bind_ok (listed_at (method_at pool) fields.0.1) _ z fields.2 in
    let others = bind_ok (counted_at (other_at pool) tt methods.0.1) _ z methods.2 in
    let front = front_of names.0 links.0 names.1 in
    let f = items_take (field_at pool) member_bytes (IsField pool) (field_item pool) names.0.1 fields.0 front.took.rest_fits fields.1 in
    let m = items_take (method_at pool) member_bytes (IsMethod pool) (method_item pool) fields.0.1 methods.0 f.took.rest_fits methods.1 in
    let o = others_take pool methods.0.1 others.0 m.took.rest_fits others.1 in
    let s : Source = source_of v pool names.0.0 f.sources m.sources o.attributes in
    let one = Takes-then start (front_bytes s) names.0.1 (listed member_bytes f.sources) fields.0.1 front.took f.took in
    let two = Takes-then start (front_bytes s ++ listed member_bytes f.sources) fields.0.1 (listed member_bytes m.sources) methods.0.1 one m.took in
    let three = Takes-then start (front_bytes s ++ listed member_bytes f.sources ++ listed member_bytes m.sources) methods.0.1 (listed attribute_bytes o.attributes) others.0.1 two o.took in
    let made : Members × Place = (record { names = names.0.0; fields = fields.0.0; methods = methods.0.0 }, others.0.1) in
    let means : Means s (class_of v.0 v.1 pool made.0) = record {
      minor = refl;
      major = refl;
      pool = refl;
      flags = refl;
      this_class = refl;
      super_class = refl;
      interfaces = refl;
      fields = f.spelled;
      methods = m.spelled;
      front = front.is f.sources m.sources o.attributes;
      field_count = f.count;
      method_count = m.count;
      attributes = o.fits;
    } in
    subst (λ (z : Members × Place). TookClass start (class_of v.0 v.1 pool z.0, z.1)) (ok_is made z others.2) (record { source = s; took = three; means = means })

pub body_takes : (start : Place) (z : ClassFile × Place) → AreBytes start.rest → class_body_at start ≡ Ok z → TookClass start z
unfolding class_body_at
body_takes start z fits e =
    let version = bind_ok (version_at start) _ z e in
    let count = bind_ok (number_at w16 version.0.1) _ z version.2 in
    let pool = bind_ok (pool_at count.0.0 count.0.1) _ z count.2 in
    let members = bind_ok (members_at pool.0.0 pool.0.1) _ z pool.2 in
    let all = members_take start version.0.0 pool.0.0 pool.0.1 members.0 (λ names links named. front_takes start version.0 count.0 pool.0 names fits version.1 count.1 pool.1 links named) members.1 in
    let made : ClassFile × Place = (class_of version.0.0.0 version.0.0.1 pool.0.0 members.0.0, members.0.1) in
    subst (λ (z : ClassFile × Place). TookClass start z) (ok_is made z members.2) all

members_again : (s : Source) (c : ClassFile) (t : ℕ) (rest : List ℕ) → Means s c
    → members_at s.pool (at t (number2 s.flags ++ (number2 s.this_class ++ (number2 s.super_class ++ (listed number2 s.interfaces ++ (listed member_bytes s.fields ++ (listed member_bytes s.methods ++ (listed attribute_bytes s.attributes ++ rest))))))))
    ≡ Ok (record { names = names_of s; fields = c.fields; methods = c.methods }, at t rest)
unfolding members_at
members_again s c t rest h =
    let others_rest : List ℕ = listed attribute_bytes s.attributes ++ rest in
    let methods_rest : List ℕ = listed member_bytes s.methods ++ others_rest in
    let fields_rest : List ℕ = listed member_bytes s.fields ++ methods_rest in
    let start : Place = at t (number2 s.flags ++ (number2 s.this_class ++ (number2 s.super_class ++ (listed number2 s.interfaces ++ fields_rest)))) in
    linked_then (bad_link s.pool) _ _ h.front.links
    (bind_then (names_at s.pool start) (names_of s, at t fields_rest) _ _ (names_again s t fields_rest h.front)
    (bind_then (listed_at (field_at s.pool) (at t fields_rest)) (c.fields, at t methods_rest) _ _ (items_again (field_at s.pool) member_bytes (IsField s.pool) (field_item s.pool) s.fields c.fields t methods_rest h.fields h.field_count)
    (bind_then (listed_at (method_at s.pool) (at t methods_rest)) (c.methods, at t others_rest) _ _ (items_again (method_at s.pool) member_bytes (IsMethod s.pool) (method_item s.pool) s.methods c.methods t others_rest h.methods h.method_count)
    (bind_then (counted_at (other_at s.pool) tt (at t others_rest)) (tt, at t rest) _ _ (others_again s.pool s.attributes t rest h.attributes) refl))))

means_is : (s : Source) (c : ClassFile) → Means s c → class_of s.minor s.major s.pool (record { names = names_of s; fields = c.fields; methods = c.methods }) ≡ c
means_is s c h = rw (← h.minor, ← h.major, ← h.pool, ← h.flags, ← h.this_class, ← h.super_class, ← h.interfaces) refl

pub body_again : (s : Source) (c : ClassFile) (t : ℕ) (rest : List ℕ) → Means s c → class_body_at (at t (source_bytes s ++ rest)) ≡ Ok (c, at t rest)
unfolding class_body_at
body_again s c t rest h =
    let after : List ℕ = number2 s.flags ++ (number2 s.this_class ++ (number2 s.super_class ++ (listed number2 s.interfaces ++ (listed member_bytes s.fields ++ (listed member_bytes s.methods ++ (listed attribute_bytes s.attributes ++ rest)))))) in
    let pool_rest : List ℕ = flat_map item_bytes s.pool ++ after in
    let count_rest : List ℕ = number2 (length s.pool) ++ pool_rest in
    let version : List ℕ = version_bytes s.minor s.major in
    let regrouped : source_bytes s ++ rest ≡ version ++ count_rest =
    regroup9 version (pool_bytes s.pool) (number2 s.flags) (number2 s.this_class) (number2 s.super_class) (listed number2 s.interfaces) (listed member_bytes s.fields) (listed member_bytes s.methods) (listed attribute_bytes s.attributes) rest
    ∙ ap (λ (bytes : List ℕ). version ++ bytes) (append_assoc (number2 (length s.pool)) (flat_map item_bytes s.pool) after) in
    let members : Members = record { names = names_of s; fields = c.fields; methods = c.methods } in
    ap (λ (bytes : List ℕ). class_body_at (at t bytes)) regrouped
    ∙ bind_then (version_at (at t (version ++ count_rest))) ((s.minor, s.major), at t count_rest) _ _ (version_read.again (s.minor, s.major) t count_rest h.front.version)
    (bind_then (number_at w16 (at t count_rest)) (length s.pool, at t pool_rest) _ _ (read2.again (length s.pool) t pool_rest h.front.pool.count)
    (bind_then (pool_at (length s.pool) (at t pool_rest)) (s.pool, at t after) _ _ (pool_again s.pool t after h.front.pool.items)
    (bind_then (members_at s.pool (at t after)) (members, at t rest) _ _ (members_again s c t rest h)
    (ap (λ (d : ClassFile). Ok (d, at t rest)) (means_is s c h)))))

pub class_takes : (bytes : List ℕ) (c : ClassFile) → AreBytes bytes → class_at bytes ≡ Ok c → Spells c bytes
unfolding class_at
class_takes bytes c fits e =
    let class = bind_ok (class_body_at (at (length bytes) bytes)) _ c e in
    let done = need_ok (eqb (length class.0.1.rest) 0) (Extra (offset_of class.0.1)) _ c class.2 in
    let t = body_takes (at (length bytes) bytes) class.0 fits class.1 in
    let nothing : class.0.1.rest ≡ [] = nil_from_length class.0.1.rest (eqb-true _ _ done.0) in
    let whole : bytes ≡ source_bytes t.source = t.took.parts ∙ ap (λ (r : List ℕ). source_bytes t.source ++ r) nothing ∙ append-nil (source_bytes t.source) in
    subst (λ (d : ClassFile). Spells d bytes) (ok_is class.0.0 c done.1) (record { source = t.source; spelled = whole; means = t.means })

pub class_again : (c : ClassFile) (bytes : List ℕ) → Spells c bytes → class_at bytes ≡ Ok c
unfolding class_at
class_again c bytes h =
    let t : ℕ = length (source_bytes h.source) in
    let body : class_body_at (at t (source_bytes h.source)) ≡ Ok (c, at t []) = ap (λ b. class_body_at (at t b)) (sym (append-nil (source_bytes h.source))) ∙ body_again h.source c t [] h.means in
    ap class_at h.spelled ∙ bind_then (class_body_at (at t (source_bytes h.source))) (c, at t []) _ _ body refl

pub is_found : (bytes : List ℕ) (r : Result ClassFile ClassErr) → AreBytes bytes → Gives told itself r (class_at bytes) → IfOk r (λ c. IsClass c × Spells c bytes)
is_found bytes (Ok c) fits given = let s = class_takes bytes c fits given in (is_class s.source c s.means, s)
is_found bytes (Err e) fits given = tt
