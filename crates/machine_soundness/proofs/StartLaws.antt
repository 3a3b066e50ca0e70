-- The start state is sound.
use Rattle.std.proofs.Common.{Bool, List, None, Option, Some, [], ap, arith, false, if◌then◌else◌, length, map, refl, slice_get, subst, suc, sym, true, zero, ℕ, ◌++◌, ◌+◌, ◌<◌, ◌==◌, ◌∙◌, ◌∷◌, ◌≡◌, ◌≤◌}
use Rattle.std.proofs.lemmas.Bool.{eqb-true}
use Rattle.std.specs.Prelude.{filter}
use Rattle.jvm_base.specs.Maps.{put}
use Rattle.jvm_base.specs.Names.{name_cmp}
use Rattle.jvm_base.specs.Words.{from}
use Rattle.jvm_base.specs.declared.name.Name.{Name}
use Rattle.jvm_base.specs.declared.value.ObjectBody.{ObjectBody}
use Rattle.jvm_base.specs.declared.value.ObjectBody.TheVariants.{Fields}
use Rattle.jvm_base.specs.declared.value.Value.{Value}
use Rattle.jvm_base.specs.declared.value.Value.TheVariants.{Int, Long, Null, Ref}
use Rattle.class_format.specs.Flags.{is_static}
use Rattle.program_image.specs.Program.{Program}
use Rattle.program_image.specs.Words.{fields_of, statics_of, zero_of, zeros_of}
use Rattle.program_image.specs.declared.info.ClassInfo.{ClassInfo}
use Rattle.program_image.specs.declared.info.FieldInfo.{FieldInfo}
use Rattle.flow_types.proofs.ListLaws.{and_both}
use Rattle.flow_types.specs.declared.flow_type.FlowType.{FlowType}
use Rattle.flow_types.specs.declared.flow_type.FlowType.TheVariants as flow
use Rattle.instruction_table.specs.ClassTypes.{class_type, desc_type}
use Rattle.machine_state.proofs.NameTests.{some_is}
use Rattle.machine_state.specs.BootClasses.{print_stream, system, thread}
use Rattle.machine_state.specs.Changes.{new_thread}
use Rattle.machine_state.specs.PreMade.{arguments, first_statics, holder, holders, main_thread, pre_made, stream, text_name, text_references, texts}
use Rattle.machine_state.specs.Start.{all_put, first_states, start}
use Rattle.machine_state.specs.State.{Heap, body_at}
use Rattle.machine_state.specs.declared.state.ThreadState.{ThreadState}
use Rattle.frame_soundness.specs.AcceptedProgram.{Accepted, ConstantFits, ConstantsFit, IsLiteral, Types}
use Rattle.frame_soundness.specs.Holding.{component_type, field_types, has_fields, is_holder, slots_of, static_types}
use Rattle.frame_soundness.specs.Natives.{string_type, thread_type}
use Rattle.frame_soundness.specs.Values.{is_there}
use Rattle.machine_soundness.proofs.ArrayLaws.{from-first}
use Rattle.machine_soundness.proofs.HeapLaws.{put-holds, ref-suits, same-fits, there-made, there-put, zero-suits, zeros-suit}
use Rattle.machine_soundness.proofs.ServeLaws.{elements-body, fields-body, text-body}
use Rattle.machine_soundness.specs.Bodies.{all_suit, body_fits, each_suits, suits, there_in}
use Rattle.machine_soundness.specs.Laws.{SoundStartLaw}
use Rattle.machine_soundness.specs.Levels.{IsThread, ThreadFits}
use Rattle.machine_soundness.specs.Sound.{Premade, a_holder, a_literal, the_arguments}

-- each entry has a property
abbrev AllOf : (Name → ObjectBody → Type 0) → List (Name × ObjectBody) → Type 0
AllOf P [] = Unit {0}
AllOf P (e ∷ es) = P e.0 e.1 × AllOf P es

-- so have entries after others
all-append : (P : Name → ObjectBody → Type 0) (xs ys : List (Name × ObjectBody)) → AllOf P xs → AllOf P ys → AllOf P (xs ++ ys)
all-append P [] ys h k = k
all-append P (x ∷ xs) ys h k = (h.0, all-append P xs ys h.1 k)

-- then each object has it of the heap that they make
all-put : (P : Name → ObjectBody → Type 0) (es : List (Name × ObjectBody)) (heap : Heap) → AllOf P es → ((n : Name) (b : ObjectBody) → body_at heap n ≡ Some b → P n b) → (n : Name) (b : ObjectBody) → body_at (all_put es heap) n ≡ Some b → P n b
all-put P [] heap h k n b e = k n b e
all-put P (x ∷ es) heap h k n b e = all-put P es (put name_cmp x.0 x.1 heap) h.1 (put-holds P x.0 x.1 heap h.0 k) n b e

-- no entry takes an object away
put-grows : (es : List (Name × ObjectBody)) (heap : Heap) (n : Name) → there_in heap n ≡ true → there_in (all_put es heap) n ≡ true
put-grows [] heap n h = h
put-grows (x ∷ es) heap n h = put-grows es (put name_cmp x.0 x.1 heap) n (there-put heap x.0 n x.1 h)

-- an entry whose name is there
abbrev IsThere : (Name → Bool) → Name → ObjectBody → Type 0
IsThere there n b = there n ≡ true

-- the names of all entries are
all-there : (es : List (Name × ObjectBody)) (heap : Heap) → AllOf (IsThere (there_in (all_put es heap))) es
all-there [] heap = tt
all-there (x ∷ es) heap = (put-grows es (put name_cmp x.0 x.1 heap) x.0 (there-made heap x.0 x.1), all-there es (put name_cmp x.0 x.1 heap))

-- so have the parts of a list of entries
all-split : (P : Name → ObjectBody → Type 0) (xs ys : List (Name × ObjectBody)) → AllOf P (xs ++ ys) → AllOf P xs × AllOf P ys
all-split P [] ys h = (tt, h)
all-split P (x ∷ xs) ys h = let (p, q) = all-split P xs ys h.1 in ((h.0, p), q)

-- the Strings of the program's literals are there
abbrev LiteralsThere : Program → (Name → Bool) → Type 0
LiteralsThere image there = (i : ℕ) → i < length image.literals → there (text_name (length image.classes + i)) ≡ true

module _ (image : Program) (there : Name → Bool) where
  -- the holder of each class is there
  holder-there : (ks : List ClassInfo) (c : ℕ) → AllOf (IsThere there) (holders image c ks) → (j : ℕ) → c ≤ j → j < c + length ks → there (holder j) ≡ true
  holder-there [] c h j l u = absurd (omega arith)
  holder-there (k ∷ ks) c h j l u = from-first (λ z. there (holder z) ≡ true) c j l h.0 (λ x. holder-there ks (c + 1) h.1 j (omega arith) (omega arith))

  -- each of these texts is
  text-there : (uss : List (List ℕ)) (c : ℕ) → AllOf (IsThere there) (texts c uss) → (j : ℕ) → c ≤ j → j < c + length uss → there (text_name j) ≡ true
  text-there [] c h j l u = absurd (omega arith)
  text-there (us ∷ uss) c h j l u = from-first (λ z. there (text_name z) ≡ true) c j l h.0 (λ x. text-there uss (c + 1) h.1 j (omega arith) (omega arith))

  -- what a literal names is
  literal-there : LiteralsThere image there → (v : Value) → IsLiteral image v → is_there there v ≡ true
  literal-there h (Ref n) (i, l, e) = subst (λ z. there z ≡ true) (sym e) (h i l)
  literal-there h (Int a) k = refl
  literal-there h (Long a) k = refl
  literal-there h Null k = refl

  -- what statics hold at first suits their types
  constants-suit : LiteralsThere image there → (fs : List FieldInfo) → ConstantsFit image fs → all_suit image there (map (λ f. from (zero_of f.desc) (λ v. v) f.constant) (filter (λ f. is_static f.flags) fs)) (map (λ f. desc_type image f.desc) (filter (λ f. is_static f.flags) fs)) ≡ true
  constants-suit lit [] h = refl
  constants-suit lit (f ∷ fs) h = by_fixed (is_static f.flags) (constants-suit lit fs h.1)
    where
      one : (o : Option Value) → f.constant ≡ o → suits image there (from (zero_of f.desc) (λ v. v) o) (desc_type image f.desc) ≡ true
      one None e = zero-suits image there f.desc
      one (Some v) e = let k : ConstantFits image f v = h.0 v e in and_both _ _ (literal-there lit v k.literal) k.suits

      by_fixed : (b : Bool) → all_suit image there (map (λ f. from (zero_of f.desc) (λ v. v) f.constant) (filter (λ f. is_static f.flags) fs)) (map (λ f. desc_type image f.desc) (filter (λ f. is_static f.flags) fs)) ≡ true → all_suit image there (map (λ f. from (zero_of f.desc) (λ v. v) f.constant) (if b then f ∷ filter (λ f. is_static f.flags) fs else filter (λ f. is_static f.flags) fs)) (map (λ f. desc_type image f.desc) (if b then f ∷ filter (λ f. is_static f.flags) fs else filter (λ f. is_static f.flags) fs)) ≡ true
      by_fixed true r = and_both _ _ (one f.constant refl) r
      by_fixed false r = r

-- an entry whose body fits
abbrev IsFitting : Program → (Name → Bool) → Name → ObjectBody → Type 0
IsFitting image there n b = body_fits image there n b ≡ true

module _ (image : Program) (types : Types) (accepted : Accepted image types) (there : Name → Bool) (lit : LiteralsThere image there) (printer : there (stream image) ≡ true) where
  -- first values are a body of an object that is no holder
  plain-object : (n : Name) (c : ℕ) → n.class ≡ c → is_holder n ≡ false → has_fields image c ≡ true → body_fits image there n (Fields (zeros_of image c)) ≡ true
  plain-object n c e x h = fields-body image there n (zeros_of image c) (subst (λ z. has_fields image z ≡ true) (sym e) h) (subst (λ z. all_suit image there (zeros_of image c) z ≡ true) (sym (slots n c e x)) (zeros-suit image there c))
    where
      slots : (n : Name) (c : ℕ) → n.class ≡ c → is_holder n ≡ false → slots_of image n ≡ field_types image c
      slots n c e x = rw (x, e) refl

  -- what the holder of a class holds fits
  holder-fits : (c : ℕ) → body_fits image there (holder c) (Fields (first_statics image c)) ≡ true
  holder-fits c = fields-body image there (holder c) _ accepted.classes.holders (by_test (c == system) refl)
    where
      out : (c : ℕ) → c ≡ system → all_suit image there (Ref (stream image) ∷ []) (static_types image c) ≡ true
      out c e = subst (λ z. all_suit image there (Ref (stream image) ∷ []) z ≡ true) (sym (ap (static_types image) e ∙ accepted.begins.out))
          (and_both _ _ (ref-suits image accepted.subs there (stream image) (flow.Class print_stream) printer accepted.begins.stream_class.type) refl)

      by_test : (b : Bool) → (c == system) ≡ b → all_suit image there (if b then Ref (stream image) ∷ [] else statics_of image c) (static_types image c) ≡ true
      by_test true e = out c (eqb-true c system e)
      by_test false e = constants-suit image there lit (fields_of image c) (accepted.begins.constants c)

  -- so do all holders' bodies
  holders-fit : (ks : List ClassInfo) (c : ℕ) → AllOf (IsFitting image there) (holders image c ks)
  holders-fit [] c = tt
  holders-fit (k ∷ ks) c = (holder-fits c, holders-fit ks (c + 1))

  -- texts fit
  texts-fit : (uss : List (List ℕ)) (c : ℕ) → AllOf (IsFitting image there) (texts c uss)
  texts-fit [] c = tt
  texts-fit (us ∷ uss) c = (text-body image there (text_name c) us accepted.classes.string_class.0 refl, texts-fit uss (c + 1))

  -- references to Strings suit the elements of an array of Strings
  references-suit : (uss : List (List ℕ)) (c : ℕ) (t : FlowType) → t ≡ string_type → ((j : ℕ) → c ≤ j → j < c + length uss → there (text_name j) ≡ true) → each_suits image there (text_references c uss) t ≡ true
  references-suit [] c t e h = refl
  references-suit (us ∷ uss) c t e h =
      and_both _ _ (ref-suits image accepted.subs there (text_name c) t (h c (omega arith) (omega arith)) (accepted.classes.string_class.1 ∙ sym e))
      (references-suit uss (c + 1) t e (λ j l u. h j (omega arith) (omega arith)))

-- each class has a state
states-length : (c : ℕ) (ks : List ClassInfo) → length (first_states c ks) ≡ length ks
states-length c [] = refl
states-length c (k ∷ ks) = ap suc (states-length (c + 1) ks)

-- thread 0 fits
first-thread : (image : Program) (types : Types) (there : Name → Bool) (n : Name) → IsThread image there n → (t : ℕ) (th : ThreadState) → slice_get (new_thread n ∷ []) t ≡ Some th → ThreadFits image types there th
first-thread image types there n h zero th e = subst (λ z. ThreadFits image types there z) (some_is e) (record { object = h; levels = refl })
first-thread image types there n h (suc t) th e = absurd cc

-- what the program names without making it is there
premade-there : (image : Program) (there : Name → Bool) → AllOf (IsThere there) (holders image 0 image.classes) → LiteralsThere image there → there (arguments image) ≡ true → (n : Name) → Premade image n → there n ≡ true
premade-there image there h l a n (a_holder c b) = holder-there image there image.classes 0 h c (omega arith) (omega arith)
premade-there image there h l a n (a_literal i b) = l i b
premade-there image there h l a n the_arguments = a

-- so the start state is sound
pub sound-start : SoundStartLaw
unfolding start
sound-start image types accepted args =
    let n : ℕ = length image.classes in
    let k : ℕ = n + length image.literals in
    let there : Name → Bool = there_in (all_put (pre_made image args) []) in
    let named-all : AllOf (IsThere there) (pre_made image args) = all-there (pre_made image args) [] in
    let s1 = all-split (IsThere there) (holders image 0 image.classes) _ named-all in
    let s2 = all-split (IsThere there) (texts n image.literals) _ s1.1 in
    let s3 = all-split (IsThere there) (texts (k + 2) args) _ s2.1.1.1 in
    let lit : LiteralsThere image there = λ i l. text-there image there image.literals n s2.0 (n + i) (omega arith) (omega arith) in
    let printer : there (stream image) ≡ true = s2.1.0 in
    let (a, ea, et) = accepted.begins.strings_class in
    let fits : AllOf (IsFitting image there) (pre_made image args) =
    all-append (IsFitting image there) (holders image 0 image.classes) _ (holders-fit image types accepted there lit printer image.classes 0)
    (all-append (IsFitting image there) (texts n image.literals) _ (texts-fit image types accepted there lit printer image.literals n) (
      plain-object image types accepted there lit printer (stream image) print_stream refl refl accepted.begins.stream_class.kind,
      (
        elements-body image there (arguments image) a _ ea (references-suit image types accepted there lit printer args (k + 2) (component_type image a) et (λ j l u. text-there image there args (k + 2) s3.0 j l u)),
        all-append (IsFitting image there) (texts (k + 2) args) _ (texts-fit image types accepted there lit printer args (k + 2)) (plain-object image types accepted there lit printer (main_thread image (length args)) thread refl refl accepted.begins.thread_class.kind, tt),
      ),
    )) in
    record {
      bodies = all-put (IsFitting image there) (pre_made image args) [] fits (λ n b e. absurd cc);
      threads = first-thread image types there (main_thread image (length args)) (record {
        is_here = s3.1.0;
        fits = same-fits image accepted.subs (class_type image thread) thread_type accepted.begins.thread_class.type;
      });
      owners = λ n o e. absurd cc;
      waiting = tt;
      classes = states-length 0 image.classes;
      premade = premade-there image there s1.0 lit s2.1.1.0;
    }
