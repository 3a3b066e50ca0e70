-- What was read and accepted.
use Rattle.std.proofs.Common.{◌≡◌, ℕ, suc, ◌≤◌, ◌<◌, ◌+◌, ◌-◌, Bool, true, false, nat_le, List, [], ◌∷◌, ◌++◌, length, take, get_or, map, Option, Some, None, Result, Ok, Err, refl, sym, ap, subst, ◌∙◌, inl, inr, ◌⊎◌, arith}
use Rattle.std.specs.Result.{IsErrAnd}
use Rattle.std.specs.Prelude.{MatchResult, replicate, slice_get, option_map, Vec}
use Rattle.std.proofs.lemmas.Bool.{leb-true, ne_eqb, and_parts}
use Rattle.std.proofs.lemmas.List.{length-append, length-map, map-append, length-replicate, length-take-le, take_more}
use Rattle.std.specs.List.{take-map, All, AllByRecursion}
use Rattle.std.proofs.Math.Seq.{get_or-append_seam, take-append_seam}
use Rattle.std.proofs.lemmas.Option.{slice_get_within, slice_get_read, slice_get-map, slice_get-get_or, get_or_from_slice_get}
use Rattle.jvm_base.specs.Words.{from}
use Rattle.cjvm_io.specs.Faults.{Rose}
use Rattle.cjvm_io.specs.Shelves.{Files, bytes_under, HasLonger}
use Rattle.class_format.specs.declared.class.ClassFile.{ClassFile}
use Rattle.class_format.specs.Meaning.{IsClass, Spells}
use Rattle.class_format.proofs.Recursion.{all_of}
use Rattle.class_file.proofs.PlainLaws.{is_class}
use Rattle.command_words.specs.Lines.{is_count}
use Rattle.command_words.specs.declared.words.Command.{Command}
use Rattle.command_words.specs.declared.words.Command.TheVariants.{Run, Check, Replay}
use Rattle.program_image.specs.Program.{Program}
use Rattle.one_jvm.specs.declared.loading.Refused.{Refused}
use Rattle.one_jvm.specs.declared.outcome.Refusal.{Refusal}
use Rattle.one_jvm.specs.declared.outcome.Refusal.TheVariants.{Usage, File, Link, Flow, NoFile, ReadFault, WriteFault, TooLong, NoMemory, BadOrder, NotEnabled, EarlyOrder}
use Rattle.one_jvm.specs.declared.loading.Task.{Task}
use Rattle.one_jvm.specs.declared.loading.Task.TheVariants as task
use Rattle.one_jvm.specs.Words.{Asked, name_at}
use Rattle.one_jvm.specs.Verdicts.{is_order, limit_of, IsMissing, IsLong, IsRefusedFile, IsClassFile, AreClassFiles, AreRead, StopsAt, AreAccepted, AreUnder}
use Rattle.one_jvm.specs.Answers.{IsAny}
use Rattle.one_jvm.specs.Steps.Parts.{IsCounted}
use Rattle.one_jvm.specs.Steps.Loading.{IsUnder, IsFound, IsRead, HasBytes, RefusesBytes, RefusesFile, FailsAt, FailsFile, ReadsBytes, ReadsFile, ReadsOrder, first_place, HasText, AreFound, AreLoaded, RefusesFiles, LoadFails, FailsLoad, HasLoaded, IsFine, IsUnfit, IsTask, IsSet, IsTaskOf, RefusesProgram, IsTextOf, IsTold, HasToldText, HasNoProgram, Programs}

-- ---- one file

-- some bytes are more than that
longer : (n : ℕ) → (bytes : List ℕ) × (n < length bytes)
longer n = (replicate (n + 1) 0, omega (arith, length-replicate {A = ℕ} (n + 1) 0))

module _ (name : List ℕ) where
  -- of what the shelf tells, or of this where it tells nothing
  meant : (told : Option Files) (other : Option (List ℕ)) (P : Option (List ℕ) → Type 0) → ((fs : Files) → told ≡ Some fs → P (bytes_under fs name)) → P other → IsFound told name P
  meant None other P f p = record { content = other; under = tt; such = p }
  meant (Some fs) other P f p = record { content = bytes_under fs name; under = refl; such = f fs refl }

  -- the bytes that the shelf gave are what it tells
  given : (told : Option Files) (bytes : List ℕ) (P : Option (List ℕ) → Type 0) → ((fs : Files) → told ≡ Some fs → bytes_under fs name ≡ Some bytes) → P (Some bytes) → IsFound told name P
  given told bytes P has p = meant told (Some bytes) P (λ fs e. subst P (sym (has fs e)) p) p

  module _ (told : Option Files) (order : Bool) (place f g : ℕ) where
    -- the shelf gave bytes
    pub loaded : (bytes : List ℕ) → ((fs : Files) → told ≡ Some fs → bytes_under fs name ≡ Some bytes) → length bytes ≤ limit_of order → IsFound told name (HasBytes order bytes)
    loaded bytes has short = given told bytes (HasBytes order bytes) has (record { has = refl; short = short })

    -- the shelf has no such file
    pub missing : ((fs : Files) → told ≡ Some fs → bytes_under fs name ≡ None) → FailsFile told name order place f g (NoFile place)
    missing lacks = inl (meant told None (RefusesFile place order (NoFile place)) (λ fs e. (refl, lacks fs e)) (refl, refl))

    -- the shelf's file is too long
    pub too_long : ((fs : Files) → told ≡ Some fs → HasLonger fs name (limit_of order)) → FailsFile told name order place f g (TooLong place)
    too_long long = inl (meant told (Some (longer (limit_of order)).0) (RefusesFile place order (TooLong place)) (λ fs e. let l = long fs e in (refl, record { bytes = l.bytes; has = l.has; long = l.long })) (refl, record { bytes = (longer (limit_of order)).0; has = refl; long = (longer (limit_of order)).1 }))

  module _ (told : Option Files) (place f g : ℕ) where
    -- the bytes are a class file's, or none's
    pub judged : (bytes : List ℕ) (r : Result ClassFile Refusal) → IsFound told name (HasBytes false bytes) → MatchResult r (λ class. Spells class bytes) (RefusesBytes place bytes) → ReadsFile told name place f g r
    judged bytes (Ok class) h m = record { content = h.content; under = h.under; such = record { bytes = bytes; has = h.such.has; short = h.such.short; spells = m } }
    judged bytes (Err (File k why)) h m = inl (record { content = h.content; under = h.under; such = (m.0, record { wanted = refl; bytes = bytes; has = h.such.has; short = h.such.short; refused = m.1 }) })
    judged bytes (Err NoMemory) h m = inr tt
    judged bytes (Err Usage) h m = absurd m
    judged bytes (Err (Link l)) h m = absurd m
    judged bytes (Err (Flow l)) h m = absurd m
    judged bytes (Err WriteFault) h m = absurd m
    judged bytes (Err (NoFile k)) h m = absurd m
    judged bytes (Err (ReadFault k)) h m = absurd m
    judged bytes (Err (TooLong k)) h m = absurd m
    judged bytes (Err (BadOrder l)) h m = absurd m
    judged bytes (Err (NotEnabled k)) h m = absurd m
    judged bytes (Err EarlyOrder) h m = absurd m

-- ---- all files

-- what there is under some names
AreUnder-length : (told : Option Files) (names : List (List ℕ)) (contents : List (Option (List ℕ))) → AreUnder told names contents → length contents ≡ length names
AreUnder-length None names contents u = u
AreUnder-length (Some fs) names contents u = ap length u ∙ length-map names (bytes_under fs)

-- what there is under one name more
under_more : (told : Option Files) (names : List (List ℕ)) (name : List ℕ) (contents : List (Option (List ℕ))) (content : Option (List ℕ)) → AreUnder told names contents → IsUnder told name content → AreUnder told (names ++ name ∷ []) (contents ++ content ∷ [])
under_more None names name contents content u v = omega (arith, length-append contents (content ∷ []), length-append names (name ∷ []), u)
under_more (Some fs) names name contents content u v =
    ap (λ (z : List (Option (List ℕ))). z ++ content ∷ []) u ∙ ap (λ (z : Option (List ℕ)). map (bytes_under fs) names ++ z ∷ []) v ∙ sym (map-append (bytes_under fs) names (name ∷ []))

-- one class file more
more_files : (contents : List (Option (List ℕ))) (classes : List ClassFile) (content : Option (List ℕ)) (class : ClassFile) → AreClassFiles contents classes → IsClassFile content class → AreClassFiles (contents ++ content ∷ []) (classes ++ class ∷ [])
more_files [] [] content class a i = (i, tt)
more_files [] (c ∷ classes) content class a i = absurd a
more_files (x ∷ contents) [] content class a i = absurd a
more_files (x ∷ contents) (c ∷ classes) content class a i = (a.0, more_files contents classes content class a.1 i)

-- a front that ends with the place
front_more : (xs : List (List ℕ)) (k : ℕ) (x : List ℕ) → slice_get xs k ≡ Some x → take (k + 1) xs ≡ take k xs ++ x ∷ []
front_more xs k x at = take_more xs k x (slice_get_within xs k x at) ∙ ap (λ (z : List ℕ). take k xs ++ z ∷ []) (get_or_from_slice_get xs k x x at)

-- what a command wants
more_read : (command : Command) (contents : List (Option (List ℕ))) (classes : List ClassFile) (content : Option (List ℕ)) (class : ClassFile) → is_order command (length contents) ≡ false → AreRead command contents classes → IsClassFile content class → AreRead command (contents ++ content ∷ []) (classes ++ class ∷ [])
more_read Run contents classes content class n a i = more_files contents classes content class a i
more_read Check contents classes content class n a i = more_files contents classes content class a i
more_read Replay [] classes content class n a i = absurd cc
more_read Replay (x ∷ contents) classes content class n a i = (a.0, more_files contents classes content class a.1 i)

-- the first one stays the first
text_more : (command : Command) (text : List ℕ) (contents : List (Option (List ℕ))) (content : Option (List ℕ)) → HasText command text contents → HasText command text (contents ++ content ∷ [])
text_more Run text contents content h = tt
text_more Check text contents content h = tt
text_more Replay text [] content h = absurd cc
text_more Replay text (x ∷ contents) content h = h

-- only a first file is an order's
pub not_order : (command : Command) (k : ℕ) → first_place command ≤ k → is_order command k ≡ false
not_order Run k l = refl
not_order Check k l = refl
not_order Replay k l = ne_eqb k 0 (λ e. omega arith)

-- the names so far are read
abbrev pub HasRead : Option Files → List (List ℕ) → Command → ℕ → List ClassFile → Type 0
HasRead told names command k classes = AreFound told (take k names) (λ contents. AreRead command contents classes)

-- those that are loaded are
pub reads : (told : Option Files) (asked : Asked) (k : ℕ) (text : List ℕ) (classes : List ClassFile) → HasLoaded told asked k text classes → HasRead told asked.files asked.command k classes
reads told asked k text classes h = record { contents = h.contents; under = h.under; such = h.such.are }

-- nothing is read yet
no_contents : (command : Command) → AreRead command [] []
no_contents Run = tt
no_contents Check = tt
no_contents Replay = tt

none_under : (told : Option Files) → AreUnder told [] []
none_under None = refl
none_under (Some fs) = refl

pub none_read : (told : Option Files) (names : List (List ℕ)) (command : Command) → HasRead told names command 0 []
none_read told names command = record { contents = []; under = none_under told; such = no_contents command }

-- no order is asked for
pub no_order : (told : Option Files) (asked : Asked) (text : List ℕ) → (asked.command ≡ Run) ⊎ (asked.command ≡ Check) → HasLoaded told asked (first_place asked.command) text []
no_order told asked text c = by_command asked.command c
  where
    by_command : (command : Command) → (command ≡ Run) ⊎ (command ≡ Check) → AreFound told (take (first_place command) asked.files) (AreLoaded command text [])
    by_command Run h = record { contents = []; under = none_under told; such = record { are = tt; has = tt } }
    by_command Check h = record { contents = []; under = none_under told; such = record { are = tt; has = tt } }
    by_command Replay (inl h) = absurd cc
    by_command Replay (inr h) = absurd cc

-- an order was read
pub an_order : (told : Option Files) (asked : Asked) (name text : List ℕ) → asked.command ≡ Replay → slice_get asked.files 0 ≡ Some name → IsFound told name (HasBytes true text) → HasLoaded told asked (first_place asked.command) text []
an_order told asked name text c at f =
    let one : take 1 asked.files ≡ take 0 asked.files ++ name ∷ [] = front_more asked.files 0 name at in
    let found : AreFound told (take 1 asked.files) (AreLoaded Replay text []) = record {
      contents = f.content ∷ [];
      under = subst (λ (z : List (List ℕ)). AreUnder told z (f.content ∷ [])) (sym one) (under_more told [] name [] f.content (none_under told) f.under);
      such = record {
        are = (record { bytes = text; has = f.such.has; short = f.such.short }, tt);
        has = ap (λ (z : Option (List ℕ)). Some z) f.such.has;
      };
    } in
    subst (λ (command : Command). AreFound told (take (first_place command) asked.files) (AreLoaded command text [])) (sym c) found

-- one class file more is read
pub one_read : (told : Option Files) (asked : Asked) (k : ℕ) (name text : List ℕ) (classes : List ClassFile) (class : ClassFile) → slice_get asked.files k ≡ Some name → first_place asked.command ≤ k → HasLoaded told asked k text classes → IsFound told name (IsRead class) → HasLoaded told asked (k + 1) text (classes ++ class ∷ [])
one_read told asked k name text classes class at first h f =
    let lt = slice_get_within asked.files k name at in
    let len : length h.contents ≡ k = AreUnder-length told (take k asked.files) h.contents h.under ∙ length-take-le k asked.files (omega arith) in
    let none : is_order asked.command (length h.contents) ≡ false = ap (is_order asked.command) len ∙ not_order asked.command k first in
    record {
      contents = h.contents ++ f.content ∷ [];
      under = subst (λ (z : List (List ℕ)). AreUnder told z (h.contents ++ f.content ∷ [])) (sym (front_more asked.files k name at)) (under_more told (take k asked.files) name h.contents f.content h.under f.under);
      such = record {
        are = more_read asked.command h.contents classes f.content class none h.such.are f.such;
        has = text_more asked.command text h.contents f.content h.such.has;
      };
    }

-- an item behind a front stands at the front's length
at_seam : {A : Type 0} (front rest : List A) (x : A) (k : ℕ) → length front ≡ k → (slice_get (front ++ x ∷ rest) k ≡ Some x) × (take k (front ++ x ∷ rest) ≡ front)
at_seam front rest x k e =
    let seam : get_or (front ++ x ∷ rest) k x ≡ x = subst (λ (n : ℕ). get_or (front ++ x ∷ rest) n x ≡ x) e (get_or-append_seam front x rest x) in (
      slice_get_read (front ++ x ∷ rest) (length (front ++ x ∷ rest)) k x refl (omega (arith, length-append front (x ∷ rest), e)) (sym seam),
      subst (λ (n : ℕ). take n (front ++ x ∷ rest) ≡ front) e (take-append_seam front (x ∷ rest)),
    )

-- at the place k reading stops
pub stops_at : (told : Option Files) (names : List (List ℕ)) (command : Command) (k : ℕ) (name : List ℕ) (classes : List ClassFile) (P : Bool → Option (List ℕ) → Type 0) → slice_get names k ≡ Some name → HasRead told names command k classes → IsFound told name (P (is_order command k)) → AreFound told names (StopsAt P command k)
stops_at None names command k name classes P at h f =
    let within = slice_get_within names k name at in
    let len : length h.contents ≡ k = h.under ∙ length-take-le k names (omega arith) in
    let rest : List (Option (List ℕ)) = replicate (length names - (k + 1)) None in
    let seam = at_seam h.contents rest f.content k len in
    record {
      contents = h.contents ++ f.content ∷ rest;
      under = omega (arith, length-append h.contents (f.content ∷ rest), length-replicate {A = Option (List ℕ)} (length names - (k + 1)) None);
      such = record { content = f.content; at = seam.0; such = f.such; classes = classes; before = subst (λ (z : List (Option (List ℕ))). AreRead command z classes) (sym seam.1) h.such };
    }
stops_at (Some fs) names command k name classes P at h f =
    record {
      contents = map (bytes_under fs) names;
      under = refl;
      such = record {
        content = f.content;
        at = slice_get-map (bytes_under fs) names k ∙ ap (option_map (bytes_under fs)) at ∙ ap (λ (z : Option (List ℕ)). Some z) (sym f.under);
        such = f.such;
        classes = classes;
        before = subst (λ (z : List (Option (List ℕ))). AreRead command z classes) (h.under ∙ sym (take-map (bytes_under fs) k names)) h.such;
      };
    }

-- a later count is above, too
rose_by : (before mid now : ℕ) → before ≤ mid → Rose mid now → Rose before now
rose_by before mid now l r = omega arith

-- whatever there is under a name
any_under : (told : Option Files) (name : List ℕ) (order : Bool) → IsFound told name (IsAny order)
any_under None name order = record { content = None; under = tt; such = tt }
any_under (Some fs) name order = record { content = bytes_under fs name; under = refl; such = tt }

module _ (told : Option Files) (asked : Asked) (k : ℕ) (name : List ℕ) (classes : List ClassFile) (order : Bool) (at : slice_get asked.files k ≡ Some name) (h : HasRead told asked.files asked.command k classes) (is : is_order asked.command k ≡ order) where
  -- at the place j, which is k
  stops_as : (j : ℕ) (P : Bool → Option (List ℕ) → Type 0) → IsFound told name (λ c. (j ≡ k) × P order c) → AreFound told asked.files (StopsAt P asked.command j)
  stops_as j P f =
      subst (λ (n : ℕ). AreFound told asked.files (StopsAt P asked.command n)) (sym f.such.0)
      (stops_at told asked.files asked.command k name classes P at h (record { content = f.content; under = f.under; such = subst (λ (b : Bool). P b f.content) (sym is) f.such.1 }))

  -- the file at the place k is refused
  refused_at : (e : Refusal) → IsFound told name (RefusesFile k order e) → AreFound told asked.files (RefusesFiles e asked.command)
  refused_at (NoFile j) f = stops_as j IsMissing f
  refused_at (TooLong j) f = stops_as j IsLong f
  refused_at (File j why) f = stops_as j (IsRefusedFile why) f
  refused_at (Link l) f = absurd f.such
  refused_at (Flow l) f = absurd f.such
  refused_at Usage f = absurd f.such
  refused_at (ReadFault j) f = absurd f.such
  refused_at WriteFault f = absurd f.such
  refused_at NoMemory f = absurd f.such
  refused_at (BadOrder l) f = absurd f.such
  refused_at (NotEnabled j) f = absurd f.such
  refused_at EarlyOrder f = absurd f.such

  -- the read of the file at the place k failed
  fails_at : (before mid now : ℕ) (e : Refusal) → before ≤ mid → FailsAt k mid now e → LoadFails told asked before now e
  fails_at before mid now (ReadFault j) l f =
      (rose_by before mid now l f.1, subst (λ (n : ℕ). AreFound told asked.files (StopsAt IsAny asked.command n)) (sym f.0) (stops_at told asked.files asked.command k name classes IsAny at h (any_under told name (is_order asked.command k))))
  fails_at before mid now NoMemory l f = tt
  fails_at before mid now (Link x) l f = absurd f
  fails_at before mid now (Flow x) l f = absurd f
  fails_at before mid now Usage l f = absurd f
  fails_at before mid now (File j why) l f = absurd f
  fails_at before mid now (NoFile j) l f = absurd f
  fails_at before mid now (TooLong j) l f = absurd f
  fails_at before mid now WriteFault l f = absurd f
  fails_at before mid now (BadOrder x) l f = absurd f
  fails_at before mid now (NotEnabled j) l f = absurd f
  fails_at before mid now EarlyOrder l f = absurd f

  -- reading the file at the place k answers an error
  pub breaks : (before mid now : ℕ) (e : Refusal) → before ≤ mid → FailsFile told name order k mid now e → FailsLoad told asked before now e
  breaks before mid now e l (inl f) = inl (refused_at e f)
  breaks before mid now e l (inr f) = inr (fails_at before mid now e l f)

-- what reading an order's file answers
pub order_answer : {A : Type 0} (told : Option Files) (asked : Asked) (name : List ℕ) (before now : ℕ) (r : Result (Vec ℕ A) Refusal) → asked.command ≡ Replay → slice_get asked.files 0 ≡ Some name → ReadsBytes told name true 0 before now r → ReadsOrder told asked before now r
order_answer told asked name before now (Ok text) c at h = an_order told asked name text.items c at h
order_answer told asked name before now (Err e) c at h =
    breaks told asked 0 name [] true at (none_read told asked.files asked.command) (ap (λ (x : Command). is_order x 0) c) before before now e (omega arith) h

-- what holds each time the loop over the class files begins
pub record GoesOn (told : Option Files) (asked : Asked) (k : ℕ) (text : List ℕ) (classes : List ClassFile)
    (told_now : Option Files) (before now : ℕ) : Type 0 where
  pub loaded : HasLoaded told asked k text classes
  pub files : told_now ≡ told
  pub later : before ≤ now

-- the first error is answered
pub same_failure : {T : Type 0} (told : Option Files) (asked : Asked) (before now : ℕ) (e : Refusal) (r : Result T Refusal) (P : Result T Refusal → Type 0) → ((d : Refusal) → FailsLoad told asked before now d → P (Err d)) → IsErrAnd r (λ d. d ≡ e) → FailsLoad told asked before now e → P r
same_failure told asked before now e (Ok x) P f same h = absurd same
same_failure told asked before now e (Err d) P f same h = f d (subst (FailsLoad told asked before now) (sym same) h)

-- the name at a place that there is
pub named_at : (names : List (List ℕ)) (k : ℕ) (name : List ℕ) → k < length names → name ≡ name_at names k → slice_get names k ≡ Some name
named_at names k name lt e =
    let at : slice_get names k ≡ Some (get_or names k []) = slice_get-get_or names k [] lt in
    let same : name ≡ get_or names k [] = e ∙ ap (from [] (λ (x : List ℕ). x)) at in
    at ∙ ap (λ (x : List ℕ). Some x) (sym same)

-- ---- the program

module _ (told : Option Files) (a : Asked) (text : List ℕ) (classes : List ClassFile) (f : AreFound told a.files (AreLoaded a.command text classes)) where
  -- the classes of the files are accepted
  abbrev are_accepted : (p : Program) → IsFine a classes p → AreAccepted a f.contents
  are_accepted p fine = record { classes = classes; are = f.such.are; accepted = fine.accepted }

  -- the text of a replay's order
  text_of : a.command ≡ Replay → slice_get f.contents 0 ≡ Some (Some text)
  text_of c = subst (λ (command : Command). HasText command text f.contents) c f.such.has

  -- the files have the task of their classes
  pub has_task : (t : Task) → IsSet a text classes t → AreFound told a.files (IsTaskOf t a)
  has_task (task.Run q) h = record {
    contents = f.contents;
    under = f.under;
    such = record { asks = h.2.0; accepted = are_accepted h.0 h.1; is = h.2.1 ∙ h.1.is };
  }
  has_task (task.Replay q order) h = record {
    contents = f.contents;
    under = f.under;
    such = record {
      program = record { asks = h.2.0; accepted = are_accepted h.0 h.1; is = h.2.1 ∙ h.1.is };
      args = refl;
      text = text_of h.2.0 ∙ ap (λ (z : List ℕ). Some (Some z)) (sym h.2.2);
    };
  }
  has_task (task.Tell line) h = record {
    contents = f.contents;
    under = f.under;
    such = record {
      checked = record { check = h.2.0; accepted = are_accepted h.0 h.1 };
      classes = classes;
      are = f.such.are;
      is = h.2.1;
    };
  }

-- why the files have no task
abbrev Cause : Option Files → Asked → ℕ → ℕ → Refusal → Type 0
Cause told a before now e = AreFound told a.files (RefusesProgram e a) ⊎ LoadFails told a before now e

module _ (told : Option Files) (a : Asked) (text : List ℕ) (classes : List ClassFile) (before now : ℕ) (f : AreFound told a.files (AreLoaded a.command text classes)) where
  -- the cause where classes have none
  not_set : (e : Refusal) → IsUnfit a classes e → Cause told a before now e
  not_set (Link e) n = inl (record { contents = f.contents; under = f.under; such = record { classes = classes; are = f.such.are; first = n } })
  not_set (Flow e) n = inl (record { contents = f.contents; under = f.under; such = record { classes = classes; are = f.such.are; untyped = n } })
  not_set NoMemory n = inr tt
  not_set Usage n = absurd n
  not_set (File k why) n = absurd n
  not_set (NoFile k) n = absurd n
  not_set (TooLong k) n = absurd n
  not_set (ReadFault k) n = absurd n
  not_set WriteFault n = absurd n
  not_set (BadOrder l) n = absurd n
  not_set (NotEnabled k) n = absurd n
  not_set EarlyOrder n = absurd n

  -- what is told of it
  has_text : (e : Refusal) (said : List ℕ) → IsTextOf classes e said → HasToldText told a e said
  has_text (Link e) said h = record { contents = f.contents; under = f.under; such = record { classes = classes; are = f.such.are; is = h } }
  has_text (Flow e) said h = record { contents = f.contents; under = f.under; such = record { classes = classes; are = f.such.are; is = h } }
  has_text NoMemory said h = tt
  has_text Usage said h = tt
  has_text (File k why) said h = tt
  has_text (NoFile k) said h = tt
  has_text (TooLong k) said h = tt
  has_text (ReadFault k) said h = tt
  has_text WriteFault said h = tt
  has_text (BadOrder l) said h = tt
  has_text (NotEnabled k) said h = tt
  has_text EarlyOrder said h = tt

  -- class files that are refused have no task
  pub told_program : (e : Refusal) (r : Refused) → IsUnfit a classes e → IsTold classes e r → Programs told a before now (Err r)
  told_program e r n (inl h) = record {
    cause = subst (Cause told a before now) (sym h.0) (not_set e n);
    tells = subst (λ (x : Refusal). HasToldText told a x r.text.items) (sym h.0) (has_text e r.text.items h.1);
  }
  told_program e r n (inr h) =
      let lost : HasNoProgram told a before now NoMemory r.text.items = record { cause = inr tt; tells = tt } in
      subst (λ (x : Refusal). HasNoProgram told a before now x r.text.items) (sym h) lost

-- refused files have none
of_files : (a : Asked) (e : Refusal) (contents : List (Option (List ℕ))) → RefusesFiles e a.command contents → RefusesProgram e a contents
of_files a (NoFile k) contents r = r
of_files a (TooLong k) contents r = r
of_files a (File k why) contents r = r
of_files a (Link e) contents r = absurd r
of_files a (Flow e) contents r = absurd r
of_files a Usage contents r = absurd r
of_files a (ReadFault k) contents r = absurd r
of_files a WriteFault contents r = absurd r
of_files a NoMemory contents r = absurd r
of_files a (BadOrder l) contents r = absurd r
of_files a (NotEnabled k) contents r = absurd r
of_files a EarlyOrder contents r = absurd r

-- files that can't be loaded have none
loads_cause : (told : Option Files) (a : Asked) (before now : ℕ) (e : Refusal) → FailsLoad told a before now e → Cause told a before now e
loads_cause told a before now e (inl f) = inl (record { contents = f.contents; under = f.under; such = of_files a e f.contents f.such })
loads_cause told a before now e (inr f) = inr f

-- nothing of their classes is told
no_text : (told : Option Files) (a : Asked) (before now : ℕ) (e : Refusal) (text : List ℕ) → FailsLoad told a before now e → HasToldText told a e text
no_text told a before now (Link e) text (inl f) = absurd f.such
no_text told a before now (Link e) text (inr f) = absurd f
no_text told a before now (Flow e) text (inl f) = absurd f.such
no_text told a before now (Flow e) text (inr f) = absurd f
no_text told a before now NoMemory text h = tt
no_text told a before now Usage text h = tt
no_text told a before now (File k why) text h = tt
no_text told a before now (NoFile k) text h = tt
no_text told a before now (TooLong k) text h = tt
no_text told a before now (ReadFault k) text h = tt
no_text told a before now WriteFault text h = tt
no_text told a before now (BadOrder l) text h = tt
no_text told a before now (NotEnabled k) text h = tt
no_text told a before now EarlyOrder text h = tt

-- nor have files that can't be loaded
pub not_loaded : (told : Option Files) (a : Asked) (before now : ℕ) (e : Refusal) (r : Refused) → r.refusal ≡ e → FailsLoad told a before now e → Programs told a before now (Err r)
not_loaded told a before now e r is h = record {
  cause = subst (Cause told a before now) (sym is) (loads_cause told a before now e h);
  tells = subst (λ (x : Refusal). HasToldText told a x r.text.items) (sym is) (no_text told a before now e r.text.items h);
}

-- ---- what accepting is given

-- classes that were read are class files
are_classes : (contents : List (Option (List ℕ))) (classes : List ClassFile) → AreClassFiles contents classes → AllByRecursion IsClass classes
are_classes [] [] a = tt
are_classes [] (c ∷ classes) a = absurd a
are_classes (x ∷ contents) [] a = absurd a
are_classes (x ∷ contents) (c ∷ classes) a = (is_class a.0.spells.source c a.0.spells.means, are_classes contents classes a.1)

-- for any command
pub read_classes : (command : Command) (contents : List (Option (List ℕ))) (classes : List ClassFile) → AreRead command contents classes → AllByRecursion IsClass classes
read_classes Run contents classes a = are_classes contents classes a
read_classes Check contents classes a = are_classes contents classes a
read_classes Replay [] [] a = tt
read_classes Replay [] (c ∷ classes) a = absurd a
read_classes Replay (x ∷ contents) classes a = are_classes contents classes a.1

-- as many as names
as_many : (contents : List (Option (List ℕ))) (classes : List ClassFile) → AreClassFiles contents classes → length contents ≡ length classes
as_many [] [] a = refl
as_many [] (c ∷ classes) a = absurd a
as_many (x ∷ contents) [] a = absurd a
as_many (x ∷ contents) (c ∷ classes) a = ap suc (as_many contents classes a.1)

-- so there are few
few_read : (command : Command) (contents : List (Option (List ℕ))) (classes : List ClassFile) → AreRead command contents classes → is_count command (length contents) ≡ true → length classes ≤ 1024
few_read Run contents classes a c = let l = leb-true (length contents) 1024 (and_parts (nat_le 1 (length contents)) (nat_le (length contents) 1024) c).1 in let m = as_many contents classes a in omega arith
few_read Check contents classes a c = let l = leb-true (length contents) 1024 (and_parts (nat_le 1 (length contents)) (nat_le (length contents) 1024) c).1 in let m = as_many contents classes a in omega arith
few_read Replay [] [] a c = omega arith
few_read Replay [] (x ∷ classes) a c = absurd a
few_read Replay (x ∷ contents) classes a c = let l = leb-true (length (x ∷ contents)) 1025 (and_parts (nat_le 2 (length (x ∷ contents))) (nat_le (length (x ∷ contents)) 1025) c).1 in let m = as_many contents classes a.1 in omega arith

module _ (told : Option Files) (a : Asked) (text : List ℕ) (classes : List ClassFile) (f : AreFound told a.files (AreLoaded a.command text classes)) where
  -- so all of them are formed
  pub all_formed : All IsClass classes
  all_formed = all_of IsClass classes (read_classes a.command f.contents classes f.such.are)

  -- and there are few
  pub few_classes : IsCounted a → length classes ≤ 1024
  few_classes c = few_read a.command f.contents classes f.such.are (ap (is_count a.command) (AreUnder-length told a.files f.contents f.under) ∙ c)

-- a task that memory ran out for
unset : (a : Asked) (classes : List ClassFile) (e : Refusal) → e ≡ NoMemory → IsUnfit a classes e
unset a classes e h = subst (λ (x : Refusal). IsUnfit a classes x) (sym h) tt

-- accepted classes with their task
pub set : (a : Asked) (text : List ℕ) (classes : List ClassFile) (p : Program) (r : Result Task Refusal) → IsFine a classes p → MatchResult r (IsTask a text classes p) (λ e. e ≡ NoMemory) → MatchResult r (IsSet a text classes) (IsUnfit a classes)
set a text classes p (Ok t) fine h = (p, fine, h)
set a text classes p (Err e) fine h = unset a classes e h
