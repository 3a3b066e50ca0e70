-- From the files of a call to its verdict.
use Rattle.std.proofs.Common.{◌≡◌, ℕ, Bool, true, false, List, [], length, Option, Some, None, Result, Ok, Err, refl, sym, ap, subst, ◌∙◌, inl, inr, ⊎_elim, ◌⊎◌, arith}
use Rattle.std.specs.Prelude.{◌≢◌, slice_get, Vec, IfOk}
use Rattle.std.specs.Result.{IsOk}
use Rattle.std.proofs.Math.Seq.{take-length}
use Rattle.std.proofs.lemmas.Option.{slice_get_within}
use Rattle.cjvm_io.specs.Shelves.{Files}
use Rattle.cjvm_io.specs.Sinks.{Showing, GainsFront}
use Rattle.std.specs.Io.KnownBytes.{Appends}
use Rattle.class_format.specs.Meaning.{IsClass}
use Rattle.class_format.proofs.Recursion.{all_of}
use Rattle.command_words.specs.declared.words.Command.{Command}
use Rattle.command_words.specs.declared.words.Command.TheVariants.{Run, Check, Replay}
use Rattle.jvm_base.specs.declared.value.Uncaught.{Uncaught}
use Rattle.machine_state.specs.declared.state.Choice.{Choice}
use Rattle.machine_state.specs.Runs.{run}
use Rattle.machine_state.specs.Start.{start}
use Rattle.machine_state.specs.State.{State}
use Rattle.machine_state.specs.Step.{step}
use Rattle.one_machine.specs.Ready.{CanRun}
use Rattle.std.specs.List.{AllByRecursion}
use Rattle.order_text.specs.Spelling.{HasClass, IsOrderText}
use Rattle.program_image.specs.Program.{Program}
use Rattle.runnable_programs.specs.Runnable.{RunnableLaw}
use Rattle.written_orders.specs.Written.{HaveTexts, WrittenLaw}
use Rattle.one_jvm.specs.declared.outcome.Stop.{Stop}
use Rattle.one_jvm.specs.declared.outcome.Stop.TheVariants as stop
use Rattle.one_jvm.specs.declared.outcome.Refusal.{Refusal}
use Rattle.one_jvm.specs.declared.outcome.Refusal.TheVariants.{Usage, File, Link, Flow, NoFile, ReadFault, WriteFault, TooLong, NoMemory, BadOrder, NotEnabled, EarlyOrder}
use Rattle.one_jvm.specs.Words.{Asked, IsCall, IsNoCall, AskFor, IsRun, IsCheck, IsReplay, ShowsOrder, name_at}
use Rattle.one_jvm.specs.Replays.{Replayed, IsBadOrder, IsNotEnabled, IsEarly, StandsAs, EndsAs, PrintsAll, PrintsPart}
use Rattle.one_jvm.specs.Verdicts.{IsMissing, IsLong, IsRefusedFile, Names, StopsAt, main_of, AreRefused, AreUntyped, IsProgram, IsReplayed, Replays, HasReplay, IsVerdict}
use Rattle.one_jvm.specs.Outcomes.{place_of, ending_text}
use Rattle.one_jvm.specs.Answers.{Faults, the_faults, IsAny, IsHindered, Because, Wrote, Says, PrintedAll, PrintedFront, PrintedSome, ComesFirst, Ran, Accepts, IsAccepted, IsJob, IsUnwritten, refusal_of, IsToldText, IsNamed, TellsReplay, IsEndText, IsSubject, IsShownText}
use Rattle.one_jvm.specs.Steps.Loading.{AreFound, RefusesProgram, LoadFails, HasToldText, HasNoProgram}
use Rattle.one_jvm.specs.Steps.Parts.{IsMisread, IsNamedBy}
use Rattle.one_jvm.specs.Steps.ReplaySteps.{tape, IsWholeTape, IsStuckTape, IsPartTape, TellsTape, ReplayComesTo}
use Rattle.one_jvm.specs.Steps.RunSteps.{TellsWhole, text_made, listing_made, refusal_after}
use Rattle.one_jvm.specs.Steps.Speaking.{IsToldOf, IsSilent, NamesRefused, Speaks, EndsSo, IsJudged}
use Rattle.one_jvm.specs.Runs.{job_of, RanTo}
use Rattle.one_jvm.proofs.LoadLemmas.{read_classes}
use Rattle.one_jvm.proofs.RunLaws.{whole_front}
use Rattle.one_jvm.proofs.RunLoop.{done_silent, ran_leads}
use Rattle.one_jvm.proofs.WordLemmas.{one_call, one_command}

-- no place is named
unnamed : (words : List (List ℕ)) (e : Refusal) (name : List ℕ) → place_of e ≡ None → IsNamed words e name
unnamed words e name n asked k call at = absurd (let both : None ≡ Some k = sym n ∙ at in cc)

module _ (words : List (List ℕ)) (told : Option Files) (a : Asked) (call : IsCall words a) where
  -- what there is under the words' names
  names : (P : Asked → List (Option (List ℕ)) → Type 0) → AreFound told a.files (P a) → Names told words P
  names P f = record { asked = a; is_call = call; contents = f.contents; under = f.under; such = f.such }

  -- the words ask for no other command
  asks_else : (c d : Command) → a.command ≡ c → (c ≡ d → ⊥) → AskFor d words → ⊥
  asks_else c d e n k = n (one_command words a c d call e k)

  -- the verdict on files that are refused
  verdict : (e : Refusal) → AreFound told a.files (RefusesProgram e a) → IsVerdict told words (Some e)
  verdict (NoFile k) f = names (λ asked. StopsAt IsMissing asked.command k) f
  verdict (TooLong k) f = names (λ asked. StopsAt IsLong asked.command k) f
  verdict (File k why) f = names (λ asked. StopsAt (IsRefusedFile why) asked.command k) f
  verdict (Link e) f = names (AreRefused e) f
  verdict (Flow e) f = names (AreUntyped e) f
  verdict Usage f = absurd f.such
  verdict (ReadFault k) f = absurd f.such
  verdict WriteFault f = absurd f.such
  verdict NoMemory f = absurd f.such
  verdict (BadOrder k) f = absurd f.such
  verdict (NotEnabled k) f = absurd f.such
  verdict EarlyOrder f = absurd f.such

  -- reading failed
  fails : (faults : Faults) (e : Refusal) → LoadFails told a faults.read_before faults.read_now e → IsHindered told words faults (Some e)
  fails faults (ReadFault k) h = record { hindrance = ReadFault k; strikes = record { rose = h.0; stops = names (λ asked. StopsAt IsAny asked.command k) h.1 }; shows = refl }
  fails faults NoMemory h = record { hindrance = NoMemory; strikes = tt; shows = refl }
  fails faults Usage h = absurd h
  fails faults (Link e) h = absurd h
  fails faults (Flow e) h = absurd h
  fails faults (File k why) h = absurd h
  fails faults (NoFile k) h = absurd h
  fails faults (TooLong k) h = absurd h
  fails faults WriteFault h = absurd h
  fails faults (BadOrder k) h = absurd h
  fails faults (NotEnabled k) h = absurd h
  fails faults EarlyOrder h = absurd h

  -- what is told of them
  tells : (e : Refusal) (text : List ℕ) → HasToldText told a e text → IsToldOf told words [] None (Some e) text
  tells (Link e) text f = names (IsToldText (Link e) text) f
  tells (Flow e) text f = names (IsToldText (Flow e) text) f
  tells NoMemory text f = tt
  tells Usage text f = tt
  tells (File k why) text f = tt
  tells (NoFile k) text f = tt
  tells (TooLong k) text f = tt
  tells (ReadFault k) text f = tt
  tells WriteFault text f = tt
  tells (BadOrder k) text f = tt
  tells (NotEnabled k) text f = tt
  tells EarlyOrder text f = tt

  -- nothing is written then
  unwritten : (f g : ℕ) (e : Refusal) (text : List ℕ) (held : Showing) → HasNoProgram told a f g e text → Wrote words told held held (Some e)
  unwritten f g (Link e) text held p = refl
  unwritten f g (Flow e) text held p = refl
  unwritten f g NoMemory text held p = inl refl
  unwritten f g Usage text held p = refl
  unwritten f g (File k why) text held p = refl
  unwritten f g (NoFile k) text held p = refl
  unwritten f g (TooLong k) text held p = refl
  unwritten f g (ReadFault k) text held p = refl
  unwritten f g WriteFault text held p = inl refl
  unwritten f g (BadOrder k) text held p = refl
  unwritten f g (NotEnabled k) text held p = absurd (⊎_elim (λ x. x.such) (λ x. x) p.cause)
  unwritten f g EarlyOrder text held p = absurd (⊎_elim (λ x. x.such) (λ x. x) p.cause)

  -- files aren't refused for a write
  no_write : (f g : ℕ) (e : Refusal) (text : List ℕ) → HasNoProgram told a f g e text → e ≡ WriteFault → ⊥
  no_write f g e text p q =
      let h : HasNoProgram told a f g WriteFault text = subst (λ (x : Refusal). HasNoProgram told a f g x text) q p in
      ⊎_elim (λ x. x.such) (λ x. x) h.cause

  -- files that are refused
  pub judged_refused : (f g w : ℕ) (held : Showing) (e : Refusal) (text name : List ℕ) → HasNoProgram told a f g e text → IsNamed words e name → IsJudged words told (the_faults f g w w) held held [] None None (Some e) text [] name
  judged_refused f g w held e text name p n = record {
    cause = ⊎_elim (λ x. inl (verdict e x)) (λ x. inr (fails (the_faults f g w w) e x)) p.cause;
    run = (refl, unwritten f g e text held p);
    agrees = inr (λ x. cc, λ x. let q : e ≡ WriteFault = cc in no_write f g e text p q);
    ends = tt;
    tells = tells e text p.tells;
    silent = λ x. absurd cc;
    showing = refl;
    named = n;
    quiet = λ x y. absurd cc;
  }

  -- ---- files whose program is run

  module _ (f g : ℕ) (p : Program) (h : AreFound told a.files (IsProgram Run p a)) (before now : Showing) where
    abbrev own : Faults
    own = the_faults f g before.faults now.faults

    -- it is run as they ask
    has_job : Names told words (IsJob (job_of p a))
    has_job = names (IsJob (job_of p a)) (record { contents = h.contents; under = h.under; such = record { program = h.such; is = refl } })

    is_run : IsRun words
    is_run = (a, call, h.such.asks)

    -- a run that no fault cut off
    ran : IsVerdict told words None
    ran = inl (p, names (IsProgram Run p) h)

    -- why such a call ends so
    because_ran : (s : Stop) (order : List Choice) → RanTo (job_of p a) order before now s → Because words told own (refusal_of s)
    because_ran stop.Done order r = inl ran
    because_ran stop.Uncaught order r = inl ran
    because_ran (stop.StepLimit t) order r = inl ran
    because_ran stop.Deadlock order r = inl ran
    because_ran (stop.ThreadsFull t) order r = inl ran
    because_ran stop.WriteFault order r = inr (record { hindrance = WriteFault; strikes = ((a, call), r.1); shows = refl })
    because_ran stop.NoMemory order r = inr (record { hindrance = NoMemory; strikes = tt; shows = refl })

    -- memory ran out for what is told
    because_lost : Because words told own (Some NoMemory)
    because_lost = inr (record { hindrance = NoMemory; strikes = tt; shows = refl })

    -- what its end tells
    told_ran : {A : Type 0} (E : Type 0) (s : Stop) (order : List Choice) (text : Vec ℕ A) → TellsWhole {E = E} (job_of p a) order s (Ok text) → IsToldOf told words order (Some s) (refusal_of s) text.items
    told_ran E stop.Done order text t = (job_of p a, has_job, t)
    told_ran E stop.Uncaught order text t = (job_of p a, has_job, t)
    told_ran E (stop.StepLimit k) order text t = (job_of p a, has_job, t)
    told_ran E stop.Deadlock order text t = (job_of p a, has_job, t)
    told_ran E (stop.ThreadsFull k) order text t = (job_of p a, has_job, t)
    told_ran E stop.WriteFault order text t = tt
    told_ran E stop.NoMemory order text t = tt

    -- which is nothing where all threads have ended without an exception
    silent_ran : {A : Type 0} (E : Type 0) (s : Stop) (order : List Choice) (text : Vec ℕ A) → RanTo (job_of p a) order before now s → TellsWhole {E = E} (job_of p a) order s (Ok text) → IsSilent (Some s) text.items
    silent_ran E stop.Done order text r t = done_silent (job_of p a) order before now text.items r t
    silent_ran E stop.Uncaught order text r t = tt
    silent_ran E (stop.StepLimit k) order text r t = tt
    silent_ran E stop.Deadlock order text r t = tt
    silent_ran E (stop.ThreadsFull k) order text r t = tt
    silent_ran E stop.WriteFault order text r t = tt
    silent_ran E stop.NoMemory order text r t = tt

    -- its end is that of the call
    ends_ran : (s : Stop) → EndsSo words told (Some s) (Some s) (refusal_of s)
    ends_ran stop.Done = refl
    ends_ran stop.Uncaught = refl
    ends_ran (stop.StepLimit k) = refl
    ends_ran stop.Deadlock = refl
    ends_ran (stop.ThreadsFull k) = refl
    ends_ran stop.WriteFault = tt
    ends_ran stop.NoMemory = tt

    -- no file is named
    unnamed_ran : (s : Stop) → NamesRefused words (refusal_of s) []
    unnamed_ran stop.Done = tt
    unnamed_ran stop.Uncaught = tt
    unnamed_ran (stop.StepLimit k) = tt
    unnamed_ran stop.Deadlock = tt
    unnamed_ran (stop.ThreadsFull k) = tt
    unnamed_ran stop.WriteFault = unnamed words WriteFault [] refl
    unnamed_ran stop.NoMemory = unnamed words NoMemory [] refl

    -- the order is shown as it was made, for any refusal
    shown_made : (shows : Bool) (order : List Choice) (refusal : Option Refusal) (listing : List ℕ) → IsShownText shows order None listing → IsShownText shows order refusal listing
    shown_made false order refusal listing i = i
    shown_made true order refusal listing (inl i) = inl i
    shown_made true order refusal listing (inr i) = absurd (let e = i.0 in cc)

    -- or memory ran out for it
    shown_lost : (shows : Bool) (order : List Choice) → IsShownText shows order (Some NoMemory) []
    shown_lost false order = refl
    shown_lost true order = inr (refl, refl)

    -- a run for which a text wasn't made
    judged_lost : (s : Stop) (order : List Choice) (text listing : List ℕ) → RanTo (job_of p a) order before now s → IsShownText a.shows order (Some NoMemory) listing → (Some s ≡ Some stop.Done → ¬ ShowsOrder words → ⊥) → IsJudged words told own before now order (Some s) (Some s) (Some NoMemory) text listing []
    judged_lost s order text listing r i n = record {
      cause = because_lost;
      run = (job_of p a, has_job, r);
      agrees = (is_run, inr refl);
      ends = tt;
      tells = tt;
      silent = λ x. absurd cc;
      showing = (a, call, i);
      named = unnamed words NoMemory [] refl;
      quiet = λ x y. absurd (n x y);
    }

    -- one for which both were
    judged_made : {A : Type 0} (E : Type 0) (s : Stop) (order : List Choice) (text : Vec ℕ A) (listing : List ℕ) → RanTo (job_of p a) order before now s → TellsWhole {E = E} (job_of p a) order s (Ok text) → IsShownText a.shows order None listing → IsJudged words told own before now order (Some s) (Some s) (refusal_of s) text.items listing []
    judged_made E s order text listing r t i = record {
      cause = because_ran s order r;
      run = (job_of p a, has_job, r);
      agrees = (is_run, inl refl);
      ends = ends_ran s;
      tells = told_ran E s order text t;
      silent = λ x. silent_ran E s order text r t;
      showing = (a, call, shown_made a.shows order (refusal_of s) listing i);
      named = unnamed_ran s;
      quiet = λ x y. let d : s ≡ stop.Done = cc in ap refusal_of d;
    }

    -- words that show nothing
    hidden : ¬ ShowsOrder words → a.shows ≡ false
    hidden n = by_test a.shows refl
      where
        by_test : (b : Bool) → a.shows ≡ b → b ≡ false
        by_test true e = absurd (n (a, call, e))
        by_test false e = refl

    judged_by : {A E F : Type 0} (s : Stop) (order : List Choice) (text : Result (Vec ℕ A) E) (listing : Result (List ℕ) F) → RanTo (job_of p a) order before now s → TellsWhole (job_of p a) order s text → (s ≡ stop.Done → IsOk text) → IfOk listing (IsShownText a.shows order None) → (a.shows ≡ false → IsOk listing) → IsJudged words told own before now order (Some s) (Some s) (refusal_after s text listing) (text_made text) (listing_made listing) []
    judged_by s order (Ok text) (Ok listing) r t q i u = judged_made _ s order text listing r t i
    judged_by s order (Ok text) (Err e) r t q i u = judged_lost s order text.items [] r (shown_lost a.shows order) (λ x y. let b = u (hidden y) in absurd cc)
    judged_by s order (Err e) (Ok listing) r t q i u = judged_lost s order [] listing r (shown_made a.shows order (Some NoMemory) listing i) (λ x y. let d : s ≡ stop.Done = cc in let b = q d in absurd cc)
    judged_by s order (Err e) (Err f) r t q i u = judged_lost s order [] [] r (shown_lost a.shows order) (λ x y. let d : s ≡ stop.Done = cc in let b = q d in absurd cc)

    -- a run, as its texts were made
    pub judged_run : {A E F : Type 0} (s : Stop) (order : List Choice) (text : Result (Vec ℕ A) E) (listing : Result (List ℕ) F) (refusal : Option Refusal) (said shows : List ℕ) → RanTo (job_of p a) order before now s → TellsWhole (job_of p a) order s text → (s ≡ stop.Done → IsOk text) → IfOk listing (IsShownText a.shows order None) → (a.shows ≡ false → IsOk listing)
        → refusal ≡ refusal_after s text listing → said ≡ text_made text → shows ≡ listing_made listing → IsJudged words told own before now order (Some s) (Some s) refusal said shows []
    judged_run s order text listing refusal said shows r t q i u e x y =
        subst (λ (v : Option Refusal). IsJudged words told own before now order (Some s) (Some s) v said shows []) (sym e)
        (subst (λ (z : List ℕ). IsJudged words told own before now order (Some s) (Some s) (refusal_after s text listing) z shows []) (sym x)
        (subst (λ (z : List ℕ). IsJudged words told own before now order (Some s) (Some s) (refusal_after s text listing) (text_made text) z []) (sym y)
        (judged_by s order text listing r t q i u)))

  -- ---- files that are checked

  module _ (f g : ℕ) (line : List ℕ) (h : AreFound told a.files (IsAccepted line a)) (before now : Showing) where
    -- the words ask for a check
    pub is_check : IsCheck words
    is_check = (a, call, h.such.checked.check)

    not_run : ¬ IsRun words
    not_run k = asks_else Check Run h.such.checked.check (λ e. absurd cc) k

    -- the words' files are accepted
    said : (G : List ℕ → Type 0) → G line → Accepts told words G
    said G x = record { text = line; files = names (IsAccepted line) h; gained = x }

    pub judged_said : (refusal : Option Refusal) → Says line before now refusal → IsJudged words told (the_faults f g before.faults now.faults) before now [] None None refusal [] [] []
    judged_said None s = record {
      cause = inl (inr (inl (record { asked = a; is_call = call; contents = h.contents; under = h.under; such = h.such.checked })));
      run = (refl, inl (said (λ l. Says l before now None) s));
      agrees = inl not_run;
      ends = inl (is_check, refl);
      tells = inl (is_check, refl);
      silent = λ x. refl;
      showing = refl;
      named = tt;
      quiet = λ x y. refl;
    }
    judged_said (Some e) s =
        let fault : IsJudged words told (the_faults f g before.faults now.faults) before now [] None None (Some WriteFault) [] [] [] = record {
          cause = inr (record { hindrance = WriteFault; strikes = ((a, call), s.1); shows = refl });
          run = (refl, inr (inl (said (λ l. Says l before now (Some WriteFault)) (refl, s.1, s.2))));
          agrees = inl not_run;
          ends = tt;
          tells = tt;
          silent = λ x. absurd cc;
          showing = refl;
          named = unnamed words WriteFault [] refl;
          quiet = λ x y. absurd cc;
        } in
        subst (λ (v : Refusal). IsJudged words told (the_faults f g before.faults now.faults) before now [] None None (Some v) [] [] []) (sym s.0) fault

  -- ---- files that are replayed

  module _ (f g : ℕ) (r : Replayed) (h : AreFound told a.files (IsReplayed r a)) (before now : Showing) where
    abbrev faults_then : Faults
    faults_then = the_faults f g before.faults now.faults

    pub is_replay : IsReplay words
    is_replay = (a, call, h.such.program.asks)

    never_run : ¬ IsRun words
    never_run k = asks_else Replay Run h.such.program.asks (λ e. absurd cc) k

    -- the words' files are replayed so
    has : (P : Replayed → Type 0) → P r → HasReplay P told words
    has P x = names (Replays P) (record { contents = h.contents; under = h.under; such = record { replayed = r; is = h.such; such = x } })

    -- a refused replay
    judged_stop : (end : Option Stop) (e : Refusal) (text : List ℕ) → Because words told faults_then (Some e) → Wrote words told before now (Some e) → IsToldOf told words [] None (Some e) text → place_of e ≡ None → IsJudged words told faults_then before now [] None end (Some e) text [] []
    judged_stop end e text b w t n = record {
      cause = b;
      run = (refl, w);
      agrees = inl never_run;
      ends = tt;
      tells = t;
      silent = λ x. absurd cc;
      showing = refl;
      named = unnamed words e [] n;
      quiet = λ x y. absurd cc;
    }

    -- all its output was written, as all choices are enabled
    all_printed : {P : Program → State → Type 0} (order : List Choice) → IsOrderText r.text order → IsWholeTape P (tape r.program r.args order) before.held now.held → PrintsAll before.held now.held r
    all_printed order s w = record {
      order = order;
      text = s;
      taken = length order;
      last = w.last;
      follows = record { within = omega arith; leads = ap (run r.program (start r.program r.args)) (take-length order) ∙ w.leads };
      stops = λ choice at. absurd (let l = slice_get_within order (length order) choice at in omega arith);
      written = w.written;
    }

    -- so much of it was
    part_printed : (Gains : Option (List ℕ) → Option (List ℕ) → List ℕ → Type 0) (order : List Choice) → IsOrderText r.text order → IsPartTape Gains (tape r.program r.args order) before.held now.held → PrintsPart Gains before.held now.held r
    part_printed Gains order s w = record { order = order; text = s; taken = w.taken; last = w.last; follows = w.leads; written = w.written }

    -- the replay came to its end
    judged_end : (s : Stop) (text : List ℕ) (order : List Choice) → IsOrderText r.text order → IsWholeTape (TellsTape s text) (tape r.program r.args order) before.held now.held → IsJudged words told faults_then before now [] None (Some s) None text [] []
    judged_end s text order o w =
        let ended : HasReplay (EndsAs s) told words = has (EndsAs s) (record { order = order; text = o; last = w.last; leads = w.leads; such = w.such.ended }) in
        record {
          cause = inl (inr (inr (s, ended)));
          run = (refl, inr (has (PrintsAll before.held now.held) (all_printed order o w)));
          agrees = inl never_run;
          ends = inr (s, refl, ended);
          tells = inr (has (TellsReplay text) (record { stop = s; order = order; is_order = o; last = w.last; leads = w.leads; ended = w.such.ended; is = w.such.is }));
          silent = λ x. silent_at s text w.last w.such.ended w.such.is;
          showing = refl;
          named = tt;
          quiet = λ x y. refl;
        }
      where
        silent_at : (s : Stop) (text : List ℕ) (last : State) → StandsAs s r.program last → text ≡ ending_text r.program s last.uncaught → IsSilent (Some s) text
        silent_at stop.Done text last st e = e ∙ ap (λ (u : List Uncaught). ending_text r.program stop.Done u) st.1
        silent_at stop.Uncaught text last st e = tt
        silent_at (stop.StepLimit k) text last st e = tt
        silent_at stop.Deadlock text last st e = tt
        silent_at (stop.ThreadsFull k) text last st e = tt
        silent_at stop.WriteFault text last st e = tt
        silent_at stop.NoMemory text last st e = tt

    judged_lost_replay : Because words told faults_then (Some NoMemory)
    judged_lost_replay = inr (record { hindrance = NoMemory; strikes = tt; shows = refl })

    -- a choice wasn't enabled
    stuck_printed : (k : ℕ) (order : List Choice) → IsOrderText r.text order → IsStuckTape k (tape r.program r.args order) before.held now.held → PrintsAll before.held now.held r
    stuck_printed k order s w = record {
      order = order;
      text = s;
      taken = w.taken;
      last = w.last;
      follows = w.leads;
      stops = λ choice at.
          let both : Some w.choice ≡ Some choice = sym w.next ∙ at in
          let same : w.choice ≡ choice = cc in
          subst (λ (c : Choice). step r.program w.last c ≡ None) same w.refused;
      written = w.written;
    }

    -- what comes of it
    pub judged_replay : (end : Option Stop) (refusal : Option Refusal) (text : List ℕ) → ReplayComesTo r before now end refusal text → IsJudged words told faults_then before now [] None end refusal text [] []
    judged_replay None None text c = absurd c.comes
    judged_replay (Some s) None text c = judged_end s text c.order c.spells c.comes
    judged_replay end (Some (BadOrder line)) text c = judged_stop end (BadOrder line) text (inl (has (IsBadOrder line) c.0)) c.1 tt refl
    judged_replay end (Some (NotEnabled k)) text c =
        let w = c.comes in
        judged_stop end (NotEnabled k) text
        (inl (has (IsNotEnabled k) (record { order = c.order; text = c.spells; taken = w.taken; is = w.is; before = w.last; follows = w.leads; choice = w.choice; next = w.next; refused = w.refused })))
        (has (PrintsAll before.held now.held) (stuck_printed k c.order c.spells w)) tt refl
    judged_replay end (Some EarlyOrder) text c =
        judged_stop end EarlyOrder text
        (inl (has IsEarly (record { order = c.order; text = c.spells; last = c.comes.last; leads = c.comes.leads; such = c.comes.such })))
        (has (PrintsAll before.held now.held) (all_printed c.order c.spells c.comes)) tt refl
    judged_replay end (Some WriteFault) text c =
        judged_stop end WriteFault text (inr (record { hindrance = WriteFault; strikes = ((a, call), c.comes.1); shows = refl }))
        (inr (inr (has (PrintsPart GainsFront before.held now.held) (part_printed GainsFront c.order c.spells c.comes.0)))) tt refl
    judged_replay end (Some NoMemory) text (inl same) = judged_stop end NoMemory text judged_lost_replay (inl same) tt refl
    judged_replay end (Some NoMemory) text (inr c) =
        judged_stop end NoMemory text judged_lost_replay (inr (has (PrintsPart Appends before.held now.held) (part_printed Appends c.order c.spells c.comes))) tt refl
    judged_replay end (Some Usage) text c = absurd c.comes
    judged_replay end (Some (File k why)) text c = absurd c.comes
    judged_replay end (Some (Link e)) text c = absurd c.comes
    judged_replay end (Some (Flow e)) text c = absurd c.comes
    judged_replay end (Some (NoFile k)) text c = absurd c.comes
    judged_replay end (Some (ReadFault k)) text c = absurd c.comes
    judged_replay end (Some (TooLong k)) text c = absurd c.comes

-- the name of the file that is refused
pub named_refused : (words : List (List ℕ)) (a : Asked) → IsCall words a → (e : Refusal) (name : List ℕ) → IsNamedBy a.files e name → IsNamed words e name
named_refused words a call e name n asked k other at =
    n k at ∙ ap (λ (x : Asked). name_at x.files k) (one_call words a asked call other)

-- ---- before anything is read

-- the program can be run
pub can_run : (told : Option Files) (a : Asked) (command : Command) (p : Program) (contents : List (Option (List ℕ))) → RunnableLaw → IsProgram command p a contents → CanRun p
can_run told a command p contents law h =
    let l = h.accepted in
    subst CanRun (sym h.is) (law l.classes (main_of a.main l.classes) (all_of IsClass l.classes (read_classes a.command contents l.classes l.are)) l.accepted)

-- its orders have texts
pub have_texts : (told : Option Files) (a : Asked) (command : Command) (p : Program) (contents : List (Option (List ℕ))) → WrittenLaw → IsProgram command p a contents → HaveTexts p
have_texts told a command p contents law h =
    let l = h.accepted in
    subst HaveTexts (sym h.is) (law l.classes (main_of a.main l.classes) (all_of IsClass l.classes (read_classes a.command contents l.classes l.are)) l.accepted)

-- so has the order of a run
pub order_has_text : (p : Program) (a : Asked) (before now : Showing) (s : Stop) (order : List Choice) → HaveTexts p → RanTo (job_of p a) order before now s → AllByRecursion HasClass order
order_has_text p a before now s order texts r = let l = ran_leads (job_of p a) order before now s r in texts a.args order l.0 l.1

-- parts by equal names
pub judged_as : (words : List (List ℕ)) (told : Option Files) (faults : Faults) (before now : Showing) (order other : List Choice) (stop other_stop end other_end : Option Stop) (refusal other_refusal : Option Refusal) (text other_text listing other_listing name other_name : List ℕ)
    → order ≡ other → stop ≡ other_stop → end ≡ other_end → refusal ≡ other_refusal → text ≡ other_text → listing ≡ other_listing → name ≡ other_name
    → IsJudged words told faults before now other other_stop other_end other_refusal other_text other_listing other_name → IsJudged words told faults before now order stop end refusal text listing name
judged_as words told faults before now order other stop other_stop end other_end refusal other_refusal text other_text listing other_listing name other_name a b c d e f g h =
    subst (λ (x : List Choice). IsJudged words told faults before now x stop end refusal text listing name) (sym a)
    (subst (λ (x : Option Stop). IsJudged words told faults before now other x end refusal text listing name) (sym b)
    (subst (λ (x : Option Stop). IsJudged words told faults before now other other_stop x refusal text listing name) (sym c)
    (subst (λ (x : Option Refusal). IsJudged words told faults before now other other_stop other_end x text listing name) (sym d)
    (subst (λ (x : List ℕ). IsJudged words told faults before now other other_stop other_end other_refusal x listing name) (sym e)
    (subst (λ (x : List ℕ). IsJudged words told faults before now other other_stop other_end other_refusal other_text x name) (sym f)
    (subst (λ (x : List ℕ). IsJudged words told faults before now other other_stop other_end other_refusal other_text other_listing x) (sym g) h))))))

-- words that ask for nothing
usage : (words : List (List ℕ)) (told : Option Files) (f w : ℕ) (held : Showing) (text : List ℕ) → IsNoCall words → IsJudged words told (the_faults f f w w) held held [] None None (Some Usage) text [] []
usage words told f w held text n = record {
  cause = inl n;
  run = (refl, refl);
  agrees = inr (λ x. cc, λ x. cc);
  ends = tt;
  tells = tt;
  silent = λ x. absurd cc;
  showing = refl;
  named = unnamed words Usage [] refl;
  quiet = λ x y. absurd cc;
}

-- or for which memory ran out
lost : (words : List (List ℕ)) (told : Option Files) (f w : ℕ) (held : Showing) (text : List ℕ) → IsJudged words told (the_faults f f w w) held held [] None None (Some NoMemory) text [] []
lost words told f w held text = record {
  cause = inr (record { hindrance = NoMemory; strikes = tt; shows = refl });
  run = (refl, inl refl);
  agrees = inr (λ x. cc, λ x. cc);
  ends = tt;
  tells = tt;
  silent = λ x. absurd cc;
  showing = refl;
  named = unnamed words NoMemory [] refl;
  quiet = λ x y. absurd cc;
}

pub judged_words : (words : List (List ℕ)) (told : Option Files) (f w : ℕ) (held : Showing) (e : Refusal) (text : List ℕ) → IsMisread (IsNoCall words) e → IsJudged words told (the_faults f f w w) held held [] None None (Some e) text [] []
judged_words words told f w held e text (inl m) = subst (λ (v : Refusal). IsJudged words told (the_faults f f w w) held held [] None None (Some v) text [] []) (sym m.0) (usage words told f w held text m.1)
judged_words words told f w held e text (inr m) = subst (λ (v : Refusal). IsJudged words told (the_faults f f w w) held held [] None None (Some v) text [] []) (sym m) (lost words told f w held text)

-- ---- what is left untouched

-- a check wrote its line, or a write of it failed
pub check_writes : (words : List (List ℕ)) (s : Option Stop) (refusal : Option Refusal) → IsCheck words → (refusal ≡ None) ⊎ (refusal ≡ Some WriteFault) → IsUnwritten words s refusal → ⊥
check_writes words s refusal c (inl e) (none, inl first) = subst ComesFirst e first
check_writes words s refusal c (inr e) (none, inl first) = subst ComesFirst e first
check_writes words s refusal c e (none, inr (other, inl n)) = n c
check_writes words s refusal c (inl e) (none, inr (other, inr p)) = p.0 e
check_writes words s refusal c (inr e) (none, inr (other, inr p)) = p.1 e

-- a replay that wrote nothing was refused before
pub replay_first : (words : List (List ℕ)) (s : Option Stop) (refusal : Option Refusal) → IsReplay words → IsUnwritten words s refusal → ComesFirst refusal
replay_first words s refusal c (none, inl first) = first
replay_first words s refusal c (none, inr p) = absurd (p.0 c)

-- ---- the report

-- what a report speaks of
pub subject : (told : Option Files) (words : List (List ℕ)) (order : List Choice) (stop : Option Stop) (v : Option Refusal) (text s : List ℕ) → IsToldOf told words order stop v text → Speaks words v text s → IsSubject told words order stop v s
subject told words order stop None text s t h = subst (IsEndText told words order stop) (sym h) t
subject told words order stop (Some (Link e)) text s t h = subst (λ (x : List ℕ). Names told words (IsToldText (Link e) x)) (sym h) t
subject told words order stop (Some (Flow e)) text s t h = subst (λ (x : List ℕ). Names told words (IsToldText (Flow e) x)) (sym h) t
subject told words order stop (Some (File k why)) text s t h = h
subject told words order stop (Some (NoFile k)) text s t h = h
subject told words order stop (Some (TooLong k)) text s t h = h
subject told words order stop (Some (ReadFault k)) text s t h = h
subject told words order stop (Some Usage) text s t h = h
subject told words order stop (Some WriteFault) text s t h = h
subject told words order stop (Some NoMemory) text s t h = h
subject told words order stop (Some (BadOrder k)) text s t h = h
subject told words order stop (Some (NotEnabled k)) text s t h = h
subject told words order stop (Some EarlyOrder) text s t h = h

-- ---- a fault of standard error

-- where a replay printed all that some first choices print, it printed a front of that
some_is_front : (words : List (List ℕ)) (told : Option Files) (before now : Showing) → PrintedSome words told before now → PrintedFront words told before now
some_is_front words told before now n =
    let p = n.such.such in
    record {
      asked = n.asked;
      is_call = n.is_call;
      contents = n.contents;
      under = n.under;
      such = record {
        replayed = n.such.replayed;
        is = n.such.is;
        such = record { order = p.order; text = p.text; taken = p.taken; last = p.last; follows = p.follows; written = whole_front before.held now.held p.last.output p.written };
      };
    }

-- so where it printed all that it could
all_is_front : (words : List (List ℕ)) (told : Option Files) (before now : Showing) → PrintedAll words told before now → PrintedFront words told before now
all_is_front words told before now n =
    let p = n.such.such in
    some_is_front words told before now
    (record {
      asked = n.asked;
      is_call = n.is_call;
      contents = n.contents;
      under = n.under;
      such = record {
        replayed = n.such.replayed;
        is = n.such.is;
        such = record { order = p.order; text = p.text; taken = p.taken; last = p.last; follows = p.follows; written = p.written };
      };
    })

-- it changes nothing of what standard output gained
wrote_hidden : (words : List (List ℕ)) (told : Option Files) (before now : Showing) (e : Refusal) → Wrote words told before now (Some e) → Wrote words told before now (Some WriteFault)
wrote_hidden words told before now WriteFault w = w
wrote_hidden words told before now NoMemory (inl same) = inl same
wrote_hidden words told before now NoMemory (inr w) = inr (inr (some_is_front words told before now w))
wrote_hidden words told before now (NotEnabled k) w = inr (inr (all_is_front words told before now w))
wrote_hidden words told before now EarlyOrder w = inr (inr (all_is_front words told before now w))
wrote_hidden words told before now Usage w = inl w
wrote_hidden words told before now (File k why) w = inl w
wrote_hidden words told before now (Link e) w = inl w
wrote_hidden words told before now (Flow e) w = inl w
wrote_hidden words told before now (NoFile k) w = inl w
wrote_hidden words told before now (ReadFault k) w = inl w
wrote_hidden words told before now (TooLong k) w = inl w
wrote_hidden words told before now (BadOrder k) w = inl w

-- of a refusal as it is answered
wrote_answered : (words : List (List ℕ)) (told : Option Files) (before now : Showing) (plain refusal : Option Refusal) → (IsCheck words → plain ≡ None → refusal ≡ None) → (refusal ≡ plain) ⊎ (refusal ≡ Some WriteFault) → Wrote words told before now plain → Wrote words told before now refusal
wrote_answered words told before now plain refusal silent (inl e) w = subst (Wrote words told before now) (sym e) w
wrote_answered words told before now None refusal silent (inr e) (inl w) =
    let check : IsCheck words = (w.files.asked, w.files.is_call, w.files.such.checked.check) in
    subst (Wrote words told before now) (sym (silent check refl)) (inl w)
wrote_answered words told before now None refusal silent (inr e) (inr w) = subst (Wrote words told before now) (sym e) (inr (inr (all_is_front words told before now w)))
wrote_answered words told before now (Some x) refusal silent (inr e) w = subst (Wrote words told before now) (sym e) (wrote_hidden words told before now x w)

-- nor of the order
pub ran_answered : (words : List (List ℕ)) (told : Option Files) (before now : Showing) (order : List Choice) (s : Option Stop) (plain refusal : Option Refusal) → (IsCheck words → plain ≡ None → refusal ≡ None) → (refusal ≡ plain) ⊎ (refusal ≡ Some WriteFault) → Ran words told before now order s plain → Ran words told before now order s refusal
ran_answered words told before now order None plain refusal silent h r = (r.0, wrote_answered words told before now plain refusal silent h r.1)
ran_answered words told before now order (Some s) plain refusal silent h r = r

-- where nothing was written by the refusal as it is answered, so by the plain one
pub unwritten_answered : (words : List (List ℕ)) (s : Option Stop) (plain refusal : Option Refusal) → (refusal ≡ plain) ⊎ (refusal ≡ Some WriteFault) → IsUnwritten words s refusal → IsUnwritten words s plain
unwritten_answered words s plain refusal (inl e) u = subst (IsUnwritten words s) e u
unwritten_answered words s plain refusal (inr e) (none, inl first) = absurd (subst ComesFirst e first)
unwritten_answered words s plain refusal (inr e) (none, inr (other, inl n)) = (none, inr (other, inl n))
unwritten_answered words s plain refusal (inr e) (none, inr (other, inr p)) = absurd (p.1 e)
