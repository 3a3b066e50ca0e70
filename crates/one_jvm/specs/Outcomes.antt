-- Statuses and reports.
use Rattle.std.specs.Prelude.{ℕ, Bool, true, false, codes, decimal, filter, length, map, List, [], ◌∷◌, ◌++◌, slice_get, Option, Some, None}
use Rattle.std.specs.List.{flat_map, sum_by}
use Rattle.jvm_base.specs.Text.{text_bytes}
use Rattle.jvm_base.specs.Words.{from}
use Rattle.jvm_base.specs.declared.value.Uncaught.{Uncaught}
use Rattle.boot_table.specs.Files.{boot_files}
use Rattle.class_format.specs.declared.class.ClassFile.{ClassFile}
use Rattle.class_format.specs.declared.class.MethodItem.{MethodItem}
use Rattle.class_names.specs.Classes.{this_name}
use Rattle.code_table.specs.Reasons as code
use Rattle.link_rules.specs.declared.error.LinkErr.{LinkErr}
use Rattle.link_rules.specs.declared.error.LinkErr.TheVariants.{Code, Bad, NoMemory}
use Rattle.link_rules.specs.Members.{method_name, method_desc}
use Rattle.link_rules.specs.Reasons.{why_text}
use Rattle.class_file.specs.Reasons.{reason}
use Rattle.program_image.specs.Program.{Program}
use Rattle.flow_verifier.specs.Reasons.{broken_rule_text}
use Rattle.flow_verifier.specs.declared.answer.FlowErr.{FlowErr}
use Rattle.one_jvm.specs.declared.outcome.Stop.{Stop}
use Rattle.one_jvm.specs.declared.outcome.Stop.TheVariants as stop
use Rattle.one_jvm.specs.declared.outcome.Refusal.{Refusal}
use Rattle.one_jvm.specs.declared.outcome.Refusal.TheVariants.{Usage, File, Link, Flow, NoFile, ReadFault, WriteFault, TooLong, BadOrder, NotEnabled, EarlyOrder}
use Rattle.one_jvm.specs.declared.outcome.Refusal.TheVariants as refusals

-- the exit status of a refusal; 0 where there is none
abbrev pub status_of : Option Refusal → ℕ
status_of None = 0
status_of (Some Usage) = 2
status_of (Some (File k why)) = 3
status_of (Some (Link e)) = 3
status_of (Some (Flow e)) = 3
status_of (Some (NoFile k)) = 4
status_of (Some (ReadFault k)) = 5
status_of (Some WriteFault) = 6
status_of (Some (TooLong k)) = 11
status_of (Some (BadOrder line)) = 12
status_of (Some (NotEnabled number)) = 12
status_of (Some EarlyOrder) = 13
status_of (Some refusals.NoMemory) = 20

-- the exit status of a call that isn't refused: that of the end of its run or replay
abbrev pub end_status : Option Stop → ℕ
end_status None = 0
end_status (Some stop.Done) = 0
end_status (Some stop.Uncaught) = 1
end_status (Some (stop.StepLimit t)) = 8
end_status (Some stop.Deadlock) = 9
end_status (Some (stop.ThreadsFull t)) = 10
end_status (Some stop.WriteFault) = 6
end_status (Some stop.NoMemory) = 20

-- the exit status of a call
abbrev pub outcome_status : Option Stop → Option Refusal → ℕ
outcome_status stop None = end_status stop
outcome_status stop (Some e) = status_of (Some e)

-- the place of the file that a refusal names
abbrev pub place_of : Refusal → Option ℕ
place_of (File k why) = Some k
place_of (NoFile k) = Some k
place_of (ReadFault k) = Some k
place_of (TooLong k) = Some k
place_of _ = None

-- ---- what is told of class files

-- a text behind a space; an empty one has none
abbrev pub behind_space : List ℕ → List ℕ
behind_space [] = []
behind_space (u ∷ us) = codes " " ++ text_bytes (u ∷ us)

-- a method's name, followed by its descriptor
abbrev pub member_text : ClassFile → MethodItem → List ℕ
member_text f m = text_bytes (method_name f m) ++ text_bytes (method_desc f m)

-- a method of a class, by its place
abbrev pub method_text : ℕ → ClassFile → List ℕ
method_text method f =
    text_bytes (this_name f) ++ codes " " ++ from [] (member_text f) (slice_get f.methods method)

-- a method with its class
abbrev pub whole_text : ClassFile → MethodItem → List ℕ
whole_text f m = text_bytes (this_name f) ++ codes " " ++ member_text f m

-- each method of a class so
abbrev pub method_texts : ClassFile → List (List ℕ)
method_texts f = map (whole_text f) f.methods

-- what is refused, and why; texts are written in modified UTF-8 (JVMS2 4.4.7)
abbrev pub link_text : List ClassFile → LinkErr → List ℕ
link_text classes (Code class method why) =
    from [] (method_text method) (slice_get classes class) ++ codes " code " ++ code.reason why
link_text classes (Bad why class other) =
    text_bytes class ++ codes " link " ++ why_text why ++ behind_space other
link_text classes NoMemory = []

-- the method of a number; methods are numbered from those of the boot classes on
abbrev pub numbered_text : List ClassFile → ℕ → List ℕ
numbered_text classes number =
    from [] (λ text. text) (slice_get (flat_map method_texts (boot_files ++ classes)) number)

-- the method without a typing, and the rule that it breaks
abbrev pub flow_text : List ClassFile → FlowErr → List ℕ
flow_text classes e = numbered_text classes e.method ++ codes " " ++ broken_rule_text e

-- what a refusal tells of class files
abbrev pub told_text : List ClassFile → Refusal → List ℕ
told_text classes (Link e) = link_text classes e
told_text classes (Flow e) = flow_text classes e
told_text classes _ = []

-- a method has code
abbrev pub has_code : MethodItem → Bool
has_code m = from false (λ c. true) m.code

-- how many methods of a class have code
abbrev pub coded_methods : ClassFile → ℕ
coded_methods f = length (filter has_code f.methods)

-- the line for accepted class files
abbrev pub accepted_text : List ClassFile → List ℕ
accepted_text classes =
    codes "accepted " ++ decimal (length classes)
    ++ (codes " classes " ++ decimal (sum_by coded_methods classes) ++ (codes " methods" ++ 10 ∷ []))

-- ---- what is told of the end of a run or of a replay

-- the name of the class of a number, as its file has it
abbrev pub class_text : Program → ℕ → List ℕ
class_text p class = from [] (λ c. text_bytes c.name) (slice_get p.classes class)

-- the line of an exception that nothing caught
abbrev pub uncaught_text : Program → Uncaught → List ℕ
uncaught_text p u =
    codes "uncaught " ++ decimal u.thread ++ codes " " ++ class_text p u.class ++ 10 ∷ []

-- the line of a run that ended before its threads did
abbrev pub stop_text : Stop → List ℕ
stop_text (stop.StepLimit t) = codes "cjvm: step limit thread " ++ decimal t ++ 10 ∷ []
stop_text stop.Deadlock = codes "cjvm: deadlock" ++ 10 ∷ []
stop_text (stop.ThreadsFull t) = codes "cjvm: threads full" ++ 10 ∷ []
stop_text _ = []

-- all of these lines
abbrev pub ending_text : Program → Stop → List Uncaught → List ℕ
ending_text p stop uncaught = flat_map (uncaught_text p) uncaught ++ stop_text stop

-- ---- the report

-- what is written to standard error; the subject is the name of the file at the refusal's place,
-- what a refusal tells of class files, or what the end of a run tells
abbrev pub report : List ℕ → Option Refusal → List ℕ
report subject None = subject
report subject (Some Usage) = codes "cjvm: usage" ++ 10 ∷ []
report subject (Some (File k why)) =
    codes "cjvm: refused " ++ subject ++ codes " " ++ (reason why ++ 10 ∷ [])
report subject (Some (Link e)) = codes "cjvm: refused " ++ subject ++ 10 ∷ []
report subject (Some (Flow e)) = codes "cjvm: refused " ++ subject ++ 10 ∷ []
report subject (Some (NoFile k)) = codes "cjvm: no file " ++ subject ++ 10 ∷ []
report subject (Some (ReadFault k)) = codes "cjvm: read fault " ++ subject ++ 10 ∷ []
report subject (Some WriteFault) = codes "cjvm: write fault" ++ 10 ∷ []
report subject (Some (TooLong k)) = codes "cjvm: file too long " ++ subject ++ 10 ∷ []
report subject (Some (BadOrder line)) = codes "cjvm: bad order line " ++ decimal line ++ 10 ∷ []
report subject (Some (NotEnabled number)) =
    codes "cjvm: step " ++ decimal number ++ (codes " not enabled" ++ 10 ∷ [])
report subject (Some EarlyOrder) = codes "cjvm: order ended early" ++ 10 ∷ []
report subject (Some refusals.NoMemory) = codes "cjvm: want of memory" ++ 10 ∷ []
