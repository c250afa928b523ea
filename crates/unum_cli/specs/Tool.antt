-- What the top call answers, writes and leaves on the desk.
use Rattle.std.specs.Prelude.{◌≡◌, ℕ, ◌<◌, ◌≤◌, ◌⊎◌, Bool, true, false, List, [], Vec, ◌++◌, length, codes, decimal, Option, Some, None, Result, Ok, Err}
use Rattle.std.specs.declared.alloc.Global.{Global}
use Rattle.std.specs.Io.KnownBytes.{Keeps, Appends, IsAtEnd}
use Rattle.unum_io.specs.Told.{TookFront}
use Rattle.asl_read.specs.declared.fault.LRule.TheVariants.{L0}
use Rattle.unum_ir.specs.declared.ir.Ir.{Ir as FlatIr}
use Rattle.unum_ir.specs.WellFormed.{IsWellFormed}
use Rattle.bundle_read.specs.Accepted.{Accepted, IsAccepted, opening_of}
use Rattle.bundle_read.specs.Generated.{generated}
use Rattle.bundle_read.specs.Judged.{judged}
use Rattle.bundle_read.specs.declared.refusal.RuleCode.TheVariants.{Reading}
use Rattle.bundle_read.specs.declared.refusal.Refusal.{Refusal}
use Rattle.bundle_read.specs.declared.refusal.Refusal.TheVariants.{One}
use Rattle.unum_world.specs.declared.opening.Opening.{Opening}
use Rattle.unum_world.specs.Traces.{Trace, IsChosen, IsObeying, IsDrained, IsFull}
use Rattle.unum_world.specs.Answers.{IsEnabledSome}
use Rattle.unum_world.specs.Sound.{IsSound}
use Rattle.unum_cli.specs.declared.commands.Command.{Command}
use Rattle.unum_cli.specs.declared.commands.Command.TheVariants.{Bundle, Ir, Make}
use Rattle.unum_cli.specs.declared.commands.BundleCommand.{BundleCommand}
use Rattle.unum_cli.specs.declared.commands.BundleCommand.TheVariants.{Validate, Compile, Central, Simulate}
use Rattle.unum_cli.specs.declared.answer.Status.{Status}
use Rattle.unum_cli.specs.declared.answer.Status.TheVariants.{Written, Refused, Usage, ReadFault, WriteFault, Spent, NoMemory}
use Rattle.unum_cli.specs.declared.answer.Desk.{Desk}
use Rattle.unum_cli.specs.declared.answer.Desk.TheVariants.{Empty, Open}
use Rattle.unum_cli.specs.declared.taking.TakeError.{TakeError}
use Rattle.unum_cli.specs.declared.taking.TakeError.TheVariants as take
use Rattle.session_report.specs.Report.{report, totals_line}
use Rattle.unum_cli.specs.Central.{all_fit, central_text}
use Rattle.unum_cli.specs.FlatCode.{compiled_text, flat_text, JudgesFlat}
use Rattle.unum_cli.specs.Refused.{refusal_text}
use Rattle.unum_cli.specs.Valid.{valid_text}
use Rattle.unum_cli.specs.Words.{command}

abbrev pub usage_text : List ℕ
usage_text = codes "usage: unum validate | compile | ir | central | simulate | run | make\n"

abbrev pub Bytes : Type 0
Bytes = Vec ℕ Global

-- ---------------------------------------------------------------- what is due

-- who makes the events of a world: the plan's chooser, or workers, as the plan allows
pub data Maker : Type 0 where
  By_chooser : Maker
  By_workers : Maker

-- what is due for some words and bytes: the usage line, a refusal, a text, one that tells all that the limit left room for, the
-- run of an opening to a limit and the text of its world, or what is told of bytes as the text of flat code
pub data Due : Type 0 where
  Usage_due : Due
  Refusal_due : Refusal → Due
  Text_due : List ℕ → Due
  Part_due : List ℕ → Due
  World_due : (told : Trace → List ℕ) → Maker → Opening → (limit : ℕ) → Due
  Flat_due : (bytes : List ℕ) → Due

-- a text that tells all, or all that the limit left room for
abbrev pub text_due : (all : Bool) → List ℕ → Due
text_due true text = Text_due text
text_due false text = Part_due text

-- what a command is to do with a bundle
abbrev pub due_bundle : BundleCommand → Accepted → Due
due_bundle Validate b = Text_due (valid_text b)
due_bundle Compile b = Text_due (compiled_text b)
due_bundle (Central limit) b = text_due (all_fit b limit) (central_text b limit)
due_bundle (Simulate limit) b = World_due report By_chooser (opening_of b) limit

-- the text of `make`
abbrev pub made_text : (sessions : ℕ) → Trace → List ℕ
made_text n p = codes "made " ++ decimal n ++ codes "\n" ++ totals_line p

-- how the world of a generated bundle begins
abbrev pub made_opening : (sessions : ℕ) → Opening
made_opening n = opening_of (generated n)

abbrev pub due_judged : BundleCommand → Result Accepted Refusal → Due
due_judged c (Ok b) = due_bundle c b
due_judged c (Err r) = Refusal_due r

abbrev pub due_bytes : Command → List ℕ → Due
due_bytes (Bundle c) bytes = due_judged c (judged bytes)
due_bytes Ir bytes = Flat_due bytes
due_bytes (Make n) bytes = World_due (made_text n) By_chooser (made_opening n) 1000000

abbrev pub due_words : Option Command → List ℕ → Due
due_words None bytes = Usage_due
due_words (Some c) bytes = due_bytes c bytes

abbrev pub due : List (List ℕ) → List ℕ → Due
due words bytes = due_words (command words) bytes

-- ---------------------------------------------------------------- answers

-- its events were made so
abbrev pub IsMadeBy : Maker → Trace → Type 0
IsMadeBy By_chooser p = IsChosen p
IsMadeBy By_workers p = IsObeying p

-- a world of that opening and limit, whose events were made so
pub record IsWorldOf (maker : Maker) (o : Opening) (limit : ℕ) (p : Trace) : Type 0 where
  pub opening : p.opening ≡ o
  pub limit_is : p.limit ≡ limit
  pub made : IsMadeBy maker p

-- the history is full, and some event is enabled
abbrev pub IsSpent : Trace → Type 0
IsSpent p = IsEnabledSome p × IsFull p

-- the world on the desk, if there is one
abbrev pub OnDesk : Desk → (Trace → Type 0) → Type 0
OnDesk Empty P = ⊥
OnDesk (Open w) P = P w

-- the usage line is written, and nothing is on the desk
abbrev pub AnswersUsage : Status → Desk → (old new : Option (List ℕ)) → Type 0
AnswersUsage Usage desk old new = (desk ≡ Empty) × Appends old new usage_text
AnswersUsage WriteFault desk old new = (desk ≡ Empty) × TookFront old new usage_text
AnswersUsage _ desk old new = ⊥

-- the refusal is written, and nothing is on the desk
abbrev pub AnswersRefusal : Refusal → Status → Desk → (old new : Option (List ℕ)) → Type 0
AnswersRefusal due (Refused r) desk old new = (r ≡ due) × (desk ≡ Empty) × Appends old new (refusal_text due)
AnswersRefusal due WriteFault desk old new = (desk ≡ Empty) × TookFront old new (refusal_text due)
AnswersRefusal due ReadFault desk old new = (desk ≡ Empty) × Keeps old new
AnswersRefusal due NoMemory desk old new = (desk ≡ Empty) × Keeps old new
AnswersRefusal due _ desk old new = ⊥

-- why nothing was taken is told, and nothing is on the desk
abbrev pub AnswersUntaken : TakeError → Status → Desk → (old new : Option (List ℕ)) → Type 0
AnswersUntaken (take.Refused r) status desk old new = AnswersRefusal r status desk old new
AnswersUntaken take.Fault status desk old new = (status ≡ ReadFault) × (desk ≡ Empty) × Keeps old new
AnswersUntaken take.NoMemory status desk old new = (status ≡ NoMemory) × (desk ≡ Empty) × Keeps old new

-- the text is written, and nothing is on the desk
abbrev pub AnswersText : List ℕ → Status → Desk → (old new : Option (List ℕ)) → Type 0
AnswersText text Written desk old new = (desk ≡ Empty) × Appends old new text
AnswersText text WriteFault desk old new = (desk ≡ Empty) × TookFront old new text
AnswersText text ReadFault desk old new = (desk ≡ Empty) × Keeps old new
AnswersText text NoMemory desk old new = (desk ≡ Empty) × Keeps old new
AnswersText text _ desk old new = ⊥

-- the text is written, of which the limit was spent, and nothing is on the desk
abbrev pub AnswersPart : List ℕ → Status → Desk → (old new : Option (List ℕ)) → Type 0
AnswersPart text Spent desk old new = (desk ≡ Empty) × Appends old new text
AnswersPart text WriteFault desk old new = (desk ≡ Empty) × TookFront old new text
AnswersPart text ReadFault desk old new = (desk ≡ Empty) × Keeps old new
AnswersPart text NoMemory desk old new = (desk ≡ Empty) × Keeps old new
AnswersPart text _ desk old new = ⊥

-- the world is on the desk, drained or at its limit, and what is told of it is written
abbrev pub AnswersWorld : (told : Trace → List ℕ) → Maker → Opening → (limit : ℕ) → Status → Desk → (old new : Option (List ℕ)) → Type 0
AnswersWorld told maker o limit Written desk old new = OnDesk desk (λ p. IsWorldOf maker o limit p × IsDrained p × Appends old new (told p))
AnswersWorld told maker o limit Spent desk old new = OnDesk desk (λ p. IsWorldOf maker o limit p × IsSpent p × Appends old new (told p))
AnswersWorld told maker o limit WriteFault desk old new =
    OnDesk desk (λ p. IsWorldOf maker o limit p × (IsDrained p ⊎ IsSpent p) × TookFront old new (told p))
AnswersWorld told maker o limit ReadFault desk old new = (desk ≡ Empty) × Keeps old new
AnswersWorld told maker o limit NoMemory desk old new = ((desk ≡ Empty) ⊎ OnDesk desk (λ p. IsWorldOf maker o limit p)) × Keeps old new
AnswersWorld told maker o limit _ desk old new = ⊥

-- what is told of flat code that was judged so
abbrev pub AnswersJudged : Result FlatIr Refusal → Status → Desk → (old new : Option (List ℕ)) → Type 0
AnswersJudged (Ok ir) status desk old new = AnswersText (flat_text ir) status desk old new
AnswersJudged (Err r) status desk old new = AnswersRefusal r status desk old new

-- the bytes are judged and that is told, or nothing is, and nothing is on the desk
abbrev pub AnswersFlat : (bytes : List ℕ) → Status → Desk → (old new : Option (List ℕ)) → Type 0
AnswersFlat bytes ReadFault desk old new = (desk ≡ Empty) × Keeps old new
AnswersFlat bytes NoMemory desk old new = (desk ≡ Empty) × Keeps old new
AnswersFlat bytes status desk old new = (made : Result FlatIr Refusal) × JudgesFlat made bytes × AnswersJudged made status desk old new

-- an answer, the desk and the bytes taken before and after are what is due, or a fault or want of memory came between
abbrev pub Answers : Due → Status → Desk → (old new : Option (List ℕ)) → Type 0
Answers Usage_due status desk old new = AnswersUsage status desk old new
Answers (Refusal_due r) status desk old new = AnswersRefusal r status desk old new
Answers (Text_due text) status desk old new = AnswersText text status desk old new
Answers (Part_due text) status desk old new = AnswersPart text status desk old new
Answers (World_due told maker o limit) status desk old new = AnswersWorld told maker o limit status desk old new
Answers (Flat_due bytes) status desk old new = AnswersFlat bytes status desk old new

-- ---------------------------------------------------------------- whatever the bytes were

-- what is written of a bundle or of a world, of which the command is not asked to tell from what bytes it came
abbrev pub ShowsDone : Option Command → Status → Desk → (old new : Option (List ℕ)) → Type 0
ShowsDone (Some (Bundle Validate)) Written desk old new = (desk ≡ Empty) × ((b : Accepted) × IsAccepted b × Appends old new (valid_text b))
ShowsDone (Some (Bundle Compile)) Written desk old new =
    (desk ≡ Empty) × ((b : Accepted) × IsAccepted b × Appends old new (compiled_text b))
ShowsDone (Some (Bundle (Central limit))) Written desk old new =
    (desk ≡ Empty) × ((b : Accepted) × IsAccepted b × (all_fit b limit ≡ true) × Appends old new (central_text b limit))
ShowsDone (Some (Bundle (Central limit))) Spent desk old new =
    (desk ≡ Empty) × ((b : Accepted) × IsAccepted b × (all_fit b limit ≡ false) × Appends old new (central_text b limit))
ShowsDone (Some Ir) Written desk old new = (desk ≡ Empty) × ((ir : FlatIr) × IsWellFormed ir × Appends old new (flat_text ir))
ShowsDone (Some (Bundle (Simulate limit))) Written desk old new =
    OnDesk desk (λ p. (p.limit ≡ limit) × IsChosen p × IsDrained p × Appends old new (report p))
ShowsDone (Some (Bundle (Simulate limit))) Spent desk old new =
    OnDesk desk (λ p. (p.limit ≡ limit) × IsChosen p × IsSpent p × Appends old new (report p))
ShowsDone (Some (Make n)) Written desk old new =
    OnDesk desk (λ p. IsWorldOf By_chooser (made_opening n) 1000000 p × IsDrained p × Appends old new (made_text n p))
ShowsDone (Some (Make n)) Spent desk old new =
    OnDesk desk (λ p. IsWorldOf By_chooser (made_opening n) 1000000 p × IsSpent p × Appends old new (made_text n p))
ShowsDone c status desk old new = ⊥

-- what is shown where all is done, or the limit was spent
abbrev pub Done : Type 1
Done = Status → Desk → (old new : Option (List ℕ)) → Type 0

-- The text that is written is the one of the answer. After a refusal, the usage line and a read fault the desk is empty, and
-- after a read fault and want of memory nothing was written.
abbrev pub ShowsOr : Done → Status → Desk → (old new : Option (List ℕ)) → Type 0
ShowsOr done Written desk old new = done Written desk old new
ShowsOr done Spent desk old new = done Spent desk old new
ShowsOr done (Refused r) desk old new = (desk ≡ Empty) × Appends old new (refusal_text r)
ShowsOr done Usage desk old new = (desk ≡ Empty) × Appends old new usage_text
ShowsOr done ReadFault desk old new = (desk ≡ Empty) × Keeps old new
ShowsOr done NoMemory desk old new = Keeps old new
ShowsOr done WriteFault desk old new = Unit {0}

-- so of a command
abbrev pub Shows : Option Command → Status → Desk → (old new : Option (List ℕ)) → Type 0
Shows c = ShowsOr (ShowsDone c)

-- Every checkpoint of the world on the desk, if there is one, belongs to one central run of its session, and so on.
unfoldable pub HoldsSound : Desk → Type 0
HoldsSound Empty = Unit {0}
HoldsSound (Open w) = IsSound w

-- the answers that come once a bundle was read
abbrev pub IsOfBundle : Status → Type 0
IsOfBundle Usage = ⊥
IsOfBundle ReadFault = ⊥
IsOfBundle _ = Unit {0}

-- L0 may come before the end
abbrev pub EndsAfter : Refusal → Option (List ℕ) → Type 0
EndsAfter (One (Reading L0) at) left = Unit {0}
EndsAfter _ left = IsAtEnd left

-- with these answers the source was read to its end
abbrev pub EndsRead : Status → Option (List ℕ) → Type 0
EndsRead Written left = IsAtEnd left
EndsRead Spent left = IsAtEnd left
EndsRead (Refused r) left = EndsAfter r left
EndsRead _ left = Unit {0}

-- `make` reads nothing
abbrev pub ReadsAll : Option Command → Status → Option (List ℕ) → Type 0
ReadsAll (Some (Make n)) status left = Unit {0}
ReadsAll c status left = EndsRead status left

abbrev pub ReadsNothing : Option Command → Type 0
ReadsNothing (Some (Make n)) = Unit {0}
ReadsNothing c = ⊥

-- what a reader of what was judged answers, unless a read fails or memory runs out
abbrev pub Takes : {A : Type 0} → Result A TakeError → Result A Refusal → Type 0
Takes (Ok x) due = due ≡ Ok x
Takes (Err (take.Refused r)) due = due ≡ Err r
Takes (Err _) due = Unit {0}

-- the same of flat code, where what is judged is a relation
abbrev pub TakesFlat : Result FlatIr TakeError → (Result FlatIr Refusal → Type 0) → Type 0
TakesFlat (Ok ir) Judges = Judges (Ok ir)
TakesFlat (Err (take.Refused r)) Judges = Judges (Err r)
TakesFlat (Err _) Judges = Unit {0}

-- what a reader of all bytes answers: these bytes, or that they are more than a text may have
abbrev pub TakesBytes : Result Bytes TakeError → List ℕ → Type 0
TakesBytes (Ok taken) bytes = (taken.items ≡ bytes) × (length bytes ≤ 4194304)
TakesBytes (Err (take.Refused r)) bytes = (r ≡ One (Reading L0) []) × (4194304 < length bytes)
TakesBytes (Err _) bytes = Unit {0}

-- with these answers it has read the source to its end
abbrev pub TakesAll : {A : Type 0} → Result A TakeError → Option (List ℕ) → Type 0
TakesAll (Ok x) left = IsAtEnd left
TakesAll (Err (take.Refused r)) left = EndsAfter r left
TakesAll (Err _) left = Unit {0}

-- the text was taken, or a front of it and the answer is a fault
abbrev pub Wrote : (old new : Option (List ℕ)) → List ℕ → (status result : Status) → Type 0
Wrote old new text status result = ((result ≡ status) × Appends old new text) ⊎ ((result ≡ WriteFault) × TookFront old new text)
