-- What is due for the words and the bytes, and what an answer to it shows.
use Rattle.std.proofs.Common.{◌≡◌, ℕ, ◌<◌, ◌⊎◌, inl, inr, Bool, true, false, List, [], length, Option, Some, None, Err, Ok, Result, IfSome, refl, sym, ap, subst, ◌∙◌, length-append, arith}
use Rattle.std.specs.Io.KnownBytes.{Keeps, Appends, IsAtEnd}
use Rattle.unum_io.specs.Told.{TookFront}
use Rattle.std.proofs.lemmas.Bool.{lt-ltb}
use Rattle.unum_io.specs.Told.{GaveMore}
use Rattle.asl_read.specs.declared.fault.LRule.TheVariants as lrule
use Rattle.unum_ir.specs.declared.ir.Ir.{Ir}
use Rattle.unum_ir.specs.WellFormed.{IsWellFormed}
use Rattle.bundle_read.specs.Accepted.{Accepted, IsAccepted, opening_of}
use Rattle.bundle_read.specs.Judged.{judged}
use Rattle.bundle_read.specs.declared.refusal.RuleCode.TheVariants as code
use Rattle.bundle_read.specs.declared.refusal.Refusal.{Refusal}
use Rattle.bundle_read.specs.declared.refusal.Refusal.TheVariants.{One, Many}
use Rattle.unum_world.specs.declared.opening.Opening.{Opening}
use Rattle.unum_world.specs.Traces.{Trace, IsChosen, IsObeying, IsDrained}
use Rattle.unum_cli.specs.declared.answer.Desk.{Desk}
use Rattle.unum_cli.specs.declared.answer.Desk.TheVariants.{Empty, Open}
use Rattle.unum_cli.specs.declared.answer.Status.{Status}
use Rattle.unum_cli.specs.declared.answer.Status.TheVariants.{Written, Refused, Usage, ReadFault, WriteFault, Spent, NoMemory}
use Rattle.unum_cli.specs.declared.commands.Command.{Command}
use Rattle.unum_cli.specs.declared.commands.Command.TheVariants as command
use Rattle.unum_cli.specs.declared.commands.BundleCommand.{BundleCommand}
use Rattle.unum_cli.specs.declared.commands.BundleCommand.TheVariants.{Validate, Compile, Central, Simulate}
use Rattle.unum_cli.specs.declared.taking.TakeError.{TakeError}
use Rattle.unum_cli.specs.declared.taking.TakeError.TheVariants as take
use Rattle.unum_cli.specs.Central.{all_fit, central_text}
use Rattle.unum_cli.specs.FlatCode.{compiled_text, flat_text, JudgesFlat, JudgesBytes}
use Rattle.unum_cli.specs.Refused.{refusal_text}
use Rattle.session_report.specs.Report.{report}
use Rattle.unum_cli.specs.Valid.{valid_text}
use Rattle.unum_cli.specs.Words.{simulation}
use Rattle.unum_cli.specs.declared.commands.RunOptions.{RunOptions}
use Rattle.unum_cli.specs.Run.{due_run_judged, ShowsRun, ShowsRunDone}
use Rattle.unum_cli.specs.Tool.{Maker, By_chooser, By_workers, Done, ShowsOr, ShowsDone, due_bundle, due_words, made_opening, made_text, text_due, Answers, AnswersPart, AnswersRefusal, AnswersText, AnswersUntaken, AnswersUsage, AnswersWorld, EndsAfter, EndsRead, HoldsSound, OnDesk, Shows, Takes, TakesAll, TakesBytes, TakesFlat, AnswersFlat, AnswersJudged, IsMadeBy, IsSpent, IsWorldOf, Wrote, due_judged}

pub each_some : {T : Type 0} (o : Option T) (P : T → Type 0) → ((x : T) → o ≡ Some x → P x) → IfSome o P
each_some None P h = tt
each_some (Some x) P h = h x refl

more : (bytes : List ℕ) (new : Option (List ℕ)) (max : ℕ) → GaveMore (Some bytes) new max → max < length bytes
more bytes None max h = absurd h.told
more bytes (Some rest) max h = omega (arith, ap length h.told, length-append h.given rest, h.more)

-- more bytes than a text may have were given
pub gave_more : (left new : Option (List ℕ)) (bytes : List ℕ) → left ≡ Some bytes → GaveMore left new 4194304 → 4194304 < length bytes
gave_more left new bytes e h = more bytes new 4194304 (subst (λ o. GaveMore o new 4194304) e h)

pub too_long : (bytes : List ℕ) → 4194304 < length bytes → judged bytes ≡ Err (One (code.Reading lrule.L0) [])
unfolding judged
too_long bytes h = rw (lt-ltb 4194304 (length bytes) h) refl

pub too_long_flat : (bytes : List ℕ) → 4194304 < length bytes → JudgesFlat (Err (One (code.Reading lrule.L0) [])) bytes
unfolding JudgesFlat
too_long_flat bytes h = subst (λ b. JudgesBytes b (Err (One (code.Reading lrule.L0) [])) bytes) (sym (lt-ltb 4194304 (length bytes) h)) refl

-- what is said of bytes that were not taken holds of what they are judged to be
pub untaken_bytes : (e : TakeError) (bytes : List ℕ) → TakesBytes (Err e) bytes → Takes (Err e) (judged bytes)
untaken_bytes (take.Refused r) bytes h = too_long bytes h.1 ∙ ap (λ (x : Refusal). let made : Result Accepted Refusal = Err x in made) (sym h.0)
untaken_bytes take.Fault bytes h = tt
untaken_bytes take.NoMemory bytes h = tt

pub untaken_flat_bytes : (e : TakeError) (bytes : List ℕ) → TakesBytes (Err e) bytes → TakesFlat (Err e) (λ made. JudgesFlat made bytes)
untaken_flat_bytes (take.Refused r) bytes h = subst (λ (x : Refusal). JudgesFlat (Err x) bytes) (sym h.0) (too_long_flat bytes h.1)
untaken_flat_bytes take.Fault bytes h = tt
untaken_flat_bytes take.NoMemory bytes h = tt

pub some_more : {T : Type 0} (o : Option T) (P Q : T → Type 0) → ((x : T) → P x → Q x) → IfSome o P → IfSome o Q
some_more None P Q f h = tt
some_more (Some x) P Q f h = f x h

-- nothing is on the desk
pub empty_sound : (d : Desk) → d ≡ Empty → HoldsSound d
unfolding HoldsSound
empty_sound d e = subst HoldsSound (sym e) tt

-- ---------------------------------------------------------------- what an answer shows

usage_tells : (done : Done) (status : Status) (desk : Desk) (old new : Option (List ℕ)) → AnswersUsage status desk old new → ShowsOr done status desk old new
usage_tells done Usage desk old new h = h
usage_tells done WriteFault desk old new h = tt
usage_tells done Written desk old new h = absurd h
usage_tells done (Refused r) desk old new h = absurd h
usage_tells done ReadFault desk old new h = absurd h
usage_tells done Spent desk old new h = absurd h
usage_tells done NoMemory desk old new h = absurd h

pub usage_shows : (c : Option Command) (status : Status) (desk : Desk) (old new : Option (List ℕ)) → AnswersUsage status desk old new → Shows c status desk old new
usage_shows c = usage_tells (ShowsDone c)

pub usage_shows_run : (o : Option RunOptions) (status : Status) (desk : Desk) (old new : Option (List ℕ)) → AnswersUsage status desk old new → ShowsRun o status desk old new
usage_shows_run o = usage_tells (ShowsRunDone o)

refusal_tells : (done : Done) (r : Refusal) (status : Status) (desk : Desk) (old new : Option (List ℕ)) → AnswersRefusal r status desk old new → ShowsOr done status desk old new
refusal_tells done r (Refused s) desk old new h = (h.1, subst (λ t. Appends old new (refusal_text t)) (sym h.0) h.2)
refusal_tells done r WriteFault desk old new h = tt
refusal_tells done r ReadFault desk old new h = h
refusal_tells done r NoMemory desk old new h = h.1
refusal_tells done r Written desk old new h = absurd h
refusal_tells done r Usage desk old new h = absurd h
refusal_tells done r Spent desk old new h = absurd h

told_shows : (done : Done) (text : List ℕ) → ((desk : Desk) (old new : Option (List ℕ)) → desk ≡ Empty → Appends old new text → done Written desk old new)
    → (status : Status) (desk : Desk) (old new : Option (List ℕ)) → AnswersText text status desk old new → ShowsOr done status desk old new
told_shows done text shown Written desk old new h = shown desk old new h.0 h.1
told_shows done text shown WriteFault desk old new h = tt
told_shows done text shown ReadFault desk old new h = h
told_shows done text shown NoMemory desk old new h = h.1
told_shows done text shown (Refused r) desk old new h = absurd h
told_shows done text shown Usage desk old new h = absurd h
told_shows done text shown Spent desk old new h = absurd h

pub flat_shows : (ir : Ir) → IsWellFormed ir → (status : Status) (desk : Desk) (old new : Option (List ℕ)) → AnswersText (flat_text ir) status desk old new → Shows (Some command.Ir) status desk old new
flat_shows ir is status desk old new h = told_shows (ShowsDone (Some command.Ir)) (flat_text ir) (λ d o n e a. (e, (ir, is, a))) status desk old new h

part_shows : (done : Done) (text : List ℕ) → ((desk : Desk) (old new : Option (List ℕ)) → desk ≡ Empty → Appends old new text → done Spent desk old new)
    → (status : Status) (desk : Desk) (old new : Option (List ℕ)) → AnswersPart text status desk old new → ShowsOr done status desk old new
part_shows done text shown Spent desk old new h = shown desk old new h.0 h.1
part_shows done text shown WriteFault desk old new h = tt
part_shows done text shown ReadFault desk old new h = h
part_shows done text shown NoMemory desk old new h = h.1
part_shows done text shown Written desk old new h = absurd h
part_shows done text shown (Refused r) desk old new h = absurd h
part_shows done text shown Usage desk old new h = absurd h

central_shows : (limit : ℕ) (b : Accepted) → IsAccepted b → (all : Bool) → all_fit b limit ≡ all → (status : Status) (desk : Desk) (old new : Option (List ℕ)) → Answers (text_due all (central_text b limit)) status desk old new
    → Shows (Some (command.Bundle (Central limit))) status desk old new
central_shows limit b is true fit status desk old new h = told_shows (ShowsDone (Some (command.Bundle (Central limit)))) (central_text b limit) (λ d o n e a. (e, (b, is, fit, a))) status desk old new h
central_shows limit b is false fit status desk old new h = part_shows (ShowsDone (Some (command.Bundle (Central limit)))) (central_text b limit) (λ d o n e a. (e, (b, is, fit, a))) status desk old new h

world_shows : (o : Opening) (limit : ℕ) (status : Status) (desk : Desk) (old new : Option (List ℕ)) → AnswersWorld report By_chooser o limit status desk old new → Shows (Some (simulation limit)) status desk old new
world_shows o limit Written Empty old new h = absurd h
world_shows o limit Written (Open w) old new h = (h.0.limit_is, h.0.made, h.1, h.2)
world_shows o limit Spent Empty old new h = absurd h
world_shows o limit Spent (Open w) old new h = (h.0.limit_is, h.0.made, h.1, h.2)
world_shows o limit WriteFault desk old new h = tt
world_shows o limit ReadFault desk old new h = h
world_shows o limit NoMemory desk old new h = h.1
world_shows o limit (Refused r) desk old new h = absurd h
world_shows o limit Usage desk old new h = absurd h

pub run_shows : (r : RunOptions) (o : Opening) (status : Status) (desk : Desk) (old new : Option (List ℕ)) → AnswersWorld report By_workers o r.limit status desk old new → ShowsRun (Some r) status desk old new
run_shows r o Written Empty old new h = absurd h
run_shows r o Written (Open w) old new h = (h.0.limit_is, h.0.made, h.1, h.2)
run_shows r o Spent Empty old new h = absurd h
run_shows r o Spent (Open w) old new h = (h.0.limit_is, h.0.made, h.1, h.2)
run_shows r o WriteFault desk old new h = tt
run_shows r o ReadFault desk old new h = h
run_shows r o NoMemory desk old new h = h.1
run_shows r o (Refused s) desk old new h = absurd h
run_shows r o Usage desk old new h = absurd h

pub made_shows : (n : ℕ) (status : Status) (desk : Desk) (old new : Option (List ℕ)) → AnswersWorld (made_text n) By_chooser (made_opening n) 1000000 status desk old new → Shows (Some (command.Make n)) status desk old new
made_shows n Written desk old new h = h
made_shows n Spent desk old new h = h
made_shows n WriteFault desk old new h = tt
made_shows n ReadFault desk old new h = h
made_shows n NoMemory desk old new h = h.1
made_shows n (Refused r) desk old new h = absurd h
made_shows n Usage desk old new h = absurd h

-- whatever the bytes are
pub made_due : (n : ℕ) (left : Option (List ℕ)) (status : Status) (desk : Desk) (old new : Option (List ℕ)) → AnswersWorld (made_text n) By_chooser (made_opening n) 1000000 status desk old new
    → IfSome left (λ bytes. Answers (due_words (Some (command.Make n)) bytes) status desk old new)
made_due n None status desk old new h = tt
made_due n (Some bytes) status desk old new h = h

pub bundle_shows : (c : BundleCommand) (b : Accepted) → IsAccepted b → (status : Status) (desk : Desk) (old new : Option (List ℕ)) → Answers (due_bundle c b) status desk old new → Shows (Some (command.Bundle c)) status desk old new
bundle_shows Validate b is status desk old new h = told_shows (ShowsDone (Some (command.Bundle Validate))) (valid_text b) (λ d o n e a. (e, (b, is, a))) status desk old new h
bundle_shows Compile b is status desk old new h = told_shows (ShowsDone (Some (command.Bundle Compile))) (compiled_text b) (λ d o n e a. (e, (b, is, a))) status desk old new h
bundle_shows (Central limit) b is status desk old new h = central_shows limit b is (all_fit b limit) refl status desk old new h
bundle_shows (Simulate limit) b is status desk old new h = world_shows (opening_of b) limit status desk old new h

-- ---------------------------------------------------------------- the end of the source

ends_after : (r : Refusal) (left : Option (List ℕ)) → IsAtEnd left → EndsAfter r left
ends_after (One (code.Reading lrule.L0) at) left h = tt
ends_after (One (code.Reading lrule.L1) at) left h = h
ends_after (One (code.Reading lrule.L2) at) left h = h
ends_after (One (code.Reading lrule.L3) at) left h = h
ends_after (One (code.Reading lrule.L4) at) left h = h
ends_after (One (code.Reading lrule.L5) at) left h = h
ends_after (One (code.Reading lrule.L6) at) left h = h
ends_after (One (code.Reading lrule.L7) at) left h = h
ends_after (One (code.Reading lrule.L8) at) left h = h
ends_after (One (code.Bundle rule) at) left h = h
ends_after (One (code.Flat rule) at) left h = h
ends_after (Many pairs) left h = h

-- the source was read to its end before
pub ends_read : (status : Status) (left : Option (List ℕ)) → IsAtEnd left → EndsRead status left
ends_read Written left h = h
ends_read Spent left h = h
ends_read (Refused r) left h = ends_after r left h
ends_read Usage left h = tt
ends_read ReadFault left h = tt
ends_read WriteFault left h = tt
ends_read NoMemory left h = tt

-- a refusal of what was read
pub refusal_ends : (r : Refusal) (status : Status) (desk : Desk) (old new left : Option (List ℕ)) → AnswersRefusal r status desk old new → EndsAfter r left → EndsRead status left
refusal_ends r (Refused s) desk old new left h e = subst (λ t. EndsAfter t left) (sym h.0) e
refusal_ends r WriteFault desk old new left h e = tt
refusal_ends r ReadFault desk old new left h e = tt
refusal_ends r NoMemory desk old new left h e = tt
refusal_ends r Written desk old new left h e = absurd h
refusal_ends r Usage desk old new left h e = absurd h
refusal_ends r Spent desk old new left h e = absurd h

-- ---------------------------------------------------------------- where nothing was taken

-- whatever is due, a read fault and want of memory may come before it
untaken_due : (r : Refusal) (status : Status) (desk : Desk) (old new : Option (List ℕ)) → (status ≡ ReadFault) ⊎ (status ≡ NoMemory) → desk ≡ Empty → Keeps old new → AnswersRefusal r status desk old new
untaken_due r status desk old new (inl e) d k = subst (λ s. AnswersRefusal r s desk old new) (sym e) (d, k)
untaken_due r status desk old new (inr e) d k = subst (λ s. AnswersRefusal r s desk old new) (sym e) (d, k)

untaken_text : (text : List ℕ) (status : Status) (desk : Desk) (old new : Option (List ℕ)) → (status ≡ ReadFault) ⊎ (status ≡ NoMemory) → desk ≡ Empty → Keeps old new → AnswersText text status desk old new
untaken_text text status desk old new (inl e) d k = subst (λ s. AnswersText text s desk old new) (sym e) (d, k)
untaken_text text status desk old new (inr e) d k = subst (λ s. AnswersText text s desk old new) (sym e) (d, k)

untaken_part : (text : List ℕ) (status : Status) (desk : Desk) (old new : Option (List ℕ)) → (status ≡ ReadFault) ⊎ (status ≡ NoMemory) → desk ≡ Empty → Keeps old new → AnswersPart text status desk old new
untaken_part text status desk old new (inl e) d k = subst (λ s. AnswersPart text s desk old new) (sym e) (d, k)
untaken_part text status desk old new (inr e) d k = subst (λ s. AnswersPart text s desk old new) (sym e) (d, k)

untaken_central : (all : Bool) (text : List ℕ) (status : Status) (desk : Desk) (old new : Option (List ℕ)) → (status ≡ ReadFault) ⊎ (status ≡ NoMemory) → desk ≡ Empty → Keeps old new → Answers (text_due all text) status desk old new
untaken_central true text status desk old new s d k = untaken_text text status desk old new s d k
untaken_central false text status desk old new s d k = untaken_part text status desk old new s d k

untaken_world : (told : Trace → List ℕ) (maker : Maker) (o : Opening) (limit : ℕ) (status : Status) (desk : Desk) (old new : Option (List ℕ)) → (status ≡ ReadFault) ⊎ (status ≡ NoMemory) → desk ≡ Empty → Keeps old new → AnswersWorld told maker o limit status desk old new
untaken_world told maker o limit status desk old new (inl e) d k = subst (λ s. AnswersWorld told maker o limit s desk old new) (sym e) (d, k)
untaken_world told maker o limit status desk old new (inr e) d k = subst (λ s. AnswersWorld told maker o limit s desk old new) (sym e) (inl d, k)

untaken_judged : (c : BundleCommand) (due : Result Accepted Refusal) (status : Status) (desk : Desk) (old new : Option (List ℕ)) → (status ≡ ReadFault) ⊎ (status ≡ NoMemory) → desk ≡ Empty → Keeps old new → Answers (due_judged c due) status desk old new
untaken_judged c (Err r) status desk old new s d k = untaken_due r status desk old new s d k
untaken_judged Validate (Ok b) status desk old new s d k = untaken_text (valid_text b) status desk old new s d k
untaken_judged Compile (Ok b) status desk old new s d k = untaken_text (compiled_text b) status desk old new s d k
untaken_judged (Central limit) (Ok b) status desk old new s d k = untaken_central (all_fit b limit) (central_text b limit) status desk old new s d k
untaken_judged (Simulate limit) (Ok b) status desk old new s d k = untaken_world report By_chooser (opening_of b) limit status desk old new s d k

untaken_run_judged : (limit : ℕ) (due : Result Accepted Refusal) (status : Status) (desk : Desk) (old new : Option (List ℕ)) → (status ≡ ReadFault) ⊎ (status ≡ NoMemory) → desk ≡ Empty → Keeps old new → Answers (due_run_judged limit due) status desk old new
untaken_run_judged limit (Err r) status desk old new s d k = untaken_due r status desk old new s d k
untaken_run_judged limit (Ok b) status desk old new s d k = untaken_world report By_workers (opening_of b) limit status desk old new s d k

-- what is told of flat code that was judged is due
pub judged_due : (made : Result Ir Refusal) (bytes : List ℕ) (status : Status) (desk : Desk) (old new : Option (List ℕ)) → JudgesFlat made bytes → AnswersJudged made status desk old new → AnswersFlat bytes status desk old new
judged_due made bytes Written desk old new t h = (made, t, h)
judged_due made bytes (Refused r) desk old new t h = (made, t, h)
judged_due made bytes Usage desk old new t h = (made, t, h)
judged_due made bytes WriteFault desk old new t h = (made, t, h)
judged_due made bytes Spent desk old new t h = (made, t, h)
judged_due (Ok ir) bytes ReadFault desk old new t h = h
judged_due (Ok ir) bytes NoMemory desk old new t h = h
judged_due (Err r) bytes ReadFault desk old new t h = h
judged_due (Err r) bytes NoMemory desk old new t h = h

-- what is told of a bundle that was not taken is due
pub untaken_bundle_due : (c : BundleCommand) (e : TakeError) (due : Result Accepted Refusal) (status : Status) (desk : Desk) (old new : Option (List ℕ)) → Takes (Err e) due → AnswersUntaken e status desk old new → Answers (due_judged c due) status desk old new
untaken_bundle_due c (take.Refused r) due status desk old new t h = subst (λ x. Answers (due_judged c x) status desk old new) (sym t) h
untaken_bundle_due c take.Fault due status desk old new t h = untaken_judged c due status desk old new (inl h.0) h.1 h.2
untaken_bundle_due c take.NoMemory due status desk old new t h = untaken_judged c due status desk old new (inr h.0) h.1 h.2

pub untaken_run_due : (limit : ℕ) (e : TakeError) (due : Result Accepted Refusal) (status : Status) (desk : Desk) (old new : Option (List ℕ)) → Takes (Err e) due → AnswersUntaken e status desk old new → Answers (due_run_judged limit due) status desk old new
untaken_run_due limit (take.Refused r) due status desk old new t h = subst (λ x. Answers (due_run_judged limit x) status desk old new) (sym t) h
untaken_run_due limit take.Fault due status desk old new t h = untaken_run_judged limit due status desk old new (inl h.0) h.1 h.2
untaken_run_due limit take.NoMemory due status desk old new t h = untaken_run_judged limit due status desk old new (inr h.0) h.1 h.2

-- and so of flat code
pub untaken_flat_due : (e : TakeError) (bytes : List ℕ) (status : Status) (desk : Desk) (old new : Option (List ℕ)) → TakesFlat (Err e) (λ made. JudgesFlat made bytes) → AnswersUntaken e status desk old new → AnswersFlat bytes status desk old new
untaken_flat_due (take.Refused r) bytes status desk old new t h = judged_due (Err r) bytes status desk old new t h
untaken_flat_due take.Fault bytes status desk old new t h = subst (λ s. AnswersFlat bytes s desk old new) (sym h.0) (h.1, h.2)
untaken_flat_due take.NoMemory bytes status desk old new t h = subst (λ s. AnswersFlat bytes s desk old new) (sym h.0) (h.1, h.2)

untaken_tells : (done : Done) (e : TakeError) (status : Status) (desk : Desk) (old new : Option (List ℕ)) → AnswersUntaken e status desk old new → ShowsOr done status desk old new
untaken_tells done (take.Refused r) status desk old new h = refusal_tells done r status desk old new h
untaken_tells done take.Fault status desk old new h = subst (λ s. ShowsOr done s desk old new) (sym h.0) (h.1, h.2)
untaken_tells done take.NoMemory status desk old new h = subst (λ s. ShowsOr done s desk old new) (sym h.0) h.2

pub untaken_shows : (c : Option Command) (e : TakeError) (status : Status) (desk : Desk) (old new : Option (List ℕ)) → AnswersUntaken e status desk old new → Shows c status desk old new
untaken_shows c = untaken_tells (ShowsDone c)

pub untaken_shows_run : (o : Option RunOptions) (e : TakeError) (status : Status) (desk : Desk) (old new : Option (List ℕ)) → AnswersUntaken e status desk old new → ShowsRun o status desk old new
untaken_shows_run o = untaken_tells (ShowsRunDone o)

pub untaken_ends : (A : Type 0) (e : TakeError) (status : Status) (desk : Desk) (old new left : Option (List ℕ)) → AnswersUntaken e status desk old new → TakesAll {A = A} (Err e) left → EndsRead status left
untaken_ends A (take.Refused r) status desk old new left h t = refusal_ends r status desk old new left h t
untaken_ends A take.Fault status desk old new left h t = subst (λ s. EndsRead s left) (sym h.0) tt
untaken_ends A take.NoMemory status desk old new left h t = subst (λ s. EndsRead s left) (sym h.0) tt

-- ---------------------------------------------------------------- a world that has settled

module _ (told : Trace → List ℕ) (maker : Maker) (o : Opening) (limit : ℕ) (p : Trace) (result : Status) (desk : Desk) (old new : Option (List ℕ)) (text : List ℕ) (world : IsWorldOf maker o limit p)
    (laid : desk ≡ Open p) (is_told : text ≡ told p) where
  failed : IsDrained p ⊎ IsSpent p → (result ≡ WriteFault) × TookFront old new text → AnswersWorld told maker o limit result desk old new
  failed why h =
      subst (λ z. AnswersWorld told maker o limit z desk old new) (sym h.0)
      (subst (λ z. AnswersWorld told maker o limit WriteFault z old new) (sym laid) (world, why, subst (TookFront old new) is_told h.1))

  -- no event may happen there, and it is told
  pub drained_told : IsDrained p → Wrote old new text Written result → AnswersWorld told maker o limit result desk old new
  drained_told drained (inl h) =
      subst (λ z. AnswersWorld told maker o limit z desk old new) (sym h.0)
      (subst (λ z. AnswersWorld told maker o limit Written z old new) (sym laid) (world, drained, subst (Appends old new) is_told h.1))
  drained_told drained (inr h) = failed (inl drained) h

  -- its history is full, and it is told
  pub spent_told : IsSpent p → Wrote old new text Spent result → AnswersWorld told maker o limit result desk old new
  spent_told spent (inl h) =
      subst (λ z. AnswersWorld told maker o limit z desk old new) (sym h.0)
      (subst (λ z. AnswersWorld told maker o limit Spent z old new) (sym laid) (world, spent, subst (Appends old new) is_told h.1))
  spent_told spent (inr h) = failed (inr spent) h

-- ---------------------------------------------------------------- who made the events

-- events that are the chooser's where all before were, and that the plan allowed, are made as they were before
pub made_on : (maker : Maker) (p q r : Trace) → (IsChosen p → IsChosen q) → IsObeying q → r ≡ q → IsMadeBy maker p → IsMadeBy maker r
made_on By_chooser p q r chosen obeying same h = subst IsChosen (sym same) (chosen h)
made_on By_workers p q r chosen obeying same h = subst IsObeying (sym same) obeying

-- the world that has settled
pub settled_world : (maker : Maker) (p q r : Trace) → q.opening ≡ p.opening → q.limit ≡ p.limit → (IsChosen p → IsChosen q) → IsObeying q → r ≡ q → IsMadeBy maker p → IsWorldOf maker p.opening p.limit r
settled_world maker p q r opening limit chosen obeying same h = record {
  opening = ap (λ (z : Trace). z.opening) same ∙ opening;
  limit_is = ap (λ (z : Trace). z.limit) same ∙ limit;
  made = made_on maker p q r chosen obeying same h;
}

-- it is on the desk
pub on_desk : (P : Trace → Type 0) (desk : Desk) (r : Trace) → desk ≡ Open r → P r → OnDesk desk P
on_desk P desk r e h = subst (λ d. OnDesk d P) (sym e) h

pub keeps_same : (a : Option (List ℕ)) → Keeps a a
keeps_same None = tt
keeps_same (Some xs) = refl
