-- What `run` answers, writes and leaves on the desk.
use Rattle.std.specs.Prelude.{◌≡◌, ℕ, List, Option, Some, None, Result, Ok, Err}
use Rattle.bundle_read.specs.Accepted.{Accepted, opening_of}
use Rattle.bundle_read.specs.Judged.{judged}
use Rattle.bundle_read.specs.declared.refusal.Refusal.{Refusal}
use Rattle.std.specs.Io.KnownBytes.{Appends}
use Rattle.session_report.specs.Report.{report}
use Rattle.unum_world.specs.Traces.{IsObeying, IsDrained}
use Rattle.unum_cli.specs.declared.answer.Desk.{Desk}
use Rattle.unum_cli.specs.declared.answer.Status.{Status}
use Rattle.unum_cli.specs.declared.answer.Status.TheVariants.{Written, Spent}
use Rattle.unum_cli.specs.declared.commands.RunOptions.{RunOptions}
use Rattle.unum_cli.specs.Tool.{Due, Usage_due, Refusal_due, World_due, By_workers, IsSpent, OnDesk, ShowsOr}
use Rattle.unum_cli.specs.Words.{run_command}

-- what is due for a bundle, or for what is refused
abbrev pub due_run_judged : (limit : ℕ) → Result Accepted Refusal → Due
due_run_judged limit (Ok b) = World_due report By_workers (opening_of b) limit
due_run_judged limit (Err r) = Refusal_due r

abbrev pub due_run_options : Option RunOptions → List ℕ → Due
due_run_options None bytes = Usage_due
due_run_options (Some o) bytes = due_run_judged o.limit (judged bytes)

-- what is due for the words of `run` and the bytes
abbrev pub due_run : List (List ℕ) → List ℕ → Due
due_run words bytes = due_run_options (run_command words) bytes

-- The report is that of the world on the desk. The plan allowed each of its events. With Written no more may happen in it, and with
-- Spent its history is full and some event may happen.
abbrev pub ShowsRunDone : Option RunOptions → Status → Desk → (old new : Option (List ℕ)) → Type 0
ShowsRunDone (Some o) Written desk old new = OnDesk desk (λ p. (p.limit ≡ o.limit) × IsObeying p × IsDrained p × Appends old new (report p))
ShowsRunDone (Some o) Spent desk old new = OnDesk desk (λ p. (p.limit ≡ o.limit) × IsObeying p × IsSpent p × Appends old new (report p))
ShowsRunDone o status desk old new = ⊥

-- the text that is written is the one of the answer, whatever the bytes were
abbrev pub ShowsRun : Option RunOptions → Status → Desk → (old new : Option (List ℕ)) → Type 0
ShowsRun o = ShowsOr (ShowsRunDone o)
