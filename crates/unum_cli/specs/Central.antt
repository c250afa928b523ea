-- The text of `central`: how each session ends by the sequential run of its machine, for a limit of visits.
use Rattle.std.specs.Prelude.{◌≡◌, ℕ, suc, ◌-◌, ◌<◌, ◌≤◌, nat_le, Bool, List, [], ◌∷◌, ◌++◌, length, slice_get, codes, decimal, is_some, Option, Some, None, Result, Ok, Err, if◌then◌else◌}
use Rattle.asl_model.specs.Sequential.{sequential}
use Rattle.central_model.specs.Asking.{functions_of}
use Rattle.central_model.specs.Told.{told_run}
use Rattle.central_model.specs.declared.run.End.{End}
use Rattle.central_model.specs.declared.run.End.TheVariants.{Ended, Waits}
use Rattle.central_model.specs.declared.run.Run.{Run}
use Rattle.central_model.specs.declared.trouble.CentralError.{CentralError}
use Rattle.central_model.specs.declared.trouble.CentralError.TheVariants as error
use Rattle.unum_world.specs.Openings.{block_in}
use Rattle.unum_world.specs.declared.opening.Session.{Session}
use Rattle.bundle_read.specs.Accepted.{Accepted}
use Rattle.session_report.specs.Report.{outcome_text}

-- the sequential run of the session with that number
abbrev pub run_of : Accepted → (number : ℕ) → Session → Run
run_of b k s = told_run (sequential (block_in (slice_get b.machines s.machine)) k s.input (functions_of b.functions))

-- what is left of a limit after a run, if the run fits in it
abbrev pub left_of : Run → ℕ → Option ℕ
left_of r n = if nat_le (length r.visits) n then Some (n - length r.visits) else None

-- none fits after one that did not
abbrev pub left_after : Run → Option ℕ → Option ℕ
left_after r None = None
left_after r (Some n) = left_of r n

-- a sequential run has ended
abbrev pub end_text : End → List ℕ
end_text (Ended o) = outcome_text o
end_text (Waits places) = codes "open"

-- how a session is told after which so much is left
abbrev pub told_text : Run → Option ℕ → List ℕ
told_text r None = codes "open"
told_text r (Some n) = end_text r.end

-- the line of a session
abbrev pub central_line : ℕ → Run → Option ℕ → List ℕ
central_line k r left = codes "central " ++ decimal k ++ codes " " ++ told_text r left ++ codes "\n"

abbrev pub end_line : ℕ → End → List ℕ
end_line k e = codes "central " ++ decimal k ++ codes " " ++ end_text e ++ codes "\n"

-- The lines of sessions from number k on, where so much is left of the limit: each is given what the one before it left, and one
-- that does not fit is open, as are all later ones.
unfoldable pub central_lines : Accepted → Option ℕ → ℕ → List Session → List ℕ
central_lines b left k [] = []
central_lines b left k (s ∷ ss) =
    central_line k (run_of b k s) (left_after (run_of b k s) left) ++ central_lines b (left_after (run_of b k s) left) (suc k) ss

-- what they leave
unfoldable pub left_by : Accepted → Option ℕ → ℕ → List Session → Option ℕ
left_by b left k [] = left
left_by b left k (s ∷ ss) = left_by b (left_after (run_of b k s) left) (suc k) ss

-- the text of `central`
abbrev pub central_text : Accepted → (limit : ℕ) → List ℕ
central_text b limit = central_lines b (Some limit) 0 b.sessions

-- whether each session fits
abbrev pub all_fit : Accepted → (limit : ℕ) → Bool
all_fit b limit = is_some (left_by b (Some limit) 0 b.sessions)

-- ---------------------------------------------------------------- words for contracts

-- the run, if it has at most so many visits
abbrev pub IsWithin : (limit : ℕ) → Result Run CentralError → Run → Type 0
IsWithin limit (Ok told) r = (told ≡ r) × (length r.visits ≤ limit)
IsWithin limit (Err error.TooLong) r = limit < length r.visits
IsWithin limit (Err error.NoMemory) r = Unit {0}
