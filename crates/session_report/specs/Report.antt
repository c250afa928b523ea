-- The report of a world.
use Rattle.std.specs.Prelude.{ℕ, zero, suc, List, [], ◌++◌, length, slice_get, Option, Some, None, codes, decimal}
use Rattle.unum_json.specs.declared.outcome.Outcome.{Outcome}
use Rattle.unum_json.specs.Outcome.{outcome_value}
use Rattle.unum_json.specs.Written.{text}
use Rattle.place_name.specs.Spelling.{spelling}
use Rattle.world_types.specs.declared.queue.Entry.{Entry}
use Rattle.world_model.specs.Numbered.{Numbered}
use Rattle.world_plans.specs.declared.totals.Totals.{Totals}
use Rattle.world_plans.specs.Sessions.{SessionStatus, Ended, Abandoned, StillOpen, session_of, totals_of}
use Rattle.unum_world.specs.Traces.{Trace, now}

-- f of each number from k on, so many
unfoldable pub lines : (f : ℕ → List ℕ) → (k count : ℕ) → List ℕ
lines f k zero = []
lines f k (suc n) = f k ++ lines f (suc k) n

-- an outcome as compact JSON
unfoldable pub outcome_text : Outcome → List ℕ
outcome_text o = text (outcome_value o)

abbrev pub state_text : SessionStatus → List ℕ
state_text (Ended o) = codes "ended " ++ outcome_text o
state_text Abandoned = codes "abandoned"
state_text StillOpen = codes "open"

abbrev pub session_text : ℕ → Option SessionStatus → List ℕ
session_text k None = []
session_text k (Some s) = codes "session " ++ decimal k ++ codes " " ++ state_text s ++ codes "\n"

-- the line of a session
abbrev pub session_line : Numbered → ℕ → List ℕ
session_line w k = session_text k (session_of w k)

abbrev pub entry_text : Option Entry → List ℕ
entry_text None = []
entry_text (Some e) = codes "entry " ++ spelling e.name ++ codes " " ++ decimal e.ticket ++ codes " " ++ outcome_text e.answer ++ codes "\n"

-- the line of a checkpoint that won
abbrev pub entry_line : Numbered → ℕ → List ℕ
entry_line w k = entry_text (slice_get w.journal k)

unfoldable pub sessions_text : Totals → List ℕ
sessions_text t =
    codes "totals sessions " ++ decimal t.sessions ++ codes " ended " ++ decimal t.ended ++ codes " abandoned "
    ++ decimal t.abandoned ++ codes " open " ++ decimal t.still_open

unfoldable pub counts_text : Totals → List ℕ
counts_text t =
    codes " entries " ++ decimal t.entries ++ codes " events " ++ decimal t.events ++ codes " invocations " ++ decimal t.invocations

unfoldable pub tries_text : Totals → List ℕ
tries_text t = codes " attempts " ++ decimal t.attempts ++ codes " crashes " ++ decimal t.crashes ++ codes " marks "
    ++ decimal t.marks ++ codes "\n"

unfoldable pub totals_text : Totals → List ℕ
totals_text t = sessions_text t ++ counts_text t ++ tries_text t

-- the line of what the world counts
abbrev pub totals_line : Trace → List ℕ
totals_line p = totals_text (totals_of (now p) p.history)

-- The report: a line for each session in order, one for each checkpoint in the order of winning, and the totals.
unfoldable pub report : Trace → List ℕ
report p =
    codes "unum report 1\n"
    ++ lines (session_line (now p)) 0 (length p.opening.sessions)
    ++ lines (entry_line (now p)) 0 (length (now p).journal)
    ++ totals_line p
