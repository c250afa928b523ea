-- The lines of a report, by examples.
use Rattle.std.specs.Prelude.{◌≡◌, ℕ, List, [], ◌∷◌, ◌++◌, Some, codes}
use Rattle.unum_json.specs.declared.value.Json.{Json}
use Rattle.unum_json.specs.declared.outcome.Outcome.{Outcome}
use Rattle.unum_json.specs.declared.outcome.Outcome.TheVariants.{Failed}
use Rattle.place_name.specs.declared.kind.Kind.TheVariants as kind
use Rattle.fn_table.specs.declared.table.Table.{Table}
use Rattle.asl_model.specs.declared.machine.Machine.{Machine}
use Rattle.world_types.specs.declared.queue.Event.{Event}
use Rattle.world_types.specs.declared.queue.Event.TheVariants.{Deliver, Crash, GiveUp}
use Rattle.world_plans.specs.declared.planning.Plan.{Plan}
use Rattle.world_plans.specs.Sessions.{Ended}
use Rattle.unum_world.specs.declared.opening.Opening.{Opening}
use Rattle.session_report.specs.Report.{outcome_text, session_text, entry_text, totals_text, report}

-- error and cause stand in their places
abbrev pub FailureText : Type 0
FailureText = outcome_text (Failed (record { error = codes "E"; cause = codes "c" })) ≡ codes "{\"fail\":{\"Cause\":\"c\",\"Error\":\"E\"}}"

-- the line of session 3, and that of the Task at hop 1 of session 0 with ticket 7
abbrev pub Lines : Type 0
Lines = (o : Outcome) →
    (session_text 3 (Some (Ended o)) ≡ codes "session 3 ended " ++ outcome_text o ++ codes "\n")
    × (entry_text
    (Some (record { name = record { place = record { session = 0; trail = []; hop = 1 }; kind = kind.Task }; answer = o; ticket = 7 }))
    ≡ codes "entry 0/1!T 7 " ++ outcome_text o ++ codes "\n")

-- each total stands in its place
abbrev pub TotalsLine : Type 0
TotalsLine =
    totals_text (record {
      sessions = 1;
      ended = 2;
      abandoned = 3;
      still_open = 4;
      entries = 5;
      events = 6;
      invocations = 7;
      attempts = 8;
      crashes = 9;
      marks = 10;
    })
    ≡ codes "totals sessions 1 ended 2 abandoned 3 open 4 entries 5 events 6 invocations 7 attempts 8 crashes 9 marks 10\n"

-- a delivery of the first session, whose attempt crashes
abbrev pub crash_once : (attempt : ℕ) → List Event
crash_once a = Deliver 0 ∷ Crash a ∷ []

-- the first session is delivered eight times, crashes each time, and is given up
abbrev pub given_up : List Event
given_up =
    crash_once 0 ++ crash_once 1 ++ crash_once 2 ++ crash_once 3 ++ crash_once 4 ++ crash_once 5 ++ crash_once 6 ++ crash_once 7
    ++ (GiveUp 0 ∷ Deliver 1 ∷ [])

-- two sessions, whatever their inputs are
abbrev pub two_sessions : List (List ℕ × Machine) → Table → Plan → (a b : Json) → Opening
two_sessions machines table plan a b = record { machines = machines; table = table; sessions = record { machine = 0; input = a } ∷ record { machine = 0; input = b } ∷ []; plan = plan }

-- the report then
abbrev pub WholeReport : Type 0
WholeReport = (machines : List (List ℕ × Machine)) (table : Table) (plan : Plan) (a b : Json) →
    report (record { opening = two_sessions machines table plan a b; limit = 100; history = given_up })
    ≡ codes "unum report 1\nsession 0 abandoned\nsession 1 open\ntotals sessions 2 ended 0 abandoned 1 open 1 entries 0 events 18 invocations 2 attempts 9 crashes 8 marks 0\n"
