-- The examples by computation.
use Rattle.std.proofs.Common.{◌≡◌, ℕ, List, ◌∷◌, [], ◌++◌, map, refl, rules}
use Rattle.std.specs.Fmt.{digits}
use Rattle.std.specs.List.{join_with_byte}
use Rattle.unum_json.specs.declared.value.Json.{Json, the_lemmas}
use Rattle.unum_json.specs.declared.value.Json as json
use Rattle.unum_json.specs.Tree.{on_values}
use Rattle.unum_json.specs.Written.{text, quoted, field_text, escaped_byte}
use Rattle.world_model.specs.AnyCode.World.{objects_with, root_invs, root_states, start_objects, effect, enabled, run_from}
use Rattle.world_plans.specs.Sessions.{all_over, standing, count_from, crashes_in}
use Rattle.session_report.specs.Report.{lines, outcome_text, sessions_text, counts_text, tries_text, totals_text, report}
use Rattle.session_report.specs.Shown.{FailureText, Lines, TotalsLine, WholeReport}

text-Str : (s : List ℕ) → text (json.Str s) ≡ quoted s
text-Str s = search (rules, the_lemmas)

text-Obj : (fs : List (List ℕ × Json)) → text (json.Obj fs) ≡ 123 ∷ (join_with_byte 44 (map field_text (on_values text fs)) ++ 125 ∷ [])
text-Obj fs = search (rules, the_lemmas)

pub failure_text : FailureText
unfolding outcome_text escaped_byte
failure_text = simp (text-Obj, text-Str)

pub lines_are : Lines
unfolding digits
lines_are o = (refl, refl)

pub totals_line : TotalsLine
unfolding digits sessions_text counts_text tries_text totals_text
totals_line = refl

pub whole_report : WholeReport
unfolding digits sessions_text counts_text tries_text totals_text lines report standing all_over count_from crashes_in objects_with root_invs root_states start_objects effect enabled run_from
whole_report machines table plan a b = refl
