-- What happens to a state's data.
-- Source: Amazon States Language, "Input and Output Processing", "Parallel State", "Map State" and "Errors".
use Rattle.std.specs.Prelude.{ℕ, zero, suc, length, nat_le, List, [], ◌∷◌, Option, Some, None, Result, Ok, Err, Bool, false, ◌&&◌, ◌||◌, if◌then◌else◌, codes}
use Rattle.std.specs.Str.{bytes_eq}
pub use Rattle.unum_json.specs.declared.value.Json.{Json}
pub use Rattle.unum_json.specs.declared.value.Json.{Null}
use Rattle.unum_json.specs.declared.value.Json.{out-Json}
use Rattle.unum_json.specs.declared.value.Json as json
use Rattle.unum_json.specs.declared.value.Json.TheOpen.{Json-F}
pub use Rattle.unum_json.specs.declared.outcome.Fault.{Fault}
pub use Rattle.unum_json.specs.declared.outcome.Outcome.{Outcome}
pub use Rattle.unum_json.specs.declared.outcome.Outcome.TheVariants.{Done, Failed}
use Rattle.unum_json.specs.Tree.{nodes, is_small}
pub use Rattle.asl_paths.specs.declared.path.Path.{Path}
pub use Rattle.asl_paths.specs.declared.template.Template.{Template}
use Rattle.asl_paths.specs.Filling.{fill}
use Rattle.asl_paths.specs.Lookup.{get}
pub use Rattle.asl_shape.specs.declared.shape.Shape.{Shape}
use Rattle.asl_shape.specs.declared.trouble.ShapeError.{ShapeError}
use Rattle.asl_shape.specs.declared.trouble.ShapeError.TheVariants as error
use Rattle.asl_shape.specs.Flow.{prep, post, found_by, put_by, small_or}
use Rattle.asl_shape.specs.Names.{error_name}
pub use Rattle.choice_rules.specs.declared.rule.Rule.{Rule}
use Rattle.choice_rules.specs.Evaluating.{choose, Choice}

abbrev pub Text : Type 0
Text = List ℕ

-- whether two names are the same
unfoldable pub same_text : Text → Text → Bool
same_text a b = bytes_eq a b

-- a failure with this error and this cause
abbrev pub failure : (error cause : Text) → Outcome
failure error cause = Failed (record { error = error; cause = cause })

unfoldable pub path_failure : Text
path_failure = codes "Unum.PathFailure"

unfoldable pub hop_limit_error : Text
hop_limit_error = codes "Unum.HopLimit"

unfoldable pub no_choice : Text
no_choice = codes "States.NoChoiceMatched"

unfoldable pub items_not_array : Text
items_not_array = codes "Unum.ItemsNotArray"

unfoldable pub item_limit_error : Text
item_limit_error = codes "Unum.ItemLimit"

unfoldable pub data_limit : Text
data_limit = codes "Unum.DataLimit"

unfoldable pub all_errors : Text
all_errors = codes "States.ALL"

unfoldable pub task_failed : Text
task_failed = codes "States.TaskFailed"

-- no valid machine goes to a state that its block does not have
unfoldable pub no_state_error : Text
no_state_error = codes "no such state"

-- a Map has at most so many items
unfoldable pub item_limit : ℕ
item_limit = 1000

-- what an application to data gives: the value, or the error's name
abbrev pub Made : Type 0
Made = Result Json Text

-- only want of memory has no name, and no definition gives it
abbrev pub name_or_empty : Option Text → Text
name_or_empty (Some name) = name
name_or_empty None = []

abbrev pub named : Result Json ShapeError → Made
named (Ok v) = Ok v
named (Err e) = Err (name_or_empty (error_name e))

-- what a state is given: InputPath, and then Parameters
unfoldable pub prepared : Shape → Json → Made
prepared shape raw = named (prep shape raw)

-- what a state hands on: ResultSelector, ResultPath, and then OutputPath
unfoldable pub handed_on : Shape → Json → Json → Made
handed_on shape raw result = named (post shape raw result)

-- what a Choice or a Succeed hands on: OutputPath alone
unfoldable pub output : Shape → Json → Made
output shape x = named (found_by shape.output x)

abbrev pub or_path_failure : Choice → Result (Option ℕ) Text
or_path_failure (Ok i) = Ok i
or_path_failure (Err e) = Err path_failure

-- the first rule that matches, if one does
unfoldable pub chosen : List Rule → Json → Result (Option ℕ) Text
chosen rules x = or_path_failure (choose rules x)

-- n times x
abbrev pub repeat : {X : Type 0} → ℕ → X → List X
repeat zero x = []
repeat (suc n) x = x ∷ repeat n x

abbrev pub and_then : {X Y : Type 0} → Result X Text → (X → Result Y Text) → Result Y Text
and_then (Ok x) go = go x
and_then (Err e) go = Err e

-- the inputs of a fan together have at most 200,000 nodes
abbrev pub fitting : List Json → Result (List Json) Text
fitting vs = if nat_le (nodes (json.Arr vs)) 200000 then Ok vs else Err data_limit

-- each branch of a Parallel has its prepared value as input
unfoldable pub parallel_inputs : ℕ → Json → Result (List Json) Text
parallel_inputs n x = fitting (repeat n x)

abbrev pub array_of : Json-F Json → Result (List Json) Text
array_of (Json-F.Arr vs) = Ok vs
array_of _ = Err items_not_array

-- the array that ItemsPath finds
abbrev pub array_in : Option Json → Result (List Json) Text
array_in None = Err path_failure
array_in (Some v) = array_of (out-Json v)

abbrev pub few : List Json → Result (List Json) Text
few vs = if nat_le (length vs) item_limit then Ok vs else Err item_limit_error

abbrev pub with_first : Made → Result (List Json) Text → Result (List Json) Text
with_first (Err e) rest = Err e
with_first (Ok v) (Err e) = Err e
with_first (Ok v) (Ok vs) = Ok (v ∷ vs)

-- the item template, filled once for each item with its number
abbrev pub selected : Template → Json → ℕ → List Json → Result (List Json) Text
selected t x i [] = Ok []
selected t x i (v ∷ vs) = with_first (named (small_or error.Parameter (fill x (Some (v, i)) t.fields))) (selected t x (suc i) vs)

abbrev pub selected_by : Option Template → Json → List Json → Result (List Json) Text
selected_by None x vs = Ok vs
selected_by (Some t) x vs = selected t x 0 vs

-- the inputs of a Map: the items that ItemsPath finds, or what the item template makes of them
unfoldable pub map_inputs : (items : Path) → (selector : Option Template) → Json → Result (List Json) Text
map_inputs items selector x =
    and_then (array_in (get items x)) (λ vs. and_then (few vs) (λ vs. and_then (selected_by selector x vs) (λ inputs. fitting inputs)))

-- the outputs, or the failure of lowest index
abbrev pub outputs : List Outcome → Result (List Json) Fault
outputs [] = Ok []
outputs (Failed f ∷ os) = Err f
outputs (Done v ∷ os) = elim (outputs os) [ Ok vs ↦ Ok (v ∷ vs) | Err f ↦ Err f ]

abbrev pub array_or_fault : Text → Result (List Json) Fault → Outcome
array_or_fault name (Ok vs) = if is_small (json.Arr vs) then Done (json.Arr vs) else failure data_limit name
array_or_fault name (Err f) = Failed f

-- what the outcomes of a fan's branches come to, for the fan of this name
unfoldable pub combine : Text → List Outcome → Outcome
combine name os = array_or_fault name (outputs os)

-- the error as the standard's Error Output
abbrev pub error_output : (error cause : Text) → Json
error_output error cause = json.Obj ((codes "Cause", json.Str cause) ∷ (codes "Error", json.Str error) ∷ [])

-- the raw data with the Error Output where a catcher's ResultPath leads, or the raw data alone for null
unfoldable pub put_error : (result : Option Path) → Json → (error cause : Text) → Made
put_error result raw error cause = named (put_by result raw (error_output error cause))

-- errors match an error where they have its name or States.ALL, or States.TaskFailed and a Task's function answered it
unfoldable pub match_error : List Text → (error : Text) → (answered : Bool) → Bool
match_error [] error answered = false
match_error (n ∷ ns) error answered =
    (bytes_eq n error || bytes_eq n all_errors || (bytes_eq n task_failed && answered)) || match_error ns error answered
