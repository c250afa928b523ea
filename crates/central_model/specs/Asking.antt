-- Who answers the Tasks of a run, and which runs have these answers.
use Rattle.std.specs.Prelude.{◌≡◌, ℕ, suc, List, [], ◌∷◌, Option, Some, None, codes}
use Rattle.unum_json.specs.Keys.{find_key}
use Rattle.fn_table.specs.declared.kind.FnKind.{FnKind}
use Rattle.fn_table.specs.Answers.{answer}
use Rattle.asl_model.specs.Data.{Text, Json, Outcome, failure}
use Rattle.asl_model.specs.Names.{Place, Answers, answers_of}
use Rattle.asl_model.specs.Central.{Visited, Entered, Called, Joined, Visit}
use Rattle.asl_model.specs.Sequential.{Functions}
use Rattle.central_model.specs.declared.source.Source.{Source}
use Rattle.central_model.specs.declared.source.Source.TheVariants as source

-- no Task of an accepted bundle calls a function that its table does not have
unfoldable pub no_function : Text
no_function = codes "no such function"

abbrev pub answer_of : Option FnKind → (resource : Text) → Json → ℕ → Outcome
answer_of None resource input ticket = failure no_function resource
answer_of (Some kind) resource input ticket = answer kind input ticket

-- the functions of a table
abbrev pub functions_of : List (Text × FnKind) → Functions
functions_of table resource input ticket = answer_of (find_key resource table) resource input ticket

-- what a Task at a place is answered, by its resource, its input, and how many Tasks were visited before
abbrev pub Asking : Type 0
Asking = Place → (resource : Text) → (input : Json) → (ticket : ℕ) → Option Outcome

abbrev pub by_answers : Answers → Asking
by_answers A p resource input ticket = A p

abbrev pub by_functions : Functions → Asking
by_functions call p resource input ticket = Some (call resource input ticket)

abbrev pub asking_of : Source → Asking
asking_of (source.Given answers) = by_answers (answers_of answers.now)
asking_of (source.Functions table) = by_functions (functions_of table.now)

-- how many Tasks were visited after a visit
abbrev pub ticket_after : ℕ → Visited → ℕ
ticket_after n Entered = n
ticket_after n (Called state resource) = suc n
ticket_after n (Joined state) = n

abbrev pub tickets : ℕ → List Visit → ℕ
tickets n [] = n
tickets n (v ∷ vs) = tickets (ticket_after n v.visited) vs

abbrev pub IsAnswered : Asking → ℕ → Visit → Visited → Type 0
IsAnswered ask n v Entered = Unit {0}
IsAnswered ask n v (Called state resource) = v.answer ≡ ask v.place resource v.given n
IsAnswered ask n v (Joined state) = Unit {0}

-- each Task among these visits has such an answer, where so many Tasks were visited before
abbrev pub AreAnswered : Asking → ℕ → List Visit → Type 0
AreAnswered ask n [] = Unit {0}
AreAnswered ask n (v ∷ vs) = IsAnswered ask n v v.visited × AreAnswered ask (ticket_after n v.visited) vs
