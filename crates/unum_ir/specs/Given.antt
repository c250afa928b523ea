-- What a part of a state's data flow answers, the names of its errors, and which names match an error.
use Rattle.std.specs.Prelude.{◌≡◌, Bool, ◌&&◌, ◌||◌, Result, Ok, Err, codes}
use Rattle.std.specs.Str.{bytes_eq}
use Rattle.asl_model.specs.Data.{Text, all_errors, task_failed}
use Rattle.unum_ir.specs.declared.trouble.StateError.{StateError}
use Rattle.unum_ir.specs.declared.trouble.StateError.TheVariants.{Path, Parameter, ResultPath, TooLarge, NoArray, TooManyItems, NoChoice}
use Rattle.unum_ir.specs.declared.trouble.FlowError.{FlowError}
use Rattle.unum_ir.specs.declared.trouble.FlowError.TheVariants as error

abbrev pub error_name : StateError → Text
error_name Path = codes "Unum.PathFailure"
error_name Parameter = codes "States.ParameterPathFailure"
error_name ResultPath = codes "States.ResultPathMatchFailure"
error_name TooLarge = codes "Unum.DataLimit"
error_name NoArray = codes "Unum.ItemsNotArray"
error_name TooManyItems = codes "Unum.ItemLimit"
error_name NoChoice = codes "States.NoChoiceMatched"

-- a call answers this, unless memory runs out
abbrev pub Gives : {A B : Type 0} → (A → B) → Result A FlowError → Result B Text → Type 0
Gives view (Ok x) due = due ≡ Ok (view x)
Gives view (Err (error.Named e)) due = due ≡ Err (error_name e)
Gives view (Err error.NoMemory) due = Unit {0}

-- whether a retrier's or catcher's name matches an error
abbrev pub is_match : Text → (error : Text) → (answered : Bool) → Bool
is_match n error answered = bytes_eq n error || bytes_eq n all_errors || (bytes_eq n task_failed && answered)
