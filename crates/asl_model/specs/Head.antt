-- What one state does: up to its visit, and after its answer. It is said once for any kind of labels for states and of
-- resources: names on a machine, numbers on a flat form.
-- Source: Amazon States Language, "State Types" and "Errors" (with "Retrying After Error" and "Fallback States").
use Rattle.std.specs.Prelude.{ℕ, suc, List, [], ◌∷◌, Option, Some, None, Result, Ok, Err, Bool, true, false, nat_lt, if◌then◌else◌, option_map, slice_get}
pub use Rattle.asl_model.specs.declared.machine.Retrier.{Retrier}
use Rattle.asl_model.specs.Data.{Text, Json, Outcome, Done, Failed, failure, Shape, Rule, Path, Template, prepared, handed_on, output, chosen, no_choice, parallel_inputs, map_inputs, match_error, put_error}

-- a catcher: the errors that it matches, where the error is put (null: nowhere), and the state that follows
pub record CatcherOf (L : Type 0) : Type 0 where
  pub errors : List Text
  pub result : Option Path
  pub next : L

pub record CareOf (L : Type 0) : Type 0 where
  pub retry : List Retrier
  pub catch : List (CatcherOf L)

-- how often each retrier was taken
abbrev pub Used : Type 0
Used = List ℕ

-- a state without the blocks inside it
pub data Head (R L : Type 0) : Type 0 where
  HTask : Shape → R → (after : Option L) → CareOf L → Head R L
  HPass : Shape → (result : Option Json) → (after : Option L) → Head R L
  HChoice : Shape → (rules : List Rule) → (nexts : List L) → (default : Option L) → Head R L
  HSucceed : Shape → Head R L
  HFail : (error cause : Text) → Head R L
  HParallel : Shape → (count : ℕ) → (after : Option L) → CareOf L → Head R L
  HMap : Shape → (items : Path) → (selector : Option Template) → (after : Option L) → CareOf L → Head R L

-- how a state goes on: a state with its data and, at a retry, the list used; or the scope's end
pub data OnwardOf (L : Type 0) : Type 0 where
  Goes : (next : L) → Json → (again : Option Used) → OnwardOf L
  Ends : Outcome → OnwardOf L

-- what a state does first: it goes on, calls its function, or fans out
pub data BegunOf (R L : Type 0) : Type 0 where
  On : OnwardOf L → BegunOf R L
  Calls : R → (effective : Json) → BegunOf R L
  Fans : (inputs : List Json) → BegunOf R L

abbrev pub bare : {L : Type 0} → CareOf L
bare = record { retry = []; catch = [] }

abbrev pub care_in : {R L : Type 0} → Head R L → CareOf L
care_in (HTask shape r after care) = care
care_in (HParallel shape n after care) = care
care_in (HMap shape items selector after care) = care
care_in _ = bare

-- an error has the state's name as cause, and ends the scope
abbrev pub or_fails : {X L : Type 0} → Text → Result X Text → (X → OnwardOf L) → OnwardOf L
or_fails name (Ok x) go = go x
or_fails name (Err e) go = Ends (failure e name)

-- after a state: the next one is entered, or the scope ends
abbrev pub leaves : {L : Type 0} → Option L → Json → OnwardOf L
leaves (Some next) v = Goes next v None
leaves None v = Ends (Done v)

abbrev pub result_or : Option Json → Json → Json
result_or (Some r) x = r
result_or None x = x

-- catchers: the first one that matches
abbrev pub caught : {L : Type 0} → Text → Json → (error cause : Text) → (answered : Bool) → List (CatcherOf L) → OnwardOf L
caught name raw error cause answered [] = Ends (failure error cause)
caught name raw error cause answered (c ∷ cs) =
    if match_error c.errors error answered
    then or_fails name (put_error c.result raw error cause) (λ v. Goes c.next v None)
    else caught name raw error cause answered cs

-- retriers: the list used with the first one that matches taken once more, if it may be
abbrev pub retried : (error : Text) → (answered : Bool) → List Retrier → Used → Option Used
retried error answered [] us = None
retried error answered (r ∷ rs) [] = None
retried error answered (r ∷ rs) (u ∷ us) =
    if match_error r.errors error answered
    then (if nat_lt u r.most then Some (suc u ∷ us) else None)
    else option_map (λ l. u ∷ l) (retried error answered rs us)

-- the state is entered again, or else its failure is caught
abbrev pub again_or : {L : Type 0} → L → Json → Option Used → OnwardOf L → OnwardOf L
again_or label raw (Some us) otherwise = Goes label raw (Some us)
again_or label raw None otherwise = otherwise

-- an error of the state's own data flow goes to its catchers at once
abbrev pub or_caught : {X R L : Type 0} → Text → Json → CareOf L → Result X Text → (X → BegunOf R L) → BegunOf R L
or_caught name raw care (Ok x) go = go x
or_caught name raw care (Err e) go = On (caught name raw e name false care.catch)

-- the next state of the rule that was chosen, or the default
abbrev pub picked : {L : Type 0} → List L → Option L → Option ℕ → Option L
picked nexts default None = default
picked nexts default (Some i) = slice_get nexts i

abbrev pub or_none : {L : Type 0} → Text → Option L → (L → OnwardOf L) → OnwardOf L
or_none name None go = Ends (failure no_choice name)
or_none name (Some l) go = go l

-- what the state of this name does first
abbrev pub begins : {R L : Type 0} → Text → Head R L → Json → BegunOf R L
begins name (HTask shape r after care) raw = or_caught name raw care (prepared shape raw) (λ x. Calls r x)
begins name (HPass shape result after) raw =
    On (or_fails name (prepared shape raw) (λ x. or_fails name (handed_on shape raw (result_or result x)) (λ v. leaves after v)))
begins name (HChoice shape rules nexts default) raw =
    On (or_fails name (prepared shape raw) (λ x.
    or_fails name (chosen rules x) (λ i.
    or_none name (picked nexts default i) (λ next.
    or_fails name (output shape x) (λ v. Goes next v None)))))
begins name (HSucceed shape) raw = On (or_fails name (prepared shape raw) (λ x. or_fails name (output shape x) (λ v. Ends (Done v))))
begins name (HFail error cause) raw = On (Ends (failure error cause))
begins name (HParallel shape n after care) raw =
    or_caught name raw care (prepared shape raw) (λ x. or_caught name raw care (parallel_inputs n x) (λ inputs. Fans inputs))
begins name (HMap shape items selector after care) raw =
    or_caught name raw care (prepared shape raw) (λ x. or_caught name raw care (map_inputs items selector x) (λ inputs. Fans inputs))

-- an error of what is handed on goes to the catchers at once
abbrev pub leaves_or_caught : {L : Type 0} → Text → Json → Option L → CareOf L → Result Json Text → OnwardOf L
leaves_or_caught name raw after care (Ok v) = leaves after v
leaves_or_caught name raw after care (Err e) = caught name raw e name false care.catch

-- a result is handed on, and a failure goes to the retriers and then to the catchers
abbrev pub settled : {L : Type 0} → Text → L → Shape → Option L → CareOf L → (answered : Bool) → Json → Used → Outcome → OnwardOf L
settled name label shape after care answered raw used (Done r) = leaves_or_caught name raw after care (handed_on shape raw r)
settled name label shape after care answered raw used (Failed f) =
    again_or label raw (retried f.error answered care.retry used) (caught name raw f.error f.cause answered care.catch)

-- what follows the answer of the state of this name and label; only a Task's failure is answered by a function
abbrev pub finishes : {R L : Type 0} → Text → L → Head R L → Json → Used → Outcome → OnwardOf L
finishes name label (HTask shape r after care) raw used o = settled name label shape after care true raw used o
finishes name label (HParallel shape n after care) raw used o = settled name label shape after care false raw used o
finishes name label (HMap shape items selector after care) raw used o = settled name label shape after care false raw used o
finishes name label _ raw used o = Ends o

-- a 0 for each retrier
abbrev pub zeros : List Retrier → Used
zeros [] = []
zeros (r ∷ rs) = 0 ∷ zeros rs
