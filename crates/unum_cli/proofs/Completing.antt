-- A world on the desk whose plan has no mishaps has spent its limit by what its visits cost.
use Rattle.std.proofs.Common.{◌≡◌, ℕ, List, [], ◌∷◌, Bool, true, false, Option, Some, None, IfSome, refl, ap, subst, if◌then◌else◌}
use Rattle.std.specs.List.{AllByRecursion}
use Rattle.std.specs.Str.{bytes_eq}
use Rattle.std.proofs.lemmas.Option.{same_Some}
use Rattle.unum_json.specs.Keys.{find_key}
use Rattle.fn_table.specs.declared.kind.FnKind.{FnKind}
use Rattle.world_model.specs.AnyCode.Code.{flags}
use Rattle.world_model.specs.AnyCode.World.{function_of}
use Rattle.world_model.specs.Steady.{IsSteady, AllSteady, AnswerAs}
use Rattle.world_plans.specs.Plans.{HasNoMishap}
use Rattle.world_plans.proofs.Allows.{chosen_obey}
use Rattle.central_model.specs.Asking.{answer_of, functions_of}
use Rattle.unum_world.specs.declared.opening.Opening.{Opening}
use Rattle.unum_world.specs.Openings.{codes_of}
use Rattle.unum_world.specs.Traces.{Trace, opened_world, IsObeying, IsDrained}
use Rattle.unum_world.specs.Cost.{CostsAlone, HasItsCost}
use Rattle.unum_world.specs.Sound.{IsSound}
use Rattle.unum_cli.specs.declared.answer.Desk.{Desk}
use Rattle.unum_cli.specs.declared.answer.Desk.TheVariants.{Empty, Open}
use Rattle.unum_cli.specs.declared.answer.Status.{Status}
use Rattle.unum_cli.specs.declared.answer.Status.TheVariants.{Written, Refused, Usage, ReadFault, WriteFault, Spent, NoMemory}
use Rattle.unum_cli.specs.declared.commands.Command.{Command}
use Rattle.unum_cli.specs.declared.commands.Command.TheVariants.{Bundle, Ir, Make}
use Rattle.unum_cli.specs.declared.commands.BundleCommand.TheVariants.{Validate, Compile, Central, Simulate}
use Rattle.unum_cli.specs.declared.commands.RunOptions.{RunOptions}
use Rattle.unum_cli.specs.Run.{ShowsRun, ShowsRunDone}
use Rattle.unum_cli.specs.Tool.{Maker, By_chooser, By_workers, Due, Usage_due, Refusal_due, Text_due, Part_due, World_due, Flat_due, due_words, made_opening, made_text, Answers, AnswersWorld, HoldsSound, IsMadeBy, IsSpent, Done, ShowsDone, ShowsOr, Shows}
use Rattle.unum_cli.specs.Completeness.{sequential_cost, IsReached, IsExact, IsSpentByCost, Completes, DeskCompletes, SpendsByCost, RunSpendsByCost}

-- ---------------------------------------------------------------- functions

-- what is found in a table of functions that do not look at their tickets
steady_found : (resource : List ℕ) (table : List (List ℕ × FnKind)) → AllByRecursion (λ (f : List ℕ × FnKind). IsSteady f.1) table → (kind : FnKind) →
    find_key resource table ≡ Some kind → IsSteady kind
steady_found resource [] h kind e = absurd (cc)
steady_found resource (f ∷ fs) h kind e = by (bytes_eq f.0 resource) (steady_found resource fs h.1 kind) e
  where
    by : (b : Bool) → (find_key resource fs ≡ Some kind → IsSteady kind) → (if b then Some f.1 else find_key resource fs) ≡ Some kind → IsSteady kind
    by true r q = subst IsSteady (same_Some f.1 kind q) h.0
    by false r q = r q

made_steady : (n : ℕ) → AllSteady (made_opening n).table
unfolding function_of
made_steady n resource kind e = steady_found resource (made_opening n).table (tt, (tt, tt)) kind e

made_calm : (n : ℕ) → HasNoMishap (made_opening n).plan
made_calm n = record { crash_none = refl; repeat_none = refl; script_none = refl; twins_none = refl }

-- the functions of a table answer as they do
answers_as : (o : Opening) → AnswerAs o.table (functions_of o.table)
unfolding function_of
answers_as o resource kind e input ticket = ap (λ (z : Option FnKind). answer_of z resource input ticket) e

-- ---------------------------------------------------------------- a world that has settled

-- whoever made its events, the plan allowed them
obeys : (maker : Maker) (p : Trace) → IsMadeBy maker p → IsObeying p
obeys By_chooser p h = chosen_obey p.opening.plan flags (codes_of p.opening) p.history (opened_world p.opening) 0 h
obeys By_workers p h = h

module _ (p : Trace) (maker : Maker) (made : IsMadeBy maker p) (sound : IsSound p) (calm : HasNoMishap p.opening.plan) where
  cost : HasItsCost p
  cost = sound.cost (obeys maker p made) calm

  alone : AllSteady p.opening.table → CostsAlone p (functions_of p.opening.table)
  alone all = cost.alone (functions_of p.opening.table) (record { all = all; answers = answers_as p.opening })

  -- no event may happen there
  at_rest : IsDrained p → IsSpentByCost p.opening p.limit Written (Open p)
  at_rest drained = record { reached = tt; exact = λ all. (alone all).drained drained }

  -- its history is full
  at_limit : IsSpent p → IsSpentByCost p.opening p.limit Spent (Open p)
  at_limit (enabled, full) = record { reached = cost.spent full; exact = λ all. (alone all).spent enabled full }

-- any other answer says nothing of the limit
unsaid : (o : Opening) (limit : ℕ) (status : Status) (desk : Desk) → IsReached status limit desk → ((cost : ℕ) → IsExact status limit cost) →
    IsSpentByCost o limit status desk
unsaid o limit status desk r e = record { reached = r; exact = λ all. e (sequential_cost o) }

-- the same, by the opening and the limit that it was given
module _ (o : Opening) (limit : ℕ) (p : Trace) (opening : p.opening ≡ o) (limit_is : p.limit ≡ limit) (status : Status) where
  of_given : (HasNoMishap p.opening.plan → IsSpentByCost p.opening p.limit status (Open p)) → HasNoMishap o.plan → IsSpentByCost o limit status (Open p)
  of_given h =
      subst (λ (z : Opening). HasNoMishap z.plan → IsSpentByCost z limit status (Open p)) opening
      (subst (λ n. HasNoMishap p.opening.plan → IsSpentByCost p.opening n status (Open p)) limit_is h)

-- ---------------------------------------------------------------- where the bytes are told

world_completes : (told : Trace → List ℕ) (maker : Maker) (o : Opening) (limit : ℕ) (status : Status) (desk : Desk) (old new : Option (List ℕ)) →
    AnswersWorld told maker o limit status desk old new → HoldsSound desk → HasNoMishap o.plan → IsSpentByCost o limit status desk
unfolding HoldsSound
world_completes told maker o limit Written Empty old new h s = absurd h
world_completes told maker o limit Written (Open p) old new h s =
    of_given o limit p h.0.opening h.0.limit_is Written (λ calm. at_rest p maker h.0.made s calm h.1)
world_completes told maker o limit Spent Empty old new h s = absurd h
world_completes told maker o limit Spent (Open p) old new h s =
    of_given o limit p h.0.opening h.0.limit_is Spent (λ calm. at_limit p maker h.0.made s calm h.1)
world_completes told maker o limit WriteFault desk old new h s = λ calm. unsaid o limit WriteFault desk tt (λ c. tt)
world_completes told maker o limit ReadFault desk old new h s = λ calm. unsaid o limit ReadFault desk tt (λ c. tt)
world_completes told maker o limit NoMemory desk old new h s = λ calm. unsaid o limit NoMemory desk tt (λ c. tt)
world_completes told maker o limit Usage desk old new h s = absurd h
world_completes told maker o limit (Refused r) desk old new h s = absurd h

-- what is answered with what is due
due_completes : (d : Due) (status : Status) (desk : Desk) (old new : Option (List ℕ)) → Answers d status desk old new → HoldsSound desk → Completes d status desk
due_completes Usage_due status desk old new h s = tt
due_completes (Refusal_due r) status desk old new h s = tt
due_completes (Text_due text) status desk old new h s = tt
due_completes (Part_due text) status desk old new h s = tt
due_completes (World_due told maker o limit) status desk old new h s = world_completes told maker o limit status desk old new h s
due_completes (Flat_due bytes) status desk old new h s = tt

-- the same of bytes that the source tells
pub told_completes : (left : Option (List ℕ)) (due : List ℕ → Due) (status : Status) (desk : Desk) (old new : Option (List ℕ)) →
    IfSome left (λ bytes. Answers (due bytes) status desk old new) → HoldsSound desk → IfSome left (λ bytes. Completes (due bytes) status desk)
told_completes None due status desk old new h s = tt
told_completes (Some bytes) due status desk old new h s = due_completes (due bytes) status desk old new h s

-- ---------------------------------------------------------------- whatever the bytes were

-- an answer that shows how the world on the desk ended
module _ (limit : ℕ) (maker : Maker) (done : Done)
    (drained : (p : Trace) (old new : Option (List ℕ)) → done Written (Open p) old new → (p.limit ≡ limit) × IsMadeBy maker p × IsDrained p)
    (spent : (p : Trace) (old new : Option (List ℕ)) → done Spent (Open p) old new → (p.limit ≡ limit) × IsMadeBy maker p × IsSpent p) where
  desk_completes : (status : Status) (desk : Desk) (old new : Option (List ℕ)) → ShowsOr done status desk old new → HoldsSound desk → DeskCompletes limit status desk
  unfolding HoldsSound
  desk_completes status Empty old new h s = tt
  desk_completes Written (Open p) old new h s =
      let (limit_is, made, end) = drained p old new h in of_given p.opening limit p refl limit_is Written (λ calm. at_rest p maker made s calm end)
  desk_completes Spent (Open p) old new h s =
      let (limit_is, made, end) = spent p old new h in of_given p.opening limit p refl limit_is Spent (λ calm. at_limit p maker made s calm end)
  desk_completes WriteFault (Open p) old new h s = λ calm. unsaid p.opening limit WriteFault (Open p) tt (λ c. tt)
  desk_completes ReadFault (Open p) old new h s = λ calm. unsaid p.opening limit ReadFault (Open p) tt (λ c. tt)
  desk_completes NoMemory (Open p) old new h s = λ calm. unsaid p.opening limit NoMemory (Open p) tt (λ c. tt)
  desk_completes Usage (Open p) old new h s = λ calm. unsaid p.opening limit Usage (Open p) tt (λ c. tt)
  desk_completes (Refused r) (Open p) old new h s = λ calm. unsaid p.opening limit (Refused r) (Open p) tt (λ c. tt)

-- of the generated world nothing is left to ask
of_made : (n : ℕ) (status : Status) (desk : Desk) → (HasNoMishap (made_opening n).plan → IsSpentByCost (made_opening n) 1000000 status desk) →
    IsReached status 1000000 desk × IsExact status 1000000 (sequential_cost (made_opening n))
of_made n status desk h = let k : IsSpentByCost (made_opening n) 1000000 status desk = h (made_calm n) in (k.reached, k.exact (made_steady n))

made_spends : (n : ℕ) (status : Status) (desk : Desk) (old new : Option (List ℕ)) → Shows (Some (Make n)) status desk old new → HoldsSound desk →
    SpendsByCost (Some (Make n)) status desk
made_spends n Written desk old new h s = of_made n Written desk (world_completes (made_text n) By_chooser (made_opening n) 1000000 Written desk old new h s)
made_spends n Spent desk old new h s = of_made n Spent desk (world_completes (made_text n) By_chooser (made_opening n) 1000000 Spent desk old new h s)
made_spends n WriteFault desk old new h s = (tt, tt)
made_spends n ReadFault desk old new h s = (tt, tt)
made_spends n NoMemory desk old new h s = (tt, tt)
made_spends n Usage desk old new h s = (tt, tt)
made_spends n (Refused r) desk old new h s = (tt, tt)

pub shown_spends : (c : Option Command) (status : Status) (desk : Desk) (old new : Option (List ℕ)) → Shows c status desk old new → HoldsSound desk → SpendsByCost c status desk
shown_spends None status desk old new h s = tt
shown_spends (Some Ir) status desk old new h s = tt
shown_spends (Some (Make n)) status desk old new h s = made_spends n status desk old new h s
shown_spends (Some (Bundle Validate)) status desk old new h s = tt
shown_spends (Some (Bundle Compile)) status desk old new h s = tt
shown_spends (Some (Bundle (Central limit))) status desk old new h s = tt
shown_spends (Some (Bundle (Simulate limit))) status desk old new h s =
    desk_completes limit By_chooser (ShowsDone (Some (Bundle (Simulate limit)))) (λ p old new k. (k.0, k.1, k.2)) (λ p old new k. (k.0, k.1, k.2)) status desk old new h s

-- what `make` answers with its world
pub made_completes : (n : ℕ) (left : Option (List ℕ)) (status : Status) (desk : Desk) (old new : Option (List ℕ)) →
    AnswersWorld (made_text n) By_chooser (made_opening n) 1000000 status desk old new → HoldsSound desk →
    IfSome left (λ bytes. Completes (due_words (Some (Make n)) bytes) status desk)
made_completes n None status desk old new h s = tt
made_completes n (Some bytes) status desk old new h s = world_completes (made_text n) By_chooser (made_opening n) 1000000 status desk old new h s

pub made_leaves : (n : ℕ) (status : Status) (desk : Desk) (old new : Option (List ℕ)) →
    AnswersWorld (made_text n) By_chooser (made_opening n) 1000000 status desk old new → HoldsSound desk → SpendsByCost (Some (Make n)) status desk
made_leaves n status desk old new h s = of_made n status desk (world_completes (made_text n) By_chooser (made_opening n) 1000000 status desk old new h s)

-- the same of `run`
pub shown_run_spends : (o : Option RunOptions) (status : Status) (desk : Desk) (old new : Option (List ℕ)) → ShowsRun o status desk old new → HoldsSound desk →
    RunSpendsByCost o status desk
shown_run_spends None status desk old new h s = tt
shown_run_spends (Some o) status desk old new h s =
    desk_completes o.limit By_workers (ShowsRunDone (Some o)) (λ p old new k. (k.0, k.1, k.2)) (λ p old new k. (k.0, k.1, k.2)) status desk old new h s
