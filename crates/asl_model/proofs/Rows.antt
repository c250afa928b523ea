-- The limits, and the data flow of small machines.
use Rattle.std.proofs.lemmas.Bool.{le-leb, lt-leb}
use Rattle.std.proofs.lemmas.List.Sums.{sum_by-cons}
use Rattle.std.proofs.Common.{◌≡◌, ℕ, zero, suc, arith, ◌+◌, List, [], ◌∷◌, map, sum, length, Option, Some, None, Ok, refl, ap, ◌∙◌, ◌++◌, rules, true, false, codes}
use Rattle.std.specs.Prelude.{ℤ, pos, nat_le}
use Rattle.unum_json.specs.declared.value.Json.{the_lemmas, out-Json}
use Rattle.unum_json.specs.declared.value.Json as json
use Rattle.unum_json.specs.declared.value.Json.TheOpen.{Json-F}
use Rattle.unum_json.specs.Tree.{nodes, depth, text_nodes, fields_sum, largest, largest_value, on_values}
use Rattle.asl_paths.specs.Lookup.{get}
use Rattle.choice_rules.specs.declared.rule.Op.{Op}
use Rattle.choice_rules.specs.declared.rule.Rule.{the_lemmas as rule_lemmas}
use Rattle.choice_rules.specs.declared.rule.Rule as rule
use Rattle.choice_rules.specs.Evaluating.{matches, tested}
use Rattle.asl_model.specs.Data.{Text, Json, Outcome, Done, Path, same_text, hop_limit_error, item_limit, item_limit_error, data_limit, no_choice, path_failure, prepared, handed_on, output, chosen, parallel_inputs, map_inputs, match_error, put_error, outputs, combine, repeat}
use Rattle.asl_model.specs.Names.{Place, answers_of}
use Rattle.asl_model.specs.Sequential.{first_open, so_far, answer_first, answering, resource_in}
use Rattle.asl_model.specs.Step.{standard}
use Rattle.asl_model.specs.Central.{Called, Visit, Run, Ended, scope, hop_limit}
use Rattle.asl_model.specs.Examples.{whole, null, below, one_task}
use Rattle.asl_model.specs.RunLimits.{HopsEnd, StretchEnds, ItemsEnd, InputsEnd, OutcomesEnd}
use Rattle.asl_model.specs.Flows.{both, ticket, ChoiceSeesInside, ChoiceFindsNothing, PassHandsOn, StateIsCause, CatcherPuts, TicketsInOrder}

pub hops : HopsEnd
unfolding scope hop_limit same_text hop_limit_error
hops = (refl, refl)

pub stretch_ends : StretchEnds
unfolding hop_limit hop_limit_error
stretch_ends W b name resource s x v again is begin = (rw (is, begin) refl, refl)

out-Null : out-Json json.Null ≡ Json-F.Null
out-Null = search (rules, the_lemmas)

out-Arr : (vs : List Json) → out-Json (json.Arr vs) ≡ Json-F.Arr vs
out-Arr vs = search (rules, the_lemmas)

out-Obj : (fs : List (List ℕ × Json)) → out-Json (json.Obj fs) ≡ Json-F.Obj fs
out-Obj fs = search (rules, the_lemmas)

nodes-Null : nodes json.Null ≡ 1
nodes-Null = search (rules, the_lemmas)

nodes-Int : (i : ℤ) → nodes (json.Int i) ≡ 1
nodes-Int i = search (rules, the_lemmas)

nodes-Str : (s : Text) → nodes (json.Str s) ≡ 1 + text_nodes s
nodes-Str s = search (rules, the_lemmas)

nodes-Arr : (vs : List Json) → nodes (json.Arr vs) ≡ 1 + sum (map nodes vs)
nodes-Arr vs = search (rules, the_lemmas)

nodes-Obj : (fs : List (List ℕ × Json)) → nodes (json.Obj fs) ≡ 1 + fields_sum (on_values nodes fs)
nodes-Obj fs = search (rules, the_lemmas)

depth-Null : depth json.Null ≡ 0
depth-Null = search (rules, the_lemmas)

depth-Int : (i : ℤ) → depth (json.Int i) ≡ 0
depth-Int i = search (rules, the_lemmas)

depth-Str : (s : Text) → depth (json.Str s) ≡ 0
depth-Str s = search (rules, the_lemmas)

depth-Arr : (vs : List Json) → depth (json.Arr vs) ≡ largest (map depth vs) + 1
depth-Arr vs = search (rules, the_lemmas)

depth-Obj : (fs : List (List ℕ × Json)) → depth (json.Obj fs) ≡ largest_value (on_values depth fs) + 1
depth-Obj fs = search (rules, the_lemmas)

-- ---- limits

pub items : ItemsEnd
unfolding map_inputs item_limit item_limit_error
items vs = (λ few small. rw (out-Arr, few, small) refl, λ many. rw (out-Arr, many) refl)

-- so many nulls have so many nodes
nodes_nulls : (n : ℕ) → sum (map nodes (repeat n null)) ≡ n
nodes_nulls zero = refl
nodes_nulls (suc n) = omega (arith, sum_by-cons (λ x. x) (nodes null) (map nodes (repeat n null)), nodes-Null, nodes_nulls n)

nulls_fit : (n : ℕ) → n ≡ 199999 → nat_le (nodes (json.Arr (repeat n null))) 200000 ≡ true
nulls_fit n is = le-leb _ _ (rw (nodes-Arr (repeat n null)) (omega (arith, nodes_nulls n)))

nulls_pass : (n : ℕ) → n ≡ 200000 → nat_le (nodes (json.Arr (repeat n null))) 200000 ≡ false
nulls_pass n is = lt-leb _ _ (rw (nodes-Arr (repeat n null)) (omega (arith, nodes_nulls n)))

pub inputs : InputsEnd
unfolding map_inputs item_limit parallel_inputs data_limit
inputs = (λ vs few many. rw (out-Arr, few, many) refl, λ n is. rw (nulls_fit n is) refl, λ n is. rw (nulls_pass n is) refl)

all_done : (vs : List Json) → outputs (map Done vs) ≡ Ok vs
all_done [] = refl
all_done (v ∷ vs) = rw (all_done vs) refl

pub outcomes : OutcomesEnd
unfolding combine data_limit
outcomes name vs = (λ few flat. rw (all_done vs, few, flat) refl, λ many. rw (all_done vs, many) refl, λ few deep. rw (all_done vs, few, deep) refl)

-- ---- flows

rule-Test : (variable : Path) (op : Op) (value : Json) → matches (rule.Test variable op) value ≡ tested op value (get variable value)
rule-Test variable op value = search (rules, rule_lemmas)

ruleset layers = (rule-Test, out-Null, out-Obj, out-Arr, nodes-Null, nodes-Int, nodes-Str, nodes-Arr, nodes-Obj, depth-Null, depth-Int, depth-Str, depth-Arr, depth-Obj)

pub choice_sees : ChoiceSeesInside
unfolding prepared output chosen path_failure
choice_sees = simp layers

pub choice_finds_nothing : ChoiceFindsNothing
unfolding prepared output chosen path_failure no_choice
choice_finds_nothing = simp layers

pub pass_hands_on : PassHandsOn
unfolding prepared handed_on
pass_hands_on = (simp layers, simp layers)

pub state_is_cause : StateIsCause
unfolding prepared
state_is_cause = simp layers

pub catcher_puts : CatcherPuts
unfolding match_error put_error
catcher_puts = simp layers

-- what the states of the two tickets do with their data
prepared_null : prepared whole null ≡ Ok null
unfolding prepared
prepared_null = simp layers

two_nulls : parallel_inputs 2 null ≡ Ok (null ∷ null ∷ [])
unfolding parallel_inputs
two_nulls = simp layers

handed_number : (n : ℤ) → handed_on whole null (json.Int n) ≡ Ok (json.Int n)
unfolding handed_on
handed_number n = simp layers

abbrev both_tickets : Json
both_tickets = json.Arr (json.Int (pos 0) ∷ json.Int (pos 1) ∷ [])

handed_tickets : handed_on whole null both_tickets ≡ Ok both_tickets
unfolding handed_on
handed_tickets = simp layers

combined_tickets : combine (codes "P") (Done (json.Int (pos 0)) ∷ Done (json.Int (pos 1)) ∷ []) ≡ Done both_tickets
unfolding combine
combined_tickets = simp layers

abbrev answered : List (Place × Outcome) → Run
answered es = so_far both 0 null ticket es

abbrev task_at : ℕ → Option Outcome → Visit
task_at index answer = record { place = below 0 index 2 0; block = one_task (codes "A"); visited = Called (codes "A") (codes "f"); raw = null; used = []; given = null; answer = answer }

abbrev answer_at : ℕ → Place × Outcome
answer_at index = (below 0 index 2 0, Done (json.Int (pos index)))

module _ (k : ℕ) (is : hop_limit ≡ suc k) where
  first_waits : first_open (answered []).visits ≡ Some (task_at 0 None)
  unfolding standard scope same_text answers_of
  first_waits = simp (is, prepared_null, two_nulls)

  second_waits : first_open (answered (answer_at 0 ∷ [])).visits ≡ Some (task_at 1 None)
  unfolding standard scope same_text answers_of
  second_waits = simp (is, prepared_null, two_nulls, handed_number)

  none_waits : first_open (answered (answer_at 0 ∷ answer_at 1 ∷ [])).visits ≡ None
  unfolding standard scope same_text answers_of
  none_waits = simp (is, prepared_null, two_nulls, handed_number, combined_tickets, handed_tickets)

  run_ends : (answered (answer_at 0 ∷ answer_at 1 ∷ [])).end ≡ Ended (Done both_tickets)
  unfolding standard scope same_text answers_of
  run_ends = rw (is, prepared_null, two_nulls, prepared_null, handed_number (pos 0), handed_number (pos 1), combined_tickets, handed_tickets) refl

abbrev answering_on : ℕ → List (Place × Outcome) → Run
answering_on n es = answering both 0 null ticket n es

-- an answer to the first that waits
one_more : (n : ℕ) (es : List (Place × Outcome)) (v : Visit) → first_open (answered es).visits ≡ Some v →
    answering_on (suc n) es ≡ answering_on n (es ++ (v.place, ticket (resource_in v.visited) v.given (length es)) ∷ [])
one_more n es v e = ap (λ o. answer_first both 0 null ticket es o (λ more. answering_on n more)) e

no_more : (n : ℕ) (es : List (Place × Outcome)) → first_open (answered es).visits ≡ None → answering_on n es ≡ answered es
no_more zero es e = refl
no_more (suc n) es e = ap (λ o. answer_first both 0 null ticket es o (λ more. answering_on n more)) e

abbrev both_answers : List (Place × Outcome)
both_answers = answer_at 0 ∷ answer_at 1 ∷ []

some_hops : hop_limit ≡ suc 1999
unfolding hop_limit
some_hops = refl

twice_answered : (n : ℕ) → answering_on (suc (suc n)) [] ≡ answered both_answers
twice_answered n =
    one_more (suc n) [] (task_at 0 None) (first_waits 1999 some_hops)
    ∙ one_more n (answer_at 0 ∷ []) (task_at 1 None) (second_waits 1999 some_hops)
    ∙ no_more n both_answers (none_waits 1999 some_hops)

pub tickets_in_order : TicketsInOrder
tickets_in_order = ap (λ (r : Run). r.end) (twice_answered _) ∙ run_ends 1999 some_hops
