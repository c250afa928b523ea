-- The rules of validity, and the list of all that a machine breaks.
-- Source: Amazon States Language, "Structure of a State Machine", "States", "Transitions", "Choice State", "Parallel State",
-- "Map State" and "Errors". The bounds are this project's own.
use Rattle.std.specs.Prelude.{ℕ, suc, ◌+◌, Bool, true, false, not, ◌&&◌, ◌||◌, ◌==◌, nat_lt, ◌≡◌, ◌↔◌, ◌⊎◌, ◌<◌, ◌≤◌, slice_get, map, filter, flat_map, is_some, if◌then◌else◌, length, List, [], ◌∷◌, ◌++◌, Option, Some, None}
use Rattle.std.specs.Bool.{beq}
use Rattle.std.specs.List.{list_any}
use Rattle.std.specs.Str.{chars, bytes_eq}
use Rattle.asl_model.specs.declared.validity.VRule.{VRule}
use Rattle.asl_model.specs.declared.validity.VRule.TheVariants.{V1, V2, V3, V4, V5, V6, V7, V8, V9, V10, V11}
use Rattle.asl_model.specs.declared.validity.BrokenRule.{BrokenRule}
use Rattle.asl_model.specs.Data.{Text, all_errors}
use Rattle.asl_model.specs.Head.{Head, HTask, HPass, HChoice, HSucceed, HFail, HParallel, HMap, CareOf, CatcherOf, Retrier}
use Rattle.asl_model.specs.Machine.{Block, State, Task, Pass, Choice, Parallel, Map, After, TopRule, Care, Catcher, start_of, state_of, blocks_in, head_of, care_of, limit_of, depth}
use Rattle.asl_model.specs.Laws.{In}
use Rattle.asl_model.specs.Blocks.{Nested, Row, nested, blocks, rows, nodes}

abbrev pub has_state : Block → Text → Bool
has_state b name = is_some (state_of b name)

-- where a state may go
abbrev pub one_or_none : {L : Type 0} → Option L → List L
one_or_none None = []
one_or_none (Some l) = l ∷ []

abbrev pub catch_labels : {L : Type 0} → CareOf L → List L
catch_labels care = map (λ c. c.next) care.catch

abbrev pub labels : {R L : Type 0} → Head R L → List L
labels (HTask shape r after care) = one_or_none after ++ catch_labels care
labels (HPass shape result after) = one_or_none after
labels (HChoice shape rules nexts default) = nexts ++ one_or_none default
labels (HSucceed shape) = []
labels (HFail error cause) = []
labels (HParallel shape n after care) = one_or_none after ++ catch_labels care
labels (HMap shape items selector after care) = one_or_none after ++ catch_labels care

-- a Next, a rule's Next, Default or a catcher's Next is no state of the same block
abbrev pub is_lost : Block → State → Bool
is_lost b s = list_any (λ name. not (has_state b name)) (labels (head_of s))

abbrev pub stands_in : Text → List Block → Bool
stands_in name bs = list_any (λ b. has_state b name) bs

-- a name is empty or has more than 80 characters
abbrev pub is_misnamed : Text → Bool
is_misnamed name = (length (chars name) == 0) || nat_lt 80 (length (chars name))

abbrev pub is_undecided : After → Bool
is_undecided after = beq (is_some after.next) after.end

-- not exactly one of Next and End true
abbrev pub lacks_after : State → Bool
lacks_after (Task shape resource after care) = is_undecided after
lacks_after (Pass shape result after) = is_undecided after
lacks_after (Parallel shape bs after care) = is_undecided after
lacks_after (Map shape items selector b after care limit) = is_undecided after
lacks_after _ = false

abbrev pub lacks_choices : State → Bool
lacks_choices (Choice shape rules default) = length rules == 0
lacks_choices _ = false

-- Branches is empty or has more than 100
abbrev pub has_bad_branches : State → Bool
has_bad_branches (Parallel shape bs after care) = (length (blocks_in bs) == 0) || nat_lt 100 (length (blocks_in bs))
has_bad_branches _ = false

abbrev pub has_inner : State → Bool
has_inner (Parallel shape bs after care) = nat_lt 0 (length (blocks_in bs))
has_inner (Map shape items selector b after care limit) = true
has_inner _ = false

-- the block of a branch or item body has depth above 8
abbrev pub is_too_deep : ℕ → State → Bool
is_too_deep depth s = has_inner s && nat_lt 8 (depth + 1)

-- an ErrorEquals is empty, or States.ALL stands beside another name, or not in the last of the list
abbrev pub has_bad_errors : List (List Text) → Bool
has_bad_errors [] = false
has_bad_errors (names ∷ later) =
    (length names == 0)
    || (list_any (λ name. bytes_eq name all_errors) names && (nat_lt 1 (length names) || nat_lt 0 (length later)))
    || has_bad_errors later

-- what a state's retriers and catchers may not be
abbrev pub has_bad_care : State → Bool
has_bad_care s =
    has_bad_errors (map (λ (r : Retrier). r.errors) (care_of s).retry)
    || has_bad_errors (map (λ (c : CatcherOf Text). c.errors) (care_of s).catch)
    || list_any (λ (r : Retrier). nat_lt 99999999 r.most) (care_of s).retry
    || nat_lt 16 (length (care_of s).retry)
    || nat_lt 16 (length (care_of s).catch)

-- MaxConcurrency is not from 0 to 1,000,000
abbrev pub has_bad_limit : State → Bool
has_bad_limit s = nat_lt 1000000 (limit_of s)

abbrev pub Broken : Type 0
Broken = List BrokenRule

abbrev pub names_rule : VRule → Text → BrokenRule
names_rule rule name = record { rule = rule; state = name }

abbrev pub broken_if : Bool → VRule → Text → Broken
broken_if test rule name = if test then names_rule rule name ∷ [] else []

-- the rule with the name of each state of the block that breaks it
abbrev pub broken_in : VRule → (Row → Bool) → Block → Broken
broken_in rule test b = map (λ (r : Row). names_rule rule r.0) (filter test (rows b))

-- the rule with the name of each state that breaks it, by block and then by name
abbrev pub broken_at : VRule → (Nested → State → Bool) → Block → Broken
broken_at rule test root = flat_map (λ n. broken_in rule (λ r. test n r.1) n.block) (nested root)

-- a name that stands in a later block and in no earlier one
abbrev pub shared_names : List Block → List Block → Broken
shared_names earlier [] = []
shared_names earlier (b ∷ later) =
    broken_in V3 (λ r. not (stands_in r.0 earlier) && stands_in r.0 later) b ++ shared_names (b ∷ earlier) later

-- all broken pairs of rule and state, by rule, then by block, then by name
abbrev pub broken : Block → Broken
broken root =
    flat_map (λ b. broken_if (not (has_state b (start_of b))) V1 (start_of b)) (blocks root)
    ++ broken_at V2 (λ n s. is_lost n.block s) root
    ++ shared_names [] (blocks root)
    ++ flat_map (λ b. broken_in V4 (λ r. is_misnamed r.0) b) (blocks root)
    ++ broken_at V5 (λ n s. lacks_after s) root
    ++ broken_at V6 (λ n s. lacks_choices s) root
    ++ broken_at V7 (λ n s. has_bad_branches s) root
    ++ broken_at V8 (λ n s. is_too_deep n.depth s) root
    ++ broken_if (nat_lt 1000 (length (nodes root))) V9 (start_of root)
    ++ broken_at V10 (λ n s. has_bad_care s) root
    ++ broken_at V11 (λ n s. has_bad_limit s) root

-- ---- what a valid machine is, in words of its own

abbrev pub HasState : Block → Text → Type 0
HasState b name = (s : State) × (state_of b name ≡ Some s)

-- a fact of each state, with the depth of its block
abbrev pub EachState : Block → (Nested → Row → Type 0) → Type 0
EachState root P = (n : Nested) → In n (nested root) → (r : Row) → In r (rows n.block) → P n r

-- a catcher leads to the state of that name
abbrev pub CatchesTo : Care → Text → Type 0
CatchesTo care name = (c : Catcher) × In c care.catch × (c.next ≡ name)

-- a state leads to the state of that name: by its Next, a rule's Next, its Default or a catcher's Next
abbrev pub LeadsTo : State → Text → Type 0
LeadsTo (Task shape resource after care) name = (after.next ≡ Some name) ⊎ CatchesTo care name
LeadsTo (Pass shape result after) name = after.next ≡ Some name
LeadsTo (Choice shape rules default) name = ((r : TopRule) × In r rules × (r.next ≡ name)) ⊎ (default ≡ Some name)
LeadsTo (Parallel shape bs after care) name = (after.next ≡ Some name) ⊎ CatchesTo care name
LeadsTo (Map shape items selector b after care limit) name = (after.next ≡ Some name) ⊎ CatchesTo care name
LeadsTo _ name = ⊥

-- exactly one of Next and End
abbrev pub IsDecided : After → Type 0
IsDecided after = (is_some after.next ≡ true) ↔ (after.end ≡ false)

abbrev pub HasOneAfter : State → Type 0
HasOneAfter (Task shape resource after care) = IsDecided after
HasOneAfter (Pass shape result after) = IsDecided after
HasOneAfter (Parallel shape bs after care) = IsDecided after
HasOneAfter (Map shape items selector b after care limit) = IsDecided after
HasOneAfter _ = Unit {0}

-- what a Choice and a Parallel have
abbrev pub HasParts : State → Type 0
HasParts (Choice shape rules default) = 0 < length rules
HasParts (Parallel shape bs after care) = (0 < length (blocks_in bs)) × (length (blocks_in bs) ≤ 100)
HasParts _ = Unit {0}

-- the error names of a state's retriers, or of its catchers: each has one, and States.ALL stands alone and in the last
pub record AreNamed (lists : List (List Text)) : Type 0 where
  pub some_name : (names : List Text) → In names lists → 0 < length names
  pub alone : (names : List Text) → In names lists → In all_errors names → names ≡ all_errors ∷ []
  pub last : (i : ℕ) (names : List Text) → slice_get lists i ≡ Some names → In all_errors names → suc i ≡ length lists

-- what a state's retriers and catchers are
pub record IsCareful (care : Care) : Type 0 where
  pub retriers : AreNamed (map (λ (r : Retrier). r.errors) care.retry)
  pub catchers : AreNamed (map (λ (c : Catcher). c.errors) care.catch)
  pub attempts : (r : Retrier) → In r care.retry → r.most ≤ 99999999
  pub few_retriers : length care.retry ≤ 16
  pub few_catchers : length care.catch ≤ 16

pub record IsValid (root : Block) : Type 0 where
  pub starts : (b : Block) → In b (blocks root) → HasState b (start_of b)
  pub goes : EachState root (λ n r. (name : Text) → LeadsTo r.1 name → HasState n.block name)
  pub apart : (i j : ℕ) (b c : Block) → i < j → slice_get (blocks root) i ≡ Some b → slice_get (blocks root) j ≡ Some c →
      (name : Text) → In name (map (λ (r : Row). r.0) (rows b)) → HasState c name → ⊥
  pub named : EachState root (λ n r. (0 < length (chars r.0)) × (length (chars r.0) ≤ 80))
  pub decided : EachState root (λ n r. HasOneAfter r.1)
  pub parts : EachState root (λ n r. HasParts r.1)
  pub shallow : depth root ≤ 8
  pub few : length (nodes root) ≤ 1000
  pub careful : EachState root (λ n r. IsCareful (care_of r.1))
  pub limited : EachState root (λ n r. limit_of r.1 ≤ 1000000)

-- what breaks no rule is valid
abbrev pub NothingBroken : Type 0
NothingBroken = (root : Block) → broken root ≡ [] → IsValid root

-- what is valid breaks no rule
abbrev pub BreaksNothing : Type 0
BreaksNothing = (root : Block) → IsValid root → broken root ≡ []
