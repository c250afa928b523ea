-- What a proof about worlds may use of the central run: these laws and no definition.
use Rattle.std.specs.Prelude.{◌≡◌, ◌≢◌, ◌⊎◌, ℕ, slice_get, length, List, Some}
use Rattle.asl_model.specs.Data.{Json}
use Rattle.asl_model.specs.Names.{Scope, Place, at_hop, scope_of, child, Answers}
use Rattle.asl_model.specs.Machine.{Used, Block, State, state_of, limit_of}
use Rattle.asl_model.specs.Step.{Ways, Fans}
use Rattle.asl_model.specs.Central.{Entered, Visit, scope}
use Rattle.asl_model.specs.Stretch.{children}
use Rattle.asl_model.specs.Data.{Text}
use Rattle.asl_model.specs.Laws.{In, IsSound, Growth, Next, OneVisit, EndKept, FanKept, JoinReady, LeadsTo}

-- a scope's run has its Enter
abbrev pub Enters : Ways → Type 0
Enters W = (A : Answers) (b : Block) (s : Scope) (x : Json) →
    (v : Visit) × In v (scope W A b s x).visits × (v.place ≡ at_hop s 0) × (v.block ≡ b) × (v.visited ≡ Entered) × (v.given ≡ x)

-- each visit is as its kind says
abbrev pub Sound : Ways → Type 0
Sound W = (A : Answers) (b : Block) (s : Scope) (x : Json) (v : Visit) → In v (scope W A b s x).visits → IsSound W A v v.visited

-- a place has one fan
pub record SameFan (fb gb : Block) (name other : Text) (raw more : Json) (used again : Used) (cs ds : List (Block × Json)) : Type 0 where
  pub block : fb ≡ gb
  pub name_is : name ≡ other
  pub raw_is : raw ≡ more
  pub used_is : used ≡ again
  pub branches : cs ≡ ds

abbrev pub OneFan : Ways → Type 0
OneFan W = (A : Answers) (b : Block) (s : Scope) (x : Json) (p : Place) (fb gb : Block) (name other : Text) (raw more : Json)
    (used again : Used) (cs ds : List (Block × Json)) →
    LeadsTo W A (scope W A b s x).visits p fb name raw used cs → LeadsTo W A (scope W A b s x).visits p gb other more again ds →
    SameFan fb gb name other raw more used again cs ds

-- the branches of a fan are those of its state, with the inputs that its raw data give
abbrev pub FanIs : Ways → Type 0
FanIs W = (A : Answers) (b : Block) (s : Scope) (x : Json) (p : Place) (fb : Block) (name : Text) (raw : Json) (used : Used)
    (cs : List (Block × Json)) →
    LeadsTo W A (scope W A b s x).visits p fb name raw used cs →
    (st : State) × (inputs : List Json) × (state_of fb name ≡ Some st) × (W.begin name st raw ≡ Fans inputs) × (cs ≡ children st inputs)

-- a visit's scope is a branch of a fan that an answer leads to
pub record IsBranchOf (W : Ways) (A : Answers) (vs : List Visit) (v : Visit) : Type 0 where
  pub place : Place
  pub block : Block
  pub name : Text
  pub raw : Json
  pub used : Used
  pub branches : List (Block × Json)
  pub index : ℕ
  pub inner : Block
  pub input : Json
  pub leads : LeadsTo W A vs place block name raw used branches
  pub item : slice_get branches index ≡ Some (inner, input)
  pub scope_is : scope_of v.place ≡ child place index (length branches)

-- each visit stands in the scope itself, or in such a branch
abbrev pub Sites : Ways → Type 0
Sites W = (A : Answers) (b : Block) (s : Scope) (x : Json) (v : Visit) → In v (scope W A b s x).visits →
    (scope_of v.place ≡ s) ⊎ IsBranchOf W A (scope W A b s x).visits v

pub record Lawful (W : Ways) : Type 0 where
  pub growth : Growth W
  pub enters : Enters W
  pub sound : Sound W
  pub next : Next W
  pub one : OneVisit W
  pub end_kept : EndKept W
  pub fan_kept : FanKept W
  pub join_ready : JoinReady W
  pub one_fan : OneFan W
  pub fan_is : FanIs W
  pub sites : Sites W

-- an input of a fan's branch is that with its index
abbrev pub InputAt : Type 0
InputAt = (st : State) (inputs : List Json) (i : ℕ) (c : Block) (x : Json) → slice_get (children st inputs) i ≡ Some (c, x) →
    slice_get inputs i ≡ Some x

-- all branches of a fan with a limit are the same block
abbrev pub OneBody : Type 0
OneBody = (st : State) (inputs : List Json) → limit_of st ≢ 0 → (i k : ℕ) (c d : Block) (x y : Json) →
    slice_get (children st inputs) i ≡ Some (c, x) → slice_get (children st inputs) k ≡ Some (d, y) → c ≡ d
