-- Small machines, and what their reading comes to.
use Rattle.std.specs.Prelude.{◌≡◌, ℕ, List, [], ◌∷◌, Some, None, codes, Float}
use Rattle.serde_json.specs.Data.{Data, null, number, string, object, float, Members, no_members, member}
use Rattle.unum_json.specs.Whole.{Place}
use Rattle.asl_model.specs.declared.machine.State.TheVariants as state
use Rattle.asl_read.specs.Objects.{Key}
use Rattle.asl_read.specs.Checks.{first}
use Rattle.asl_read.specs.Faults.{machine_faults}
use Rattle.asl_read.specs.Machines.{machine_of}
use Rattle.asl_read.specs.declared.fault.LRule.{LRule}
use Rattle.asl_read.specs.declared.fault.LRule.TheVariants.{L4, L5, L8}

abbrev pub members_from : List (Key × Data) → Members
members_from [] = no_members
members_from (f ∷ fs) = member f.0 f.1 (members_from fs)

abbrev pub an_object : List (Key × Data) → Data
an_object fs = object (members_from fs)

-- a machine of one state with that name
abbrev pub only : Key → Data → Data
only name s = an_object ((codes "StartAt", string name) ∷ (codes "States", an_object ((name, s) ∷ [])) ∷ [])

abbrev pub a_type : List ℕ → Key × Data
a_type t = (codes "Type", string t)

abbrev pub IsRefused : Data → LRule → Place → Type 0
IsRefused d rule at = first (machine_faults d) ≡ Some (record { rule = rule; at = at })

-- an unknown field is found before the missing Resource
abbrev pub UnknownBeforeMissing : Type 0
UnknownBeforeMissing = IsRefused (only (codes "A") (an_object ((codes "Foo", null) ∷ a_type (codes "Task") ∷ []))) L4
    (codes "/States/A/Foo")

abbrev pub WaitIsLeftOut : Type 0
WaitIsLeftOut = IsRefused (only (codes "W") (an_object (a_type (codes "Wait") ∷ []))) L5 (codes "/States/W/Type")

-- an Iterator stands beside an ItemProcessor, whatever both are
abbrev pub NeverBoth : Type 0
NeverBoth = IsRefused
    (only (codes "M") (an_object ((codes "ItemProcessor", null) ∷ (codes "Iterator", null) ∷ a_type (codes "Map") ∷ [])))
    L4 (codes "/States/M/Iterator")

-- a number with a point is not whole
abbrev pub FloatIsNotWhole : Type 0
FloatIsNotWhole = (x : Float) →
    IsRefused (only (codes "P") (an_object ((codes "Result", number (float x)) ∷ a_type (codes "Pass") ∷ []))) L8
    (codes "/States/P/Result")

abbrev pub succeed : Data
succeed = only (codes "A") (an_object ((codes "OutputPath", null) ∷ a_type (codes "Succeed") ∷ []))

-- an OutputPath of null is read as none, and a missing InputPath as `$`
abbrev pub NullIsNoPath : Type 0
NullIsNoPath =
    (machine_faults succeed ≡ [])
    × (machine_of succeed ≡ record {
      root = record {
        start = codes "A";
        states =
            (codes "A", state.Succeed (record { input = Some []; parameters = None; selector = None; result = Some []; output = None }))
            ∷ [];
      };
    })
