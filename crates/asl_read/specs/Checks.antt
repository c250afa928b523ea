-- What a check answers.
use Rattle.std.specs.Prelude.{◌≡◌, ℕ, List, [], ◌∷◌, Option, Some, None, Result, Ok, Err, codes}
use Rattle.asl_read.specs.Objects.{Broken}
use Rattle.asl_read.specs.declared.fault.LRule.{LRule}
use Rattle.asl_read.specs.declared.fault.LRule.TheVariants.{L0, L1, L2, L3, L4, L5, L6, L7, L8}
use Rattle.asl_read.specs.declared.fault.ReadFault.{ReadFault}
use Rattle.asl_read.specs.declared.fault.ReadFault.TheVariants as fault

-- the first in reading order
abbrev pub first : List Broken → Option Broken
first [] = None
first (b ∷ bs) = Some b

-- The refusal is the first of the broken rules, in the order of reading, and there is none where no rule is broken.
-- Memory may always run out.
abbrev pub Checks : {A : Type 0} → Result A ReadFault → List Broken → Type 0
Checks (Ok done) due = due ≡ []
Checks (Err (fault.Refused rule at)) due = first due ≡ Some (record { rule = rule; at = at })
Checks (Err fault.NoMemory) due = Unit {0}

abbrev pub rule_name : LRule → List ℕ
rule_name L0 = codes "L0"
rule_name L1 = codes "L1"
rule_name L2 = codes "L2"
rule_name L3 = codes "L3"
rule_name L4 = codes "L4"
rule_name L5 = codes "L5"
rule_name L6 = codes "L6"
rule_name L7 = codes "L7"
rule_name L8 = codes "L8"
