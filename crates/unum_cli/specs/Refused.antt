-- The text of a refusal.
use Rattle.std.specs.Prelude.{ℕ, List, ◌++◌, flat_map, codes}
use Rattle.unum_json.specs.Written.{quoted}
use Rattle.asl_model.specs.declared.validity.VRule.{VRule}
use Rattle.asl_model.specs.declared.validity.VRule.TheVariants.{V1, V2, V3, V4, V5, V6, V7, V8, V9, V10, V11}
use Rattle.asl_read.specs.Checks.{rule_name}
use Rattle.ir_text.specs.Reads.{rule_name as flat_name}
use Rattle.bundle_read.specs.declared.refusal.BRule.{BRule}
use Rattle.bundle_read.specs.declared.refusal.BRule.TheVariants.{B1, B2, B3, B4, B5}
use Rattle.bundle_read.specs.declared.refusal.RuleCode.{RuleCode}
use Rattle.bundle_read.specs.declared.refusal.RuleCode.TheVariants.{Reading, Bundle, Flat}
use Rattle.bundle_read.specs.declared.refusal.BrokenPair.{BrokenPair}
use Rattle.bundle_read.specs.declared.refusal.Refusal.{Refusal}
use Rattle.bundle_read.specs.declared.refusal.Refusal.TheVariants.{One, Many}

abbrev pub bundle_name : BRule → List ℕ
bundle_name B1 = codes "B1"
bundle_name B2 = codes "B2"
bundle_name B3 = codes "B3"
bundle_name B4 = codes "B4"
bundle_name B5 = codes "B5"

abbrev pub code_name : RuleCode → List ℕ
code_name (Reading rule) = rule_name rule
code_name (Bundle rule) = bundle_name rule
code_name (Flat rule) = flat_name rule

abbrev pub valid_name : VRule → List ℕ
valid_name V1 = codes "V1"
valid_name V2 = codes "V2"
valid_name V3 = codes "V3"
valid_name V4 = codes "V4"
valid_name V5 = codes "V5"
valid_name V6 = codes "V6"
valid_name V7 = codes "V7"
valid_name V8 = codes "V8"
valid_name V9 = codes "V9"
valid_name V10 = codes "V10"
valid_name V11 = codes "V11"

-- a line with the rule, the machine and the state
abbrev pub pair_text : BrokenPair → List ℕ
pair_text p = codes "refused " ++ valid_name p.rule ++ codes " " ++ quoted p.machine ++ codes " " ++ quoted p.state ++ codes "\n"

-- a line with the rule and the place, or one for each broken pair; names and places are JSON texts
abbrev pub refusal_text : Refusal → List ℕ
refusal_text (One rule at) = codes "refused " ++ code_name rule ++ codes " " ++ quoted at ++ codes "\n"
refusal_text (Many pairs) = flat_map pair_text pairs
