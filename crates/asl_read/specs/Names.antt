-- The fields that the profile leaves out by name.
-- Source: Amazon States Language, "Task State", "Map State", "Fail State", "Choice State" and "Data Transformation".
use Rattle.std.specs.Prelude.{nat_eq, Bool, true, false, ◌||◌, List, [], ◌∷◌, codes}
use Rattle.std.specs.List.{starts_with}
use Rattle.std.specs.Str.{bytes_eq}
use Rattle.asl_read.specs.Objects.{Key}
use Rattle.asl_read.specs.declared.objects.LeftOut.{LeftOut}
use Rattle.asl_read.specs.declared.objects.LeftOut.TheVariants.{Nothing, Names, Operators, Everything}

-- the text is one of these names
abbrev pub named : List Key → Key → Bool
named [] k = false
named (n ∷ ns) k = bytes_eq n k || named ns k

abbrev pub names_left_out : List Key
names_left_out =
    codes "Credentials" ∷ codes "TimeoutSecondsPath" ∷ codes "HeartbeatSecondsPath" ∷ codes "MaxConcurrencyPath"
    ∷ codes "ItemReader" ∷ codes "ItemBatcher" ∷ codes "ResultWriter" ∷ codes "Label" ∷ codes "ToleratedFailureCount"
    ∷ codes "ToleratedFailureCountPath" ∷ codes "ToleratedFailurePercentage" ∷ codes "ToleratedFailurePercentagePath"
    ∷ codes "ErrorPath" ∷ codes "CausePath" ∷ codes "Assign" ∷ codes "Arguments" ∷ codes "Items" ∷ codes "Output" ∷ []

-- an operator on timestamps
abbrev pub is_timestamp : Key → Bool
is_timestamp k = bytes_eq k (codes "IsTimestamp") || starts_with nat_eq k (codes "Timestamp")

-- a field that is in no table
abbrev pub left_out : LeftOut → Key → Bool
left_out Nothing k = false
left_out Names k = named names_left_out k
left_out Operators k = is_timestamp k || named names_left_out k
left_out Everything k = true
