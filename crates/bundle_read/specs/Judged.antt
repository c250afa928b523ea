-- Which bytes are bundles, and what is broken first by those that are not.
--
-- L0 comes before all else, then L1, then the rules of reading in the order of reading. What is read is tried for validity,
-- machine by machine, and then for the rules B1 to B5.
use Rattle.std.specs.Prelude.{◌≡◌, ℕ, nat_lt, List, [], ◌∷◌, length, map, Option, Some, None, Result, Ok, Err, if◌then◌else◌}
use Rattle.serde_json.specs.Data.{Data}
use Rattle.unum_json.specs.Reading.{reading}
use Rattle.asl_read.specs.Objects.{Broken}
use Rattle.asl_read.specs.declared.fault.LRule.TheVariants.{L0, L1}
use Rattle.bundle_read.specs.declared.draft.Draft.{Draft}
use Rattle.bundle_read.specs.declared.kinds.Object.TheVariants.{Bundle}
use Rattle.bundle_read.specs.declared.kinds.Part.TheVariants as part
use Rattle.bundle_read.specs.declared.refusal.RuleCode.TheVariants.{Reading}
use Rattle.bundle_read.specs.declared.refusal.Refusal.{Refusal}
use Rattle.bundle_read.specs.declared.refusal.Refusal.TheVariants.{One}
use Rattle.bundle_read.specs.declared.refusal.BundleError.{BundleError}
use Rattle.bundle_read.specs.declared.refusal.BundleError.TheVariants as error
use Rattle.bundle_read.specs.Faults.{part_faults}
use Rattle.bundle_read.specs.Drafts.{draft_of}
use Rattle.bundle_read.specs.Bounds.{broken_rules}
use Rattle.bundle_read.specs.Accepted.{Accepted, accepted_of}

-- the first of what is broken, or else this
abbrev pub unless_broken : {A : Type 0} → List Refusal → A → Result A Refusal
unless_broken [] x = Ok x
unless_broken (r ∷ rs) x = Err r

abbrev pub refusal_of : Broken → Refusal
refusal_of b = One (Reading b.rule) b.at

-- all the rules of reading that a value breaks, in the order of reading
abbrev pub misread : Data → List Refusal
misread d = map refusal_of (part_faults (part.Object Bundle) d)

abbrev pub judged_draft : Draft → Result Accepted Refusal
judged_draft d = unless_broken (broken_rules d) (accepted_of d)

abbrev pub then_judged : Result Draft Refusal → Result Accepted Refusal
then_judged (Ok d) = judged_draft d
then_judged (Err r) = Err r

abbrev pub judged_data : Option Data → Result Accepted Refusal
judged_data None = Err (One (Reading L1) [])
judged_data (Some d) = then_judged (unless_broken (misread d) (draft_of d))

-- what bytes are judged to be: a bundle, or broken by this first
unfoldable pub judged : List ℕ → Result Accepted Refusal
judged bytes = if nat_lt 4194304 (length bytes) then Err (One (Reading L0) []) else judged_data (reading bytes)

-- what a reader of bundles answers, unless memory runs out
abbrev pub Judges : Result Accepted BundleError → Result Accepted Refusal → Type 0
Judges (Ok b) due = due ≡ Ok b
Judges (Err (error.Refused r)) due = due ≡ Err r
Judges (Err error.NoMemory) due = Unit {0}
