-- Parts of the tests of a well formed flat form.
use Rattle.std.specs.Prelude.{ℕ, suc, nat_lt, ◌&&◌, ◌==◌, if◌then◌else◌, map, List, [], ◌∷◌, Option, Some, None}
use Rattle.asl_model.specs.Data.{Text}
use Rattle.asl_model.specs.Head.{CatcherOf}
use Rattle.unum_ir.specs.declared.func_tests.Tag.{Tag}
use Rattle.unum_ir.specs.declared.func_tests.Tag.TheVariants as tag
use Rattle.unum_ir.specs.Flat.{NodeCatcher, catcher_of}
use Rattle.unum_ir.specs.WellFormed as seen

abbrev pub catcher_errors : List NodeCatcher → List (List Text)
catcher_errors cs = map (λ (c : CatcherOf ℕ). c.errors) (map catcher_of cs)

-- the number after a list that counts up from this number, below that bound; none where it does not
abbrev pub counted_up : (bound at : ℕ) → List ℕ → Option ℕ
counted_up bound at [] = Some at
counted_up bound at (k ∷ ks) = if (k == at) && nat_lt at bound then counted_up bound (suc at) ks else None

abbrev pub tag_view : Tag → seen.Tag
tag_view (tag.Enters scope) = seen.Enters scope
tag_view (tag.Calls node) = seen.Calls node
tag_view (tag.Joins node) = seen.Joins node
