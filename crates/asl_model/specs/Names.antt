-- Places in a run, and the answers that a run is on.
use Rattle.std.specs.Prelude.{◌≡◌, ℕ, List, [], ◌∷◌, Option, Some, None, if◌then◌else◌}
use Rattle.unum_json.specs.declared.outcome.Outcome.{Outcome}
pub use Rattle.place_name.specs.Names.{Seg, Scope, Place, Name, scope_of}
use Rattle.place_name.specs.Names.{child_of}
use Rattle.place_name.specs.Same.{place_same}
pub use Rattle.place_name.specs.declared.kind.Kind.{Kind}
pub use Rattle.place_name.specs.declared.kind.Kind.TheVariants.{Enter, Task, Join}

-- the place in this scope at this hop
abbrev pub at_hop : Scope → ℕ → Place
at_hop s hop = record { session = s.session; trail = s.trail; hop = hop }

-- the scope of a branch of the fan at this place
abbrev pub child : Place → ℕ → ℕ → Scope
child p index count = scope_of (child_of p index count)

-- answers: a map from places to outcomes
abbrev pub Answers : Type 0
Answers = Place → Option Outcome

-- b holds all that a holds
abbrev pub Holds : Answers → Answers → Type 0
Holds a b = (p : Place) (o : Outcome) → a p ≡ Some o → b p ≡ Some o

-- the map of a list of answers: the first at a place counts
unfoldable pub answers_of : List (Place × Outcome) → Answers
answers_of [] p = None
answers_of (e ∷ es) p = if place_same e.0 p then Some e.1 else answers_of es p
