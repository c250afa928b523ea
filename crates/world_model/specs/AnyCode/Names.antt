-- Names of a session, of a scope and of a branch.
use Rattle.std.specs.Prelude.{ℕ, List, [], ◌∷◌, Option, Some, None}
pub use Rattle.place_name.specs.Names.{Seg, Scope, Place, Name, Parent, scope_of}
use Rattle.place_name.specs.Names.{child_of}
pub use Rattle.place_name.specs.declared.kind.Kind.{Kind}
pub use Rattle.place_name.specs.declared.kind.Kind.TheVariants.{Enter, Task, Join}

-- the place in this scope at this hop
abbrev pub at_hop : Scope → ℕ → Place
at_hop s hop = record { session = s.session; trail = s.trail; hop = hop }

-- the scope of a branch of the fan at this place
abbrev pub child : Place → (index count : ℕ) → Scope
child p index count = scope_of (child_of p index count)

-- the name in this scope at this hop
abbrev pub name_at : Scope → ℕ → Kind → Name
name_at s hop kind = record { place = at_hop s hop; kind = kind }

-- the scope that a session begins with
abbrev pub root : (session : ℕ) → Scope
root session = record { session = session; trail = [] }

-- the Join of the fan at this place
abbrev pub join_name : Place → Name
join_name p = record { place = p; kind = Join }

-- a trail by its last segment and those before it
pub record Split : Type 0 where
  pub front : List Seg
  pub last : Seg

-- with one more segment before it
abbrev pub split_more : Seg → Option Split → Option Split
split_more g None = Some (record { front = []; last = g })
split_more g (Some x) = Some (record { front = g ∷ x.front; last = x.last })

-- the last segment, if there is one
abbrev pub split_last : List Seg → Option Split
split_last [] = None
split_last (g ∷ t) = split_more g (split_last t)

-- the branch that a trail so split leads to
abbrev pub parent_in : ℕ → Option Split → Option Parent
parent_in session None = None
parent_in session (Some x) =
    Some (record { place = record { session = session; trail = x.front; hop = x.last.hop }; index = x.last.index; count = x.last.count })

-- the branch that a scope is: the place of its fan, its index, and the number of branches; none for a session's own scope
unfoldable pub parent_of : Scope → Option Parent
parent_of s = parent_in s.session (split_last s.trail)
