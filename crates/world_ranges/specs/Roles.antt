-- What is asked of code so that every number and name of its worlds stays in its range.
use Rattle.std.specs.Prelude.{ℕ, suc, ◌≡◌, ◌<◌, ◌≤◌, length, Option, Some}
use Rattle.std.specs.List.{AllByRecursion}
use Rattle.place_name.specs.declared.kind.Kind.{Kind}
use Rattle.place_name.specs.declared.kind.Kind.TheVariants as kinds
use Rattle.place_name.specs.declared.limits.TheConstants.{HOPS, MOST_BRANCHES, MOST_SEGS}
use Rattle.world_model.specs.AnyCode.Code.{Json, Used, Outcome, Stop, Call, Fan, Over, Code}

-- what a site of code is: its kind, and how many fans are round its scope
pub record Role : Type 0 where
  pub kind : Kind
  pub fans : ℕ

-- the trail to a scope has a segment for each fan round it, and 7 at most; at a Join there is room for one of its branches
abbrev pub HasRoom : Kind → (fans : ℕ) → Type 0
HasRoom kinds.Enter n = n ≤ MOST_SEGS
HasRoom kinds.Task n = n ≤ MOST_SEGS
HasRoom kinds.Join n = n < MOST_SEGS

module _ {S : Type 0} (role_of : S → Option Role) where
  -- the site is there, is of that kind, and has so many fans round its scope
  abbrev pub IsSite : S → Kind → (fans : ℕ) → Type 0
  IsSite s kind n = role_of s ≡ Some (record { kind = kind; fans = n })

  -- A scope with so many fans round it stops at a Task of its own, or at a Join of its own with at most 1,000 branches, which have
  -- one fan more round them; and it enters at most 2,000 states.
  -- Source: Amazon States Language, State Types (Task State, Parallel State, Map State).
  abbrev pub StopsInRange : (fans : ℕ) → Stop S → Type 0
  StopsInRange n (Call f hop raw used) = IsSite f kinds.Task n × (hop < HOPS)
  StopsInRange n (Fan j hop raw used es) =
      IsSite j kinds.Join n × (hop < HOPS) × (length es ≤ MOST_BRANCHES) × AllByRecursion (λ e. IsSite e kinds.Enter (suc n)) es
  StopsInRange n (Over o) = Unit {0}

  -- Trails have room for the sites of the code; it stops in range; the Join around a scope has one fan less round it; and the
  -- Enter of a scope has as many as the scope's other sites.
  pub record StaysInRange (code : Code S) : Type 0 where
    pub room : (s : S) (kind : Kind) (n : ℕ) → IsSite s kind n → HasRoom kind n
    pub after :
        (s : S) (kind : Kind) (n : ℕ) → IsSite s kind n → (hop : ℕ) (raw : Json) (used : Used) (o : Outcome) →
        StopsInRange n (code.after s hop raw used o)
    pub around : (s j : S) (kind : Kind) (n : ℕ) → IsSite s kind (suc n) → code.join_around s ≡ Some j → IsSite j kinds.Join n
    pub enters : (s : S) (kind : Kind) (n : ℕ) → IsSite s kind n → IsSite (code.enter_of s) kinds.Enter n
