-- The world of an accepted bundle may open.
use Rattle.std.proofs.Common.{◌≡◌, ℕ, zero, suc, IsFalse, List, [], ◌∷◌, map, slice_get, Option, Some, None, sym, ap, ◌∙◌, refl, subst}
use Rattle.std.specs.List.{AllByRecursion}
use Rattle.std.proofs.lemmas.Option.{same_Some}
use Rattle.fn_table.specs.declared.kind.FnKind.{FnKind}
use Rattle.asl_model.specs.declared.machine.Machine.{Machine}
use Rattle.asl_model.specs.Tree.{tree_of}
use Rattle.asl_model.specs.Machine.{Block}
use Rattle.asl_model.specs.Central.{Called}
use Rattle.asl_model.specs.Blocks.{function_at}
use Rattle.world_model.specs.AnyCode.World.{function_of}
use Rattle.world_model.specs.World as model
use Rattle.calm_worlds.specs.Cost.{HasFunctions}
use Rattle.unum_world.specs.declared.opening.Session.{Session}
use Rattle.unum_world.specs.Openings.{Fits, block_in, opening_as, session_as}
use Rattle.bundle_read.specs.Accepted.{Accepted, IsAccepted, opening_of}
use Rattle.bundle_read.specs.Bounds.{Text, Functions, Machines, calls_others}
use Rattle.bundle_read.proofs.Tasks.{task_known}

-- what holds of each element holds of one
all_get : {A : Type 0} (P : A → Type 0) (xs : List A) (i : ℕ) (x : A) → AllByRecursion P xs → slice_get xs i ≡ Some x → P x
all_get P [] i x h e = absurd (cc)
all_get P (y ∷ xs) zero x h e = subst P (same_Some y x e) h.0
all_get P (y ∷ xs) (suc i) x h e = all_get P xs i x h.1 e

-- what a list is mapped to comes from an element of it
from_mapped : {A B : Type 0} (f : A → B) (xs : List A) (i : ℕ) (y : B) → slice_get (map f xs) i ≡ Some y → (x : A) × (f x ≡ y)
from_mapped f [] i y e = absurd (cc)
from_mapped f (x ∷ xs) zero y e = (x, same_Some (f x) y e)
from_mapped f (x ∷ xs) (suc i) y e = from_mapped f xs i y e

-- each Task of a machine has a function
abbrev Knows : Functions → Block → Type 0
Knows fns root =
    (n : ℕ) (b : Block) (state resource : Text) → function_at root n ≡ Some (b, Called state resource) → (kind : FnKind) × (function_of fns resource ≡ Some kind)

knows_machine : (fns : Functions) (root : Block) → IsFalse (calls_others fns root) → Knows fns root
unfolding function_of
knows_machine fns root h n b state resource e = task_known fns root h n b state resource e

-- a session whose machine is not there has no Task
knows_at : (fns : Functions) (ms : Machines) → AllByRecursion (λ (m : Text × Machine). IsFalse (calls_others fns (tree_of m.1))) ms → (i : ℕ) → Knows fns (block_in (slice_get ms i))
knows_at fns ms h i = by (slice_get ms i) refl
  where
    by : (z : Option (Text × Machine)) → slice_get ms i ≡ z → Knows fns (block_in z)
    by None e = knows_machine fns (block_in None) refl
    by (Some m) e = knows_machine fns (tree_of m.1) (all_get (λ (m : Text × Machine). IsFalse (calls_others fns (tree_of m.1))) ms i m h e)

has_functions : (b : Accepted) → IsAccepted b → HasFunctions (opening_as (opening_of b))
has_functions b h s x e =
    let (y, same) = from_mapped (session_as b.machines) b.sessions s x e in
    subst (λ (z : model.Session). Knows b.functions z.machine) same (knows_at b.functions b.machines h.called y.machine)

pub accepted_fits : (b : Accepted) → IsAccepted b → (ms : Machines) → ms ≡ b.machines → Fits (opening_of (record b { machines = ms }))
accepted_fits b h ms is =
    subst (λ (xs : Machines). Fits (opening_of (record b { machines = xs }))) (sym is)
    (record { sessions = h.few; machines = h.placed; functions = has_functions b h; plan = h.rising })
