-- The world at opening, and its machines.
use Rattle.std.proofs.Common.{ℕ, zero, suc, ◌<◌, ◌≤◌, ◌≡◌, refl, sym, ap, ◌∙◌, subst, arith, Bool, true, false, cond, List, [], ◌∷◌, map, take, drop, length, slice_get, Some, None}
use Rattle.std.specs.List.{AllByRecursion}
use Rattle.std.proofs.lemmas.Option.{same_Some}
use Rattle.std.proofs.lemmas.List.{length-map, drop_all}
use Rattle.asl_model.specs.declared.machine.Machine.{Machine}
use Rattle.asl_model.specs.Tree.{tree_of}
use Rattle.asl_model.specs.Valid.{IsValid}
use Rattle.asl_model.specs.Walked.{HasRisingNames}
use Rattle.place_name.specs.declared.obj.Obj.{Obj}
use Rattle.place_name.specs.declared.obj.Obj.TheVariants.{Arg}
use Rattle.place_name.specs.Same.{object_same}
use Rattle.place_name.proofs.Sameness.{object_is}
use Rattle.world_model.specs.AnyCode.Operations.{Condition, Absent, Live, ArgIs}
use Rattle.world_types.specs.declared.queue.Event.{Event}
use Rattle.world_model.specs.AnyCode.World.{root_name, objects_with, start_objects, root_invs, root_states, run_from}
use Rattle.world_model.specs.Numbered.{Numbered, first_number}
use Rattle.world_model.specs.World as model
use Rattle.world_plans.specs.declared.planning.Plan.{Plan}
use Rattle.world_plans.specs.Chooser.{wants_twin}
use Rattle.world_plans.specs.Three.{numbers_from, twin_numbers}
use Rattle.checkpoint_store.specs.Entries.{session_of}
use Rattle.invoke_queue.specs.Numbers.{NumberSet}
use Rattle.continuation_gen.specs.Laws.{AreValid}
use Rattle.unum_world.specs.declared.opening.Session.{Session}
use Rattle.unum_world.specs.declared.opening.Opening.{Opening}
use Rattle.unum_world.specs.declared.world_state.WorldState.{WorldState}
use Rattle.unum_world.specs.Openings.{Machines, block_in, session_as, opening_as, AreAllValid, HasMachine, Fits, codes_of}
use Rattle.unum_world.specs.Traces.{world_of, opened_world, run_of}
use Rattle.unum_world.specs.Kept.{Keeps}
use Rattle.unum_world.proofs.Bounds.{roots_many}

-- ---------------------------------------------------------------- machines

all_get : {A : Type 0} (P : A → Type 0) (xs : List A) (i : ℕ) (x : A) → AllByRecursion P xs → slice_get xs i ≡ Some x → P x
all_get P [] i x h e = absurd (cc)
all_get P (y ∷ xs) zero x h e = subst P (same_Some y x e) h.0
all_get P (y ∷ xs) (suc i) x h e = all_get P xs i x h.1 e

pub has_item : {A : Type 0} (xs : List A) (i : ℕ) → i < length xs → (x : A) × (slice_get xs i ≡ Some x)
has_item [] i l = absurd (omega arith)
has_item (y ∷ xs) zero l = (y, refl)
has_item (y ∷ xs) (suc i) l = has_item xs i (omega arith)

get_mapped : {A B : Type 0} (f : A → B) (xs : List A) (i : ℕ) (y : B) → slice_get (map f xs) i ≡ Some y → (x : A) × (slice_get xs i ≡ Some x) × (f x ≡ y)
get_mapped f [] i y e = absurd (cc)
get_mapped f (x ∷ xs) zero y e = (x, refl, same_Some (f x) y e)
get_mapped f (x ∷ xs) (suc i) y e = get_mapped f xs i y e

-- each session's machine is valid
pub all_valid : (o : Opening) → Fits o → AreAllValid o.machines → AreValid (opening_as o)
all_valid o f v s x e =
    let (y, g, same) = get_mapped (session_as o.machines) o.sessions s x e in
    let l : y.machine < length o.machines = all_get (HasMachine o) o.sessions s y f.machines g in
    let (m, h) = has_item o.machines y.machine l in
    let P = λ (b : model.Session). IsValid b.machine × HasRisingNames b.machine in
    let Q = λ (m : List ℕ × Machine). IsValid (tree_of m.1) × HasRisingNames (tree_of m.1) in
    subst P same (subst (λ z. IsValid (block_in z) × HasRisingNames (block_in z)) (sym h) (all_get Q o.machines y.machine m v h))

-- one element more
pub all_more : {A : Type 0} (P : A → Type 0) (xs : List A) (k n : ℕ) (x : A) → n ≡ suc k → slice_get xs k ≡ Some x → AllByRecursion P (take k xs) → P x →
    AllByRecursion P (take n xs)
all_more {A} P xs k n x m e h p = subst (λ z. AllByRecursion P (take z xs)) (sym m) (go xs k e h)
  where
    go : (ys : List A) (i : ℕ) → slice_get ys i ≡ Some x → AllByRecursion P (take i ys) → AllByRecursion P (take (suc i) ys)
    go [] i q a = absurd (cc)
    go (y ∷ ys) zero q a = (subst P (sym (same_Some y x q)) p, tt)
    go (y ∷ ys) (suc i) q a = (a.0, go ys i q a.1)

-- ---------------------------------------------------------------- objects

-- what each object is
abbrev Objects : Type 0
Objects = Obj → Condition (List Bool)

-- the inputs of later sessions are under other names
pub not_saved : (k s : ℕ) (xs : List model.Session) → k < s → start_objects {B = List Bool} s xs (Arg (root_name k)) ≡ Absent
unfolding start_objects objects_with
not_saved k s [] l = refl
not_saved k s (x ∷ xs) l = go (object_same (Arg (root_name k)) (Arg (root_name s))) refl (not_saved k (suc s) xs (omega arith))
  where
    go : (b : Bool) → object_same (Arg (root_name k)) (Arg (root_name s)) ≡ b → start_objects {B = List Bool} (suc s) xs (Arg (root_name k)) ≡ Absent →
        cond {A = Condition (List Bool)} b (Live (ArgIs x.input [])) (start_objects (suc s) xs (Arg (root_name k))) ≡ Absent
    go true e r = absurd (let z : k ≡ s = ap session_of (object_is (Arg (root_name k)) (Arg (root_name s)) e) in omega arith)
    go false e r = r

-- what is left of a list at the place of an element
pub dropped : {A : Type 0} (xs : List A) (k : ℕ) (x : A) → slice_get xs k ≡ Some x → drop k xs ≡ x ∷ drop (suc k) xs
dropped [] k x e = absurd (cc)
dropped (y ∷ xs) zero x e = ap (λ z. z ∷ xs) (same_Some y x e)
dropped (y ∷ xs) (suc k) x e = dropped xs k x e

-- one input more is saved
pub saved_more : (machines : Machines) (k n : ℕ) (xs : List Session) (x : Session) (f g : Objects) → n ≡ suc k → slice_get xs k ≡ Some x →
    f ≡ start_objects n (map (session_as machines) (drop n xs)) → g ≡ objects_with (Arg (root_name k)) (Live (ArgIs x.input [])) f →
    g ≡ start_objects k (map (session_as machines) (drop k xs))
unfolding start_objects
saved_more machines k n xs x f g m e p q =
    q ∙ ap (objects_with (Arg (root_name k)) (Live (ArgIs x.input [])))
    (p ∙ ap (λ z. start_objects z (map (session_as machines) (drop z xs))) m)
    ∙ sym (ap (λ ys. start_objects k (map (session_as machines) ys)) (dropped xs k x e))

-- none is saved yet
pub none_saved : (machines : Machines) (k : ℕ) (xs : List Session) (f : Objects) → length xs ≤ k → ((o : Obj) → f o ≡ Absent) →
    f ≡ start_objects k (map (session_as machines) (drop k xs))
unfolding start_objects
none_saved machines k xs f l e =
    let none : f ≡ (λ o. Absent) = λ i o. e o i in
    none ∙ sym (ap (λ ys. start_objects {B = List Bool} k (map (session_as machines) ys)) (drop_all k xs l))

-- ---------------------------------------------------------------- beside the world

-- no invocation that was never delivered is to have a twin
no_twins : (p : Plan) (k : ℕ) (xs : List model.Session) → numbers_from (wants_twin p []) k (root_states xs) ≡ []
unfolding numbers_from root_states
no_twins p k [] = refl
no_twins p k (x ∷ xs) = no_twins p (suc k) xs

-- where nothing is kept yet, all that has to be is kept
pub opened_keeps : (o : Opening) (m : WorldState) → world_of o m ≡ opened_world o → m.stops.items ≡ [] →
    m.twins ≡ record { numbers = []; room = length o.sessions } → Keeps o m
opened_keeps o m e s t =
    let atts : m.hub.queue.atts ≡ [] = ap (λ (w : Numbered). w.atts) e in
    let invs : m.hub.queue.invs ≡ root_invs first_number 0 (opening_as o).sessions = ap (λ (w : Numbered). w.invs) e in
    record {
      stops = record {
        places = ap length s ∙ sym (ap length atts);
        stops = λ a u i g l h. absurd (let z : slice_get m.hub.queue.atts a ≡ None = ap (λ xs. slice_get xs a) atts in let y : None ≡ Some u = sym z ∙ g in cc);
      };
      twins = record {
        numbers =
            ap (λ (x : NumberSet). x.numbers) t ∙ sym (no_twins o.plan 0 (opening_as o).sessions)
            ∙ ap (λ w. twin_numbers o.plan (codes_of o) w) (sym e);
        room =
            let a : length m.hub.queue.invs ≡ length o.sessions = ap length invs ∙ roots_many 0 (opening_as o).sessions ∙ length-map o.sessions (session_as o.machines) in
            let b : m.twins.room ≡ length o.sessions = ap (λ (x : NumberSet). x.room) t in
            omega arith;
      };
    }

-- the run of no event
pub opened_run : (o : Opening) (h : List Event) (w : Numbered) → h ≡ [] → w ≡ opened_world o → run_of o h ≡ Some w
unfolding run_from
opened_run o h w e f = ap (run_of o) e ∙ ap Some (sym f)
