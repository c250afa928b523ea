-- The flat form as code is the machine's code at the sites that its numbers stand for.
use Rattle.std.proofs.Common.{◌≡◌, ℕ, zero, suc, ◌<◌, List, [], ◌∷◌, Option, Some, None, length, slice_get, option_map, refl, sym, ap, ap₂, ◌∙◌, subst, subst₂, inl, inr, arith}
use Rattle.std.specs.Str.{chars}
use Rattle.std.proofs.lemmas.Option.{same_Some, slice_get_within}
use Rattle.asl_model.specs.Data.{Text, Json, Outcome, combine}
use Rattle.asl_model.specs.Head.{Used, BegunOf, On, Calls, Fans, begins}
use Rattle.asl_model.specs.Machine as m
use Rattle.asl_model.specs.Machine.{Block, State, Task, Pass, Choice, Succeed, Fail, Parallel, Map, state_of}
use Rattle.asl_model.specs.Step.{Begun, standard}
use Rattle.asl_model.specs.Central.{Visited, Entered, Called, Joined}
use Rattle.asl_model.specs.Stretch.{after}
use Rattle.asl_model.specs.Laws.{In}
use Rattle.asl_model.specs.Blocks.{visited_at, rows, Function, functions, function_at}
use Rattle.asl_model.specs.Walked.{HasRisingNames}
use Rattle.asl_model.specs.Valid.{IsValid}
use Rattle.asl_model.proofs.Found.{row_of as row_found}
use Rattle.unum_ir.specs.Flat as ir
use Rattle.unum_ir.specs.Flat.{flat_after}
use Rattle.unum_ir.specs.Calls as calls
use Rattle.unum_ir.specs.Calls.{effective, input_of, width, combined, enter_of, parent_of, resource_of, its_node}
use Rattle.world_model.specs.AnyCode.Code as coded
use Rattle.world_model.specs.AnyCode.Maps.{Maps, stop_as, LeadsIn}
use Rattle.world_model.specs.Sites as sites
use Rattle.world_model.specs.Sites.{rules, Spot, OnEnter, OnTask, OnJoin, spot_of, visited_at as visit_on, state_at, Site, call_at, width_at, input_in, machine_code}
use Rattle.world_model.specs.Flat.{ScopeRow, scopes, site_at, Entry, entry_at, flat_site, flat_size, stop_at, up_of, join_number, flat_code}
use Rattle.world_model.proofs.Flat.{numbers_map}
use Rattle.continuation_gen.specs.Tables.{Op, Node, Func, EnterFunc, TaskFunc, JoinFunc}
use Rattle.continuation_gen.specs.Numbering.{At, Placed, placed, op_of, func_from, flat_form, node_number}
use Rattle.continuation_gen.specs.Coded.{with_input, call_by, code_of_ir}
use Rattle.continuation_gen.specs.Laws.{ir_size, input_in_call, ReadsAlike, IrMaps}
use Rattle.continuation_gen.proofs.Steps.{AlikeBegun, begins_alike}
use Rattle.continuation_gen.proofs.Stands.{func_number, block_listed, NodeAt, node_at, NumberOf, func_is, nexts_number, scope_found, enter_at, enter_number, call_number, nested_of}
use Rattle.continuation_gen.proofs.WalkStops.{StopIs, begins_at}
use Rattle.continuation_gen.proofs.Stops.{IsTask, IsFan, kind_of, enter_stop, task_stop, fan_stop}
use Rattle.continuation_gen.proofs.Sites.{RowOf, row_of, enter_entry, call_entry, bare_same, same_length, same_size}

-- ---------------------------------------------------------------- what a node reads as its state does

pub limit_same : (g : Text → ℕ) (func : ℕ) (at : At) (s : State) → m.limit_of s ≡ ir.limit_of (op_of g func at s)
limit_same g func at (Task shape resource after care) = refl
limit_same g func at (Pass shape result after) = refl
limit_same g func at (Choice shape choices default) = refl
limit_same g func at (Succeed shape) = refl
limit_same g func at (Fail error cause) = refl
limit_same g func at (Parallel shape bs after care) = refl
limit_same g func at (Map shape items selector b after care limit) = refl

module _ (R : Text → ℕ → Type 0) (name resource : Text) (s : State) where
  abbrev Visits : Begun → Type 0
  Visits (On o) = Unit {0}
  Visits (Calls r x) = visited_at name s ≡ Called name r ∷ []
  Visits (Fans inputs) = visited_at name s ≡ Joined name ∷ []

  call_alike : (func : ℕ) (b : Begun) (w : BegunOf ℕ ℕ) → Visits b → IsTask name s resource → AlikeBegun R func b w → sites.call_in b ≡ with_input (Some resource) (calls.call_in (Some w))
  call_alike func (On o) (On p) v k h = refl
  call_alike func (On o) (Calls f y) v k h = absurd h
  call_alike func (On o) (Fans ys) v k h = absurd h
  call_alike func (Calls r x) (On p) v k h = absurd h
  call_alike func (Calls r x) (Calls f y) v k h =
      let e : Called name r ≡ Called name resource = same_Some (Called name r) (Called name resource) (ap (λ (l : List Visited). slice_get l 0) (sym v ∙ k.visited)) in
      let same : r ≡ resource = ap resource_in e in
      ap₂ (λ (a : Text) (c : Json). let z : Text × Json = (a, c) in Some z) same h.1
    where
      resource_in : Visited → Text
      resource_in Entered = []
      resource_in (Called n r) = r
      resource_in (Joined n) = []
  call_alike func (Calls r x) (Fans ys) v k h = absurd h
  call_alike func (Fans xs) (On p) v k h = absurd h
  call_alike func (Fans xs) (Calls f y) v k h = absurd h
  call_alike func (Fans xs) (Fans ys) v k h = refl

  input_alike : (func : ℕ) (b : Begun) (w : BegunOf ℕ ℕ) → AlikeBegun R func b w → (index : ℕ) → sites.input_of b index ≡ calls.fan_in (Some w) index
  input_alike func (On o) (On p) h index = refl
  input_alike func (On o) (Calls f y) h index = absurd h
  input_alike func (On o) (Fans ys) h index = absurd h
  input_alike func (Calls r x) (On p) h index = absurd h
  input_alike func (Calls r x) (Calls f y) h index = refl
  input_alike func (Calls r x) (Fans ys) h index = absurd h
  input_alike func (Fans xs) (On p) h index = absurd h
  input_alike func (Fans xs) (Calls f y) h index = absurd h
  input_alike func (Fans xs) (Fans ys) h index = ap (λ (l : List Json). slice_get l index) h

-- ---------------------------------------------------------------- a function and its site

abbrev pub called_in : Visited → Option Text
called_in Entered = None
called_in (Called name resource) = Some resource
called_in (Joined name) = None

-- the code at a number does what the machine does at its site, where the site stands in the scope of p
pub record Fits (root : Block) (f : ℕ) : Type 0 where
  pub p : Placed
  pub here : In p (placed root)
  pub row : RowOf root p
  pub v : Visited
  pub number : function_at root f ≡ Some (p.block, v)
  pub task : (resource_of (slice_get (flat_form root).funcs f)) ≡ called_in v
  pub entry : entry_at root f ≡ (p.at.scope, site_at row.row v)
  pub enter : enter_of (flat_form root) f ≡ p.at.scope
  pub stops : (hop : ℕ) (raw : Json) (used : Used) (o : Outcome) → StopIs root p (after standard p.block (visit_on (spot_of v)) hop raw used o) (flat_after (flat_form root) f hop raw used o)
  pub call : (raw : Json) → sites.call_of (site_at row.row v) raw ≡ call_by (flat_form root) f raw
  pub limit : width_at (state_of p.block (state_at (spot_of v))) ≡ width (flat_form root) f
  pub input : (index : ℕ) (raw : Json) → input_in (state_at (spot_of v)) (state_of p.block (state_at (spot_of v))) raw index ≡ input_of (flat_form root) f index raw
  pub name : state_at (spot_of v) ≡ ir.name_in (its_node (flat_form root) f)

module _ (root : Block) (valid : IsValid root) (rise : HasRisingNames root) where
  -- no state has the empty name
  none_empty : (p : Placed) → In p (placed root) → state_of p.block [] ≡ None
  unfolding chars
  none_empty p h = by (state_of p.block []) refl
    where
      by : (z : Option State) → state_of p.block [] ≡ z → z ≡ None
      by None e = refl
      by (Some s) e =
          let (n, i, b) = nested_of root p.block (block_listed root p h) in
          let (r, j, named, is) = row_found p.block [] s e in
          let long = valid.named n i r (subst (λ (y : Block). In r (rows y)) (sym b) j) in
          let none : 0 < length (chars []) = subst (λ (y : Text). 0 < length (chars y)) named long.0 in
          absurd (omega arith)

  fits_enter : (p : Placed) → In p (placed root) → Fits root p.at.scope
  fits_enter p h =
      let r = row_of root p h in
      let e : slice_get (flat_form root).funcs p.at.scope ≡ Some (EnterFunc p.at.scope) = enter_at root p h in
      let none : its_node (flat_form root) p.at.scope ≡ None = ap (λ (x : Option Func). calls.node_from (flat_form root) (calls.node_of x)) e in
      record {
        p = p;
        here = h;
        row = r;
        v = Entered;
        number = enter_number root p h;
        task = ap resource_of e;
        entry = enter_entry root p h r;
        enter = ap (calls.scope_by (flat_form root)) e;
        stops = λ hop raw used o. enter_stop root valid p h hop raw used o;
        call = λ raw. sym (ap (λ (x : Option Func). with_input (resource_of x) (effective (flat_form root) p.at.scope raw)) e);
        limit = ap width_at (none_empty p h) ∙ sym (ap calls.limit_in none);
        input = λ index raw. ap (λ (z : Option State). input_in [] z raw index) (none_empty p h) ∙ sym (ap (λ (n : Option Node). calls.fan_in (calls.begun n raw) index) none);
        name = sym (ap ir.name_in none);
      }

  -- what is read at the state's node
  module _ (p : Placed) (h : In p (placed root)) (name : Text) (s : State) (found : state_of p.block name ≡ Some s) where
    abbrev t : NodeAt root p name s
    t = node_at root p h name s found

    abbrev op : Op
    op = op_of (node_number p) t.its_func t.its_at s

    abbrev node : Node
    node = record { name = name; scope = p.at.scope; op = op }

    alike : (raw : Json) → AlikeBegun (NumberOf root p) t.its_func (standard.begin name s raw) (begins name (ir.head_of op) raw)
    alike raw = begins_alike (NumberOf root p) (node_number p) name s raw t.its_func t.its_at (nexts_number root valid p h name s found)

    module _ (x : Func) (e : slice_get (flat_form root).funcs (func_number p name) ≡ Some x) (label : calls.node_of (Some x) ≡ Some (node_number p name)) where
      its : its_node (flat_form root) (func_number p name) ≡ Some node
      its = ap (λ (y : Option Func). calls.node_from (flat_form root) (calls.node_of y)) e ∙ ap (calls.node_from (flat_form root)) label ∙ t.found

      width_same : width_at (state_of p.block name) ≡ width (flat_form root) (func_number p name)
      width_same = ap width_at found ∙ limit_same (node_number p) t.its_func t.its_at s ∙ sym (ap calls.limit_in its)

      input_same : (index : ℕ) (raw : Json) → input_in name (state_of p.block name) raw index ≡ input_of (flat_form root) (func_number p name) index raw
      unfolding rules
      input_same index raw =
          ap (λ (z : Option State). input_in name z raw index) found
          ∙ input_alike (NumberOf root p) name [] s t.its_func (standard.begin name s raw) (begins name (ir.head_of op) raw) (alike raw) index
          ∙ sym (ap (λ (n : Option Node). calls.fan_in (calls.begun n raw) index) its)

    fits_task : (resource : Text) → IsTask name s resource → Fits root (func_number p name)
    unfolding rules
    fits_task resource k =
        let r = row_of root p h in
        let x : Func = TaskFunc (node_number p name) resource in
        let e : slice_get (flat_form root).funcs (func_number p name) ≡ Some x = t.func_found x (ap (λ (l : List Func). slice_get l 0) (k.func (node_number p name))) in
        record {
          p = p;
          here = h;
          row = r;
          v = Called name resource;
          number = call_number root p h name s (Called name resource) found k.visited;
          task = ap resource_of e;
          entry = call_entry root p h r name s (Called name resource) found k.visited;
          enter = ap (calls.scope_by (flat_form root)) e ∙ ap calls.scope_in t.found;
          stops = λ hop raw used o. task_stop root valid p h name s found resource k [] hop raw used o;
          call = λ raw.
              ap (λ (b : Block). call_at name (state_of b name) raw) r.block_is
              ∙ ap (λ (z : Option State). call_at name z raw) found
              ∙ call_alike (NumberOf root p) name resource s t.its_func (standard.begin name s raw) (begins name (ir.head_of op) raw) (begins_at name s raw) k (alike raw)
              ∙ sym (ap₂ (λ (y : Option Func) (n : Option Node). with_input (resource_of y) (calls.call_in (calls.begun n raw))) e (its x e refl));
          limit = width_same x e refl;
          input = input_same x e refl;
          name = sym (ap ir.name_in (its x e refl));
        }

    fits_fan : IsFan name s → Fits root (func_number p name)
    fits_fan k =
        let r = row_of root p h in
        let x : Func = JoinFunc (node_number p name) in
        let e : slice_get (flat_form root).funcs (func_number p name) ≡ Some x = t.func_found x (ap (λ (l : List Func). slice_get l 0) (k.func (node_number p name))) in
        record {
          p = p;
          here = h;
          row = r;
          v = Joined name;
          number = call_number root p h name s (Joined name) found k.visited;
          task = ap resource_of e;
          entry = call_entry root p h r name s (Joined name) found k.visited;
          enter = ap (calls.scope_by (flat_form root)) e ∙ ap calls.scope_in t.found;
          stops = λ hop raw used o. fan_stop root valid p h name s found k hop raw used o;
          call = λ raw. sym (ap (λ (y : Option Func). with_input (resource_of y) (effective (flat_form root) (func_number p name) raw)) e);
          limit = width_same x e refl;
          input = input_same x e refl;
          name = sym (ap ir.name_in (its x e refl));
        }

  pub fits : (f : ℕ) → f < ir_size root → Fits root f
  fits f l =
      let (x, e) = has_item (flat_form root).funcs f l in
      elim (func_is root rise f x e) [
        | inl a ↦ let (p, h, same, is) = a in subst (Fits root) (sym same) (fits_enter p h)
        | inr w ↦ elim (kind_of w.name w.s) [
          | inl k ↦ absurd (let none : slice_get (func_from (node_number w.p w.name) w.s) 0 ≡ None = ap (λ (l : List Func). slice_get l 0) (k.func (node_number w.p w.name)) in let bad : Some x ≡ None = sym w.is ∙ none in cc)
          | inr t ↦ subst (Fits root) (sym w.number) (elim t [ inl task ↦ fits_task w.p w.here w.name w.s w.found task.0 task.1 | inr k ↦ fits_fan w.p w.here w.name w.s w.found k ])
        ]
      ]
    where
      has_item : (xs : List Func) (i : ℕ) → i < length xs → (x : Func) × (slice_get xs i ≡ Some x)
      has_item [] i l = absurd (omega arith)
      has_item (y ∷ xs) zero l = (y, refl)
      has_item (y ∷ xs) (suc i) l = has_item xs i (omega arith)

  -- ---------------------------------------------------------------- the code

  abbrev C : coded.Code ℕ
  C = code_of_ir (flat_form root)

  below : (f : ℕ) → f < ir_size root → f < flat_size root
  below f l = let k = same_size root in omega (arith, k)

  site_is : (f : ℕ) (w : Fits root f) → flat_site root f ≡ site_at w.row.row w.v
  site_is f w = ap (λ (e : Entry). e.1) w.entry

  after_is : (f : ℕ) → f < ir_size root → (hop : ℕ) (raw : Json) (used : Used) (o : Outcome) → (flat_code root).after f hop raw used o ≡ C.after f hop raw used o
  unfolding rules
  after_is f l hop raw used o =
      let w = fits f l in
      ap (λ (e : Entry). stop_at (scopes root) e.0 e.1.block (after rules e.1.block (visit_on e.1.spot) hop raw used o)) w.entry
      ∙ ap (λ (b : Block). stop_at (scopes root) w.p.at.scope b (after rules b (visit_on (spot_of w.v)) hop raw used o)) w.row.block_is
      ∙ bare_same root w.p w.here (after standard w.p.block (visit_on (spot_of w.v)) hop raw used o) (flat_after (flat_form root) f hop raw used o) (w.stops hop raw used o)

  around_is : (f : ℕ) → f < ir_size root → (flat_code root).join_around f ≡ C.join_around f
  around_is f l =
      let w = fits f l in
      ap (λ (e : Entry). join_number (scopes root) (up_of (slice_get (scopes root) e.0))) w.entry
      ∙ ap (λ (z : Option ScopeRow). join_number (scopes root) (up_of z)) w.row.row_is
      ∙ sym w.row.parent_is
      ∙ sym (ap (λ (k : ℕ). calls.parent_in (slice_get (flat_form root).scopes k)) w.enter ∙ ap calls.parent_in (scope_found root w.p w.here))

  enter_is : (f : ℕ) → f < ir_size root → (flat_code root).enter_of f ≡ C.enter_of f
  enter_is f l = let w = fits f l in ap (λ (e : Entry). e.0) w.entry ∙ sym w.enter

  within : (n : ℕ) → n < flat_size root → n < ir_size root
  within n l = let k = same_size root in omega (arith, k)

  pub maps : Maps (λ f. f < ir_size root) (code_of_ir (flat_form root)) machine_code (flat_site root)
  maps = record {
    after = λ f l hop raw used o. (numbers_map root).after f (below f l) hop raw used o ∙ ap (stop_as (flat_site root)) (after_is f l hop raw used o);
    call_of = λ f l raw. let w = fits f l in ap (λ (s : Site). sites.call_of s raw) (site_is f w) ∙ w.call raw;
    join_around = λ f l. (numbers_map root).join_around f (below f l) ∙ ap (option_map (flat_site root)) (around_is f l);
    enter_of = λ f l. (numbers_map root).enter_of f (below f l) ∙ ap (flat_site root) (enter_is f l);
    width = λ f l.
        let w = fits f l in
        ap (λ (s : Site). width_at (state_of s.block (state_at s.spot))) (site_is f w) ∙ ap (λ (b : Block). width_at (state_of b (state_at (spot_of w.v)))) w.row.block_is ∙ w.limit;
    input_of = λ f l index raw.
        let w = fits f l in
        ap (λ (s : Site). input_in (state_at s.spot) (state_of s.block (state_at s.spot)) raw index) (site_is f w)
        ∙ ap (λ (b : Block). input_in (state_at (spot_of w.v)) (state_of b (state_at (spot_of w.v))) raw index) w.row.block_is
        ∙ w.input index raw;
    combine = λ f l outs. let w = fits f l in ap (λ (s : Site). combine (state_at s.spot) outs) (site_is f w) ∙ ap (λ (n : Text). combine n outs) w.name;
    leads = λ f l hop raw used o.
        subst₂ (λ (n : ℕ) (z : coded.Stop ℕ). LeadsIn (λ (k : ℕ). k < n) z) (same_size root) (after_is f l hop raw used o) ((numbers_map root).leads f (below f l) hop raw used o);
    around = λ f j l e. within j ((numbers_map root).around f j (below f l) (around_is f l ∙ e));
    enters = λ f l. within (enter_of (flat_form root) f) (subst (λ (n : ℕ). n < flat_size root) (enter_is f l) ((numbers_map root).enters f (below f l)));
  }

-- ---------------------------------------------------------------- by the machine's functions

-- what is given, where the resource is known
given : (resource : Text) (x : Option Json) (c : Option (Text × Json)) → c ≡ with_input (Some resource) x → x ≡ option_map input_in_call c
given resource None c e = sym (ap (option_map input_in_call) e)
given resource (Some x) c e = sym (ap (option_map input_in_call) e)

pub reads_alike : ReadsAlike
reads_alike root valid rise f b = (
  λ name resource e.
      let w = at_number (b, Called name resource) e in
      let (same, v_is) = parts w (b, Called name resource) e in
      let task : resource_of (slice_get (flat_form root).funcs f) ≡ Some resource = w.task ∙ ap called_in v_is in (
        task,
        λ raw.
            given resource (effective (flat_form root) f raw) (call_at name (state_of b name) raw)
            (ap₂ (λ (z : Block) (v : Visited). sites.call_of (record { block = z; around = w.row.row.around; spot = spot_of v }) raw) (sym (w.row.block_is ∙ same)) (sym v_is)
            ∙ w.call raw
            ∙ ap (λ (z : Option Text). with_input z (effective (flat_form root) f raw)) task),
      ),
  λ name e.
      let w = at_number (b, Joined name) e in
      let (same, v_is) = parts w (b, Joined name) e in (
        λ index raw. sym (subst₂ (λ (z : Block) (v : Visited). input_in (state_at (spot_of v)) (state_of z (state_at (spot_of v))) raw index ≡ input_of (flat_form root) f index raw) same v_is (w.input index raw)),
        sym (subst₂ (λ (z : Block) (v : Visited). width_at (state_of z (state_at (spot_of v))) ≡ width (flat_form root) f) same v_is w.limit),
        λ outs. ap (λ (n : Text). combine n outs) (sym w.name ∙ ap (λ (v : Visited). state_at (spot_of v)) v_is),
      ),
)
  where
    at_number : (x : Function) → function_at root f ≡ Some x → Fits root f
    at_number x e = let l : f < length (functions root) = slice_get_within (functions root) f x e in let k = same_length root in fits root valid rise f (omega (arith, k))

    parts : (w : Fits root f) (x : Function) → function_at root f ≡ Some x → (w.p.block ≡ x.0) × (w.v ≡ x.1)
    parts w x e = let y : Function = (w.p.block, w.v) in let same : y ≡ x = same_Some y x (sym w.number ∙ e) in (ap (λ (z : Function). z.0) same, ap (λ (z : Function). z.1) same)

pub ir_maps : IrMaps
ir_maps root valid rise = maps root valid rise
