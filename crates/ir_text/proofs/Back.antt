-- A flat form is read back from the value that it is printed as.
use Rattle.std.proofs.Common.{◌≡◌, ℕ, Bool, true, false, if◌then◌else◌, List, [], ◌∷◌, Option, Some, None, map, codes, sym, ap, subst, ◌∙◌}
use Rattle.std.specs.Prelude.{option_map}
use Rattle.serde_json.specs.Data.{Data}
use Rattle.serde_json.specs.Find.{get}
use Rattle.unum_json.specs.declared.value.Json.{Json}
use Rattle.unum_json.specs.declared.value.Json as json
use Rattle.unum_json.specs.Keys.{find_key, with_key}
use Rattle.asl_paths.specs.declared.path.Path.{Path}
use Rattle.asl_paths.specs.declared.template.Template.{Template}
use Rattle.asl_shape.specs.Stages.{Stages}
use Rattle.asl_model.specs.Shapes.{HasPathsOnly}
use Rattle.asl_model.specs.declared.machine.Retrier.{Retrier}
use Rattle.asl_read.specs.Parts.{text_in, path_in, json_of, list_in, shape_in, pass_shape_in, path_shape_in, map_shape_in, template_at}
use Rattle.ir_text.specs.Printed.{Row, there, number_value, number_or_null as null_or_number, unless_none, retrier_value, catcher_value, rule_fields, node_rule_value, op_name, op_rows, node_value, func_rows, func_value, scope_value, ir_value, unless_root, template_value}
use Rattle.ir_text.specs.Readable.{Fits, IsReadableShape, IsReadableNext, IsReadableCatcher, IsReadableCare, IsReadableOp, IsReadableNode, IsReadableFunc, IsReadableScope, IsReadable}
use Rattle.unum_ir.specs.WellFormed.{IsWellFormed}
use Rattle.ir_text.specs.Reads.{IsPrinted}
use Rattle.ir_text.specs.Spelled.{number, number_or_null, numbers, node_rule_of, retrier_of, catcher_of, care_of, first_or_zero, op_by, node_of, func_by, func_of, scope_of, ir_of}
use Rattle.ir_text.specs.Tables.{ops, kinds}
use Rattle.ir_text.proofs.Alike.{Shows, At, at_key}
use Rattle.ir_text.proofs.Rowed.{HasRows, has_rows, kept, find_with}
use Rattle.ir_text.proofs.Leaves.{text_read, number_read, limit_read, next_read, list_read, list_if_read, each_back, texts_read, numbers_read, path_read, path_if_read, json_if_read, template_read}
use Rattle.ir_text.proofs.RuleBack.{HasFields, rule_back}
use Rattle.ir_text.specs.Flat.{Ir, Node, NodeRule, NodeCare, NodeCatcher, Scope, Op, PassOp, ChoiceOp, SucceedOp, FailOp, TaskOp, ParallelOp, MapOp, Func, EnterFunc, TaskFunc, JoinFunc}

-- ---------------------------------------------------------------- data flow

abbrev stages : Option Path → Option Template → Option Template → Option Path → Option Path → Stages
stages i p s r o = record { input = i; parameters = p; selector = s; result = r; output = o }

-- what stands at the keys of the data flow
pub record HasFlow (d : Data) (s : Stages) : Type 0 where
  pub input : At (get (codes "InputPath") d) (unless_root s.input)
  pub parameters : At (get (codes "Parameters") d) (template_value s.parameters)
  pub selector : At (get (codes "ResultSelector") d) (template_value s.selector)
  pub result : At (get (codes "ResultPath") d) (unless_root s.result)
  pub output : At (get (codes "OutputPath") d) (unless_root s.output)

shape_back : (d : Data) (s : Stages) → HasFlow d s → IsReadableShape s → shape_in d ≡ s
shape_back d s has r =
    let of_d = shape_in d in
    ap (λ x. stages x of_d.parameters of_d.selector of_d.result of_d.output) (path_if_read
    (get (codes "InputPath") d) s.input has.input r.input)
    ∙ ap (λ x. stages s.input x of_d.selector of_d.result of_d.output) (template_read false
    (get (codes "Parameters") d) s.parameters has.parameters r.parameters)
    ∙ ap (λ x. stages s.input s.parameters x of_d.result of_d.output) (template_read false
    (get (codes "ResultSelector") d) s.selector has.selector r.selector)
    ∙ ap (λ x. stages s.input s.parameters s.selector x of_d.output) (path_if_read
    (get (codes "ResultPath") d) s.result has.result r.result)
    ∙ ap (λ x. stages s.input s.parameters s.selector s.result x) (path_if_read (get (codes "OutputPath") d) s.output has.output r.output)

pass_back : (d : Data) (s : Stages) → shape_in d ≡ s → s.selector ≡ None → pass_shape_in d ≡ s
pass_back d s is none =
    ap (λ (x : Stages). stages x.input x.parameters None x.result x.output) is
    ∙ ap (λ x. stages s.input s.parameters x s.result s.output) (sym none)

path_shape_back : (d : Data) (s : Stages) → shape_in d ≡ s → HasPathsOnly s → path_shape_in d ≡ s
path_shape_back d s is h =
    ap (λ (x : Stages). stages x.input None None (Some []) x.output) is
    ∙ ap (λ x. stages s.input x None (Some []) s.output) (sym h.no_parameters)
    ∙ ap (λ x. stages s.input s.parameters x (Some []) s.output) (sym h.no_selector)
    ∙ ap (λ x. stages s.input s.parameters s.selector x s.output) (sym h.root_result)

map_shape_back : (d : Data) (s : Stages) → shape_in d ≡ s → s.parameters ≡ None → map_shape_in d ≡ s
map_shape_back d s is none =
    ap (λ (x : Stages). stages x.input None x.selector x.result x.output) is
    ∙ ap (λ x. stages s.input x s.selector s.result s.output) (sym none)

-- ---------------------------------------------------------------- rules, retriers and catchers

node_rule_back : (d : Data) (r : NodeRule) → Shows d (node_rule_value r) → IsReadableNext r → node_rule_of d ≡ r
node_rule_back d r h is =
    let fs = with_key (codes "Next") (number_value r.next) (rule_fields r.rule) in
    let at_next : At (get (codes "Next") d) (Some (number_value r.next))
    = subst (At (get (codes "Next") d)) (find_with (codes "Next") (codes "Next") (number_value r.next) (rule_fields r.rule)) (at_key d fs
    (codes "Next") h) in
    let others : HasFields d (rule_fields r.rule)
    = λ k other. subst (At (get k d)) (find_with k (codes "Next") (number_value r.next) (rule_fields r.rule)
    ∙ ap (λ (b : Bool). if b then Some (number_value r.next) else find_key k (rule_fields r.rule)) other) (at_key d fs k h) in
    let made : NodeRule = record { rule = r.rule; next = r.next } in
    ap (λ x. record made { rule = x; next = (node_rule_of d).next }) (rule_back r.rule d is.rule others)
    ∙ ap (λ n. record made { next = n }) (number_read (get (codes "Next") d) r.next at_next is.next)

retrier_back : (d : Data) (r : Retrier) → Shows d (retrier_value r) → Fits r.most → retrier_of d ≡ r
retrier_back d r h is =
    let has = has_rows d (there (codes "errors") (json.Arr (map json.Str r.errors)) ∷ there (codes "most") (number_value r.most) ∷ []) h in
    ap (λ es. record r { errors = es; most = (retrier_of d).most }) (texts_read (get (codes "errors") d) r.errors (has (codes "errors")))
    ∙ ap (λ n. record r { most = n }) (number_read (get (codes "most") d) r.most (has (codes "most")) is)

catcher_back : (d : Data) (c : NodeCatcher) → Shows d (catcher_value c) → IsReadableCatcher c → catcher_of d ≡ c
catcher_back d c h is =
    let has = has_rows d (there (codes "errors") (json.Arr (map json.Str c.errors)) ∷ there (codes "next") (number_value c.next)
    ∷ (codes "result", unless_root c.result) ∷ []) h in
    ap (λ es. record (catcher_of d) { errors = es }) (texts_read (get (codes "errors") d) c.errors (has (codes "errors")))
    ∙ ap (λ n. record c { next = n; result = (catcher_of d).result }) (number_read (get (codes "next") d) c.next
    (has (codes "next")) is.next)
    ∙ ap (λ p. record c { result = p }) (path_if_read (get (codes "result") d) c.result
    (kept (get (codes "result") d) (unless_root c.result) (has (codes "result"))) is.result)

-- what stands at the keys of a call
pub record HasCall (d : Data) (number : ℕ) (after : Option ℕ) (c : NodeCare) : Type 0 where
  pub func : At (get (codes "func") d) (Some (number_value number))
  pub next : At (get (codes "next") d) (Some (null_or_number after))
  pub retry : At (get (codes "retry") d) (unless_none (map retrier_value c.retry))
  pub catch : At (get (codes "catch") d) (unless_none (map catcher_value c.catch))

care_back : (d : Data) (func : ℕ) (next : Option ℕ) (c : NodeCare) → HasCall d func next c → IsReadableCare c → care_of d ≡ c
care_back d func next c has is =
    ap (λ rs. record (care_of d) { retry = rs }) (each_back retrier_of retrier_value (λ (r : Retrier). Fits r.most) retrier_back
    (list_in (codes "retry") d) c.retry (list_if_read (get (codes "retry") d) (map retrier_value c.retry) has.retry) is.retry)
    ∙ ap (λ cs. record c { catch = cs }) (each_back catcher_of catcher_value IsReadableCatcher catcher_back
    (list_in (codes "catch") d) c.catch (list_if_read (get (codes "catch") d) (map catcher_value c.catch) has.catch) is.catch)

-- ---------------------------------------------------------------- nodes

abbrev node_rows : List ℕ → ℕ → Op → List Row
node_rows name scope op = there (codes "name") (json.Str name) ∷ there (codes "op") (json.Str (op_name op))
    ∷ there (codes "scope") (number_value scope) ∷ op_rows op

pass_read : (d : Data) (name : List ℕ) (scope : ℕ) (shape : Stages) (result : Option Json) (next : Option ℕ)
    → HasRows d (node_rows name scope (PassOp shape result next)) → IsReadableOp (PassOp shape result next)
    → op_by (find_key (codes "pass") ops) d ≡ PassOp shape result next
pass_read d name scope shape result next has is =
    let flows : HasFlow d shape = record {
      input = kept _ _ (has (codes "InputPath"));
      parameters = kept _ _ (has (codes "Parameters"));
      selector = kept _ _ (has (codes "ResultSelector"));
      result = kept _ _ (has (codes "ResultPath"));
      output = kept _ _ (has (codes "OutputPath"));
    } in
    ap (λ s. PassOp s (option_map json_of (get (codes "Result") d)) (number_or_null (codes "next") d)) (pass_back d shape
    (shape_back d shape flows is.0) is.1)
    ∙ ap (λ r. PassOp shape r (number_or_null (codes "next") d)) (json_if_read (get (codes "Result") d) result
    (kept _ _ (has (codes "Result"))))
    ∙ ap (PassOp shape result) (next_read (get (codes "next") d) next (has (codes "next")) is.2)

choice_read : (d : Data) (name : List ℕ) (scope : ℕ) (shape : Stages) (rules : List NodeRule) (default : Option ℕ)
    → HasRows d (node_rows name scope (ChoiceOp shape rules default)) → IsReadableOp (ChoiceOp shape rules default)
    → op_by (find_key (codes "choice") ops) d ≡ ChoiceOp shape rules default
choice_read d name scope shape rules default has is =
    let flows : HasFlow d shape = record {
      input = kept _ _ (has (codes "InputPath"));
      parameters = kept _ _ (has (codes "Parameters"));
      selector = kept _ _ (has (codes "ResultSelector"));
      result = kept _ _ (has (codes "ResultPath"));
      output = kept _ _ (has (codes "OutputPath"));
    } in
    ap (λ s. ChoiceOp s (map node_rule_of (list_in (codes "rules") d)) (number_or_null (codes "default") d)) (path_shape_back d shape
    (shape_back d shape flows is.0) is.1)
    ∙ ap (λ rs. ChoiceOp shape rs
    (number_or_null (codes "default") d)) (each_back node_rule_of node_rule_value IsReadableNext node_rule_back (list_in
    (codes "rules") d) rules (list_read (get (codes "rules") d) (map node_rule_value rules) (has (codes "rules"))) is.2)
    ∙ ap (ChoiceOp shape rules) (next_read (get (codes "default") d) default (has (codes "default")) is.3)

succeed_read : (d : Data) (name : List ℕ) (scope : ℕ) (shape : Stages) → HasRows d (node_rows name scope (SucceedOp shape))
    → IsReadableOp (SucceedOp shape) → op_by (find_key (codes "succeed") ops) d ≡ SucceedOp shape
succeed_read d name scope shape has is =
    let flows : HasFlow d shape = record {
      input = kept _ _ (has (codes "InputPath"));
      parameters = kept _ _ (has (codes "Parameters"));
      selector = kept _ _ (has (codes "ResultSelector"));
      result = kept _ _ (has (codes "ResultPath"));
      output = kept _ _ (has (codes "OutputPath"));
    } in
    ap SucceedOp (path_shape_back d shape (shape_back d shape flows is.0) is.1)

fail_read : (d : Data) (name : List ℕ) (scope : ℕ) (error cause : List ℕ) → HasRows d (node_rows name scope (FailOp error cause))
    → op_by (find_key (codes "fail") ops) d ≡ FailOp error cause
fail_read d name scope error cause has =
    ap (λ e. FailOp e (text_in (codes "cause") d)) (text_read (get (codes "error") d) error (has (codes "error")))
    ∙ ap (FailOp error) (text_read (get (codes "cause") d) cause (has (codes "cause")))

task_read : (d : Data) (name : List ℕ) (scope : ℕ) (shape : Stages) (func : ℕ) (next : Option ℕ) (c : NodeCare)
    → HasRows d (node_rows name scope (TaskOp shape func next c)) → IsReadableOp (TaskOp shape func next c)
    → op_by (find_key (codes "task") ops) d ≡ TaskOp shape func next c
task_read d name scope shape func next c has is =
    let flows : HasFlow d shape = record {
      input = kept _ _ (has (codes "InputPath"));
      parameters = kept _ _ (has (codes "Parameters"));
      selector = kept _ _ (has (codes "ResultSelector"));
      result = kept _ _ (has (codes "ResultPath"));
      output = kept _ _ (has (codes "OutputPath"));
    } in
    let call : HasCall d func next c = record {
      func = has (codes "func");
      next = has (codes "next");
      retry = kept _ _ (has (codes "retry"));
      catch = kept _ _ (has (codes "catch"));
    } in
    ap (λ s. TaskOp s (number (codes "func") d) (number_or_null (codes "next") d) (care_of d)) (shape_back d shape flows is.0)
    ∙ ap (λ f. TaskOp shape f (number_or_null (codes "next") d) (care_of d)) (number_read (get (codes "func") d) func call.func is.1.func)
    ∙ ap (λ n. TaskOp shape func n (care_of d)) (next_read (get (codes "next") d) next call.next is.1.next)
    ∙ ap (TaskOp shape func next) (care_back d func next c call is.1.care)

parallel_read : (d : Data) (name : List ℕ) (scope : ℕ) (shape : Stages) (func : ℕ) (next : Option ℕ) (c : NodeCare) (scopes : List ℕ)
    → HasRows d (node_rows name scope (ParallelOp shape func next c scopes))
    → IsReadableOp (ParallelOp shape func next c scopes) → op_by (find_key (codes "parallel") ops) d ≡ ParallelOp shape func next c scopes
parallel_read d name scope shape func next c scopes has is =
    let flows : HasFlow d shape = record {
      input = kept _ _ (has (codes "InputPath"));
      parameters = kept _ _ (has (codes "Parameters"));
      selector = kept _ _ (has (codes "ResultSelector"));
      result = kept _ _ (has (codes "ResultPath"));
      output = kept _ _ (has (codes "OutputPath"));
    } in
    let call : HasCall d func next c = record {
      func = has (codes "func");
      next = has (codes "next");
      retry = kept _ _ (has (codes "retry"));
      catch = kept _ _ (has (codes "catch"));
    } in
    ap (λ s. ParallelOp s (number (codes "func") d) (number_or_null (codes "next") d) (care_of d)
    (numbers (codes "scopes") d)) (shape_back d shape flows is.0)
    ∙ ap (λ f. ParallelOp shape f (number_or_null (codes "next") d) (care_of d) (numbers (codes "scopes") d)) (number_read
    (get (codes "func") d) func call.func is.1.func)
    ∙ ap (λ n. ParallelOp shape func n (care_of d) (numbers (codes "scopes") d)) (next_read (get (codes "next") d) next call.next is.1.next)
    ∙ ap (λ x. ParallelOp shape func next x (numbers (codes "scopes") d)) (care_back d func next c call is.1.care)
    ∙ ap (ParallelOp shape func next c) (numbers_read (get (codes "scopes") d) scopes (has (codes "scopes")) is.2)

-- what a map has beside its data flow, its function and its care
record OfMap : Type 0 where
  scope : ℕ
  items : Path
  selector : Option Template
  limit : ℕ

map_read : (d : Data) (name : List ℕ) (scope : ℕ) (shape : Stages) (func : ℕ) (next : Option ℕ) (c : NodeCare) (body : ℕ) (items : Path) (selector : Option Template) (limit : ℕ)
    → HasRows d (node_rows name scope (MapOp shape func next c body items selector limit))
    → IsReadableOp (MapOp shape func next c body items selector limit)
    → op_by (find_key (codes "map") ops) d ≡ MapOp shape func next c body items selector limit
map_read d name scope shape func next c body items selector limit has is =
    let flows : HasFlow d shape = record {
      input = kept _ _ (has (codes "InputPath"));
      parameters = kept _ _ (has (codes "Parameters"));
      selector = kept _ _ (has (codes "ResultSelector"));
      result = kept _ _ (has (codes "ResultPath"));
      output = kept _ _ (has (codes "OutputPath"));
    } in
    let call : HasCall d func next c = record {
      func = has (codes "func");
      next = has (codes "next");
      retry = kept _ _ (has (codes "retry"));
      catch = kept _ _ (has (codes "catch"));
    } in
    let left : OfMap = record {
      scope = first_or_zero (numbers (codes "scopes") d);
      items = path_in (codes "items") d;
      selector = option_map (template_at true) (get (codes "selector") d);
      limit = number (codes "limit") d;
    } in
    ap (λ s. MapOp s (number (codes "func") d) (number_or_null (codes "next") d)
    (care_of d) left.scope left.items left.selector left.limit) (map_shape_back d shape (shape_back d shape flows is.0) is.1)
    ∙ ap (λ f. MapOp shape f (number_or_null (codes "next") d) (care_of d) left.scope left.items left.selector left.limit) (number_read
    (get (codes "func") d) func call.func is.2.func)
    ∙ ap (λ n. MapOp shape func n (care_of d) left.scope left.items left.selector left.limit) (next_read
    (get (codes "next") d) next call.next is.2.next)
    ∙ ap (λ x. MapOp shape func next x left.scope left.items left.selector left.limit) (care_back d func next c call is.2.care)
    ∙ ap (λ ks. MapOp shape func next c (first_or_zero ks) left.items left.selector left.limit) (numbers_read (get (codes "scopes") d)
    (body ∷ []) (has (codes "scopes")) (is.3.scope, tt))
    ∙ ap (λ p. MapOp shape func next c body p left.selector left.limit) (path_read (get (codes "items") d) items
    (has (codes "items")) is.3.items)
    ∙ ap (λ t. MapOp shape func next c body items t left.limit) (template_read true (get (codes "selector") d) selector
    (kept _ _ (has (codes "selector"))) is.3.selector)
    ∙ ap (MapOp shape func next c body items selector) (limit_read (get (codes "limit") d) limit
    (kept _ _ (has (codes "limit"))) is.3.limit)

op_read : (d : Data) (name : List ℕ) (scope : ℕ) (op : Op) → HasRows d (node_rows name scope op) → IsReadableOp op
    → op_by (find_key (op_name op) ops) d ≡ op
op_read d name scope (PassOp shape result next) has is = pass_read d name scope shape result next has is
op_read d name scope (ChoiceOp shape rules default) has is = choice_read d name scope shape rules default has is
op_read d name scope (SucceedOp shape) has is = succeed_read d name scope shape has is
op_read d name scope (FailOp error cause) has is = fail_read d name scope error cause has
op_read d name scope (TaskOp shape func next c) has is = task_read d name scope shape func next c has is
op_read d name scope (ParallelOp shape func next c scopes) has is = parallel_read d name scope shape func next c scopes has is
op_read d name scope (MapOp shape func next c body items selector limit) has is
    = map_read d name scope shape func next c body items selector limit has is

-- the fields that each node has
front_rows : (d : Data) (name : List ℕ) (scope : ℕ) (op : Op) → HasRows d (node_rows name scope op)
    → At (get (codes "name") d) (Some (json.Str name)) × At (get (codes "op") d) (Some (json.Str (op_name op)))
    × At (get (codes "scope") d) (Some (number_value scope))
front_rows d name scope (PassOp shape result next) has = (has (codes "name"), has (codes "op"), has (codes "scope"))
front_rows d name scope (ChoiceOp shape rules default) has = (has (codes "name"), has (codes "op"), has (codes "scope"))
front_rows d name scope (SucceedOp shape) has = (has (codes "name"), has (codes "op"), has (codes "scope"))
front_rows d name scope (FailOp error cause) has = (has (codes "name"), has (codes "op"), has (codes "scope"))
front_rows d name scope (TaskOp shape func next c) has = (has (codes "name"), has (codes "op"), has (codes "scope"))
front_rows d name scope (ParallelOp shape func next c scopes) has = (has (codes "name"), has (codes "op"), has (codes "scope"))
front_rows d name scope (MapOp shape func next c body items selector limit) has
    = (has (codes "name"), has (codes "op"), has (codes "scope"))

node_back : (d : Data) (n : Node) → Shows d (node_value n) → IsReadableNode n → node_of d ≡ n
node_back d n h is =
    let has = has_rows d (node_rows n.name n.scope n.op) h in
    let rows = front_rows d n.name n.scope n.op has in
    ap (λ t. record (node_of d) { name = t }) (text_read (get (codes "name") d) n.name rows.0)
    ∙ ap (λ k. record n { scope = k; op = (node_of d).op }) (number_read (get (codes "scope") d) n.scope rows.2 is.scope)
    ∙ ap (λ t. record n { op = op_by (find_key t ops) d }) (text_read (get (codes "op") d) (op_name n.op) rows.1)
    ∙ ap (λ o. record n { op = o }) (op_read d n.name n.scope n.op has is.op)

-- ---------------------------------------------------------------- functions and scopes

func_read : (d : Data) (f : Func) → HasRows d (func_rows f) → IsReadableFunc f → func_of d ≡ f
func_read d (EnterFunc scope) has is =
    ap (λ t. func_by (find_key t kinds) d) (text_read (get (codes "kind") d) (codes "enter") (has (codes "kind")))
    ∙ ap EnterFunc (number_read (get (codes "scope") d) scope (has (codes "scope")) is)
func_read d (TaskFunc node resource) has is =
    ap (λ t. func_by (find_key t kinds) d) (text_read (get (codes "kind") d) (codes "task") (has (codes "kind")))
    ∙ ap (λ n. TaskFunc n (text_in (codes "resource") d)) (number_read (get (codes "node") d) node (has (codes "node")) is)
    ∙ ap (TaskFunc node) (text_read (get (codes "resource") d) resource (has (codes "resource")))
func_read d (JoinFunc node) has is =
    ap (λ t. func_by (find_key t kinds) d) (text_read (get (codes "kind") d) (codes "join") (has (codes "kind")))
    ∙ ap JoinFunc (number_read (get (codes "node") d) node (has (codes "node")) is)

func_back : (d : Data) (f : Func) → Shows d (func_value f) → IsReadableFunc f → func_of d ≡ f
func_back d f h is = func_read d f (has_rows d (func_rows f) h) is

scope_back : (d : Data) (s : Scope) → Shows d (scope_value s) → IsReadableScope s → scope_of d ≡ s
scope_back d s h is =
    let has = has_rows d (there (codes "parent") (null_or_number s.parent) ∷ there (codes "start") (number_value s.start) ∷ []) h in
    ap (λ p. record (scope_of d) { parent = p }) (next_read (get (codes "parent") d) s.parent (has (codes "parent")) is.parent)
    ∙ ap (λ n. record s { start = n }) (number_read (get (codes "start") d) s.start (has (codes "start")) is.start)

-- ---------------------------------------------------------------- the whole

pub ir_back : (ir : Ir) (d : Data) → IsReadable ir → Shows d (ir_value ir) → ir_of d ≡ ir
ir_back ir d is h =
    let has = has_rows d (there (codes "funcs") (json.Arr (map func_value ir.funcs))
    ∷ there (codes "nodes") (json.Arr (map node_value ir.nodes)) ∷ there (codes "scopes") (json.Arr (map scope_value ir.scopes))
    ∷ []) h in
    ap (λ ns. record (ir_of d) { nodes = ns }) (each_back node_of node_value IsReadableNode node_back (list_in (codes "nodes") d) ir.nodes
    (list_read (get (codes "nodes") d) (map node_value ir.nodes) (has (codes "nodes"))) is.nodes)
    ∙ ap (λ fs. record ir { funcs = fs; scopes = (ir_of d).scopes }) (each_back func_of func_value IsReadableFunc func_back
    (list_in (codes "funcs") d) ir.funcs (list_read (get (codes "funcs") d) (map func_value ir.funcs) (has (codes "funcs"))) is.funcs)
    ∙ ap (λ ss. record ir { scopes = ss }) (each_back scope_of scope_value IsReadableScope scope_back
    (list_in (codes "scopes") d) ir.scopes (list_read (get (codes "scopes") d) (map scope_value ir.scopes)
    (has (codes "scopes"))) is.scopes)

pub accepted : (ir : Ir) (d : Data) → IsReadable ir → IsWellFormed ir → Shows d (ir_value ir) → IsPrinted (ir_of d) d
accepted ir d is well h = subst (λ x. IsPrinted x d) (sym (ir_back ir d is h)) (record { value = h; well_formed = well })
