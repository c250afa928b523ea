-- Choice rules are read back.
use Rattle.std.proofs.Common.{◌≡◌, Bool, true, false, not, ◌&&◌, List, [], ◌∷◌, ◌++◌, length, Option, Some, None, map, rules, codes, if◌then◌else◌, refl, sym, ap, subst, ◌∙◌}
use Rattle.std.proofs.lemmas.Slice.Eq.{bytes_eq-Decides}
use Rattle.std.specs.List.{AllByRecursion, list_all, flat_map}
use Rattle.std.specs.Prelude.{pos, nat_lt, is_some, option_map, unwrap_or}
use Rattle.std.specs.Str.{bytes_eq}
use Rattle.serde_json.specs.Data.{Data, Items, no_items, item}
use Rattle.serde_json.specs.Find.{get}
use Rattle.unum_json.specs.declared.value.Json.{Json, out-Json}
use Rattle.unum_json.specs.declared.value.Json as json
use Rattle.unum_json.specs.declared.value.Json.TheOpen.{Json-F}
use Rattle.unum_json.specs.Keys.{find_key}
use Rattle.unum_json.specs.Whole.{of_number, of_data}
use Rattle.unum_json.proofs.Laws.{out-Arr}
use Rattle.asl_paths.specs.Steps.{IsPath}
use Rattle.asl_paths.specs.declared.path.Path.{Path}
use Rattle.choice_rules.specs.Compared.{is_of_kind, is_sound}
use Rattle.choice_rules.specs.PatternTexts.{pattern_of, pattern_text}
use Rattle.choice_rules.specs.declared.comparison.OpKind.{OpKind}
use Rattle.choice_rules.specs.declared.comparison.OpKind.TheVariants as kind
use Rattle.choice_rules.specs.declared.comparison.Rel.{Rel}
use Rattle.choice_rules.specs.declared.comparison.Rel.TheVariants.{Equal, Less, LessEqual, Greater, GreaterEqual}
use Rattle.choice_rules.specs.declared.comparison.Operand.{Operand}
use Rattle.choice_rules.specs.declared.comparison.Operand.TheVariants.{Constant, Found}
use Rattle.choice_rules.specs.declared.rule.Op.{Op}
use Rattle.choice_rules.specs.declared.rule.Op.TheVariants as ops
use Rattle.choice_rules.specs.declared.rule.Rule.{Rule, the_lemmas, ind-Rule, roll-Rule, map-Rule}
use Rattle.choice_rules.specs.declared.rule.Rule as rule
use Rattle.choice_rules.specs.declared.rule.Rule.TheVariants.{rolls-Test, rolls-And, rolls-Or, rolls-Not}
use Rattle.choice_rules.specs.declared.rule.Rule.TheOpen.{Rule-F}
use Rattle.asl_read.specs.Choices.{Operators, operators}
use Rattle.asl_read.specs.Objects.{Key}
use Rattle.asl_read.specs.Parts.{text_of, truth_of, whole_of, path_in, items_in}
use Rattle.asl_read.specs.Rules.{op_by, op_in, one_or_more, rule_by, Ruled, ruled_items, rule_of, rules_of}
use Rattle.asl_read.proofs.Inside.{rule_here}
use Rattle.ir_text.specs.Printed.{Fields, there, with_rows, path_value, kind_name, rel_name, operand_name, operand_value, op_key, op_value, rule_fields}
use Rattle.ir_text.specs.Readable.{Test, tests_of, is_filled, IsReadableOperand, IsReadableTest, IsReadableRule}
use Rattle.ir_text.proofs.Alike.{Shows, At, Each, like, one_ok, items_shown, at_key}
use Rattle.ir_text.proofs.Rowed.{over, rows_found}
use Rattle.ir_text.proofs.Leaves.{text_back, truth_back, path_in_back, path_read}
use denote.Hole.Carrier

-- ---------------------------------------------------------------- a fact of every rule

module _ (P : Rule → Type 0) (test : (variable : Path) (op : Op) → P (rule.Test variable op)) (every : (rs : List Rule)
    → AllByRecursion P rs → P (rule.And rs))
    (some : (rs : List Rule) → AllByRecursion P rs → P (rule.Or rs)) (other : (r : Rule) → P r → P (rule.Not r)) where
  abbrev Shown : Type 0
  Shown = (r : Rule) × P r

  all_rules : (ys : List Shown) → AllByRecursion P (map (λ (e : Shown). e.0) ys)
  all_rules [] = tt
  all_rules (y ∷ ys) = (y.1, all_rules ys)

  layer : (y : Rule-F Shown) → P (roll-Rule (map-Rule Shown Rule (λ e. e.0) y))
  unfolding roll-Rule denote.Hole.Carrier.roll
  layer (Rule-F.Test variable op) = subst P (rolls-Test variable op) (test variable op)
  layer (Rule-F.And ys) = subst P (rolls-And (map (λ (e : Shown). e.0) ys)) (every (map (λ (e : Shown). e.0) ys) (all_rules ys))
  layer (Rule-F.Or ys) = subst P (rolls-Or (map (λ (e : Shown). e.0) ys)) (some (map (λ (e : Shown). e.0) ys) (all_rules ys))
  layer (Rule-F.Not y) = subst P (rolls-Not y.0) (other y.0 y.1)

  pub each_rule : (r : Rule) → P r
  each_rule = ind-Rule P (λ x y is. subst (λ z. P (roll-Rule z)) is (layer y))

-- ---------------------------------------------------------------- the variants

fields-Test : (variable : Path) (op : Op)
    → rule_fields (rule.Test variable op) ≡ with_rows [] (there (op_key op) (op_value op) ∷ there (codes "Variable") (path_value variable)
    ∷ [])
fields-Test variable op = search (rules, the_lemmas)

fields-And : (rs : List Rule) → rule_fields (rule.And rs) ≡ (codes "And", json.Arr (map json.Obj (map rule_fields rs))) ∷ []
fields-And rs = search (rules, the_lemmas)

fields-Or : (rs : List Rule) → rule_fields (rule.Or rs) ≡ (codes "Or", json.Arr (map json.Obj (map rule_fields rs))) ∷ []
fields-Or rs = search (rules, the_lemmas)

fields-Not : (r : Rule) → rule_fields (rule.Not r) ≡ (codes "Not", json.Obj (rule_fields r)) ∷ []
fields-Not r = search (rules, the_lemmas)

tests-Test : (variable : Path) (op : Op) → tests_of (rule.Test variable op) ≡ (variable, op) ∷ []
tests-Test variable op = search (rules, the_lemmas)

tests-And : (rs : List Rule) → tests_of (rule.And rs) ≡ flat_map (λ ts. ts) (map tests_of rs)
tests-And rs = search (rules, the_lemmas)

tests-Or : (rs : List Rule) → tests_of (rule.Or rs) ≡ flat_map (λ ts. ts) (map tests_of rs)
tests-Or rs = search (rules, the_lemmas)

tests-Not : (r : Rule) → tests_of (rule.Not r) ≡ tests_of r
tests-Not r = search (rules, the_lemmas)

filled-And : (rs : List Rule) → is_filled (rule.And rs) ≡ (nat_lt 0 (length (map is_filled rs)) && list_all (λ b. b) (map is_filled rs))
filled-And rs = search (rules, the_lemmas)

filled-Or : (rs : List Rule) → is_filled (rule.Or rs) ≡ (nat_lt 0 (length (map is_filled rs)) && list_all (λ b. b) (map is_filled rs))
filled-Or rs = search (rules, the_lemmas)

filled-Not : (r : Rule) → is_filled (rule.Not r) ≡ is_filled r
filled-Not r = search (rules, the_lemmas)

-- ---------------------------------------------------------------- operators

-- an operator has the key
abbrev IsKnown : Key → Type 0
IsKnown k = is_some (find_key k operators) ≡ true

-- what the operator of a key asks for
abbrev asked : Key → Data → Op
asked k d = elim (find_key k operators) as (λ w. Op) [ Some o ↦ op_by o d | None ↦ ops.IsPresent true ]

abbrev key_by : OpKind → Rel → Operand → Key
key_by k rel operand = kind_name k ++ rel_name rel ++ operand_name operand

known_by : (k : OpKind) (rel : Rel) (operand : Operand) → is_sound k rel operand ≡ true → IsKnown (key_by k rel operand)
known_by kind.Text Equal (Constant v) h = refl
known_by kind.Text Less (Constant v) h = refl
known_by kind.Text LessEqual (Constant v) h = refl
known_by kind.Text Greater (Constant v) h = refl
known_by kind.Text GreaterEqual (Constant v) h = refl
known_by kind.Text Equal (Found path) h = refl
known_by kind.Text Less (Found path) h = refl
known_by kind.Text LessEqual (Found path) h = refl
known_by kind.Text Greater (Found path) h = refl
known_by kind.Text GreaterEqual (Found path) h = refl
known_by kind.Number Equal (Constant v) h = refl
known_by kind.Number Less (Constant v) h = refl
known_by kind.Number LessEqual (Constant v) h = refl
known_by kind.Number Greater (Constant v) h = refl
known_by kind.Number GreaterEqual (Constant v) h = refl
known_by kind.Number Equal (Found path) h = refl
known_by kind.Number Less (Found path) h = refl
known_by kind.Number LessEqual (Found path) h = refl
known_by kind.Number Greater (Found path) h = refl
known_by kind.Number GreaterEqual (Found path) h = refl
known_by kind.Truth Equal (Constant v) h = refl
known_by kind.Truth Equal (Found path) h = refl
known_by kind.Truth Less operand h = absurd (let g : false ≡ true = h in cc)
known_by kind.Truth LessEqual operand h = absurd (let g : false ≡ true = h in cc)
known_by kind.Truth Greater operand h = absurd (let g : false ≡ true = h in cc)
known_by kind.Truth GreaterEqual operand h = absurd (let g : false ≡ true = h in cc)

known : (op : Op) → IsReadableTest op → IsKnown (op_key op)
known (ops.Compare c) h = known_by c.kind c.rel c.operand h.0
known (ops.Matches pattern) h = refl
known (ops.IsNull flag) h = refl
known (ops.IsPresent flag) h = refl
known (ops.IsNumeric flag) h = refl
known (ops.IsString flag) h = refl
known (ops.IsBoolean flag) h = refl

-- ---------------------------------------------------------------- operands

text_operand : (d : Data) (v : Json) (f : Json-F Json) → Shows d v → out-Json v ≡ f → is_of_kind kind.Text f ≡ true
    → json.Str (text_of d) ≡ v
text_operand d v (Json-F.Str s) h is e =
    let same = like d v (Json-F.Str s) h is in
    let one : json.Str s ≡ v = one_ok (json.Str s) v (sym (ap of_data same) ∙ h) in
    ap (λ x. json.Str (text_of x)) same ∙ one
text_operand d v Json-F.Null h is e = absurd (let g : false ≡ true = e in cc)
text_operand d v (Json-F.Bool b) h is e = absurd (let g : false ≡ true = e in cc)
text_operand d v (Json-F.Int i) h is e = absurd (let g : false ≡ true = e in cc)
text_operand d v (Json-F.Arr vs) h is e = absurd (let g : false ≡ true = e in cc)
text_operand d v (Json-F.Obj fs) h is e = absurd (let g : false ≡ true = e in cc)

number_operand : (d : Data) (v : Json) (f : Json-F Json) → Shows d v → out-Json v ≡ f → is_of_kind kind.Number f ≡ true
    → json.Int (whole_of d) ≡ v
number_operand d v (Json-F.Int i) h is e =
    let same = like d v (Json-F.Int i) h is in
    let one : json.Int i ≡ v = one_ok (json.Int i) v (sym (ap of_data same.1 ∙ ap of_number same.2) ∙ h) in
    ap json.Int (ap whole_of same.1 ∙ ap (λ o. unwrap_or o (pos 0)) same.2) ∙ one
number_operand d v Json-F.Null h is e = absurd (let g : false ≡ true = e in cc)
number_operand d v (Json-F.Bool b) h is e = absurd (let g : false ≡ true = e in cc)
number_operand d v (Json-F.Str s) h is e = absurd (let g : false ≡ true = e in cc)
number_operand d v (Json-F.Arr vs) h is e = absurd (let g : false ≡ true = e in cc)
number_operand d v (Json-F.Obj fs) h is e = absurd (let g : false ≡ true = e in cc)

truth_operand : (d : Data) (v : Json) (f : Json-F Json) → Shows d v → out-Json v ≡ f → is_of_kind kind.Truth f ≡ true
    → json.Bool (truth_of d) ≡ v
truth_operand d v (Json-F.Bool b) h is e =
    let same = like d v (Json-F.Bool b) h is in
    let one : json.Bool b ≡ v = one_ok (json.Bool b) v (sym (ap of_data same) ∙ h) in
    ap (λ x. json.Bool (truth_of x)) same ∙ one
truth_operand d v Json-F.Null h is e = absurd (let g : false ≡ true = e in cc)
truth_operand d v (Json-F.Str s) h is e = absurd (let g : false ≡ true = e in cc)
truth_operand d v (Json-F.Int i) h is e = absurd (let g : false ≡ true = e in cc)
truth_operand d v (Json-F.Arr vs) h is e = absurd (let g : false ≡ true = e in cc)
truth_operand d v (Json-F.Obj fs) h is e = absurd (let g : false ≡ true = e in cc)

abbrev compared : OpKind → Rel → Operand → Op
compared k rel operand = ops.Compare (record { kind = k; rel = rel; operand = operand })

compared_back : (k : OpKind) (rel : Rel) (operand : Operand) (d : Data) → is_sound k rel operand ≡ true → IsReadableOperand operand
    → Shows d (operand_value operand) → asked (key_by k rel operand) d ≡ compared k rel operand
compared_back kind.Text Equal (Constant v) d s p h =
    ap (λ w. compared kind.Text Equal (Constant w)) (text_operand d v (out-Json v) h refl s)
compared_back kind.Text Less (Constant v) d s p h =
    ap (λ w. compared kind.Text Less (Constant w)) (text_operand d v (out-Json v) h refl s)
compared_back kind.Text LessEqual (Constant v) d s p h =
    ap (λ w. compared kind.Text LessEqual (Constant w)) (text_operand d v (out-Json v) h refl s)
compared_back kind.Text Greater (Constant v) d s p h =
    ap (λ w. compared kind.Text Greater (Constant w)) (text_operand d v (out-Json v) h refl s)
compared_back kind.Text GreaterEqual (Constant v) d s p h =
    ap (λ w. compared kind.Text GreaterEqual (Constant w)) (text_operand d v (out-Json v) h refl s)
compared_back kind.Text Equal (Found path) d s p h = ap (λ w. compared kind.Text Equal (Found w)) (path_in_back d path h p)
compared_back kind.Text Less (Found path) d s p h = ap (λ w. compared kind.Text Less (Found w)) (path_in_back d path h p)
compared_back kind.Text LessEqual (Found path) d s p h = ap (λ w. compared kind.Text LessEqual (Found w)) (path_in_back d path h p)
compared_back kind.Text Greater (Found path) d s p h = ap (λ w. compared kind.Text Greater (Found w)) (path_in_back d path h p)
compared_back kind.Text GreaterEqual (Found path) d s p h = ap (λ w. compared kind.Text GreaterEqual (Found w)) (path_in_back d path h p)
compared_back kind.Number Equal (Constant v) d s p h =
    ap (λ w. compared kind.Number Equal (Constant w)) (number_operand d v (out-Json v) h refl s)
compared_back kind.Number Less (Constant v) d s p h =
    ap (λ w. compared kind.Number Less (Constant w)) (number_operand d v (out-Json v) h refl s)
compared_back kind.Number LessEqual (Constant v) d s p h =
    ap (λ w. compared kind.Number LessEqual (Constant w)) (number_operand d v (out-Json v) h refl s)
compared_back kind.Number Greater (Constant v) d s p h =
    ap (λ w. compared kind.Number Greater (Constant w)) (number_operand d v (out-Json v) h refl s)
compared_back kind.Number GreaterEqual (Constant v) d s p h =
    ap (λ w. compared kind.Number GreaterEqual (Constant w)) (number_operand d v (out-Json v) h refl s)
compared_back kind.Number Equal (Found path) d s p h = ap (λ w. compared kind.Number Equal (Found w)) (path_in_back d path h p)
compared_back kind.Number Less (Found path) d s p h = ap (λ w. compared kind.Number Less (Found w)) (path_in_back d path h p)
compared_back kind.Number LessEqual (Found path) d s p h = ap (λ w. compared kind.Number LessEqual (Found w)) (path_in_back d path h p)
compared_back kind.Number Greater (Found path) d s p h = ap (λ w. compared kind.Number Greater (Found w)) (path_in_back d path h p)
compared_back kind.Number GreaterEqual (Found path) d s p h
    = ap (λ w. compared kind.Number GreaterEqual (Found w)) (path_in_back d path h p)
compared_back kind.Truth Equal (Constant v) d s p h =
    ap (λ w. compared kind.Truth Equal (Constant w)) (truth_operand d v (out-Json v) h refl s)
compared_back kind.Truth Equal (Found path) d s p h = ap (λ w. compared kind.Truth Equal (Found w)) (path_in_back d path h p)
compared_back kind.Truth Less operand d s p h = absurd (let g : false ≡ true = s in cc)
compared_back kind.Truth LessEqual operand d s p h = absurd (let g : false ≡ true = s in cc)
compared_back kind.Truth Greater operand d s p h = absurd (let g : false ≡ true = s in cc)
compared_back kind.Truth GreaterEqual operand d s p h = absurd (let g : false ≡ true = s in cc)

op_back : (op : Op) (d : Data) → IsReadableTest op → Shows d (op_value op) → asked (op_key op) d ≡ op
op_back (ops.Compare c) d r h = compared_back c.kind c.rel c.operand d r.0 r.1 h
op_back (ops.Matches pattern) d r h = ap (λ t. ops.Matches (unwrap_or (pattern_of t) [])) (text_back d (pattern_text pattern) h)
    ∙ ap (λ o. ops.Matches (unwrap_or o [])) r
op_back (ops.IsNull flag) d r h = ap ops.IsNull (truth_back d flag h)
op_back (ops.IsPresent flag) d r h = ap ops.IsPresent (truth_back d flag h)
op_back (ops.IsNumeric flag) d r h = ap ops.IsNumeric (truth_back d flag h)
op_back (ops.IsString flag) d r h = ap ops.IsString (truth_back d flag h)
op_back (ops.IsBoolean flag) d r h = ap ops.IsBoolean (truth_back d flag h)

-- ---------------------------------------------------------------- the operator that stands in a rule

-- a key other than those of what stands beside an operator
abbrev is_free : Key → Bool
is_free k = not (bytes_eq (codes "Variable") k) && not (bytes_eq (codes "Next") k)

abbrev are_free : Operators → Bool
are_free [] = true
are_free (o ∷ os) = is_free o.0 && are_free os

all_free : are_free operators ≡ true
all_free = refl

both : (a b : Bool) → a && b ≡ true → (a ≡ true) × (b ≡ true)
both true b e = (refl, e)
both false b e = absurd (let f : false ≡ true = e in cc)

negated : (a : Bool) → not a ≡ true → a ≡ false
negated true e = absurd (let f : false ≡ true = e in cc)
negated false e = refl

turned : (k l : Key) → bytes_eq k l ≡ false → bytes_eq l k ≡ false
turned k l e = by (bytes_eq l k) refl
  where
    by : (b : Bool) → bytes_eq l k ≡ b → b ≡ false
    by true g = absurd (let f : true ≡ false = sym ((bytes_eq-Decides k l).1 (sym ((bytes_eq-Decides l k).0 g))) ∙ e in cc)
    by false g = refl

-- no other operator stands there
abbrev Alone : Data → Key → Type 0
Alone d key = (k : Key) → is_free k ≡ true → bytes_eq key k ≡ false → get k d ≡ None

op_found : (os : Operators) (d : Data) (key : Key) (e : Data) → are_free os ≡ true → Alone d key → get key d ≡ Some e
    → op_in os d ≡ (elim (find_key key os) as (λ w. Op) [ Some o ↦ op_by o e | None ↦ ops.IsPresent true ])
op_found [] d key e free alone stands = refl
op_found (p ∷ ps) d key e free alone stands = by (op_found ps d key e rest.1 alone stands) (bytes_eq p.0 key) refl
  where
    rest : (is_free p.0 ≡ true) × (are_free ps ≡ true)
    rest = both (is_free p.0) (are_free ps) free

    by : op_in ps d ≡ (elim (find_key key ps) as (λ w. Op) [ Some o ↦ op_by o e | None ↦ ops.IsPresent true ]) → (b : Bool)
        → bytes_eq p.0 key ≡ b
        → op_in (p
        ∷ ps) d ≡ (elim (if b then Some p.1 else find_key key ps) as (λ w. Op) [ Some o ↦ op_by o e | None ↦ ops.IsPresent true ])
    by later true g =
        let same : get p.0 d ≡ Some e = ap (λ k. get k d) ((bytes_eq-Decides p.0 key).0 g) ∙ stands in
        ap (λ x. elim x as (λ w. Op) [ Some v ↦ op_by p.1 v | None ↦ op_in ps d ]) same
    by later false g =
        let none : get p.0 d ≡ None = alone p.0 rest.0 (turned p.0 key g) in
        ap (λ x. elim x as (λ w. Op) [ Some v ↦ op_by p.1 v | None ↦ op_in ps d ]) none ∙ later

-- ---------------------------------------------------------------- rules

-- what stands at each key but that of the node which a rule leads to
abbrev pub HasFields : Data → Fields → Type 0
HasFields d fs = (k : Key) → bytes_eq (codes "Next") k ≡ false → At (get k d) (find_key k fs)

abbrev IsBack : Rule → Type 0
IsBack r = (d : Data) → IsReadableRule r → HasFields d (rule_fields r) → rule_of d ≡ r

none_at : (o : Option Data) → At o None → o ≡ None
none_at None h = refl
none_at (Some d) h = absurd h

some_at : (o : Option Data) (v : Json) → At o (Some v) → (e : Data) × (o ≡ Some e) × Shows e v
some_at None v h = absurd h
some_at (Some e) v h = (e, refl, h)

test_back : (variable : Path) (op : Op) → IsBack (rule.Test variable op)
test_back variable op d r has = whole
  where
    readable : IsPath variable × IsReadableTest op
    readable = (subst (AllByRecursion (λ (t : Test). IsPath t.0 × IsReadableTest t.1)) (tests-Test variable op) r.tests).0

    stands : (k : Key) → bytes_eq (codes "Next") k ≡ false
        → At (get k d) (over (bytes_eq (codes "Variable") k) (Some (path_value variable))
        (over (bytes_eq (op_key op) k) (Some (op_value op)) None))
    stands k e
        = subst (At (get k d)) (ap (find_key k) (fields-Test variable op)
        ∙ rows_found k (there (op_key op) (op_value op) ∷ there (codes "Variable") (path_value variable) ∷ []) []) (has k e)

    alone : Alone d (op_key op)
    alone k free other =
        let f = both (not (bytes_eq (codes "Variable") k)) (not (bytes_eq (codes "Next") k)) free in
        none_at (get k d) (subst (At (get k d))
        (ap (λ b. over b (Some (path_value variable)) (over (bytes_eq (op_key op) k) (Some (op_value op)) None))
        (negated (bytes_eq (codes "Variable") k) f.0)
        ∙ ap (λ b. over b (Some (op_value op)) None) other) (stands k (negated (bytes_eq (codes "Next") k) f.1)))

    -- what is no operator is not this one
    unlike_op : (k : Key) → is_some (find_key k operators) ≡ false → bytes_eq (op_key op) k ≡ false
    unlike_op k none = by (bytes_eq (op_key op) k) refl
      where
        by : (b : Bool) → bytes_eq (op_key op) k ≡ b → b ≡ false
        by true e = sym (known op readable.1) ∙ ap (λ l. is_some (find_key l operators)) ((bytes_eq-Decides (op_key op) k).0 e) ∙ none
        by false e = refl

    no_join : (k : Key) → is_free k ≡ true → is_some (find_key k operators) ≡ false → get k d ≡ None
    no_join k free none = alone k free (unlike_op k none)

    variable_is : path_in (codes "Variable") d ≡ variable
    variable_is = path_read (get (codes "Variable") d) variable (stands (codes "Variable") refl) readable.0

    key_free : bytes_eq (codes "Variable") (op_key op) ≡ false
    key_free = turned (op_key op) (codes "Variable") (unlike_op (codes "Variable") refl)

    next_free : bytes_eq (codes "Next") (op_key op) ≡ false
    next_free = turned (op_key op) (codes "Next") (unlike_op (codes "Next") refl)

    op_stands : (e : Data) × (get (op_key op) d ≡ Some e) × Shows e (op_value op)
    op_stands = some_at (get (op_key op) d) (op_value op)
        (subst (At (get (op_key op) d))
        (ap (λ b. over b (Some (path_value variable)) (over (bytes_eq (op_key op) (op_key op)) (Some (op_value op)) None)) key_free
        ∙ ap (λ b. over b (Some (op_value op)) None) ((bytes_eq-Decides (op_key op) (op_key op)).1 refl))
        (stands (op_key op) next_free))

    op_is : op_in operators d ≡ op
    op_is = op_found operators d (op_key op) op_stands.0 all_free alone op_stands.1 ∙ op_back op op_stands.0 readable.1 op_stands.2

    whole : rule_of d ≡ rule.Test variable op
    whole =
        rule_here d
        ∙ ap (λ o. rule_by d (option_map rules_of o) (option_map rules_of (get (codes "Or") d))
        (option_map rule_of (get (codes "Not") d))) (no_join (codes "And") refl refl)
        ∙ ap (λ o. rule_by d None (option_map rules_of o) (option_map rule_of (get (codes "Not") d))) (no_join (codes "Or") refl refl)
        ∙ ap (λ o. rule_by d None None (option_map rule_of o)) (no_join (codes "Not") refl refl)
        ∙ ap (λ p. rule.Test p (op_in operators d)) variable_is ∙ ap (rule.Test variable) op_is

-- ---------------------------------------------------------------- lists of rules

ruled_each : (ds : Items) → map (λ (r : Ruled). r.rule) (ruled_items ds) ≡ map rule_of (items_in ds)
ruled_each no_items = refl
ruled_each (item d ds) = ap (λ rs. rule_of d ∷ rs) (ruled_each ds)

abbrev TestsRead : List Test → Type 0
TestsRead = AllByRecursion (λ (t : Test). IsPath t.0 × IsReadableTest t.1)

front : (ts us : List Test) → TestsRead (ts ++ us) → TestsRead ts
front [] us h = tt
front (t ∷ ts) us h = (h.0, front ts us h.1)

rest : (ts us : List Test) → TestsRead (ts ++ us) → TestsRead us
rest [] us h = h
rest (t ∷ ts) us h = rest ts us h.1

shown_fields : (d : Data) (fs : Fields) → Shows d (json.Obj fs) → HasFields d fs
shown_fields d fs h k other = at_key d fs k h

rules_back : (ds : List Data) (rs : List Rule) → Each ds (map json.Obj (map rule_fields rs)) → AllByRecursion IsBack rs
    → TestsRead (flat_map (λ ts. ts) (map tests_of rs)) → list_all (λ b. b) (map is_filled rs) ≡ true
    → map rule_of ds ≡ rs
rules_back [] [] h back tests filled = refl
rules_back [] (r ∷ rs) h back tests filled = absurd h
rules_back (d ∷ ds) [] h back tests filled = absurd h
rules_back (d ∷ ds) (r ∷ rs) h back tests filled =
    let f = both (is_filled r) (list_all (λ b. b) (map is_filled rs)) filled in
    let one : rule_of d ≡ r
    = back.0 d (record { tests = front (tests_of r) (flat_map (λ ts. ts) (map tests_of rs)) tests; filled = f.0 }) (shown_fields d
    (rule_fields r) h.0) in
    ap (λ x. x ∷ map rule_of ds) one
    ∙ ap (λ xs. r ∷ xs) (rules_back ds rs h.1 back.1 (rest (tests_of r) (flat_map (λ ts. ts) (map tests_of rs)) tests) f.1)

array_back : (e : Data) (rs : List Rule) → Shows e (json.Arr (map json.Obj (map rule_fields rs))) → AllByRecursion IsBack rs
    → TestsRead (flat_map (λ ts. ts) (map tests_of rs)) → list_all (λ b. b) (map is_filled rs) ≡ true
    → rules_of e ≡ rs
array_back e rs h back tests filled =
    let vs = map json.Obj (map rule_fields rs) in
    let is = like e (json.Arr vs) (Json-F.Arr vs) h (out-Arr vs) in
    ap rules_of is.1 ∙ ruled_each is.0 ∙ rules_back (items_in is.0) rs (items_shown 0 is.0 vs is.2) back tests filled

some_rules : (make : List Rule → Rule) (rs : List Rule) → nat_lt 0 (length (map is_filled rs)) ≡ true → one_or_more make rs ≡ make rs
some_rules make [] h = absurd (let f : false ≡ true = h in cc)
some_rules make (r ∷ rs) h = refl

and_back : (rs : List Rule) → AllByRecursion IsBack rs → IsBack (rule.And rs)
and_back rs back d r has =
    let stands
    = some_at (get (codes "And") d) (json.Arr (map json.Obj (map rule_fields rs))) (subst
    (λ fs. At (get (codes "And") d) (find_key (codes "And") fs)) (fields-And rs) (has (codes "And") refl)) in
    let filled = both (nat_lt 0 (length (map is_filled rs))) (list_all (λ b. b) (map is_filled rs)) (sym (filled-And rs) ∙ r.filled) in
    let inner : rules_of stands.0 ≡ rs = array_back stands.0 rs stands.2 back (subst TestsRead (tests-And rs) r.tests) filled.1 in
    rule_here d
    ∙ ap (λ o. rule_by d (option_map rules_of o) (option_map rules_of (get (codes "Or") d))
    (option_map rule_of (get (codes "Not") d))) stands.1
    ∙ ap (one_or_more rule.And) inner ∙ some_rules rule.And rs filled.0

or_back : (rs : List Rule) → AllByRecursion IsBack rs → IsBack (rule.Or rs)
or_back rs back d r has =
    let none : get (codes "And") d ≡ None
    = none_at (get (codes "And") d) (subst (λ fs. At (get (codes "And") d) (find_key (codes "And") fs)) (fields-Or rs)
    (has (codes "And") refl)) in
    let stands
    = some_at (get (codes "Or") d) (json.Arr (map json.Obj (map rule_fields rs))) (subst
    (λ fs. At (get (codes "Or") d) (find_key (codes "Or") fs)) (fields-Or rs) (has (codes "Or") refl)) in
    let filled = both (nat_lt 0 (length (map is_filled rs))) (list_all (λ b. b) (map is_filled rs)) (sym (filled-Or rs) ∙ r.filled) in
    let inner : rules_of stands.0 ≡ rs = array_back stands.0 rs stands.2 back (subst TestsRead (tests-Or rs) r.tests) filled.1 in
    rule_here d
    ∙ ap (λ o. rule_by d (option_map rules_of o) (option_map rules_of (get (codes "Or") d))
    (option_map rule_of (get (codes "Not") d))) none
    ∙ ap (λ o. rule_by d None (option_map rules_of o) (option_map rule_of (get (codes "Not") d))) stands.1
    ∙ ap (one_or_more rule.Or) inner ∙ some_rules rule.Or rs filled.0

not_back : (r : Rule) → IsBack r → IsBack (rule.Not r)
not_back r back d is has =
    let no_and : get (codes "And") d ≡ None
    = none_at (get (codes "And") d) (subst (λ fs. At (get (codes "And") d) (find_key (codes "And") fs)) (fields-Not r)
    (has (codes "And") refl)) in
    let no_or : get (codes "Or") d ≡ None
    = none_at (get (codes "Or") d) (subst (λ fs. At (get (codes "Or") d) (find_key (codes "Or") fs)) (fields-Not r)
    (has (codes "Or") refl)) in
    let stands
    = some_at (get (codes "Not") d) (json.Obj (rule_fields r)) (subst (λ fs. At (get (codes "Not") d) (find_key (codes "Not") fs))
    (fields-Not r) (has (codes "Not") refl)) in
    let inner : rule_of stands.0 ≡ r
    = back stands.0 (record {
      tests = subst TestsRead (tests-Not r) is.tests;
      filled = sym (filled-Not r)
          ∙ is.filled;
    }) (shown_fields stands.0 (rule_fields r) stands.2) in
    rule_here d
    ∙ ap (λ o. rule_by d (option_map rules_of o) (option_map rules_of (get (codes "Or") d))
    (option_map rule_of (get (codes "Not") d))) no_and
    ∙ ap (λ o. rule_by d None (option_map rules_of o) (option_map rule_of (get (codes "Not") d))) no_or
    ∙ ap (λ o. rule_by d None None (option_map rule_of o)) stands.1 ∙ ap rule.Not inner

-- the fields of a rule spell it
pub rule_back : (r : Rule) → IsBack r
rule_back = each_rule IsBack test_back and_back or_back not_back
