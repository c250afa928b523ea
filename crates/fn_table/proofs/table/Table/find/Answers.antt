use Rattle.std.proofs.Common.{◌≡◌, ◌∙◌, ap, refl, Option, Some, None, is_some}
use Rattle.std.specs.Option.{option_map}
use Rattle.fn_table.proofs.Names.{none_where_absent}
use Rattle.fn_table.proofs.table.Table.find.Goals as goal

kept : {A B : Type 0} (f : A → B) (o : Option A) → is_some o ≡ is_some (option_map f o)
kept f None = refl
kept f (Some x) = refl

pub returns-clause-none : goal.returns-clause-none
returns-clause-none c =
    rw (← c.self.view_is) (none_where_absent c.args.resource.now (is_some c.get.result) c.self.inside.rows (kept (λ x. x.now) c.get.result ∙ ap is_some c.get.ensures))
