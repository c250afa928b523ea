use Rattle.std.proofs.Common.{rules}
use Rattle.choice_rules.specs.declared.rule.Rule.{the_lemmas}
use Rattle.ir_text.proofs.rules.test_fields.Goals as goal

pub returns : goal.returns
returns c = search (rules, the_lemmas)
