use Rattle.std.proofs.Common.{sym, ◌∙◌}
use Rattle.choice_rules.proofs.Characters.{next_char}
use Rattle.choice_rules.proofs.matching.split_first.Goals as goal

pub returns-clause-parts : goal.returns-clause-parts
returns-clause-parts c =
    rw c.as_str.ensures (next_char c.args.text.now c.next.new.self.rest.now c.in_ok-first.first c.utf8.text (sym c.chars-chars.ensures.rest ∙ c.in_ok-first.ensures.steps.0))
