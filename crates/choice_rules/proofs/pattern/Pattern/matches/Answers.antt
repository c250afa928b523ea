use Rattle.std.specs.Str.{chars}
use Rattle.choice_rules.specs.Searching.{standing}
use Rattle.choice_rules.proofs.Searches.{search_ends, search_goes}
use Rattle.choice_rules.proofs.MatchTest.{is_test}
use Rattle.choice_rules.proofs.pattern.Pattern.matches.Goals as goal

pub loop-answer-preserved : goal.loop-answer-preserved
loop-answer-preserved c =
    (search_goes c.args.self.now (chars c.args.text.now) (standing c.loop-answer.search) c.in-More.next c.loop-answer.invariant c.in-More.ensures).0

pub loop-answer-smaller : goal.loop-answer-smaller
loop-answer-smaller c =
    (search_goes c.args.self.now (chars c.args.text.now) (standing c.loop-answer.search) c.in-More.next c.loop-answer.invariant c.in-More.ensures).1

pub returns-in-Answer-clause-value : goal.returns-in-Answer-clause-value
returns-in-Answer-clause-value c =
    is_test c.in-Answer.answer c.args.self.now (chars c.args.text.now)
    (search_ends c.args.self.now (chars c.args.text.now) (standing c.loop-answer.search) c.in-Answer.answer c.loop-answer.invariant c.in-Answer.ensures)

pub returns-in-Answer-clause-meaning : goal.returns-in-Answer-clause-meaning
returns-in-Answer-clause-meaning c =
    search_ends c.args.self.now (chars c.args.text.now) (standing c.loop-answer.search) c.in-Answer.answer c.loop-answer.invariant c.in-Answer.ensures
