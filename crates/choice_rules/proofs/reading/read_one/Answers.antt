use Rattle.choice_rules.proofs.PatternReading.{star_read, backslash_read, literal_read, escaped_read}
use Rattle.choice_rules.proofs.reading.read_one.Goals as goal

pub returns-then-escaped : goal.returns-then-escaped
returns-then-escaped c = λ cs. rw c.if-escaped.true (escaped_read c.args.pieces.now.items c.push.new.self.items c.args.first cs c.in_ok-push.ensures.items)

pub returns-then-first-eq42 : goal.returns-then-first-eq42
returns-then-first-eq42 c = λ cs. rw c.if-escaped.false
    (star_read c.args.pieces.now.items c.push-then-first-eq42.new.self.items c.args.first cs c.if-first-eq42.true c.in_ok-push-2.ensures.items)

pub returns-then-first-eq92 : goal.returns-then-first-eq92
returns-then-first-eq92 c = λ cs. rw c.if-escaped.false (backslash_read c.args.pieces.now.items c.args.first cs c.if-first-eq92.true)

pub returns : goal.returns
returns c = λ cs. rw c.if-escaped.false
    (literal_read c.args.pieces.now.items c.push-2.new.self.items c.args.first cs c.if-first-eq42.false c.if-first-eq92.false c.in_ok-push-3.ensures.items)
