use Rattle.std.proofs.Common.{sym, ◌∙◌, ap, Some, false}
use Rattle.std.specs.Str.{chars}
use Rattle.choice_rules.specs.Patterns.{pieces_of}
use Rattle.choice_rules.proofs.PatternReading.{sound, the_same, spells_none, read_all, read_none}
use Rattle.choice_rules.proofs.PatternBack.{is_pattern}
use Rattle.choice_rules.proofs.pattern.Pattern.read.Goals as goal

pub returns-then-escaped-clause-lone : goal.returns-then-escaped-clause-lone
returns-then-escaped-clause-lone c = λ _ pieces h. spells_none pieces (chars c.args.text.now) h
    (read_none (pieces_of false (chars c.args.text.now)) c.loop-first.pieces.items c.loop-first.escaped (chars c.loop-first.left.now) c.loop-first.invariant.1 c.in_default.ensures.parts c.if-escaped.true)

pub returns-clause-spelled : goal.returns-clause-spelled
returns-clause-spelled c = sound (chars c.args.text.now) c.from_pieces.result
    (read_all (pieces_of false (chars c.args.text.now)) c.loop-first.pieces.items c.loop-first.escaped (chars c.loop-first.left.now) c.loop-first.invariant.1 c.in_default.ensures.parts c.if-escaped.false
    ∙ ap Some (sym c.from_pieces.ensures))

pub returns-clause-same : goal.returns-clause-same
returns-clause-same c = λ pieces h. the_same pieces c.from_pieces.result (chars c.args.text.now) h
    (read_all (pieces_of false (chars c.args.text.now)) c.loop-first.pieces.items c.loop-first.escaped (chars c.loop-first.left.now) c.loop-first.invariant.1 c.in_default.ensures.parts c.if-escaped.false
    ∙ ap Some (sym c.from_pieces.ensures))

pub from_pieces-requires : goal.from_pieces-requires
from_pieces-requires c = is_pattern c.args.text.now c.loop-first.pieces.items c.utf8.text
    (read_all (pieces_of false (chars c.args.text.now)) c.loop-first.pieces.items c.loop-first.escaped (chars c.loop-first.left.now) c.loop-first.invariant.1 c.in_default.ensures.parts c.if-escaped.false)
