use Rattle.std.proofs.Common.{sym, subst, ◌∙◌, inr}
use Rattle.unum_world.specs.Answers.{IsSettled}
use Rattle.unum_world.specs.Traces.{IsDrained}
use Rattle.unum_cli.specs.Telling.{told_by}
use Rattle.unum_cli.specs.Tool.{IsSpent, IsWorldOf}
use Rattle.unum_cli.proofs.Due.{drained_told, spent_told, settled_world, on_desk, keeps_same}
use Rattle.unum_cli.proofs.worlds.settle_on.Goals as goal

pub returns-in_default-clause-laid : goal.returns-in_default-clause-laid
returns-in_default-clause-laid g c = λ maker made.
    let s = c.settle-settled in
    let r = c.into_world-world.result in
    on_desk (IsWorldOf maker c.args.planned.opening c.args.planned.limit) c.lay.new.desk r c.lay.ensures.laid
    (settled_world maker c.args.planned s.new.self r s.ensures.opening s.ensures.limit s.ensures.chosen s.ensures.obeying c.into_world-world.ensures.world made)

pub returns-in_default-clause-told : goal.returns-in_default-clause-told
returns-in_default-clause-told g c = λ maker made.
    let s = c.settle-settled in
    let r = c.into_world-world.result in (
      inr (on_desk (IsWorldOf maker c.args.planned.opening c.args.planned.limit) c.lay.new.desk r c.lay.ensures.laid
          (settled_world maker c.args.planned s.new.self r s.ensures.opening s.ensures.limit s.ensures.chosen s.ensures.obeying c.into_world-world.ensures.world made)),
      keeps_same (g.K.Sink.taken c.args.out.now),
    )

pub returns-in_default-text_of-clause-laid : goal.returns-in_default-text_of-clause-laid
returns-in_default-text_of-clause-laid g c = λ maker made.
    let s = c.settle-settled in
    let r = c.into_world-world.result in
    on_desk (IsWorldOf maker c.args.planned.opening c.args.planned.limit) c.lay-in_default-text_of.new.desk r c.lay-in_default-text_of.ensures.laid
    (settled_world maker c.args.planned s.new.self r s.ensures.opening s.ensures.limit s.ensures.chosen s.ensures.obeying c.into_world-world.ensures.world made)

pub returns-in_default-text_of-clause-told : goal.returns-in_default-text_of-clause-told
returns-in_default-text_of-clause-told g c = λ maker made.
    let s = c.settle-settled in
    let r = c.into_world-world.result in (
      inr (on_desk (IsWorldOf maker c.args.planned.opening c.args.planned.limit) c.lay-in_default-text_of.new.desk r c.lay-in_default-text_of.ensures.laid
          (settled_world maker c.args.planned s.new.self r s.ensures.opening s.ensures.limit s.ensures.chosen s.ensures.obeying c.into_world-world.ensures.world made)),
      keeps_same (g.K.Sink.taken c.args.out.now),
    )

pub returns-in-Drained-clause-laid : goal.returns-in-Drained-clause-laid
returns-in-Drained-clause-laid g c = λ maker made.
    let s = c.settle-settled in
    let r = c.into_world-world.result in
    on_desk (IsWorldOf maker c.args.planned.opening c.args.planned.limit) c.lay-2.new.desk r c.lay-2.ensures.laid
    (settled_world maker c.args.planned s.new.self r s.ensures.opening s.ensures.limit s.ensures.chosen s.ensures.obeying c.into_world-world.ensures.world made)

pub returns-clause-laid : goal.returns-clause-laid
returns-clause-laid g c = λ maker made.
    let s = c.settle-settled in
    let r = c.into_world-world.result in
    on_desk (IsWorldOf maker c.args.planned.opening c.args.planned.limit) c.lay-2.new.desk r c.lay-2.ensures.laid
    (settled_world maker c.args.planned s.new.self r s.ensures.opening s.ensures.limit s.ensures.chosen s.ensures.obeying c.into_world-world.ensures.world made)

pub returns-in-Drained-clause-told : goal.returns-in-Drained-clause-told
returns-in-Drained-clause-told g c = λ maker made.
    let s = c.settle-settled in
    let p = c.into_world-world.result in
    let same = c.into_world-world.ensures.world in
    drained_told (told_by c.args.telling) maker c.args.planned.opening c.args.planned.limit p c.finish.result c.lay-2.new.desk (g.K.Sink.taken c.args.out.now) (g.K.Sink.taken c.finish.new.out)
    c.as_str.result.now
    (settled_world maker c.args.planned s.new.self p s.ensures.opening s.ensures.limit s.ensures.chosen s.ensures.obeying same made)
    c.lay-2.ensures.laid (c.as_str.ensures ∙ c.in-Ok-text_of.ensures)
    (subst IsDrained (sym same) (subst (IsSettled s.new.self) c.in-Drained.is c.in-Ok.ensures.settled)) c.finish.ensures.wrote

pub returns-clause-told : goal.returns-clause-told
returns-clause-told g c = λ maker made.
    let s = c.settle-settled in
    let p = c.into_world-world.result in
    let same = c.into_world-world.ensures.world in
    spent_told (told_by c.args.telling) maker c.args.planned.opening c.args.planned.limit p c.finish-in-Spent.result c.lay-2.new.desk (g.K.Sink.taken c.args.out.now) (g.K.Sink.taken c.finish-in-Spent.new.out)
    c.as_str-in-Spent.result.now
    (settled_world maker c.args.planned s.new.self p s.ensures.opening s.ensures.limit s.ensures.chosen s.ensures.obeying same made)
    c.lay-2.ensures.laid (c.as_str-in-Spent.ensures ∙ c.in-Ok-text_of.ensures)
    (subst IsSpent (sym same) (subst (IsSettled s.new.self) c.in-Spent.is c.in-Ok.ensures.settled)) c.finish-in-Spent.ensures.wrote
