use Rattle.std.proofs.lemmas.Result.{on_ok_weaker}
use Rattle.asl_model.specs.Tree.{tree_of}
use Rattle.asl_valid.specs.Levels.{levels_of}
use Rattle.asl_valid.proofs.Whole.{whole}
use Rattle.asl_valid.proofs.checking.note_all.Goals as goal

pub returns : goal.returns
returns c =
    on_ok_weaker c.note_rules-3.result
    (whole (tree_of c.args.machine.now) (levels_of c.args.levels.now) c.args.found.now c.note_starts.new.found c.note_rules.new.found c.note_shared.new.found c.note_rules-2.new.found c.note_count.new.found c.note_rules-3.new.found
    c.requires.levels c.requires.none_yet
    c.in_ok-note_starts.ensures c.in_ok-note_rules.ensures c.in_ok-note_shared.ensures c.in_ok-note_rules-2.ensures c.in_ok-note_count.ensures)
    c.note_rules-3.ensures
