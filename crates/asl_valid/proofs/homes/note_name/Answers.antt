use Rattle.std.proofs.Common.{◌∙◌}
use Rattle.std.proofs.lemmas.Map.Text.{btree_map_updates_str}
use Rattle.asl_valid.specs.Homes.{home_in}
use Rattle.asl_valid.proofs.Sharing.{noted}
use Rattle.asl_valid.proofs.homes.note_name.Goals as goal

pub returns : goal.returns
returns c = λ q.
    btree_map_updates_str c.as_str-name.result.now c.args.homes.now c.insert.new.self _ c.in_ok-insert.ensures.updates q
    ∙ noted (home_in c.args.homes.now) c.args.name.now c.as_str-name.result.now q c.args.at c.first_of-first.result c.as_str-name.ensures c.first_of-first.ensures
