use Rattle.std.proofs.Common.{◌∙◌, ap, Some}
use Rattle.std.specs.Option.{option_map}
use Rattle.asl_model.specs.declared.machine.Block.{Block}
use Rattle.asl_model.specs.Tree.{block_tree}
use Rattle.central_model.proofs.Branches.{of_parallel, of_map}
use Rattle.central_model.proofs.branching.branch.Goals as goal

pub returns-in-Parallel : goal.returns-in-Parallel
returns-in-Parallel c =
    let p = c.in-Parallel in
    ap (option_map block_tree) c.get.ensures.value ∙ of_parallel c.args.state.now p.shape p.branches p.after p.care c.args.count c.args.index p.is

pub returns-in-Map : goal.returns-in-Map
returns-in-Map c =
    let p = c.in-Map in
    ap (λ (b : Block). Some (block_tree b)) c.get-in-Map.ensures ∙ of_map c.args.state.now p.shape p.items p.selector p.body p.after p.care p.limit c.args.count c.args.index p.is c.requires
