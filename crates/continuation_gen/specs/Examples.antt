-- The flat forms of small machines.
use Rattle.std.specs.Prelude.{◌≡◌, true, false, [], ◌∷◌, Some, None, codes}
use Rattle.asl_paths.specs.declared.path.PathStep.TheVariants.{Field}
use Rattle.asl_model.specs.Data.{Text}
use Rattle.asl_model.specs.Machine.{Block, block, no_state, and_state, Task, Pass, Parallel, Map, Care, no_block, and_block}
use Rattle.asl_model.specs.Head.{bare}
use Rattle.asl_model.specs.Examples.{whole, at_end, goes_to}
use Rattle.continuation_gen.specs.Tables.{Ir, NodeCare, PassOp, TaskOp, ParallelOp, MapOp, EnterFunc, TaskFunc, JoinFunc}
use Rattle.unum_ir.specs.WellFormed.{nexts_fit}
use Rattle.continuation_gen.specs.Numbering.{flat_form}

abbrev pub no_care : NodeCare
no_care = record { retry = []; catch = [] }

-- one Task
abbrev pub b1 : Block
b1 = block (codes "A") (and_state (codes "A") (Task whole (codes "f") at_end bare) no_state)

abbrev pub OfOneTask : Type 0
OfOneTask = flat_form b1 ≡ record {
  nodes = record { name = codes "A"; scope = 0; op = TaskOp whole 1 None no_care } ∷ [];
  funcs = EnterFunc 0 ∷ TaskFunc 0 (codes "f") ∷ [];
  scopes = record { parent = None; start = 0 } ∷ [];
}

abbrev pub one_pass : Text → Block
one_pass name = block name (and_state name (Pass whole None at_end) no_state)

-- a Parallel of two Passes
abbrev pub m6 : Block
m6 = block (codes "P") (and_state (codes "P")
    (Parallel whole (and_block (one_pass (codes "X")) (and_block (one_pass (codes "Y")) no_block)) at_end bare) no_state)

abbrev pub OfTwoBranches : Type 0
OfTwoBranches = flat_form m6 ≡ record {
  nodes = record { name = codes "P"; scope = 0; op = ParallelOp whole 3 None no_care (1 ∷ 2 ∷ []) }
      ∷ record { name = codes "X"; scope = 1; op = PassOp whole None None }
      ∷ record { name = codes "Y"; scope = 2; op = PassOp whole None None }
      ∷ [];
  funcs = EnterFunc 0 ∷ EnterFunc 1 ∷ EnterFunc 2 ∷ JoinFunc 0 ∷ [];
  scopes = record { parent = None; start = 0 } ∷ record { parent = Some 3; start = 1 } ∷ record { parent = Some 3; start = 2 } ∷ [];
}

abbrev pub one_task : Text → Text → Block
one_task name resource = block name (and_state name (Task whole resource at_end bare) no_state)

-- a Task, and then a Parallel of a Task and of a Map: blocks in a block in a block
abbrev pub gen : Block
gen = block (codes "Price")
    (and_state (codes "Price") (Task whole (codes "keep") (goes_to (codes "Ship")) bare)
    (and_state (codes "Ship")
    (Parallel whole
    (and_block (one_task (codes "Pay") (codes "pay"))
    (and_block (block (codes "Each") (and_state (codes "Each")
    (Map whole (Field (codes "items") ∷ []) None (one_task (codes "Pack") (codes "keep")) at_end bare 0) no_state)) no_block))
    at_end bare)
    no_state))

abbrev pub OfBlocksThreeDeep : Type 0
OfBlocksThreeDeep = flat_form gen ≡ record {
  nodes = record { name = codes "Price"; scope = 0; op = TaskOp whole 4 (Some 1) no_care }
      ∷ record { name = codes "Ship"; scope = 0; op = ParallelOp whole 5 None no_care (1 ∷ 2 ∷ []) }
      ∷ record { name = codes "Pay"; scope = 1; op = TaskOp whole 6 None no_care }
      ∷ record { name = codes "Each"; scope = 2; op = MapOp whole 7 None no_care 3 (Field (codes "items") ∷ []) None 0 }
      ∷ record { name = codes "Pack"; scope = 3; op = TaskOp whole 8 None no_care }
      ∷ [];
  funcs = EnterFunc 0 ∷ EnterFunc 1 ∷ EnterFunc 2 ∷ EnterFunc 3 ∷ TaskFunc 0 (codes "keep") ∷ JoinFunc 1
      ∷ TaskFunc 2 (codes "pay") ∷ JoinFunc 3 ∷ TaskFunc 4 (codes "keep") ∷ [];
  scopes = record { parent = None; start = 0 } ∷ record { parent = Some 5; start = 2 } ∷ record { parent = Some 5; start = 3 }
      ∷ record { parent = Some 7; start = 4 } ∷ [];
}

abbrev pub tried : Care
tried = record {
  retry = record { errors = codes "States.ALL" ∷ []; most = 2 } ∷ [];
  catch = record { errors = codes "States.ALL" ∷ []; result = None; next = codes "H" } ∷ [];
}

-- a Map with a limit, a retrier and a catcher
abbrev pub cared : Block
cared = block (codes "M")
    (and_state (codes "H") (Pass whole None at_end)
    (and_state (codes "M") (Map whole [] None (one_task (codes "T") (codes "f")) at_end tried 3) no_state))

abbrev pub OfCareAndLimit : Type 0
OfCareAndLimit = flat_form cared ≡ record {
  nodes = record { name = codes "H"; scope = 0; op = PassOp whole None None }
      ∷ record {
        name = codes "M";
        scope = 0;
        op = MapOp whole 2 None (record {
          retry = record { errors = codes "States.ALL" ∷ []; most = 2 } ∷ [];
          catch = record { errors = codes "States.ALL" ∷ []; result = None; next = 0 } ∷ [];
        }) 1 [] None 3;
      }
      ∷ record { name = codes "T"; scope = 1; op = TaskOp whole 3 None no_care }
      ∷ [];
  funcs = EnterFunc 0 ∷ EnterFunc 1 ∷ JoinFunc 1 ∷ TaskFunc 2 (codes "f") ∷ [];
  scopes = record { parent = None; start = 1 } ∷ record { parent = Some 2; start = 2 } ∷ [];
}

-- the form of the two branches, where one leads to the other's state
abbrev pub crossed : Ir
crossed = record {
  nodes = record { name = codes "P"; scope = 0; op = ParallelOp whole 3 None no_care (1 ∷ 2 ∷ []) }
      ∷ record { name = codes "X"; scope = 1; op = PassOp whole None (Some 2) }
      ∷ record { name = codes "Y"; scope = 2; op = PassOp whole None None }
      ∷ [];
  funcs = EnterFunc 0 ∷ EnterFunc 1 ∷ EnterFunc 2 ∷ JoinFunc 0 ∷ [];
  scopes = record { parent = None; start = 0 } ∷ record { parent = Some 3; start = 1 } ∷ record { parent = Some 3; start = 2 } ∷ [];
}

abbrev pub CrossedIsRefused : Type 0
CrossedIsRefused = (nexts_fit crossed ≡ false) × (nexts_fit (flat_form m6) ≡ true)
