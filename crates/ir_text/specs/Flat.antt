-- The types of the flat form, under the names that the definitions here use.
pub use Rattle.unum_ir.specs.declared.ir.Ir.{Ir}
pub use Rattle.unum_ir.specs.declared.ir.Node.{Node}
pub use Rattle.unum_ir.specs.declared.ir.NodeRule.{NodeRule}
pub use Rattle.unum_ir.specs.declared.ir.NodeCare.{NodeCare}
pub use Rattle.unum_ir.specs.declared.ir.NodeCatcher.{NodeCatcher}
pub use Rattle.unum_ir.specs.declared.ir.Scope.{Scope}
pub use Rattle.unum_ir.specs.declared.ir.Op.{Op}
pub use Rattle.unum_ir.specs.declared.ir.Op.TheVariants.{Pass as PassOp, Choice as ChoiceOp, Succeed as SucceedOp, Fail as FailOp, Task as TaskOp, Parallel as ParallelOp, Map as MapOp}
pub use Rattle.unum_ir.specs.declared.ir.Func.{Func}
pub use Rattle.unum_ir.specs.declared.ir.Func.TheVariants.{Enter as EnterFunc, Task as TaskFunc, Join as JoinFunc}
