-- What the types of a node's way on stand for.
use Rattle.std.specs.Prelude.{ℕ}
use Rattle.unum_ir.specs.declared.onward.Onward.{Onward}
use Rattle.unum_ir.specs.declared.onward.Onward.TheVariants as onward
use Rattle.unum_ir.specs.declared.onward.Begun.{Begun}
use Rattle.unum_ir.specs.declared.onward.Begun.TheVariants as begun
use Rattle.asl_model.specs.Head.{OnwardOf, Goes, Ends, BegunOf, On, Calls, Fans}

abbrev pub onward_of : Onward → OnwardOf ℕ
onward_of (onward.Goes next v again) = Goes next v again
onward_of (onward.Ends o) = Ends o

abbrev pub begun_of : Begun → BegunOf ℕ ℕ
begun_of (begun.On o) = On (onward_of o)
begun_of (begun.Calls func input) = Calls func input
begun_of (begun.Fans inputs) = Fans inputs
