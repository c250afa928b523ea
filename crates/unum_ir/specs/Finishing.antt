-- What follows a node's answer, by what of the node counts then.
use Rattle.std.specs.Prelude.{ℕ, Option, Some, None}
use Rattle.asl_model.specs.Data.{Text, Json, Outcome}
use Rattle.asl_model.specs.Head.{Used, OnwardOf, Ends, settled}
use Rattle.unum_ir.specs.declared.finishing.Answered.{Answered}
use Rattle.unum_ir.specs.Flat.{care_of}

abbrev pub finish_with : Option Answered → Text → (label : ℕ) → Json → Used → Outcome → OnwardOf ℕ
finish_with None name label raw used o = Ends o
finish_with (Some s) name label raw used o = settled name label s.shape.now s.next (care_of s.care.now) s.by_function raw used o
