-- What follows a state's answer, by what of the state counts then.
use Rattle.std.specs.Prelude.{[], Option, Some, None}
use Rattle.asl_model.specs.Data.{Text, Json, Outcome}
use Rattle.asl_model.specs.Machine.{Used}
use Rattle.asl_model.specs.Head.{settled, zeros}
use Rattle.asl_model.specs.Step.{Onward, Ends}
use Rattle.asl_model.specs.Tree.{care_of}
use Rattle.central_model.specs.declared.finishing.Answered.{Answered}

abbrev pub finish_with : Option Answered → Text → Json → Used → Outcome → Onward
finish_with None name raw used o = Ends o
finish_with (Some s) name raw used o = settled name name s.shape.now s.after.now.next (care_of s.care.now) s.by_function raw used o

abbrev pub fresh_with : Option Answered → Used
fresh_with None = []
fresh_with (Some s) = zeros s.care.now.retry
