-- What is told of a run: of a visit its name, its resource, what it was given, and its answer.
use Rattle.std.specs.Prelude.{map, Option, Some, None}
use Rattle.asl_model.specs.Data.{Text}
use Rattle.asl_model.specs.Central as c
use Rattle.central_model.specs.declared.run.Visit.{Visit}
use Rattle.central_model.specs.declared.run.End.{End}
use Rattle.central_model.specs.declared.run.End.TheVariants as end
use Rattle.central_model.specs.declared.run.Run.{Run}

-- a Task calls a resource
abbrev pub resource_of : c.Visited → Option Text
resource_of c.Entered = None
resource_of (c.Called name resource) = Some resource
resource_of (c.Joined name) = None

abbrev pub told : c.Visit → Visit
told v = record { name = c.name_of v; resource = resource_of v.visited; given = v.given; answer = v.answer }

abbrev pub told_end : c.End → End
told_end (c.Ended o) = end.Ended o
told_end (c.Waits ps) = end.Waits ps

abbrev pub told_run : c.Run → Run
told_run r = record { visits = map told r.visits; end = told_end r.end }
