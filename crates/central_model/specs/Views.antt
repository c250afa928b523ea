-- What the types of this crate stand for.
use Rattle.central_model.specs.declared.onward.Onward.{Onward}
use Rattle.central_model.specs.declared.onward.Onward.TheVariants as onward
use Rattle.central_model.specs.declared.onward.Begun.{Begun}
use Rattle.central_model.specs.declared.onward.Begun.TheVariants as begun
use Rattle.central_model.specs.declared.onward.Then.{Then}
use Rattle.central_model.specs.declared.onward.Then.TheVariants as then
use Rattle.central_model.specs.declared.gathering.Gathered.{Gathered}
use Rattle.central_model.specs.declared.gathering.Gathered.TheVariants as gathered
use Rattle.asl_model.specs.Step as m
use Rattle.asl_model.specs.Central as c

abbrev pub onward_of : Onward → m.Onward
onward_of (onward.Goes next v again) = m.Goes next.now v again
onward_of (onward.Ends o) = m.Ends o

abbrev pub begun_of : Begun → m.Begun
begun_of (begun.On o) = m.On (onward_of o)
begun_of (begun.Calls resource input) = m.Calls resource.now input
begun_of (begun.Fans inputs) = m.Fans inputs

abbrev pub then_of : Then → c.Then
then_of (then.On o) = c.Then_on (onward_of o)
then_of (then.Stays places) = c.Stays places

abbrev pub gathered_of : Gathered → c.Gathered
gathered_of (gathered.Ended outcomes) = c.All_ended outcomes
gathered_of (gathered.Waits places) = c.Some_wait places
