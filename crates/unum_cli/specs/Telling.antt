-- What is told of a world that has settled.
use Rattle.std.specs.Prelude.{ℕ, List}
use Rattle.session_report.specs.Report.{report}
use Rattle.unum_world.specs.Traces.{Trace}
use Rattle.unum_cli.specs.declared.worlds.Telling.{Telling}
use Rattle.unum_cli.specs.declared.worlds.Telling.TheVariants.{Report, Made}
use Rattle.unum_cli.specs.Tool.{made_text}

abbrev pub told_by : Telling → Trace → List ℕ
told_by Report p = report p
told_by (Made n) p = made_text n p
