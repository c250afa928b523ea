-- What a reader answers.
use Rattle.std.specs.Prelude.{◌≡◌, List, [], Result, Ok, Err}
use Rattle.asl_read.specs.Objects.{Broken}
use Rattle.asl_read.specs.Checks.{Checks}
use Rattle.asl_read.specs.declared.fault.ReadFault.{ReadFault}

-- What the value spells where no rule is broken, and else the first broken rule. Memory may always run out.
abbrev pub Reads : {A : Type 0} → Result A ReadFault → List Broken → A → Type 0
Reads (Ok x) due spelled = (due ≡ []) × (x ≡ spelled)
Reads {A} (Err e) due spelled = Checks {A = A} (Err e) due
