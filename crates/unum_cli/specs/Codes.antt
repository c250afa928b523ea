-- The status with which the program exits.
use Rattle.std.specs.Prelude.{ℕ}
use Rattle.unum_cli.specs.declared.answer.Status.{Status}
use Rattle.unum_cli.specs.declared.answer.Status.TheVariants.{Written, Refused, Usage, ReadFault, WriteFault, Spent, NoMemory}

abbrev pub code : Status → ℕ
code Written = 0
code (Refused r) = 1
code Usage = 2
code ReadFault = 3
code WriteFault = 4
code Spent = 5
code NoMemory = 6
