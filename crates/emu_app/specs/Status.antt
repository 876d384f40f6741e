-- The exit statuses of the program.
-- The rule is told in docs/FORMATS.md, "Printed texts".
use Rattle.std.specs.Prelude.{ℕ}
use Rattle.emu_app.specs.declared.status.Status.{Status}
use Rattle.emu_app.specs.declared.status.Status.TheVariants.{Ok, Usage, Refused, Rejected, NoFit, ReadFault, WriteFault, NoMemory}

-- the number of a status
abbrev pub code : Status → ℕ
code Ok = 0
code Usage = 1
code Refused = 2
code Rejected = 3
code NoFit = 4
code ReadFault = 5
code WriteFault = 6
code NoMemory = 7
