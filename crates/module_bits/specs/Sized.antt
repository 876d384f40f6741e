-- What an expression stands for that must have a width.
-- The rule is told in docs/FORMATS.md, "Faults of flattening".
use Rattle.std.specs.Prelude.{◌==◌, ◌≡◌, ℕ, if◌then◌else◌, Option, Some, None, List, Result, Ok, Err, length}
use Rattle.id_arena.specs.declared.keys.NetId.{NetId}
use Rattle.verilog_tree.specs.declared.source.Expr.{Expr}
use Rattle.module_nets.specs.declared.fault.NetFault.{NetFault}
use Rattle.module_nets.specs.declared.fault.NetFault.TheVariants as net
use Rattle.module_nets.specs.Names.{start_of}
use Rattle.module_bits.specs.declared.sized.BitsFault.{BitsFault}
use Rattle.module_bits.specs.declared.sized.BitsFault.TheVariants as bits
use Rattle.module_bits.specs.Bits.{first_token, meaning}
use Rattle.module_bits.specs.Names.{Context}

-- the width that is asked, if one is; another one is a fault where the expression begins
abbrev pub with_width : Option ℕ → ℕ → List NetId → Result (List NetId) BitsFault
with_width None at found = Ok found
with_width (Some asked) at found = if length found == asked then Ok found else Err (bits.WidthDiffers at)

-- the faults of the expression itself are told as they are
abbrev pub fault_from : NetFault → BitsFault
fault_from (net.Refused cause at) = bits.Refused cause at
fault_from net.NoMemory = bits.NoMemory

-- they come before that of the width
abbrev pub asked_of : Option ℕ → ℕ → Result (List NetId) NetFault → Result (List NetId) BitsFault
asked_of asked at (Ok found) = with_width asked at found
asked_of asked at (Err fault) = Err (fault_from fault)

-- what an expression stands for, where this width is asked of it or none
abbrev pub sized_meaning : Context → Option ℕ → Expr → Result (List NetId) BitsFault
sized_meaning c asked e = asked_of asked (start_of c.tokens (first_token e)) (meaning c e)

-- the answer is this, unless memory is wanting
abbrev pub TellsSized : Result (List NetId) BitsFault → Result (List NetId) BitsFault → Type 0
TellsSized given (Ok found) = given ≡ Ok found
TellsSized given (Err (bits.Refused cause at)) = given ≡ Err (bits.Refused cause at)
TellsSized given (Err (bits.WidthDiffers at)) = given ≡ Err (bits.WidthDiffers at)
TellsSized given (Err bits.NoMemory) = Unit {0}
