use Rattle.std.proofs.Common.{◌≡◌, ◌<◌, ◌^◌, take}
use Rattle.std.specs.Str.Parse.{AllDigits, digits_value}
use Rattle.netlist_reader.proofs.numbered.value_of.Given as goal

-- the digits so far write this value
abbrev pub invariant-digits : goal.invariant-digits
invariant-digits l =
    AllDigits 10 (take l.digit-index l.digits) × (l.value ≡ digits_value 10 (take l.digit-index l.digits)) × (l.value < 2 ^ 32)
