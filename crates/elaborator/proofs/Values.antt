-- What reading an expression answers, as a test and its bits.
use Rattle.std.proofs.Common.{◌≡◌, ◌≢◌, ℕ, Option, Some, None, List, Result, Ok, Err, ap, refl, arith}
use Rattle.id_arena.specs.declared.keys.NetId.{NetId}
use Rattle.verilog_tree.specs.declared.source.Expr.{Expr}
use Rattle.module_bits.specs.declared.sized.BitsFault.{BitsFault}
use Rattle.module_bits.specs.declared.sized.BitsFault.TheVariants as bits
use Rattle.module_bits.specs.Bits as reading
use Rattle.module_bits.specs.Names.{Context}
use Rattle.module_bits.specs.Sized.{TellsSized, asked_of, sized_meaning, with_width}
use Rattle.flattening.specs.declared.fault.ElabFault.TheVariants.{NoMemory}
use Rattle.flattening.specs.Faults.{sized_test}
use Rattle.elaborator.specs.Outcomes.{told_as}

-- a fault that was read is that of the test
pub told_test : (given : Result (List NetId) BitsFault) (fault : BitsFault) → TellsSized given (Err fault) → told_as fault ≢ NoMemory → sized_test given ≡ Some (told_as fault)
told_test given (bits.Refused cause at) is free = ap sized_test is
told_test given (bits.WidthDiffers at) is free = ap sized_test is
told_test given bits.NoMemory is free = absurd (free refl)

-- bits that have the width that is asked
of_width : (asked : Option ℕ) (at : ℕ) (found xs : List NetId) → with_width asked at found ≡ Ok xs → xs ≡ found
of_width None at found xs is = cc
of_width (Some width) at found xs is = grind arith

-- bits that were read are those of the expression
of_verdict : (c : Context) (e : Expr) (no_net no_bits : Option ℕ) (asked : Option ℕ) (at : ℕ) (xs : List NetId) → asked_of asked at (reading.verdict c e no_net no_bits) ≡ Ok xs → xs ≡ reading.bits c e
of_verdict c e (Some name) no_bits asked at xs is = cc
of_verdict c e None (Some name) asked at xs is = cc
of_verdict c e None None asked at xs is = grind (arith, of_width)

pub read_bits_are : (c : Context) (asked : Option ℕ) (e : Expr) (xs : List NetId) → sized_meaning c asked e ≡ Ok xs → xs ≡ reading.bits c e
read_bits_are c asked e xs is = of_verdict c e (reading.unknown c e) (reading.misplaced c e) asked _ xs is
