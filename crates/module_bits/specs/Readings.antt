-- Inside: what the program has of the part of an expression that it has read.
use Rattle.std.specs.Prelude.{◌||◌, ◌+◌, ◌≡◌, ◌≤◌, ℕ, Bool, true, false, if◌then◌else◌, Option, Some, None, List, [], ◌++◌, length, map, nat_lt}
use Rattle.std.specs.Option.{option_or}
use Rattle.id_arena.specs.declared.keys.NetId.{NetId}
use Rattle.verilog_tree.specs.declared.source.Expr.{Expr}
use Rattle.verilog_tree.specs.declared.source.IndexRange.{IndexRange}
use Rattle.module_nets.specs.Declarations.{most_bits}
use Rattle.module_bits.specs.declared.reading.Reading.{Reading}
use Rattle.module_bits.specs.declared.target.Target.{Target}
use Rattle.module_bits.specs.declared.target.Target.TheVariants.{NoNet, NoBits, Bits}
use Rattle.module_bits.specs.Bits.{bits, first_some, is_no_bits, is_no_net, joined, misplaced, target_bits, times, unknown}
use Rattle.module_bits.specs.Names.{Context, target_at}

-- nothing was read
abbrev pub nothing : Reading
nothing = record { bits = []; wide = false; unknown = None; misplaced = None }

-- more bits than there may be, after those that were read
abbrev pub too_many : Reading → List NetId → Bool
too_many r more = r.wide || nat_lt most_bits (length r.bits + length more)

-- these bits and faults were added, which stand left of all before: a fault comes before those that were known, bits are
-- added until they are too many, and from then on they stay
pub record AddsBits (old new : Reading) (more : List NetId) (no_net no_bits : Option ℕ) : Type 0 where
  pub unknown : new.unknown ≡ option_or no_net old.unknown
  pub misplaced : new.misplaced ≡ option_or no_bits old.misplaced
  pub wide : length old.bits ≤ most_bits → new.wide ≡ too_many old more
  pub few : length old.bits ≤ most_bits → length new.bits ≤ most_bits
  pub bits : new.wide ≡ false → new.bits ≡ old.bits ++ more
  pub kept : old.wide ≡ true → (new.wide ≡ true) × (new.bits ≡ old.bits)

-- what a name with its select, or without, adds
abbrev pub AddsName : Context → Reading → Reading → ℕ → Option IndexRange → Type 0
AddsName c old new name select =
    AddsBits old new (target_bits (target_at c name select))
    (if is_no_net (target_at c name select) then Some name else None)
    (if is_no_bits (target_at c name select) then Some name else None)

-- what an expression adds
abbrev pub AddsExpr : Context → Reading → Reading → Expr → Type 0
AddsExpr c old new e = AddsBits old new (bits c e) (unknown c e) (misplaced c e)

-- what joined expressions add
abbrev pub AddsParts : Context → Reading → Reading → List Expr → Type 0
AddsParts c old new parts =
    AddsBits old new (joined (map (bits c) parts)) (first_some (map (unknown c) parts)) (first_some (map (misplaced c) parts))

-- what joined expressions add that are repeated
abbrev pub AddsRepeat : Context → Reading → Reading → ℕ → List Expr → Type 0
AddsRepeat c old new count parts =
    AddsBits old new (times count (joined (map (bits c) parts)))
    (first_some (map (unknown c) parts)) (first_some (map (misplaced c) parts))

-- the bits of a target have numbers below 2^32
abbrev pub IsNumbered : Target → Type 0
IsNumbered NoNet = Unit {0}
IsNumbered NoBits = Unit {0}
IsNumbered (Bits low count) = low + count ≤ 4294967296
