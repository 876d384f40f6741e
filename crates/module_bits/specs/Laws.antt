-- That the nets of a module are numbered where their bits have room.
-- The rule is told in docs/FORMATS.md, "Expansion".
use Rattle.std.specs.Prelude.{◌+◌, ◌≤◌, ℕ, List, Ok}
use Rattle.std.specs.List.{sum_by}
use Rattle.verilog_lex.specs.declared.token.Token.{Token}
use Rattle.verilog_tree.specs.declared.source.Module.{Module}
use Rattle.module_nets.specs.Declarations.{width_of}
use Rattle.module_nets.specs.Nets.{Answers, Nets}
use Rattle.module_bits.specs.Names.{AreNumbered}

-- so it is for the nets that a module was found to have, where those before the instance and all bits of its own are at
-- most 2^32
abbrev pub NetsAreNumbered : Type 0
NetsAreNumbered =
    (source : List ℕ) (tokens : List Token) (m : Module) (nets : Nets) (base : ℕ) →
    Answers source tokens m (Ok nets) →
    base + sum_by (λ net. width_of net.range) nets.rows ≤ 4294967296 →
    AreNumbered base nets
