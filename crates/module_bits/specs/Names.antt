-- Which bits a name stands for in an expression, with or without a select.
-- The rule is told in docs/FORMATS.md, "Names and widths".
use Rattle.std.specs.Prelude.{◌&&◌, ◌||◌, ◌+◌, ◌-◌, ◌≡◌, ◌≤◌, ℕ, Bool, if◌then◌else◌, Option, Some, None, List, length, nat_le, slice_get}
use Rattle.id_arena.specs.Names.{place_among}
use Rattle.verilog_lex.specs.declared.token.Token.{Token}
use Rattle.verilog_tree.specs.declared.source.IndexRange.{IndexRange}
use Rattle.module_nets.specs.declared.nets.Net.{Net}
use Rattle.module_nets.specs.Declarations.{width_of}
use Rattle.module_nets.specs.Names.{Name, text_of}
use Rattle.module_nets.specs.Nets.{Nets}
use Rattle.module_bits.specs.declared.target.Target.{Target}
use Rattle.module_bits.specs.declared.target.Target.TheVariants.{NoNet, NoBits, Bits}

-- what an expression of a module is read in: the text and its tokens, the nets of the module, and how many nets of the
-- design come before those of the instance
pub record Context : Type 0 where
  pub source : List ℕ
  pub tokens : List Token
  pub nets : Nets
  pub base : ℕ

-- the nets of an instance have numbers below 2^32, and there is one row for each name
pub record AreNumbered (base : ℕ) (nets : Nets) : Type 0 where
  pub sized : length nets.rows ≡ length nets.names
  pub within : (k : ℕ) (net : Net) → slice_get nets.rows k ≡ Some net → base + (net.first + width_of net.range) ≤ 4294967296

-- the net of a name, if the module has one
abbrev pub net_named : Nets → Name → Option Net
net_named nets name = elim (place_among nets.names name) [ None ↦ None | Some place ↦ slice_get nets.rows place ]

-- the indices of a range are those from one end to the other, whether it falls or rises
abbrev pub has_index : IndexRange → ℕ → Bool
has_index r i = nat_le r.right i && nat_le i r.left || nat_le r.left i && nat_le i r.right

-- the bit to which an index belongs: the index on the right belongs to bit 0
abbrev pub bit_place : IndexRange → ℕ → ℕ
bit_place r i = if nat_le r.right i then i - r.right else r.right - i

-- a select is of a range where it has indices of it, in its direction: the left one belongs to no lower bit
abbrev pub is_select : IndexRange → IndexRange → Bool
is_select r s = has_index r s.left && has_index r s.right && nat_le (bit_place r s.right) (bit_place r s.left)

-- the bits of a range that a select asks, where the range has its bit 0 at this number
abbrev pub selected : ℕ → IndexRange → IndexRange → Target
selected first r s =
    if is_select r s then Bits (first + bit_place r s.right) (bit_place r s.left - bit_place r s.right + 1) else NoBits

-- the bits of a net that has its bit 0 at this number: all of them, or those that a select asks; a net without range has none
abbrev pub bits_in : ℕ → Option IndexRange → Option IndexRange → Target
bits_in first range None = Bits first (width_of range)
bits_in first None (Some s) = NoBits
bits_in first (Some r) (Some s) = selected first r s

-- what the name at a token stands for, with this select or none
abbrev pub target_at : Context → ℕ → Option IndexRange → Target
target_at c token select =
    elim (net_named c.nets (text_of c.source c.tokens token)) [
      | None ↦ NoNet
      | Some net ↦ bits_in (c.base + net.first) net.range select
    ]
