-- The values of nets and words, and what they make of clocks, levels and resets.
-- The rule is told in docs/RULES.md, "Values and valuations".
use Rattle.std.specs.Prelude.{◌≡◌, ◌<◌, ◌^◌, ℕ, Bool, true, false, not, ◌&&◌, if◌then◌else◌, Option, Some, None, List, map, slice_get}
use Rattle.std.specs.Option.{option_or}
use Rattle.id_arena.specs.declared.keys.NetId.{NetId}
use Rattle.design_core.specs.declared.element.Level.{Level}
use Rattle.design_core.specs.declared.element.Latch.{Latch}
use Rattle.design_core.specs.declared.element.Memory.{Memory}
use Rattle.design_core.specs.declared.element.ReadPort.{ReadPort}
use Rattle.design_core.specs.declared.parts.Parts.{Parts}
use Rattle.design_core.specs.Operation.{number, bit_of}
use Rattle.design_core.specs.Design.{net_count}

-- each net is 0 or 1, and each word of a memory is a number; words go by memory and address
pub record Valuation : Type 0 where
  pub net : ℕ → Bool
  pub word : ℕ → ℕ → ℕ

-- the values of some nets, in order
abbrev pub values : Valuation → List NetId → List Bool
values v nets = map (λ n. v.net n.place) nets

-- the number that some nets show, from bit 0
abbrev pub shown_number : Valuation → List NetId → ℕ
shown_number v nets = number (values v nets)

-- a bit of the word at a read port's address
abbrev pub addressed_bit : Valuation → ℕ → ReadPort → ℕ → Bool
addressed_bit v m port b = bit_of (v.word m (shown_number v port.address)) b

-- a clock has its edge between two valuations
abbrev pub has_edge : Valuation → Valuation → NetId → Bool → Bool
has_edge v w clock rise =
    if rise then not (v.net clock.place) && w.net clock.place
    else v.net clock.place && not (w.net clock.place)

abbrev pub acts : Valuation → Level → Bool
acts v level = if level.high then v.net level.net.place else not (v.net level.net.place)

-- a reset pin that is not there never acts
abbrev pub reset_acts : Valuation → Option Level → Bool
reset_acts v None = false
reset_acts v (Some level) = acts v level

-- what resets force: 0 while clear acts, else 1 while preset acts, else nothing
abbrev pub forced : Option Level → Option Level → Valuation → Option Bool
forced clear preset v =
    if reset_acts v clear then Some false else if reset_acts v preset then Some true else None

-- what a latch shows at once: what its resets force, else its data while its gate acts
abbrev pub passed : Latch → Valuation → Option Bool
passed l v =
    option_or (forced l.clear l.preset v) (if acts v l.gate then Some (v.net l.feed.place) else None)

-- an address of a memory of the design
abbrev pub IsAddress : Parts → ℕ → ℕ → Type 0
IsAddress p m a = (memory : Memory) × (slice_get p.memories m ≡ Some memory) × (a < 2 ^ memory.address_bits)

-- words, by memory and address, are below 2 to the width of their memory
abbrev pub WordsFit : Parts → (ℕ → ℕ → ℕ) → Type 0
WordsFit p words =
    (m a : ℕ) (memory : Memory) → slice_get p.memories m ≡ Some memory → a < 2 ^ memory.address_bits → words m a < 2 ^ memory.width

-- two valuations of a design are the same on its nets and on its words
pub record SameValues (p : Parts) (v w : Valuation) : Type 0 where
  pub nets : (n : ℕ) → n < net_count p → v.net n ≡ w.net n
  pub words : (m a : ℕ) → IsAddress p m a → v.word m a ≡ w.word m a
