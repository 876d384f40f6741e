-- The ports of the memories of chips, and the words that they reach.
use Rattle.std.proofs.Common.{◌≡◌, ◌<◌, ◌≤◌, ◌^◌, ℕ, Bool, List, [], length, get_or, refl, sym, ap, subst, ◌∙◌, inl, inr, arith}
use Rattle.std.specs.Prelude.{◌⊎◌, All, Option, Some, None, slice_get, unwrap_or, option_and_then}
use Rattle.std.proofs.lemmas.Bool.{cases_lt}
use Rattle.std.proofs.lemmas.Option.{none-some, slice_get_within, slice_get_past, slice_get-get_or}
use Rattle.std.proofs.Math.Pow.{pow_mono}
use Rattle.id_arena.specs.declared.keys.ChipNetId.{ChipNetId}
use Rattle.emu_machine.specs.declared.netlist.Chip.{Chip}
use Rattle.emu_machine.specs.declared.netlist.EmuMemory.{EmuMemory}
use Rattle.emu_machine.specs.declared.netlist.EmuRead.{EmuRead}
use Rattle.emu_machine.specs.declared.netlist.EmuWrite.{EmuWrite}
use Rattle.emu_machine.specs.Building.{AreNetsOf, IsMemoryOf, IsReadOf, IsWriteOf}
use Rattle.emu_machine.specs.Results.{Results}
use Rattle.emu_machine.specs.Netlist.{no_chip, chip_at}
use Rattle.emu_machine.specs.State.{read_port, write_port}
use Rattle.cycle_sim.specs.Standing.{ChipStands, IsThere}
use Rattle.cycle_sim.specs.Tables.{HaveSizes, HasWords, HaveWords}
use Rattle.cycle_sim.proofs.Chips.{chip_here}

pub then_some : {X Y : Type 0} (f : X → Option Y) (o : Option X) (y : Y) → option_and_then f o ≡ Some y → (x : X) × (o ≡ Some x) × (f x ≡ Some y)
then_some f None y e = absurd (none-some y e)
then_some f (Some x) y e = (x, refl, e)

pub all_there : (nets : ℕ) (named : List ChipNetId) → AreNetsOf nets named → All (IsThere nets) named
all_there nets named are k d low = are k (get_or named k d) (slice_get-get_or named k d low)

-- a memory that is there is one of a chip that is there
pub memory_low : (r : Results) (c m : ℕ) (memory : EmuMemory) → slice_get (chip_at r.net c).memories m ≡ Some memory → c < length r.net
memory_low r c m memory at = go (cases_lt c (length r.net))
  where
    go : (c < length r.net) ⊎ (length r.net ≤ c) → c < length r.net
    go (inl low) = low
    go (inr high) =
        absurd (none-some memory (sym (ap (λ o. slice_get (unwrap_or o no_chip).memories m) (slice_get_past r.net c high)) ∙ at))

-- the words of a memory that is there
module _ (r : Results) (c m : ℕ) (memory : EmuMemory) (at : slice_get (chip_at r.net c).memories m ≡ Some memory) (words : List (List (List ℕ))) (have : HaveWords r words) where
  low : c < length r.net
  low = memory_low r c m memory at

  here : HasWords (chip_at r.net c) (get_or words c [])
  here = have.each c (chip_at r.net c) (chip_here r.net c low)

  pub words_low : c < length words
  words_low = omega (arith, low, have.count)

  pub memories_low : m < length (get_or words c [])
  memories_low = let within : m < length (chip_at r.net c).memories = slice_get_within (chip_at r.net c).memories m memory at in omega (arith, within, here.count)

  pub address_low : (a : ℕ) → a < 2 ^ memory.address_bits → a < length (get_or (get_or words c []) m [])
  address_low a less = let size : length (get_or (get_or words c []) m []) ≡ 2 ^ memory.address_bits = here.sizes m memory at in omega (arith, less, size)

module _ (r : Results) (chips : (c : ℕ) (chip : Chip) → slice_get r.net c ≡ Some chip → ChipStands chip) (c m k : ℕ) where
  memory_stands : (memory : EmuMemory) → slice_get (chip_at r.net c).memories m ≡ Some memory → IsMemoryOf (chip_at r.net c).nets memory
  memory_stands memory at = (chips c (chip_at r.net c) (chip_here r.net c (memory_low r c m memory at))).memories m memory at

  table_size : (shown : List (List Bool)) → HaveSizes r shown → c < length r.net → (table : List Bool) → table ≡ get_or shown c [] → length table ≡ (chip_at r.net c).nets
  table_size shown sizes low table is = ap length is ∙ sizes.sizes c (chip_at r.net c) (chip_here r.net c low)

  -- a write port that is there
  module _ (port : EmuWrite) (at : write_port r.net c m k ≡ Some port) where
    abbrev pub owner : (memory : EmuMemory) × (slice_get (chip_at r.net c).memories m ≡ Some memory) × (slice_get memory.writes k ≡ Some port)
    owner = then_some (λ (memory : EmuMemory). slice_get memory.writes k) (slice_get (chip_at r.net c).memories m) port at

    pub write_memory : slice_get (chip_at r.net c).memories m ≡ Some owner.0
    write_memory = owner.1

    pub write_low : c < length r.net
    write_low = memory_low r c m owner.0 owner.1

    pub write_of : IsWriteOf (chip_at r.net c).nets owner.0 port
    write_of = (memory_stands owner.0 owner.1).writes k port owner.2

    pub write_address_few : length port.address ≤ 16
    write_address_few = let few : owner.0.address_bits ≤ 16 = (memory_stands owner.0 owner.1).address_bits in omega (arith, few, write_of.address_bits)

    pub write_feed_few : length port.feed ≤ 128
    write_feed_few = let few : owner.0.width ≤ 128 = (memory_stands owner.0 owner.1).width in omega (arith, few, write_of.width)

    pub write_address_low : (a : ℕ) → a < 2 ^ length port.address → a < 2 ^ owner.0.address_bits
    write_address_low a less = subst (λ (n : ℕ). a < 2 ^ n) write_of.address_bits less

    module _ (shown : List (List Bool)) (sizes : HaveSizes r shown) (table : List Bool) (is : table ≡ get_or shown c []) where
      in_table : (named : List ChipNetId) → AreNetsOf (chip_at r.net c).nets named → All (IsThere (length table)) named
      in_table named are = subst (λ (n : ℕ). All (IsThere n) named) (sym (table_size shown sizes write_low table is)) (all_there (chip_at r.net c).nets named are)

      pub write_enable_in : port.enable.place < length table
      write_enable_in = subst (λ (n : ℕ). port.enable.place < n) (sym (table_size shown sizes write_low table is)) write_of.enable

      pub write_address_in : All (IsThere (length table)) port.address
      write_address_in = in_table port.address write_of.address

      pub write_feed_in : All (IsThere (length table)) port.feed
      write_feed_in = in_table port.feed write_of.feed

  -- a read port that is there
  module _ (port : EmuRead) (at : read_port r.net c m k ≡ Some port) where
    abbrev pub reader : (memory : EmuMemory) × (slice_get (chip_at r.net c).memories m ≡ Some memory) × (slice_get memory.reads k ≡ Some port)
    reader = then_some (λ (memory : EmuMemory). slice_get memory.reads k) (slice_get (chip_at r.net c).memories m) port at

    pub read_memory : slice_get (chip_at r.net c).memories m ≡ Some reader.0
    read_memory = reader.1

    pub read_low : c < length r.net
    read_low = memory_low r c m reader.0 reader.1

    pub read_chip_in : (held : List (List Bool)) → HaveSizes r held → c < length held
    read_chip_in held sizes = let low : c < length r.net = read_low in omega (arith, low, sizes.count)

    pub read_of : IsReadOf (chip_at r.net c).nets reader.0 port
    read_of = (memory_stands reader.0 reader.1).reads k port reader.2

    pub read_address_few : length port.address ≤ 16
    read_address_few = let few : reader.0.address_bits ≤ 16 = (memory_stands reader.0 reader.1).address_bits in omega (arith, few, read_of.address_bits)

    pub read_bits_few : length port.bits ≤ 128
    read_bits_few = let few : reader.0.width ≤ 128 = (memory_stands reader.0 reader.1).width in omega (arith, few, read_of.width)

    pub read_address_low : (a : ℕ) → a < 2 ^ length port.address → a < 2 ^ reader.0.address_bits
    read_address_low a less = subst (λ (n : ℕ). a < 2 ^ n) read_of.address_bits less

    -- the nets of a port in a table that has all nets of its chip
    pub read_in : (shown : List (List Bool)) → HaveSizes r shown → (table : List Bool) → table ≡ get_or shown c []
        → (named : List ChipNetId) → AreNetsOf (chip_at r.net c).nets named → All (IsThere (length table)) named
    read_in shown sizes table is named are =
        subst (λ (n : ℕ). All (IsThere n) named) (sym (table_size shown sizes read_low table is)) (all_there (chip_at r.net c).nets named are)

-- an address is a number of 64 bits
pub address_small : (bits a : ℕ) → bits ≤ 16 → a < 2 ^ bits → a < 65536
address_small bits a few less = let power : 2 ^ bits ≤ 2 ^ 16 = pow_mono few in omega arith
