-- The sizes of a memory's ports, and that they name nets of the design.
use Rattle.std.proofs.Common.{◌≡◌, ◌<◌, ◌≤◌, ◌+◌, ◌^◌, ℕ, Bool, true, ◌&&◌, List, length, sym, ap, subst, ◌∙◌, arith}
use Rattle.std.specs.Prelude.{◌==◌, Some, slice_get, slice_index}
use Rattle.std.specs.List.{list_all}
use Rattle.std.proofs.lemmas.Bool.{and_parts}
use Rattle.std.proofs.lemmas.Option.{slice_get_within, same_Some}
use Rattle.id_arena.specs.declared.keys.MemId.{MemId}
use Rattle.design_core.specs.declared.element.Edge.{Edge}
use Rattle.design_core.specs.declared.element.Memory.{Memory}
use Rattle.design_core.specs.declared.element.ReadPort.{ReadPort}
use Rattle.design_core.specs.declared.element.WritePort.{WritePort}
use Rattle.design_core.specs.declared.element.Driver.TheVariants.{Read}
use Rattle.design_core.specs.declared.parts.Parts.{Parts}
use Rattle.design_core.specs.Design.{IsDesign, net_count, driver, memory_fits, write_reads}
use Rattle.design_core.specs.Faults.{are_there, is_there}
use Rattle.design_core.specs.Limits.{word_count}
use Rattle.design_core.proofs.Bounds.{every, small}
use Rattle.facts.proofs.Tests.{number_same}
use Rattle.history_law.proofs.Naming.{driver_is_read_bit}
use Rattle.history_law.proofs.Ranges.{within_each, write_within, address_within, read_clock_within}
use Rattle.settled_model.specs.Clocked.{port_among, port_of}
use Rattle.settled_model.specs.Held.{AreBases, first_word}
use Rattle.settled_model.proofs.Ranges.{there, each_there}
use Rattle.settled_model.proofs.Places.{base_room}

-- the lengths of a write port
pub record IsWriteOf (memory : Memory) (port : WritePort) : Type 0 where
  pub address : length port.address ≡ memory.address_bits
  pub feed : length port.feed ≡ memory.width

-- the lengths of a read port
pub record IsReadOf (memory : Memory) (port : ReadPort) : Type 0 where
  pub address : length port.address ≡ memory.address_bits
  pub bits : length port.bits ≡ memory.width

module _ (memory : Memory) (fits : memory_fits memory ≡ true) where
  abbrev writes_fit : Bool
  writes_fit =
      list_all (λ (port : WritePort). (length port.address == memory.address_bits) && (length port.feed == memory.width)) memory.writes

  abbrev reads_fit : Bool
  reads_fit =
      list_all (λ (port : ReadPort). (length port.address == memory.address_bits) && (length port.bits == memory.width)) memory.reads

  pub write_sizes : (k : ℕ) (port : WritePort) → slice_get memory.writes k ≡ Some port → IsWriteOf memory port
  write_sizes k port at =
      let all : writes_fit ≡ true = (and_parts _ writes_fit (and_parts _ reads_fit fits).0).1 in
      let both = every (λ (q : WritePort). (length q.address == memory.address_bits) && (length q.feed == memory.width)) memory.writes k port all at in
      let parts = and_parts (length port.address == memory.address_bits) (length port.feed == memory.width) both in
      record { address = number_same _ _ parts.0; feed = number_same _ _ parts.1 }

  pub read_sizes : (k : ℕ) (port : ReadPort) → slice_get memory.reads k ≡ Some port → IsReadOf memory port
  read_sizes k port at =
      let all : reads_fit ≡ true = (and_parts _ reads_fit fits).1 in
      let both = every (λ (q : ReadPort). (length q.address == memory.address_bits) && (length q.bits == memory.width)) memory.reads k port all at in
      let parts = and_parts (length port.address == memory.address_bits) (length port.bits == memory.width) both in
      record { address = number_same _ _ parts.0; bits = number_same _ _ parts.1 }

-- ## The conditions of a write port's turn

module _ (p : Parts) (d : IsDesign p) where
  pub fits_at : (m : ℕ) (memory : Memory) → slice_get p.memories m ≡ Some memory → memory_fits memory ≡ true
  fits_at m memory at = every memory_fits p.memories m memory d.memories_fit at

  pub port_room : (m : ℕ) (memory : Memory) (bits : ℕ) → slice_get p.memories m ≡ Some memory → bits ≡ memory.address_bits → first_word p m + 2 ^ bits ≤ word_count p
  port_room m memory bits at same =
      subst (λ (k : ℕ). first_word p m + 2 ^ k ≤ word_count p) (sym same) (base_room p m memory at)

  pub writes_there : (m k : ℕ) (memory : Memory) (port : WritePort) → slice_get p.memories m ≡ Some memory → slice_get memory.writes k ≡ Some port → are_there (net_count p) (write_reads port) ≡ true
  writes_there m k memory port at in_port =
      each_there p (write_reads port) (within_each p (write_reads port) (write_within p d m k memory port at in_port))

  pub reads_there : (m r : ℕ) (memory : Memory) (port : ReadPort) → slice_get p.memories m ≡ Some memory → slice_get memory.reads r ≡ Some port → are_there (net_count p) port.address ≡ true
  reads_there m r memory port at in_port =
      each_there p port.address (within_each p port.address (address_within p d m r memory port at in_port))

  pub clock_there : (m r : ℕ) (memory : Memory) (port : ReadPort) (edge : Edge) → slice_get p.memories m ≡ Some memory → slice_get memory.reads r ≡ Some port → port.clock ≡ Some edge → is_there (net_count p) edge.net ≡ true
  clock_there m r memory port edge at in_port clocked =
      there p edge.net (read_clock_within p d m r memory port edge at in_port clocked)

pub base_at : (p : Parts) (bases : List ℕ) (m : ℕ) (memory : Memory) → AreBases p bases → slice_get p.memories m ≡ Some memory → slice_index bases m ≡ first_word p m
base_at p bases m memory h at =
    let low : m < length p.memories = slice_get_within p.memories m memory at in
    let within : m ≤ length p.memories = omega arith in
    h.each m within

pub base_within : (p : Parts) (bases : List ℕ) (m : ℕ) (memory : Memory) → AreBases p bases → slice_get p.memories m ≡ Some memory → m < length bases
base_within p bases m memory h at =
    let low : m < length p.memories = slice_get_within p.memories m memory at in
    omega (arith, h.size)

-- a bit of a read port of a memory
pub record IsBit (p : Parts) (m r b : ℕ) (port : ReadPort) : Type 0 where
  pub memory : Memory
  pub at : slice_get p.memories m ≡ Some memory
  pub in_port : slice_get memory.reads r ≡ Some port
  pub low : b < length port.bits

pub bit_named : (p : Parts) (n : ℕ) (m : MemId) (r b : ℕ) → driver p n ≡ Read m r b → (port : ReadPort) × IsBit p m.place r b port
bit_named p n m r b e =
    let x = driver_is_read_bit p n m r b e in
    (x.1, record { memory = x.0; at = x.3; in_port = x.4; low = slice_get_within x.1.bits b x.2 x.5 })

-- ## Ports that are found are the ones that are named

pub only_write : (p : Parts) (m k : ℕ) (memory other : Memory) (port named : WritePort) → slice_get p.memories m ≡ Some memory → slice_get p.memories m ≡ Some other
    → slice_get memory.writes k ≡ Some port → slice_get other.writes k ≡ Some named → port ≡ named
only_write p m k memory other port named at there in_port in_other =
    let same : memory ≡ other = same_Some memory other (sym at ∙ there) in
    same_Some port named (sym in_port ∙ ap (λ (x : Memory). slice_get x.writes k) same ∙ in_other)

pub port_within : (p : Parts) (m r b : ℕ) (port : ReadPort) → IsBit p m r b port → (memory : Memory) → slice_get p.memories m ≡ Some memory → r < length memory.reads
port_within p m r b port x memory at =
    let same : x.memory ≡ memory = same_Some x.memory memory (sym x.at ∙ at) in
    slice_get_within memory.reads r port (ap (λ (y : Memory). slice_get y.reads r) (sym same) ∙ x.in_port)

-- the port that is found is the one of which the net is a bit
pub bit_found : (p : Parts) (n : ℕ) (m : MemId) (r b : ℕ) (port : ReadPort) → driver p n ≡ Read m r b → port_of p m.place r ≡ Some port → IsBit p m.place r b port
bit_found p n m r b port e found =
    let x = bit_named p n m r b e in
    let same : x.0 ≡ port = same_Some x.0 port (sym x.1.in_port ∙ sym (ap (port_among r) x.1.at) ∙ found) in
    subst (IsBit p m.place r b) same x.1

-- ## The conditions of reading a bit

module _ (p : Parts) (d : IsDesign p) (m r b : ℕ) (port : ReadPort) (x : IsBit p m r b port) where
  fits : memory_fits x.memory ≡ true
  fits = fits_at p d m x.memory x.at

  pub bit_address : length port.address ≡ x.memory.address_bits
  bit_address = (read_sizes x.memory fits r port x.in_port).address

  pub few_bits : length port.address ≤ 16
  few_bits = omega (arith, (small x.memory fits).address_bits, bit_address)

  pub bit_low : b < 128
  bit_low = omega (arith, (small x.memory fits).width, (read_sizes x.memory fits r port x.in_port).bits, x.low)

  pub bit_reads : (size : ℕ) → size ≡ net_count p → are_there size port.address ≡ true
  bit_reads size same =
      subst (λ (k : ℕ). are_there k port.address ≡ true) (sym same) (reads_there p d m r x.memory port x.at x.in_port)

  pub bit_clock : (edge : Edge) (size : ℕ) → size ≡ net_count p → port.clock ≡ Some edge → is_there size edge.net ≡ true
  bit_clock edge size same clocked =
      subst (λ (k : ℕ). is_there k edge.net ≡ true) (sym same) (clock_there p d m r x.memory port edge x.at x.in_port clocked)

  pub bit_room : (base size : ℕ) → base ≡ first_word p m → size ≡ word_count p → base + 2 ^ length port.address ≤ size
  bit_room base size same whole =
      let room : first_word p m + 2 ^ length port.address ≤ word_count p = port_room p d m x.memory (length port.address) x.at bit_address in
      omega arith
