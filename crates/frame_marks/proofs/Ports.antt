-- Ports of memories and registers that are there.
use Rattle.std.proofs.Common.{◌≡◌, ◌<◌, ℕ, List, get_or, length, refl}
use Rattle.std.specs.Prelude.{Option, Some, None, slice_get, option_and_then, All}
use Rattle.std.proofs.lemmas.Option.{none-some, slice_get_within, slice_get-get_or}
use Rattle.id_arena.specs.declared.keys.ChipNetId.{ChipNetId}
use Rattle.emu_machine.specs.declared.netlist.EmuMemory.{EmuMemory}
use Rattle.emu_machine.specs.declared.netlist.EmuRead.{EmuRead}
use Rattle.emu_machine.specs.declared.netlist.EmuWrite.{EmuWrite}
use Rattle.emu_machine.specs.declared.netlist.EmuRegister.{EmuRegister}
use Rattle.emu_machine.specs.Building.{IsBuilt, IsReadOf, IsWriteOf, IsRegisterOf, AreNetsOf}
use Rattle.emu_machine.specs.Results.{Results}
use Rattle.emu_machine.specs.Netlist.{chip_at}
use Rattle.emu_machine.specs.State.{read_port, write_port}
use Rattle.mark_rule.proofs.Free.{chip_formed, free_register, free_read}
use Rattle.frame_marks.specs.Tables.{AreNets}
use Rattle.frame_marks.specs.Takes.{IsFree}

pub all_there : (nets : ℕ) (named : List ChipNetId) → AreNetsOf nets named → All (λ n. n.place < nets) named
all_there nets named are j d low = are j (get_or named j d) (slice_get-get_or named j d low)

-- the memory of a port
record IsPort {P : Type 0} (r : Results) (c m k : ℕ) (ports : EmuMemory → List P) (port : P) : Type 0 where
  memory : EmuMemory
  at : slice_get (chip_at r.net c).memories m ≡ Some memory
  here : slice_get (ports memory) k ≡ Some port

port_there : {P : Type 0} (r : Results) (c m k : ℕ) (ports : EmuMemory → List P) (port : P) (o : Option EmuMemory) → slice_get (chip_at r.net c).memories m ≡ o
    → option_and_then (λ memory. slice_get (ports memory) k) o ≡ Some port → IsPort r c m k ports port
port_there r c m k ports port None at h = absurd (none-some port h)
port_there r c m k ports port (Some memory) at h = record { memory = memory; at = at; here = h }

module _ (r : Results) (c m k : ℕ) (port : EmuRead) (is : read_port r.net c m k ≡ Some port) where
  reader : IsPort r c m k (λ memory. memory.reads) port
  reader = port_there r c m k (λ memory. memory.reads) port (slice_get (chip_at r.net c).memories m) refl is

  pub read_low : m < length (chip_at r.net c).memories
  read_low = slice_get_within (chip_at r.net c).memories m reader.memory reader.at

  module _ (built : IsBuilt r.net) where
    read_of : IsReadOf (chip_at r.net c).nets reader.memory port
    read_of = ((chip_formed r.net built.formed c).memories m reader.memory reader.at).reads k port reader.here

    pub read_address : AreNets r c port.address
    read_address = all_there (chip_at r.net c).nets port.address read_of.address

    pub read_free : All (λ n. IsFree r c n.place) port.bits
    read_free j d low =
        let net : ChipNetId = get_or port.bits j d in
        let at : slice_get port.bits j ≡ Some net = slice_get-get_or port.bits j d low in
        record {
          low = read_of.bits j net at;
          free = free_read r built c net
              (record { mem = m; memory = reader.memory; at_memory = reader.at; place = k; port = port; at_port = reader.here; bit = j; at_bit = at });
        }

module _ (r : Results) (c m k : ℕ) (port : EmuWrite) (is : write_port r.net c m k ≡ Some port) where
  writer : IsPort r c m k (λ memory. memory.writes) port
  writer = port_there r c m k (λ memory. memory.writes) port (slice_get (chip_at r.net c).memories m) refl is

  pub write_low : m < length (chip_at r.net c).memories
  write_low = slice_get_within (chip_at r.net c).memories m writer.memory writer.at

  module _ (built : IsBuilt r.net) where
    write_of : IsWriteOf (chip_at r.net c).nets writer.memory port
    write_of = ((chip_formed r.net built.formed c).memories m writer.memory writer.at).writes k port writer.here

    pub write_enable : port.enable.place < (chip_at r.net c).nets
    write_enable = write_of.enable

    pub write_address : AreNets r c port.address
    write_address = all_there (chip_at r.net c).nets port.address write_of.address

    pub write_feed : AreNets r c port.feed
    write_feed = all_there (chip_at r.net c).nets port.feed write_of.feed

module _ (r : Results) (built : IsBuilt r.net) (c k : ℕ) (register : EmuRegister) (at : slice_get (chip_at r.net c).registers k ≡ Some register) where
  pub register_of_chip : IsRegisterOf (chip_at r.net c).nets register
  register_of_chip = (chip_formed r.net built.formed c).registers k register at

  pub register_free : IsFree r c register.q.place
  register_free = record { low = register_of_chip.q; free = free_register r built c k register at }
