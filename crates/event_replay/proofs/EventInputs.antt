-- The nets that an event gives values to are bits of input ports.
use Rattle.std.proofs.Common.{◌≡◌, ℕ, true, List, ap, sym}
use Rattle.std.proofs.lemmas.Map.Views.{Contains-from_any}
use Rattle.id_arena.specs.declared.keys.NetId.{NetId}
use Rattle.design_core.specs.declared.parts.Parts.{Parts}
use Rattle.design_core.specs.declared.values.PortBit.{PortBit}
use Rattle.design_core.specs.Design.{is_net, port_bits}
use Rattle.history_law.proofs.Naming.{input_is_input_bit, number_same}
use Rattle.event_replay.specs.Settings.{AreInputBits}
use Rattle.settled_model.specs.Opening.{AreInputs}

same_net : (a b : NetId) → is_net a.place b ≡ true → a ≡ b
same_net a b same = let places : b.place ≡ a.place = number_same b.place a.place same in ap (λ (k : ℕ). record { place = k }) (sym places)

pub inputs_of_ports : (p : Parts) (values : List PortBit) → AreInputBits p values → AreInputs p values
inputs_of_ports p values bits b here =
    Contains-from_any {eq = λ a. is_net a.place} same_net b.net (port_bits p.inputs) (input_is_input_bit p b.net.place (bits.inputs b here))
