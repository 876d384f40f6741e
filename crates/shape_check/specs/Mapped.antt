-- Inside the rule A9: the tables of what registers keep, and of how often memories are named.
use Rattle.std.specs.Prelude.{◌≡◌, ◌<◌, ◌+◌, ◌==◌, ◌&&◌, ◌||◌, ℕ, Bool, false, not, if◌then◌else◌, is_some, Option, None, Some, List, [], ◌∷◌, length, get_or, min, count_by, flat_map, slice_get}
use Rattle.id_arena.specs.declared.keys.NetId.{NetId}
use Rattle.design_core.specs.declared.element.ReadPort.{ReadPort}
use Rattle.design_core.specs.Design.{includes, net_count, port_bits}
use Rattle.emu_machine.specs.declared.map.MemMap.{MemMap}
use Rattle.emu_machine.specs.declared.netlist.EmuRegister.{EmuRegister}
use Rattle.emu_machine.specs.declared.map.Subject.TheVariants.{Net}
use Rattle.emu_machine.specs.Results.{Results}
use Rattle.emu_machine.specs.Origins.{has_subject}
use Rattle.emu_machine.specs.Acceptance.{Case, FailsA9, is_register_kept, output_differs, times_named}
use Rattle.emu_machine.specs.declared.place.Place.{Place}
use Rattle.use_check.specs.Least.{IsLeastUnder}

-- a table marks, besides the places that it marked, those that pass a test
pub record AreMarkedAlso (test : ℕ → Bool) (old new : List Bool) : Type 0 where
  pub same_length : length new ≡ length old
  pub marks : (n : ℕ) → n < length old → get_or new n false ≡ (get_or old n false || test n)

-- the net of this number
abbrev pub net : ℕ → NetId
net n = record { place = n }

-- whether a register of chip `k` is kept and stands for net `n`
abbrev pub keeps : Results → ℕ → ℕ → EmuRegister × Bool → Bool
keeps r k n = λ (register, kept). kept && has_subject r k register.q (Net (net n))

-- a table marks just the nets of the design for which a kept register stands
pub record AreKept (c : Case) (table : List Bool) : Type 0 where
  pub count : length table ≡ net_count c.design
  pub marks : (n : ℕ) → n < net_count c.design → get_or table n false ≡ is_register_kept c.results (net n)

-- a table counts so many besides what it counted, where 2 stands for all that is more
pub record AreCountedAlso (more : ℕ → ℕ) (old new : List ℕ) : Type 0 where
  pub same_length : length new ≡ length old
  pub counts : (m : ℕ) → m < length old → min 2 (get_or new m 0) ≡ min 2 (get_or old m 0 + more m)

-- how many of these entries name memory `m`
abbrev pub names : ℕ → List MemMap → ℕ
names m entries = count_by (λ memory. memory.of.place == m) entries

-- a table counts up to 2 how often each memory of the design is named
pub record AreNamed (c : Case) (table : List ℕ) : Type 0 where
  pub count : length table ≡ length c.design.memories
  pub counts : (m : ℕ) → m < length c.design.memories → min 2 (get_or table m 0) ≡ min 2 (times_named c.results m)

-- all of these nets are nets of the design
abbrev pub AreNets : Case → List NetId → Type 0
AreNets c nets = (k : ℕ) (n : NetId) → slice_get nets k ≡ Some n → n.place < net_count c.design

-- all bits of these ports are
abbrev pub ArePorts : Case → List ReadPort → Type 0
ArePorts c ports = (k : ℕ) (port : ReadPort) → slice_get ports k ≡ Some port → AreNets c port.bits

-- the bits of the ports that have a clock
abbrev pub clocked : List ReadPort → List NetId
clocked ports = flat_map (λ port. if is_some port.clock then port.bits else []) ports

-- an input bit has no kept register
abbrev pub is_lost : Case → NetId → Bool
is_lost c n = includes (port_bits c.design.inputs) n.place && not (is_register_kept c.results n)

-- output bit `k` differs from the net of the map
abbrev pub differs : Case → ℕ → Bool
differs c k = output_differs c.results (slice_get c.results.map.outputs k) (slice_get (port_bits c.design.outputs) k)

-- the first output bits, so many, are mapped
abbrev pub NoOutputBefore : Case → ℕ → Type 0
NoOutputBefore c k = (j : ℕ) → j < k → IsLeastUnder (FailsA9 c) (2 ∷ j ∷ []) None

-- these are the output bits from one on
abbrev pub AreOutputs : Case → ℕ → List NetId → Type 0
AreOutputs c start nets =
    (k : ℕ) (n : NetId) → slice_get nets k ≡ Some n → slice_get (port_bits c.design.outputs) (start + k) ≡ Some n

-- the least output bit that is not mapped, or none up to this one
abbrev pub IsFirstOutput : Case → ℕ → Option Place → Type 0
IsFirstOutput c end None = NoOutputBefore c end
IsFirstOutput c end (Some at) = IsLeastUnder (FailsA9 c) (2 ∷ []) (Some at)
