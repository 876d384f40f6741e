-- Inside the rule A3: what some gates of a chip weigh.
use Rattle.std.specs.Prelude.{ℕ, List, sum_by}
use Rattle.emu_machine.specs.declared.netlist.EmuGate.{EmuGate}
use Rattle.emu_machine.specs.Mapped.{subject}
use Rattle.emu_machine.specs.Acceptance.{Case, subject_weight}

-- what some gates of chip `k` weigh together
abbrev pub gates_weight : Case → ℕ → List EmuGate → ℕ
gates_weight c k gates = sum_by (λ gate. subject_weight c.design gate (subject c.results k gate.output.place)) gates
