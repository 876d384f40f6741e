-- The things that drive nets, one after the other, and a table of what drives each net so far.
-- The rule is told in docs/RULES.md, "Building a design".
use Rattle.std.specs.Prelude.{◌≡◌, ◌<◌, ℕ, true, false, Option, Some, None, List, [], ◌∷◌, ◌++◌, map, length, flat_map, get_or, is_some, slice_set}
use Rattle.std.specs.List.{enumerate_from}
use Rattle.id_arena.specs.declared.keys.NetId.{NetId}
use Rattle.design_core.specs.declared.drives.Driven.{Driven}
use Rattle.design_core.specs.declared.drives.Driven.TheVariants.{Never, Once, Twice}
use Rattle.design_core.specs.declared.drives.TableFault.{TableFault}
use Rattle.design_core.specs.declared.drives.TableFault.TheVariants as fault
use Rattle.design_core.specs.declared.element.Element.{Element}
use Rattle.design_core.specs.declared.element.Memory.{Memory}
use Rattle.design_core.specs.declared.element.Driver.{Driver}
use Rattle.design_core.specs.declared.element.Driver.TheVariants.{Constant, Input, Read}
use Rattle.design_core.specs.declared.parts.Parts.{Parts}
use Rattle.design_core.specs.declared.parts.Port.{Port}
use Rattle.design_core.specs.Design.{element_driver}
use Rattle.design_core.specs.Faults.{element_outputs}

-- a thing that drives a net
pub record Drive : Type 0 where
  pub net : ℕ
  pub driver : Driver

abbrev pub drive_of : Driver → NetId → Drive
drive_of driver n = record { net = n.place; driver = driver }

abbrev pub constant_drives : List Drive
constant_drives = record { net = 0; driver = Constant false } ∷ record { net = 1; driver = Constant true } ∷ []

abbrev pub element_drives : ℕ → Element → List Drive
element_drives k e = map (drive_of (element_driver k)) (element_outputs e)

-- the drives of some elements, of which the first has this number
abbrev pub elements_drives : ℕ → List Element → List Drive
elements_drives k es = flat_map (λ (j, e). element_drives j e) (enumerate_from k es)

-- the drives of some input ports
abbrev pub input_drives : List Port → List Drive
input_drives ports = flat_map (λ port. map (drive_of Input) port.nets) ports

-- the drives of a read port, of a memory, and of all memories
abbrev pub port_drives : ℕ → ℕ → List NetId → List Drive
port_drives m r bits = map (λ (b, n). drive_of (Read (record { place = m }) r b) n) (enumerate_from 0 bits)

abbrev pub memory_drives : ℕ → Memory → List Drive
memory_drives m memory = flat_map (λ (r, port). port_drives m r port.bits) (enumerate_from 0 memory.reads)

abbrev pub memories_drives : List Memory → List Drive
memories_drives memories = flat_map (λ (m, memory). memory_drives m memory) (enumerate_from 0 memories)

-- all drives: of the constants, of inputs, of elements, and of read ports
abbrev pub drives_of : Parts → List Drive
drives_of p =
    constant_drives
    ++ (input_drives p.inputs ++ (elements_drives 0 p.elements ++ memories_drives p.memories))

-- what is known of a net after one more drive of it
abbrev pub once_more : Driven → Driver → Driven
once_more Never driver = Once driver
once_more (Once other) driver = Twice
once_more Twice driver = Twice

-- a table after one more drive, and after some
abbrev pub put : List Driven → Drive → List Driven
put table d = slice_set table d.net (once_more (get_or table d.net Never) d.driver)

abbrev pub put_all : List Drive → List Driven → List Driven
put_all [] table = table
put_all (d ∷ ds) table = put_all ds (put table d)

-- the driver that an entry of the table tells; one that is driven twice tells none
abbrev pub the_driver : Driven → Option Driver
the_driver Never = Some (Constant false)
the_driver (Once driver) = Some driver
the_driver Twice = None

abbrev pub told_at : List Driven → ℕ → Option Driver
told_at table n = the_driver (get_or table n Never)

-- these are the drivers that the table tells, one for each net
abbrev pub AreTold : List Driven → List Driver → Type 0
AreTold table drivers = map Some drivers ≡ map the_driver table

-- the least net that is driven twice
pub record IsFirstTwice (table : List Driven) (n : ℕ) : Type 0 where
  pub within : n < length table
  pub here : told_at table n ≡ None
  pub earlier : (m : ℕ) → m < n → is_some (told_at table m) ≡ true

abbrev pub TellsFault : List Driven → TableFault → Type 0
TellsFault table (fault.Twice net) = IsFirstTwice table net.place
TellsFault table (fault.NoMemory) = Unit {0}
