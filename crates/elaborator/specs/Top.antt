-- Inside: what the program tells of a text.
use Rattle.std.specs.Prelude.{◌≡◌, ◌≢◌, ℕ, Bool, true, false, if◌then◌else◌, None, List, [], ◌∷◌, ◌++◌, Result, Ok, Err}
use Rattle.verilog_tree.specs.declared.source.Dir.{Dir}
use Rattle.verilog_tree.specs.declared.source.Dir.TheVariants.{Input, Output}
use Rattle.design_core.specs.declared.fault.DesignFault.TheVariants as build
use Rattle.design_core.specs.declared.parts.Parts.{Parts}
use Rattle.design_core.specs.declared.parts.Port.{Port}
use Rattle.design_core.specs.Faults as building
use Rattle.module_nets.specs.Names.{Name}
use Rattle.flattening.specs.declared.fault.ElabFault.{ElabFault}
use Rattle.flattening.specs.declared.fault.ElabFault.TheVariants.{NoMemory, TwoDrivers, Undriven}
use Rattle.flattening.specs.declared.made.Made.{Made}
use Rattle.flattening.specs.Flattening.{constant_name, port_of}
use Rattle.flattening.specs.Instances.{has_dir, is_input, is_output}
use Rattle.flattening.specs.Pieces.{nothing}
use Rattle.flattening.specs.Places.{Inside}

-- the answer to what is meant: this is meant; and a fault is meant, unless memory is wanting
abbrev pub Tells : {X : Type 0} → Result X ElabFault → Result X ElabFault → Type 0
Tells meant (Ok x) = meant ≡ Ok x
Tells meant (Err fault) = fault ≢ NoMemory → meant ≡ Err fault

-- whether a direction is this one
abbrev pub is_side : Dir → Dir → Bool
is_side Input = is_input
is_side Output = is_output

-- a constant net alone
abbrev pub constant_alone : Name → Made
constant_alone name = record nothing { net_names = constant_name name ∷ [] }

-- ports, and then the one of a name, where it has the direction
abbrev pub added_port : Dir → Inside → Name → List Port → List Port
added_port side here name ports = if has_dir (is_side side) here name then ports ++ port_of here name ∷ [] else ports

-- whether a fault is one of drivers
abbrev pub of_drivers : ElabFault → Bool
of_drivers (TwoDrivers net name) = true
of_drivers (Undriven net name) = true
of_drivers other = false

-- what building whole parts answers: a design, or a fault of drivers
abbrev pub BuildsWhole : Parts → Result Parts ElabFault → Type 0
BuildsWhole p (Ok d) = building.Answers p (Ok d)
BuildsWhole p (Err NoMemory) = Unit {0}
BuildsWhole p (Err (TwoDrivers net name)) = building.Answers p (Err (build.TwoDrivers net name))
BuildsWhole p (Err (Undriven net name)) = building.Answers p (Err (build.Undriven net name))
BuildsWhole p (Err other) = ⊥
