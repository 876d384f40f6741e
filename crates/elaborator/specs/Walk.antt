-- Inside: how the program walks a design, by the levels that may stand below an instance.
use Prim.Native.Nat.{zero, suc}
use Rattle.std.specs.Prelude.{◌≡◌, ◌≢◌, ◌+◌, ℕ, Option, Some, None, List, [], ◌∷◌, flat_map, Result, Ok, Err, length, map, slice_get, sum_by}
use Rattle.std.specs.List.{enumerate_from, zip}
use Rattle.verilog_tree.specs.declared.source.Inst.{Inst}
use Rattle.verilog_tree.specs.declared.source.PortName.{PortName}
use Rattle.verilog_tree.specs.declared.source.Module.{Module}
use Rattle.design_core.specs.declared.fault.LimitKind.TheVariants.{Instances}
use Rattle.design_core.specs.declared.parts.NetName.{NetName}
use Rattle.module_nets.specs.declared.fault.NetFault.{NetFault}
use Rattle.module_nets.specs.declared.fault.NetFault.TheVariants as wanting
use Rattle.module_nets.specs.declared.nets.Net.{Net}
use Rattle.module_nets.specs.Declarations.{width_of}
use Rattle.design_core.specs.declared.element.Element.{Element}
use Rattle.id_arena.specs.declared.keys.NetId.{NetId}
use Rattle.verilog_tree.specs.declared.source.Dir.{Dir}
use Rattle.verilog_tree.specs.declared.source.Dir.TheVariants.{Input, Output}
use Rattle.module_nets.specs.Names.{Name}
use Rattle.module_nets.specs.Nets as declared_nets
use Rattle.flattening.specs.declared.fault.ElabFault.{ElabFault}
use Rattle.flattening.specs.declared.fault.ElabFault.TheVariants.{NoMemory}
use Rattle.flattening.specs.declared.made.Made.{Made}
use Rattle.flattening.specs.Faults.{fault_of, module_test}
use Rattle.flattening.specs.Flattening.{expanded}
use Rattle.flattening.specs.Instances.{Enter, depth_test, fed, feeding, module_steps, most_modules, recursive_test}
use Rattle.flattening.specs.Links.{Socket, port_sockets}
use Rattle.flattening.specs.Pieces.{beyond, nothing}
use Rattle.flattening.specs.Places.{Given, Inside, bit_names, module_names, name_in, nets_of, own_names}
use Rattle.flattening.specs.Steps.{Step, Test}
use Rattle.elaborator.specs.declared.modules.Modules.{Modules}
use Rattle.elaborator.specs.declared.modules.Ready.{Ready}

-- how an instance is done where so many levels may stand below the one around it
abbrev pub enter_of : ℕ → Given → Option Enter
enter_of zero g = None
enter_of (suc room) g = Some (expanded room g)

-- the instance of a module that comes next, with these modules around it, its own first
abbrev pub instance_at : Given → List ℕ → Module → Made → Inside
instance_at g around m made =
    record { scope = length made.scopes; base = length made.net_names; around = around; module_of = m; nets = nets_of g m }

-- an instance of the module at a place, where so many levels may stand below the one around it
abbrev pub module_step : ℕ → Given → Inside → ℕ → Inst → ℕ → Module → Step
module_step room g here at inst place m made = module_steps (enter_of room g) g here at inst place (instance_at g (place ∷ here.around) m made) made

-- the tests of an instance of the module at a place that come before those of its connections
abbrev pub level_tests : ℕ → Given → Inside → ℕ → ℕ → Made → List Test
level_tests room g here at place made =
    recursive_test here at place ∷ depth_test (enter_of room g) at ∷ beyond Instances at most_modules (made.modules + 1) ∷ []

-- what is known of a module before any instance of it is entered
pub record IsReady (g : Given) (m : Module) (ready : Ready) : Type 0 where
  pub nets : declared_nets.Answers g.source g.tokens m ready.nets
  pub sockets : ready.sockets ≡ port_sockets g m

-- it is so for each of these modules
pub record AreReadyRows (g : Given) (ms : List Module) (rows : List Ready) : Type 0 where
  pub sized : length rows ≡ length ms
  pub each : (k : ℕ) (m : Module) (ready : Ready) → slice_get ms k ≡ Some m → slice_get rows k ≡ Some ready → IsReady g m ready

-- it is so for all modules, and no two have one name
pub record AreReady (g : Given) (table : Modules) : Type 0 where
  pub names : table.names ≡ module_names g
  pub rows : AreReadyRows g g.modules table.rows

-- the tests of modules from a place of the text on, which are these
abbrev pub tests_from : Given → ℕ → List Module → List Test
tests_from g i ms = map (λ (k, m). module_test g k m) (enumerate_from i ms)

-- the answer to a test, whatever is made where there is no fault
abbrev pub Orders : {X : Type 0} → Test → Result X ElabFault → Type 0
Orders test (Ok x) = test ≡ None
Orders test (Err fault) = fault ≢ NoMemory → test ≡ Some fault

-- the buffers of input ports, or those of output ports
abbrev pub side_of : Dir → Inside → Socket → Option (List NetId) → List Element
side_of Input = feeding
side_of Output = fed

-- those of the port of a name
abbrev pub port_elements : Dir → Inside → Name → Option (List NetId) → List Element
port_elements side child name tie = side_of side child (record { name = name; width = None }) tie

-- those of all ports
abbrev pub ports_elements : Dir → Given → Inside → List PortName → List (Option (List NetId)) → List Element
ports_elements side g child ports tied = flat_map (λ (port, tie). port_elements side child (name_in g port.name) tie) (zip ports tied)

-- names of nets alone
abbrev pub nets_alone : List NetName → Made
nets_alone names = record nothing { net_names = names }

-- how many bits nets have
abbrev pub bit_count : List Net → ℕ
bit_count rows = sum_by (λ net. width_of net.range) rows

-- the names of the bits of some nets in a scope, from the first on
abbrev pub names_in : ℕ → List Name → List Net → List NetName
names_in scope names rows = flat_map (λ (name, net). bit_names scope name net.range) (zip names rows)

-- the fault of declarations as one of the text
abbrev pub declared_as : NetFault → ElabFault
declared_as (wanting.Refused cause at) = fault_of cause at
declared_as wanting.NoMemory = NoMemory

-- the names of bits with these indices
abbrev pub with_indices : ℕ → Name → List (Option ℕ) → List NetName
with_indices scope name indices = map (λ index. record { scope = scope; name = name; index = index }) indices

-- what is made where an instance is entered
abbrev pub entry_piece : Option ℕ → Name → Inside → Made
entry_piece parent name child =
    record nothing { net_names = own_names child; scopes = record { parent = parent; name = name } ∷ []; modules = 1 }
