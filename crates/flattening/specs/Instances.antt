-- What an instance of a module makes: it is entered, its input ports are fed, its items are done, and its output ports feed
-- others.
-- The rule is told in docs/FORMATS.md, "Expansion" and "Faults of flattening".
use Rattle.std.specs.Prelude.{◌+◌, ◌==◌, ℕ, Bool, true, false, if◌then◌else◌, is_none, Option, Some, None, List, [], ◌∷◌, Ok, flat_map}
use Rattle.std.specs.List.{list_any, zip}
use Rattle.id_arena.specs.declared.keys.NetId.{NetId}
use Rattle.verilog_tree.specs.declared.source.Dir.{Dir}
use Rattle.verilog_tree.specs.declared.source.Dir.TheVariants.{Input, Output}
use Rattle.verilog_tree.specs.declared.source.Inst.{Inst}
use Rattle.design_core.specs.declared.element.Element.{Element}
use Rattle.design_core.specs.declared.fault.LimitKind.TheVariants.{Depth, Instances}
use Rattle.module_nets.specs.Names.{Name}
use Rattle.flattening.specs.declared.fault.ElabFault.TheVariants.{Limit, Recursive}
use Rattle.flattening.specs.declared.made.Made.{Made}
use Rattle.flattening.specs.Faults.{declaration_tests}
use Rattle.flattening.specs.Links.{Socket, connection_tests, port_sockets, ties}
use Rattle.flattening.specs.Pieces.{Deed, beyond, buffers, elements_in, nothing, performed}
use Rattle.flattening.specs.Places.{Given, Inside, dir_named, name_in, named_bits, own_names, start_in}
use Rattle.flattening.specs.Steps.{Step, Test, all_steps, tested}

-- how the items of an instance of a module are done, where one more may stand below
abbrev pub Enter : Type 0
Enter = Inside → Step

-- the instances of modules that a design may have, the top included
abbrev pub most_modules : ℕ
most_modules = 400000

-- a module must not stand within an instance of itself
abbrev pub recursive_test : Inside → ℕ → ℕ → Test
recursive_test here at place = if list_any (λ other. other == place) here.around then Some (Recursive at) else None

-- there must be room for one level more
abbrev pub depth_test : Option Enter → ℕ → Test
depth_test enter at = if is_none enter then Some (Limit Depth at) else None

-- the tests of an instance before it is entered: the module at this place of the text, depth, number, then its connections
abbrev pub standing_tests : Option Enter → Given → Inside → ℕ → Inst → ℕ → Inside → Made → List Test
standing_tests enter g here at inst place child made =
    recursive_test here at place
    ∷ depth_test enter at
    ∷ beyond Instances at most_modules (made.modules + 1)
    ∷ connection_tests g here (port_sockets g child.module_of) inst

-- entering: the declarations of the module are right, and its nets are not too many; it gets a scope of this name, and nets
abbrev pub entry_deed : Given → Option ℕ → Name → Inside → Deed
entry_deed g parent name child =
    record {
      tests = declaration_tests g child.module_of;
      piece = record nothing { net_names = own_names child; scopes = record { parent = parent; name = name } ∷ []; modules = 1 };
    }

-- the limit on nets that its own nets pass stands at the module's name
unfoldable pub entering : Given → Option ℕ → Name → Inside → Step
entering g parent name child = performed (start_in g child.module_of.name) (entry_deed g parent name child)

-- whether a direction is that of inputs
abbrev pub is_input : Dir → Bool
is_input Input = true
is_input Output = false

-- whether a direction is that of outputs
abbrev pub is_output : Dir → Bool
is_output Input = false
is_output Output = true

-- whether the port of a name has such a direction
abbrev pub has_dir : (Dir → Bool) → Inside → Name → Bool
has_dir test child name = elim (dir_named child name) [ None ↦ false | Some dir ↦ test dir ]

-- a `buf` for each bit, from bit 0 on, from what is connected to an input port
abbrev pub feeding : Inside → Socket → Option (List NetId) → List Element
feeding child socket None = []
feeding child socket (Some nets) = if has_dir is_input child socket.name then buffers nets (named_bits child socket.name) else []

-- a `buf` for each bit, from bit 0 on, to what is connected to an output port
abbrev pub fed : Inside → Socket → Option (List NetId) → List Element
fed child socket None = []
fed child socket (Some nets) = if has_dir is_output child socket.name then buffers (named_bits child socket.name) nets else []

-- such buffers of all ports, in the order of the header; their paths end in the instance
abbrev pub port_deed : (Inside → Socket → Option (List NetId) → List Element) → Given → Inside → Inst → Inside → Deed
port_deed made_at g here inst child =
    record {
      tests = [];
      piece = elements_in child.scope
          (flat_map (λ (socket, tie). made_at child socket tie)
          (zip (port_sockets g child.module_of) (ties g here inst.links (port_sockets g child.module_of))));
    }

-- the items of the module; where there is no room for them, a test has failed before
abbrev pub items_of : Option Enter → Inside → Step
items_of None child made = Ok made
items_of (Some enter) child made = enter child made

-- the steps of an instance of a module: its tests; it is entered; its input ports; its items; its output ports
unfoldable pub module_steps : Option Enter → Given → Inside → ℕ → Inst → ℕ → Inside → Step
module_steps enter g here at inst place child =
    all_steps (
    (λ made. tested (standing_tests enter g here at inst place child made) made)
    ∷ entering g (Some here.scope) (name_in g inst.name) child
    ∷ performed at (port_deed feeding g here inst child)
    ∷ items_of enter child
    ∷ performed at (port_deed fed g here inst child)
    ∷ []
    )
