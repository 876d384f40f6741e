-- The buffers at ports, one port after another.
use Rattle.std.proofs.Common.{◌≡◌, ◌+◌, ◌∙◌, ℕ, zero, suc, Option, Some, None, List, [], ◌∷◌, ◌++◌, Ok, Err, ap, append-nil, arith, drop, length, map, min, refl, sym}
use Rattle.std.specs.Prelude.{flat_map}
use Rattle.std.specs.List.{zip}
use Rattle.std.proofs.lemmas.List.{length-append}
use Rattle.id_arena.specs.declared.keys.NetId.{NetId}
use Rattle.verilog_tree.specs.declared.source.Dir.{Dir}
use Rattle.verilog_tree.specs.declared.source.Dir.TheVariants.{Input, Output}
use Rattle.verilog_tree.specs.declared.source.Inst.{Inst}
use Rattle.verilog_tree.specs.declared.source.PortName.{PortName}
use Rattle.design_core.specs.declared.element.Element.{Element}
use Rattle.module_bits.specs.declared.ports.Direction.{Direction}
use Rattle.module_bits.specs.Ports.{directions, shape_of}
use Rattle.flattening.specs.declared.fault.ElabFault.{ElabFault}
use Rattle.flattening.specs.declared.made.Made.{Made}
use Rattle.flattening.specs.Instances.{port_deed}
use Rattle.flattening.specs.Links.{Socket, port_socket, port_sockets, ties}
use Rattle.flattening.specs.Pieces.{elements_in, joined, performed, room_tests}
use Rattle.flattening.specs.Places.{Given, Inside, name_in}
use Rattle.flattening.specs.Steps.{first_fault, unless}
use Rattle.elaborator.specs.Room.{limits}
use Rattle.elaborator.specs.Walk.{port_elements, ports_elements, side_of}
use Rattle.elaborator.proofs.Joining.{zero_more}

-- the width of a port plays no part
one_port : (side : Dir) (child : Inside) (socket : Socket) (tie : Option (List NetId)) → side_of side child socket tie ≡ port_elements side child socket.name tie
one_port Input child socket None = refl
one_port Input child socket (Some nets) = refl
one_port Output child socket None = refl
one_port Output child socket (Some nets) = refl

all_ports : (side : Dir) (g : Given) (child : Inside) (given : List Direction) (ports : List PortName) (tied : List (Option (List NetId))) →
    flat_map (λ (socket, tie). side_of side child socket tie) (zip (map (port_socket g) (map (shape_of (name_in g) given) ports)) tied) ≡ ports_elements side g child ports tied
all_ports side g child given [] tied = refl
all_ports side g child given (port ∷ ports) [] = refl
all_ports side g child given (port ∷ ports) (tie ∷ tied) =
    ap (λ (es : List Element). es ++ flat_map (λ ((socket, t) : Socket × Option (List NetId)). side_of side child socket t) (zip (map (port_socket g) (map (shape_of (name_in g) given) ports)) tied)) (one_port side child (port_socket g (shape_of (name_in g) given port)) tie)
    ∙ ap (λ (es : List Element). port_elements side child (name_in g port.name) tie ++ es) (all_ports side g child given ports tied)

-- behind the last of them there are no buffers
pub ports_end : (side : Dir) (g : Given) (child : Inside) (ports : List PortName) (tied : List (Option (List NetId))) (n : ℕ) → n ≡ min (length ports) (length tied) →
    ports_elements side g child (drop n ports) (drop n tied) ≡ []
ports_end side g child [] tied n all = grind arith
ports_end side g child (port ∷ ports) [] n all = grind arith
ports_end side g child (port ∷ ports) (tie ∷ tied) zero all = absurd (omega (arith, all))
ports_end side g child (port ∷ ports) (tie ∷ tied) (suc n) all = ports_end side g child ports tied n (omega (arith, all))

-- the limits are those that stand before, where elements were put behind others
limits_after : (at : ℕ) (made : Made) (scope : ℕ) (elements : List Element) → limits at (joined made (elements_in scope elements)) 0 0 0 ≡ room_tests at made (elements_in scope elements)
limits_after at made scope elements =
    rw (append-nil made.net_names, append-nil made.memories, length-append made.elements elements, zero_more (length made.elements + length elements)) refl

module _ (at : ℕ) (side : Dir) (g : Given) (here : Inside) (inst : Inst) (child : Inside) (made new : Made) (ports : List PortName) (tied : List (Option (List NetId)))
    (theirs : ports ≡ child.module_of.ports) (are : tied ≡ ties g here inst.links (port_sockets g child.module_of))
    (put : new ≡ joined made (elements_in child.scope (ports_elements side g child ports tied))) where
  performed_is : performed at (port_deed (side_of side) g here inst child) made ≡ unless (first_fault (limits at new 0 0 0)) new
  performed_is =
      let same : flat_map (λ ((socket, t) : Socket × Option (List NetId)). side_of side child socket t) (zip (port_sockets g child.module_of) (ties g here inst.links (port_sockets g child.module_of)))
      ≡ ports_elements side g child ports tied
      = rw (theirs, are) (all_ports side g child (directions child.module_of) child.module_of.ports (ties g here inst.links (port_sockets g child.module_of))) in
      ap (λ (es : List Element). unless (first_fault (room_tests at made (elements_in child.scope es))) (joined made (elements_in child.scope es))) same
      ∙ ap (λ ts. unless (first_fault ts) (joined made (elements_in child.scope (ports_elements side g child ports tied)))) (sym (limits_after at made child.scope (ports_elements side g child ports tied)))
      ∙ ap (λ (m : Made). unless (first_fault (limits at m 0 0 0)) m) (sym put)

  pub ports_fit : first_fault (limits at new 0 0 0) ≡ None → performed at (port_deed (side_of side) g here inst child) made ≡ Ok new
  ports_fit is = performed_is ∙ ap (λ t. unless t new) is

  pub ports_full : (fault : ElabFault) → first_fault (limits at new 0 0 0) ≡ Some fault → performed at (port_deed (side_of side) g here inst child) made ≡ Err fault
  ports_full fault is = performed_is ∙ ap (λ t. unless t new) is
