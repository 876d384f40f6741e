use Rattle.std.proofs.Common.{◌≡◌, map, take}
use Rattle.flattening.specs.Links.{port_socket}
use Rattle.elaborator.proofs.sockets.port_sockets.Given as goal

abbrev pub invariant-shapes : goal.invariant-shapes
invariant-shapes l = l.sockets ≡ map (port_socket l.setting) (take l.shape-index l.shape-items)
