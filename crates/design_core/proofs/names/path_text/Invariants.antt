-- The text so far is the path of the outer scopes.
use Rattle.std.proofs.Common.{◌≡◌, ◌-◌, drop, length, map}
use Rattle.design_core.specs.Trails.{name_at, written_path}
use Rattle.design_core.proofs.names.path_text.Given as goal

abbrev pub invariant-inwards : goal.invariant-inwards
invariant-inwards l =
    l.text.items ≡ written_path (map (name_at l.scopes) (drop (length l.trail.items - l.written) l.trail.items))
