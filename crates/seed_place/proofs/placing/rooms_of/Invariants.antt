use Rattle.std.proofs.Common.{◌≡◌, take}
use Rattle.seed_place.proofs.placing.rooms_of.Given as goal

abbrev pub invariant-chips : goal.invariant-chips
invariant-chips l = l.rooms.items ≡ take l.chip l.board.rooms
