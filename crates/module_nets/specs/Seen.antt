-- Inside: what the program keeps of the earlier mentions of one name.
use Rattle.std.specs.Prelude.{◌&&◌, ◌||◌, Bool, true, false, not, Some, None}
use Rattle.std.specs.Option.{option_or}
use Rattle.module_nets.specs.declared.mention.Role.{Role}
use Rattle.module_nets.specs.declared.mention.Role.TheVariants.{Bare, Headed, Directed, Wired, Supplied, Owned, Used}
use Rattle.module_nets.specs.declared.seen.Seen.{Seen}
use Rattle.module_nets.specs.Declarations.{same_range}

abbrev pub fresh : Seen
fresh = record { bare = false; given = false; wired = false; used = false; other = false; last = None; dir = None; range = None }

-- some mention came earlier
abbrev pub any_seen : Seen → Bool
any_seen s = s.bare || s.given || s.wired || s.used || s.other

-- some earlier mention does not agree with this role
abbrev pub clash : Seen → Role → Bool
clash s (Directed dir range) = s.given || s.used || s.other || s.wired && not (same_range s.last range)
clash s (Wired range) = s.wired || s.used || s.other || s.given && not (same_range s.last range)
clash s Used = s.bare || s.given || s.wired || s.other
clash s _ = any_seen s

-- one mention more
abbrev pub noted : Seen → Role → Seen
noted s Bare = record s { bare = true }
noted s (Headed dir range) = record s { given = true; last = range; dir = option_or s.dir (Some dir); range = option_or s.range (Some range) }
noted s (Directed dir range) = record s { given = true; last = range; dir = option_or s.dir (Some dir); range = option_or s.range (Some range) }
noted s (Wired range) = record s { wired = true; last = range; range = option_or s.range (Some range) }
noted s (Supplied range) = record s { other = true; range = option_or s.range (Some range) }
noted s Owned = record s { other = true }
noted s Used = record s { used = true }
