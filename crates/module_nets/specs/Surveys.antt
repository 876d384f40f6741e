-- Inside: the tables by which the program judges mentions, and what it has of them.
use Rattle.std.specs.Prelude.{◌&&◌, ◌<◌, ◌≡◌, ◌↔◌, ℕ, Bool, true, false, not, if◌then◌else◌, Option, Some, None, List, [], Result, Ok, Err, bytes_eq, length, slice_get, get_or}
use Rattle.std.specs.List.{list_all, list_any}
use Rattle.verilog_lex.specs.declared.token.Token.{Token}
use Rattle.id_arena.specs.Names.{place_among}
use Rattle.module_nets.specs.declared.fault.Cause.{Cause}
use Rattle.module_nets.specs.declared.fault.Cause.TheVariants.{NotDeclared, NameTwice, Width}
use Rattle.module_nets.specs.declared.fault.NetFault.{NetFault}
use Rattle.module_nets.specs.declared.fault.NetFault.TheVariants.{Refused, NoMemory}
use Rattle.module_nets.specs.declared.mention.Class.TheVariants.{Head, Direction}
use Rattle.module_nets.specs.declared.mention.Mention.{Mention}
use Rattle.module_nets.specs.declared.mention.Role.{Role}
use Rattle.module_nets.specs.declared.mention.Role.TheVariants.{Bare, Headed, Directed, Wired, Supplied, Owned, Used}
use Rattle.module_nets.specs.declared.seen.Seen.{Seen}
use Rattle.module_nets.specs.Declarations.{IsFaultless, IsFirstFault, agrees, dir_in, first_given, is_wide, named, range_in}
use Rattle.module_nets.specs.Names.{Name, first_uses, is_among, text_of}
use Rattle.module_nets.specs.Seen.{clash, fresh}

pub record Survey : Type 0 where
  pub source : List ℕ
  pub tokens : List Token
  pub names : List Name
  pub heads : List Name
  pub directed : List Name

abbrev pub text_in : Survey → ℕ → Name
text_in s = text_of s.source s.tokens

abbrev pub unknown_by : Survey → Mention → Bool
unknown_by s m =
    elim m.role [
      | Bare ↦ not (is_among s.directed (text_in s m.token))
      | Directed dir range ↦ not (is_among s.heads (text_in s m.token))
      | Headed dir range ↦ false
      | Wired range ↦ false
      | Supplied range ↦ false
      | Owned ↦ false
      | Used ↦ false
    ]

abbrev pub cause_by : Survey → Seen → Mention → Option Cause
cause_by s seen m =
    if unknown_by s m then Some NotDeclared
    else if clash seen m.role then Some NameTwice
    else if is_wide m.role then Some Width
    else None

-- the tables are those of these mentions
pub record IsSurvey (s : Survey) (ms : List Mention) : Type 0 where
  pub names : (k : ℕ) (m : Mention) → slice_get ms k ≡ Some m → is_among s.names (text_in s m.token) ≡ true
  pub heads : s.heads ≡ first_uses (named (text_in s) Head ms)
  pub directed : s.directed ≡ first_uses (named (text_in s) Direction ms)

-- what is seen of a name is what the mentions of it say
pub record IsSeen (text : ℕ → Name) (ms : List Mention) (name : Name) (seen : Seen) : Type 0 where
  pub clashes : (role : Role) → clash seen role ≡ list_any (λ e. bytes_eq name (text e.token) && not (agrees e.role role)) ms
  pub dir : seen.dir ≡ first_given text dir_in ms name
  pub range : seen.range ≡ first_given text range_in ms name

-- so it is for all names of a table
pub record AreSeen (text : ℕ → Name) (names : List Name) (ms : List Mention) (seen : List Seen) : Type 0 where
  pub sized : length seen ≡ length names
  pub each : (p : ℕ) (name : Name) → place_among names name ≡ Some p → IsSeen text ms name (get_or seen p fresh)

-- what the names were seen as, where no mention has a fault; or the first fault
abbrev pub Checks : Survey → List Mention → Result (List Seen) NetFault → Type 0
Checks s ms (Ok seen) = IsFaultless (text_in s) ms × AreSeen (text_in s) s.names ms seen
Checks s ms (Err (Refused cause at)) = IsFirstFault s.tokens (text_in s) ms cause at
Checks s ms (Err NoMemory) = Unit {0}
