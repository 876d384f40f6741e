-- What the names of a module declare: which mentions count, which faults they have, and which nets they make.
-- The rule is told in docs/FORMATS.md, "Names and widths" and "Faults of flattening".
use Rattle.std.specs.Prelude.{◌&&◌, ◌||◌, ◌+◌, ◌-◌, ◌<◌, ◌≡◌, ◌==◌, ℕ, Bool, true, false, not, nat_lt, if◌then◌else◌, Option, Some, None, List, [], ◌∷◌, ◌++◌, filter, map, slice_get, take, bytes_eq}
use Rattle.std.specs.List.{list_any, sum_by}
use Rattle.std.specs.Option.{option_or}
use Rattle.verilog_lex.specs.declared.token.Token.{Token}
use Rattle.verilog_tree.specs.declared.source.Dir.{Dir}
use Rattle.verilog_tree.specs.declared.source.IndexRange.{IndexRange}
use Rattle.module_nets.specs.declared.fault.Cause.{Cause}
use Rattle.module_nets.specs.declared.fault.Cause.TheVariants.{NotDeclared, NameTwice, Width}
use Rattle.module_nets.specs.declared.mention.Class.{Class}
use Rattle.module_nets.specs.declared.mention.Class.TheVariants.{Head, Direction, Other, Use, Own}
use Rattle.module_nets.specs.declared.mention.Mention.{Mention}
use Rattle.module_nets.specs.declared.mention.Role.{Role}
use Rattle.module_nets.specs.declared.mention.Role.TheVariants.{Bare, Headed, Directed, Wired, Supplied, Owned, Used}
use Rattle.module_nets.specs.Names.{Name, first_uses, start_of}

-- which roles are of a kind: ports in the header, directions by an item, declarations of nets by an item, uses, and what
-- is no net
abbrev pub is_of : Class → Role → Bool
is_of Head Bare = true
is_of Head (Headed dir range) = true
is_of Direction (Directed dir range) = true
is_of Other (Directed dir range) = true
is_of Other (Wired range) = true
is_of Other (Supplied range) = true
is_of Use Used = true
is_of Own Owned = true
is_of _ _ = false

-- whether some mention of the kind has this name
abbrev pub has_role : (ℕ → Name) → Class → List Mention → Name → Bool
has_role text class ms name = list_any (λ m. is_of class m.role && bytes_eq name (text m.token)) ms

-- a name is declared by a port, a direction, a wire or a supply net, wherever it stands
abbrev pub is_declared : (ℕ → Name) → List Mention → Name → Bool
is_declared text ms name = has_role text Head ms name || has_role text Other ms name

-- a use counts where its name is not declared and an undeclared name becomes a wire; every other mention counts
abbrev pub counts : (ℕ → Name) → (ℕ → Bool) → List Mention → Mention → Bool
counts text implicit ms m =
    if is_of Use m.role then implicit m.token && not (is_declared text ms (text m.token)) else true

-- the mentions that count
abbrev pub counted : (ℕ → Name) → (ℕ → Bool) → List Mention → List Mention
counted text implicit ms = filter (counts text implicit ms) ms

-- ranges are the same where they are written with the same two numbers
abbrev pub same_range : Option IndexRange → Option IndexRange → Bool
same_range None None = true
same_range (Some a) (Some b) = a.left == b.left && a.right == b.right
same_range _ _ = false

-- which role a name may have after another one: a port of the header without direction is given one, and may be a wire
-- too, with the same range, before or after it; a use is used again; all else names a second thing
abbrev pub agrees : Role → Role → Bool
agrees Bare (Directed dir range) = true
agrees Bare (Wired range) = true
agrees (Headed dir range) (Wired other) = same_range range other
agrees (Directed dir range) (Wired other) = same_range range other
agrees (Wired range) (Directed dir other) = same_range range other
agrees Used Used = true
agrees _ _ = false

-- the bits of a range
abbrev pub width_of : Option IndexRange → ℕ
width_of None = 1
width_of (Some r) = if nat_lt r.left r.right then r.right - r.left + 1 else r.left - r.right + 1

-- the greatest number of bits of a net or an expression
abbrev pub most_bits : ℕ
most_bits = 65536

-- the direction and the range that a mention gives
abbrev pub dir_in : Role → Option Dir
dir_in (Headed dir range) = Some dir
dir_in (Directed dir range) = Some dir
dir_in _ = None

abbrev pub range_in : Role → Option (Option IndexRange)
range_in (Headed dir range) = Some range
range_in (Directed dir range) = Some range
range_in (Wired range) = Some range
range_in (Supplied range) = Some range
range_in _ = None

abbrev pub is_wide : Role → Bool
is_wide role = elim (range_in role) [ None ↦ false | Some range ↦ nat_lt most_bits (width_of range) ]

-- a port of the header that no item directs, or a direction of a name that the header does not have
abbrev pub is_unknown : (ℕ → Name) → List Mention → Mention → Bool
is_unknown text ms m =
    elim m.role [
      | Bare ↦ not (has_role text Direction ms (text m.token))
      | Directed dir range ↦ not (has_role text Head ms (text m.token))
      | Headed dir range ↦ false
      | Wired range ↦ false
      | Supplied range ↦ false
      | Owned ↦ false
      | Used ↦ false
    ]

-- an earlier mention has the name, and this one may not have it too
abbrev pub is_taken : (ℕ → Name) → List Mention → Mention → Bool
is_taken text before m = list_any (λ e. bytes_eq (text m.token) (text e.token) && not (agrees e.role m.role)) before

-- the fault of a mention, after those before it and among all that count
abbrev pub cause_of : (ℕ → Name) → List Mention → List Mention → Mention → Option Cause
cause_of text all before m =
    if is_unknown text all m then Some NotDeclared
    else if is_taken text before m then Some NameTwice
    else if is_wide m.role then Some Width
    else None

abbrev pub cause_at : (ℕ → Name) → List Mention → ℕ → Option Cause
cause_at text ms k = elim (slice_get ms k) [ None ↦ None | Some m ↦ cause_of text ms (take k ms) m ]

-- the names at mentions of a kind, in their order
abbrev pub named : (ℕ → Name) → Class → List Mention → List Name
named text class ms = map (λ m. text m.token) (filter (λ m. is_of class m.role) ms)

-- the nets: the ports in the order of the header, the other declared names, then the names that become wires by their use,
-- both in the order of their first places
abbrev pub net_names : (ℕ → Name) → List Mention → List Name
net_names text ms = first_uses (named text Head ms ++ (named text Other ms ++ named text Use ms))

-- the first of what the mentions of a name give
abbrev pub first_given : {A : Type 0} → (ℕ → Name) → (Role → Option A) → List Mention → Name → Option A
first_given text f [] name = None
first_given text f (m ∷ ms) name = option_or (if bytes_eq name (text m.token) then f m.role else None) (first_given text f ms name)

-- the range of a net, which is the same in all its declarations; none for a wire that its use makes
abbrev pub range_of : (ℕ → Name) → List Mention → Name → Option IndexRange
range_of text ms name = elim (first_given text range_in ms name) [ None ↦ None | Some range ↦ range ]

-- the first fault of the mentions, with the byte at which it stands
pub record IsFirstFault (tokens : List Token) (text : ℕ → Name) (ms : List Mention) (cause : Cause) (at : ℕ) : Type 0 where
  pub place : ℕ
  pub faulty : Mention
  pub here : slice_get ms place ≡ Some faulty
  pub why : cause_at text ms place ≡ Some cause
  pub byte : at ≡ start_of tokens faulty.token
  pub first : (k : ℕ) → k < place → cause_at text ms k ≡ None

-- no mention has a fault
abbrev pub IsFaultless : (ℕ → Name) → List Mention → Type 0
IsFaultless text ms = (k : ℕ) → cause_at text ms k ≡ None
