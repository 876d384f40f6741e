-- What keeps parts from being a design, and which of several faults is told.
-- The rule is told in docs/RULES.md, "Building a design".
use Rattle.std.specs.Prelude.{◌≡◌, ◌<◌, ◌≤◌, ◌&&◌, ◌==◌, ℕ, nat_le, nat_lt, Bool, true, false, Option, Some, None, List, [], ◌∷◌, take, length, get_or, is_none, count_by, slice_get, slice_set, Result, Ok, Err, IsTrue}
use Rattle.std.specs.List.{list_all, enumerate_from}
use Rattle.id_arena.specs.declared.keys.ElemId.{ElemId}
use Rattle.id_arena.specs.declared.keys.NetId.{NetId}
use Rattle.design_core.specs.declared.element.Element.{Element}
use Rattle.design_core.specs.declared.element.Element.TheVariants as element
use Rattle.design_core.specs.declared.element.Memory.{Memory}
use Rattle.design_core.specs.declared.parts.Parts.{Parts}
use Rattle.design_core.specs.declared.parts.Port.{Port}
use Rattle.design_core.specs.declared.fault.LimitKind.{LimitKind}
use Rattle.design_core.specs.declared.fault.LimitKind.TheVariants.{Inputs, Nets, Elements, Words}
use Rattle.design_core.specs.declared.fault.DesignFault.{DesignFault}
use Rattle.design_core.specs.declared.fault.DesignFault.TheVariants as fault
use Rattle.design_core.specs.Design.{net_count, driver_count, nets_read, includes, element_reads, write_reads, read_reads, inputs_fit, memory_fits, is_memory}
use Rattle.design_core.specs.Most.{most_nets, most_elements, most_words}
use Rattle.design_core.specs.Limits.{inputs_within, word_count, IsWithin}
use Rattle.design_core.specs.Names.{IsNetText}
use Rattle.design_core.specs.Tables.{IsMemoryAt, IsSound}

-- whether a net is there, among so many
abbrev pub is_there : ℕ → NetId → Bool
is_there nets n = nat_lt n.place nets

abbrev pub are_there : ℕ → List NetId → Bool
are_there nets ns = list_all (is_there nets) ns

abbrev pub ports_there : ℕ → List Port → Bool
ports_there nets ports = list_all (λ port. are_there nets port.nets) ports

-- the nets that an element other than a memory drives
abbrev pub element_outputs : Element → List NetId
element_outputs (element.Gate op inputs output) = output ∷ []
element_outputs (element.Flop f) = f.q ∷ []
element_outputs (element.Latch l) = l.q ∷ []
element_outputs (element.Memory m) = []

-- whether a memory is there, has its shape and names nets that are there
abbrev pub memory_good : ℕ → Option Memory → Bool
memory_good nets None = false
memory_good nets (Some memory) =
    memory_fits memory
    && list_all (λ port. are_there nets (write_reads port)) memory.writes
    && list_all (λ port. are_there nets (read_reads port) && are_there nets port.bits) memory.reads

-- whether an element after these ones has its shape, and a memory that no earlier element has
abbrev pub shape_good : Parts → List Element → Element → Bool
shape_good p earlier (element.Gate op inputs output) = inputs_fit op (length inputs)
shape_good p earlier (element.Memory m) =
    (count_by (is_memory m.place) earlier == 0) && memory_good (net_count p) (slice_get p.memories m.place)
shape_good p earlier other = true

-- whether the scope of a path, where there is a path, is there
abbrev pub scope_there : Parts → Option ℕ → Bool
scope_there p None = true
scope_there p (Some s) = nat_lt s (length p.scopes)

-- whether an element after these ones, with this path, is good
abbrev pub element_good : Parts → List Element → Option ℕ → Element → Bool
element_good p earlier path e =
    shape_good p earlier e
    && are_there (net_count p) (element_reads e)
    && are_there (net_count p) (element_outputs e)
    && scope_there p path

-- whether the scope around a scope, where there is one, is an earlier one
abbrev pub parent_earlier : ℕ → Option ℕ → Bool
parent_earlier s None = true
parent_earlier s (Some parent) = nat_lt parent s

-- Whether what stands around the elements is good: there are the two constants, each element has a path,
-- the nets of ports and the scopes of nets are there, and scopes stand in earlier ones.
abbrev pub around_good : Parts → Bool
around_good p =
    nat_le 2 (net_count p)
    && (length p.paths == length p.elements)
    && ports_there (net_count p) p.inputs
    && ports_there (net_count p) p.outputs
    && list_all (λ name. nat_lt name.scope (length p.scopes)) p.net_names
    && list_all (λ (s, scope). parent_earlier s scope.parent) (enumerate_from 0 p.scopes)

-- whether all but the elements is good: what stands around them, and each memory has an element
abbrev pub rest_good : Parts → Bool
rest_good p =
    around_good p && list_all (λ (m, memory). nat_lt 0 (count_by (is_memory m) p.elements)) (enumerate_from 0 p.memories)

-- what is known, after some elements, of the element that is a memory
abbrev pub IsOwned : Parts → ℕ → ℕ → Option ElemId → Type 0
IsOwned p k m None = count_by (is_memory m) (take k p.elements) ≡ 0
IsOwned p k m (Some e) = (count_by (is_memory m) (take k p.elements) ≡ 1) × IsMemoryAt p m e

-- a table has for each memory the one element among the first ones, so many, that is the memory
pub record AreOwned (p : Parts) (k : ℕ) (owners : List (Option ElemId)) : Type 0 where
  pub size : length owners ≡ length p.memories
  pub each : (m : ℕ) (owner : Option ElemId) → slice_get owners m ≡ Some owner → IsOwned p k m owner

-- whether a table has no element yet for a memory
abbrev pub is_free : List (Option ElemId) → ℕ → Bool
is_free owners m = is_none (get_or owners m None)

-- whether an element that is a memory is one of so many
abbrev pub claims_within : ℕ → Element → Bool
claims_within memories (element.Memory m) = nat_lt m.place memories
claims_within memories other = true

-- the table after one more element
abbrev pub claimed : ElemId → Element → List (Option ElemId) → List (Option ElemId)
claimed e (element.Memory m) owners = slice_set owners m.place (Some e)
claimed e other owners = owners

-- The places of the parts: that of each element, and one after the last, which stands for all the rest.
abbrev pub thing_good : Parts → ℕ → Option Element → Bool
thing_good p k None = rest_good p
thing_good p k (Some e) = element_good p (take k p.elements) (slice_get p.paths k) e

abbrev pub place_good : Parts → ℕ → Bool
place_good p k = thing_good p k (slice_get p.elements k)

abbrev pub AreGood : Parts → Type 0
AreGood p = (k : ℕ) → place_good p k ≡ true

-- each net that the parts name is there, and each memory has its shape
pub record AreThere (p : Parts) : Type 0 where
  pub constants : 2 ≤ net_count p
  pub inputs : IsTrue (ports_there (net_count p) p.inputs)
  pub outputs : IsTrue (ports_there (net_count p) p.outputs)
  pub driven : IsTrue (list_all (λ e. are_there (net_count p) (element_outputs e)) p.elements)
  pub read : IsTrue (list_all (λ e. are_there (net_count p) (element_reads e)) p.elements)
  pub memories : IsTrue (list_all (λ memory. memory_good (net_count p) (Some memory)) p.memories)

-- this place is bad, and no lower one is
pub record IsLeastBad (p : Parts) (k : ℕ) : Type 0 where
  pub here : place_good p k ≡ false
  pub earlier : (j : ℕ) → j < k → place_good p j ≡ true

-- a fault of elements alone
abbrev pub TellsBad : Parts → DesignFault → Type 0
TellsBad p (fault.BadNet elem) = IsLeastBad p elem.place
TellsBad p (fault.NoMemory) = Unit {0}
TellsBad p other = ⊥

-- whether the parts are within a limit; those on width, depth and instances are asked before
abbrev pub within : Parts → LimitKind → Bool
within p Inputs = list_all inputs_within p.elements
within p Nets = nat_le (net_count p) most_nets
within p Elements = nat_le (length p.elements) most_elements
within p Words = nat_le (word_count p) most_words
within p other = true

-- the turn in which a limit is asked
abbrev pub turn : LimitKind → ℕ
turn Inputs = 0
turn Nets = 1
turn Elements = 2
turn Words = 3
turn other = 4

-- the parts are beyond this limit, and within those asked before it
pub record IsFirstLimit (p : Parts) (which : LimitKind) : Type 0 where
  pub here : within p which ≡ false
  pub earlier : (other : LimitKind) → turn other < turn which → within p other ≡ true

-- no net has two drivers
abbrev pub IsOnce : Parts → Type 0
IsOnce p = (n : ℕ) → driver_count p n ≤ 1

pub record IsLeastTwice (p : Parts) (n : ℕ) : Type 0 where
  pub here : 1 < driver_count p n
  pub earlier : (m : ℕ) → m < n → driver_count p m ≤ 1

-- a net without a driver that an element or an output port reads
abbrev pub is_undriven : Parts → ℕ → Bool
is_undriven p n = includes (nets_read p) n && (driver_count p n == 0)

pub record IsLeastUndriven (p : Parts) (n : ℕ) : Type 0 where
  pub here : is_undriven p n ≡ true
  pub earlier : (m : ℕ) → m < n → is_undriven p m ≡ false

-- each net that is read has a driver
abbrev pub IsDriven : Parts → Type 0
IsDriven p = (n : ℕ) → is_undriven p n ≡ false

-- each memory is one element
abbrev pub AreSingle : Parts → Type 0
AreSingle p = (m : ℕ) → m < length p.memories → count_by (is_memory m) p.elements ≡ 1

-- a fault of drivers alone
abbrev pub TellsDrivers : Parts → DesignFault → Type 0
TellsDrivers p (fault.TwoDrivers net name) = IsLeastTwice p net.place × IsNetText p net.place name
TellsDrivers p (fault.Undriven net name) = IsOnce p × IsLeastUndriven p net.place × IsNetText p net.place name
TellsDrivers p (fault.NoMemory) = Unit {0}
TellsDrivers p other = ⊥

pub record IsTwice (p : Parts) (n : ℕ) (name : List ℕ) : Type 0 where
  pub good : AreGood p
  pub limits : IsWithin p
  pub net : IsLeastTwice p n
  pub text : IsNetText p n name

pub record IsUndriven (p : Parts) (n : ℕ) (name : List ℕ) : Type 0 where
  pub good : AreGood p
  pub limits : IsWithin p
  pub once : IsOnce p
  pub net : IsLeastUndriven p n
  pub text : IsNetText p n name

-- What building gives: the design of just these parts, where they are sound; else the first of the faults
-- in this order, at its least place.
abbrev pub Answers : Parts → Result Parts DesignFault → Type 0
Answers p (Ok d) = (d ≡ p) × IsSound p
Answers p (Err (fault.NoMemory)) = Unit {0}
Answers p (Err (fault.BadNet elem)) = IsLeastBad p elem.place
Answers p (Err (fault.Limit which)) = AreGood p × IsFirstLimit p which
Answers p (Err (fault.TwoDrivers net name)) = IsTwice p net.place name
Answers p (Err (fault.Undriven net name)) = IsUndriven p net.place name
