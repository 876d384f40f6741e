-- The events that a text tells for a design with groups, or its first fault.
-- The rule is told in docs/FORMATS.md, "Openings and events".
use Rattle.std.specs.Prelude.{◌≡◌, ◌≢◌, ◌<◌, ◌+◌, ℕ, Bool, true, false, Option, Some, None, List, ◌∷◌, ◌++◌, cond, length, slice_get, bytes_eq, Result, Ok, Err}
use Rattle.std.specs.List.{list_all, position_from, AllZip}
use Rattle.id_arena.specs.declared.keys.NetId.{NetId}
use Rattle.design_core.specs.declared.parts.Port.{Port}
use Rattle.design_core.specs.declared.values.Event.{Event}
use Rattle.design_core.specs.Design.{includes}
use Rattle.design_core.specs.Influence.{Group}
use Rattle.emu_machine.specs.Acceptance.{Case}
use Rattle.emu_machine.specs.Headline.{EventsFit}
use Rattle.domain_groups.specs.declared.events.EventFault.{EventFault}
use Rattle.domain_groups.specs.declared.events.EventFault.TheVariants.{BadLine, NoGroup, NoPort, PortTwice, BadValue, NoMemory}
use Rattle.domain_groups.specs.Groups.{InputGroups, AreOf, frames}
use Rattle.domain_groups.specs.Lines.{event_lines, is_bad, words, IsParted}
use Rattle.domain_groups.specs.Ports.{port_named, nets_at}
use Rattle.domain_groups.specs.Settings.{Setting, Sets, EachOnce, bits_set, times_set}
use Rattle.domain_groups.specs.Values.{is_value}

-- the place of the group of this name; behind the groups stands `*`
abbrev pub group_named : InputGroups → List ℕ → Option ℕ
group_named v name = position_from (λ group. bytes_eq name group.name) 0 (frames v)

-- whether nets are all of a group
abbrev pub are_inside : Group → List NetId → Bool
are_inside group nets = list_all (λ net. includes group.nets net.place) nets

-- A word sets an input port of a group: its name is that of the port, its digits are a value for it, and the
-- nets of the port are the group's.
pub record WordSets (ports : List Port) (group : Group) (word : List ℕ) (s : Setting) : Type 0 where
  pub name : List ℕ
  pub digits : List ℕ
  pub parted : IsParted word name digits
  pub sets : Sets ports name digits s
  pub inside : are_inside group s.nets ≡ true

-- words set ports of a group, none of them twice
pub record WordsSet (ports : List Port) (group : Group) (given : List (List ℕ)) (settings : List Setting) : Type 0 where
  pub each : AllZip (WordSets ports group) given settings
  pub once : EachOnce settings

-- a line that is not bad has a first word, and further ones
pub record HasWords (line first : List ℕ) (further : List (List ℕ)) : Type 0 where
  pub fine : is_bad line ≡ false
  pub are : words line ≡ first ∷ further

-- and its first word names the group at this place
pub record IsOfGroup (v : InputGroups) (line : List ℕ) (place : ℕ) (group : Group) (further : List (List ℕ)) : Type 0 where
  pub first : List ℕ
  pub has_words : HasWords line first further
  pub named : group_named v first ≡ Some place
  pub there : slice_get (frames v) place ≡ Some group

-- a line tells an event: its first word names the group, and its further words give the values
pub record TellsEvent (v : InputGroups) (ports : List Port) (line : List ℕ) (event : Event) : Type 0 where
  pub group : Group
  pub further : List (List ℕ)
  pub of_group : IsOfGroup v line event.group.place group further
  pub settings : List Setting
  pub set : WordsSet ports group further settings
  pub bits : event.values ≡ bits_set settings

-- the first word names no group
pub record HasNoGroup (v : InputGroups) (line : List ℕ) : Type 0 where
  pub first : List ℕ
  pub further : List (List ℕ)
  pub has_words : HasWords line first further
  pub none : group_named v first ≡ None

-- Among the words behind the first there is one that is parted into this name and these digits, and the words
-- before it set ports of the group.
pub record HasWord (v : InputGroups) (ports : List Port) (line : List ℕ) (group : Group) (before : List Setting) (name digits : List ℕ) : Type 0 where
  pub place : ℕ
  pub done : List (List ℕ)
  pub word : List ℕ
  pub rest : List (List ℕ)
  pub of_group : IsOfGroup v line place group (done ++ word ∷ rest)
  pub set : WordsSet ports group done before
  pub parted : IsParted word name digits

-- no input port has the name, or it is no port of the group
abbrev pub IsNoPort : List Port → Group → List ℕ → Type 0
IsNoPort ports group name =
    (place : ℕ) → port_named ports name ≡ Some place → are_inside group (nets_at ports place) ≡ false

-- the name is that of an input port of the group
pub record IsPort (ports : List Port) (group : Group) (name : List ℕ) (place : ℕ) : Type 0 where
  pub named : port_named ports name ≡ Some place
  pub inside : are_inside group (nets_at ports place) ≡ true

-- the first word with a fault names no port of the group
pub record HasNoPort (v : InputGroups) (ports : List Port) (line : List ℕ) : Type 0 where
  pub group : Group
  pub before : List Setting
  pub name : List ℕ
  pub digits : List ℕ
  pub here : HasWord v ports line group before name digits
  pub none : IsNoPort ports group name

-- it names a port that a word before it has set
pub record HasPortTwice (v : InputGroups) (ports : List Port) (line : List ℕ) : Type 0 where
  pub group : Group
  pub before : List Setting
  pub name : List ℕ
  pub digits : List ℕ
  pub here : HasWord v ports line group before name digits
  pub port : ℕ
  pub is_port : IsPort ports group name port
  pub again : 0 < times_set port before

-- its digits are no value for the port
pub record HasBadValue (v : InputGroups) (ports : List Port) (line : List ℕ) : Type 0 where
  pub group : Group
  pub before : List Setting
  pub name : List ℕ
  pub digits : List ℕ
  pub here : HasWord v ports line group before name digits
  pub port : ℕ
  pub is_port : IsPort ports group name port
  pub first : times_set port before ≡ 0
  pub wrong : is_value (length (nets_at ports port)) digits ≡ false

-- the fault of the line of this number
abbrev pub LineHas : InputGroups → List Port → ℕ → List ℕ → EventFault → Type 0
LineHas v ports number line (BadLine at) = (at ≡ number) × (is_bad line ≡ true)
LineHas v ports number line (NoGroup at) = (at ≡ number) × HasNoGroup v line
LineHas v ports number line (NoPort at) = (at ≡ number) × HasNoPort v ports line
LineHas v ports number line (PortTwice at) = (at ≡ number) × HasPortTwice v ports line
LineHas v ports number line (BadValue at) = (at ≡ number) × HasBadValue v ports line
LineHas v ports number line NoMemory = ⊥

-- numbered lines tell events, one by one
abbrev pub LinesTell : InputGroups → List Port → List (ℕ × List ℕ) → List Event → Type 0
LinesTell v ports given events = AllZip (λ numbered. TellsEvent v ports numbered.1) given events

-- the lines that tell events tell these
abbrev pub SaysEvents : InputGroups → List Port → List ℕ → List Event → Type 0
SaysEvents v ports text events = LinesTell v ports (event_lines text) events

-- the first line with a fault has this one: the lines before it tell events
pub record HasEventFault (v : InputGroups) (ports : List Port) (text : List ℕ) (fault : EventFault) : Type 0 where
  pub before : List (ℕ × List ℕ)
  pub number : ℕ
  pub line : List ℕ
  pub behind : List (ℕ × List ℕ)
  pub are : event_lines text ≡ before ++ (number, line) ∷ behind
  pub events : List Event
  pub told : LinesTell v ports before events
  pub has : LineHas v ports number line fault

-- the answer is the events that the text tells, or its first fault; no memory says nothing of the text
abbrev pub EventAnswers : InputGroups → List Port → List ℕ → Result (List Event) EventFault → Type 0
EventAnswers v ports text (Ok events) = SaysEvents v ports text events
EventAnswers v ports text (Err NoMemory) = Unit {0}
EventAnswers v ports text (Err fault) = HasEventFault v ports text fault

-- a text has one answer for some ports and groups, want of memory aside
abbrev pub EachRecordingHasOneAnswer : Type 0
EachRecordingHasOneAnswer =
    (v : InputGroups) (ports : List Port) (text : List ℕ) (first second : Result (List Event) EventFault) → first ≢ Err NoMemory → second ≢ Err NoMemory
    → EventAnswers v ports text first → EventAnswers v ports text second → first ≡ second

-- the events that a text tells for the groups of a case are events of these groups
abbrev pub RecordedEventsFit : Type 0
RecordedEventsFit =
    (c : Case) (v : InputGroups) (text : List ℕ) (events : List Event) → v.groups ≡ c.groups → AreOf c.design v → SaysEvents v c.design.inputs text events → EventsFit c events
