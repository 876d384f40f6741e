-- Inside the reader of events: what its steps answer.
use Rattle.std.specs.Prelude.{◌≡◌, ◌<◌, ◌+◌, ℕ, false, true, List, ◌∷◌, ◌++◌, get_or, length, Result, Ok, Err, IfOk, IfErr}
use Rattle.design_core.specs.declared.parts.Port.{Port}
use Rattle.design_core.specs.declared.values.Event.{Event}
use Rattle.design_core.specs.declared.values.PortBit.{PortBit}
use Rattle.design_core.specs.Influence.{Group}
use Rattle.domain_groups.specs.declared.events.EventFault.{EventFault}
use Rattle.domain_groups.specs.declared.events.EventFault.TheVariants.{BadLine, NoGroup, NoPort, PortTwice, BadValue, NoMemory}
use Rattle.domain_groups.specs.Events.{WordSets, WordsSet, TellsEvent, IsNoPort, IsPort, LineHas}
use Rattle.domain_groups.specs.Groups.{InputGroups}
use Rattle.domain_groups.specs.Lines.{IsParted}
use Rattle.domain_groups.specs.Ports.{nets_at}
use Rattle.domain_groups.specs.Settings.{Setting, bits_set, times_set}
use Rattle.domain_groups.specs.Values.{is_value}

-- For each port the number of the line that set it last, and 0 where none has. All these lines stand
-- before this one.
pub record AreEarlier (ports : List Port) (last_lines : List ℕ) (line : ℕ) : Type 0 where
  pub size : length last_lines ≡ length ports
  pub earlier : (port : ℕ) → get_or last_lines port 0 < line

-- a word of these parts names no port of the group
pub record NamesNoPort (ports : List Port) (group : Group) (word : List ℕ) : Type 0 where
  pub name : List ℕ
  pub digits : List ℕ
  pub parted : IsParted word name digits
  pub none : IsNoPort ports group name

-- it names a port that was set in this line
pub record NamesAgain (ports : List Port) (group : Group) (last_lines : List ℕ) (line : ℕ) (word : List ℕ) : Type 0 where
  pub name : List ℕ
  pub digits : List ℕ
  pub parted : IsParted word name digits
  pub port : ℕ
  pub is_port : IsPort ports group name port
  pub here : get_or last_lines port 0 ≡ line

-- it names one that was not, and gives it no value
pub record GivesNoValue (ports : List Port) (group : Group) (last_lines : List ℕ) (line : ℕ) (word : List ℕ) : Type 0 where
  pub name : List ℕ
  pub digits : List ℕ
  pub parted : IsParted word name digits
  pub port : ℕ
  pub is_port : IsPort ports group name port
  pub first : get_or last_lines port 0 ≡ line → ⊥
  pub wrong : is_value (length (nets_at ports port)) digits ≡ false

-- the fault of a word
abbrev pub WordFails : List Port → Group → List ℕ → ℕ → List ℕ → EventFault → Type 0
WordFails ports group last_lines line word (BadLine at) = ⊥
WordFails ports group last_lines line word (NoGroup at) = ⊥
WordFails ports group last_lines line word (NoPort at) = (at ≡ line) × NamesNoPort ports group word
WordFails ports group last_lines line word (PortTwice at) = (at ≡ line) × NamesAgain ports group last_lines line word
WordFails ports group last_lines line word (BadValue at) = (at ≡ line) × GivesNoValue ports group last_lines line word
WordFails ports group last_lines line word NoMemory = ⊥

-- among some words there is one that is parted into this name and these digits, and the words before it set
-- ports of the group
pub record Stops (ports : List Port) (group : Group) (given : List (List ℕ)) (before : List Setting) (name digits : List ℕ) : Type 0 where
  pub done : List (List ℕ)
  pub word : List ℕ
  pub rest : List (List ℕ)
  pub are : given ≡ done ++ word ∷ rest
  pub set : WordsSet ports group done before
  pub parted : IsParted word name digits

pub record StopsAtNoPort (ports : List Port) (group : Group) (given : List (List ℕ)) : Type 0 where
  pub before : List Setting
  pub name : List ℕ
  pub digits : List ℕ
  pub stops : Stops ports group given before name digits
  pub none : IsNoPort ports group name

pub record StopsAgain (ports : List Port) (group : Group) (given : List (List ℕ)) : Type 0 where
  pub before : List Setting
  pub name : List ℕ
  pub digits : List ℕ
  pub stops : Stops ports group given before name digits
  pub port : ℕ
  pub is_port : IsPort ports group name port
  pub again : 0 < times_set port before

pub record StopsAtNoValue (ports : List Port) (group : Group) (given : List (List ℕ)) : Type 0 where
  pub before : List Setting
  pub name : List ℕ
  pub digits : List ℕ
  pub stops : Stops ports group given before name digits
  pub port : ℕ
  pub is_port : IsPort ports group name port
  pub first : times_set port before ≡ 0
  pub wrong : is_value (length (nets_at ports port)) digits ≡ false

-- words set ports of a group, and give these values
pub record WordsGive (ports : List Port) (group : Group) (given : List (List ℕ)) (values : List PortBit) : Type 0 where
  pub settings : List Setting
  pub set : WordsSet ports group given settings
  pub bits : values ≡ bits_set settings

-- the values that the words of the line of this number give, or the fault of the first that has one
abbrev pub WordsAnswer : List Port → Group → ℕ → List (List ℕ) → Result (List PortBit) EventFault → Type 0
WordsAnswer ports group line given (Ok values) = WordsGive ports group given values
WordsAnswer ports group line given (Err NoMemory) = Unit {0}
WordsAnswer ports group line given (Err (BadLine at)) = ⊥
WordsAnswer ports group line given (Err (NoGroup at)) = ⊥
WordsAnswer ports group line given (Err (NoPort at)) = (at ≡ line) × StopsAtNoPort ports group given
WordsAnswer ports group line given (Err (PortTwice at)) = (at ≡ line) × StopsAgain ports group given
WordsAnswer ports group line given (Err (BadValue at)) = (at ≡ line) × StopsAtNoValue ports group given

-- the event that the line of this number tells, or its fault
abbrev pub LineAnswers : InputGroups → List Port → ℕ → List ℕ → Result Event EventFault → Type 0
LineAnswers v ports number line (Ok event) = TellsEvent v ports line event
LineAnswers v ports number line (Err NoMemory) = Unit {0}
LineAnswers v ports number line (Err fault) = LineHas v ports number line fault
