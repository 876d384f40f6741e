-- The faults of an opening that a text tells, and what it gives to a design.
-- The rule is told in docs/FORMATS.md, "Openings and events".
use Rattle.std.specs.Prelude.{◌≡◌, ◌≢◌, ◌^◌, ℕ, Bool, false, nat_lt, is_none, if◌then◌else◌, Option, Some, None, List, [], ◌++◌, zip, find, filter, filter_map, flat_map, length, option_map, option_to_list, slice_get, bytes_eq, Result, Ok, Err}
use Rattle.std.specs.Option.{option_map_or}
use Rattle.std.specs.List.{enumerate_from, AllZip}
use Rattle.serde_json.specs.Data.{Data}
use Rattle.json_members.specs.JsonText.{IsTextOf, IsNoJson}
use Rattle.design_core.specs.declared.element.Element.{Element}
use Rattle.design_core.specs.declared.element.Element.TheVariants as element
use Rattle.design_core.specs.declared.parts.Parts.{Parts}
use Rattle.design_core.specs.declared.parts.Port.{Port}
use Rattle.design_core.specs.declared.values.PortBit.{PortBit}
use Rattle.design_core.specs.Names.{IsPath}
use Rattle.domain_groups.specs.declared.openings.OpeningFault.{OpeningFault}
use Rattle.domain_groups.specs.declared.openings.OpeningFault.TheVariants.{NotJson, BadShape, NoPort, BadValue, NoState, NoWord, NoMemory}
use Rattle.domain_groups.specs.GivenOpening.{GivenOpening, GivenValue, GivenWord, opening_told}
use Rattle.domain_groups.specs.Ports.{port_named, nets_at}
use Rattle.domain_groups.specs.Values.{hex_number, is_value, shown_bits}

-- a word of a memory, by the numbers of the memory and of its address
pub record PlainWord : Type 0 where
  pub mem : ℕ
  pub address : ℕ
  pub value : ℕ

-- what a design is opened with: values of bits of its inputs, the numbers of the elements whose state is 1,
-- and words
pub record PlainOpening : Type 0 where
  pub inputs : List PortBit
  pub ones : List ℕ
  pub words : List PlainWord

-- these are the paths of all elements, in the order of the elements
abbrev pub ArePaths : Parts → List (List ℕ) → Type 0
ArePaths p paths = AllZip (IsPath p) p.paths paths

-- the number of an element that is a flip-flop or a latch
abbrev pub state_number : ℕ → Element → Option ℕ
state_number k (element.Flop f) = Some k
state_number k (element.Latch l) = Some k
state_number k other = None

-- the number of the memory that an element is
abbrev pub memory_number : ℕ → Element → Option ℕ
memory_number k (element.Memory m) = Some m.place
memory_number k other = None

-- the path of an element, and its number of a kind, if it has one
abbrev pub entry_of : (ℕ → Element → Option ℕ) → ℕ × (Element × List ℕ) → Option (List ℕ × ℕ)
entry_of number (k, (e, path)) = option_map (λ n. (path, n)) (number k e)

-- the elements that have a number of a kind, in order, by their paths
abbrev pub entries : (ℕ → Element → Option ℕ) → List Element → List (List ℕ) → List (List ℕ × ℕ)
entries number elements paths = filter_map (entry_of number) (enumerate_from 0 (zip elements paths))

-- where a path leads: several elements may have it, and the first of them is meant
abbrev pub led_to : List (List ℕ × ℕ) → List ℕ → Option ℕ
led_to list path = option_map (λ e. e.1) (find (λ e. bytes_eq path e.0) list)

-- the least flip-flop or latch of a path, and the memory that is the least such element
abbrev pub state_at : Parts → List (List ℕ) → List ℕ → Option ℕ
state_at p paths path = led_to (entries state_number p.elements paths) path

abbrev pub memory_at : Parts → List (List ℕ) → List ℕ → Option ℕ
memory_at p paths path = led_to (entries memory_number p.elements paths) path

-- whether a memory has an address, and how wide its words are
abbrev pub has_address : Parts → ℕ → ℕ → Bool
has_address p address m = option_map_or (λ memory. nat_lt address (2 ^ memory.address_bits)) (slice_get p.memories m) false

abbrev pub width_of : Parts → ℕ → ℕ
width_of p m = option_map_or (λ memory. memory.width) (slice_get p.memories m) 0

-- a fault where digits are no value for so many bits
abbrev pub value_fault : List ℕ → List ℕ → ℕ → Option OpeningFault
value_fault name digits width = if is_value width digits then None else Some (BadValue name)

-- no input port has the name, or the port has no room for the value
abbrev pub input_fault : List Port → GivenValue → Option OpeningFault
input_fault ports given =
    option_map_or
    (λ place. value_fault given.name given.digits (length (nets_at ports place)))
    (port_named ports given.name)
    (Some (NoPort given.name))

-- no flip-flop and no latch has the path
abbrev pub state_fault : (List ℕ → Option ℕ) → List ℕ → Option OpeningFault
state_fault state path = if is_none (state path) then Some (NoState path) else None

-- no memory has the path, or the memory has not the address, or no room for the value
abbrev pub word_fault : Parts → (List ℕ → Option ℕ) → GivenWord → Option OpeningFault
word_fault p memory given =
    option_map_or
    (λ m. if has_address p given.address m then value_fault given.path given.digits (width_of p m) else Some (NoWord given.path))
    (memory given.path)
    (Some (NoWord given.path))

-- all faults, in the order in which they count
unfoldable pub opening_faults : Parts → List (List ℕ) → GivenOpening → List OpeningFault
opening_faults p paths given =
    filter_map (input_fault p.inputs) given.inputs
    ++ filter_map (state_fault (state_at p paths)) given.ones
    ++ filter_map (word_fault p (memory_at p paths)) given.words

-- the bits of the port of a name, with those of the number that the digits write
abbrev pub input_values : List Port → GivenValue → List PortBit
input_values ports given =
    option_map_or (λ place. shown_bits (nets_at ports place) (hex_number given.digits)) (port_named ports given.name) []

-- the word of the memory of a path
abbrev pub plain_word : (List ℕ → Option ℕ) → GivenWord → Option PlainWord
plain_word memory given =
    option_map (λ m. record { mem = m; address = given.address; value = hex_number given.digits }) (memory given.path)

-- what it gives to the design, entry by entry
unfoldable pub plain_opening : Parts → List (List ℕ) → GivenOpening → PlainOpening
plain_opening p paths given =
    record {
      inputs = flat_map (input_values p.inputs) given.inputs;
      ones = filter_map (state_at p paths) given.ones;
      words = filter_map (plain_word (memory_at p paths)) given.words;
    }

-- the text is JSON and tells this opening
pub record TellsOpening (bytes : List ℕ) (given : GivenOpening) : Type 0 where
  pub tree : Data
  pub text : IsTextOf bytes tree
  pub form : opening_told tree ≡ Some given

-- the text is JSON and has not the form
pub record HasNoOpening (bytes : List ℕ) : Type 0 where
  pub tree : Data
  pub text : IsTextOf bytes tree
  pub shape : opening_told tree ≡ None

-- the text tells an opening that has faults, of which this is the first
pub record HasOpeningFault (p : Parts) (bytes : List ℕ) (fault : OpeningFault) : Type 0 where
  pub given : GivenOpening
  pub told : TellsOpening bytes given
  pub paths : List (List ℕ)
  pub are_paths : ArePaths p paths
  pub first : slice_get (opening_faults p paths given) 0 ≡ Some fault

-- the text tells an opening without fault, which gives this to the design
pub record StandsForOpening (p : Parts) (bytes : List ℕ) (o : PlainOpening) : Type 0 where
  pub given : GivenOpening
  pub told : TellsOpening bytes given
  pub paths : List (List ℕ)
  pub are_paths : ArePaths p paths
  pub sound : opening_faults p paths given ≡ []
  pub gives : o ≡ plain_opening p paths given

-- the answer is the opening that the text stands for, or its first fault; no memory says nothing of the text
abbrev pub OpeningAnswers : {X : Type 0} → (X → PlainOpening) → Parts → List ℕ → Result X OpeningFault → Type 0
OpeningAnswers plain p bytes (Ok o) = StandsForOpening p bytes (plain o)
OpeningAnswers plain p bytes (Err NotJson) = IsNoJson bytes
OpeningAnswers plain p bytes (Err BadShape) = HasNoOpening bytes
OpeningAnswers plain p bytes (Err NoMemory) = Unit {0}
OpeningAnswers plain p bytes (Err fault) = HasOpeningFault p bytes fault

-- a text has one answer for a design, want of memory aside
abbrev pub EachOpeningHasOneAnswer : Type 0
EachOpeningHasOneAnswer =
    (p : Parts) (bytes : List ℕ) (first second : Result PlainOpening OpeningFault) → first ≢ Err NoMemory → second ≢ Err NoMemory
    → OpeningAnswers (λ o. o) p bytes first → OpeningAnswers (λ o. o) p bytes second → first ≡ second
