-- What it means that the texts of a command are fetched, or why one is not.
-- The rule is told in docs/FORMATS.md, "Commands".
use Rattle.std.specs.Prelude.{◌≡◌, ◌<◌, ◌≤◌, ◌⊎◌, ℕ, List, [], length, slice_get, unwrap_or, Option, Some, None, Result, Ok, Err, IfSome, MatchOption}
use Rattle.emu_io.specs.Files.{Held}
use Rattle.emu_io.specs.Faults.{Rose, max_count}
use Rattle.case_texts.specs.declared.what.What.{What}
use Rattle.emu_app.specs.declared.fetch.Stop.{Stop}
use Rattle.emu_app.specs.declared.fetch.Stop.TheVariants as stop
use Rattle.case_texts.specs.What.{Texts, limit}
use Rattle.emu_app.specs.declared.command.Command.{Command}
use Rattle.emu_app.specs.Command.{CommandWords, Reads, name_of, place_of}

-- these bytes are held under a name, and are within the limit of their text
pub record IsHeld (held : Held) (name : List ℕ) (what : What) (bytes : List ℕ) : Type 0 where
  pub is : held name ≡ Some bytes
  pub within : length bytes ≤ limit what

-- a fetch failed: the count rose and blames the name, or stands at its last value
abbrev pub FetchFailed : ℕ → ℕ → Option (List ℕ) → List ℕ → Type 0
FetchFailed before now blamed name =
    ((before < now) × IfSome blamed (λ told. told ≡ name)) ⊎ (max_count ≤ now)

-- why a text is not there: its name is not held, or a fetch failed
abbrev pub NotThere : Option Held → ℕ → ℕ → Option (List ℕ) → List ℕ → Type 0
NotThere told before now blamed name =
    MatchOption told (FetchFailed before now blamed name) (λ held. (held name ≡ None) ⊎ FetchFailed before now blamed name)

-- more bytes than its limit are held of this text
pub record IsTooLarge (held : Held) (name : List ℕ) (what : What) : Type 0 where
  pub bytes : List ℕ
  pub is : held name ≡ Some bytes
  pub beyond : limit what < length bytes

-- where the files do not tell what they hold, a text that is too large is a failure that the count shows
abbrev pub LargeMeans : Option Held → ℕ → ℕ → List ℕ → What → Type 0
LargeMeans told before now name what = MatchOption told (Rose before now) (λ held. IsTooLarge held name what)

-- why one text was not fetched
abbrev pub TextFails : Option Held → ℕ → ℕ → Option (List ℕ) → List ℕ → What → Stop → Type 0
TextFails told before now blamed name what (stop.NotThere other) = (other ≡ what) × NotThere told before now blamed name
TextFails told before now blamed name what (stop.TooLarge other) = (other ≡ what) × LargeMeans told before now name what
TextFails told before now blamed name what stop.NoMemory = Unit {0}

-- by the answer of the fetch of one text
abbrev pub TextMeans : {X : Type 0} → (X → List ℕ) → Option Held → ℕ → ℕ → Option (List ℕ) → List ℕ → What → Result X Stop → Type 0
TextMeans view told before now blamed name what (Ok bytes) = IfSome told (λ held. IsHeld held name what (view bytes))
TextMeans view told before now blamed name what (Err why) = TextFails told before now blamed name what why

-- each text is within its limit
abbrev pub AreWithin : Texts → Type 0
AreWithin texts = (what : What) → length (texts what) ≤ limit what

-- each text that the command reads is held under its name, and is within its limit
abbrev pub AreHeld : Held → CommandWords → Texts → Type 0
AreHeld held n texts = (what : What) → Reads n.command what → IsHeld held (name_of n what) what (texts what)

-- each text before this one is held and within its limit
abbrev pub EarlierAreHeld : Held → CommandWords → What → Type 0
EarlierAreHeld held n what =
    (other : What) → place_of n.command other < place_of n.command what → (bytes : List ℕ) × IsHeld held (name_of n other) other bytes

-- this text, which the command reads, is the first that is too large, and each before it is there
abbrev pub FirstTooLarge : Option Held → ℕ → ℕ → CommandWords → What → Type 0
FirstTooLarge told before now n what =
    Reads n.command what
    × MatchOption told (Rose before now) (λ held. IsTooLarge held (name_of n what) what × EarlierAreHeld held n what)

-- each text before this one is there, where the files tell what they hold
abbrev pub EarlierAreThere : Option Held → CommandWords → What → Type 0
EarlierAreThere told n what = IfSome told (λ held. EarlierAreHeld held n what)

-- this text, which the command reads, is the first that could not be fetched
pub record ReadFails (told : Option Held) (before now : ℕ) (blamed : Option (List ℕ)) (n : CommandWords) (what : What) : Type 0 where
  pub reads : Reads n.command what
  pub earlier : EarlierAreThere told n what
  pub cause : NotThere told before now blamed (name_of n what)

-- why not all texts were fetched
abbrev pub TextsFail : Option Held → ℕ → ℕ → Option (List ℕ) → CommandWords → Stop → Type 0
TextsFail told before now blamed n (stop.NotThere what) = ReadFails told before now blamed n what
TextsFail told before now blamed n (stop.TooLarge what) = FirstTooLarge told before now n what
TextsFail told before now blamed n stop.NoMemory = Unit {0}

-- by the answer of the fetches of all texts, where `view` tells the bytes of each
abbrev pub TextsMean : {X : Type 0} → (X → Texts) → Option Held → ℕ → ℕ → Option (List ℕ) → CommandWords → Result X Stop → Type 0
TextsMean view told before now blamed n (Ok texts) = IfSome told (λ held. AreHeld held n (view texts))
TextsMean view told before now blamed n (Err why) = TextsFail told before now blamed n why

-- the texts of a list, in the order of the command's words
abbrev pub texts_of : Command → List (List ℕ) → Texts
texts_of command list what = unwrap_or (slice_get list (place_of command what)) []
