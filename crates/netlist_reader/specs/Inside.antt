-- Inside: what a reader of a part takes from the front of a list of words, or where it is stuck.
use Rattle.std.specs.Prelude.{◌≡◌, ◌<◌, ◌≤◌, ◌^◌, ◌⊎◌, ℕ, List, [], ◌∷◌, ◌++◌, Option, Some, None, Result, Ok, Err, length}
use Rattle.token_words.specs.Word.{Word, comma}
use Rattle.id_arena.specs.declared.keys.ChipNetId.{ChipNetId}
use Rattle.emu_machine.specs.Building.{AreNetsOf}
use Rattle.netlist_reader.specs.Netlist.{closed_words, more_words, net_word}
use Rattle.netlist_reader.specs.declared.pins.Room.{Room}
use Rattle.netlist_reader.specs.declared.fault.Stop.{Stop}
use Rattle.netlist_reader.specs.declared.fault.Stop.TheVariants as stop

-- there is a first word, and it is of this kind
abbrev pub Begins : (Word → Type 0) → List Word → Type 0
Begins IsFirst [] = ⊥
Begins IsFirst (word ∷ words) = IsFirst word

-- the words have the same first word as these, or both have none
abbrev pub Follows : List Word → List Word → Type 0
Follows [] words = words ≡ []
Follows (first ∷ others) words = (rest : List Word) × (words ≡ first ∷ rest)

-- what may follow a part: anything, or what begins with no such word
abbrev pub Anything : List Word → Type 0
Anything words = Unit {0}

-- no such word begins them
abbrev pub NoMore : (Word → Type 0) → List Word → Type 0
NoMore IsFirst words = Begins IsFirst words → ⊥

-- Of parts that meet a condition and are written as a line, one begins with the words that were passed over,
-- and none, with what may follow it, goes on with the word that comes next; where no word is left, none ends here.
pub record Stuck {A : Type 0} (Is : A → Type 0) (May : List Word → Type 0) (line : A → List Word) (before after : List Word) : Type 0 where
  pub seen : List Word
  pub split : before ≡ seen ++ after
  pub item : A
  pub is : Is item
  pub tail : List Word
  pub begun : line item ≡ seen ++ tail
  pub none : (other : A) (more words : List Word) → Is other → May more → Follows after words → line other ++ more ≡ seen ++ words → ⊥

-- a part was taken, or reading is stuck in it
abbrev pub Reads : {A : Type 0} → (A → Type 0) → (A → List Word) → List Word → List Word → Result A Stop → Type 0
Reads Is line before after (Ok item) = Is item × (before ≡ line item ++ after)
Reads Is line before after (Err stop.Stuck) = Stuck Is Anything line before after
Reads Is line before after (Err stop.NoMemory) = Unit {0}

-- no part begins here, or one was taken, or reading is stuck in it
abbrev pub ReadsNext : {A : Type 0} → (A → Type 0) → (Word → Type 0) → (A → List Word) → List Word → List Word → Result (Option A) Stop → Type 0
ReadsNext Is IsFirst line before after (Ok None) = (after ≡ before) × NoMore IsFirst before
ReadsNext Is IsFirst line before after (Ok (Some item)) = Is item × (before ≡ line item ++ after)
ReadsNext Is IsFirst line before after (Err stop.Stuck) = Begins IsFirst before × Stuck Is Anything line before after
ReadsNext Is IsFirst line before after (Err stop.NoMemory) = Unit {0}

-- all parts that stand here were taken, or reading is stuck in one
abbrev pub ReadsAll : {A : Type 0} → (A → Type 0) → (Word → Type 0) → (A → List Word) → List Word → List Word → Result A Stop → Type 0
ReadsAll Is IsFirst line before after (Ok items) = Is items × (before ≡ line items ++ after) × NoMore IsFirst after
ReadsAll Is IsFirst line before after (Err stop.Stuck) = Stuck Is (NoMore IsFirst) line before after
ReadsAll Is IsFirst line before after (Err stop.NoMemory) = Unit {0}

-- the nets of a chip with so many nets
abbrev pub IsNetBelow : ℕ → ChipNetId → Type 0
IsNetBelow nets n = n.place < nets

-- so many terminals as there is room for
pub record ArePins (room : Room) (pins : List ChipNetId) : Type 0 where
  pub enough : room.least ≤ length pins
  pub few : length pins ≤ room.most
  pub below : AreNetsOf room.nets pins

-- an instance can have as many terminals
pub record IsRoom (room : Room) : Type 0 where
  pub order : room.least ≤ room.most
  pub some : 0 < room.most → 0 < room.least
  pub there : 0 < room.most → 0 < room.nets
  pub small : room.nets < 2 ^ 32

-- terminals with commas between
abbrev pub open_words : List ChipNetId → List Word
open_words [] = []
open_words (n ∷ nets) = net_word n ∷ more_words nets

-- these terminals were taken, and no more than there may be; where there may be some, one was taken
pub record Opened (room : Room) (before after : List Word) (pins : List ChipNetId) : Type 0 where
  pub split : before ≡ open_words pins ++ after
  pub few : length pins ≤ room.most
  pub some : 0 < room.most → 0 < length pins
  pub below : AreNetsOf room.nets pins

-- the first terminal was taken, where there may be some, or reading is stuck in the terminals
abbrev pub Opens : Room → List Word → List Word → Result (List ChipNetId) Stop → Type 0
Opens room before after (Ok pins) = Opened room before after pins
Opens room before after (Err stop.Stuck) = Stuck (ArePins room) Anything closed_words before after
Opens room before after (Err stop.NoMemory) = Unit {0}

-- a terminal is due, or comes, behind so many
abbrev pub GoesOn : Room → ℕ → List Word → Type 0
GoesOn room count words = (count < room.least) ⊎ ((count < room.most) × Begins (λ w. w ≡ comma) words)

-- each line begins with such a word
abbrev pub EachBegins : {A : Type 0} → (A → Type 0) → (Word → Type 0) → (ℕ × A → List Word) → Type 0
EachBegins Is IsFirst line = (k : ℕ) (x : _) (after : List Word) → Is x → Begins IsFirst (line (k, x) ++ after)

-- the words of lines tell what they are the lines of
abbrev pub AreApart : {A : Type 0} → (A → Type 0) → (ℕ × A → List Word) → Type 0
AreApart Is line =
    (k : ℕ) (x y : _) (a b : List Word) → Is x → Is y → line (k, x) ++ a ≡ line (k, y) ++ b → (x ≡ y) × (a ≡ b)
