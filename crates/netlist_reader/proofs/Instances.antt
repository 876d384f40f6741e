-- What stands behind the form in the line of an instance.
use Rattle.std.proofs.Common.{◌≡◌, ◌<◌, ◌^◌, ℕ, List, [], ◌∷◌, ◌++◌, Some, slice_get, refl, sym, ap, ◌∙◌, append_assoc, arith}
use Rattle.std.proofs.lemmas.Option.{slice_get_within}
use Rattle.token_words.specs.Word.{Word, open_parenthesis, semicolon}
use Rattle.id_arena.specs.declared.keys.ChipNetId.{ChipNetId}
use Rattle.netlist_reader.specs.Netlist.{closed_words, numbered, pin_words}
use Rattle.netlist_reader.specs.Inside.{ArePins, IsRoom}
use Rattle.netlist_reader.specs.declared.pins.Room.{Room}
use Rattle.netlist_reader.proofs.Stucks.{Holds, due}
use Rattle.netlist_reader.proofs.Terminals.{padding, padding_below, padding_size, same_closed}

-- some terminals fit
pub some_pins : (room : Room) → IsRoom room → (pins : List ChipNetId) × ArePins room pins
some_pins room is = (
  padding room.least (record { place = 0 }),
  record {
    enough = (let size = padding_size room.least (record { place = 0 }) in omega arith);
    few = (let size = padding_size room.least (record { place = 0 }) in let order = is.order in omega arith);
    below = below;
  },
) where
  below : (k : ℕ) (n : ChipNetId) → ◌≡◌ (slice_get (padding room.least (record { place = 0 })) k) (Some n) → n.place < room.nets
  below k n e =
      let size = padding_size room.least (record { place = 0 }) in
      let within = slice_get_within (padding room.least (record { place = 0 })) k n e in
      let order = is.order in
      let some : 0 < room.most = omega arith in
      padding_below room.nets room.least (record { place = 0 }) (is.there some) k n e

pub head_holds : (room : Room) (stem : List ℕ) (k : ℕ) (mid : List Word) → IsRoom room → Holds {B = Unit {0}} (ArePins room) (λ u. Unit {0}) (pin_words stem k) (λ u. numbered stem k ∷ open_parenthesis ∷ []) [] mid
head_holds room stem k mid is =
    let some = some_pins room is in
    due (ArePins room) (pin_words stem k) [] (numbered stem k ∷ open_parenthesis ∷ []) mid
    (some.0, closed_words some.0 ++ semicolon ∷ [], some.1, refl)
    (λ pins more words are follows e. ((closed_words pins ++ semicolon ∷ []) ++ more, sym e))

pub pins_hold : (room : Room) (stem : List ℕ) (k : ℕ) (mid : List Word) → Holds (ArePins room) (ArePins room) (pin_words stem k) closed_words (numbered stem k ∷ open_parenthesis ∷ []) mid
pins_hold room stem k mid = record {
  up = λ pins are. (pins, semicolon ∷ [], are, refl);
  down = λ pins more words are follows e.
      let tails : (closed_words pins ++ semicolon ∷ []) ++ more ≡ words = cc in
      (pins, semicolon ∷ more, are, sym tails ∙ append_assoc (closed_words pins) (semicolon ∷ []) more);
}

pub end_holds : (room : Room) (stem : List ℕ) (k : ℕ) (pins : List ChipNetId) (mid : List Word) → room.nets < 2 ^ 32 → ArePins room pins → Holds {B = Unit {0}} (ArePins room) (λ u. Unit {0}) (pin_words stem k) (λ u. semicolon ∷ []) (numbered stem k ∷ open_parenthesis ∷ closed_words pins) mid
end_holds room stem k pins mid fits are =
    due (ArePins room) (pin_words stem k) (numbered stem k ∷ open_parenthesis ∷ closed_words pins) (semicolon ∷ []) mid
    (pins, [], are, refl)
    (λ others more words others-are follows e.
    let tails : (closed_words others ++ semicolon ∷ []) ++ more ≡ closed_words pins ++ words = cc in
    let same = same_closed room.nets others pins (semicolon ∷ more) words fits others-are.below are.below (sym (append_assoc (closed_words others) (semicolon ∷ []) more) ∙ tails) in
    (more, sym same.1))

pub behind_pins : (stem : List ℕ) (k : ℕ) (pins : List ChipNetId) (before mid after : List Word) → before ≡ (numbered stem k ∷ open_parenthesis ∷ []) ++ mid → mid ≡ closed_words pins ++ after → before ≡ (numbered stem k ∷ open_parenthesis ∷ closed_words pins) ++ after
behind_pins stem k pins before mid after e f = e ∙ ap (λ ws. numbered stem k ∷ open_parenthesis ∷ ws) f

pub whole_line : (stem : List ℕ) (k : ℕ) (pins : List ChipNetId) (before mid behind after : List Word) → before ≡ (numbered stem k ∷ open_parenthesis ∷ []) ++ mid → mid ≡ closed_words pins ++ behind → behind ≡ (semicolon ∷ []) ++ after → before ≡ pin_words stem k pins ++ after
whole_line stem k pins before mid behind after e f g =
    e ∙ ap (λ ws. numbered stem k ∷ open_parenthesis ∷ ws) (f ∙ ap (λ ws. closed_words pins ++ ws) g ∙ sym (append_assoc (closed_words pins) (semicolon ∷ []) after))
