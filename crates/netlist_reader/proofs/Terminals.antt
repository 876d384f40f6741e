-- Terminals with commas between.
use Rattle.std.proofs.Common.{◌≡◌, ◌≢◌, ◌+◌, ◌-◌, ◌<◌, ◌≤◌, ◌^◌, ◌⊎◌, inl, inr, ℕ, zero, suc, Some, List, [], ◌∷◌, ◌++◌, length, slice_get, refl, sym, ap, ◌∙◌, subst, append_assoc, arith}
use Rattle.std.specs.Prelude.{Result, Ok, Err, IsErr, codes, decimal}
use Rattle.std.specs.Result.{IsErrAnd}
use Rattle.std.proofs.lemmas.Bool.{cases_lt}
use Rattle.std.proofs.lemmas.List.{length-append}
use Rattle.std.proofs.lemmas.List.Concat.{flat_map-append}
use Rattle.std.proofs.lemmas.Option.{same_Some}
use Rattle.token_words.specs.Word.{Word, name, close_parenthesis, comma}
use Rattle.id_arena.specs.declared.keys.ChipNetId.{ChipNetId}
use Rattle.emu_machine.specs.Building.{AreNetsOf}
use Rattle.netlist_writer.specs.NetlistText.{net_name}
use Rattle.netlist_reader.specs.Netlist.{closed_words, more_words, net_word}
use Rattle.netlist_reader.specs.Inside.{Anything, ArePins, Begins, Follows, GoesOn, IsNetBelow, IsRoom, Opened, Opens, Reads, Stuck, open_words}
use Rattle.netlist_reader.specs.declared.fault.Stop.{Stop}
use Rattle.netlist_reader.specs.declared.fault.Stop.TheVariants as stop
use Rattle.netlist_reader.specs.Forms.{TellsName}
use Rattle.netlist_reader.specs.declared.pins.Room.{Room}
use Rattle.netlist_reader.proofs.Codes.{differ}
use Rattle.netlist_reader.proofs.Names.{same_stem}
use Rattle.netlist_reader.proofs.Stucks.{Holds, begins_alike, due, stuck_in}

-- nets of equal names
pub same_net : (nets : ℕ) (m n : ChipNetId) → nets < 2 ^ 32 → m.place < nets → n.place < nets → net_word m ≡ net_word n → m ≡ n
same_net nets m n fits below below-2 e =
    let places = same_stem (codes "n") m.place n.place (omega arith) (omega arith) (ap (λ (w : Word). w.name) e) in
    λ i. record { place = places i }

-- no net below stands there
pub net_stuck : (nets : ℕ) (words : List Word) (bytes : List ℕ) → 0 < nets → TellsName words bytes → ((k : ℕ) → k < nets → bytes ≢ codes "n" ++ decimal k) → Stuck (IsNetBelow nets) Anything (λ n. net_word n ∷ []) words words
net_stuck nets words bytes some tells none = record {
  seen = [];
  split = refl;
  item = record { place = 0 };
  is = some;
  tail = net_word (record { place = 0 }) ∷ [];
  begun = refl;
  none = λ n more others is may follows e.
      none n.place is (sym (tells.only (net_name n) (begins_alike_back words others n more follows e)));
} where
  begins_alike_back : (ws os : List Word) (n : ChipNetId) (more : List Word) → Follows ws os → net_word n ∷ more ≡ os → Begins (λ w. w ≡ name (net_name n)) ws
  begins_alike_back [] os n more f e = cc
  begins_alike_back (w ∷ ws) os n more f e = (let both : net_word n ∷ more ≡ w ∷ f.0 = e ∙ f.1 in cc)

pub tail_below : (nets : ℕ) (n : ChipNetId) (ns : List ChipNetId) → AreNetsOf nets (n ∷ ns) → AreNetsOf nets ns
tail_below nets n ns all = λ k m e. all (suc k) m e

pub join_below : (nets : ℕ) (ms ns : List ChipNetId) → AreNetsOf nets ms → AreNetsOf nets ns → AreNetsOf nets (ms ++ ns)
join_below nets [] ns all all-2 k n e = all-2 k n e
join_below nets (m ∷ ms) ns all all-2 zero n e = all 0 n e
join_below nets (m ∷ ms) ns all all-2 (suc k) n e = join_below nets ms ns (tail_below nets m ms all) all-2 k n e

pub one_below : (nets : ℕ) (n : ChipNetId) → n.place < nets → AreNetsOf nets (n ∷ [])
one_below nets n is zero m e = subst (λ (x : ChipNetId). x.place < nets) (same_Some n m e) is
one_below nets n is (suc k) m e = cc

-- so many times the same net
abbrev pub padding : ℕ → ChipNetId → List ChipNetId
padding zero n = []
padding (suc k) n = n ∷ padding k n

pub padding_size : (k : ℕ) (n : ChipNetId) → length (padding k n) ≡ k
padding_size zero n = refl
padding_size (suc k) n = ap suc (padding_size k n)

pub padding_below : (nets k : ℕ) (n : ChipNetId) → n.place < nets → AreNetsOf nets (padding k n)
padding_below nets zero n is j m e = absurd (none_there j e)
  where
    none_there : (k : ℕ) → slice_get {X = ChipNetId} [] k ≡ Some m → ⊥
    none_there k f = cc
padding_below nets (suc k) n is zero m e = subst (λ (x : ChipNetId). x.place < nets) (same_Some n m e) is
padding_below nets (suc k) n is (suc j) m e = padding_below nets k n is j m e

-- more terminals begin with those that were passed over
more_begin : (nets : ℕ) (ms ns : List ChipNetId) (more words : List Word) → nets < 2 ^ 32 → AreNetsOf nets ms → AreNetsOf nets ns → more_words ms ++ close_parenthesis ∷ more ≡ more_words ns ++ words → (rest : List ChipNetId) × (ms ≡ ns ++ rest) × (words ≡ more_words rest ++ close_parenthesis ∷ more)
more_begin nets ms [] more words fits all all-2 e = (ms, refl, sym e)
more_begin nets [] (n ∷ ns) more words fits all all-2 e = absurd (differ _ _ e refl)
more_begin nets (m ∷ ms) (n ∷ ns) more words fits all all-2 e =
    let first : net_word m ≡ net_word n = cc in
    let rests : more_words ms ++ close_parenthesis ∷ more ≡ more_words ns ++ words = cc in
    let rest = more_begin nets ms ns more words fits (tail_below nets m ms all) (tail_below nets n ns all-2) rests in
    let same : m ≡ n = same_net nets m n fits (all 0 m refl) (all-2 0 n refl) first in
    (rest.0, (λ i. same i ∷ rest.1 i), rest.2)

-- terminals begin with those that were passed over
pub pins_begin : (nets : ℕ) (ms ns : List ChipNetId) (more words : List Word) → nets < 2 ^ 32 → 0 < length ns → AreNetsOf nets ms → AreNetsOf nets ns → closed_words ms ++ more ≡ open_words ns ++ words → (rest : List ChipNetId) × (ms ≡ ns ++ rest) × (words ≡ more_words rest ++ close_parenthesis ∷ more)
pins_begin nets ms [] more words fits some all all-2 e = absurd (omega arith)
pins_begin nets [] (n ∷ ns) more words fits some all all-2 e = absurd (differ _ _ e refl)
pins_begin nets (m ∷ ms) (n ∷ ns) more words fits some all all-2 e =
    let whole : net_word m ∷ (more_words ms ++ close_parenthesis ∷ more) ≡ net_word n ∷ (more_words ns ++ words) =
    ap (λ ws. net_word m ∷ ws) (sym (append_assoc (more_words ms) (close_parenthesis ∷ []) more)) ∙ e in
    let first : net_word m ≡ net_word n = cc in
    let rests : more_words ms ++ close_parenthesis ∷ more ≡ more_words ns ++ words = cc in
    let rest = more_begin nets ms ns more words fits (tail_below nets m ms all) (tail_below nets n ns all-2) rests in
    let same : m ≡ n = same_net nets m n fits (all 0 m refl) (all-2 0 n refl) first in
    (rest.0, (λ i. same i ∷ rest.1 i), rest.2)

-- terminals behind those that were passed over
pub pins_join : (ns ms : List ChipNetId) → 0 < length ns → closed_words (ns ++ ms) ≡ open_words ns ++ (more_words ms ++ close_parenthesis ∷ [])
pins_join [] ms some = absurd (omega arith)
pins_join (n ∷ ns) ms some =
    ap (λ ws. net_word n ∷ (ws ++ close_parenthesis ∷ [])) (flat_map-append (λ m. comma ∷ net_word m ∷ []) ns ms)
    ∙ ap (λ ws. net_word n ∷ ws) (append_assoc (more_words ns) (more_words ms) (close_parenthesis ∷ []))

pub open_more : (ns : List ChipNetId) (n : ChipNetId) → 0 < length ns → open_words (ns ++ n ∷ []) ≡ open_words ns ++ (comma ∷ net_word n ∷ [])
open_more [] n some = absurd (omega arith)
open_more (m ∷ ns) n some = ap (λ ws. net_word m ∷ ws) (flat_map-append (λ m. comma ∷ net_word m ∷ []) ns (n ∷ []))

-- Where terminals stand behind others.

-- the first terminal
pub first_holds : (room : Room) (mid : List Word) → IsRoom room → 0 < room.most → Holds (ArePins room) (IsNetBelow room.nets) closed_words (λ n. net_word n ∷ []) [] mid
first_holds room mid is some = record {
  up = λ n below.
      let pad = padding (room.least - 1) n in
      let size = padding_size (room.least - 1) n in
      let least = is.some some in
      let order = is.order in (
        n ∷ pad,
        more_words pad ++ close_parenthesis ∷ [],
        record { enough = omega arith; few = omega arith; below = join_below room.nets (n ∷ []) pad (one_below room.nets n below) (padding_below room.nets (room.least - 1) n below) },
        refl,
      );
  down = λ pins more words are follows e. first_of pins more words are e (is.some some);
} where
  first_of : (pins : List ChipNetId) (more words : List Word) → ArePins room pins → closed_words pins ++ more ≡ words → 0 < room.least → (n : ChipNetId) × (rest : List Word) × IsNetBelow room.nets n × (words ≡ net_word n ∷ rest)
  first_of [] more words are e least = (let enough = are.enough in absurd (omega arith))
  first_of (n ∷ pins) more words are e least = (n, (more_words pins ++ close_parenthesis ∷ []) ++ more, are.below 0 n refl, sym e)

-- one terminal more
pub listed_holds : (room : Room) (pins : List ChipNetId) (mid : List Word) → IsRoom room → room.nets < 2 ^ 32 → 0 < length pins → length pins ≤ room.most → AreNetsOf room.nets pins → GoesOn room (length pins) mid → Holds (ArePins room) (IsNetBelow room.nets) closed_words (λ n. comma ∷ net_word n ∷ []) (open_words pins) mid
listed_holds room pins mid is fits some few below goes = record {
  up = λ n n-below.
      let pad = padding (room.least - (length pins + 1)) n in
      let size = padding_size (room.least - (length pins + 1)) n in
      let sizes = length-append pins (n ∷ pad) in
      let order = is.order in
      let more = room_left goes in (
        pins ++ n ∷ pad,
        more_words pad ++ close_parenthesis ∷ [],
        record {
          enough = omega arith;
          few = omega arith;
          below = join_below room.nets pins (n ∷ pad) below (join_below room.nets (n ∷ []) pad (one_below room.nets n n-below) (padding_below room.nets (room.least - (length pins + 1)) n n-below));
        },
        pins_join pins (n ∷ pad) some,
      );
  down = λ others more words are follows e.
      let parts = pins_begin room.nets others pins more words fits some are.below below e in
      next_of parts.0 others more words are parts.1 parts.2 follows goes;
} where
  room_left : GoesOn room (length pins) mid → length pins < room.most
  room_left (inl less) = (let order = is.order in omega arith)
  room_left (inr both) = both.0

  next_of : (rest others : List ChipNetId) (more words : List Word) → ArePins room others → others ≡ pins ++ rest → words ≡ more_words rest ++ close_parenthesis ∷ more → Follows mid words → GoesOn room (length pins) mid → (n : ChipNetId) × (left : List Word) × IsNetBelow room.nets n × (words ≡ comma ∷ net_word n ∷ left)
  next_of [] others more words are e f follows (inl less) =
      let enough = are.enough in
      let size : length others ≡ length (pins ++ []) = ap length e in
      let sizes = length-append pins [] in
      absurd (omega arith)
  next_of [] others more words are e f follows (inr both) =
      let comes = begins_alike (λ w. w ≡ comma) mid words follows both.1 in
      let closes : Begins (λ w. w ≡ comma) (close_parenthesis ∷ more) = subst (Begins (λ w. w ≡ comma)) f comes in
      absurd (differ (close_parenthesis ∷ []) (comma ∷ []) (ap (λ (w : Word). w ∷ []) closes) refl)
  next_of (n ∷ rest) others more words are e f follows goes =
      (n, more_words rest ++ close_parenthesis ∷ more, below_at others pins n rest are.below e, f)
    where
      below_at : (ms ns : List ChipNetId) (m : ChipNetId) (ks : List ChipNetId) → AreNetsOf room.nets ms → ms ≡ ns ++ m ∷ ks → m.place < room.nets
      below_at ms [] m ks all same = all 0 m (ap (λ xs. slice_get xs 0) same)
      below_at [] (x ∷ ns) m ks all same = cc
      below_at (y ∷ ms) (x ∷ ns) m ks all same = (let tails : ms ≡ ns ++ m ∷ ks = cc in below_at ms ns m ks (tail_below room.nets y ms all) tails)

-- the parenthesis that closes
pub close_holds : (room : Room) (pins : List ChipNetId) (mid : List Word) → room.nets < 2 ^ 32 → (0 < room.most → 0 < length pins) → length pins ≤ room.most → AreNetsOf room.nets pins → (GoesOn room (length pins) mid → ⊥) → Holds {B = Unit {0}} (ArePins room) (λ u. Unit {0}) closed_words (λ u. close_parenthesis ∷ []) (open_words pins) mid
close_holds room pins mid fits some few below ends =
    due (ArePins room) closed_words (open_words pins) (close_parenthesis ∷ []) mid
    (pins, [], record { enough = enough_of (cases_lt (length pins) room.least); few = few; below = below }, closes pins)
    (λ others more words are follows e. only pins others more words are follows below some ends few e)
  where
    enough_of : (length pins < room.least) ⊎ (room.least ≤ length pins) → room.least ≤ length pins
    enough_of (inl less) = absurd (ends (inl less))
    enough_of (inr enough) = enough

    closes : (ns : List ChipNetId) → closed_words ns ≡ open_words ns ++ (close_parenthesis ∷ [])
    closes [] = refl
    closes (n ∷ ns) = refl

    only_of : (ns rest others : List ChipNetId) (more words : List Word) → ArePins room others → others ≡ ns ++ rest → words ≡ more_words rest ++ close_parenthesis ∷ more → Follows mid words → (GoesOn room (length ns) mid → ⊥) → (left : List Word) × (words ≡ close_parenthesis ∷ left)
    only_of ns [] others more words are e f follows over = (more, f)
    only_of ns (n ∷ rest) others more words are e f follows over =
        let few-of = are.few in
        let size : length others ≡ length (ns ++ n ∷ rest) = ap length e in
        let sizes = length-append ns (n ∷ rest) in
        let less : length ns < room.most = omega arith in
        absurd (over (inr (less, back mid words follows (subst (Begins (λ w. w ≡ comma)) (sym f) refl))))
      where
        back : (ws os : List Word) → Follows ws os → Begins (λ w. w ≡ comma) os → Begins (λ w. w ≡ comma) ws
        back [] os g b = absurd (subst (Begins (λ w. w ≡ comma)) g b)
        back (w ∷ ws) os g b = subst (Begins (λ w. w ≡ comma)) g.1 b

    only : (ns others : List ChipNetId) (more words : List Word) → ArePins room others → Follows mid words → AreNetsOf room.nets ns → (0 < room.most → 0 < length ns) → (GoesOn room (length ns) mid → ⊥) → length ns ≤ room.most → closed_words others ++ more ≡ open_words ns ++ words → (left : List Word) × (words ≡ close_parenthesis ∷ left)
    only [] [] more words are follows all some-of over few-of e = (more, sym e)
    only [] (m ∷ others) more words are follows all some-of over few-of e =
        let size = are.few in
        let there : 0 < room.most = omega arith in
        let none : 0 < 0 = some-of there in
        absurd (omega arith)
    only (n ∷ ns) others more words are follows all some-of over few-of e =
        let parts = pins_begin room.nets others (n ∷ ns) more words fits (omega arith) are.below all e in
        only_of (n ∷ ns) parts.0 others more words are parts.1 parts.2 follows over

-- where no net stands there, none below does
pub net_none : (nets : ℕ) (bytes stem : List ℕ) → nets < 2 ^ 32 → stem ≡ codes "n" → ((k : ℕ) → k < 2 ^ 32 → bytes ≢ stem ++ decimal k) → (k : ℕ) → k < nets → bytes ≢ codes "n" ++ decimal k
net_none nets bytes stem fits is none k below f = none k (omega arith) (f ∙ ap (λ s. s ++ decimal k) (sym is))

-- a number that is too large is no net below
pub net_past : (nets place : ℕ) (bytes stem : List ℕ) → nets < 2 ^ 32 → place < 2 ^ 32 → stem ≡ codes "n" → nets ≤ place → bytes ≡ stem ++ decimal place → (k : ℕ) → k < nets → bytes ≢ codes "n" ++ decimal k
net_past nets place bytes stem fits small is past e k below f =
    let same = same_stem (codes "n") place k (omega arith) (omega arith) (ap (λ s. s ++ decimal place) (sym is) ∙ sym e ∙ f) in
    omega arith

-- the first terminal is not there
pub opens_not : (room : Room) (before after : List Word) (r : Result (List ChipNetId) Stop) (s : Stop) → IsErr r × IsErrAnd r (λ e. e ≡ s) → IsRoom room → 0 < room.most → Reads (IsNetBelow room.nets) (λ n. net_word n ∷ []) before after (Err s) → Opens room before after r
opens_not room before after (Ok pins) s is room-is some part = absurd is.1
opens_not room before after (Err e) s is room-is some part = subst (λ f. Opens room before after (Err f)) (sym is.1) (go s part)
  where
    go : (t : Stop) → Reads (IsNetBelow room.nets) (λ n. net_word n ∷ []) before after (Err t) → Opens room before after (Err t)
    go stop.Stuck stuck = stuck_in (ArePins room) (IsNetBelow room.nets) closed_words (λ n. net_word n ∷ []) [] before before after refl stuck (first_holds room before room-is some)
    go stop.NoMemory none = tt

pub comma_holds : (nets : ℕ) (mid : List Word) → 0 < nets → Holds {B = Unit {0}} (IsNetBelow nets) (λ u. Unit {0}) (λ n. comma ∷ net_word n ∷ []) (λ u. comma ∷ []) [] mid
comma_holds nets mid some =
    due (IsNetBelow nets) (λ n. comma ∷ net_word n ∷ []) [] (comma ∷ []) mid
    (record { place = 0 }, net_word (record { place = 0 }) ∷ [], some, refl)
    (λ n more words is follows e. (net_word n ∷ more, sym e))

-- what is read behind a comma
pub behind_comma : (nets : ℕ) (before mid after : List Word) (r : Result ChipNetId Stop) → before ≡ comma ∷ mid → Reads (IsNetBelow nets) (λ n. net_word n ∷ []) mid after r → Reads (IsNetBelow nets) (λ n. comma ∷ net_word n ∷ []) before after r
behind_comma nets before mid after (Ok n) e part = (part.0, e ∙ ap (λ ws. comma ∷ ws) part.1)
behind_comma nets before mid after (Err stop.Stuck) e stuck =
    stuck_in (IsNetBelow nets) (IsNetBelow nets) (λ n. comma ∷ net_word n ∷ []) (λ n. net_word n ∷ []) (comma ∷ []) before mid after e stuck (record {
      up = λ n is. (n, [], is, refl);
      down = λ n more words is follows f. (n, more, is, (let same : net_word n ∷ more ≡ words = cc in sym same));
    })
behind_comma nets before mid after (Err stop.NoMemory) e none = tt

same_more : (nets : ℕ) (ms ns : List ChipNetId) (a b : List Word) → nets < 2 ^ 32 → AreNetsOf nets ms → AreNetsOf nets ns → more_words ms ++ close_parenthesis ∷ a ≡ more_words ns ++ close_parenthesis ∷ b → (ms ≡ ns) × (a ≡ b)
same_more nets [] [] a b fits all all-2 e = (refl, (cc))
same_more nets [] (n ∷ ns) a b fits all all-2 e = absurd (differ _ _ e refl)
same_more nets (m ∷ ms) [] a b fits all all-2 e = absurd (differ _ _ e refl)
same_more nets (m ∷ ms) (n ∷ ns) a b fits all all-2 e =
    let first : net_word m ≡ net_word n = cc in
    let rests : more_words ms ++ close_parenthesis ∷ a ≡ more_words ns ++ close_parenthesis ∷ b = cc in
    let rest = same_more nets ms ns a b fits (tail_below nets m ms all) (tail_below nets n ns all-2) rests in
    let same : m ≡ n = same_net nets m n fits (all 0 m refl) (all-2 0 n refl) first in
    (λ i. same i ∷ rest.0 i, rest.1)

-- terminals that are closed are told apart
pub same_closed : (nets : ℕ) (ms ns : List ChipNetId) (a b : List Word) → nets < 2 ^ 32 → AreNetsOf nets ms → AreNetsOf nets ns → closed_words ms ++ a ≡ closed_words ns ++ b → (ms ≡ ns) × (a ≡ b)
same_closed nets [] [] a b fits all all-2 e = (refl, (cc))
same_closed nets [] (n ∷ ns) a b fits all all-2 e = absurd (differ _ _ e refl)
same_closed nets (m ∷ ms) [] a b fits all all-2 e = absurd (differ _ _ e refl)
same_closed nets (m ∷ ms) (n ∷ ns) a b fits all all-2 e =
    let whole : net_word m ∷ (more_words ms ++ close_parenthesis ∷ a) ≡ net_word n ∷ (more_words ns ++ close_parenthesis ∷ b) =
    ap (λ ws. net_word m ∷ ws) (sym (append_assoc (more_words ms) (close_parenthesis ∷ []) a)) ∙ e ∙ ap (λ ws. net_word n ∷ ws) (append_assoc (more_words ns) (close_parenthesis ∷ []) b) in
    let first : net_word m ≡ net_word n = cc in
    let rests : more_words ms ++ close_parenthesis ∷ a ≡ more_words ns ++ close_parenthesis ∷ b = cc in
    let rest = same_more nets ms ns a b fits (tail_below nets m ms all) (tail_below nets n ns all-2) rests in
    let same : m ≡ n = same_net nets m n fits (all 0 m refl) (all-2 0 n refl) first in
    (λ i. same i ∷ rest.0 i, rest.1)

some_go : (room : Room) (pins : List ChipNetId) (mid : List Word) → IsRoom room → (0 < room.most → 0 < length pins) → GoesOn room (length pins) mid → 0 < length pins
some_go room pins mid is some (inl less) = (let order = is.order in some (omega arith))
some_go room pins mid is some (inr both) = (let less = both.0 in some (omega arith))

room_for : (room : Room) (pins : List ChipNetId) (mid : List Word) → IsRoom room → GoesOn room (length pins) mid → length pins < room.most
room_for room pins mid is (inl less) = (let order = is.order in omega arith)
room_for room pins mid is (inr both) = both.0

pub opened_holds : (room : Room) (before mid : List Word) (pins : List ChipNetId) (count : ℕ) → IsRoom room → Opened room before mid pins → count ≡ length pins → GoesOn room count mid → Holds (ArePins room) (IsNetBelow room.nets) closed_words (λ n. comma ∷ net_word n ∷ []) (open_words pins) mid
opened_holds room before mid pins count is opened size goes =
    let on : GoesOn room (length pins) mid = subst (λ k. GoesOn room k mid) size goes in
    listed_holds room pins mid is is.small (some_go room pins mid is opened.some on) opened.few opened.below on

-- one terminal more was taken
pub opened_more : (room : Room) (before mid after : List Word) (pins pushed : List ChipNetId) (n : ChipNetId) (count : ℕ) → IsRoom room → Opened room before mid pins → count ≡ length pins → GoesOn room count mid → IsNetBelow room.nets n × (mid ≡ (comma ∷ net_word n ∷ []) ++ after) → pushed ≡ pins ++ n ∷ [] → Opened room before after pushed
opened_more room before mid after pins pushed n count is opened size goes taken e =
    let on : GoesOn room (length pins) mid = subst (λ k. GoesOn room k mid) size goes in
    let some = some_go room pins mid is opened.some on in
    let less = room_for room pins mid is on in
    let sizes = length-append pins (n ∷ []) in
    subst (Opened room before after) (sym e) (record {
      split =
          opened.split ∙ ap (λ ws. open_words pins ++ ws) taken.1 ∙ sym (append_assoc (open_words pins) (comma ∷ net_word n ∷ []) after)
          ∙ ap (λ ws. ws ++ after) (sym (open_more pins n some));
      few = omega arith;
      some = λ there. omega arith;
      below = join_below room.nets pins (n ∷ []) opened.below (one_below room.nets n taken.0);
    })

pub opened_close : (room : Room) (before mid : List Word) (pins : List ChipNetId) (count : ℕ) → IsRoom room → Opened room before mid pins → count ≡ length pins → (GoesOn room count mid → ⊥) → Holds {B = Unit {0}} (ArePins room) (λ u. Unit {0}) closed_words (λ u. close_parenthesis ∷ []) (open_words pins) mid
opened_close room before mid pins count is opened size ends =
    close_holds room pins mid is.small opened.some opened.few opened.below (subst (λ k. GoesOn room k mid → ⊥) size ends)

closes_all : (ns : List ChipNetId) → closed_words ns ≡ open_words ns ++ (close_parenthesis ∷ [])
closes_all [] = refl
closes_all (n ∷ ns) = refl

pub opened_whole : (room : Room) (before mid after : List Word) (pins : List ChipNetId) (count : ℕ) → Opened room before mid pins → count ≡ length pins → (GoesOn room count mid → ⊥) → mid ≡ (close_parenthesis ∷ []) ++ after → ArePins room pins × (before ≡ closed_words pins ++ after)
opened_whole room before mid after pins count opened size ends e = (
  record { enough = enough_of (cases_lt (length pins) room.least); few = opened.few; below = opened.below },
  opened.split ∙ ap (λ ws. open_words pins ++ ws) e ∙ sym (append_assoc (open_words pins) (close_parenthesis ∷ []) after) ∙ ap (λ ws. ws ++ after) (sym (closes_all pins)),
) where
  enough_of : (length pins < room.least) ⊎ (room.least ≤ length pins) → room.least ≤ length pins
  enough_of (inl less) = absurd (ends (inl (omega (arith, size))))
  enough_of (inr enough) = enough
