-- An opening without fault is one of its design: inputs, states and words are there, and words fit.
use Rattle.std.proofs.Common.{◌≡◌, ℕ, zero, suc, ◌+◌, ◌<◌, ◌^◌, Bool, true, false, Option, Some, None, option_map, slice_get, List, [], ◌∷◌, map, get_or, length, refl, sym, ap, ◌∙◌, subst, arith, IsTrue, inl, inr}
use Rattle.std.specs.Prelude.{zip, find, bytes_eq, filter_map, is_none, nat_lt, Contains, if◌then◌else◌}
use Rattle.std.specs.List.{cons_option, enumerate_from}
use Rattle.std.specs.Option.{option_map_or}
use Rattle.std.proofs.lemmas.Bool.{cases_Bool, cond-true, cond-false, and_parts, ltb-true}
use Rattle.std.proofs.lemmas.Option.{same_Some, slice_get_within}
use Rattle.facts.proofs.Places.{at_contains, at_map}
use Rattle.id_arena.specs.declared.keys.ElemId.{ElemId}
use Rattle.design_core.specs.declared.element.Element.{Element}
use Rattle.design_core.specs.declared.element.Element.TheVariants as element
use Rattle.design_core.specs.declared.element.Memory.{Memory}
use Rattle.design_core.specs.declared.parts.Parts.{Parts}
use Rattle.domain_groups.specs.declared.openings.OpeningFault.{OpeningFault}
use Rattle.domain_groups.specs.declared.openings.OpeningFault.TheVariants.{BadValue, NoWord}
use Rattle.domain_groups.specs.GivenOpening.{GivenOpening, GivenWord}
use Rattle.domain_groups.specs.Openings.{PlainOpening, PlainWord, entries, entry_of, has_address, led_to, memory_at, opening_faults, plain_opening, plain_word, state_at, state_number, value_fault, width_of, word_fault}
use Rattle.domain_groups.specs.Values.{hex_number, is_value}
use Rattle.settled_model.specs.declared.opening.OpenWord.{OpenWord}
use Rattle.settled_model.specs.declared.opening.Opening.{Opening}
use Rattle.settled_model.specs.Opening.{AreElements, AreWords, IsWord}
use Rattle.event_replay.specs.Opened.{AreStates, plain_word_of}

-- what stands in a list of what things give, one of them gives
from_given : {X Y : Type 0} (give : X → Option Y) (xs : List X) (k : ℕ) (y : Y) → slice_get (filter_map give xs) k ≡ Some y → (j : ℕ) × (x : X) × (slice_get xs j ≡ Some x) × (give x ≡ Some y)
from_given give [] k y here = absurd (cc)
from_given {X} {Y} give (x ∷ xs) k y here = go (λ n there. from_given give xs n y there) (give x) refl k here
  where
    later : ((j : ℕ) × (z : X) × (slice_get xs j ≡ Some z) × (give z ≡ Some y)) → (j : ℕ) × (z : X) × (slice_get (x ∷ xs) j ≡ Some z) × (give z ≡ Some y)
    later found = (suc found.0, found.1, found.2, found.3)

    go : ((n : ℕ) → slice_get (filter_map give xs) n ≡ Some y → (j : ℕ) × (z : X) × (slice_get xs j ≡ Some z) × (give z ≡ Some y))
        → (o : Option Y) → give x ≡ o → (n : ℕ) → slice_get (cons_option (give x) (filter_map give xs)) n ≡ Some y → (j : ℕ) × (z : X) × (slice_get (x ∷ xs) j ≡ Some z) × (give z ≡ Some y)
    go rest None e n there = later (rest n (ap (λ o. slice_get (cons_option o (filter_map give xs)) n) (sym e) ∙ there))
    go rest (Some z) e zero there = (0, x, refl, e ∙ ap (λ o. slice_get (cons_option o (filter_map give xs)) 0) (sym e) ∙ there)
    go rest (Some z) e (suc n) there = later (rest n (ap (λ o. slice_get (cons_option o (filter_map give xs)) (suc n)) (sym e) ∙ there))

-- where there is no fault, no entry has one
none_has : {X Y : Type 0} (fault : X → Option Y) (xs : List X) (k : ℕ) (x : X) → filter_map fault xs ≡ [] → slice_get xs k ≡ Some x → fault x ≡ None
none_has fault [] k x none here = absurd (cc)
none_has {X} {Y} fault (y ∷ ys) k x none here = go (λ n before there. none_has fault ys n x before there) (fault y) refl k here
  where
    go : ((n : ℕ) → filter_map fault ys ≡ [] → slice_get ys n ≡ Some x → fault x ≡ None) → (o : Option Y) → fault y ≡ o → (n : ℕ) → slice_get (y ∷ ys) n ≡ Some x → fault x ≡ None
    go rest (Some f) e n there = absurd (let clash : f ∷ filter_map fault ys ≡ [] = sym (ap (λ o. cons_option o (filter_map fault ys)) e) ∙ none in cc)
    go rest None e zero there = (let same : y ≡ x = cc in ap fault (sym same) ∙ e)
    go rest None e (suc n) there = rest n (sym (ap (λ o. cons_option o (filter_map fault ys)) e) ∙ none) there

-- a path leads to the number of an element
led_from : (number : ℕ → Element → Option ℕ) (from : ℕ) (elements : List Element) (paths : List (List ℕ)) (path : List ℕ) (n : ℕ)
    → led_to (filter_map (entry_of number) (enumerate_from from (zip elements paths))) path ≡ Some n
    → (k : ℕ) × (e : Element) × (slice_get elements k ≡ Some e) × (number (from + k) e ≡ Some n)
led_from number from [] paths path n led = absurd (cc)
led_from number from (e ∷ es) [] path n led = absurd (cc)
led_from number from (e ∷ es) (q ∷ qs) path n led = go (λ there. led_from number (from + 1) es qs path n there) (number from e) refl
  where
    others : List (List ℕ × ℕ)
    others = filter_map (entry_of number) (enumerate_from (from + 1) (zip es qs))

    later : ((k : ℕ) × (x : Element) × (slice_get es k ≡ Some x) × (number (from + 1 + k) x ≡ Some n)) → (k : ℕ) × (x : Element) × (slice_get (e ∷ es) k ≡ Some x) × (number (from + k) x ≡ Some n)
    later found =
        let place : from + 1 + found.0 ≡ from + suc found.0 = omega arith in
        (suc found.0, found.1, found.2, ap (λ m. number m found.1) (sym place) ∙ found.3)

    go : (led_to others path ≡ Some n → (k : ℕ) × (x : Element) × (slice_get es k ≡ Some x) × (number (from + 1 + k) x ≡ Some n)) → (o : Option ℕ) → number from e ≡ o
        → (k : ℕ) × (x : Element) × (slice_get (e ∷ es) k ≡ Some x) × (number (from + k) x ≡ Some n)
    go rest None is = later (rest (ap (λ o. led_to (cons_option (option_map (λ (m : ℕ). (q, m)) o) others) path) (sym is) ∙ led))
    go rest (Some m) is =
        let here : led_to ((q, m) ∷ others) path ≡ Some n = ap (λ o. led_to (cons_option (option_map (λ (m : ℕ). (q, m)) o) others) path) (sym is) ∙ led in
        elim (cases_Bool (bytes_eq path q)) [
          | inl yes-q ↦
              (let first : Some m ≡ Some n = ap (option_map (λ (x : List ℕ × ℕ). x.1)) (sym (cond-true (bytes_eq path q) (Some (q, m)) (find (λ x. bytes_eq path x.0) others) yes-q)) ∙ here in
              let place : from ≡ from + 0 = omega arith in
              (0, e, refl, ap (λ k. number k e) (sym place) ∙ is ∙ first))
          | inr no-q ↦ later (rest (ap (option_map (λ (x : List ℕ × ℕ). x.1)) (sym (cond-false (bytes_eq path q) (Some (q, m)) (find (λ x. bytes_eq path x.0) others) no-q)) ∙ here))
        ]

-- the number of a flip-flop or latch is its own
pub own_number : (k n : ℕ) (e : Element) → state_number k e ≡ Some n → k ≡ n
own_number k n (element.Flop f) is = cc
own_number k n (element.Latch l) is = cc
own_number k n (element.Gate op inputs output) is = absurd (cc)
own_number k n (element.Memory m) is = absurd (cc)

-- a path of a flip-flop or latch leads to one
pub state_there : (p : Parts) (paths : List (List ℕ)) (path : List ℕ) (n : ℕ) → state_at p paths path ≡ Some n → (e : Element) × (slice_get p.elements n ≡ Some e) × (state_number n e ≡ Some n)
state_there p paths path n led =
    let found = led_from state_number 0 p.elements paths path n led in
    let zeroth : 0 + found.0 ≡ found.0 = omega arith in
    let is : state_number found.0 found.1 ≡ Some n = ap (λ k. state_number k found.1) (sym zeroth) ∙ found.3 in
    let same : found.0 ≡ n = own_number found.0 n found.1 is in
    (found.1, ap (slice_get p.elements) (sym same) ∙ found.2, ap (λ k. state_number k found.1) (sym same) ∙ is)

place_at : (ids : List ElemId) (k : ℕ) (x : ElemId) → slice_get ids k ≡ Some x → slice_get (map (λ (y : ElemId). y.place) ids) k ≡ Some x.place
place_at [] k x at = absurd (cc)
place_at (y ∷ ys) zero x at = (let is : y ≡ x = cc in ap (λ (z : ElemId). Some z.place) is)
place_at (y ∷ ys) (suc k) x at = place_at ys k x at

pub are_states : (p : Parts) (paths : List (List ℕ)) (given : List (List ℕ)) (ones : List ElemId) → map (λ id. id.place) ones ≡ filter_map (state_at p paths) given → AreStates p ones
are_states p paths given ones same id here =
    let at = at_contains ones id here in
    let from = from_given (state_at p paths) given at.0 id.place (ap (λ xs. slice_get xs at.0) (sym same) ∙ place_at ones at.0 id at.1) in
    state_there p paths from.1 id.place from.3

pub are_elements : (p : Parts) (paths : List (List ℕ)) (given : List (List ℕ)) (ones : List ElemId) → map (λ id. id.place) ones ≡ filter_map (state_at p paths) given → AreElements p ones
are_elements p paths given ones same id here =
    let there = are_states p paths given ones same id here in
    slice_get_within p.elements id.place there.0 there.1

-- a memory that has an address is there
address_there : (p : Parts) (m address : ℕ) → has_address p address m ≡ true → (memory : Memory) × (slice_get p.memories m ≡ Some memory) × (address < 2 ^ memory.address_bits)
address_there p m address has = go (slice_get p.memories m) refl
  where
    go : (o : Option Memory) → slice_get p.memories m ≡ o → (memory : Memory) × (slice_get p.memories m ≡ Some memory) × (address < 2 ^ memory.address_bits)
    go None e = absurd (let clash : false ≡ true = sym (ap (λ o. option_map_or (λ (x : Memory). nat_lt address (2 ^ x.address_bits)) o false) e) ∙ has in cc)
    go (Some memory) e = (memory, e, ltb-true address (2 ^ memory.address_bits) (sym (ap (λ o. option_map_or (λ (x : Memory). nat_lt address (2 ^ x.address_bits)) o false) e) ∙ has))

pub value_fits : (width : ℕ) (digits : List ℕ) → is_value width digits ≡ true → hex_number digits < 2 ^ width
unfolding is_value
value_fits width digits is = ltb-true _ _ (and_parts _ (nat_lt (hex_number digits) (2 ^ width)) is).1

no_value_fault : (name digits : List ℕ) (width : ℕ) → value_fault name digits width ≡ None → is_value width digits ≡ true
no_value_fault name digits width none = go (is_value width digits) refl
  where
    go : (b : Bool) → is_value width digits ≡ b → is_value width digits ≡ true
    go true e = e
    go false e = absurd (let clash : Some (BadValue name) ≡ None = sym (ap (λ (b : Bool). if b then None else Some (BadValue name)) e) ∙ none in cc)

-- an entry without fault gives a word of the design
word_there : (p : Parts) (memory : List ℕ → Option ℕ) (given : GivenWord) (m : ℕ) → memory given.path ≡ Some m → word_fault p memory given ≡ None
    → (x : Memory) × (slice_get p.memories m ≡ Some x) × (given.address < 2 ^ x.address_bits) × (hex_number given.digits < 2 ^ x.width)
word_there p memory given m led none = go (has_address p given.address m) refl
  where
    checked : Bool → Option OpeningFault
    checked b = if b then value_fault given.path given.digits (width_of p m) else Some (NoWord given.path)

    told : checked (has_address p given.address m) ≡ None
    told = ap (λ o. option_map_or (λ (k : ℕ). if has_address p given.address k then value_fault given.path given.digits (width_of p k) else Some (NoWord given.path)) o (Some (NoWord given.path))) (sym led) ∙ none

    go : (b : Bool) → has_address p given.address m ≡ b → (x : Memory) × (slice_get p.memories m ≡ Some x) × (given.address < 2 ^ x.address_bits) × (hex_number given.digits < 2 ^ x.width)
    go false e = absurd (let clash : Some (NoWord given.path) ≡ None = ap checked (sym e) ∙ told in cc)
    go true e =
        let there = address_there p m given.address e in
        let value = no_value_fault given.path given.digits (width_of p m) (ap checked (sym e) ∙ told) in
        let width : width_of p m ≡ there.0.width = ap (λ o. option_map_or (λ (x : Memory). x.width) o 0) there.1 in
        (there.0, there.1, there.2, subst (λ w. hex_number given.digits < 2 ^ w) width (value_fits (width_of p m) given.digits value))

pub are_words : (p : Parts) (memory : List ℕ → Option ℕ) (given : List GivenWord) (words : List OpenWord) → filter_map (word_fault p memory) given ≡ [] → map plain_word_of words ≡ filter_map (plain_word memory) given → AreWords p words
are_words p memory given words sound same w here =
    let at = at_contains words w here in
    let placed : slice_get (map plain_word_of words) at.0 ≡ Some (plain_word_of w) = map_at words at.0 w at.1 in
    let from = from_given (plain_word memory) given at.0 (plain_word_of w) (ap (λ xs. slice_get xs at.0) (sym same) ∙ placed) in
    let none = none_has (word_fault p memory) given from.0 from.1 sound from.2 in
    go from.1 none (memory from.1.path) refl from.3
  where
    map_at : (ws : List OpenWord) (k : ℕ) (x : OpenWord) → slice_get ws k ≡ Some x → slice_get (map plain_word_of ws) k ≡ Some (plain_word_of x)
    map_at [] k x at = absurd (cc)
    map_at (y ∷ ys) zero x at = (let is : y ≡ x = cc in ap (λ (z : OpenWord). Some (plain_word_of z)) is)
    map_at (y ∷ ys) (suc k) x at = map_at ys k x at

    go : (g : GivenWord) → word_fault p memory g ≡ None → (o : Option ℕ) → memory g.path ≡ o → plain_word memory g ≡ Some (plain_word_of w) → IsWord p w
    go g none None e is = absurd (let clash : None ≡ Some (plain_word_of w) = sym (ap (option_map (λ (m : ℕ). plain_of g m)) e) ∙ is in cc)
      where
        plain_of : GivenWord → ℕ → PlainWord
        plain_of h m = record { mem = m; address = h.address; value = hex_number h.digits }
    go g none (Some m) e is =
        let plain_is : Some (plain_of m) ≡ Some (plain_word_of w) = sym (ap (option_map plain_of) e) ∙ is in
        let one : plain_of m ≡ plain_word_of w = same_Some _ _ plain_is in
        let mem : m ≡ w.mem.place = ap (λ (x : PlainWord). x.mem) one in
        let address : g.address ≡ w.address = ap (λ (x : PlainWord). x.address) one in
        let value : hex_number g.digits ≡ w.value = ap (λ (x : PlainWord). x.value) one in
        let there = word_there p memory g m e none in
        (there.0, ap (slice_get p.memories) (sym mem) ∙ there.1, subst (λ a. a < 2 ^ there.0.address_bits) address there.2, subst (λ v. v < 2 ^ there.0.width) value there.3)
      where
        plain_of : ℕ → PlainWord
        plain_of m = record { mem = m; address = g.address; value = hex_number g.digits }
