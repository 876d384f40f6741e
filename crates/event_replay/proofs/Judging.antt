-- The first fault of the three lists of an opening, and what they give together.
use Rattle.std.proofs.Common.{◌≡◌, ℕ, true, ◌++◌, Option, Some, None, List, [], ◌∷◌, map, slice_get, refl, sym, ap, ◌∙◌, subst, Result, Ok, Err, IfOk}
use Rattle.std.specs.Prelude.{filter_map, flat_map}
use Rattle.std.proofs.lemmas.Map.Views.{Contains-from_any}
use Rattle.facts.proofs.Tests.{number_same}
use Rattle.id_arena.specs.declared.keys.ElemId.{ElemId}
use Rattle.design_core.specs.declared.parts.Parts.{Parts}
use Rattle.design_core.specs.declared.parts.Port.{Port}
use Rattle.design_core.specs.declared.values.PortBit.{PortBit}
use Rattle.design_core.specs.Design.{IsDesign, is_net, port_bits}
use Rattle.id_arena.specs.declared.keys.NetId.{NetId}
use Rattle.design_core.specs.Names.{IsNamed}
use Rattle.history_law.specs.Drivers.{InputIsInputBit}
use Rattle.settled_model.specs.declared.opening.OpenWord.{OpenWord}
use Rattle.settled_model.specs.declared.opening.Opening.{Opening}
use Rattle.settled_model.specs.Opening.{AreInputs, Opens}
use Rattle.domain_groups.specs.declared.openings.OpeningFault.{OpeningFault}
use Rattle.domain_groups.specs.declared.openings.OpeningFault.TheVariants.{NotJson, BadShape, NoPort, BadValue, NoState, NoWord, NoMemory}
use Rattle.domain_groups.specs.GivenOpening.{GivenOpening, GivenValue, GivenWord}
use Rattle.domain_groups.specs.Openings.{ArePaths, OpeningAnswers, PlainOpening, TellsOpening, entries, input_fault, input_values, led_to, memory_at, memory_number, opening_faults, plain_opening, plain_word, state_at, state_fault, state_number, word_fault}
use Rattle.domain_groups.proofs.OnePath.{paths_there}
use Rattle.event_replay.specs.declared.path_names.Kind.TheVariants.{State, Memory}
use Rattle.event_replay.specs.Checks.{AreApart, Checks, Judged, first_of}
use Rattle.event_replay.specs.Opened.{AreStates, plain, plain_word_of}
use Rattle.event_replay.specs.PathIndex.{Indexes, LeadAlike}
use Rattle.event_replay.specs.Settings.{AreInputBits}
use Rattle.event_replay.proofs.GivenInputs.{inputs_set}
use Rattle.event_replay.proofs.InputBits.{input_bits}
use Rattle.event_replay.proofs.Opened.{are_elements, are_states, are_words}
use Rattle.event_replay.proofs.Sifting.{Tells, early_first, first_none, later_first, none_first, same_check}

abbrev pub Entries : Type 0
Entries = List (List ℕ × ℕ)

-- lists that lead alike are one as functions of paths
same_way : (xs ys : Entries) → LeadAlike xs ys → led_to xs ≡ led_to ys
same_way xs ys alike = λ i path. alike path i

-- the three lists of faults
abbrev inputs_faults : Parts → GivenOpening → List OpeningFault
inputs_faults p given = filter_map (input_fault p.inputs) given.inputs

abbrev ones_faults : Entries → GivenOpening → List OpeningFault
ones_faults states given = filter_map (state_fault (led_to states)) given.ones

abbrev words_faults : Parts → Entries → GivenOpening → List OpeningFault
words_faults p memories given = filter_map (word_fault p (led_to memories)) given.words

module _ (p : Parts) (given : GivenOpening) (paths : List (List ℕ)) where
  in_inputs : (f : OpeningFault) → first_of (inputs_faults p given) ≡ Some f → first_of (opening_faults p paths given) ≡ Some f
  unfolding opening_faults
  in_inputs f here = early_first (inputs_faults p given ++ filter_map (state_fault (state_at p paths)) given.ones) _ f (early_first (inputs_faults p given) _ f here)

  in_ones : (states : Entries) (f : OpeningFault) → led_to states ≡ state_at p paths → first_of (inputs_faults p given) ≡ None → first_of (ones_faults states given) ≡ Some f → first_of (opening_faults p paths given) ≡ Some f
  unfolding opening_faults
  in_ones states f way none here =
      early_first (inputs_faults p given ++ filter_map (state_fault (state_at p paths)) given.ones) _ f
      (later_first (inputs_faults p given) _ (none_first (inputs_faults p given) none) ∙ ap (λ s. first_of (filter_map (state_fault s) given.ones)) (sym way) ∙ here)

  in_words : (states memories : Entries) (o : Option OpeningFault) → led_to states ≡ state_at p paths → led_to memories ≡ memory_at p paths → first_of (inputs_faults p given) ≡ None → first_of (ones_faults states given) ≡ None
      → first_of (words_faults p memories given) ≡ o → first_of (opening_faults p paths given) ≡ o
  unfolding opening_faults
  in_words states memories o way way-2 none none-2 here =
      later_first (inputs_faults p given ++ filter_map (state_fault (state_at p paths)) given.ones) _
      (none_first _ (later_first (inputs_faults p given) _ (none_first (inputs_faults p given) none) ∙ ap (λ s. first_of (filter_map (state_fault s) given.ones)) (sym way) ∙ none-2))
      ∙ ap (λ m. first_of (filter_map (word_fault p m) given.words)) (sym way-2) ∙ here

  plain_is : (states memories : Entries) (o : Opening) → led_to states ≡ state_at p paths → led_to memories ≡ memory_at p paths
      → o.inputs ≡ flat_map (input_values p.inputs) given.inputs
      → map (λ id. id.place) o.ones ≡ filter_map (led_to states) given.ones
      → map plain_word_of o.words ≡ filter_map (plain_word (led_to memories)) given.words
      → plain o ≡ plain_opening p paths given
  unfolding plain_opening
  plain_is states memories o way way-2 inputs ones words =
      let ones-2 = ones ∙ ap (λ s. filter_map s given.ones) way in
      let words-2 = words ∙ ap (λ m. filter_map (plain_word m) given.words) way-2 in
      λ i. record { inputs = inputs i; ones = ones-2 i; words = words-2 i }

module _ (p : Parts) (given : GivenOpening) (named : IsNamed p) where
  -- no memory
  pub no_room : (r : Result Opening OpeningFault) → r ≡ Err NoMemory → Judged p given r
  no_room r same = (let there = paths_there p named in (there.0, there.1, subst (Checks _ _) (sym same) tt))

  told_by : (r : Result Opening OpeningFault) (f : OpeningFault) (one : Option OpeningFault) → r ≡ Err f → ((paths : List (List ℕ)) → ArePaths p paths → (g : OpeningFault) → one ≡ Some g → first_of (opening_faults p paths given) ≡ Some g) → Tells one f → Judged p given r
  told_by r f one same over check =
      let there = paths_there p named in
      (there.0, there.1, subst (Checks _ _) (sym same) (same_check one (first_of (opening_faults p there.0 given)) (λ (o : Opening). plain o ≡ plain_opening p there.0 given) f (over there.0 there.1) check))

  -- a fault of the inputs
  pub inputs_fail : (r : Result Opening OpeningFault) (f : OpeningFault) → r ≡ Err f → Tells (first_of (inputs_faults p given)) f → Judged p given r
  inputs_fail r f same check = told_by r f (first_of (inputs_faults p given)) same (λ paths are g here. in_inputs p given paths g here) check

  module _ (states : Entries) (leads : Indexes p State states) (none : first_of (inputs_faults p given) ≡ None) where
    -- a fault of the states
    pub ones_fail : (r : Result Opening OpeningFault) (f : OpeningFault) → r ≡ Err f → Tells (first_of (ones_faults states given)) f → Judged p given r
    ones_fail r f same check = told_by r f (first_of (ones_faults states given)) same (λ paths are g here. in_ones p given paths states g (same_way states _ (leads paths are)) none here) check

    module _ (none-2 : first_of (ones_faults states given) ≡ None) (memories : Entries) (leads-2 : Indexes p Memory memories) where
      -- a fault of the words
      pub words_fail : (r : Result Opening OpeningFault) (f : OpeningFault) → r ≡ Err f → Tells (first_of (words_faults p memories given)) f → Judged p given r
      words_fail r f same check =
          told_by r f (first_of (words_faults p memories given)) same
          (λ paths are g here. in_words p given paths states memories (Some g) (same_way states _ (leads paths are)) (same_way memories _ (leads-2 paths are)) none none-2 here) check

      -- no fault
      pub all_given : (o : Opening) → first_of (words_faults p memories given) ≡ None
          → o.inputs ≡ flat_map (input_values p.inputs) given.inputs
          → map (λ id. id.place) o.ones ≡ filter_map (led_to states) given.ones
          → map plain_word_of o.words ≡ filter_map (plain_word (led_to memories)) given.words
          → Judged p given (Ok o)
      all_given o none-3 inputs ones words =
          let there = paths_there p named in
          let way = same_way states _ (leads there.0 there.1) in
          let way-2 = same_way memories _ (leads-2 there.0 there.1) in
          (there.0, there.1, (in_words p given there.0 states memories None way way-2 none none-2 none-3, plain_is p given there.0 states memories o way way-2 inputs ones words))

-- the lists of faults, as they are found
pub moved : (one other : Option OpeningFault) (f : OpeningFault) → one ≡ other → Tells one f → Tells other f
moved one other f same = subst (λ o. Tells o f) same

pub inputs_are : (p : Parts) (given : GivenOpening) (ports : List Port) (inputs : List GivenValue) → ports ≡ p.inputs → inputs ≡ given.inputs → first_of (filter_map (input_fault ports) inputs) ≡ first_of (inputs_faults p given)
inputs_are p given ports inputs same same-2 = ap (λ ps. first_of (filter_map (input_fault ps) inputs)) same ∙ ap (λ gs. first_of (filter_map (input_fault p.inputs) gs)) same-2

pub values_are : (p : Parts) (given : GivenOpening) (ports : List Port) (inputs : List GivenValue) → ports ≡ p.inputs → inputs ≡ given.inputs → flat_map (input_values ports) inputs ≡ flat_map (input_values p.inputs) given.inputs
values_are p given ports inputs same same-2 = ap (λ ps. flat_map (input_values ps) inputs) same ∙ ap (λ gs. flat_map (input_values p.inputs) gs) same-2

-- the answer about what a text tells is the answer about the text
pub answers : (p : Parts) (bytes : List ℕ) (given : GivenOpening) (r : Result Opening OpeningFault) → TellsOpening bytes given → Judged p given r → OpeningAnswers plain p bytes r
answers p bytes given (Ok o) told j = record { given = given; told = told; paths = j.0; are_paths = j.1; sound = none_first _ j.2.0; gives = j.2.1 }
answers p bytes given (Err NotJson) told j = absurd j.2
answers p bytes given (Err BadShape) told j = absurd j.2
answers p bytes given (Err (NoPort name)) told j = record { given = given; told = told; paths = j.0; are_paths = j.1; first = j.2 }
answers p bytes given (Err (BadValue name)) told j = record { given = given; told = told; paths = j.0; are_paths = j.1; first = j.2 }
answers p bytes given (Err (NoState path)) told j = record { given = given; told = told; paths = j.0; are_paths = j.1; first = j.2 }
answers p bytes given (Err (NoWord path)) told j = record { given = given; told = told; paths = j.0; are_paths = j.1; first = j.2 }
answers p bytes given (Err NoMemory) told j = tt

-- nets of one number are the same
same_net : (a b : NetId) → is_net a.place b ≡ true → a ≡ b
same_net a b is = (let places : b.place ≡ a.place = number_same b.place a.place is in ap (λ (k : ℕ). record { place = k }) (sym places))

-- an opening that was read is one of the design
pub record Sound (p : Parts) (o : Opening) : Type 0 where
  pub opens : Opens p o
  pub bits : AreInputBits p o.inputs
  pub states : AreStates p o.ones

sound : (p : Parts) (given : GivenOpening) (o : Opening) (paths : List (List ℕ)) → IsDesign p → InputIsInputBit → AreApart given.inputs → opening_faults p paths given ≡ [] → plain o ≡ plain_opening p paths given → Sound p o
unfolding opening_faults plain_opening
sound p given o paths design is_bit apart none is =
    let inputs : o.inputs ≡ flat_map (input_values p.inputs) given.inputs = ap (λ (x : PlainOpening). x.inputs) is in
    let ones : map (λ (id : ElemId). id.place) o.ones ≡ filter_map (state_at p paths) given.ones = ap (λ (x : PlainOpening). x.ones) is in
    let words : map plain_word_of o.words ≡ filter_map (plain_word (memory_at p paths)) given.words = ap (λ (x : PlainOpening). x.words) is in
    let bits = input_bits p o.inputs design (inputs_set p.inputs given.inputs o.inputs apart inputs) in
    let last = split_empty (filter_map (input_fault p.inputs) given.inputs ++ filter_map (state_fault (state_at p paths)) given.ones) (filter_map (word_fault p (memory_at p paths)) given.words) none in
    record {
      opens = record {
        inputs = λ b here. Contains-from_any {eq = λ a. is_net a.place} same_net b.net (port_bits p.inputs) (is_bit p b.net.place (bits.inputs b here));
        ones = are_elements p paths given.ones o.ones ones;
        words = are_words p (memory_at p paths) given.words o.words last.1 words;
      };
      bits = bits;
      states = are_states p paths given.ones o.ones ones;
    }
  where
    split_empty : (xs ys : List OpeningFault) → xs ++ ys ≡ [] → (xs ≡ []) × (ys ≡ [])
    split_empty [] ys e = (refl, e)
    split_empty (x ∷ xs) ys e = absurd (cc)

pub if_sound : (p : Parts) (given : GivenOpening) (r : Result Opening OpeningFault) → IsDesign p → InputIsInputBit → AreApart given.inputs → Judged p given r → IfOk r (Sound p)
if_sound p given (Ok o) design is_bit apart j = sound p given o j.0 design is_bit apart (none_first _ j.2.0) j.2.1
if_sound p given (Err f) design is_bit apart j = tt
