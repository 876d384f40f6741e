-- A text of events has one answer: a line tells one event or has one fault, and never both.
use Rattle.std.proofs.Common.{◌≡◌, ◌≢◌, ◌⊎◌, ℕ, ◌+◌, ◌<◌, ◌≤◌, ◌==◌, Bool, true, false, cond, Option, Some, None, option_map, slice_get, List, [], ◌∷◌, ◌++◌, length, count_by, Result, Ok, Err, inl, inr, refl, sym, ap, ◌∙◌, subst, arith}
use Rattle.std.specs.List.{AllZip, list_any}
use Rattle.std.specs.Option.{option_map_or}
use Rattle.std.proofs.lemmas.Bool.{true≢false, eq-eqb, cond-true, or_right}
use Rattle.std.proofs.lemmas.List.Sums.{sum_by-cons, sum_by-append}
use Rattle.std.proofs.lemmas.Option.{same_Some}
use Rattle.id_arena.specs.declared.keys.NetId.{NetId}
use Rattle.design_core.specs.declared.parts.Port.{Port}
use Rattle.design_core.specs.declared.values.Event.{Event}
use Rattle.design_core.specs.declared.values.PortBit.{PortBit}
use Rattle.design_core.specs.Influence.{Group}
use Rattle.domain_groups.specs.declared.events.EventFault.{EventFault}
use Rattle.domain_groups.specs.declared.events.EventFault.TheVariants.{BadLine, NoGroup, NoPort, PortTwice, BadValue, NoMemory}
use Rattle.domain_groups.specs.Events.{WordSets, WordsSet, HasWords, IsOfGroup, TellsEvent, HasNoGroup, HasWord, IsNoPort, IsPort, LineHas, LinesTell, HasEventFault, EventAnswers, EachRecordingHasOneAnswer, are_inside, group_named}
use Rattle.domain_groups.specs.Groups.{InputGroups, frames}
use Rattle.domain_groups.specs.Lines.{IsParted, event_lines, has_equals, is_bad, is_equals}
use Rattle.domain_groups.specs.Ports.{port_named, nets_at}
use Rattle.domain_groups.specs.Settings.{Setting, Sets, EachOnce, bits_set, times_set}
use Rattle.domain_groups.specs.Values.{is_value}
use Rattle.domain_groups.proofs.Zips.{zip_partner, zip_unique, zip_front}

-- ## Words

ends_in_equals : (n d : List ℕ) → has_equals (n ++ 61 ∷ d) ≡ true
ends_in_equals [] d = refl
ends_in_equals (x ∷ n) d = or_right (is_equals x) (has_equals (n ++ 61 ∷ d)) (ends_in_equals n d)

-- a word is parted in one way
parted_once : (n m d e : List ℕ) → n ++ 61 ∷ d ≡ m ++ 61 ∷ e → has_equals d ≡ false → has_equals e ≡ false → (n ≡ m) × (d ≡ e)
parted_once [] [] d e same none-d none-e = (refl, (cc))
parted_once [] (x ∷ m) d e same none-d none-e = (let rest : d ≡ m ++ 61 ∷ e = cc in absurd (true≢false (sym (ends_in_equals m e) ∙ ap has_equals (sym rest) ∙ none-d)))
parted_once (x ∷ n) [] d e same none-d none-e = (let rest : n ++ 61 ∷ d ≡ e = cc in absurd (true≢false (sym (ends_in_equals n d) ∙ ap has_equals rest ∙ none-e)))
parted_once (x ∷ n) (y ∷ m) d e same none-d none-e =
    let rest : n ++ 61 ∷ d ≡ m ++ 61 ∷ e = cc in
    let parts = parted_once n m d e rest none-d none-e in
    let first : x ≡ y = cc in
    ((λ i. first i ∷ parts.0 i), parts.1)

pub same_parts : (word n m d e : List ℕ) → IsParted word n d → IsParted word m e → (n ≡ m) × (d ≡ e)
same_parts word n m d e a b = parted_once n m d e (sym a.parts ∙ b.parts) a.last b.last

-- a name and digits set one port in one way
pub one_setting : (ports : List Port) (name digits : List ℕ) (s t : Setting) → Sets ports name digits s → Sets ports name digits t → s ≡ t
one_setting ports name digits s t a b =
    let places : Some s.port ≡ Some t.port = sym a.named ∙ b.named in
    let port : s.port ≡ t.port = cc in
    let nets_are : Some s.nets ≡ Some t.nets = sym a.nets ∙ ap (λ k. option_map (λ p. p.nets) (slice_get ports k)) port ∙ b.nets in
    let nets : s.nets ≡ t.nets = cc in
    let number : s.number ≡ t.number = a.number ∙ sym b.number in
    λ i. record { port = port i; nets = nets i; number = number i }

-- a word sets one port in one way
pub one_word : (ports : List Port) (group : Group) (word : List ℕ) (s t : Setting) → WordSets ports group word s → WordSets ports group word t → s ≡ t
one_word ports group word s t a b =
    let same = same_parts word a.name b.name a.digits b.digits a.parted b.parted in
    one_setting ports b.name b.digits s t (subst (λ n. Sets ports n b.digits s) same.0 (subst (λ d. Sets ports a.name d s) same.1 a.sets)) b.sets

-- ## Where two lists begin alike

-- the first that ends in an element, and the second in another, at the same place or one before the other
data Compared {X : Type 0} (xs : List X) (a : X) (bs cs : List X) (c : X) (ds : List X) : Type 0 where
  alike : xs ≡ cs → a ≡ c → bs ≡ ds → Compared xs a bs cs c ds
  shorter : (more : List X) → cs ≡ xs ++ a ∷ more → Compared xs a bs cs c ds
  longer : (more : List X) → xs ≡ cs ++ c ∷ more → Compared xs a bs cs c ds

compare : {X : Type 0} (xs : List X) (a : X) (bs cs : List X) (c : X) (ds : List X) → xs ++ a ∷ bs ≡ cs ++ c ∷ ds → Compared xs a bs cs c ds
compare [] a bs [] c ds same = alike refl (cc) (cc)
compare [] a bs (y ∷ cs) c ds same = shorter cs (let first : a ≡ y = cc in ap (λ x. x ∷ cs) (sym first))
compare (x ∷ xs) a bs [] c ds same = longer xs (let first : x ≡ c = cc in ap (λ z. z ∷ xs) first)
compare {X} (x ∷ xs) a bs (y ∷ cs) c ds same = go (compare xs a bs cs c ds (cc))
  where
    first : x ≡ y
    first = cc

    go : Compared xs a bs cs c ds → Compared (x ∷ xs) a bs (y ∷ cs) c ds
    go (alike front here back) = alike (λ i. first i ∷ front i) here back
    go (shorter more is) = shorter more (ap (λ z. z ∷ cs) (sym first) ∙ ap (λ rest. x ∷ rest) is)
    go (longer more is) = longer more (ap (λ z. z ∷ xs) first ∙ ap (λ rest. y ∷ rest) is)

-- ## The fault of a word

-- what is wrong with a word of these parts behind these settings, in the line of this number
data Fails (ports : List Port) (group : Group) (before : List Setting) (name digits : List ℕ) (number : ℕ) : EventFault → Type 0 where
  no_port : IsNoPort ports group name → Fails ports group before name digits number (NoPort number)
  twice : (port : ℕ) → IsPort ports group name port → 0 < times_set port before → Fails ports group before name digits number (PortTwice number)
  wrong : (port : ℕ) → IsPort ports group name port → times_set port before ≡ 0 → is_value (length (nets_at ports port)) digits ≡ false
      → Fails ports group before name digits number (BadValue number)

pub nets_found : (o : Option Port) (nets : List NetId) → option_map (λ port. port.nets) o ≡ Some nets → option_map_or (λ port. port.nets) o [] ≡ nets
nets_found None nets here = absurd (cc)
nets_found (Some port) nets here = same_Some port.nets nets here

count_twice : (port : ℕ) (s : Setting) (before more : List Setting) → s.port ≡ port → 0 < times_set port before → times_set port (before ++ s ∷ more) ≤ 1 → ⊥
count_twice port s before more same some few =
    let both = sum_by-append (λ (t : Setting). cond {A = ℕ} (t.port == port) 1 0) before (s ∷ more) in
    let first = sum_by-cons (λ (t : Setting). cond {A = ℕ} (t.port == port) 1 0) s more in
    let one : cond {A = ℕ} (s.port == port) 1 0 ≡ 1 = cond-true (s.port == port) 1 0 (eq-eqb s.port port same) in
    omega (arith, both, first, one, some, few)

module _ (ports : List Port) (group : Group) where
  same_port : (name : List ℕ) (p q : ℕ) → port_named ports name ≡ Some p → port_named ports name ≡ Some q → p ≡ q
  same_port name p q a b = same_Some p q (sym a ∙ b)

  -- a word that fails sets no port behind these settings
  fails_alone : (name digits : List ℕ) (number : ℕ) (f : EventFault) (before more : List Setting) (s : Setting)
      → Sets ports name digits s → are_inside group s.nets ≡ true → EachOnce (before ++ s ∷ more) → Fails ports group before name digits number f → ⊥
  fails_alone name digits number f before more s sets inside once (no_port none) =
      true≢false (sym inside ∙ ap (are_inside group) (sym (nets_found (slice_get ports s.port) s.nets sets.nets)) ∙ none s.port sets.named)
  fails_alone name digits number f before more s sets inside once (twice port is some) =
      count_twice port s before more (same_port name s.port port sets.named is.named) some (once port)
  fails_alone name digits number f before more s sets inside once (wrong port is none bad) =
      let same : s.port ≡ port = same_port name s.port port sets.named is.named in
      let nets : nets_at ports port ≡ s.nets = ap (nets_at ports) (sym same) ∙ nets_found (slice_get ports s.port) s.nets sets.nets in
      true≢false (sym sets.value ∙ ap (λ (ns : List NetId). is_value (length ns) digits) (sym nets) ∙ bad)

  -- a word that fails is not among words that set ports
  not_set : (done : List (List ℕ)) (word : List ℕ) (rest : List (List ℕ)) (before all : List Setting) (name digits : List ℕ) (number : ℕ) (f : EventFault)
      → WordsSet ports group done before → IsParted word name digits → Fails ports group before name digits number f
      → WordsSet ports group (done ++ word ∷ rest) all → ⊥
  not_set done word rest before all name digits number f set parted fails whole =
      let partner = zip_partner (WordSets ports group) done word rest all whole.each in
      let s = partner.0 in
      let here = partner.1 in
      let front = zip_front (WordSets ports group) (one_word ports group) done word rest before s all set.each here whole.each in
      let same = same_parts word here.name name here.digits digits here.parted parted in
      let sets = subst (λ n. Sets ports n digits s) same.0 (subst (λ d. Sets ports here.name d s) same.1 here.sets) in
      fails_alone name digits number f before front.0 s sets here.inside (subst EachOnce front.1 whole.once) fails

  -- a word fails in one way
  one_fail : (before : List Setting) (name digits : List ℕ) (number : ℕ) (f g : EventFault)
      → Fails ports group before name digits number f → Fails ports group before name digits number g → f ≡ g
  one_fail before name digits number f g (no_port a) (no_port b) = refl
  one_fail before name digits number f g (no_port a) (twice p is some) = absurd (true≢false (sym is.inside ∙ a p is.named))
  one_fail before name digits number f g (no_port a) (wrong p is none bad) = absurd (true≢false (sym is.inside ∙ a p is.named))
  one_fail before name digits number f g (twice q it more) (no_port b) = absurd (true≢false (sym it.inside ∙ b q it.named))
  one_fail before name digits number f g (twice q it more) (twice p is some) = refl
  one_fail before name digits number f g (twice q it more) (wrong p is none bad) =
      let same : q ≡ p = same_port name q p it.named is.named in
      let some : 0 < times_set p before = subst (λ k. 0 < times_set k before) same more in absurd (omega (arith, some, none))
  one_fail before name digits number f g (wrong q it zero_is bad) (no_port b) = absurd (true≢false (sym it.inside ∙ b q it.named))
  one_fail before name digits number f g (wrong q it zero_is bad) (twice p is some) =
      let same : p ≡ q = same_port name p q is.named it.named in
      let more : 0 < times_set q before = subst (λ k. 0 < times_set k before) same some in absurd (omega (arith, more, zero_is))
  one_fail before name digits number f g (wrong q it zero_is bad) (wrong p is none other) = refl

-- ## The fault of a line

-- among the further words of a line, which set ports up to one, this one fails
record WordFails (ports : List Port) (group : Group) (number : ℕ) (further : List (List ℕ)) (f : EventFault) : Type 0 where
  done : List (List ℕ)
  word : List ℕ
  rest : List (List ℕ)
  are : further ≡ done ++ word ∷ rest
  before : List Setting
  set : WordsSet ports group done before
  name : List ℕ
  digits : List ℕ
  parted : IsParted word name digits
  fails : Fails ports group before name digits number f

one_word_fails : (ports : List Port) (group : Group) (number : ℕ) (further : List (List ℕ)) (f g : EventFault)
    → WordFails ports group number further f → WordFails ports group number further g → f ≡ g
one_word_fails ports group number further f g a b = go (compare a.done a.word a.rest b.done b.word b.rest (sym a.are ∙ b.are))
  where
    go : Compared a.done a.word a.rest b.done b.word b.rest → f ≡ g
    go (alike front here back) =
        let settings : a.before ≡ b.before =
        zip_unique (WordSets ports group) (one_word ports group) b.done a.before b.before (subst (λ ws. AllZip (WordSets ports group) ws a.before) front a.set.each) b.set.each in
        let same = same_parts b.word a.name b.name a.digits b.digits (subst (λ w. IsParted w a.name a.digits) here a.parted) b.parted in
        let moved = subst (λ (ss : List Setting). Fails ports group ss b.name b.digits number f) settings
        (subst (λ n. Fails ports group a.before n b.digits number f) same.0 (subst (λ d. Fails ports group a.before a.name d number f) same.1 a.fails)) in
        one_fail ports group b.before b.name b.digits number f g moved b.fails
    go (shorter more is) =
        absurd (not_set ports group a.done a.word more a.before b.before a.name a.digits number f a.set a.parted a.fails (subst (λ ws. WordsSet ports group ws b.before) is b.set))
    go (longer more is) =
        absurd (not_set ports group b.done b.word more b.before a.before b.name b.digits number g b.set b.parted b.fails (subst (λ ws. WordsSet ports group ws a.before) is a.set))

-- the three things that may be wrong with the line of this number
data LineFails (v : InputGroups) (ports : List Port) (number : ℕ) (line : List ℕ) : EventFault → Type 0 where
  bad : is_bad line ≡ true → LineFails v ports number line (BadLine number)
  none : HasNoGroup v line → LineFails v ports number line (NoGroup number)
  word : (f : EventFault) (place : ℕ) (group : Group) (further : List (List ℕ)) → IsOfGroup v line place group further → WordFails ports group number further f → LineFails v ports number line f

fails_in : (v : InputGroups) (ports : List Port) (number : ℕ) (line : List ℕ) (group : Group) (before : List Setting) (name digits : List ℕ) (f : EventFault)
    → HasWord v ports line group before name digits → Fails ports group before name digits number f → LineFails v ports number line f
fails_in v ports number line group before name digits f here fails =
    word f here.place group (here.done ++ here.word ∷ here.rest) here.of_group
    (record { done = here.done; word = here.word; rest = here.rest; are = refl; before = before; set = here.set; name = name; digits = digits; parted = here.parted; fails = fails })

line_fails : (v : InputGroups) (ports : List Port) (number : ℕ) (line : List ℕ) (f : EventFault) → LineHas v ports number line f → LineFails v ports number line f
line_fails v ports number line (BadLine at) h = subst (λ n. LineFails v ports number line (BadLine n)) (sym h.0) (bad h.1)
line_fails v ports number line (NoGroup at) h = subst (λ n. LineFails v ports number line (NoGroup n)) (sym h.0) (none h.1)
line_fails v ports number line (NoPort at) (same, h) =
    subst (λ n. LineFails v ports number line (NoPort n)) (sym same) (fails_in v ports number line h.group h.before h.name h.digits (NoPort number) h.here (no_port h.none))
line_fails v ports number line (PortTwice at) (same, h) =
    subst (λ n. LineFails v ports number line (PortTwice n)) (sym same) (fails_in v ports number line h.group h.before h.name h.digits (PortTwice number) h.here (twice h.port h.is_port h.again))
line_fails v ports number line (BadValue at) (same, h) =
    subst (λ n. LineFails v ports number line (BadValue n)) (sym same) (fails_in v ports number line h.group h.before h.name h.digits (BadValue number) h.here (wrong h.port h.is_port h.first h.wrong))
line_fails v ports number line NoMemory h = absurd h

record Alike (v : InputGroups) (line : List ℕ) (p q : ℕ) (g h : Group) (f e : List (List ℕ)) : Type 0 where
  place : p ≡ q
  group : g ≡ h
  further : f ≡ e

-- a line is of one group
same_group : (v : InputGroups) (line : List ℕ) (p q : ℕ) (g h : Group) (f e : List (List ℕ)) → IsOfGroup v line p g f → IsOfGroup v line q h e → Alike v line p q g h f e
same_group v line p q g h f e a b =
    let all : a.first ∷ f ≡ b.first ∷ e = sym a.has_words.are ∙ b.has_words.are in
    let first : a.first ≡ b.first = cc in
    let further : f ≡ e = cc in
    let place : p ≡ q = same_Some p q (sym a.named ∙ ap (group_named v) first ∙ b.named) in
    record { place = place; group = same_Some g h (sym a.there ∙ ap (slice_get (frames v)) place ∙ b.there); further = further }

no_group : (v : InputGroups) (line : List ℕ) (p : ℕ) (g : Group) (f : List (List ℕ)) → HasNoGroup v line → IsOfGroup v line p g f → ⊥
no_group v line p g f a b =
    let all : a.first ∷ a.further ≡ b.first ∷ f = sym a.has_words.are ∙ b.has_words.are in
    let first : a.first ≡ b.first = cc in
    let clash : None ≡ Some p = sym a.none ∙ ap (group_named v) first ∙ b.named in cc

one_line_fails : (v : InputGroups) (ports : List Port) (number : ℕ) (line : List ℕ) (f g : EventFault) → LineFails v ports number line f → LineFails v ports number line g → f ≡ g
one_line_fails v ports number line f g (bad a) (bad b) = refl
one_line_fails v ports number line f g (bad a) (none b) = absurd (true≢false (sym a ∙ b.has_words.fine))
one_line_fails v ports number line f g (bad a) (word j q h e b y) = absurd (true≢false (sym a ∙ b.has_words.fine))
one_line_fails v ports number line f g (none a) (bad b) = absurd (true≢false (sym b ∙ a.has_words.fine))
one_line_fails v ports number line f g (none a) (none b) = refl
one_line_fails v ports number line f g (none a) (word j q h e b y) = absurd (no_group v line q h e a b)
one_line_fails v ports number line f g (word i p k d a x) (bad b) = absurd (true≢false (sym b ∙ a.has_words.fine))
one_line_fails v ports number line f g (word i p k d a x) (none b) = absurd (no_group v line p k d b a)
one_line_fails v ports number line f g (word i p k d a x) (word j q h e b y) =
    let same = same_group v line p q k h d e a b in
    one_word_fails ports h number e f g (subst (λ ws. WordFails ports h number ws f) same.further (subst (λ (z : Group). WordFails ports z number d f) same.group x)) y

-- a line that tells an event has no fault
told_fails : (v : InputGroups) (ports : List Port) (number : ℕ) (line : List ℕ) (event : Event) (f : EventFault) → TellsEvent v ports line event → LineFails v ports number line f → ⊥
told_fails v ports number line event f t (bad b) = true≢false (sym b ∙ t.of_group.has_words.fine)
told_fails v ports number line event f t (none b) = no_group v line event.group.place t.group t.further b t.of_group
told_fails v ports number line event f t (word j q h e b y) =
    let same = same_group v line event.group.place q t.group h t.further e t.of_group b in
    let set = subst (λ ws. WordsSet ports h ws t.settings) (same.further ∙ y.are) (subst (λ (z : Group). WordsSet ports z t.further t.settings) same.group t.set) in
    not_set ports h y.done y.word y.rest y.before t.settings y.name y.digits number f y.set y.parted y.fails set

-- a line tells one event
pub one_event : (v : InputGroups) (ports : List Port) (line : List ℕ) (one other : Event) → TellsEvent v ports line one → TellsEvent v ports line other → one ≡ other
one_event v ports line one other a b =
    let same = same_group v line one.group.place other.group.place a.group b.group a.further b.further a.of_group b.of_group in
    let set = subst (λ ws. WordsSet ports b.group ws a.settings) same.further (subst (λ (z : Group). WordsSet ports z a.further a.settings) same.group a.set) in
    let settings : a.settings ≡ b.settings = zip_unique (WordSets ports b.group) (one_word ports b.group) b.further a.settings b.settings set.each b.set.each in
    let values : one.values ≡ other.values = a.bits ∙ ap bits_set settings ∙ sym b.bits in
    λ i. record { group = record { place = same.place i }; values = values i }

-- ## Texts

module _ (v : InputGroups) (ports : List Port) (text : List ℕ) where
  abbrev Tells : ℕ × List ℕ → Event → Type 0
  Tells numbered event = TellsEvent v ports numbered.1 event

  -- the line with the first fault is no line that tells an event
  not_told : (f : EventFault) (h : HasEventFault v ports text f) (more : List (ℕ × List ℕ)) (others : List Event) → LinesTell v ports (h.before ++ (h.number, h.line) ∷ more) others → ⊥
  not_told f h more others told =
      let partner = zip_partner Tells h.before (h.number, h.line) more others told in
      told_fails v ports h.number h.line partner.0 f partner.1 (line_fails v ports h.number h.line f h.has)

  both_tell : (one other : List Event) → LinesTell v ports (event_lines text) one → LinesTell v ports (event_lines text) other → one ≡ other
  both_tell one other = zip_unique Tells (λ numbered. one_event v ports numbered.1) (event_lines text) one other

  tells_or_fails : (events : List Event) (f : EventFault) → LinesTell v ports (event_lines text) events → HasEventFault v ports text f → ⊥
  tells_or_fails events f told h = not_told f h h.behind events (subst (λ ls. LinesTell v ports ls events) h.are told)

  both_fail : (f g : EventFault) → HasEventFault v ports text f → HasEventFault v ports text g → f ≡ g
  both_fail f g a b = go (compare a.before (a.number, a.line) a.behind b.before (b.number, b.line) b.behind (sym a.are ∙ b.are))
    where
      go : Compared a.before (a.number, a.line) a.behind b.before (b.number, b.line) b.behind → f ≡ g
      go (alike front here back) =
          let number : a.number ≡ b.number = ap (λ (numbered : ℕ × List ℕ). numbered.0) here in
          let line : a.line ≡ b.line = ap (λ (numbered : ℕ × List ℕ). numbered.1) here in
          one_line_fails v ports b.number b.line f g
          (subst (λ n. LineFails v ports n b.line f) number (subst (λ l. LineFails v ports a.number l f) line (line_fails v ports a.number a.line f a.has)))
          (line_fails v ports b.number b.line g b.has)
      go (shorter more is) = absurd (not_told f a more b.events (subst (λ ls. LinesTell v ports ls b.events) is b.told))
      go (longer more is) = absurd (not_told g b more a.events (subst (λ ls. LinesTell v ports ls a.events) is a.told))

  -- the two things that an answer may say of a text
  data Said : Result (List Event) EventFault → Type 0 where
    tells : (events : List Event) → LinesTell v ports (event_lines text) events → Said (Ok events)
    fails : (f : EventFault) → HasEventFault v ports text f → Said (Err f)

  said : (r : Result (List Event) EventFault) → r ≢ Err NoMemory → EventAnswers v ports text r → Said r
  said (Ok events) some a = tells events a
  said (Err (BadLine n)) some a = fails (BadLine n) a
  said (Err (NoGroup n)) some a = fails (NoGroup n) a
  said (Err (NoPort n)) some a = fails (NoPort n) a
  said (Err (PortTwice n)) some a = fails (PortTwice n) a
  said (Err (BadValue n)) some a = fails (BadValue n) a
  said (Err NoMemory) some a = absurd (some refl)

  same_answer : (r s : Result (List Event) EventFault) → Said r → Said s → r ≡ s
  same_answer r s (tells one a) (tells other b) = ap Ok (both_tell one other a b)
  same_answer r s (tells one a) (fails g b) = absurd (tells_or_fails one g a b)
  same_answer r s (fails f a) (tells other b) = absurd (tells_or_fails other f b a)
  same_answer r s (fails f a) (fails g b) = ap Err (both_fail f g a b)

pub one_answer : EachRecordingHasOneAnswer
one_answer v ports text first second m n a b = same_answer v ports text first second (said v ports text first m a) (said v ports text second n b)
