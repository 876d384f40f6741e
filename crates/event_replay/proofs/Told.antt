-- How the words of a line set ports one by one, and how the lines of a text tell events one by one.
use Rattle.std.proofs.Common.{◌≡◌, ℕ, ◌+◌, ◌<◌, ◌≤◌, ◌==◌, true, false, not, cond, Option, Some, None, List, [], ◌∷◌, ◌++◌, filter, get_or, set, length, All, Contains, Result, Ok, Err, IfOk, MatchOption, inl, inr, refl, sym, ap, ◌∙◌, subst, arith, append_assoc, append-nil, length-set, get_or-set_same, get_or-set_other}
use Rattle.std.specs.List.{AllZip, AllByRecursion, enumerate_from}
use Rattle.std.proofs.lemmas.Bool.{cases_eq, eq-eqb, ne_eqb, cond-true, cond-false}
use Rattle.std.proofs.lemmas.List.Elements.{All-nil, All-cons, All-contains}
use Rattle.std.proofs.lemmas.List.Sums.{sum_by-cons, sum_by-append}
use Rattle.design_core.specs.declared.parts.Parts.{Parts}
use Rattle.design_core.specs.declared.parts.Port.{Port}
use Rattle.design_core.specs.declared.values.Event.{Event}
use Rattle.design_core.specs.declared.values.PortBit.{PortBit}
use Rattle.design_core.specs.Design.{IsDesign}
use Rattle.design_core.specs.Influence.{Group}
use Rattle.domain_groups.specs.declared.events.EventFault.{EventFault}
use Rattle.domain_groups.specs.declared.events.EventFault.TheVariants.{BadLine, NoGroup, NoPort, PortTwice, BadValue, NoMemory}
use Rattle.domain_groups.specs.Events.{WordSets, WordsSet, IsOfGroup, TellsEvent, HasWord, LineHas, LinesTell, SaysEvents, HasEventFault, EventAnswers}
use Rattle.domain_groups.specs.Groups.{InputGroups}
use Rattle.domain_groups.specs.Lines.{IsParted, event_lines, is_passed_over, lines}
use Rattle.domain_groups.specs.Settings.{Setting, EachOnce, bits_set, times_set}
use Rattle.domain_groups.specs.Values.{shown_bits}
use Rattle.domain_groups.proofs.Zips.{zip_push}
use Rattle.event_replay.specs.Events.{AreEarlier, NamesNoPort, NamesAgain, GivesNoValue, WordFails, Stops, WordsGive, WordsAnswer, LineAnswers}
use Rattle.event_replay.specs.Settings.{IsOfPort, AreSet, AreInputBits}
use Rattle.event_replay.proofs.InputBits.{input_bits}

-- ## Words

-- the bits of one setting more
bits_push : (settings : List Setting) (s : Setting) → bits_set (settings ++ s ∷ []) ≡ bits_set settings ++ shown_bits s.nets s.number
bits_push [] s = append-nil (shown_bits s.nets s.number)
bits_push (t ∷ ts) s = ap (λ bits. shown_bits t.nets t.number ++ bits) (bits_push ts s) ∙ sym (append_assoc (shown_bits t.nets t.number) (bits_set ts) (shown_bits s.nets s.number))

count_push : (port : ℕ) (settings : List Setting) (s : Setting) → times_set port (settings ++ s ∷ []) ≡ times_set port settings + cond {A = ℕ} (s.port == port) 1 0
count_push port settings s =
    let both = sum_by-append (λ (s : Setting). cond {A = ℕ} (s.port == port) 1 0) settings (s ∷ []) in
    let first = sum_by-cons (λ (s : Setting). cond {A = ℕ} (s.port == port) 1 0) s [] in
    omega (arith, both, first)

counted : (port : ℕ) (s : Setting) → s.port ≡ port → cond {A = ℕ} (s.port == port) 1 0 ≡ 1
counted port s same = cond-true (s.port == port) 1 0 (eq-eqb s.port port same)

uncounted : (port : ℕ) (s : Setting) → (s.port ≡ port → ⊥) → cond {A = ℕ} (s.port == port) 1 0 ≡ 0
uncounted port s differs = cond-false (s.port == port) 1 0 (ne_eqb s.port port differs)

-- the words so far, of the line of this number, set ports, and the last lines of the ports tell which
pub record Setting-up (ports : List Port) (group : Group) (all rest : List (List ℕ)) (last_lines : List ℕ) (line : ℕ) (values : List PortBit) : Type 0 where
  pub done : List (List ℕ)
  pub settings : List Setting
  pub split : all ≡ done ++ rest
  pub set : AllZip (WordSets ports group) done settings
  pub once : EachOnce settings
  pub bits : values ≡ bits_set settings
  pub set_here : (port : ℕ) → get_or last_lines port 0 ≡ line → 0 < times_set port settings
  pub not_set : (port : ℕ) → (get_or last_lines port 0 ≡ line → ⊥) → times_set port settings ≡ 0

pub nothing_set : (ports : List Port) (group : Group) (all : List (List ℕ)) (last_lines : List ℕ) (line : ℕ) → AreEarlier ports last_lines line → Setting-up ports group all all last_lines line []
nothing_set ports group all last_lines line before = record {
  done = [];
  settings = [];
  split = refl;
  set = tt;
  once = λ port. omega arith;
  bits = refl;
  set_here = λ port here. absurd (omega (arith, before.earlier port));
  not_set = λ port differs. refl;
}

-- the numbers of the last lines stay below that of the next
pub still_earlier : (ports : List Port) (last_lines : List ℕ) (line : ℕ) → AreEarlier ports last_lines line → AreEarlier ports last_lines (line + 1)
still_earlier ports last_lines line before = record { size = before.size; earlier = λ port. omega (arith, before.earlier port) }

pub set_earlier : (ports : List Port) (last_lines next : List ℕ) (line port : ℕ) → AreEarlier ports last_lines (line + 1) → port < length last_lines → next ≡ set last_lines port line → AreEarlier ports next (line + 1)
set_earlier ports last_lines next line port before inside written = record {
  size = ap length written ∙ length-set last_lines port line ∙ before.size;
  earlier = λ other. elim (cases_eq port other) [
    | inl same ↦
        (let last : get_or next other 0 ≡ line = ap (λ p. get_or next p 0) (sym same) ∙ ap (λ lasts. get_or lasts port 0) written ∙ get_or-set_same last_lines port line 0 inside in omega arith)
    | inr differs ↦
        (let there : get_or next other 0 ≡ get_or last_lines other 0 = ap (λ lasts. get_or lasts other 0) written ∙ get_or-set_other last_lines port other line 0 (λ e. differs (sym e)) in
        let less = before.earlier other in omega arith)
  ];
}

module _ (ports : List Port) (group : Group) (all rest : List (List ℕ)) (word : List ℕ) (last_lines : List ℕ) (line : ℕ) (values : List PortBit)
    (u : Setting-up ports group all (word ∷ rest) last_lines line values) where
  stopped : (name digits : List ℕ) → IsParted word name digits → Stops ports group all u.settings name digits
  stopped name digits parted = record { done = u.done; word = word; rest = rest; are = u.split; set = record { each = u.set; once = u.once }; parted = parted }

  -- the fault of a word is that of the words
  pub words_fail : (f : EventFault) → WordFails ports group last_lines line word f → WordsAnswer ports group line all (Err f)
  words_fail (BadLine at) h = h
  words_fail (NoGroup at) h = h
  words_fail (NoPort at) (same, h) = (same, record { before = u.settings; name = h.name; digits = h.digits; stops = stopped h.name h.digits h.parted; none = h.none })
  words_fail (PortTwice at) (same, h) = (
    same,
    record { before = u.settings; name = h.name; digits = h.digits; stops = stopped h.name h.digits h.parted; port = h.port; is_port = h.is_port; again = u.set_here h.port h.here },
  )
  words_fail (BadValue at) (same, h) = (
    same,
    record {
      before = u.settings;
      name = h.name;
      digits = h.digits;
      stops = stopped h.name h.digits h.parted;
      port = h.port;
      is_port = h.is_port;
      first = u.not_set h.port h.first;
      wrong = h.wrong;
    },
  )
  words_fail NoMemory h = absurd h

  -- a word that sets a port is taken
  pub word_taken : (s : Setting) (next : List ℕ) (new : List PortBit) → WordSets ports group word s → (get_or last_lines s.port 0 ≡ line → ⊥) → s.port < length last_lines → next ≡ set last_lines s.port line → new ≡ values ++ shown_bits s.nets s.number
      → Setting-up ports group all rest next line new
  word_taken s next new here differs inside written added = record {
    done = u.done ++ word ∷ [];
    settings = u.settings ++ s ∷ [];
    split = u.split ∙ sym (append_assoc u.done (word ∷ []) rest);
    set = zip_push (WordSets ports group) u.done u.settings word s u.set here;
    once = λ port. elim (cases_eq s.port port) [
      | inl same ↦
          (let one = counted port s same in let none = u.not_set s.port differs in
          let other : times_set port u.settings ≡ 0 = subst (λ p. times_set p u.settings ≡ 0) same none in omega (arith, count_push port u.settings s))
      | inr other ↦ (let none = uncounted port s other in let before = u.once port in omega (arith, count_push port u.settings s))
    ];
    bits = added ∙ ap (λ bits. bits ++ shown_bits s.nets s.number) u.bits ∙ sym (bits_push u.settings s);
    set_here = λ port same_line. elim (cases_eq s.port port) [
      | inl same ↦ (let one = counted port s same in omega (arith, count_push port u.settings s))
      | inr other ↦ (let before = u.set_here port (sym (kept port other) ∙ same_line) in omega (arith, count_push port u.settings s))
    ];
    not_set = λ port none. elim (cases_eq s.port port) [
      | inl same ↦ absurd (none (ap (λ p. get_or next p 0) (sym same) ∙ own))
      | inr other ↦ (let zero_is = uncounted port s other in let before = u.not_set port (λ same_line. none (kept port other ∙ same_line)) in omega (arith, count_push port u.settings s))
    ];
  }
    where
      own : get_or next s.port 0 ≡ line
      own = ap (λ lasts. get_or lasts s.port 0) written ∙ get_or-set_same last_lines s.port line 0 inside

      kept : (port : ℕ) → (s.port ≡ port → ⊥) → get_or next port 0 ≡ get_or last_lines port 0
      kept port other = ap (λ lasts. get_or lasts port 0) written ∙ get_or-set_other last_lines s.port port line 0 (λ e. other (sym e))

-- all words are taken
pub words_taken : (ports : List Port) (group : Group) (all : List (List ℕ)) (last_lines : List ℕ) (line : ℕ) (values : List PortBit) → Setting-up ports group all [] last_lines line values → WordsGive ports group all values
words_taken ports group all last_lines line values u = record {
  settings = u.settings;
  set = record { each = subst (λ ws. AllZip (WordSets ports group) ws u.settings) (sym (u.split ∙ append-nil u.done)) u.set; once = u.once };
  bits = u.bits;
}

-- ## A line

module _ (v : InputGroups) (ports : List Port) (number : ℕ) (line : List ℕ) (group : Group) (place : ℕ) (further : List (List ℕ)) (of_group : IsOfGroup v line place group further) where
  pub line_tells : (event : Event) → event.group.place ≡ place → WordsGive ports group further event.values → TellsEvent v ports line event
  line_tells event same gives = record {
    group = group;
    further = further;
    of_group = subst (λ k. IsOfGroup v line k group further) (sym same) of_group;
    settings = gives.settings;
    set = gives.set;
    bits = gives.bits;
  }

  has_word : (before : List Setting) (name digits : List ℕ) → Stops ports group further before name digits → HasWord v ports line group before name digits
  has_word before name digits s = record {
    place = place;
    done = s.done;
    word = s.word;
    rest = s.rest;
    of_group = subst (IsOfGroup v line place group) s.are of_group;
    set = s.set;
    parted = s.parted;
  }

  -- the fault of the words is that of the line
  pub line_fails : (f : EventFault) → WordsAnswer ports group number further (Err f) → LineAnswers v ports number line (Err f)
  line_fails (BadLine at) h = absurd h
  line_fails (NoGroup at) h = absurd h
  line_fails (NoPort at) (same, h) = (same, record { group = group; before = h.before; name = h.name; digits = h.digits; here = has_word h.before h.name h.digits h.stops; none = h.none })
  line_fails (PortTwice at) (same, h) = (
    same,
    record { group = group; before = h.before; name = h.name; digits = h.digits; here = has_word h.before h.name h.digits h.stops; port = h.port; is_port = h.is_port; again = h.again },
  )
  line_fails (BadValue at) (same, h) = (
    same,
    record {
      group = group;
      before = h.before;
      name = h.name;
      digits = h.digits;
      here = has_word h.before h.name h.digits h.stops;
      port = h.port;
      is_port = h.is_port;
      first = h.first;
      wrong = h.wrong;
    },
  )
  line_fails NoMemory h = tt

-- ## Lines

-- the lines that tell events, where the first has this number
abbrev pub lines_from : ℕ → List ℕ → List (ℕ × List ℕ)
lines_from number text = filter (λ (n, line). not (is_passed_over line)) (enumerate_from number (lines text))

-- what is left of a text behind the line of this number, if there is more
abbrev pub lines_left : ℕ → Option (List ℕ) → List (ℕ × List ℕ)
lines_left number None = []
lines_left number (Some text) = lines_from (number + 1) text

abbrev pub bytes_left : Option (List ℕ) → ℕ
bytes_left None = 0
bytes_left (Some text) = 1 + length text

-- a line is taken off a text
abbrev pub IsCut : List ℕ → List ℕ → Option (List ℕ) → Type 0
IsCut text line after = MatchOption after (lines text ≡ line ∷ []) (λ rest. lines text ≡ line ∷ lines rest)

pub line_passed : (number : ℕ) (text line : List ℕ) (after : Option (List ℕ)) → IsCut text line after → is_passed_over line ≡ true → lines_from number text ≡ lines_left number after
line_passed number text line None cut passed =
    ap (λ ls. filter (λ (n, line). not (is_passed_over line)) (enumerate_from number ls)) cut ∙ cond-false (not (is_passed_over line)) _ _ (ap not passed)
line_passed number text line (Some rest) cut passed =
    ap (λ ls. filter (λ (n, line). not (is_passed_over line)) (enumerate_from number ls)) cut ∙ cond-false (not (is_passed_over line)) _ _ (ap not passed)

pub line_kept : (number : ℕ) (text line : List ℕ) (after : Option (List ℕ)) → IsCut text line after → is_passed_over line ≡ false → lines_from number text ≡ (number, line) ∷ lines_left number after
line_kept number text line None cut kept =
    ap (λ ls. filter (λ (n, line). not (is_passed_over line)) (enumerate_from number ls)) cut ∙ cond-true (not (is_passed_over line)) _ _ (ap not kept)
line_kept number text line (Some rest) cut kept =
    ap (λ ls. filter (λ (n, line). not (is_passed_over line)) (enumerate_from number ls)) cut ∙ cond-true (not (is_passed_over line)) _ _ (ap not kept)

-- the lines so far tell events
pub record Telling (v : InputGroups) (ports : List Port) (all rest : List (ℕ × List ℕ)) (events : List Event) : Type 0 where
  pub done : List (ℕ × List ℕ)
  pub split : all ≡ done ++ rest
  pub told : LinesTell v ports done events

module _ (v : InputGroups) (ports : List Port) where
  pub event_told : (all rest : List (ℕ × List ℕ)) (number : ℕ) (line : List ℕ) (events : List Event) (event : Event)
      → Telling v ports all ((number, line) ∷ rest) events → TellsEvent v ports line event → Telling v ports all rest (events ++ event ∷ [])
  event_told all rest number line events event t here = record {
    done = t.done ++ (number, line) ∷ [];
    split = t.split ∙ sym (append_assoc t.done ((number, line) ∷ []) rest);
    told = zip_push (λ (numbered : ℕ × List ℕ). TellsEvent v ports numbered.1) t.done events (number, line) event t.told here;
  }

  has_fault : (text : List ℕ) (rest : List (ℕ × List ℕ)) (number : ℕ) (line : List ℕ) (events : List Event) (f : EventFault)
      → Telling v ports (event_lines text) ((number, line) ∷ rest) events → LineHas v ports number line f → HasEventFault v ports text f
  has_fault text rest number line events f t h = record { before = t.done; number = number; line = line; behind = rest; are = t.split; events = events; told = t.told; has = h }

  -- the fault of a line is that of the text
  pub text_fails : (text : List ℕ) (rest : List (ℕ × List ℕ)) (number : ℕ) (line : List ℕ) (events : List Event) (f : EventFault)
      → Telling v ports (event_lines text) ((number, line) ∷ rest) events → LineAnswers v ports number line (Err f) → EventAnswers v ports text (Err f)
  text_fails text rest number line events (BadLine at) t h = has_fault text rest number line events (BadLine at) t h
  text_fails text rest number line events (NoGroup at) t h = has_fault text rest number line events (NoGroup at) t h
  text_fails text rest number line events (NoPort at) t h = has_fault text rest number line events (NoPort at) t h
  text_fails text rest number line events (PortTwice at) t h = has_fault text rest number line events (PortTwice at) t h
  text_fails text rest number line events (BadValue at) t h = has_fault text rest number line events (BadValue at) t h
  text_fails text rest number line events NoMemory t h = tt

  -- all lines tell events
  pub text_told : (text : List ℕ) (events : List Event) → Telling v ports (event_lines text) [] events → SaysEvents v ports text events
  text_told text events t = subst (λ ls. LinesTell v ports ls events) (sym (t.split ∙ append-nil t.done)) t.told

pub less_left : (text : List ℕ) (after : Option (List ℕ)) → MatchOption after (length text ≡ length text) (λ rest. length rest < length text) → bytes_left after ≤ length text
less_left text None less = omega arith
less_left text (Some rest) less = omega arith

-- ## The bits of inputs

of_words : (ports : List Port) (group : Group) (given : List (List ℕ)) (settings : List Setting) → AllZip (WordSets ports group) given settings → AllByRecursion (IsOfPort ports) settings
of_words ports group [] [] set = tt
of_words ports group [] (s ∷ ss) set = absurd set
of_words ports group (w ∷ ws) [] set = absurd set
of_words ports group (w ∷ ws) (s ∷ ss) set = (set.0.sets.nets, of_words ports group ws ss set.1)

-- the values of each event set ports
events_set : (v : InputGroups) (ports : List Port) (given : List (ℕ × List ℕ)) (events : List Event) → LinesTell v ports given events → All (λ event. AreSet ports event.values) events
events_set v ports [] [] told = All-nil (λ (event : Event). AreSet ports event.values)
events_set v ports [] (e ∷ es) told = absurd told
events_set v ports (l ∷ ls) [] told = absurd told
events_set v ports (l ∷ ls) (e ∷ es) told =
    let t = told.0 in
    All-cons (λ (event : Event). AreSet ports event.values) e es
    (record { settings = t.settings; of_ports = of_words ports t.group t.further t.settings t.set.each; once = t.set.once; bits = t.bits })
    (events_set v ports ls es told.1)

-- the events that a text tells give values of input bits
pub bits_told : (p : Parts) (v : InputGroups) (inner : List Port) (text : List ℕ) (r : Result (List Event) EventFault) → IsDesign p → inner ≡ p.inputs → EventAnswers v inner text r
    → IfOk r (λ events. (event : Event) → Contains events event → AreInputBits p event.values)
bits_told p v inner text (Ok events) design same says = λ event here.
    let set = All-contains (λ (event : Event). AreSet inner event.values) events event (events_set v inner (event_lines text) events says) here in
    input_bits p event.values design (subst (λ ps. AreSet ps event.values) same set)
bits_told p v inner text (Err fault) design same says = tt
