-- Chips without nets, and the nets that they lack.
use Rattle.std.proofs.Common.{◌≡◌, ◌≢◌, ◌↔◌, ◌<◌, ◌≤◌, ◌+◌, ◌^◌, ◌⊎◌, inl, inr, ℕ, zero, suc, Bool, true, false, IsTrue, Option, Some, None, List, [], ◌∷◌, ◌++◌, length, slice_get, take, drop, refl, sym, ap, ◌∙◌, subst, append_assoc, arith}
use Rattle.std.specs.Prelude.{codes, decimal, ◌==◌, if◌then◌else◌}
use Rattle.std.proofs.lemmas.Bool.{cases_eq, false≢true}
use Rattle.std.proofs.lemmas.Bool.Decides.{nat_tests}
use Rattle.std.proofs.lemmas.Fmt.{decimal_digit}
use Rattle.std.proofs.lemmas.List.{append-nil, length-append, take-append-drop}
use Rattle.std.proofs.lemmas.Option.{slice_get_within}
use Rattle.token_words.specs.Word.{Word, key, mark, name, close_parenthesis, open_parenthesis, semicolon}
use Rattle.token_words.specs.Words.{bytes_of, word_of, words_of}
use Rattle.verilog_lex.specs.declared.token.Token.{Token}
use Rattle.verilog_lex.specs.declared.token.TokenKind.{TokenKind}
use Rattle.verilog_lex.specs.declared.token.TokenKind.TheVariants.{Name, Keyword, Number, Constant, Mark}
use Rattle.verilog_lex.specs.declared.keyword.TheConstants.{MODULE, WIRE}
use Rattle.id_arena.specs.declared.keys.ChipNetId.{ChipNetId}
use Rattle.emu_machine.specs.declared.netlist.Chip.{Chip}
use Rattle.emu_machine.specs.declared.netlist.EmuGate.{EmuGate}
use Rattle.emu_machine.specs.declared.netlist.EmuMemory.{EmuMemory}
use Rattle.emu_machine.specs.declared.netlist.EmuRegister.{EmuRegister}
use Rattle.emu_machine.specs.Building.{AreNetsOf, IsGateOf, IsMemoryOf, IsRegisterOf}
use Rattle.netlist_writer.specs.NetlistText.{memory_form, memory_pins, register_form, register_pins}
use Rattle.netlist_reader.specs.Faults.{BeginsNetlist, HasLooseForms, HasWire, IsFirstWrong, NamesDeclared, SaysLoosely, first_net, nets_over}
use Rattle.netlist_reader.specs.Netlist.{Each, HasForms, NetlistsAreToldApart, SaysChips, body_words, chip_words, form_of_register, gate_form, gate_pins, gate_words, head_words, lines, memory_words, more_words, netlist_words, numbered, pin_words, pins_of_register, register_words, wires}
use Rattle.netlist_reader.specs.Stops.{BeginsLoosely, IsEarlier, IsLacking, IsLooselyWrong, TellsLacking, declared_behind}
use Rattle.netlist_reader.proofs.Bodies.{ends, gate_rank, no_each, rank, t2, t3, t4}
use Rattle.netlist_reader.proofs.Chips.{loose_apart}
use Rattle.netlist_reader.proofs.Codes.{differ, first_code}
use Rattle.netlist_reader.proofs.MemoryLines.{each_one_more, memory_at, memory_below}
use Rattle.netlist_reader.proofs.ItemLines.{more_below, register_below}
use Rattle.netlist_reader.proofs.NumberedLines.{each_head, each_tail, lines_from}

-- What is over the nets of a chip is over those that it may name.

wider : (nets : ℕ) (ns : List ChipNetId) → AreNetsOf nets ns → AreNetsOf (nets_over nets) ns
wider zero ns all k n e = (let below = all k n e in absurd (omega arith))
wider (suc nets) ns all k n e = all k n e

loose_gate : (nets : ℕ) (gate : EmuGate) → IsGateOf nets gate → IsGateOf (nets_over nets) gate
loose_gate zero gate is = (let below = is.output in absurd (omega arith))
loose_gate (suc nets) gate is = is

loose_register : (nets : ℕ) (register : EmuRegister) → IsRegisterOf nets register → IsRegisterOf (nets_over nets) register
loose_register zero register is = (let below = is.q in absurd (omega arith))
loose_register (suc nets) register is = is

loose_memory : (nets : ℕ) (memory : EmuMemory) → IsMemoryOf nets memory → IsMemoryOf (nets_over nets) memory
loose_memory nets memory is = record {
  address_bits = is.address_bits;
  some_width = is.some_width;
  width = is.width;
  ports = is.ports;
  writes = λ k port e.
      let of = is.writes k port e in
      record {
        enable = wider nets (port.enable ∷ []) (one nets port.enable of.enable) 0 port.enable refl;
        address = wider nets port.address of.address;
        feed = wider nets port.feed of.feed;
        address_bits = of.address_bits;
        width = of.width;
      };
  reads = λ k port e.
      let of = is.reads k port e in
      record { address = wider nets port.address of.address; bits = wider nets port.bits of.bits; address_bits = of.address_bits; width = of.width };
} where
  one : (n : ℕ) (net : ChipNetId) → net.place < n → AreNetsOf n (net ∷ [])
  one n net below zero m e = (let same : net ≡ m = cc in subst (λ (x : ChipNetId). x.place < n) same below)
  one n net below (suc k) m e = cc

loose_forms : (chip : Chip) → HasForms chip → HasLooseForms chip
loose_forms chip is = record {
  few = is.few;
  gates = λ k g e. loose_gate chip.nets g (is.gates k g e);
  registers = λ k r e. loose_register chip.nets r (is.registers k r e);
  memories = λ k m e. loose_memory chip.nets m (is.memories k m e);
}

loosely : (words : List Word) (chips : List Chip) → SaysChips words chips → SaysLoosely words chips
loosely words chips is = record { words_are = is.words_are; forms = λ c chip e. loose_forms chip (is.forms c chip e) }

pub told_apart : NetlistsAreToldApart
told_apart words first second a b = loose_apart words first second (loosely words first a) (loosely words second b)

-- Declarations before a place.

-- the place of a reserved word in the list of all; 500 for all other words
abbrev place_of : Word → ℕ
place_of w = elim w.kind [ Name ↦ 500 | Keyword p ↦ p | Number n ↦ 500 | Constant s x ↦ 500 | Mark b ↦ 500 ]

no_place : (w : Word) (p : ℕ) → place_of w ≡ 500 → p < 500 → w ≢ key p
no_place w p off small e = (let same : place_of w ≡ p = ap place_of e in omega arith)

-- a word of a list with one more at the end is that one, or stands before it
last_split : (ws : List Word) (w x : Word) (a b : List Word) → ws ++ w ∷ [] ≡ a ++ x ∷ b → ((ws ≡ a) × (w ≡ x)) ⊎ ((c : List Word) × (ws ≡ a ++ x ∷ c) × (b ≡ c ++ w ∷ []))
last_split [] w x [] b e = inl (refl, (cc))
last_split [] w x (y ∷ a) b e = absurd (let size : 1 ≡ suc (length (a ++ x ∷ b)) = ap length e in let sizes = length-append a (x ∷ b) in omega arith)
last_split (v ∷ ws) w x [] b e = (let first : v ≡ x = cc in let rest : ws ++ w ∷ [] ≡ b = cc in inr (ws, (λ i. first i ∷ ws), sym rest))
last_split (v ∷ ws) w x (y ∷ a) b e =
    let first : v ≡ y = cc in
    let rest : ws ++ w ∷ [] ≡ a ++ x ∷ b = cc in
    go first (last_split ws w x a b rest)
  where
    go : v ≡ y → ((ws ≡ a) × (w ≡ x)) ⊎ ((c : List Word) × (ws ≡ a ++ x ∷ c) × (b ≡ c ++ w ∷ [])) → ((v ∷ ws ≡ y ∷ a) × (w ≡ x)) ⊎ ((c : List Word) × (v ∷ ws ≡ (y ∷ a) ++ x ∷ c) × (b ≡ c ++ w ∷ []))
    go f (inl p) = inl ((λ i. f i ∷ p.0 i), p.1)
    go f (inr p) = inr (p.0, (λ i. f i ∷ p.1 i), p.2)

-- a module has no declaration where it begins
wire_module : (ws : List Word) → HasWire (ws ++ key MODULE ∷ []) → ⊥
wire_module ws has = go (last_split ws (key MODULE) (key WIRE) has.before has.behind has.words_are)
  where
    go : ((ws ≡ has.before) × (key MODULE ≡ key WIRE)) ⊎ ((c : List Word) × (ws ≡ has.before ++ key WIRE ∷ c) × (has.behind ≡ c ++ key MODULE ∷ [])) → ⊥
    go (inl p) = (let same : MODULE ≡ WIRE = ap place_of p.1 in omega arith)
    go (inr p) = has.same_module p.0 [] p.2

wire_wire : (ws : List Word) → HasWire (ws ++ key WIRE ∷ [])
wire_wire ws = record { before = ws; behind = []; words_are = refl; same_module = λ a b e. absurd (none a b e) }
  where
    none : (a b : List Word) → [] ≡ a ++ key MODULE ∷ b → ⊥
    none [] b e = cc
    none (x ∷ a) b e = cc

-- any other word changes nothing
wire_back : (ws : List Word) (w : Word) → w ≢ key WIRE → HasWire (ws ++ w ∷ []) → HasWire ws
wire_back ws w other has = go (last_split ws w (key WIRE) has.before has.behind has.words_are)
  where
    go : ((ws ≡ has.before) × (w ≡ key WIRE)) ⊎ ((c : List Word) × (ws ≡ has.before ++ key WIRE ∷ c) × (has.behind ≡ c ++ w ∷ [])) → HasWire ws
    go (inl p) = absurd (other p.1)
    go (inr p) = record {
      before = has.before;
      behind = p.0;
      words_are = p.1;
      same_module = λ a b e. has.same_module a (b ++ w ∷ []) (p.2 ∙ ap (λ c. c ++ w ∷ []) e ∙ append_assoc a (key MODULE ∷ b) (w ∷ []));
    }

wire_on : (ws : List Word) (w : Word) → w ≢ key MODULE → HasWire ws → HasWire (ws ++ w ∷ [])
wire_on ws w other has = record {
  before = has.before;
  behind = has.behind ++ w ∷ [];
  words_are = ap (λ c. c ++ w ∷ []) has.words_are ∙ append_assoc has.before (key WIRE ∷ has.behind) (w ∷ []);
  same_module = λ a b e. go a b (last_split has.behind w (key MODULE) a b e);
} where
  go : (a b : List Word) → ((has.behind ≡ a) × (w ≡ key MODULE)) ⊎ ((c : List Word) × (has.behind ≡ a ++ key MODULE ∷ c) × (b ≡ c ++ w ∷ [])) → ⊥
  go a b (inl p) = other p.1
  go a b (inr p) = has.same_module a p.0 p.1

names_more : (ws : List Word) (w : Word) → NamesDeclared ws → (w ≡ first_net → HasWire ws) → NamesDeclared (ws ++ w ∷ [])
names_more ws w names one before behind e = go (last_split ws w first_net before behind e)
  where
    go : ((ws ≡ before) × (w ≡ first_net)) ⊎ ((c : List Word) × (ws ≡ before ++ first_net ∷ c) × (behind ≡ c ++ w ∷ [])) → HasWire before
    go (inl p) = subst HasWire p.0 (one p.1)
    go (inr p) = names before p.0 p.1

names_front : (ws vs : List Word) → NamesDeclared (ws ++ vs) → NamesDeclared ws
names_front ws vs names before behind e = names before (behind ++ vs) (ap (λ x. x ++ vs) e ∙ append_assoc before (first_net ∷ behind) vs)

-- One token after another.

module _ (words : List Word) (k : ℕ) (w : Word) (there : slice_get words k ≡ Some w) where
  pub next : take (k + 1) words ≡ take k words ++ w ∷ []
  next = go words k there
    where
      go : (ws : List Word) (j : ℕ) → slice_get ws j ≡ Some w → take (j + 1) ws ≡ take j ws ++ w ∷ []
      go [] j e = cc
      go (v ∷ ws) zero e = (let same : v ≡ w = cc in λ i. same i ∷ [])
      go (v ∷ ws) (suc j) e = (let step : suc j + 1 ≡ suc (j + 1) = omega arith in ap (λ n. take n (v ∷ ws)) step ∙ ap (λ x. v ∷ x) (go ws j e))

  pub at_module : (declared : Bool) → w ≡ key MODULE → NamesDeclared (take k words) × (IsTrue declared ↔ HasWire (take k words)) → NamesDeclared (take (k + 1) words) × (IsTrue false ↔ HasWire (take (k + 1) words))
  at_module declared is was =
      subst (λ ws. NamesDeclared ws × (IsTrue false ↔ HasWire ws)) (sym next) (
        names_more (take k words) w was.0 (λ e. absurd (differ (key MODULE ∷ []) (first_net ∷ []) (λ i. (sym is ∙ e) i ∷ []) refl)),
        (λ t. absurd (false≢true t), λ has. absurd (wire_module (take k words) (subst (λ v. HasWire (take k words ++ v ∷ [])) is has))),
      )

  pub at_wire : (declared : Bool) → w ≡ key WIRE → NamesDeclared (take k words) × (IsTrue declared ↔ HasWire (take k words)) → NamesDeclared (take (k + 1) words) × (IsTrue true ↔ HasWire (take (k + 1) words))
  at_wire declared is was =
      subst (λ ws. NamesDeclared ws × (IsTrue true ↔ HasWire ws)) (sym next) (
        names_more (take k words) w was.0 (λ e. absurd (differ (key WIRE ∷ []) (first_net ∷ []) (λ i. (sym is ∙ e) i ∷ []) refl)),
        (λ t. subst (λ v. HasWire (take k words ++ v ∷ [])) (sym is) (wire_wire (take k words)), λ has. refl),
      )

  pub at_other : (declared : Bool) → w ≢ key MODULE → w ≢ key WIRE → (w ≡ first_net → IsTrue declared) → NamesDeclared (take k words) × (IsTrue declared ↔ HasWire (take k words)) → NamesDeclared (take (k + 1) words) × (IsTrue declared ↔ HasWire (take (k + 1) words))
  at_other declared no-module no-wire one was =
      subst (λ ws. NamesDeclared ws × (IsTrue declared ↔ HasWire ws)) (sym next) (
        names_more (take k words) w was.0 (λ e. was.1.0 (one e)),
        (λ t. wire_on (take k words) w no-module (was.1.0 t), λ has. was.1.1 (wire_back (take k words) w no-wire has)),
      )

  -- behind any token
  pub at_next : (kind : TokenKind) (bytes : List ℕ) (declared after : Bool) → w ≡ record { kind = kind; name = bytes_of kind bytes } → after ≡ declared_behind kind declared → (w ≡ first_net → IsTrue declared) → NamesDeclared (take k words) × (IsTrue declared ↔ HasWire (take k words)) → NamesDeclared (take (k + 1) words) × (IsTrue after ↔ HasWire (take (k + 1) words))
  at_next kind bytes declared after is e one was = subst (λ b. NamesDeclared (take (k + 1) words) × (IsTrue b ↔ HasWire (take (k + 1) words))) (sym e) (go kind is)
    where
      other : (t : TokenKind) → w ≡ record { kind = t; name = bytes_of t bytes } → place_of (record { kind = t; name = bytes_of t bytes }) ≡ 500 → NamesDeclared (take (k + 1) words) × (IsTrue declared ↔ HasWire (take (k + 1) words))
      other t f a = at_other declared (λ g. no_place w MODULE (ap place_of f ∙ a) (omega arith) g) (λ g. no_place w WIRE (ap place_of f ∙ a) (omega arith) g) one was

      keyed : (p : ℕ) → w ≡ key p → (p ≡ MODULE) ⊎ (p ≡ MODULE → ⊥) → (p ≡ WIRE) ⊎ (p ≡ WIRE → ⊥) → NamesDeclared (take (k + 1) words) × (IsTrue (declared_behind (Keyword p) declared) ↔ HasWire (take (k + 1) words))
      keyed p f (inl m) n = subst (λ q. NamesDeclared (take (k + 1) words) × (IsTrue (declared_behind (Keyword q) declared) ↔ HasWire (take (k + 1) words))) (sym m) (at_module declared (f ∙ ap key m) was)
      keyed p f (inr m) (inl n) = subst (λ q. NamesDeclared (take (k + 1) words) × (IsTrue (declared_behind (Keyword q) declared) ↔ HasWire (take (k + 1) words))) (sym n) (at_wire declared (f ∙ ap key n) was)
      keyed p f (inr m) (inr n) =
          let no-module : (p == MODULE) ≡ false = grind (arith, nat_tests) in
          let no-wire : (p == WIRE) ≡ false = grind (arith, nat_tests) in
          let same : declared_behind (Keyword p) declared ≡ declared = ap (λ b. if b then false else (if p == WIRE then true else declared)) no-module ∙ ap (λ b. if b then true else declared) no-wire in
          subst (λ b. NamesDeclared (take (k + 1) words) × (IsTrue b ↔ HasWire (take (k + 1) words))) (sym same)
          (at_other declared (λ g. m (ap place_of (sym f ∙ g))) (λ g. n (ap place_of (sym f ∙ g))) one was)

      go : (t : TokenKind) → w ≡ record { kind = t; name = bytes_of t bytes } → NamesDeclared (take (k + 1) words) × (IsTrue (declared_behind t declared) ↔ HasWire (take (k + 1) words))
      go Name f = other Name f refl
      go (Keyword p) f = keyed p f (cases_eq p MODULE) (cases_eq p WIRE)
      go (Number n) f = other (Number n) f refl
      go (Constant s x) f = other (Constant s x) f refl
      go (Mark b) f = other (Mark b) f refl

-- nothing was passed over
pub at_start : (words : List Word) → NamesDeclared (take 0 words) × (IsTrue false ↔ HasWire (take 0 words))
at_start words = (
  (λ before behind e. absurd (none before first_net behind e)),
  (λ t. absurd (false≢true t), λ has. absurd (none has.before (key WIRE) has.behind has.words_are)),
) where
  none : (a : List Word) (x : Word) (b : List Word) → [] ≡ a ++ x ∷ b → ⊥
  none [] x b e = cc
  none (y ∷ a) x b e = cc

pub first_net_is : name (110 ∷ 48 ∷ []) ≡ first_net
first_net_is = rw (decimal_digit 0 (omega arith)) refl

pub lacking_here : (words : List Word) (k : ℕ) (declared : Bool) → declared ≡ false → slice_get words k ≡ Some first_net → NamesDeclared (take k words) × (IsTrue declared ↔ HasWire (take k words)) → IsLacking words k
lacking_here words k declared off at was = record {
  there = at;
  none = λ has. (let on : false ≡ true = sym off ∙ was.1.1 has in absurd (false≢true on));
  before = was.0;
}

-- What is loosely a netlist and names no net that is lacking is one.

-- words without declarations change nothing
abbrev AreOther : List Word → Type 0
AreOther [] = Unit {0}
AreOther (w ∷ ws) = (w ≢ key WIRE) × AreOther ws

wires_back : (front ws : List Word) → AreOther ws → HasWire (front ++ ws) → HasWire front
wires_back front [] other has = subst HasWire (append-nil front) has
wires_back front (w ∷ ws) other has =
    wire_back front w other.0 (wires_back (front ++ w ∷ []) ws other.1 (subst HasWire (sym (append_assoc front (w ∷ []) ws)) has))

no_wire_name : (bytes : List ℕ) → name bytes ≢ key WIRE
no_wire_name bytes e = differ (name bytes ∷ []) (key WIRE ∷ []) (λ i. e i ∷ []) refl

no_wire_mark : (byte : ℕ) → mark byte ≢ key WIRE
no_wire_mark byte e = no_place (mark byte) WIRE refl (omega arith) e

module _ (words : List Word) (names : NamesDeclared words) where
  -- behind words of a module without declarations, an instance over one net has no terminals
  no_pins : (front : List Word) (form : Word) (stem : List ℕ) (k : ℕ) (pins : List ChipNetId) (post : List Word) → (HasWire front → ⊥) → form ≢ key WIRE → AreNetsOf 1 pins → words ≡ front ++ ((form ∷ pin_words stem k pins) ++ post) → pins ≡ []
  no_pins front form stem k [] post bare other all e = refl
  no_pins front form stem k (n ∷ pins) post bare other all e =
      let below = all 0 n refl in
      let zero-is : n.place ≡ 0 = omega arith in
      let rest = ((more_words pins ++ close_parenthesis ∷ []) ++ semicolon ∷ []) ++ post in
      let has = names (front ++ form ∷ numbered stem k ∷ open_parenthesis ∷ []) rest
      (e ∙ sym (append_assoc front (form ∷ numbered stem k ∷ open_parenthesis ∷ []) (numbered (codes "n") n.place ∷ rest)) ∙ ap (λ p. (front ++ form ∷ numbered stem k ∷ open_parenthesis ∷ []) ++ numbered (codes "n") p ∷ rest) zero-is) in
      absurd (bare (wires_back front (form ∷ numbered stem k ∷ open_parenthesis ∷ []) (other, (no_wire_name (stem ++ decimal k), (no_wire_mark 40, tt))) has))

  gates_none : (front : List Word) (k : ℕ) (gates : List EmuGate) (post : List Word) → (HasWire front → ⊥) → Each (IsGateOf 1) gates → words ≡ front ++ (lines_from gate_words k gates ++ post) → gates ≡ []
  gates_none front k [] post bare each e = refl
  gates_none front k (g ∷ gs) post bare each e =
      let is = each_head (IsGateOf 1) g gs each in
      let none = no_pins front (gate_form g) (codes "g") k (gate_pins g) (lines_from gate_words (k + 1) gs ++ post) bare
      (λ f. (let kind : rank (gate_form g) ≡ 0 = ap rank f in let own = gate_rank g.op (length g.inputs) in omega arith))
      (more_below 1 g.output g.inputs is.output is.inputs) (e ∙ ap (λ ws. front ++ ws) (append_assoc (gate_words (k, g)) (lines_from gate_words (k + 1) gs) post)) in
      absurd (let size : suc (length g.inputs) ≡ 0 = ap length none in omega arith)

  registers_none : (front : List Word) (k : ℕ) (registers : List EmuRegister) (post : List Word) → (HasWire front → ⊥) → Each (IsRegisterOf 1) registers → words ≡ front ++ (lines_from register_words k registers ++ post) → registers ≡ []
  registers_none front k [] post bare each e = refl
  registers_none front k (r ∷ rs) post bare each e =
      let is = each_head (IsRegisterOf 1) r rs each in
      let none = no_pins front (form_of_register r) (codes "r") k (pins_of_register r) (lines_from register_words (k + 1) rs ++ post) bare
      (no_wire_name (register_form r.d r.enable))
      (register_below 1 r is) (e ∙ ap (λ ws. front ++ ws) (append_assoc (register_words (k, r)) (lines_from register_words (k + 1) rs) post)) in
      absurd (let size : suc (length (register_pins r.d r.enable)) ≡ 0 = ap length none in omega arith)

  memories_bare : (front : List Word) (k : ℕ) (memories : List EmuMemory) (post : List Word) → (HasWire front → ⊥) → Each (IsMemoryOf 1) memories → words ≡ front ++ (lines_from memory_words k memories ++ post) → Each (IsMemoryOf 0) memories
  memories_bare front k [] post bare each e = no_each (IsMemoryOf 0)
  memories_bare front k (m ∷ ms) post bare each e =
      let is = each_head (IsMemoryOf 1) m ms each in
      let split : words ≡ front ++ (memory_words (k, m) ++ (lines_from memory_words (k + 1) ms ++ post)) = e ∙ ap (λ ws. front ++ ws) (append_assoc (memory_words (k, m)) (lines_from memory_words (k + 1) ms) post) in
      let none = no_pins front (name (memory_form m)) (codes "m") k (memory_pins m) (lines_from memory_words (k + 1) ms ++ post) bare (no_wire_name (memory_form m)) (memory_below 1 m is) split in
      let line : memory_words (k, m) ≡ name (memory_form m) ∷ pin_words (codes "m") k [] = ap (λ pins. name (memory_form m) ∷ pin_words (codes "m") k pins) none in
      let rest = memories_bare (front ++ memory_words (k, m)) (k + 1) ms post
      (λ has. bare (wires_back front (name (memory_form m) ∷ pin_words (codes "m") k []) (no_wire_name (memory_form m), (no_wire_name (codes "m" ++ decimal k), (no_wire_mark 40, (no_wire_mark 41, (no_wire_mark 59, tt))))) (subst (λ ws. HasWire (front ++ ws)) line has)))
      (each_tail (IsMemoryOf 1) m ms each) (split ∙ sym (append_assoc front (memory_words (k, m)) (lines_from memory_words (k + 1) ms ++ post))) in
      each_one_more (IsMemoryOf 0) m ms (memory_at 1 0 m is (subst (AreNetsOf 0) (sym none) (λ j n f. absurd (no_net j n f)))) rest
    where
      no_net : (j : ℕ) (n : ChipNetId) → slice_get {X = ChipNetId} [] j ≡ Some n → ⊥
      no_net j n f = cc

  strict_chip : (pre : List Word) (c : ℕ) (chip : Chip) (post : List Word) → HasLooseForms chip → words ≡ pre ++ (chip_words (c, chip) ++ post) → HasForms chip
  strict_chip pre c chip post is e = go chip.nets refl
    where
      bare : HasWire (pre ++ head_words c) → ⊥
      bare has = wire_module pre (wires_back (pre ++ key MODULE ∷ []) (numbered (codes "chip") c ∷ semicolon ∷ []) (no_wire_name (codes "chip" ++ decimal c), (no_wire_mark 59, tt))
          (subst HasWire (sym (append_assoc pre (key MODULE ∷ []) (numbered (codes "chip") c ∷ semicolon ∷ []))) has))

      split : words ≡ (pre ++ head_words c) ++ (body_words chip ++ post)
      split = e ∙ ap (λ ws. pre ++ ws) (append_assoc (head_words c) (body_words chip) post) ∙ sym (append_assoc pre (head_words c) (body_words chip ++ post))

      go : (n : ℕ) → chip.nets ≡ n → HasForms chip
      go (suc n) f =
          let same : nets_over chip.nets ≡ chip.nets = ap nets_over f ∙ sym f in
          record {
            few = is.few;
            gates = subst (λ m. Each (IsGateOf m) chip.gates) same is.gates;
            registers = subst (λ m. Each (IsRegisterOf m) chip.registers) same is.registers;
            memories = subst (λ m. Each (IsMemoryOf m) chip.memories) same is.memories;
          }
      go zero f =
          let one : nets_over chip.nets ≡ 1 = ap nets_over f in
          let at : words ≡ (pre ++ head_words c) ++ (t2 chip.gates chip.registers chip.memories ++ post) = split ∙ ap (λ m. (pre ++ head_words c) ++ ((wires m ++ t2 chip.gates chip.registers chip.memories) ++ post)) f in
          let gates = gates_none (pre ++ head_words c) 0 chip.gates (t3 chip.registers chip.memories ++ post) bare (subst (λ m. Each (IsGateOf m) chip.gates) one is.gates)
          (at ∙ ap (λ ws. (pre ++ head_words c) ++ ws) (append_assoc (lines gate_words chip.gates) (t3 chip.registers chip.memories) post)) in
          let at-2 : words ≡ (pre ++ head_words c) ++ (t3 chip.registers chip.memories ++ post) = at ∙ ap (λ gs. (pre ++ head_words c) ++ (t2 gs chip.registers chip.memories ++ post)) gates in
          let registers = registers_none (pre ++ head_words c) 0 chip.registers (t4 chip.memories ++ post) bare (subst (λ m. Each (IsRegisterOf m) chip.registers) one is.registers)
          (at-2 ∙ ap (λ ws. (pre ++ head_words c) ++ ws) (append_assoc (lines register_words chip.registers) (t4 chip.memories) post)) in
          let at-3 : words ≡ (pre ++ head_words c) ++ (t4 chip.memories ++ post) = at-2 ∙ ap (λ rs. (pre ++ head_words c) ++ (t3 rs chip.memories ++ post)) registers in
          let memories = memories_bare (pre ++ head_words c) 0 chip.memories (ends ++ post) bare (subst (λ m. Each (IsMemoryOf m) chip.memories) one is.memories)
          (at-3 ∙ ap (λ ws. (pre ++ head_words c) ++ ws) (append_assoc (lines memory_words chip.memories) ends post)) in
          record {
            few = is.few;
            gates = subst (λ gs. Each (IsGateOf chip.nets) gs) (sym gates) (no_each (IsGateOf chip.nets));
            registers = subst (λ rs. Each (IsRegisterOf chip.nets) rs) (sym registers) (no_each (IsRegisterOf chip.nets));
            memories = subst (λ m. Each (IsMemoryOf m) chip.memories) (sym f) memories;
          }

  strict_chips : (pre : List Word) (c : ℕ) (chips : List Chip) → Each HasLooseForms chips → words ≡ pre ++ lines_from chip_words c chips → Each HasForms chips
  strict_chips pre c [] each e = no_each HasForms
  strict_chips pre c (chip ∷ chips) each e =
      each_one_more HasForms chip chips (strict_chip pre c chip (lines_from chip_words (c + 1) chips) (each_head HasLooseForms chip chips each) e)
      (strict_chips (pre ++ chip_words (c, chip)) (c + 1) chips (each_tail HasLooseForms chip chips each) (e ∙ sym (append_assoc pre (chip_words (c, chip)) (lines_from chip_words (c + 1) chips))))

pub strict : (words : List Word) (chips : List Chip) → NamesDeclared words → SaysLoosely words chips → SaysChips words chips
strict words chips names is = record { words_are = is.words_are; forms = strict_chips words names [] 0 chips is.forms is.words_are }

-- The first wrong word.

begins_front : (words : List Word) (j k : ℕ) → k ≤ j → BeginsLoosely (take j words) → BeginsLoosely (take k words)
begins_front words j k less b = record {
  rest = drop k (take j words) ++ b.rest;
  chips = b.chips;
  says = subst (λ ws. SaysLoosely ws b.chips) (ap (λ ws. ws ++ b.rest) (front_split words j k less) ∙ append_assoc (take k words) (drop k (take j words)) b.rest) b.says;
} where
  front_split : (ws : List Word) (m n : ℕ) → n ≤ m → take m ws ≡ take n ws ++ drop n (take m ws)
  front_split ws m zero h = refl
  front_split [] m (suc n) h = absurd_empty m
    where
      absurd_empty : (m : ℕ) → take {A = Word} m [] ≡ [] ++ drop (suc n) (take m [])
      absurd_empty zero = refl
      absurd_empty (suc m) = refl
  front_split (w ∷ ws) zero (suc n) h = absurd (omega arith)
  front_split (w ∷ ws) (suc m) (suc n) h = ap (λ xs. w ∷ xs) (front_split ws m n (omega arith))

names_at : (words : List Word) (j k : ℕ) → k ≤ j → NamesDeclared (take j words) → NamesDeclared (take k words)
names_at words j k less names = names_front (take k words) (drop k (take j words)) (subst NamesDeclared (split words j k less) names)
  where
    split : (ws : List Word) (m n : ℕ) → n ≤ m → take m ws ≡ take n ws ++ drop n (take m ws)
    split ws m zero h = refl
    split [] zero (suc n) h = refl
    split [] (suc m) (suc n) h = refl
    split (w ∷ ws) zero (suc n) h = absurd (omega arith)
    split (w ∷ ws) (suc m) (suc n) h = ap (λ xs. w ∷ xs) (split ws m n (omega arith))

names_all : (words : List Word) (k : ℕ) → NamesDeclared words → NamesDeclared (take k words)
names_all words k names = names_front (take k words) (drop k words) (subst NamesDeclared (sym (take-append-drop k words)) names)

pub lacking_wrong : (words : List Word) (k : ℕ) → IsLacking words k → BeginsLoosely (take k words) → IsFirstWrong words k
lacking_wrong words k at b =
    let within = slice_get_within words k first_net at.there in
    record {
      inside = omega arith;
      before = record { rest = b.rest; chips = b.chips; says = b.says; declared = at.before };
      up_to = λ less named. at.none (named.declared (take k words) [] (next words k first_net at.there));
      at_end = λ end chips of. omega arith;
    }

reading_wrong : (words : List Word) (k : ℕ) → IsLooselyWrong words k → NamesDeclared (take k words) → IsFirstWrong words k
reading_wrong words k at names = record {
  inside = at.inside;
  before = record { rest = at.before.rest; chips = at.before.chips; says = at.before.says; declared = names };
  up_to = λ less b. at.up_to less (record { rest = b.rest; chips = b.chips; says = b.says });
  at_end = λ end chips of. at.at_end end chips (loosely words chips of);
}

-- the earlier of the two
pub earlier_wrong : (words : List Word) (found : Option ℕ) (k place : ℕ) → TellsLacking words found → IsLooselyWrong words k → IsEarlier found k place → IsFirstWrong words place
earlier_wrong words None k place names at e = subst (IsFirstWrong words) (sym e) (reading_wrong words k at (names_all words k names))
earlier_wrong words (Some q) k place lacking at (inl both) =
    subst (IsFirstWrong words) (sym both.1) (lacking_wrong words q lacking (begins_front words k q (let less = both.0 in omega arith) at.before))
earlier_wrong words (Some q) k place lacking at (inr both) =
    subst (IsFirstWrong words) (sym both.1) (reading_wrong words k at (names_at words q k both.0 lacking.before))

-- a text that is loosely a netlist goes on to one everywhere
pub begins_whole : (words : List Word) (chips : List Chip) (k : ℕ) → SaysLoosely words chips → BeginsLoosely (take k words)
begins_whole words chips k says = record {
  rest = drop k words;
  chips = chips;
  says = subst (λ ws. SaysLoosely ws chips) (sym (take-append-drop k words)) says;
}
