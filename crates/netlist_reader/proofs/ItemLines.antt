-- The lines of gates, of registers and of memories.
use Rattle.std.proofs.Common.{◌≡◌, ◌+◌, ◌<◌, ◌≤◌, ◌^◌, ℕ, zero, suc, IsTrue, Option, Some, None, List, [], ◌∷◌, ◌++◌, length, get_or, drop, slice_get, refl, sym, ap, ◌∙◌, subst, append_assoc, arith}
use Rattle.std.specs.Prelude.{Result, Ok, Err, IsErr, codes, IsSome, IfSome}
use Rattle.std.specs.Result.{IsErrAnd}
use Rattle.std.proofs.lemmas.Bool.{false≢true}
use Rattle.std.proofs.lemmas.List.{append-nil}
use Rattle.verilog_lex.specs.declared.keyword.TheConstants.{AND, BUF, NAND, NOR, NOT, OR, XNOR, XOR}
use Rattle.token_words.specs.Word.{Word, name, semicolon}
use Rattle.id_arena.specs.declared.keys.ChipNetId.{ChipNetId}
use Rattle.design_core.specs.declared.operation.Op.{Op}
use Rattle.design_core.specs.declared.operation.Op.TheVariants.{And, Nand, Or, Nor, Xor, Xnor, Buf, Not, Table}
use Rattle.design_core.specs.Design.{inputs_fit}
use Rattle.design_core.specs.Limits.{most_inputs}
use Rattle.emu_machine.specs.declared.netlist.EmuGate.{EmuGate}
use Rattle.emu_machine.specs.declared.netlist.EmuRegister.{EmuRegister}
use Rattle.emu_machine.specs.Building.{AreNetsOf, IsGateOf, IsRegisterOf}
use Rattle.netlist_writer.specs.NetlistText.{register_form, register_pins}
use Rattle.netlist_reader.specs.Netlist.{closed_words, form_of_register, gate_form, gate_pins, gate_words, op_word, pin_words, pins_of_register, register_words}
use Rattle.netlist_reader.specs.Inside.{ArePins, AreApart, Begins, EachBegins, IsRoom, Reads, ReadsNext}
use Rattle.netlist_reader.specs.declared.fault.Stop.{Stop}
use Rattle.netlist_reader.specs.declared.fault.Stop.TheVariants as stop
use Rattle.netlist_reader.specs.Forms.{IsGateFirst, IsRegisterFirst, IsShapeOf, ShowsRegister, TellsName, TellsRegister, register_text}
use Rattle.netlist_reader.specs.declared.pins.Room.{Room}
use Rattle.netlist_reader.specs.declared.shape.GateShape.{GateShape}
use Rattle.netlist_reader.proofs.Shapes.{key_op, same_tables}
use Rattle.netlist_reader.proofs.Stucks.{Holds, stuck_in}
use Rattle.netlist_reader.proofs.Terminals.{one_below, same_closed, tail_below}
use Rattle.netlist_reader.proofs.Instances.{some_pins}

-- the word that begins, and those behind it
pub first_word : (F : Word → Type 0) (ws : List Word) → Begins F ws → (w : Word) × (ws ≡ w ∷ drop 1 ws) × F w
first_word F [] b = absurd b
first_word F (w ∷ ws) b = (w, refl, b)

-- terminals behind a form
pub form_holds : {X : Type 0} (Is : X → Type 0) (form : X → Word) (pins : X → List ChipNetId) (stem : List ℕ) (k : ℕ) (room : Room) (w : Word) (mid : List Word)
    → ((ns : List ChipNetId) → ArePins room ns → (x : X) × Is x × (form x ≡ w) × (pins x ≡ ns))
    → ((x : X) → Is x → form x ≡ w → ArePins room (pins x))
    → Holds Is (ArePins room) (λ x. form x ∷ pin_words stem k (pins x)) (pin_words stem k) (w ∷ []) mid
form_holds Is form pins stem k room w mid make only = record {
  up = λ ns are.
      let made = make ns are in (
        made.0,
        [],
        made.1,
        (λ i. made.2 i ∷ pin_words stem k (made.3 i)) ∙ ap (λ ws. w ∷ ws) (sym (append-nil (pin_words stem k ns))),
      );
  down = λ x more words is follows e.
      let first : form x ≡ w = cc in
      let tails : pin_words stem k (pins x) ++ more ≡ words = cc in
      (pins x, more, only x is first, sym tails);
}

-- the words of a line whose form and terminals were taken
pub line_whole : (form w : Word) (stem : List ℕ) (k : ℕ) (pins ns : List ChipNetId) (before mid after : List Word) → before ≡ w ∷ mid → form ≡ w → pins ≡ ns → mid ≡ pin_words stem k ns ++ after → before ≡ (form ∷ pin_words stem k pins) ++ after
line_whole form w stem k pins ns before mid after e f g h =
    e ∙ ap (λ ws. w ∷ ws) h ∙ (λ i. sym f i ∷ (pin_words stem k (sym g i) ++ after))

-- the terminals of lines tell them apart
pub same_pins : (nets : ℕ) (stem : List ℕ) (k : ℕ) (ms ns : List ChipNetId) (v w : Word) (a b : List Word) → nets < 2 ^ 32 → AreNetsOf nets ms → AreNetsOf nets ns → (v ∷ pin_words stem k ms) ++ a ≡ (w ∷ pin_words stem k ns) ++ b → (v ≡ w) × (ms ≡ ns) × (a ≡ b)
same_pins nets stem k ms ns v w a b fits all all-2 e =
    let first : v ≡ w = cc in
    let tails : (closed_words ms ++ semicolon ∷ []) ++ a ≡ (closed_words ns ++ semicolon ∷ []) ++ b = ap (drop 3) e in
    let same = same_closed nets ms ns (semicolon ∷ a) (semicolon ∷ b) fits all all-2 (sym (append_assoc (closed_words ms) (semicolon ∷ []) a) ∙ tails ∙ append_assoc (closed_words ns) (semicolon ∷ []) b) in
    (first, same.0, ap (drop 1) same.1)

pub more_below : (nets : ℕ) (n : ChipNetId) (ns : List ChipNetId) → n.place < nets → AreNetsOf nets ns → AreNetsOf nets (n ∷ ns)
more_below nets n ns below all zero m e = (let same : n ≡ m = cc in subst (λ (x : ChipNetId). x.place < nets) same below)
more_below nets n ns below all (suc k) m e = all k m e

none_there : (nets k : ℕ) (m : ChipNetId) → slice_get {X = ChipNetId} [] k ≡ Some m → m.place < nets
none_there nets k m e = absurd (no_item k m e)
  where
    no_item : (j : ℕ) (n : ChipNetId) → slice_get {X = ChipNetId} [] j ≡ Some n → ⊥
    no_item j n f = cc

-- Gates.

gate_fits : (shape : GateShape) (nets : ℕ) (w : Word) (gate : EmuGate) (room : Room) → IsShapeOf shape w → room.least ≡ shape.least + 1 → room.most ≡ shape.most + 1 → room.nets ≡ nets → gate.op ≡ shape.op → ArePins room (gate_pins gate) → IsGateOf nets gate × (gate_form gate ≡ w)
gate_fits shape nets w gate room is l m n op are =
    let enough = are.enough in
    let few = are.few in
    let all : AreNetsOf nets (gate_pins gate) = subst (λ k. AreNetsOf k (gate_pins gate)) n are.below in
    let fits = is.fits (length gate.inputs) (omega arith) (omega arith) in (
      record {
        form = subst (λ o. IsTrue (inputs_fit o (length gate.inputs))) (sym op) fits.1;
        few = subst (λ o. length gate.inputs ≤ most_inputs o) (sym op) fits.2;
        output = all 0 gate.output refl;
        inputs = tail_below nets gate.output gate.inputs all;
      },
      ap (λ o. op_word o (length gate.inputs)) op ∙ fits.0,
    )

pub gate_made : (shape : GateShape) (nets : ℕ) (w : Word) (gate : EmuGate) (pins : List ChipNetId) (room : Room) → IsShapeOf shape w → room.least ≡ shape.least + 1 → room.most ≡ shape.most + 1 → room.nets ≡ nets → (gate.op ≡ shape.op) × (gate_pins gate ≡ pins) → ArePins room pins → IsGateOf nets gate × (gate_form gate ≡ w)
gate_made shape nets w gate pins room is l m n made are =
    gate_fits shape nets w gate room is l m n made.0 (subst (ArePins room) (sym made.1) are)

pub gate_holds : (shape : GateShape) (nets k : ℕ) (w : Word) (room : Room) (mid : List Word) → IsShapeOf shape w → room.least ≡ shape.least + 1 → room.most ≡ shape.most + 1 → room.nets ≡ nets → Holds (IsGateOf nets) (ArePins room) (λ gate. gate_words (k, gate)) (pin_words (codes "g") k) (w ∷ []) mid
gate_holds shape nets k w room mid is l m n =
    form_holds (IsGateOf nets) gate_form gate_pins (codes "g") k room w mid make only
  where
    make : (ns : List ChipNetId) → ArePins room ns → (gate : EmuGate) × IsGateOf nets gate × (gate_form gate ≡ w) × (gate_pins gate ≡ ns)
    make [] are = absurd (let enough = are.enough in omega arith)
    make (output ∷ inputs) are =
        let fits = gate_fits shape nets w (record { op = shape.op; output = output; inputs = inputs }) room is l m n refl are in
        (record { op = shape.op; output = output; inputs = inputs }, fits.0, fits.1, refl)

    only : (gate : EmuGate) → IsGateOf nets gate → gate_form gate ≡ w → ArePins room (gate_pins gate)
    only gate of e =
        let bounds = is.only gate.op (length gate.inputs) e of.form of.few in
        record { enough = omega (arith, bounds.1); few = omega (arith, bounds.2); below = subst (λ k. AreNetsOf k (gate_pins gate)) (sym n) (more_below nets gate.output gate.inputs of.output of.inputs) }

pub gate_begins : (nets : ℕ) → EachBegins (IsGateOf nets) (IsGateFirst nets) gate_words
gate_begins nets k gate after is = (gate, is, refl)

same_ops : (o p : Op) (m n : ℕ) → op_word o m ≡ op_word p n → IsTrue (inputs_fit o m) → m ≤ most_inputs o → IsTrue (inputs_fit p n) → n ≤ most_inputs p → o ≡ p
same_ops And p m n e f g h i = sym (key_op p n AND (sym e))
same_ops Nand p m n e f g h i = sym (key_op p n NAND (sym e))
same_ops Or p m n e f g h i = sym (key_op p n OR (sym e))
same_ops Nor p m n e f g h i = sym (key_op p n NOR (sym e))
same_ops Xor p m n e f g h i = sym (key_op p n XOR (sym e))
same_ops Xnor p m n e f g h i = sym (key_op p n XNOR (sym e))
same_ops Buf p m n e f g h i = sym (key_op p n BUF (sym e))
same_ops Not p m n e f g h i = sym (key_op p n NOT (sym e))
same_ops (Table t) p m n e f g h i = sym (same_tables m t p n g f (sym e) h i)

pub gates_apart : (nets : ℕ) → nets < 2 ^ 32 → AreApart (IsGateOf nets) gate_words
gates_apart nets fits k x y a b is is-2 e =
    let same = same_pins nets (codes "g") k (gate_pins x) (gate_pins y) (gate_form x) (gate_form y) a b fits
    (more_below nets x.output x.inputs is.output is.inputs) (more_below nets y.output y.inputs is-2.output is-2.inputs) e in
    let ops = same_ops x.op y.op (length x.inputs) (length y.inputs) same.0 is.form is.few is-2.form is-2.few in
    let pins = same.1 in
    let outputs : x.output ≡ y.output = cc in
    let inputs : x.inputs ≡ y.inputs = cc in
    (λ i. record { op = ops i; output = outputs i; inputs = inputs i }, same.2)

-- What is read of an item.

first_of_line : {X : Type 0} (Is : X → Type 0) (First : Word → Type 0) (line : ℕ × X → List Word) (k : ℕ) (x : X) (w : Word) (rest : List Word) → EachBegins Is First line → Is x → line (k, x) ≡ w ∷ rest → First w
first_of_line Is First line k x w rest begins is e = subst (λ ws. Begins First (ws ++ [])) e (begins k x [] is)

-- where reading stops in the terminals, it stops in the item
pub item_stop : {X : Type 0} (Is : X → Type 0) (First : Word → Type 0) (line : ℕ × X → List Word) (stem : List ℕ) (k : ℕ) (room : Room) (F : Word → Type 0) (before mid after : List Word) (r : Result (Option X) Stop) (s : Stop)
    → IsErr r × IsErrAnd r (λ e. e ≡ s) → EachBegins Is First line → IsRoom room → Begins F before → mid ≡ drop 1 before
    → ((w : Word) → F w → Holds Is (ArePins room) (λ x. line (k, x)) (pin_words stem k) (w ∷ []) mid)
    → Reads (ArePins room) (pin_words stem k) mid after (Err s) → ReadsNext Is First (λ x. line (k, x)) before after r
item_stop Is First line stem k room F before mid after (Ok x) s is begins fits begun e holds part = absurd is.1
item_stop Is First line stem k room F before mid after (Err f) s is begins fits begun e holds part =
    subst (λ g. ReadsNext Is First (λ x. line (k, x)) before after (Err g)) (sym is.1) (go s part)
  where
    go : (t : Stop) → Reads (ArePins room) (pin_words stem k) mid after (Err t) → ReadsNext Is First (λ x. line (k, x)) before after (Err t)
    go stop.Stuck stuck =
        let word = first_word F before begun in
        let there = holds word.0 word.2 in
        let some = some_pins room fits in
        let up = there.up some.0 some.1 in
        let split : before ≡ (word.0 ∷ []) ++ mid = word.1 ∙ ap (λ ws. word.0 ∷ ws) (sym e) in (
          subst (Begins First) (sym word.1) (first_of_line Is First line k up.0 word.0 (pin_words stem k some.0 ++ up.1) begins up.2 up.3),
          stuck_in Is (ArePins room) (λ x. line (k, x)) (pin_words stem k) (word.0 ∷ []) before mid after split stuck there,
        )
    go stop.NoMemory none = tt

pub gate_room : (nets least most : ℕ) (room : Room) → nets < 2 ^ 32 → 0 < nets → least ≤ most → room.least ≡ least + 1 → room.most ≡ most + 1 → room.nets ≡ nets → IsRoom room
gate_room nets least most room fits some order l m n = record { order = omega arith; some = λ there. omega arith; there = λ there. omega arith; small = omega arith }

pub gate_done : (shape : GateShape) (nets k : ℕ) (gate : EmuGate) (pins : List ChipNetId) (room : Room) (before mid after : List Word) → room.least ≡ shape.least + 1 → room.most ≡ shape.most + 1 → room.nets ≡ nets → Begins (IsShapeOf shape) before → mid ≡ drop 1 before → ArePins room pins × (mid ≡ pin_words (codes "g") k pins ++ after) → (gate.op ≡ shape.op) × (gate_pins gate ≡ pins) → IsGateOf nets gate × (before ≡ gate_words (k, gate) ++ after)
gate_done shape nets k gate pins room before mid after l m n begun e taken made =
    let word = first_word (IsShapeOf shape) before begun in
    let fits = gate_made shape nets word.0 gate pins room word.2 l m n made taken.0 in
    (fits.0, line_whole (gate_form gate) word.0 (codes "g") k (gate_pins gate) pins before mid after (word.1 ∙ ap (λ ws. word.0 ∷ ws) (sym e)) fits.1 made.1 taken.1)

-- the order of a shape
pub shape_order : (shape : GateShape) (before : List Word) → Begins (IsShapeOf shape) before → shape.least ≤ shape.most
shape_order shape before begun = (first_word (IsShapeOf shape) before begun).2.order

-- Registers.

register_fits : (q : ChipNetId) (d enable : Option ChipNetId) (nets count : ℕ) → (IsSome enable → IsSome d) → length (pins_of_register (record { q = q; d = d; enable = enable })) ≡ count → AreNetsOf nets (pins_of_register (record { q = q; d = d; enable = enable })) → IsRegisterOf nets (record { q = q; d = d; enable = enable }) × (form_of_register (record { q = q; d = d; enable = enable }) ≡ name (register_text count))
register_fits q None None nets count loaded size all = (record { q = all 0 q refl; d = tt; enable = tt; loaded = loaded }, ap (λ n. name (register_text n)) size)
register_fits q None (Some e) nets count loaded size all = absurd (false≢true (loaded refl))
register_fits q (Some d) None nets count loaded size all = (record { q = all 0 q refl; d = all 1 d refl; enable = tt; loaded = loaded }, ap (λ n. name (register_text n)) size)
register_fits q (Some d) (Some e) nets count loaded size all = (record { q = all 0 q refl; d = all 1 d refl; enable = all 2 e refl; loaded = loaded }, ap (λ n. name (register_text n)) size)

-- a register with given terminals
register_with : (ns : List ChipNetId) → 0 < length ns → length ns ≤ 3 → (register : EmuRegister) × (pins_of_register register ≡ ns) × (IsSome register.enable → IsSome register.d)
register_with [] some few = absurd (omega arith)
register_with (q ∷ []) some few = (record { q = q; d = None; enable = None }, refl, λ e. e)
register_with (q ∷ d ∷ []) some few = (record { q = q; d = Some d; enable = None }, refl, λ e. refl)
register_with (q ∷ d ∷ e ∷ []) some few = (record { q = q; d = Some d; enable = Some e }, refl, λ f. refl)
register_with (q ∷ d ∷ e ∷ n ∷ ns) some few = absurd (omega arith)

register_size : (register : EmuRegister) (count : ℕ) → 0 < count → count ≤ 3 → form_of_register register ≡ name (register_text count) → (IsSome register.enable → IsSome register.d) → length (pins_of_register register) ≡ count
register_size register zero some few e loaded = absurd (omega arith)
register_size register (suc zero) some few e loaded = go register.d register.enable (ap (λ (w : Word). get_or w.name 1 0 + length w.name) e)
  where
    go : (d enable : Option ChipNetId) → ◌≡◌ {A = ℕ} (get_or (register_form d enable) 1 0 + length (register_form d enable)) 77 → length (register.q ∷ register_pins d enable) ≡ 1
    go None enable f = refl
    go (Some d) None f = absurd (omega arith)
    go (Some d) (Some x) f = absurd (omega arith)
register_size register (suc (suc zero)) some few e loaded = go register.d register.enable (ap (λ (w : Word). get_or w.name 1 0 + length w.name) e)
  where
    go : (d enable : Option ChipNetId) → ◌≡◌ {A = ℕ} (get_or (register_form d enable) 1 0 + length (register_form d enable)) 86 → length (register.q ∷ register_pins d enable) ≡ 2
    go None enable f = absurd (omega arith)
    go (Some d) None f = refl
    go (Some d) (Some x) f = absurd (omega arith)
register_size register (suc (suc (suc zero))) some few e loaded = go register.d register.enable (ap (λ (w : Word). get_or w.name 1 0 + length w.name) e)
  where
    go : (d enable : Option ChipNetId) → ◌≡◌ {A = ℕ} (get_or (register_form d enable) 1 0 + length (register_form d enable)) 87 → length (register.q ∷ register_pins d enable) ≡ 3
    go None enable f = absurd (omega arith)
    go (Some d) None f = absurd (omega arith)
    go (Some d) (Some x) f = refl
register_size register (suc (suc (suc (suc k)))) some few e loaded = absurd (omega arith)

pub register_below : (nets : ℕ) (register : EmuRegister) → IsRegisterOf nets register → AreNetsOf nets (pins_of_register register)
register_below nets register is = more_below nets register.q (register_pins register.d register.enable) is.q (go register.d register.enable is.d is.enable)
  where
    go : (d enable : Option ChipNetId) → IfSome d (λ n. n.place < nets) → IfSome enable (λ n. n.place < nets) → AreNetsOf nets (register_pins d enable)
    go None enable a b = λ k m e. none_there nets k m e
    go (Some d) None a b = one_below nets d a
    go (Some d) (Some x) a b = more_below nets d (x ∷ []) a (one_below nets x b)

pub register_holds : (nets count k : ℕ) (w : Word) (room : Room) (mid : List Word) → w ≡ name (register_text count) → 0 < count → count ≤ 3 → room.least ≡ count → room.most ≡ count → room.nets ≡ nets → Holds (IsRegisterOf nets) (ArePins room) (λ register. register_words (k, register)) (pin_words (codes "r") k) (w ∷ []) mid
register_holds nets count k w room mid is some few-of l m n =
    form_holds (IsRegisterOf nets) form_of_register pins_of_register (codes "r") k room w mid make only
  where
    make : (ns : List ChipNetId) → ArePins room ns → (register : EmuRegister) × IsRegisterOf nets register × (form_of_register register ≡ w) × (pins_of_register register ≡ ns)
    make ns are =
        let enough = are.enough in
        let few = are.few in
        let with = register_with ns (omega arith) (omega arith) in
        let size : length (pins_of_register with.0) ≡ length ns = ap length with.1 in
        let below : AreNetsOf nets (pins_of_register with.0) = subst (λ j. AreNetsOf j (pins_of_register with.0)) n (subst (AreNetsOf room.nets) (sym with.1) are.below) in
        let fits = register_fits with.0.q with.0.d with.0.enable nets count with.2 (omega arith) below in
        (with.0, fits.0, fits.1 ∙ sym is, with.1)

    only : (register : EmuRegister) → IsRegisterOf nets register → form_of_register register ≡ w → ArePins room (pins_of_register register)
    only register of e =
        let size = register_size register count some few-of (e ∙ is) of.loaded in
        record { enough = omega arith; few = omega arith; below = subst (λ j. AreNetsOf j (pins_of_register register)) (sym n) (register_below nets register of) }

pub register_room : (nets count : ℕ) (room : Room) → nets < 2 ^ 32 → 0 < nets → 0 < count → room.least ≡ count → room.most ≡ count → room.nets ≡ nets → IsRoom room
register_room nets count room fits some there l m n = record { order = omega arith; some = λ h. omega arith; there = λ h. omega arith; small = omega arith }

pub register_done : (nets count k : ℕ) (register : EmuRegister) (pins : List ChipNetId) (room : Room) (before mid after : List Word) → room.least ≡ count → room.most ≡ count → room.nets ≡ nets → Begins (λ w. w ≡ name (register_text count)) before → mid ≡ drop 1 before → ArePins room pins × (mid ≡ pin_words (codes "r") k pins ++ after) → pins_of_register register ≡ pins → (IsSome register.enable → IsSome register.d) → IsRegisterOf nets register × (before ≡ register_words (k, register) ++ after)
register_done nets count k register pins room before mid after l m n begun e taken made loaded =
    let word = first_word (λ w. w ≡ name (register_text count)) before begun in
    let enough = taken.0.enough in
    let few = taken.0.few in
    let size : length (pins_of_register register) ≡ length pins = ap length made in
    let below : AreNetsOf nets (pins_of_register register) = subst (λ j. AreNetsOf j (pins_of_register register)) n (subst (AreNetsOf room.nets) (sym made) taken.0.below) in
    let fits = register_fits register.q register.d register.enable nets count loaded (omega arith) below in
    (fits.0, line_whole (form_of_register register) word.0 (codes "r") k (pins_of_register register) pins before mid after (word.1 ∙ ap (λ ws. word.0 ∷ ws) (sym e)) (fits.1 ∙ sym word.2) made taken.1)

pub register_begins : (nets : ℕ) → EachBegins (IsRegisterOf nets) (IsRegisterFirst nets) register_words
register_begins nets k register after is = (register, is, refl)

registers_same : (q q-2 : ChipNetId) (d d-2 e e-2 : Option ChipNetId) → (IsSome e → IsSome d) → (IsSome e-2 → IsSome d-2) → q ∷ register_pins d e ≡ q-2 ∷ register_pins d-2 e-2 → ◌≡◌ {A = EmuRegister} (record { q = q; d = d; enable = e }) (record { q = q-2; d = d-2; enable = e-2 })
registers_same q q-2 None None None None a b e = (cc)
registers_same q q-2 None None (Some x) e-2 a b e = absurd (false≢true (a refl))
registers_same q q-2 None None None (Some y) a b e = absurd (false≢true (b refl))
registers_same q q-2 None (Some d) x None a b e = absurd (let size : ◌≡◌ {A = ℕ} 1 2 = ap length e in omega arith)
registers_same q q-2 None (Some d) x (Some y) a b e = absurd (let size : ◌≡◌ {A = ℕ} 1 3 = ap length e in omega arith)
registers_same q q-2 (Some d) None None y a b e = absurd (let size : ◌≡◌ {A = ℕ} 2 1 = ap length e in omega arith)
registers_same q q-2 (Some d) None (Some x) y a b e = absurd (let size : ◌≡◌ {A = ℕ} 3 1 = ap length e in omega arith)
registers_same q q-2 (Some d) (Some d-2) None None a b e = (cc)
registers_same q q-2 (Some d) (Some d-2) (Some x) (Some y) a b e = (cc)
registers_same q q-2 (Some d) (Some d-2) None (Some y) a b e = absurd (let size : ◌≡◌ {A = ℕ} 2 3 = ap length e in omega arith)
registers_same q q-2 (Some d) (Some d-2) (Some x) None a b e = absurd (let size : ◌≡◌ {A = ℕ} 3 2 = ap length e in omega arith)

pub registers_apart : (nets : ℕ) → nets < 2 ^ 32 → AreApart (IsRegisterOf nets) register_words
registers_apart nets fits k x y a b is is-2 e =
    let same = same_pins nets (codes "r") k (pins_of_register x) (pins_of_register y) (form_of_register x) (form_of_register y) a b fits (register_below nets x is) (register_below nets y is-2) e in
    (registers_same x.q y.q x.d y.d x.enable y.enable is.loaded is-2.loaded same.1, same.2)

-- what the next word shows
pub shows_register : (nets : ℕ) (words : List Word) (bytes : List ℕ) (found : Option ℕ) → 0 < nets → TellsName words bytes → TellsRegister bytes found → ShowsRegister nets words found
shows_register nets words bytes (Some count) some names is = (
  subst (λ b. Begins (λ w. w ≡ name b) words) is.2 (names.there (subst (λ b. 0 < length b) (sym is.2) (named count is.0 is.1))),
  is.0,
  is.1,
  some,
) where
  named : (n : ℕ) → 0 < n → n ≤ 3 → 0 < length (register_text n)
  named zero a b = absurd (omega arith)
  named (suc zero) a b = omega arith
  named (suc (suc zero)) a b = omega arith
  named (suc (suc (suc zero))) a b = omega arith
  named (suc (suc (suc (suc n)))) a b = absurd (omega arith)
shows_register nets words bytes None some names none = λ b.
    let word = first_word (IsRegisterFirst nets) words b in
    let of = word.2 in
    none of.0.d of.0.enable (sym (names.only (register_form of.0.d of.0.enable) (subst (Begins (λ w. w ≡ form_of_register of.0)) (sym word.1) (sym of.2))))
