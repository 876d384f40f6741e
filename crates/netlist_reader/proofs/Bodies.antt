-- What stands behind the head of a module.
use Rattle.std.proofs.Common.{◌≡◌, ◌<◌, ◌≤◌, ◌^◌, ℕ, zero, suc, List, [], ◌∷◌, ◌++◌, Some, None, Option, Result, Ok, Err, length, get_or, slice_get, refl, sym, ap, ◌∙◌, subst, append_assoc, arith}
use Rattle.std.specs.Prelude.{IsErr, ◌==◌, if◌then◌else◌}
use Rattle.std.specs.Result.{IsErrAnd}
use Rattle.token_words.specs.Word.{Word, key, name}
use Rattle.verilog_lex.specs.declared.keyword.TheConstants.{ENDMODULE, WIRE}
use Rattle.verilog_lex.specs.declared.token.TokenKind.{TokenKind}
use Rattle.verilog_lex.specs.declared.token.TokenKind.TheVariants.{Name, Keyword, Number, Constant, Mark}
use Rattle.id_arena.specs.declared.keys.ChipNetId.{ChipNetId}
use Rattle.design_core.specs.declared.operation.Op.{Op}
use Rattle.design_core.specs.declared.operation.Op.TheVariants.{And, Nand, Or, Nor, Xor, Xnor, Buf, Not, Table}
use Rattle.emu_machine.specs.declared.netlist.Chip.{Chip}
use Rattle.emu_machine.specs.declared.netlist.EmuGate.{EmuGate}
use Rattle.emu_machine.specs.declared.netlist.EmuMemory.{EmuMemory}
use Rattle.emu_machine.specs.declared.netlist.EmuRegister.{EmuRegister}
use Rattle.emu_machine.specs.Building.{IsGateOf, IsMemoryOf, IsRegisterOf}
use Rattle.netlist_writer.specs.NetlistText.{register_form}
use Rattle.netlist_reader.specs.Netlist.{Each, body_words, gate_words, lines, memory_words, op_word, register_words, wires}
use Rattle.netlist_reader.specs.Faults.{HasLooseForms, nets_over}
use Rattle.netlist_reader.specs.Inside.{Anything, Begins, Follows, NoMore, Reads, ReadsAll}
use Rattle.netlist_reader.specs.Forms.{IsGateFirst, IsMemoryFirst, IsRegisterFirst}
use Rattle.netlist_reader.specs.Wires.{IsNetCount, IsWireWord}
use Rattle.netlist_reader.specs.declared.fault.Stop.{Stop}
use Rattle.netlist_reader.specs.declared.fault.Stop.TheVariants as stop
use Rattle.netlist_reader.proofs.ItemLines.{gate_begins, gates_apart, register_begins, registers_apart}
use Rattle.netlist_reader.proofs.MemoryLines.{memories_apart, memory_begins}
use Rattle.netlist_reader.proofs.NumberedLines.{lines_apart}
use Rattle.netlist_reader.proofs.Stucks.{due, follows_split, no_more, stops, within}
use Rattle.netlist_reader.proofs.WireLines.{same_wires}

-- The parts have first words of different kinds: declarations 0, gates 1, registers 2, memories 3, the end 4.

abbrev kind_rank : TokenKind → List ℕ → ℕ
kind_rank Name bytes = if get_or bytes 0 0 == 76 then 1 else (if get_or bytes 1 0 == 77 then 3 else 2)
kind_rank (Keyword p) bytes = if p == WIRE then 0 else (if p == ENDMODULE then 4 else 1)
kind_rank (Number n) bytes = 9
kind_rank (Constant s v) bytes = 9
kind_rank (Mark b) bytes = 9

abbrev pub rank : Word → ℕ
rank w = kind_rank w.kind w.name

pub gate_rank : (op : Op) (n : ℕ) → rank (op_word op n) ≡ 1
gate_rank And n = refl
gate_rank Nand n = refl
gate_rank Or n = refl
gate_rank Nor n = refl
gate_rank Xor n = refl
gate_rank Xnor n = refl
gate_rank Buf n = refl
gate_rank Not n = refl
gate_rank (Table t) n = refl

pub register_rank : (d enable : Option ChipNetId) → rank (name (register_form d enable)) ≡ 2
register_rank None enable = refl
register_rank (Some d) None = refl
register_rank (Some d) (Some e) = refl

-- the words that are left behind each part
abbrev pub ends : List Word
ends = key ENDMODULE ∷ []

abbrev pub t4 : List EmuMemory → List Word
t4 ms = lines memory_words ms ++ ends

abbrev pub t3 : List EmuRegister → List EmuMemory → List Word
t3 rs ms = lines register_words rs ++ t4 ms

abbrev pub t2 : List EmuGate → List EmuRegister → List EmuMemory → List Word
t2 gs rs ms = lines gate_words gs ++ t3 rs ms

abbrev From : ℕ → Word → Type 0
From least w = least ≤ rank w

t4_from : (ms : List EmuMemory) (more : List Word) → Begins (From 3) (t4 ms ++ more)
t4_from [] more = omega arith
t4_from (m ∷ ms) more = omega arith

t3_from : (rs : List EmuRegister) (ms : List EmuMemory) (more : List Word) → Begins (From 2) (t3 rs ms ++ more)
t3_from [] [] more = omega arith
t3_from [] (m ∷ ms) more = omega arith
t3_from (r ∷ rs) ms more = (let is = register_rank r.d r.enable in omega arith)

t2_from : (gs : List EmuGate) (rs : List EmuRegister) (ms : List EmuMemory) (more : List Word) → Begins (From 1) (t2 gs rs ms ++ more)
t2_from [] [] [] more = omega arith
t2_from [] [] (m ∷ ms) more = omega arith
t2_from [] (r ∷ rs) ms more = (let is = register_rank r.d r.enable in omega arith)
t2_from (g ∷ gs) rs ms more = (let is = gate_rank g.op (length g.inputs) in omega arith)

apart_by : (F : Word → Type 0) (r : ℕ) → ((w : Word) → F w → rank w ≡ r) → (ws : List Word) → Begins (From (suc r)) ws → NoMore F ws
apart_by F r of [] from b = b
apart_by F r of (w ∷ ws) from b = (let is = of w b in omega arith)

no_wire : (ws : List Word) → Begins (From 1) ws → NoMore IsWireWord ws
no_wire = apart_by IsWireWord 0 (λ w e. ap rank e)

no_gate : (nets : ℕ) (ws : List Word) → Begins (From 2) ws → NoMore (IsGateFirst nets) ws
no_gate nets = apart_by (IsGateFirst nets) 1 (λ w b. ap rank (sym b.2) ∙ gate_rank b.0.op (length b.0.inputs))

no_register : (nets : ℕ) (ws : List Word) → Begins (From 3) ws → NoMore (IsRegisterFirst nets) ws
no_register nets = apart_by (IsRegisterFirst nets) 2 (λ w b. ap rank (sym b.2) ∙ register_rank b.0.d b.0.enable)

no_memory : (nets : ℕ) (ws : List Word) → Begins (From 4) ws → NoMore (IsMemoryFirst nets) ws
no_memory nets = apart_by (IsMemoryFirst nets) 3 (λ w b. ap rank (sym b.2))

pub over_fits : (nets : ℕ) → nets < 2 ^ 32 → nets_over nets < 2 ^ 32
over_fits zero fits = omega arith
over_fits (suc nets) fits = fits

-- The parts of a body that begins with parts that were read.

record AtNets (nets : ℕ) (chip : Chip) : Type 0 where
  gates : Each (IsGateOf nets) chip.gates
  registers : Each (IsRegisterOf nets) chip.registers
  memories : Each (IsMemoryOf nets) chip.memories

at_nets : (nets m : ℕ) (chip : Chip) → m ≡ nets_over nets → HasLooseForms chip → chip.nets ≡ nets → AtNets m chip
at_nets nets m chip same is e =
    let over : nets_over chip.nets ≡ m = ap nets_over e ∙ sym same in
    record {
      gates = subst (λ n. Each (IsGateOf n) chip.gates) over is.gates;
      registers = subst (λ n. Each (IsRegisterOf n) chip.registers) over is.registers;
      memories = subst (λ n. Each (IsMemoryOf n) chip.memories) over is.memories;
    }

after_wires : (nets : ℕ) (chip : Chip) (more words : List Word) → NoMore IsWireWord words → body_words chip ++ more ≡ wires nets ++ words → (chip.nets ≡ nets) × (t2 chip.gates chip.registers chip.memories ++ more ≡ words)
after_wires nets chip more words none e =
    same_wires chip.nets nets (t2 chip.gates chip.registers chip.memories ++ more) words
    (no_wire (t2 chip.gates chip.registers chip.memories ++ more) (t2_from chip.gates chip.registers chip.memories more)) none
    (sym (append_assoc (wires chip.nets) (t2 chip.gates chip.registers chip.memories) more) ∙ e)

after_gates : (nets : ℕ) (chip : Chip) (gs : List EmuGate) (more words : List Word) → nets < 2 ^ 32 → AtNets nets chip → Each (IsGateOf nets) gs → NoMore (IsGateFirst nets) words → t2 chip.gates chip.registers chip.memories ++ more ≡ lines gate_words gs ++ words → (chip.gates ≡ gs) × (t3 chip.registers chip.memories ++ more ≡ words)
after_gates nets chip gs more words fits is each none e =
    lines_apart (IsGateOf nets) gate_words (IsGateFirst nets) (gate_begins nets) (gates_apart nets fits) chip.gates gs (t3 chip.registers chip.memories ++ more) words is.gates each
    (no_gate nets (t3 chip.registers chip.memories ++ more) (t3_from chip.registers chip.memories more)) none
    (sym (append_assoc (lines gate_words chip.gates) (t3 chip.registers chip.memories) more) ∙ e)

after_registers : (nets : ℕ) (chip : Chip) (rs : List EmuRegister) (more words : List Word) → nets < 2 ^ 32 → AtNets nets chip → Each (IsRegisterOf nets) rs → NoMore (IsRegisterFirst nets) words → t3 chip.registers chip.memories ++ more ≡ lines register_words rs ++ words → (chip.registers ≡ rs) × (t4 chip.memories ++ more ≡ words)
after_registers nets chip rs more words fits is each none e =
    lines_apart (IsRegisterOf nets) register_words (IsRegisterFirst nets) (register_begins nets) (registers_apart nets fits) chip.registers rs (t4 chip.memories ++ more) words is.registers each
    (no_register nets (t4 chip.memories ++ more) (t4_from chip.memories more)) none
    (sym (append_assoc (lines register_words chip.registers) (t4 chip.memories) more) ∙ e)

after_memories : (nets : ℕ) (chip : Chip) (ms : List EmuMemory) (more words : List Word) → nets < 2 ^ 32 → AtNets nets chip → Each (IsMemoryOf nets) ms → NoMore (IsMemoryFirst nets) words → t4 chip.memories ++ more ≡ lines memory_words ms ++ words → (chip.memories ≡ ms) × (ends ++ more ≡ words)
after_memories nets chip ms more words fits is each none e =
    lines_apart (IsMemoryOf nets) memory_words (IsMemoryFirst nets) (memory_begins nets) (memories_apart nets fits) chip.memories ms (ends ++ more) words is.memories each
    (no_memory nets (ends ++ more) (omega arith)) none
    (sym (append_assoc (lines memory_words chip.memories) ends more) ∙ e)

-- Where reading stops in a part, it stops in the body.

pub no_each : {P : Type 0} (Is : P → Type 0) → Each Is []
no_each {P = P} Is = λ k p e. absurd (no_port k p e)
  where
    no_port : (j : ℕ) (q : P) → slice_get {X = P} [] j ≡ Some q → ⊥
    no_port j q f = cc

forms_of : (nets m : ℕ) (gs : List EmuGate) (rs : List EmuRegister) (ms : List EmuMemory) → m ≡ nets_over nets → nets < 2 ^ 32 → Each (IsGateOf m) gs → Each (IsRegisterOf m) rs → Each (IsMemoryOf m) ms → HasLooseForms (record { nets = nets; gates = gs; registers = rs; memories = ms })
forms_of nets m gs rs ms same fits g r e = record {
  few = fits;
  gates = subst (λ n. Each (IsGateOf n) gs) same g;
  registers = subst (λ n. Each (IsRegisterOf n) rs) same r;
  memories = subst (λ n. Each (IsMemoryOf n) ms) same e;
}

part_stops : {B : Type 0} (IsB : B → Type 0) (F : Word → Type 0) (line_b : B → List Word) (front before mid after : List Word) (r : Result Chip Stop) (s : Stop)
    → IsErr r × IsErrAnd r (λ e. e ≡ s) → before ≡ front ++ mid
    → ((b : B) → IsB b → (a : Chip) × (rest : List Word) × HasLooseForms a × (body_words a ≡ front ++ (line_b b ++ rest)))
    → ((a : Chip) (more words : List Word) → HasLooseForms a → Follows mid words → body_words a ++ more ≡ front ++ words → (b : B) × (rest : List Word) × IsB b × NoMore F rest × (words ≡ line_b b ++ rest))
    → ReadsAll IsB F line_b mid after (Err s) → Reads HasLooseForms body_words before after r
part_stops IsB F line_b front before mid after (Ok chip) s is split up down part = absurd is.1
part_stops IsB F line_b front before mid after (Err e) s is split up down part = subst (λ f. Reads HasLooseForms body_words before after (Err f)) (sym is.1) (go s part)
  where
    go : (t : Stop) → ReadsAll IsB F line_b mid after (Err t) → Reads HasLooseForms body_words before after (Err t)
    go stop.Stuck stuck =
        within HasLooseForms IsB Anything (NoMore F) body_words line_b front before mid after split stuck up
        (λ a more words of may follows f. down a more words of follows f)
    go stop.NoMemory none = tt

pub nets_stop : (before after : List Word) (r : Result Chip Stop) (s : Stop) → IsErr r × IsErrAnd r (λ e. e ≡ s) → ReadsAll IsNetCount IsWireWord wires before after (Err s) → Reads HasLooseForms body_words before after r
nets_stop before after r s is part =
    part_stops IsNetCount IsWireWord wires [] before before after r s is refl
    (λ n fits. (record { nets = n; gates = []; registers = []; memories = [] }, ends, forms_of n (nets_over n) [] [] [] refl fits (no_each (IsGateOf (nets_over n))) (no_each (IsRegisterOf (nets_over n))) (no_each (IsMemoryOf (nets_over n))), refl))
    (λ chip more words of follows e. (
      chip.nets,
      t2 chip.gates chip.registers chip.memories ++ more,
      of.few,
      no_wire (t2 chip.gates chip.registers chip.memories ++ more) (t2_from chip.gates chip.registers chip.memories more),
      sym e ∙ append_assoc (wires chip.nets) (t2 chip.gates chip.registers chip.memories) more,
    ))
    part

module _ (nets m : ℕ) (same : m ≡ nets_over nets) (fits : nets < 2 ^ 32) (before m1 : List Word) (s1 : before ≡ wires nets ++ m1) (n1 : NoMore IsWireWord m1) where
  m_fits : m < 2 ^ 32
  m_fits = subst (λ n. n < 2 ^ 32) (sym same) (over_fits nets fits)

  peel_wires : (chip : Chip) (more words : List Word) → HasLooseForms chip → Follows m1 words → body_words chip ++ more ≡ wires nets ++ words → AtNets m chip × (t2 chip.gates chip.registers chip.memories ++ more ≡ words)
  peel_wires chip more words of follows e =
      let parts = after_wires nets chip more words (no_more IsWireWord m1 words follows n1) e in
      (at_nets nets m chip same of parts.0, parts.1)

  pub gates_stop : (after : List Word) (r : Result Chip Stop) (s : Stop) → IsErr r × IsErrAnd r (λ e. e ≡ s) → ReadsAll (Each (IsGateOf m)) (IsGateFirst m) (lines gate_words) m1 after (Err s) → Reads HasLooseForms body_words before after r
  gates_stop after r s is part =
      part_stops (Each (IsGateOf m)) (IsGateFirst m) (lines gate_words) (wires nets) before m1 after r s is s1
      (λ gs each. (record { nets = nets; gates = gs; registers = []; memories = [] }, ends, forms_of nets m gs [] [] same fits each (no_each (IsRegisterOf m)) (no_each (IsMemoryOf m)), refl))
      (λ chip more words of follows e.
      let peeled = peel_wires chip more words of follows e in (
        chip.gates,
        t3 chip.registers chip.memories ++ more,
        peeled.0.gates,
        no_gate m (t3 chip.registers chip.memories ++ more) (t3_from chip.registers chip.memories more),
        sym peeled.1 ∙ append_assoc (lines gate_words chip.gates) (t3 chip.registers chip.memories) more,
      ))
      part

  module _ (gs : List EmuGate) (m2 : List Word) (g-each : Each (IsGateOf m) gs) (s2 : m1 ≡ lines gate_words gs ++ m2) (n2 : NoMore (IsGateFirst m) m2) where
    split_2 : before ≡ (wires nets ++ lines gate_words gs) ++ m2
    split_2 = s1 ∙ ap (λ ws. wires nets ++ ws) s2 ∙ sym (append_assoc (wires nets) (lines gate_words gs) m2)

    peel_gates : (chip : Chip) (more words : List Word) → HasLooseForms chip → Follows m2 words → body_words chip ++ more ≡ (wires nets ++ lines gate_words gs) ++ words → AtNets m chip × (t3 chip.registers chip.memories ++ more ≡ words)
    peel_gates chip more words of follows e =
        let first = peel_wires chip more (lines gate_words gs ++ words) of (follows_split m1 (lines gate_words gs) m2 words s2 follows) (e ∙ append_assoc (wires nets) (lines gate_words gs) words) in
        let second = after_gates m chip gs more words m_fits first.0 g-each (no_more (IsGateFirst m) m2 words follows n2) first.1 in
        (first.0, second.1)

    pub registers_stop : (after : List Word) (r : Result Chip Stop) (s : Stop) → IsErr r × IsErrAnd r (λ e. e ≡ s) → ReadsAll (Each (IsRegisterOf m)) (IsRegisterFirst m) (lines register_words) m2 after (Err s) → Reads HasLooseForms body_words before after r
    registers_stop after r s is part =
        part_stops (Each (IsRegisterOf m)) (IsRegisterFirst m) (lines register_words) (wires nets ++ lines gate_words gs) before m2 after r s is split_2
        (λ rs each. (record { nets = nets; gates = gs; registers = rs; memories = [] }, ends, forms_of nets m gs rs [] same fits g-each each (no_each (IsMemoryOf m)), sym (append_assoc (wires nets) (lines gate_words gs) (lines register_words rs ++ ends))))
        (λ chip more words of follows e.
        let peeled = peel_gates chip more words of follows e in (
          chip.registers,
          t4 chip.memories ++ more,
          peeled.0.registers,
          no_register m (t4 chip.memories ++ more) (t4_from chip.memories more),
          sym peeled.1 ∙ append_assoc (lines register_words chip.registers) (t4 chip.memories) more,
        ))
        part

    module _ (rs : List EmuRegister) (m3 : List Word) (r-each : Each (IsRegisterOf m) rs) (s3 : m2 ≡ lines register_words rs ++ m3) (n3 : NoMore (IsRegisterFirst m) m3) where
      split_3 : before ≡ ((wires nets ++ lines gate_words gs) ++ lines register_words rs) ++ m3
      split_3 = split_2 ∙ ap (λ ws. (wires nets ++ lines gate_words gs) ++ ws) s3 ∙ sym (append_assoc (wires nets ++ lines gate_words gs) (lines register_words rs) m3)

      peel_registers : (chip : Chip) (more words : List Word) → HasLooseForms chip → Follows m3 words → body_words chip ++ more ≡ ((wires nets ++ lines gate_words gs) ++ lines register_words rs) ++ words → AtNets m chip × (t4 chip.memories ++ more ≡ words)
      peel_registers chip more words of follows e =
          let first = peel_gates chip more (lines register_words rs ++ words) of (follows_split m2 (lines register_words rs) m3 words s3 follows) (e ∙ append_assoc (wires nets ++ lines gate_words gs) (lines register_words rs) words) in
          let second = after_registers m chip rs more words m_fits first.0 r-each (no_more (IsRegisterFirst m) m3 words follows n3) first.1 in
          (first.0, second.1)

      whole_3 : (ws : List Word) → wires nets ++ (lines gate_words gs ++ (lines register_words rs ++ ws)) ≡ ((wires nets ++ lines gate_words gs) ++ lines register_words rs) ++ ws
      whole_3 ws =
          sym (append_assoc (wires nets) (lines gate_words gs) (lines register_words rs ++ ws)) ∙ sym (append_assoc (wires nets ++ lines gate_words gs) (lines register_words rs) ws)

      pub memories_stop : (after : List Word) (r : Result Chip Stop) (s : Stop) → IsErr r × IsErrAnd r (λ e. e ≡ s) → ReadsAll (Each (IsMemoryOf m)) (IsMemoryFirst m) (lines memory_words) m3 after (Err s) → Reads HasLooseForms body_words before after r
      memories_stop after r s is part =
          part_stops (Each (IsMemoryOf m)) (IsMemoryFirst m) (lines memory_words) ((wires nets ++ lines gate_words gs) ++ lines register_words rs) before m3 after r s is split_3
          (λ ms each. (record { nets = nets; gates = gs; registers = rs; memories = ms }, ends, forms_of nets m gs rs ms same fits g-each r-each each, whole_3 (lines memory_words ms ++ ends)))
          (λ chip more words of follows e.
          let peeled = peel_registers chip more words of follows e in (
            chip.memories,
            ends ++ more,
            peeled.0.memories,
            no_memory m (ends ++ more) (omega arith),
            sym peeled.1 ∙ append_assoc (lines memory_words chip.memories) ends more,
          ))
          part

      pub end_stops : (ms : List EmuMemory) (m4 after : List Word) (r : Result Chip Stop) (s : Stop) → Each (IsMemoryOf m) ms → m3 ≡ lines memory_words ms ++ m4 → NoMore (IsMemoryFirst m) m4 → IsErr r × IsErrAnd r (λ e. e ≡ s) → Reads {A = Unit {0}} (λ u. Unit {0}) (λ u. ends) m4 after (Err s) → Reads HasLooseForms body_words before after r
      end_stops ms m4 after r s m-each s4 n4 is part =
          stops {B = Unit {0}} HasLooseForms (λ u. Unit {0}) body_words (λ u. ends) (((wires nets ++ lines gate_words gs) ++ lines register_words rs) ++ lines memory_words ms) before m4 after r s is
          (split_3 ∙ ap (λ ws. ((wires nets ++ lines gate_words gs) ++ lines register_words rs) ++ ws) s4 ∙ sym (append_assoc ((wires nets ++ lines gate_words gs) ++ lines register_words rs) (lines memory_words ms) m4))
          (due HasLooseForms body_words (((wires nets ++ lines gate_words gs) ++ lines register_words rs) ++ lines memory_words ms) ends m4 (
            record { nets = nets; gates = gs; registers = rs; memories = ms },
            [],
            forms_of nets m gs rs ms same fits g-each r-each m-each,
            whole_3 (lines memory_words ms ++ ends) ∙ sym (append_assoc ((wires nets ++ lines gate_words gs) ++ lines register_words rs) (lines memory_words ms) ends),
          )
          (λ chip more words of follows e.
          let first = peel_registers chip more (lines memory_words ms ++ words) of (follows_split m3 (lines memory_words ms) m4 words s4 follows) (e ∙ append_assoc ((wires nets ++ lines gate_words gs) ++ lines register_words rs) (lines memory_words ms) words) in
          let second = after_memories m chip ms more words m_fits first.0 m-each (no_more (IsMemoryFirst m) m4 words follows n4) first.1 in
          (more, sym second.1)))
          part

-- what a body that was read says
pub body_read : (nets named : ℕ) (gs : List EmuGate) (rs : List EmuRegister) (ms : List EmuMemory) (before m1 m2 m3 m4 after : List Word) → named ≡ nets_over nets → nets < 2 ^ 32 → before ≡ wires nets ++ m1 → Each (IsGateOf named) gs → m1 ≡ lines gate_words gs ++ m2 → Each (IsRegisterOf named) rs → m2 ≡ lines register_words rs ++ m3 → Each (IsMemoryOf named) ms → m3 ≡ lines memory_words ms ++ m4 → m4 ≡ ends ++ after
    → HasLooseForms (record { nets = nets; gates = gs; registers = rs; memories = ms }) × (before ≡ body_words (record { nets = nets; gates = gs; registers = rs; memories = ms }) ++ after)
body_read nets named gs rs ms before m1 m2 m3 m4 after e fits s1 g s2 r s3 m s4 s5 = (
  forms_of nets named gs rs ms e fits g r m,
  s1 ∙ ap (λ ws. wires nets ++ ws) (s2 ∙ ap (λ ws. lines gate_words gs ++ ws) (s3 ∙ ap (λ ws. lines register_words rs ++ ws) (s4 ∙ ap (λ ws. lines memory_words ms ++ ws) s5
      ∙ sym (append_assoc (lines memory_words ms) ends after)) ∙ sym (append_assoc (lines register_words rs) (t4 ms) after)) ∙ sym (append_assoc (lines gate_words gs) (t3 rs ms) after))
      ∙ sym (append_assoc (wires nets) (t2 gs rs ms) after),
)

-- the chip without anything
pub some_forms : HasLooseForms (record { nets = 0; gates = []; registers = []; memories = [] })
some_forms = forms_of 0 1 [] [] [] refl (omega arith) (no_each (IsGateOf (nets_over 0))) (no_each (IsRegisterOf (nets_over 0))) (no_each (IsMemoryOf (nets_over 0)))

-- bodies tell chips apart
pub bodies_apart : (x y : Chip) (a b : List Word) → HasLooseForms x → HasLooseForms y → body_words x ++ a ≡ body_words y ++ b → (x ≡ y) × (a ≡ b)
bodies_apart x y a b is is-2 e =
    let nets-are = after_wires y.nets x a (t2 y.gates y.registers y.memories ++ b) (no_wire (t2 y.gates y.registers y.memories ++ b) (t2_from y.gates y.registers y.memories b))
    (e ∙ append_assoc (wires y.nets) (t2 y.gates y.registers y.memories) b) in
    let at = at_nets y.nets (nets_over y.nets) x refl is nets-are.0 in
    let gates-are = after_gates (nets_over y.nets) x y.gates a (t3 y.registers y.memories ++ b) (over_fits y.nets is-2.few) at is-2.gates (no_gate (nets_over y.nets) (t3 y.registers y.memories ++ b) (t3_from y.registers y.memories b))
    (nets-are.1 ∙ append_assoc (lines gate_words y.gates) (t3 y.registers y.memories) b) in
    let registers-are = after_registers (nets_over y.nets) x y.registers a (t4 y.memories ++ b) (over_fits y.nets is-2.few) at is-2.registers (no_register (nets_over y.nets) (t4 y.memories ++ b) (t4_from y.memories b))
    (gates-are.1 ∙ append_assoc (lines register_words y.registers) (t4 y.memories) b) in
    let memories-are = after_memories (nets_over y.nets) x y.memories a (ends ++ b) (over_fits y.nets is-2.few) at is-2.memories (no_memory (nets_over y.nets) (ends ++ b) (omega arith))
    (registers-are.1 ∙ append_assoc (lines memory_words y.memories) ends b) in
    let rest : a ≡ b = cc in
    (λ i. record { nets = nets-are.0 i; gates = gates-are.0 i; registers = registers-are.0 i; memories = memories-are.0 i }, rest)
