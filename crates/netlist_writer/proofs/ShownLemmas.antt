-- Terminals and lines printed behind others.
use Rattle.std.proofs.Common.{◌≡◌, ◌<◌, ◌+◌, ◌-◌, ℕ, suc, Bool, true, false, List, [], ◌∷◌, ◌++◌, flat_map, refl, sym, ap, ◌∙◌, arith}
use Rattle.std.specs.Prelude.{codes, decimal}
use Rattle.std.specs.List.{range_with_len}
use Rattle.std.proofs.lemmas.List.{append_assoc}
use Rattle.std.proofs.lemmas.List.Concat.{flat_map-append}
use Rattle.id_arena.specs.declared.keys.ChipNetId.{ChipNetId}
use Rattle.emu_machine.specs.declared.netlist.Chip.{Chip}
use Rattle.emu_machine.specs.declared.netlist.EmuGate.{EmuGate}
use Rattle.emu_machine.specs.declared.netlist.EmuMemory.{EmuMemory}
use Rattle.emu_machine.specs.declared.netlist.EmuRegister.{EmuRegister}
use Rattle.netlist_writer.specs.NetlistText.{net_name, terminals, instance_text, wire_text, gate_text, register_text, memory_text, lines, head_text, chip_text}
use Rattle.netlist_writer.specs.Shown.{shown, goes_on}

pub shown_append : (some : Bool) (ns ms : List ChipNetId) → shown some (ns ++ ms) ≡ shown some ns ++ shown (goes_on some ns) ms
shown_append true [] ms = refl
shown_append true (n ∷ ns) ms = flat_map-append (λ m. codes ", " ++ net_name m) (n ∷ ns) ms
shown_append false [] ms = refl
shown_append false (n ∷ ns) ms =
    ap (λ t. net_name n ++ t) (flat_map-append (λ m. codes ", " ++ net_name m) ns ms) ∙ sym (append_assoc (net_name n) _ _)

lines_of_nets : (net nets : ℕ) → net < nets → flat_map wire_text (range_with_len net (nets - net)) ≡ wire_text net ++ flat_map wire_text (range_with_len (net + 1) (nets - (net + 1)))
lines_of_nets net nets within =
    let left : nets - net ≡ suc (nets - (net + 1)) = omega arith in
    ap (λ k. flat_map wire_text (range_with_len net k)) left

-- three pieces put down
pieces : {A : Type 0} (t0 t1 t2 t3 a b c : List A) → t1 ≡ t0 ++ a → t2 ≡ t1 ++ b → t3 ≡ t2 ++ c → t3 ≡ t0 ++ (a ++ (b ++ c))
pieces t0 t1 t2 t3 a b c e f g =
    g ∙ ap (λ t. t ++ c) (f ∙ ap (λ t. t ++ b) e) ∙ append_assoc (t0 ++ a) b c ∙ append_assoc t0 a (b ++ c)

-- the line of a net put down
pub wire_made : (t0 t1 t2 t3 whole : List ℕ) (net nets place : ℕ) → place ≡ net → t1 ≡ t0 ++ codes "wire n" → t2 ≡ t1 ++ decimal place → t3 ≡ t2 ++ codes ";\n" → net < nets → t0 ++ flat_map wire_text (range_with_len net (nets - net)) ≡ whole → t3 ++ flat_map wire_text (range_with_len (net + 1) (nets - (net + 1))) ≡ whole
wire_made t0 t1 t2 t3 whole net nets place is e f g within left =
    let rest = flat_map wire_text (range_with_len (net + 1) (nets - (net + 1))) in
    ap (λ t. t ++ rest) (pieces t0 t1 t2 t3 (codes "wire n") (decimal net) (codes ";\n") e (f ∙ ap (λ n. t1 ++ decimal n) is) g)
    ∙ append_assoc t0 (wire_text net) rest
    ∙ ap (λ t. t0 ++ t) (sym (lines_of_nets net nets within))
    ∙ left

-- the head of a module put down
pub head_made : (t0 t1 t2 t3 : List ℕ) (c : ℕ) → t1 ≡ t0 ++ codes "module chip" → t2 ≡ t1 ++ decimal c → t3 ≡ t2 ++ codes ";\n" → t3 ≡ t0 ++ head_text c
head_made t0 t1 t2 t3 c e f g = pieces t0 t1 t2 t3 (codes "module chip") (decimal c) (codes ";\n") e f g

-- pieces put down one by one are put down together
seven : {A : Type 0} (t f a l d b n e : List A) → t ++ f ++ (a ++ l ++ d ++ b) ++ n ++ e ≡ t ++ (f ++ a ++ l ++ d ++ b ++ n ++ e)
seven t f a l d b n e = simp append_assoc refl

six : {A : Type 0} (t a b c d e f : List A) → t ++ a ++ b ++ c ++ d ++ e ++ f ≡ t ++ (a ++ b ++ c ++ d ++ e ++ f)
six t a b c d e f = simp append_assoc refl

-- the line of an instance put down
pub instance_made : (t0 t1 t2 t3 t4 form letter : List ℕ) (k : ℕ) (nets : List ChipNetId) → t1 ≡ t0 ++ form → t2 ≡ t1 ++ (codes " " ++ letter ++ decimal k ++ codes " (") → t3 ≡ t2 ++ terminals nets → t4 ≡ t3 ++ codes ");\n" → t4 ≡ t0 ++ instance_text form letter k nets
instance_made t0 t1 t2 t3 t4 form letter k nets e f g h =
    h ∙ ap (λ t. t ++ codes ");\n") (g ∙ ap (λ t. t ++ terminals nets) (f ∙ ap (λ t. t ++ (codes " " ++ letter ++ decimal k ++ codes " (")) e))
    ∙ seven t0 form (codes " ") letter (decimal k) (codes " (") (terminals nets) (codes ");\n")

-- the module of a chip put down
pub chip_made : (t0 t1 t2 t3 t4 t5 t6 : List ℕ) (c : ℕ) (chip : Chip) (gates : List EmuGate) (registers : List EmuRegister) (memories : List EmuMemory) → gates ≡ chip.gates → registers ≡ chip.registers → memories ≡ chip.memories → t1 ≡ t0 ++ head_text c → t2 ≡ t1 ++ flat_map wire_text (range_with_len 0 chip.nets) → t3 ≡ t2 ++ lines gate_text gates → t4 ≡ t3 ++ lines register_text registers → t5 ≡ t4 ++ lines memory_text memories → t6 ≡ t5 ++ codes "endmodule\n" → t6 ≡ t0 ++ chip_text (c, chip)
chip_made t0 t1 t2 t3 t4 t5 t6 c chip gates registers memories in-gates in-registers in-memories a b d e f g =
    let wires = flat_map wire_text (range_with_len 0 chip.nets) in
    g ∙ ap (λ t. t ++ codes "endmodule\n")
    (f ∙ ap (λ ms. t4 ++ lines memory_text ms) in-memories ∙ ap (λ t. t ++ lines memory_text chip.memories)
    (e ∙ ap (λ rs. t3 ++ lines register_text rs) in-registers ∙ ap (λ t. t ++ lines register_text chip.registers)
    (d ∙ ap (λ gs. t2 ++ lines gate_text gs) in-gates ∙ ap (λ t. t ++ lines gate_text chip.gates)
    (b ∙ ap (λ t. t ++ wires) a))))
    ∙ six t0 (head_text c) wires (lines gate_text chip.gates) (lines register_text chip.registers) (lines memory_text chip.memories) (codes "endmodule\n")
