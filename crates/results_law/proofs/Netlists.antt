-- Printed netlists are read back.
use Rattle.std.proofs.Common.{◌≡◌, ◌+◌, ◌<◌, ◌≤◌, ◌^◌, ◌==◌, ◌||◌, ℕ, zero, suc, Bool, true, false, Option, Some, None, List, [], ◌∷◌, ◌++◌, length, get_or, slice_get, refl, sym, ap, ◌∙◌, subst, append_assoc, append-nil, arith, IsTrue}
use Rattle.std.specs.Prelude.{codes, decimal, flat_map, position, bytes_eq}
use Rattle.std.specs.Char.{digit_value, is_ascii_lowercase}
use Rattle.std.specs.List.{enumerate_from, range_with_len}
use Rattle.std.specs.Option.{option_map_or}
use Rattle.std.specs.Str.Parse.{AllDigits}
use Rattle.std.proofs.lemmas.Bool.Decides.{nat_tests}
use Rattle.std.proofs.lemmas.Fmt.{decimal_is_IsNumeral, digits_is_IsNumeral}
use Rattle.std.proofs.lemmas.List.Concat.{flat_map-append}
use Rattle.std.proofs.lemmas.Str.Parse.{digit_at}
use Rattle.verilog_lex.specs.Bytes.{first, is_white, second, star}
use Rattle.verilog_lex.specs.Words.{reserved_words, word_kind}
use Rattle.verilog_lex.specs.declared.token.TokenKind.TheVariants as kind
use Rattle.verilog_lex.specs.declared.keyword.TheConstants.{AND, BUF, ENDMODULE, MODULE, NAND, NOR, NOT, OR, WIRE, XNOR, XOR}
use Rattle.verilog_lex.proofs.Reserved.{no_letter, no_second}
use Rattle.token_words.specs.Word.{Word, key, name, open_parenthesis, close_parenthesis, comma, semicolon}
use Rattle.token_words.specs.Words.{bytes_of}
use Rattle.id_arena.specs.declared.keys.ChipNetId.{ChipNetId}
use Rattle.design_core.specs.declared.operation.Op.{Op}
use Rattle.design_core.specs.declared.operation.Op.TheVariants.{And, Nand, Or, Nor, Xor, Xnor, Buf, Not, Table}
use Rattle.emu_machine.specs.declared.netlist.Chip.{Chip}
use Rattle.emu_machine.specs.declared.netlist.EmuGate.{EmuGate}
use Rattle.emu_machine.specs.declared.netlist.EmuMemory.{EmuMemory}
use Rattle.emu_machine.specs.declared.netlist.EmuRegister.{EmuRegister}
use Rattle.netlist_writer.specs.NetlistText as text
use Rattle.netlist_writer.specs.NetlistText.{hex, net_name, op_form, register_form, register_pins, memory_form, memory_pins}
use Rattle.netlist_reader.specs.Netlist.{body_words, chip_words, closed_words, form_of_register, gate_form, gate_pins, gate_words, head_words, lines, memory_words, more_words, netlist_words, numbered, op_word, pin_words, pins_of_register, register_words, wire_words, wires}
use Rattle.results_law.proofs.Lexemes.{AreOfName, IsLetter, Say, is_name, say_close, say_comma, say_end, say_open, say_semicolon, say_white, say_word, word_from}

-- Bytes of names.

joined : (xs ys : List ℕ) → AreOfName xs → AreOfName ys → AreOfName (xs ++ ys)
joined [] ys all more = more
joined (x ∷ xs) ys all more = (all.0, joined xs ys all.1 more)

digit_named : (c : ℕ) → 48 ≤ c → c ≤ 57 → is_name c ≡ true
digit_named c low high = grind (arith, nat_tests)

digits_named : (ds : List ℕ) → AllDigits 10 ds → AreOfName ds
digits_named [] all = tt
digits_named (c ∷ cs) all = (let range = digit_at (c ∷ cs) 0 all (omega arith) in (digit_named c range.0 range.1, digits_named cs all.1))

decimal_named : (n : ℕ) → n < 2 ^ 64 → AreOfName (decimal n)
decimal_named n small = digits_named (decimal n) (decimal_is_IsNumeral n small).0.1

hex_digit_named : (c : ℕ) → digit_value c < 16 → is_name c ≡ true
hex_digit_named c small = grind (arith, nat_tests)

hex_digits_named : (ds : List ℕ) → AllDigits 16 ds → AreOfName ds
hex_digits_named [] all = tt
hex_digits_named (c ∷ cs) all = (hex_digit_named c all.0, hex_digits_named cs all.1)

hex_named : (n : ℕ) → n < 2 ^ 64 → AreOfName (hex n)
hex_named n small = hex_digits_named (hex n) (digits_is_IsNumeral 16 false (omega arith) (omega arith) n (omega arith)).0.1

-- Names that are no reserved words.

name_is : (bytes : List ℕ) → None ≡ position (bytes_eq bytes) reserved_words → word_from bytes ≡ name bytes
name_is bytes none =
    let named : word_kind bytes ≡ kind.Name = ap (λ o. option_map_or kind.Keyword o kind.Name) (sym none) in
    λ i. record { kind = named i; name = bytes_of (named i) bytes }

-- a letter and a number
numbered_is : (b k : ℕ) → k < 2 ^ 64 → word_from (b ∷ decimal k) ≡ numbered (b ∷ []) k
numbered_is b k small =
    let numeral = decimal_is_IsNumeral k small in
    let range = digit_at (decimal k) 0 numeral.0.1 numeral.0.0 in
    name_is (b ∷ decimal k) (no_second (b ∷ decimal k) (get_or (decimal k) 0 0) refl (no_lower (get_or (decimal k) 0 0) range.0 range.1))
  where
    no_lower : (c : ℕ) → 48 ≤ c → c ≤ 57 → is_ascii_lowercase c ≡ false
    no_lower c low high = grind (arith, nat_tests)

no_chip : (ds : List ℕ) → None ≡ position (bytes_eq (codes "chip" ++ ds)) reserved_words
unfolding reserved_words
no_chip ds = refl

chip_is : (k : ℕ) → word_from (codes "chip" ++ decimal k) ≡ numbered (codes "chip") k
chip_is k = name_is (codes "chip" ++ decimal k) (no_chip (decimal k))

upper_is : (b : ℕ) (bytes : List ℕ) → is_ascii_lowercase b ≡ false → word_from (b ∷ bytes) ≡ name (b ∷ bytes)
upper_is b bytes off = name_is (b ∷ bytes) (no_letter (b ∷ bytes) b refl off)

-- Reserved words.

wire_is : word_from (codes "wire") ≡ key WIRE
unfolding reserved_words
wire_is = refl

module_is : word_from (codes "module") ≡ key MODULE
unfolding reserved_words
module_is = refl

endmodule_is : word_from (codes "endmodule") ≡ key ENDMODULE
unfolding reserved_words
endmodule_is = refl

-- A name of a letter and a number stands before what is no part of a name.

say_numbered : (b k : ℕ) (rest : List ℕ) (words : List Word) → IsLetter b → is_name b ≡ true → k < 2 ^ 64 → is_name (first rest) ≡ false → Say rest words → Say ((b ∷ []) ++ (decimal k ++ rest)) (numbered (b ∷ []) k ∷ words)
say_numbered b k rest words letter named small other say =
    subst (λ w. Say (b ∷ (decimal k ++ rest)) (w ∷ words)) (numbered_is b k small) (say_word b (decimal k) rest words letter (named, decimal_named k small) other say)

letter_n : IsLetter 110
letter_n = (refl, refl, refl, refl)

-- Terminals.

module _ (rest : List ℕ) (words : List Word) (say : Say rest words) where
  abbrev more_text : List ChipNetId → List ℕ
  more_text nets = flat_map (λ m. codes ", " ++ net_name m) nets ++ 41 ∷ rest

  more_first : (nets : List ChipNetId) → (is_name (first (more_text nets)) ≡ false)
  more_first [] = refl
  more_first (n ∷ nets) = refl

  say_more : (nets : List ChipNetId) → ((k : ℕ) (n : ChipNetId) → slice_get nets k ≡ Some n → n.place < 2 ^ 64) → Say (more_text nets) (more_words nets ++ close_parenthesis ∷ words)
  say_more [] small = say_close rest words say
  say_more (n ∷ nets) small =
      let next = say_more nets (λ k m e. small (suc k) m e) in
      let name-said = say_numbered 110 n.place (more_text nets) (more_words nets ++ close_parenthesis ∷ words) letter_n refl (small 0 n refl) (more_first nets) next in
      subst (λ t. Say t (comma ∷ numbered (codes "n") n.place ∷ (more_words nets ++ close_parenthesis ∷ words))) (sym (regroup n nets))
      (say_comma (32 ∷ 110 ∷ (decimal n.place ++ more_text nets)) _ (say_white 32 (110 ∷ (decimal n.place ++ more_text nets)) _ refl refl name-said))
    where
      regroup : (m : ChipNetId) (ns : List ChipNetId) → more_text (m ∷ ns) ≡ 44 ∷ 32 ∷ 110 ∷ (decimal m.place ++ more_text ns)
      regroup m ns =
          ap (λ t. 44 ∷ 32 ∷ 110 ∷ t) (append_assoc (decimal m.place) (flat_map (λ x. codes ", " ++ net_name x) ns) (41 ∷ rest))

  say_closed : (nets : List ChipNetId) → ((k : ℕ) (n : ChipNetId) → slice_get nets k ≡ Some n → n.place < 2 ^ 64) → Say (text.terminals nets ++ 41 ∷ rest) (closed_words nets ++ words)
  say_closed [] small = say_close rest words say
  say_closed (n ∷ nets) small =
      let next = say_more nets (λ k m e. small (suc k) m e) in
      let said = say_numbered 110 n.place (more_text nets) (more_words nets ++ close_parenthesis ∷ words) letter_n refl (small 0 n refl) (more_first nets) next in
      subst (λ t. Say t (closed_words (n ∷ nets) ++ words)) (ap (λ t. 110 ∷ t) (sym (append_assoc (decimal n.place) (flat_map (λ x. codes ", " ++ net_name x) nets) (41 ∷ rest))))
      (subst (λ ws. Say (110 ∷ (decimal n.place ++ more_text nets)) (numbered (codes "n") n.place ∷ ws)) (sym (append_assoc (more_words nets) (close_parenthesis ∷ []) words)) said)

  closed_first : (nets : List ChipNetId) → ((first (text.terminals nets ++ 41 ∷ rest)) == star) ≡ false
  closed_first [] = refl
  closed_first (n ∷ nets) = refl

-- Lines.

-- a text that says these words and begins with no white space
pub record IsLine (rest : List ℕ) (words : List Word) : Type 0 where
  pub says : Say rest words
  pub clean : is_white (first rest) ≡ false

abbrev pub Small : List ChipNetId → Type 0
Small nets = (k : ℕ) (n : ChipNetId) → slice_get nets k ≡ Some n → n.place < 2 ^ 64

-- the line of an instance whose form is one word
module _ (l k : ℕ) (nets : List ChipNetId) (rest : List ℕ) (words : List Word) (letter : IsLetter l) (named : is_name l ≡ true) (few : k < 2 ^ 64) (small : Small nets) (line : IsLine rest words) where
  abbrev behind_form : List ℕ
  behind_form = 32 ∷ l ∷ (decimal k ++ (32 ∷ 40 ∷ (text.terminals nets ++ (41 ∷ 59 ∷ 10 ∷ rest))))

  say_pins : Say behind_form (pin_words (l ∷ []) k nets ++ words)
  say_pins =
      let ended = say_semicolon (10 ∷ rest) words (say_white 10 rest words refl line.clean line.says) in
      let closed = say_closed (59 ∷ 10 ∷ rest) (semicolon ∷ words) ended nets small in
      let opened = say_open (text.terminals nets ++ 41 ∷ 59 ∷ 10 ∷ rest) (closed_words nets ++ semicolon ∷ words) (closed_first (59 ∷ 10 ∷ rest) (semicolon ∷ words) ended nets) closed in
      let name-said = say_numbered l k (32 ∷ 40 ∷ (text.terminals nets ++ (41 ∷ 59 ∷ 10 ∷ rest))) _ letter named few refl (say_white 32 (40 ∷ (text.terminals nets ++ (41 ∷ 59 ∷ 10 ∷ rest))) _ refl refl opened) in
      subst (λ ws. Say behind_form (numbered (l ∷ []) k ∷ open_parenthesis ∷ ws)) (sym (append_assoc (closed_words nets) (semicolon ∷ []) words))
      (say_white 32 (l ∷ (decimal k ++ (32 ∷ 40 ∷ (text.terminals nets ++ (41 ∷ 59 ∷ 10 ∷ rest))))) _ refl letter.0 name-said)

  line_split : (form : List ℕ) → text.instance_text form (l ∷ []) k nets ++ rest ≡ form ++ behind_form
  line_split form = regroup form (decimal k) (text.terminals nets)
    where
      regroup : (f d t : List ℕ) → (f ++ codes " " ++ (l ∷ []) ++ d ++ codes " (" ++ t ++ codes ");\n") ++ rest ≡ f ++ (32 ∷ l ∷ (d ++ (32 ∷ 40 ∷ (t ++ (41 ∷ 59 ∷ 10 ∷ rest)))))
      regroup f d t = simp append_assoc refl

  instance_line : (b : ℕ) (form : List ℕ) (w : Word) → IsLetter b → AreOfName (b ∷ form) → word_from (b ∷ form) ≡ w → IsLine (text.instance_text (b ∷ form) (l ∷ []) k nets ++ rest) (w ∷ (pin_words (l ∷ []) k nets ++ words))
  instance_line b form w first-letter all is = record {
    says = subst (λ t. Say t (w ∷ (pin_words (l ∷ []) k nets ++ words))) (sym (line_split (b ∷ form)))
        (subst (λ v. Say ((b ∷ form) ++ behind_form) (v ∷ (pin_words (l ∷ []) k nets ++ words))) is (say_word b form behind_form (pin_words (l ∷ []) k nets ++ words) first-letter all refl say_pins));
    clean = first-letter.0;
  }

  pub gate_form_line : (op : Op) (n : ℕ) → n < 2 ^ 64 → ((t : ℕ) → op ≡ Table t → t < 2 ^ 64) → IsLine (text.instance_text (op_form op n) (l ∷ []) k nets ++ rest) (op_word op n ∷ (pin_words (l ∷ []) k nets ++ words))
  unfolding reserved_words
  gate_form_line And n fits table = instance_line 97 (110 ∷ 100 ∷ []) (key AND) (refl, refl, refl, refl) (refl, (refl, (refl, tt))) refl
  gate_form_line Nand n fits table = instance_line 110 (97 ∷ 110 ∷ 100 ∷ []) (key NAND) (refl, refl, refl, refl) (refl, (refl, (refl, (refl, tt)))) refl
  gate_form_line Or n fits table = instance_line 111 (114 ∷ []) (key OR) (refl, refl, refl, refl) (refl, (refl, tt)) refl
  gate_form_line Nor n fits table = instance_line 110 (111 ∷ 114 ∷ []) (key NOR) (refl, refl, refl, refl) (refl, (refl, (refl, tt))) refl
  gate_form_line Xor n fits table = instance_line 120 (111 ∷ 114 ∷ []) (key XOR) (refl, refl, refl, refl) (refl, (refl, (refl, tt))) refl
  gate_form_line Xnor n fits table = instance_line 120 (110 ∷ 111 ∷ 114 ∷ []) (key XNOR) (refl, refl, refl, refl) (refl, (refl, (refl, (refl, tt)))) refl
  gate_form_line Buf n fits table = instance_line 98 (117 ∷ 102 ∷ []) (key BUF) (refl, refl, refl, refl) (refl, (refl, (refl, tt))) refl
  gate_form_line Not n fits table = instance_line 110 (111 ∷ 116 ∷ []) (key NOT) (refl, refl, refl, refl) (refl, (refl, (refl, tt))) refl
  gate_form_line (Table t) n fits table =
      instance_line 76 (85 ∷ 84 ∷ (decimal n ++ codes "_" ++ hex t)) (name (op_form (Table t) n)) (refl, refl, refl, refl)
      (refl, (refl, (refl, joined (decimal n ++ codes "_") (hex t) (joined (decimal n) (codes "_") (decimal_named n fits) (refl, tt)) (hex_named t (table t refl)))))
      (upper_is 76 (85 ∷ 84 ∷ (decimal n ++ codes "_" ++ hex t)) refl)

  pub register_form_line : (d enable : Option ChipNetId) → IsLine (text.instance_text (register_form d enable) (l ∷ []) k nets ++ rest) (name (register_form d enable) ∷ (pin_words (l ∷ []) k nets ++ words))
  register_form_line None enable = instance_line 69 (72 ∷ 79 ∷ 76 ∷ 68 ∷ []) (name (codes "EHOLD")) (refl, refl, refl, refl) (refl, (refl, (refl, (refl, (refl, tt))))) (upper_is 69 (72 ∷ 79 ∷ 76 ∷ 68 ∷ []) refl)
  register_form_line (Some d) None = instance_line 69 (82 ∷ 69 ∷ 71 ∷ []) (name (codes "EREG")) (refl, refl, refl, refl) (refl, (refl, (refl, (refl, tt)))) (upper_is 69 (82 ∷ 69 ∷ 71 ∷ []) refl)
  register_form_line (Some d) (Some e) = instance_line 69 (82 ∷ 69 ∷ 71 ∷ 69 ∷ []) (name (codes "EREGE")) (refl, refl, refl, refl) (refl, (refl, (refl, (refl, (refl, tt))))) (upper_is 69 (82 ∷ 69 ∷ 71 ∷ 69 ∷ []) refl)

  pub memory_form_line : (memory : EmuMemory) → memory.address_bits < 2 ^ 64 → memory.width < 2 ^ 64 → length memory.writes < 2 ^ 64 → length memory.reads < 2 ^ 64 → IsLine (text.instance_text (memory_form memory) (l ∷ []) k nets ++ rest) (name (memory_form memory) ∷ (pin_words (l ∷ []) k nets ++ words))
  memory_form_line memory fits fits-2 fits-3 fits-4 =
      let a = decimal memory.address_bits in
      let w = decimal memory.width in
      let p = decimal (length memory.writes) in
      let r = decimal (length memory.reads) in
      let bar : (xs ys : List ℕ) → AreOfName xs → AreOfName ys → AreOfName (xs ++ codes "_" ++ ys) = λ xs ys all more. joined (xs ++ codes "_") ys (joined xs (codes "_") all (refl, tt)) more in
      instance_line 69 (77 ∷ 69 ∷ 77 ∷ 95 ∷ (a ++ codes "_" ++ w ++ codes "_" ++ p ++ codes "_" ++ r)) (name (memory_form memory)) (refl, refl, refl, refl)
      (refl, (refl, (refl, (refl, (refl, bar (a ++ codes "_" ++ w ++ codes "_" ++ p) r (bar (a ++ codes "_" ++ w) p (bar a w (decimal_named memory.address_bits fits) (decimal_named memory.width fits-2)) (decimal_named (length memory.writes) fits-3)) (decimal_named (length memory.reads) fits-4))))))
      (upper_is 69 (77 ∷ 69 ∷ 77 ∷ 95 ∷ (a ++ codes "_" ++ w ++ codes "_" ++ p ++ codes "_" ++ r)) refl)

-- the declaration of a net
pub wire_line : (k : ℕ) (rest : List ℕ) (words : List Word) → k < 2 ^ 64 → IsLine rest words → IsLine (text.wire_text k ++ rest) (wire_words k ++ words)
wire_line k rest words few line =
    let ended = say_semicolon (10 ∷ rest) words (say_white 10 rest words refl line.clean line.says) in
    let name-said = say_numbered 110 k (59 ∷ 10 ∷ rest) (semicolon ∷ words) letter_n refl few refl ended in
    let whole = say_word 119 (105 ∷ 114 ∷ 101 ∷ []) (32 ∷ 110 ∷ (decimal k ++ 59 ∷ 10 ∷ rest)) _ (refl, refl, refl, refl) (refl, (refl, (refl, (refl, tt)))) refl (say_white 32 (110 ∷ (decimal k ++ 59 ∷ 10 ∷ rest)) _ refl refl name-said) in
    record {
      says = subst (λ t. Say t (wire_words k ++ words)) (sym (ap (λ t. codes "wire n" ++ t) (append_assoc (decimal k) (59 ∷ 10 ∷ []) rest))) (subst (λ w. Say (codes "wire n" ++ (decimal k ++ 59 ∷ 10 ∷ rest)) (w ∷ numbered (codes "n") k ∷ semicolon ∷ words)) wire_is whole);
      clean = refl;
    }

pub head_line : (k : ℕ) (rest : List ℕ) (words : List Word) → k < 2 ^ 64 → IsLine rest words → IsLine (text.head_text k ++ rest) (head_words k ++ words)
head_line k rest words few line =
    let ended = say_semicolon (10 ∷ rest) words (say_white 10 rest words refl line.clean line.says) in
    let chip-said = say_word 99 (104 ∷ 105 ∷ 112 ∷ decimal k) (59 ∷ 10 ∷ rest) (semicolon ∷ words) (refl, refl, refl, refl) (refl, (refl, (refl, (refl, decimal_named k few)))) refl ended in
    let named = subst (λ w. Say (codes "chip" ++ (decimal k ++ 59 ∷ 10 ∷ rest)) (w ∷ semicolon ∷ words)) (chip_is k) chip-said in
    let whole = say_word 109 (111 ∷ 100 ∷ 117 ∷ 108 ∷ 101 ∷ []) (32 ∷ (codes "chip" ++ (decimal k ++ 59 ∷ 10 ∷ rest))) _ (refl, refl, refl, refl) (refl, (refl, (refl, (refl, (refl, (refl, tt)))))) refl (say_white 32 (codes "chip" ++ (decimal k ++ 59 ∷ 10 ∷ rest)) _ refl refl named) in
    record {
      says = subst (λ t. Say t (head_words k ++ words)) (sym (ap (λ t. codes "module chip" ++ t) (append_assoc (decimal k) (59 ∷ 10 ∷ []) rest))) (subst (λ w. Say (codes "module chip" ++ (decimal k ++ 59 ∷ 10 ∷ rest)) (w ∷ numbered (codes "chip") k ∷ semicolon ∷ words)) module_is whole);
      clean = refl;
    }

pub end_line : (rest : List ℕ) (words : List Word) → IsLine rest words → IsLine (codes "endmodule\n" ++ rest) (key ENDMODULE ∷ words)
end_line rest words line = record {
  says = subst (λ w. Say (codes "endmodule\n" ++ rest) (w ∷ words)) endmodule_is
      (say_word 101 (110 ∷ 100 ∷ 109 ∷ 111 ∷ 100 ∷ 117 ∷ 108 ∷ 101 ∷ []) (10 ∷ rest) words (refl, refl, refl, refl) (refl, (refl, (refl, (refl, (refl, (refl, (refl, (refl, (refl, tt))))))))) refl (say_white 10 rest words refl line.clean line.says));
  clean = refl;
}
