-- The modules of chips, and the whole netlist.
use Rattle.std.proofs.Common.{◌≡◌, ◌+◌, ◌-◌, ◌<◌, ℕ, suc, List, [], ◌∷◌, ◌++◌, Option, Result, Ok, Err, length, take, refl, sym, ap, ◌∙◌, subst, append_assoc, arith}
use Rattle.std.specs.Prelude.{IsErr}
use Rattle.std.specs.Result.{IsErrAnd}
use Rattle.std.proofs.Math.Seq.{take-append_seam}
use Rattle.std.proofs.lemmas.List.{append-nil, append_cancel_left, length-append}
use Rattle.token_words.specs.Word.{Word}
use Rattle.emu_machine.specs.declared.netlist.Chip.{Chip}
use Rattle.netlist_reader.specs.Faults.{HasLooseForms, SaysLoosely}
use Rattle.netlist_reader.specs.Stops.{BeginsLoosely, IsLooselyWrong, IsWrongAt, ReadsNetlist}
use Rattle.netlist_reader.specs.Netlist.{Each, body_words, chip_words, head_words, lines, netlist_words}
use Rattle.netlist_reader.specs.Inside.{AreApart, Begins, EachBegins, Follows, NoMore, Reads, ReadsAll, ReadsNext, Stuck}
use Rattle.netlist_reader.specs.Wires.{IsModuleWord}
use Rattle.netlist_reader.specs.declared.fault.Stop.{Stop}
use Rattle.netlist_reader.specs.declared.fault.Stop.TheVariants as stop
use Rattle.netlist_reader.proofs.Bodies.{bodies_apart, some_forms}
use Rattle.netlist_reader.proofs.NumberedLines.{lines_apart}
use Rattle.netlist_reader.proofs.Stucks.{Holds, due, no_more, stuck_in}

pub chip_begins : EachBegins HasLooseForms (IsModuleWord 0) chip_words
chip_begins k chip after is = refl

pub chips_apart : AreApart HasLooseForms chip_words
chips_apart k x y a b is is-2 e =
    bodies_apart x y a b is is-2
    (append_cancel_left (head_words k) (body_words x ++ a) (body_words y ++ b) (sym (append_assoc (head_words k) (body_words x) a) ∙ e ∙ append_assoc (head_words k) (body_words y) b))

-- where reading stops in a part of a module, it stops in the module
pub stops_next : {A B : Type 0} (IsA : A → Type 0) (First : Word → Type 0) (IsB : B → Type 0) (line_a : A → List Word) (line_b : B → List Word) (front before mid after : List Word) (r : Result (Option A) Stop) (s : Stop)
    → IsErr r × IsErrAnd r (λ e. e ≡ s) → Begins First before → before ≡ front ++ mid → Holds IsA IsB line_a line_b front mid → Reads IsB line_b mid after (Err s) → ReadsNext IsA First line_a before after r
stops_next IsA First IsB line_a line_b front before mid after (Ok a) s is begun split holds part = absurd is.1
stops_next IsA First IsB line_a line_b front before mid after (Err e) s is begun split holds part =
    subst (λ f. ReadsNext IsA First line_a before after (Err f)) (sym is.1) (go s part)
  where
    go : (t : Stop) → Reads IsB line_b mid after (Err t) → ReadsNext IsA First line_a before after (Err t)
    go stop.Stuck stuck = (begun, stuck_in IsA IsB line_a line_b front before mid after split stuck holds)
    go stop.NoMemory none = tt

pub module_head : (k : ℕ) (mid : List Word) → Holds {B = Unit {0}} HasLooseForms (λ u. Unit {0}) (λ chip. chip_words (k, chip)) (λ u. head_words k) [] mid
module_head k mid =
    due HasLooseForms (λ chip. chip_words (k, chip)) [] (head_words k) mid
    (record { nets = 0; gates = []; registers = []; memories = [] }, body_words (record { nets = 0; gates = []; registers = []; memories = [] }), some_forms, refl)
    (λ chip more words is follows e. (body_words chip ++ more, sym e ∙ append_assoc (head_words k) (body_words chip) more))

pub module_body : (k : ℕ) (mid : List Word) → Holds HasLooseForms HasLooseForms (λ chip. chip_words (k, chip)) body_words (head_words k) mid
module_body k mid = record {
  up = λ chip is. (chip, [], is, ap (λ ws. head_words k ++ ws) (sym (append-nil (body_words chip))));
  down = λ chip more words is follows e. (
    chip,
    more,
    is,
    sym (append_cancel_left (head_words k) (body_words chip ++ more) words (sym (append_assoc (head_words k) (body_words chip) more) ∙ e)),
  );
}

pub module_whole : (k : ℕ) (chip : Chip) (before mid after : List Word) → before ≡ head_words k ++ mid → HasLooseForms chip × (mid ≡ body_words chip ++ after) → HasLooseForms chip × (before ≡ chip_words (k, chip) ++ after)
module_whole k chip before mid after e is = (is.0, e ∙ ap (λ ws. head_words k ++ ws) is.1 ∙ sym (append_assoc (head_words k) (body_words chip) after))

-- The whole netlist.

says : (seen tail : List Word) (chips : List Chip) → Each HasLooseForms chips → netlist_words chips ≡ seen ++ tail → SaysLoosely (seen ++ tail) chips
says seen tail chips each e = record { words_are = sym e; forms = each }

stuck_is : (before after : List Word) → Stuck (Each HasLooseForms) (NoMore (IsModuleWord 0)) (lines chip_words) before after → IsWrongAt before after
stuck_is before after s = record {
  seen = s.seen;
  split = s.split;
  begins = record { rest = s.tail; chips = s.item; says = says s.seen s.tail s.item s.is s.begun };
  none = λ words chips follows of. s.none chips [] words of.forms (λ b. b) follows (append-nil (netlist_words chips) ∙ sym of.words_are);
}

pub netlist_stops : (before after : List Word) (r : Result (List Chip) Stop) (s : Stop) → IsErr r × IsErrAnd r (λ e. e ≡ s) → ReadsAll (Each HasLooseForms) (IsModuleWord 0) (lines chip_words) before after (Err s) → ReadsNetlist before after r
netlist_stops before after (Ok chips) s is part = absurd is.1
netlist_stops before after (Err e) s is part = subst (λ f. ReadsNetlist before after (Err f)) (sym is.1) (go s part)
  where
    go : (t : Stop) → ReadsAll (Each HasLooseForms) (IsModuleWord 0) (lines chip_words) before after (Err t) → ReadsNetlist before after (Err t)
    go stop.Stuck stuck = stuck_is before after stuck
    go stop.NoMemory none = tt

-- what stands behind the last module cannot stand there
pub more_stands : (chips : List Chip) (before after : List Word) → Each HasLooseForms chips × (before ≡ lines chip_words chips ++ after) × NoMore (IsModuleWord 0) after → 0 < length after → IsWrongAt before after
more_stands chips before after is some = record {
  seen = lines chip_words chips;
  split = is.1;
  begins = record { rest = []; chips = chips; says = record { words_are = append-nil (lines chip_words chips); forms = is.0 } };
  none = λ words others follows of.
      let apart = lines_apart HasLooseForms chip_words (IsModuleWord 0) chip_begins chips_apart others chips [] words of.forms is.0 (λ b. b) (no_more (IsModuleWord 0) after words follows is.2)
      (append-nil (netlist_words others) ∙ sym of.words_are) in
      not_empty after words follows some (sym apart.1);
} where
  not_empty : (ws os : List Word) → Follows ws os → 0 < length ws → os ≡ [] → ⊥
  not_empty [] os f less e = omega arith
  not_empty (w ∷ ws) os f less e = (let both : w ∷ f.0 ≡ [] = sym f.1 ∙ e in let size : length (w ∷ f.0) ≡ 0 = ap length both in omega arith)

-- the place where a text is wrong
pub first_wrong : (words after : List Word) (k : ℕ) → IsWrongAt words after → k + length after ≡ length words → IsLooselyWrong words k
first_wrong words after k at size =
    let sizes = length-append at.seen after in
    let whole : length words ≡ length (at.seen ++ after) = ap length at.split in
    let place : k ≡ length at.seen = omega arith in
    subst (IsLooselyWrong words) (sym place) (record {
      inside = omega arith;
      before = subst BeginsLoosely (sym (front words at.split)) at.begins;
      up_to = λ less b. beyond after (omega arith) at.none (subst (λ ws. BeginsLoosely (take (length at.seen + 1) ws)) at.split b);
      at_end = λ end chips of. at.none [] chips (ended after (omega arith)) (subst (λ ws. SaysLoosely ws chips) (at.split ∙ ap (λ ws. at.seen ++ ws) (empty after (omega arith))) of);
    })
  where
    front : (ws : List Word) → ws ≡ at.seen ++ after → take (length at.seen) ws ≡ at.seen
    front ws e = ap (take (length at.seen)) e ∙ take-append_seam at.seen after

    empty : (ws : List Word) → length ws ≡ 0 → ws ≡ []
    empty [] e = refl
    empty (w ∷ ws) e = absurd (omega arith)

    ended : (ws : List Word) → length ws ≡ 0 → Follows ws []
    ended [] e = refl
    ended (w ∷ ws) e = absurd (omega arith)

    one_more : (xs : List Word) (w : Word) (ws : List Word) → take (length xs + 1) (xs ++ w ∷ ws) ≡ xs ++ w ∷ []
    one_more [] w ws = refl
    one_more (x ∷ xs) w ws =
        let next : suc (length xs) + 1 ≡ suc (length xs + 1) = omega arith in
        ap (λ n. take n (x ∷ (xs ++ w ∷ ws))) next ∙ ap (λ ys. x ∷ ys) (one_more xs w ws)

    beyond : (ws : List Word) → 0 < length ws → ((others : List Word) (chips : List Chip) → Follows ws others → SaysLoosely (at.seen ++ others) chips → ⊥) → BeginsLoosely (take (length at.seen + 1) (at.seen ++ ws)) → ⊥
    beyond [] some none b = omega arith
    beyond (w ∷ ws) some none b =
        none (w ∷ b.rest) b.chips (b.rest, refl)
        (subst (λ xs. SaysLoosely xs b.chips) (ap (λ xs. xs ++ b.rest) (one_more at.seen w ws) ∙ append_assoc at.seen (w ∷ []) b.rest) b.says)

pub loose_apart : (words : List Word) (first second : List Chip) → SaysLoosely words first → SaysLoosely words second → first ≡ second
loose_apart words first second a b =
    (lines_apart HasLooseForms chip_words (IsModuleWord 0) chip_begins chips_apart first second [] [] a.forms b.forms (λ x. x) (λ x. x)
    (append-nil (netlist_words first) ∙ sym a.words_are ∙ b.words_are ∙ sym (append-nil (netlist_words second)))).0

pub wrong_at : (words before after : List Word) (count left : ℕ) → before ≡ words → IsWrongAt before after → count ≡ length words → left ≡ length after → IsLooselyWrong words (count - left)
wrong_at words before after count left same at size rest =
    let is : IsWrongAt words after = subst (λ ws. IsWrongAt ws after) same at in
    let sizes = length-append is.seen after in
    let whole : length words ≡ length (is.seen ++ after) = ap length is.split in
    first_wrong words after (count - left) is (omega arith)
