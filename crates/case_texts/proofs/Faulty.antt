-- That a text with a fault is not of its form.
use Rattle.std.proofs.Common.{ℕ, ◌≡◌, ◌≤◌, ◌+◌, List, length, map, drop, Some, None, Ok, Err, refl, sym, subst, inl, inr, arith}
use Rattle.std.proofs.lemmas.List.{take-append-drop}
use Rattle.std.proofs.lemmas.Bool.{cases_lt}
use Rattle.verilog_lex.specs.declared.token.Token.{Token}
use Rattle.verilog_lex.specs.declared.fault.LexFault.TheVariants as lex
use Rattle.verilog_lex.specs.Reads as reading
use Rattle.verilog_tree.specs.declared.parser.ParseFault.{ParseFault}
use Rattle.verilog_tree.specs.declared.parser.ParseFault.TheVariants as parse
use Rattle.verilog_tree.specs.declared.source.Source.{Source}
use Rattle.verilog_tree.specs.declared.terminal.Terminal.{Terminal}
use Rattle.verilog_tree.specs.Grammar.{IsSource}
use Rattle.verilog_tree.specs.Laws.{HasOneTree}
use Rattle.verilog_tree.specs.Source.{Explains, FirstFault, dives}
use Rattle.verilog_tree.specs.Terminal.{terminal_at}
use Rattle.board_model.specs.Answers as boards
use Rattle.cell_table.specs.Table as tables
use Rattle.clock_rank.specs.Answers.{CyclesAreUnranked}
use Rattle.flattening.specs.Laws.{EachTextHasOneDesign, EachTreeHasOneAnswer}
use Rattle.design_core.specs.declared.parts.Parts.{Parts}
use Rattle.domain_groups.specs.Answers as groups
use Rattle.domain_groups.specs.Events.{EachRecordingHasOneAnswer, SaysEvents}
use Rattle.domain_groups.specs.Openings.{EachOpeningHasOneAnswer, StandsForOpening}
use Rattle.netlist_reader.specs.Netlist.{NetlistsAreToldApart}
use Rattle.case_texts.specs.declared.refusal.EventsFault.{EventsFault}
use Rattle.case_texts.specs.declared.refusal.GroupsFault.{GroupsFault}
use Rattle.case_texts.specs.declared.refusal.OpeningsFault.{OpeningsFault}
use Rattle.case_texts.specs.declared.refusal.Refusal.TheVariants as refusal
use Rattle.case_texts.specs.declared.refusal.TextFault.{TextFault}
use Rattle.case_texts.specs.declared.refusal.TextFault.TheVariants.{BadByte, OpenComment, OpenAttribute, BadNumber, UnknownDigit, Directive, Expected, Unsupported, TooDeep}
use Rattle.case_texts.specs.declared.what.What.TheVariants.{Design, Cells, Groups, Board, Netlist, Schedule, Map, Opening, Events}
use Rattle.case_texts.specs.Cycles.{HasCycle}
use Rattle.case_texts.specs.Faults.{HasFault, HasNoTree}
use Rattle.case_texts.specs.Forms.{IsTreeOf, SaysDesign, SaysGroups}
use Rattle.case_texts.specs.Reading.{EventsAreFaulty, FaultyTextsAreUnread, GroupsAreFaulty, IsRead, OfDesign, OpeningIsFaulty}
use Rattle.case_texts.specs.What.{Texts}
use Rattle.case_texts.proofs.Readings.{no_board, no_events, no_flat, no_groups, no_plain_opening, no_table, no_tokens_where, one_groups, tokens_once}
use Rattle.case_texts.proofs.NoResults.{no_map, no_net, no_schedule}

-- tokens with a first fault have no tree
first_fault_no_tree : (ts : List Terminal) (p : ℕ) (tree : Source) → FirstFault ts p → IsSource ts tree → ⊥
first_fault_no_tree ts p tree fault is =
    elim (cases_lt p (length ts)) [
      | inl below ↦ fault.up_to below (drop (p + 1) ts, tree, subst (λ whole. IsSource whole tree) (sym (take-append-drop (p + 1) ts)) is)
      | inr past ↦ let inside : p ≤ length ts = fault.inside in let at_end : p ≡ length ts = omega (arith, inside, past) in fault.at_end at_end tree is
    ]

-- tokens that the parser refuses have no tree within the nesting
explained_no_tree : (ts : List Terminal) (fault : ParseFault) (tree : Source) → Explains ts (Err fault) → (fault ≡ parse.NoMemory → ⊥) → Explains ts (Ok tree) → ⊥
explained_no_tree ts (parse.Expected p) tree explains apart is = first_fault_no_tree ts p tree explains.0 is.0
explained_no_tree ts (parse.Unsupported p) tree explains apart is = first_fault_no_tree ts p tree explains.0 is.0
explained_no_tree ts (parse.TooDeep p) tree explains apart is =
    let deep : dives 64 ts ≡ Some (drop p ts) = explains.1 in
    let none : dives 64 ts ≡ None = is.1 in
    cc
explained_no_tree ts parse.NoMemory tree explains apart is = apart refl

-- a text of which a fault of the parser is told has no tree
no_tree_where : reading.EachTextHasOneAnswer → (text : List ℕ) (fault : ℕ → ParseFault) (at : ℕ) (tokens : List Token) (tree : Source) → ((p : ℕ) → fault p ≡ parse.NoMemory → ⊥) → HasNoTree text fault at → IsTreeOf text tokens tree → ⊥
no_tree_where law text fault at tokens tree apart has is =
    let same : tokens ≡ has.tokens = tokens_once law text has.tokens has.are_tokens tokens is.are_tokens in
    explained_no_tree (map terminal_at has.tokens) (fault has.place) tree has.explains (apart has.place)
    (subst (λ ts. Explains (map terminal_at ts) (Ok tree)) same is.explains)

-- a text with a fault has no tree
pub no_tree_with_fault : reading.EachTextHasOneAnswer → (text : List ℕ) (kind : TextFault) (at : ℕ) (tokens : List Token) (tree : Source) → HasFault text kind at → IsTreeOf text tokens tree → ⊥
no_tree_with_fault law text BadByte at tokens tree has is = no_tokens_where law text (lex.BadByte at) tokens has is.are_tokens
no_tree_with_fault law text OpenComment at tokens tree has is = no_tokens_where law text (lex.OpenComment at) tokens has is.are_tokens
no_tree_with_fault law text OpenAttribute at tokens tree has is = no_tokens_where law text (lex.OpenAttribute at) tokens has is.are_tokens
no_tree_with_fault law text BadNumber at tokens tree has is = no_tokens_where law text (lex.BadNumber at) tokens has is.are_tokens
no_tree_with_fault law text UnknownDigit at tokens tree has is = no_tokens_where law text (lex.UnknownDigit at) tokens has is.are_tokens
no_tree_with_fault law text Directive at tokens tree has is = no_tokens_where law text (lex.Directive at) tokens has is.are_tokens
no_tree_with_fault law text Expected at tokens tree has is = no_tree_where law text parse.Expected at tokens tree (λ p e. cc) has is
no_tree_with_fault law text Unsupported at tokens tree has is = no_tree_where law text parse.Unsupported at tokens tree (λ p e. cc) has is
no_tree_with_fault law text TooDeep at tokens tree has is = no_tree_where law text parse.TooDeep at tokens tree (λ p e. cc) has is

-- ## What faults exclude

module _ (apart : EachTextHasOneDesign) (top : List ℕ) (texts : Texts) where
  -- what holds of the design that texts say holds of each that they say
  of_design : (Holds : Parts → Type 0) → OfDesign top texts Holds → (p : Parts) → SaysDesign top texts p → Holds p
  of_design Holds of p says = subst Holds (apart (texts Design) (texts Cells) top of.design p of.says says) of.holds

  groups_unread : groups.EachTextHasOneAnswer → (fault : GroupsFault) → GroupsAreFaulty top texts fault → IsRead top texts Groups → ⊥
  groups_unread grouped fault faulty read =
      let same : read.design ≡ faulty.design = apart (texts Design) (texts Cells) top read.design faulty.design read.says faulty.says in
      no_groups grouped faulty.design (texts Groups) fault faulty.holds read.holds.0 (subst (λ p. SaysGroups p (texts Groups) read.holds.0) same read.holds.1)

  opening_unread : EachOpeningHasOneAnswer → (fault : OpeningsFault) → OpeningIsFaulty top texts fault → IsRead top texts Opening → ⊥
  opening_unread law fault faulty read =
      let same : read.design ≡ faulty.design = apart (texts Design) (texts Cells) top read.design faulty.design read.says faulty.says in
      no_plain_opening law faulty.design (texts Opening) fault faulty.holds read.holds.0 (subst (λ p. StandsForOpening p (texts Opening) read.holds.0) same read.holds.1)

  events_unread : groups.EachTextHasOneAnswer → EachRecordingHasOneAnswer → (fault : EventsFault) → EventsAreFaulty top texts fault → IsRead top texts Events → ⊥
  events_unread grouped law fault faulty read =
      let p : Parts = faulty.design in
      let same : read.design ≡ p = apart (texts Design) (texts Cells) top read.design p read.says faulty.says in
      let one : read.holds.0 ≡ faulty.holds.0 = one_groups grouped p (texts Groups) read.holds.0 faulty.holds.0 (subst (λ q. SaysGroups q (texts Groups) read.holds.0) same read.holds.2) faulty.holds.1 in
      no_events law faulty.holds.0 p (texts Events) fault faulty.holds.2 read.holds.1
      (subst (λ v. SaysEvents v p.inputs (texts Events) read.holds.1) one (subst (λ (q : Parts). SaysEvents read.holds.0 q.inputs (texts Events) read.holds.1) same read.holds.3))

-- a text with a fault is not of its form
pub faulty_unread : reading.EachTextHasOneAnswer → HasOneTree → tables.EachTextHasOneAnswer → EachTextHasOneDesign → EachTreeHasOneAnswer → CyclesAreUnranked
    → groups.EachTextHasOneAnswer → EachOpeningHasOneAnswer → EachRecordingHasOneAnswer → boards.EachTextHasOneAnswer → NetlistsAreToldApart → FaultyTextsAreUnread
faulty_unread law trees tables-law apart flattened cycles grouped openings recordings boards-law netlists top texts (refusal.Faulty fault) has read =
    no_tree_with_fault law (texts Design) fault.kind fault.at read.says.tokens read.says.tree has (record { are_tokens = read.says.tokens_are; explains = read.says.tree_is })
faulty_unread law trees tables-law apart flattened cycles grouped openings recordings boards-law netlists top texts (refusal.Cells fault) has read = no_table tables-law (texts Cells) fault has.1 read
faulty_unread law trees tables-law apart flattened cycles grouped openings recordings boards-law netlists top texts (refusal.Design fault) has read =
    no_flat law trees tables-law flattened top texts fault read.design has read.says
faulty_unread law trees tables-law apart flattened cycles grouped openings recordings boards-law netlists top texts (refusal.Cycle names) has read =
    let cycle : HasCycle read.design names = of_design apart top texts (λ p. HasCycle p names) has read.design read.says in
    cycles read.design cycle.nodes cycle.is_cycle read.holds
faulty_unread law trees tables-law apart flattened cycles grouped openings recordings boards-law netlists top texts (refusal.Groups fault) has read = groups_unread apart top texts grouped fault has read
faulty_unread law trees tables-law apart flattened cycles grouped openings recordings boards-law netlists top texts (refusal.Board fault) has read = no_board boards-law (texts Board) fault has read.0 read.1
faulty_unread law trees tables-law apart flattened cycles grouped openings recordings boards-law netlists top texts (refusal.Netlist fault) has read = no_net law netlists (texts Netlist) fault has read.0 read.1
faulty_unread law trees tables-law apart flattened cycles grouped openings recordings boards-law netlists top texts (refusal.Schedule fault) has read = no_schedule (texts Schedule) fault has read.0 read.1
faulty_unread law trees tables-law apart flattened cycles grouped openings recordings boards-law netlists top texts (refusal.Map fault) has read =
    no_map law netlists (texts Netlist) (texts Map) fault has read.0 read.1 read.2 read.3
faulty_unread law trees tables-law apart flattened cycles grouped openings recordings boards-law netlists top texts (refusal.Opening fault) has read = opening_unread apart top texts openings fault has read
faulty_unread law trees tables-law apart flattened cycles grouped openings recordings boards-law netlists top texts (refusal.Events fault) has read = events_unread apart top texts grouped recordings fault has read
