-- That texts of results with a fault stand for none.
use Rattle.std.proofs.Common.{ℕ, zero, suc, ◌≡◌, ◌<◌, ◌≤◌, ◌+◌, ◌++◌, List, [], ◌∷◌, length, take, drop, slice_get, Some, None, Err, refl, sym, ◌∙◌, ap, subst, inl, inr, arith}
use Rattle.std.proofs.lemmas.List.{append_assoc, take-append-drop}
use Rattle.std.proofs.lemmas.Bool.{cases_lt}
use Rattle.std.proofs.lemmas.Option.{same_Some}
use Rattle.std.specs.Prelude.{codes}
use Rattle.std.specs.List.{zip}
use Rattle.serde_json.specs.Data.{Data}
use Rattle.serde_json.specs.Read.{read}
use Rattle.json_members.specs.JsonText.{IsNoJson, IsTextOf}
use Rattle.id_arena.specs.declared.keys.ChipNetId.{ChipNetId}
use Rattle.token_words.specs.Word.{Word}
use Rattle.token_words.specs.Words.{words_of}
use Rattle.verilog_lex.specs.declared.fault.LexFault.TheVariants as lex
use Rattle.verilog_lex.specs.declared.token.Token.{Token}
use Rattle.verilog_lex.specs.Reads as reading
use Rattle.emu_machine.specs.declared.map.StateMap.{StateMap}
use Rattle.emu_machine.specs.declared.netlist.Chip.{Chip}
use Rattle.emu_machine.specs.declared.schedule.Frame.{Frame}
use Rattle.emu_machine.specs.declared.schedule.Schedule.{Schedule}
use Rattle.emu_machine.specs.declared.schedule.Slot.{Slot}
use Rattle.emu_machine.specs.Building.{AreNetsOf, IsGateOf, IsMemoryOf, IsRegisterOf}
use Rattle.emu_machine.specs.Netlist.{chip_at, net_drivers}
use Rattle.netlist_reader.specs.Faults.{BeginsNetlist, HasLooseForms, IsFirstWrong, NamesDeclared, SaysLoosely, first_net, nets_over}
use Rattle.netlist_reader.specs.Netlist.{Each, HasForms, NetlistsAreToldApart, SaysChips}
use Rattle.result_files.specs.Lists.{FirstBad, SayEach, SaysNone}
use Rattle.result_files.specs.Map.{IsBadMap, IsMapTree, IsOfVersion, MapAnswers, SaysEntry, SaysMap}
use Rattle.result_files.specs.Map.IsBadMap.{at as map_at, rest as map_rest}
use Rattle.result_files.specs.Schedule.{IsActionTree, IsBadFrame, IsBadSchedule, IsBadSlot, IsFrameTree, IsOfVersionOne, IsScheduleTree, IsSlotTree, SaysSchedule}
use Rattle.result_files.specs.Schedule.IsBadFrame.{shape as frame_shape, at as frame_at}
use Rattle.result_files.specs.Schedule.IsBadSchedule.{shape as schedule_shape, at as schedule_at}
use Rattle.result_files.specs.Schedule.IsBadSlot.{shape as slot_shape, at as slot_at}
use Rattle.result_files.specs.ThreeTexts.{IsNetlistText, SaysNet}
use Rattle.result_files.specs.Trees.{HasMember, list, whole}
use Rattle.result_files.proofs.Inside.{same_list, same_tree}
use Rattle.result_files.proofs.MapLemmas.{same_entries}
use Rattle.case_texts.specs.declared.refusal.MapsFault.{MapsFault}
use Rattle.case_texts.specs.declared.refusal.MapsFault.TheVariants as map_fault
use Rattle.case_texts.specs.declared.refusal.NetlistsFault.{NetlistsFault}
use Rattle.case_texts.specs.declared.refusal.NetlistsFault.TheVariants as netlist_fault
use Rattle.case_texts.specs.declared.refusal.SchedulesFault.{SchedulesFault}
use Rattle.case_texts.specs.declared.refusal.SchedulesFault.TheVariants as schedule_fault
use Rattle.case_texts.specs.Faults.{HasMapFault, HasNetlistFault, HasScheduleFault, map_fault_of}
use Rattle.case_texts.specs.Forms.{AreTokens}
use Rattle.case_texts.proofs.Netlists.{says_declared}
use Rattle.case_texts.proofs.Readings.{no_tokens_where, tokens_once}

-- ## The netlist

wider : (nets : ℕ) (named : List ChipNetId) → AreNetsOf nets named → AreNetsOf (nets_over nets) named
wider zero named all k n e = let below = all k n e in absurd (omega (arith, below))
wider (suc nets) named all k n e = all k n e

loose : (chip : Chip) → HasForms chip → HasLooseForms chip
loose chip is = go chip.nets refl
  where
    none-gate : Each (IsGateOf 0) chip.gates → Each (IsGateOf 1) chip.gates
    none-gate each k g e = absurd (let is = each k g e in let below = is.output in omega (arith, below))

    none-register : Each (IsRegisterOf 0) chip.registers → Each (IsRegisterOf 1) chip.registers
    none-register each k r e = absurd (let is = each k r e in let below = is.q in omega (arith, below))

    none-memory : Each (IsMemoryOf 0) chip.memories → Each (IsMemoryOf 1) chip.memories
    none-memory each k m e =
        let of = each k m e in
        record {
          address_bits = of.address_bits;
          some_width = of.some_width;
          width = of.width;
          ports = of.ports;
          writes = λ j port f. absurd (let w = of.writes j port f in let below = w.enable in omega (arith, below));
          reads = λ j port f. let r = of.reads j port f in record { address = wider 0 port.address r.address; bits = wider 0 port.bits r.bits; address_bits = r.address_bits; width = r.width };
        }

    go : (n : ℕ) → chip.nets ≡ n → HasLooseForms chip
    go zero none =
        let one : 1 ≡ nets_over chip.nets = sym (ap nets_over none) in
        record {
          few = is.few;
          gates = subst (λ n. Each (IsGateOf n) chip.gates) one (none-gate (subst (λ n. Each (IsGateOf n) chip.gates) none is.gates));
          registers = subst (λ n. Each (IsRegisterOf n) chip.registers) one (none-register (subst (λ n. Each (IsRegisterOf n) chip.registers) none is.registers));
          memories = subst (λ n. Each (IsMemoryOf n) chip.memories) one (none-memory (subst (λ n. Each (IsMemoryOf n) chip.memories) none is.memories));
        }
    go (suc n) some =
        let same : chip.nets ≡ nets_over chip.nets = some ∙ sym (ap nets_over some) in
        record {
          few = is.few;
          gates = subst (λ n. Each (IsGateOf n) chip.gates) same is.gates;
          registers = subst (λ n. Each (IsRegisterOf n) chip.registers) same is.registers;
          memories = subst (λ n. Each (IsMemoryOf n) chip.memories) same is.memories;
        }

-- what stands before in a text that declares its names does so too
names_front : (ws vs : List Word) → NamesDeclared (ws ++ vs) → NamesDeclared ws
names_front ws vs names before behind e = names before (behind ++ vs) (ap (λ x. x ++ vs) e ∙ append_assoc before (first_net ∷ behind) vs)

-- each front of a netlist begins one
front_begins : (words : List Word) (chips : List Chip) (k : ℕ) → SaysChips words chips → BeginsNetlist (take k words)
front_begins words chips k says =
    let whole-is : take k words ++ drop k words ≡ words = take-append-drop k words in
    let loosely : SaysLoosely words chips = record { words_are = says.words_are; forms = λ c chip e. loose chip (says.forms c chip e) } in
    record {
      rest = drop k words;
      chips = chips;
      says = subst (λ ws. SaysLoosely ws chips) (sym whole-is) loosely;
      declared = names_front (take k words) (drop k words) (subst NamesDeclared (sym whole-is) (says_declared words chips says));
    }

-- words with a first wrong one are no netlist
no_wrong : (words : List Word) (k : ℕ) (chips : List Chip) → IsFirstWrong words k → SaysChips words chips → ⊥
no_wrong words k chips wrong says =
    elim (cases_lt k (length words)) [
      | inl below ↦ wrong.up_to below (front_begins words chips (k + 1) says)
      | inr past ↦ let inside : k ≤ length words = wrong.inside in let at_end : k ≡ length words = omega (arith, inside, past) in wrong.at_end at_end chips says
    ]

-- the words of a text are those of its tokens, whichever are told
same_words : reading.EachTextHasOneAnswer → (text : List ℕ) (tokens : List Token) (chips : List Chip) → AreTokens text tokens → (is : IsNetlistText text chips) → SaysChips (words_of text tokens) chips
same_words law text tokens chips are is =
    subst (λ ts. SaysChips (words_of text ts) chips) (tokens_once law text tokens are is.tokens is.text) is.says

-- a net that is there has one driver
abbrev DriversAreOne : List Chip → ℕ → ℕ → Type 0
DriversAreOne chips c n = n < (chip_at chips c).nets → net_drivers (chip_at chips c) n ≡ 1

-- a text with a fault is no netlist
pub no_net : reading.EachTextHasOneAnswer → NetlistsAreToldApart → (text : List ℕ) (fault : NetlistsFault) → HasNetlistFault text fault → (net : List Chip) → SaysNet text net → ⊥
no_net law apart text (netlist_fault.BadByte at) has net says = no_tokens_where law text (lex.BadByte at) says.says.tokens has says.says.text
no_net law apart text (netlist_fault.OpenComment at) has net says = no_tokens_where law text (lex.OpenComment at) says.says.tokens has says.says.text
no_net law apart text (netlist_fault.OpenAttribute at) has net says = no_tokens_where law text (lex.OpenAttribute at) says.says.tokens has says.says.text
no_net law apart text (netlist_fault.BadNumber at) has net says = no_tokens_where law text (lex.BadNumber at) says.says.tokens has says.says.text
no_net law apart text (netlist_fault.UnknownDigit at) has net says = no_tokens_where law text (lex.UnknownDigit at) says.says.tokens has says.says.text
no_net law apart text (netlist_fault.Directive at) has net says = no_tokens_where law text (lex.Directive at) says.says.tokens has says.says.text
no_net law apart text (netlist_fault.Form at) has net says =
    no_wrong (words_of text has.wrong.tokens) has.token net has.wrong.first (same_words law text has.wrong.tokens net has.wrong.text says.says)
no_net law apart text (netlist_fault.Shape chip n) has net says =
    let told : SaysChips (words_of text has.says.tokens) net = same_words law text has.says.tokens net has.says.text says.says in
    let same : has.chips ≡ net = apart (words_of text has.says.tokens) has.chips net has.says.says told in
    has.least.here (subst (λ chips. DriversAreOne chips chip.place n.place) (sym same) (says.driven chip.place n.place) has.least.there)

-- ## Lists in trees

-- what a list says at a place
said_at : {X A : Type 0} (Says : X → A → Type 0) (things : List X) (values : List A) (k : ℕ) (thing : X) → SayEach Says things values → slice_get things k ≡ Some thing → (value : A) × Says thing value
said_at Says [] values k thing each e = absurd (let none : None ≡ Some thing = e in cc)
said_at Says (x ∷ things) [] k thing each e = absurd each
said_at Says (x ∷ things) (v ∷ values) zero thing each e = let same : x ≡ thing = cc in (v, subst (λ y. Says y v) same each.0)
said_at Says (x ∷ things) (v ∷ values) (suc k) thing each e = said_at Says things values k thing each.1 e

-- a list with a bad entry says no values
no_list : {X A : Type 0} (Says : X → A → Type 0) (IsBad : X → Type 0) → ((x : X) (a : A) → IsBad x → Says x a → ⊥) → (things : List X) (k : ℕ) (values : List A) → FirstBad Says IsBad things k → SayEach Says things values → ⊥
no_list Says IsBad apart things k values bad each =
    let at = said_at Says things values k bad.thing each bad.there in
    apart bad.thing at.0 bad.bad at.1

-- an object has one member of a name
one_member : (name : List ℕ) (tree a b : Data) → HasMember name a tree → HasMember name b tree → a ≡ b
one_member name tree a b has also = same_Some a b (sym has ∙ also)

-- and one list as a member of that name
one_list : (name : List ℕ) (tree : Data) (xs ys : List Data) → HasMember name (list xs) tree → HasMember name (list ys) tree → xs ≡ ys
one_list name tree xs ys has also = same_list xs ys (one_member name tree (list xs) (list ys) has also)

-- ## The schedule

no_slot : (action : ℕ) (tree : Data) (slot : Slot) → IsBadSlot tree action → IsSlotTree tree slot → ⊥
no_slot action tree slot (slot_shape never) is = never is.trees (record { tree_is = is.tree_is; few = is.few })
no_slot action tree slot (slot_at actions place short bad) is =
    let same : is.trees ≡ actions = same_list is.trees actions (sym is.tree_is ∙ short.tree_is) in
    no_list IsActionTree (SaysNone IsActionTree) (λ x a none says. none a says) actions place slot.actions bad (subst (λ ts. SayEach IsActionTree ts slot.actions) same is.each)

no_frame : (slot action : ℕ) (tree : Data) (frame : Frame) → IsBadFrame tree slot action → IsFrameTree tree frame → ⊥
no_frame slot action tree frame (frame_shape never) is =
    never is.slots.is.trees (record { name = frame.group; group = is.group; there = subst (λ m. HasMember (codes "slots") m tree) is.slots.is.tree_is is.slots.there; few = is.slots.is.few })
no_frame slot action tree frame (frame_at slots place number of bad) is =
    let there : HasMember (codes "slots") (list is.slots.is.trees) tree = subst (λ m. HasMember (codes "slots") m tree) is.slots.is.tree_is is.slots.there in
    let same : is.slots.is.trees ≡ slots = one_list (codes "slots") tree is.slots.is.trees slots there of.there in
    no_list IsSlotTree (λ t. IsBadSlot t number) (λ t s. no_slot number t s) slots place frame.slots bad (subst (λ ts. SayEach IsSlotTree ts frame.slots) same is.slots.is.each)

no_schedule_tree : (frame slot action : ℕ) (tree : Data) (s : Schedule) → IsBadSchedule tree frame slot action → IsScheduleTree tree s → ⊥
no_schedule_tree frame slot action tree s (schedule_shape never) is =
    never is.is.trees (record { there = subst (λ m. HasMember (codes "frames") m tree) is.is.tree_is is.there; few = is.is.few })
no_schedule_tree frame slot action tree s (schedule_at frames place of-slot of-action has bad) is =
    let there : HasMember (codes "frames") (list is.is.trees) tree = subst (λ m. HasMember (codes "frames") m tree) is.is.tree_is is.there in
    let same : is.is.trees ≡ frames = one_list (codes "frames") tree is.is.trees frames there has.there in
    no_list IsFrameTree (λ t. IsBadFrame t of-slot of-action) (λ t f. no_frame of-slot of-action t f) frames place s.frames bad (subst (λ ts. SayEach IsFrameTree ts s.frames) same is.is.each)

-- a text that is no JSON has no tree
no_json : (text : List ℕ) (tree : Data) → IsNoJson text → IsTextOf text tree → ⊥
no_json text tree none is =
    let nothing : read text ≡ None = none is.utf8 in
    let something : read text ≡ Some tree = is.reads in
    cc

-- a text with a fault is no schedule
pub no_schedule : (text : List ℕ) (fault : SchedulesFault) → HasScheduleFault text fault → (s : Schedule) → SaysSchedule text s → ⊥
no_schedule text schedule_fault.NotJson has s says = no_json text says.tree has says.text
no_schedule text schedule_fault.Version has s says = has.is (subst IsOfVersionOne (same_tree text says.tree has.tree says.text has.text) says.version)
no_schedule text (schedule_fault.Form frame slot action) has s says =
    no_schedule_tree frame slot action has.tree s has.is.1 (subst (λ t. IsScheduleTree t s) (same_tree text says.tree has.tree says.text has.text) says.form)

-- ## The map

no_map_tree : (version : ℕ) (chips : List Chip) (tree : Data) (entry : ℕ) (map : StateMap) → IsBadMap version chips tree entry → IsMapTree version chips tree map → ⊥
no_map_tree version chips tree entry map (map_at trees place has bad) is =
    let same : is.trees ≡ trees = same_entries tree is.trees trees is.entries has in
    no_list (SaysEntry version) (SaysNone (SaysEntry version)) (λ x a none says. none a says) (zip chips trees) place map.chips bad
    (subst (λ ts. SayEach (SaysEntry version) (zip chips ts) map.chips) same is.each)
no_map_tree version chips tree entry map (map_rest all none) is = none map is

one_version : (tree : Data) (n m : ℕ) → IsOfVersion tree n → IsOfVersion tree m → n ≡ m
one_version tree n m a b = let wholes : whole n ≡ whole m = same_Some (whole n) (whole m) (sym a.member ∙ b.member) in cc

-- a text with a fault is no map of a netlist's chips
pub no_map : reading.EachTextHasOneAnswer → NetlistsAreToldApart → (netlist text : List ℕ) (fault : MapsFault) → HasMapFault netlist text fault → (net : List Chip) (map : StateMap) → SaysNet netlist net → SaysMap text net map → ⊥
no_map law apart netlist text fault has net map says-net says =
    let told : SaysChips (words_of netlist has.net_is.says.tokens) net = same_words law netlist has.net_is.says.tokens net has.net_is.says.text says-net.says in
    let same : net ≡ has.net = sym (apart (words_of netlist has.net_is.says.tokens) has.net net has.net_is.says.says told) in
    go fault has.fails (subst (λ chips. SaysMap text chips map) same says)
  where
    go : (f : MapsFault) → MapAnswers text has.net (Err (map_fault_of f)) → SaysMap text has.net map → ⊥
    go map_fault.NotJson fails is = no_json text is.tree fails is.text
    go map_fault.Version fails is = fails.is is.version (subst (λ t. IsOfVersion t is.version) (same_tree text is.tree fails.tree is.text fails.text) is.version_is)
    go (map_fault.Form entry) fails is =
        let trees : is.tree ≡ fails.tree = same_tree text is.tree fails.tree is.text fails.text in
        let version : is.version ≡ fails.is.version =
        one_version fails.tree is.version fails.is.version (subst (λ t. IsOfVersion t is.version) trees is.version_is) fails.is.version_is in
        no_map_tree fails.is.version has.net fails.tree entry map fails.is.bad
        (subst (λ v. IsMapTree v has.net fails.tree map) version (subst (λ t. IsMapTree is.version has.net t map) trees is.form))
