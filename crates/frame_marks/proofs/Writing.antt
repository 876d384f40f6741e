-- How far the writes of memories stand.
use Rattle.std.proofs.Common.{◌≡◌, ◌<◌, ◌≤◌, ◌+◌, ℕ, Bool, false, List, [], ◌∷◌, ◌++◌, take, length, refl, sym, ap, subst, ◌∙◌, inl, inr, if◌then◌else◌}
use Rattle.std.specs.Prelude.{◌==◌, ◌&&◌, ◌⊎◌, Option, Some, None, slice_get, option_map}
use Rattle.std.specs.Option.{option_or, option_map_or}
use Rattle.std.proofs.lemmas.Bool.{cases_eq}
use Rattle.std.proofs.lemmas.List.{take_all}
use Rattle.id_arena.specs.declared.keys.ChipId.{ChipId}
use Rattle.id_arena.specs.declared.keys.MemId.{MemId}
use Rattle.design_core.specs.declared.node.NodeId.{NodeId}
use Rattle.emu_machine.specs.declared.netlist.EmuWrite.{EmuWrite}
use Rattle.emu_machine.specs.declared.schedule.Action.{Action}
use Rattle.emu_machine.specs.declared.schedule.Action.TheVariants.{Write}
use Rattle.emu_machine.specs.Netlist.{chip_at}
use Rattle.emu_machine.specs.State.{first_given, write_port}
use Rattle.emu_machine.specs.Marks.{Mark, MarkState, port_written, net_mark, net_marks, all_before}
use Rattle.facts.proofs.Tests.{same_number}
use Rattle.frame_marks.specs.declared.tables.Given.{Given}
use Rattle.frame_marks.specs.declared.tables.MemoryMarks.{MemoryMarks}
use Rattle.frame_marks.specs.Frames.{FrameState, mark_in, memory_in}
use Rattle.frame_marks.specs.Tables.{AreNets, IsStart, marks_in}
use Rattle.frame_marks.specs.Takes.{WritesOne, WritesAll, after_write, IsCounted, IsAfterWrite}
use Rattle.frame_marks.proofs.Gifts.{first_more, one_more}
use Rattle.frame_marks.proofs.Giving.{is_other, marks_same}
use Rattle.frame_marks.proofs.Ports.{write_low}

-- ## One write

module _ (f : FrameState) (c m k : ℕ) (port : EmuWrite) (at : write_port f.results.net c m k ≡ Some port) where
  memory_at : (inside : NodeId → Bool) (s : MarkState) → IsStart inside s f
      → memory_in f.memories c m ≡ record { standing = s.standing c m; broken = s.broken c m; wrote = s.wrote c m }
  memory_at inside s start = start.rest.memories c m (write_low f.results c m k port at)

  pub due_counts : (standing : ℕ) → standing ≡ (memory_in f.memories c m).standing → k ≡ standing
      → port.enable.place < (chip_at f.results.net c).nets → AreNets f.results c port.address → AreNets f.results c port.feed
      → (counts : Bool)
      → counts ≡ ((mark_in f.chips c port.enable.place).after && all_before (marks_in f.chips c port.address) && all_before (marks_in f.chips c port.feed))
      → IsCounted f c m k counts
  due_counts standing is due low address feed counts counts_is inside s start =
      counts_is
      ∙ ap (λ (x : Mark). x.after && all_before (marks_in f.chips c port.address) && all_before (marks_in f.chips c port.feed)) (start.all c port.enable.place low)
      ∙ ap (λ ms. (net_mark f.design f.results inside s c port.enable.place).after && all_before ms && all_before (marks_in f.chips c port.feed)) (marks_same f inside s start c port.address address)
      ∙ ap (λ ms. (net_mark f.design f.results inside s c port.enable.place).after && all_before (net_marks f.design f.results inside s c port.address) && all_before ms) (marks_same f inside s start c port.feed feed)
      ∙ sym (ap (λ b. b && option_map_or (λ (w : EmuWrite). (net_mark f.design f.results inside s c w.enable.place).after && all_before (net_marks f.design f.results inside s c w.address) && all_before (net_marks f.design f.results inside s c w.feed)) (write_port f.results.net c m k) false) (same_number k (s.standing c m) (due ∙ same))
      ∙ ap (λ o. option_map_or (λ (w : EmuWrite). (net_mark f.design f.results inside s c w.enable.place).after && all_before (net_marks f.design f.results inside s c w.address) && all_before (net_marks f.design f.results inside s c w.feed)) o false) at)
    where
      same : standing ≡ s.standing c m
      same = is ∙ ap (λ (x : MemoryMarks). x.standing) (memory_at inside s start)

-- ## What the actions of a slot write

abbrev pub memory_gift : ChipId → ℕ → MemoryMarks → Given MemoryMarks
memory_gift chip m what = record { chip = chip; place = m; what = what }

pub port_wrote : (f : FrameState) (chip : ChipId) (mem : MemId) (k : ℕ) (what : MemoryMarks) → IsAfterWrite f chip.place mem.place k what
    → (before after : List (Given MemoryMarks)) → after ≡ before ++ memory_gift chip mem.place what ∷ [] → WritesOne f (Write chip mem k) before after
port_wrote f chip mem k what is before after same =
    subst (λ gs. WritesOne f (Write chip mem k) before gs) (sym same)
    (λ inside s start.
    one_more (λ c m. option_map (after_write f inside s c m) (port_written c m (Write chip mem k))) before (memory_gift chip mem.place what)
    (λ c m. go inside s start c m (cases_eq chip.place c) (cases_eq mem.place m)))
  where
    go : (inside : NodeId → Bool) (s : MarkState) → IsStart inside s f → (c m : ℕ) → (chip.place ≡ c) ⊎ (chip.place ≡ c → ⊥) → (mem.place ≡ m) ⊎ (mem.place ≡ m → ⊥)
        → (if (chip.place == c) && (mem.place == m) then Some what else None)
        ≡ option_map (after_write f inside s c m) (if (chip.place == c) && (mem.place == m) then Some k else None)
    go inside s start c m (inl same_c) (inl same_m) =
        ap (λ a. if a && (mem.place == m) then Some what else None) (same_number chip.place c same_c)
        ∙ ap (λ a. if a then Some what else None) (same_number mem.place m same_m)
        ∙ ap Some (is inside s start ∙ ap (λ (x : ℕ). after_write f inside s x mem.place k) same_c ∙ ap (λ (x : ℕ). after_write f inside s c x k) same_m)
        ∙ sym (ap (λ a. option_map (after_write f inside s c m) (if a && (mem.place == m) then Some k else None)) (same_number chip.place c same_c)
        ∙ ap (λ a. option_map (after_write f inside s c m) (if a then Some k else None)) (same_number mem.place m same_m))
    go inside s start c m (inl same_c) (inr other) =
        ap (λ a. if a && (mem.place == m) then Some what else None) (same_number chip.place c same_c)
        ∙ ap (λ a. if a then Some what else None) (is_other mem.place m other)
        ∙ sym (ap (λ a. option_map (after_write f inside s c m) (if a && (mem.place == m) then Some k else None)) (same_number chip.place c same_c)
        ∙ ap (λ a. option_map (after_write f inside s c m) (if a then Some k else None)) (is_other mem.place m other))
    go inside s start c m (inr other) which =
        ap (λ a. if a && (mem.place == m) then Some what else None) (is_other chip.place c other)
        ∙ sym (ap (λ a. option_map (after_write f inside s c m) (if a && (mem.place == m) then Some k else None)) (is_other chip.place c other))

map_or : {A B : Type 0} (g : A → B) (o p : Option A) → option_map g (option_or o p) ≡ option_or (option_map g o) (option_map g p)
map_or g None p = refl
map_or g (Some x) p = refl

pub one_written : (f : FrameState) (actions : List Action) (k : ℕ) (a : Action) → slice_get actions k ≡ Some a → (before after : List (Given MemoryMarks))
    → WritesAll f (take k actions) before → WritesOne f a before after → WritesAll f (take (k + 1) actions) after
one_written f actions k a at before after all one inside s start c m =
    one inside s start c m
    ∙ ap (λ o. option_or o (option_map (after_write f inside s c m) (port_written c m a))) (all inside s start c m)
    ∙ sym (map_or (after_write f inside s c m) (first_given (port_written c m) (take k actions)) (port_written c m a))
    ∙ sym (ap (option_map (after_write f inside s c m)) (first_more (port_written c m) actions k a at))

-- what the first actions write, where these are all
pub all_written : (f : FrameState) (actions : List Action) (k : ℕ) → length actions ≤ k → (given : List (Given MemoryMarks)) → WritesAll f (take k actions) given → WritesAll f actions given
all_written f actions k whole given all =
    subst (λ some. WritesAll f some given) (take_all k actions whole) all
