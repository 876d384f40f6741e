-- Inside the rule A11: where the end of one frame fails.
use Rattle.std.specs.Prelude.{◌≡◌, ◌<◌, ℕ, true, None, List, slice_get}
use Rattle.id_arena.specs.declared.keys.ChipNetId.{ChipNetId}
use Rattle.emu_machine.specs.declared.netlist.EmuRead.{EmuRead}
use Rattle.emu_machine.specs.declared.place.Place.{Place}
use Rattle.emu_machine.specs.declared.place.Place.TheVariants.{EndRead}
use Rattle.emu_machine.specs.State.{read_port}
use Rattle.emu_machine.specs.Netlist.{chip_at, gate_of}
use Rattle.emu_machine.specs.Acceptance.{Case, FailsA11, end_marks, has_frame}
use Rattle.frame_marks.specs.Frames.{FrameState, Shows}
use Rattle.shape_check.specs.Influences.{Spread, inside_of}

-- a case with the influences of its groups, and one of its frames
pub record FrameEnd : Type 0 where
  pub judged : Case
  pub spread : Spread
  pub frame : ℕ

-- where frames end badly
abbrev pub EndFails : FrameEnd → Place → Type 0
EndFails e at = FailsA11 e.judged (inside_of e.spread) at

-- the same of read ports alone
abbrev pub ReadFails : FrameEnd → Place → Type 0
ReadFails e (EndRead k chip mem port) = EndFails e (EndRead k chip mem port)
ReadFails e other = ⊥

-- these are the read ports of memory `m` of chip `k`
pub record AreReads (e : FrameEnd) (k m : ℕ) (reads : List EmuRead) : Type 0 where
  pub each : (j : ℕ) → read_port e.judged.results.net k m j ≡ slice_get reads j

-- the marks that are followed are those at the end of the frame, which is there
pub record AreEndMarks (e : FrameEnd) (f : FrameState) : Type 0 where
  pub design : f.design ≡ e.judged.design
  pub results : f.results ≡ e.judged.results
  pub there : has_frame e.judged e.frame ≡ true
  pub shows : Shows (inside_of e.spread e.frame) (end_marks e.judged (inside_of e.spread) e.frame) f

-- a net of chip `k` that no gate drives
pub record IsEndNet (e : FrameEnd) (k : ℕ) (net : ChipNetId) : Type 0 where
  pub low : net.place < (chip_at e.judged.results.net k).nets
  pub free : gate_of (chip_at e.judged.results.net k) net.place ≡ None

-- marks are followed for the design, the results and the wires of a case
pub record AreMarksOf (c : Case) (f : FrameState) : Type 0 where
  pub design : f.design ≡ c.design
  pub results : f.results ≡ c.results
  pub wires : f.wires ≡ c.board.wires
