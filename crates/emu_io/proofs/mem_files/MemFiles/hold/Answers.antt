use Rattle.std.proofs.Common.{◌≡◌, ap, refl, ◌∙◌}
use Rattle.emu_io.proofs.Entries.{added}
use Rattle.emu_io.proofs.mem_files.MemFiles.hold.Goals as goal

pub returns-clause-ok : goal.returns-clause-ok
returns-clause-ok c =
    let entries = ap (λ m. m.entries) c.self.view_is in
    let name : c.in_ok-name.name ≡ c.args.name.now = c.in_ok-name.ensures ∙ c.bytes.ensures in
    let updates = c.in_ok-insert.ensures.updates in (
      added c.self.inside.entries c.insert.new.self _ _ _ _ _ entries name c.in_ok-bytes.ensures updates,
      rw (← c.self.view_is) refl,
    )
