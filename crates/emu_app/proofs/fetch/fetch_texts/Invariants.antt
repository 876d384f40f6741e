use Rattle.emu_app.specs.Command.{words_of}
use Rattle.emu_app.proofs.Fetches.{SoFar}
use Rattle.emu_app.proofs.fetch.fetch_texts.Given as goal

abbrev pub invariant-texts : goal.invariant-texts
invariant-texts g l =
    SoFar (g.F.Files.held l.files) (g.F.Files.held l.initial.files) (g.F.Files.read_faults l.files) (g.F.Files.read_faults l.initial.files)
    (g.F.Files.store_faults l.files) (g.F.Files.store_faults l.initial.files) (words_of l.names) l.place l.texts
