use Rattle.emu_app.specs.Answers.{FoundMeans, TraceMeans, TraceOf, WorkMeans}
use Rattle.emu_app.specs.Command.{CommandWords, words_of}
use Rattle.case_texts.specs.What.{Texts}
use Rattle.emu_app.specs.Fetching.{texts_of}
use Rattle.emu_app.proofs.Comes.{comes_as, found_means, found_trace}
use Rattle.emu_app.proofs.top.fetch_and_work.Goals as goal

pub returns-in-Ok-clause-means : goal.returns-in-Ok-clause-means
returns-in-Ok-clause-means g c =
    let n : CommandWords = words_of c.args.names.now in
    let texts : Texts = texts_of n.command c.in-Ok.texts in
    comes_as (WorkMeans n.command n.top texts)
    (FoundMeans (g.F.Files.held c.args.files.now) (g.F.Files.read_faults c.args.files.now) (g.F.Files.read_faults c.fetch_texts.new.files) (g.F.Files.blamed c.fetch_texts.new.files) n)
    (TraceMeans n.command n.top texts) (TraceOf (g.F.Files.held c.args.files.now) n)
    (g.O.Sink.written c.args.out.now) (g.O.Sink.written c.work.new.out) (g.O.Sink.faults c.args.out.now) (g.O.Sink.faults c.work.new.out) c.work.result
    (found_means (g.F.Files.held c.args.files.now) (g.F.Files.read_faults c.args.files.now) (g.F.Files.read_faults c.fetch_texts.new.files) (g.F.Files.blamed c.fetch_texts.new.files) n texts c.in-Ok.ensures.means)
    (found_trace (g.F.Files.held c.args.files.now) (g.F.Files.read_faults c.args.files.now) (g.F.Files.read_faults c.fetch_texts.new.files) (g.F.Files.blamed c.fetch_texts.new.files) n texts c.in-Ok.ensures.means)
    c.work.ensures
