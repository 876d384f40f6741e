use Rattle.results_law.proofs.Fits.{read_fits}
use Rattle.results_law.proofs.back.what_is_read_fits.Goals as goal

pub returns : goal.returns
returns c = read_fits
