use Rattle.std.proofs.Common.{subst}
use Rattle.link_rows.specs.BitRows.{IsRectangular}
use Rattle.link_rows.proofs.Tables.{rectangular-table}
use Rattle.link_rows.proofs.bit_rows.BitRows.width.Goals as goal

pub returns-clause-rectangular : goal.returns-clause-rectangular
returns-clause-rectangular c = subst IsRectangular c.self.view_is (rectangular-table c.self.inside.width _)
