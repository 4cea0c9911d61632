use Rattle.templates.proofs.Fitting.{fits_when}
use Rattle.templates.proofs.questions.row_fits.Goals as goal

pub returns : goal.returns
returns c = fits_when _ _ _ _ c.no_entry_twice_before.ensures
