use Rattle.templates.proofs.Soundness.{adopts_the_sound}
use Rattle.templates.proofs.laws.adopts_exactly_the_sound.Goals as goal

pub returns : goal.returns
returns c = adopts_the_sound
