use Rattle.pairings.proofs.Seeing.{cover_paired}
use Rattle.preferences.specs.Preferences.{First}
use Rattle.preferences.proofs.Choosing.{chosen}
use Rattle.preferences.proofs.first.FirstRulePairingRule.choose.Goals as goal

pub returns : goal.returns
returns g c =
    let first = c.advanced-row.ensures.first in
    chosen (λ h marks before row. First (g.P.Preference.order c.args.self.now.preference) h marks before row) _ _ _ _ c.from_row.result (cover_paired _ _ _ c.advanced-row.ensures.small first.cover) first c.from_row.ensures
