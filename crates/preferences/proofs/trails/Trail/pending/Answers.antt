use Rattle.std.proofs.Common.{◌≡◌, ◌<◌, true, false, rules}
use Rattle.std.proofs.lemmas.Iterator.{first_from_Range}
use borrow.Author.Tests.{tests}
use Rattle.preferences.specs.Reach.{depth_of, followed}
use Rattle.preferences.proofs.trails.Trail.pending.Goals as goal

pub returns : goal.returns
returns c = let h = first_from_Range _ _ _ c.find.result (λ x. (0 < depth_of c.args.self.now x) × (followed c.args.self.now x ≡ false)) (λ x. 0 < depth_of c.args.self.now x → followed c.args.self.now x ≡ true) c.find.ensures.ran (λ x q k. search (rules, tests)) (λ x q k. search (rules, tests)) in search rules
