use Rattle.std.proofs.Common.{◌≡◌, true, false, is_some, rules}
use Rattle.std.proofs.lemmas.Iterator.{first_from_Range}
use borrow.Author.Tests.{tests}
use Rattle.graphs.specs.Graphs.{at}
use Rattle.preferences.proofs.search.Search.loose.Goals as goal

pub returns : goal.returns
returns g c = let h = first_from_Range _ _ _ c.find.result (λ a. (is_some (at c.args.self.now.holder a) ≡ false) × ((g.G.Graph.shape c.args.self.now.graph.now).joined a c.args.q ≡ true)) (λ a. is_some (at c.args.self.now.holder a) ≡ false → (g.G.Graph.shape c.args.self.now.graph.now).joined a c.args.q ≡ true → ⊥) c.find.ensures.ran (λ x q k. search (rules, tests)) (λ x q k. search (rules, tests)) in search rules
