use Rattle.std.proofs.Common.{ap, sym, rules}
use Rattle.preferences.specs.Reach.{reach_depth}
use Rattle.preferences.proofs.Reaching.{grown_trailed, grown_more, room_more}
use Rattle.preferences.proofs.search.Search.reach.Goals as goal

pub returns-then-is_none-clause-trailed : goal.returns-then-is_none-clause-trailed
returns-then-is_none-clause-trailed g c = grown_trailed _ _ _ _ _ c.requires.near c.requires.trailed.wide c.requires.room (sym (ap reach_depth c.unwrap-depth.ensures)) (search rules) _ _ _ _ c.requires.trailed c.requires.late c.requires.kind

pub returns-then-is_none-clause-room : goal.returns-then-is_none-clause-room
returns-then-is_none-clause-room g c = room_more _ _ _ (grown_more _ _ _ _ _ c.requires.near c.requires.trailed.wide c.requires.room (sym (ap reach_depth c.unwrap-depth.ensures)) (search rules)) c.requires.room
