use Rattle.std.proofs.Common.{arith}
use Rattle.sheets.specs.Sheets.{load_of}
use Rattle.rehearsal.proofs.Scripts.{one_more}
use Rattle.rehearsal.proofs.playing.play.Goals as goal

pub loop-next-preserved : goal.loop-next-preserved
loop-next-preserved g c =
    one_more c.loop-next.invariant (omega (arith, c.loop-next-test.true, c.loop-next.auto.script)) c.answer.result c.answer.new.room (load_of c.answer.new.sheet)
    c.answer.ensures.load c.answer.ensures.answer
