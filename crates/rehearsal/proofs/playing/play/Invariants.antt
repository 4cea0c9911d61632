use Rattle.rehearsal.proofs.Scripts.{SoFar}
use Rattle.rehearsal.proofs.playing.play.Given as goal
use Rattle.sheets.specs.Sheets.{load_of}

abbrev pub invariant-loop-next : goal.invariant-loop-next
invariant-loop-next g l = SoFar (g.R.PairingRule.admits l.rule) l.initial.script l.script l.initial.room l.room (load_of l.sheet) l.next-index
