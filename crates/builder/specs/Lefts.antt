-- What is left to lay, as a load whose frame is the ticks not yet laid.
use Rattle.sheets.specs.Loads.{Load}
use Rattle.builder.specs.Reading.{load_from}
use Rattle.builder.specs.declared.work.Work.{Work}
use Rattle.builder.specs.declared.left.Left.{Left}

abbrev pub work_of : Work → Load
work_of s = load_from s.tasks s.processors s.frame s.ticks

abbrev pub left_of : Left → Load
left_of s = work_of s.work
