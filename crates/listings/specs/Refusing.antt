-- The bytes that a refusal is listed as, and what listing answers.
use Rattle.std.specs.Prelude.{ℕ, List, [], ◌++◌, Some, None, Ok, Err, codes, decimal, Result, unwrap_or}
use Rattle.builder.specs.declared.lines.Line.{Line}
use Rattle.builder.specs.declared.lines.Line.TheVariants.{Task, Processor}
use Rattle.builder.specs.declared.refusals.BuildRefusal.TheVariants.{NoPlan, NoRoom}
use Rattle.planfiles.specs.Numbers.{underneath}
use Rattle.templates.specs.Layouts.{Layout}
use Rattle.listings.specs.Listing.{Listed, line_end, template_text}
use Rattle.listings.specs.Numbers.{number_of}
use Rattle.listings.specs.declared.refusals.Refusal.{Refusal}
use Rattle.listings.specs.declared.refusals.Refusal.TheVariants.{Sheet, File, Build, Template}
use Rattle.listings.specs.declared.refusals.ListRefusal.{ListRefusal}
use Rattle.listings.specs.declared.refusals.ListRefusal.TheVariants.{OutputTooShort}

-- the line of the sheet that is longer than its frame
abbrev pub over_text : Line → List ℕ
over_text (Task t) = codes " task " ++ decimal t
over_text (Processor p) = codes " processor " ++ decimal p

-- what a refusal says beside its number: the line named, or the place in the file and the number underneath, 0 where there is none
abbrev pub details_text : Refusal → List ℕ
details_text (Sheet refusal) = []
details_text (File fault) = codes " at " ++ (decimal fault.place ++ (codes " by " ++ decimal (unwrap_or (underneath fault) 0)))
details_text (Build (NoPlan line)) = over_text line
details_text (Build NoRoom) = []
details_text (Template refusal) = []

abbrev pub refusal_text : Refusal → List ℕ
refusal_text refusal = codes "refused " ++ (decimal (number_of refusal) ++ (details_text refusal ++ line_end))

-- the text of a whole template
abbrev pub layout_text : Layout → List ℕ
layout_text l = template_text l.tasks l.processors l.frame l.slots

-- a listing's answer: the length, or the one refusal
abbrev pub Answered : List ℕ → List ℕ → List ℕ → Result ℕ ListRefusal → Type 0
Answered text output output' (Ok k) = Listed text output output' (Some k)
Answered text output output' (Err OutputTooShort) = Listed text output output' None
