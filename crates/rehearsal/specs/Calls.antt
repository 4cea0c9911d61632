-- What a list of calls on a sheet says, from the calls alone, and what each call answers.
use Rattle.std.specs.Prelude.{◌≡◌, ℕ, List, Some, None, Option, Ok, Err, fold, Result}
use Rattle.builder.specs.Answers.{BuildAnswer, Exact}
use Rattle.builder.specs.declared.refusals.BuildRefusal.{BuildRefusal}
use Rattle.builder.specs.declared.slots.Slot.{Slot}
use Rattle.pairings.specs.Rules.{Rule}
use Rattle.sheets.specs.Calls.{Answer, blank, after_open, after_set, after_withdraw, after_reframe, open_answer, set_answer, withdraw_answer, reframe_answer}
use Rattle.sheets.specs.Loads.{Load}
use Rattle.rehearsal.specs.declared.calls.CallRefusal.{CallRefusal}
use Rattle.rehearsal.specs.declared.calls.CallRefusal.TheVariants.{Sheet as BySheet, Build as ByBuild}
use Rattle.rehearsal.specs.declared.calls.SheetCall.{SheetCall}
use Rattle.rehearsal.specs.declared.calls.SheetCall.TheVariants.{Open, Set, Withdraw, Reframe, Build}

-- the load after one call: a refused call and a build leave it as it was
abbrev pub after : Load → SheetCall → Load
after s (Open n m l) = after_open s n m l
after s (Set t p x) = after_set s t p x
after s (Withdraw t) = after_withdraw s t
after s (Reframe l) = after_reframe s l
after s Build = s

-- the load last accepted, after a list of calls on the blank sheet
abbrev pub accepted : List SheetCall → Load
accepted calls = fold after blank calls

-- how many slots a build wrote, and none for another call, or what refused the call
abbrev pub CallAnswer : Type 0
CallAnswer = Result (Option ℕ) CallRefusal

abbrev pub of_sheet : Answer → CallAnswer
of_sheet (Ok _) = Ok None
of_sheet (Err refusal) = Err (BySheet refusal)

abbrev pub of_build : Result ℕ BuildRefusal → CallAnswer
of_build (Ok count) = Ok (Some count)
of_build (Err refusal) = Err (ByBuild refusal)

-- a build of a load: what it answers, and the room that it leaves
abbrev pub Builds : Rule → Load → List Slot → List Slot → Result ℕ BuildRefusal → Type 0
Builds admits s room room' r = BuildAnswer admits s room room' r × Exact s room r

-- what a call answers on a load, and the room that it leaves; only a build writes to the room
abbrev pub AnsweredCall : Rule → Load → SheetCall → List Slot → List Slot → CallAnswer → Type 0
AnsweredCall admits s (Open n m l) room room' a = (a ≡ of_sheet (open_answer n m l)) × (room' ≡ room)
AnsweredCall admits s (Set t p x) room room' a = (a ≡ of_sheet (set_answer s t p x)) × (room' ≡ room)
AnsweredCall admits s (Withdraw t) room room' a = (a ≡ of_sheet (withdraw_answer s t)) × (room' ≡ room)
AnsweredCall admits s (Reframe l) room room' a = (a ≡ of_sheet (reframe_answer l)) × (room' ≡ room)
AnsweredCall admits s Build room room' a = (r : Result ℕ BuildRefusal) × (a ≡ of_build r) × Builds admits s room room' r
