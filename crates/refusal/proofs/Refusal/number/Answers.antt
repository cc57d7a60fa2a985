-- `Refusal::number`: one case for each refusal.
use Rattle.refusal.specs.Number.{question_number}
use Rattle.refusal.proofs.Refusal.number.Goals as goal

pub returns-in-Length : goal.returns-in-Length
unfolding question_number
returns-in-Length c = simp c.in-Length.is

pub returns-in-Magic : goal.returns-in-Magic
unfolding question_number
returns-in-Magic c = simp c.in-Magic.is

pub returns-in-Version : goal.returns-in-Version
unfolding question_number
returns-in-Version c = simp c.in-Version.is

pub returns-in-Checksum : goal.returns-in-Checksum
unfolding question_number
returns-in-Checksum c = simp c.in-Checksum.is

pub returns-in-Field : goal.returns-in-Field
unfolding question_number
returns-in-Field c = simp c.in-Field.is

pub returns-in-NoSteps : goal.returns-in-NoSteps
unfolding question_number
returns-in-NoSteps c = simp (c.in-Invalid.is, c.in-NoSteps.is)

pub returns-in-Block : goal.returns-in-Block
unfolding question_number
returns-in-Block c = simp (c.in-Invalid.is, c.in-Block.is)

pub returns-in-Step : goal.returns-in-Step
unfolding question_number
returns-in-Step c = simp (c.in-Invalid.is, c.in-Step.is)

pub returns-in-TooLong : goal.returns-in-TooLong
unfolding question_number
returns-in-TooLong c = simp (c.in-Invalid.is, c.in-TooLong.is)

pub returns-in-Profile : goal.returns-in-Profile
unfolding question_number
returns-in-Profile c = simp c.in-Profile.is

pub returns-in-Cadence : goal.returns-in-Cadence
unfolding question_number
returns-in-Cadence c = simp c.in-Cadence.is

pub returns-in-Update : goal.returns-in-Update
unfolding question_number
returns-in-Update c = simp c.in-Update.is

pub returns-in-Totals : goal.returns-in-Totals
unfolding question_number
returns-in-Totals c = simp c.in-Totals.is

pub returns-in-EventPlaces : goal.returns-in-EventPlaces
unfolding question_number
returns-in-EventPlaces c = simp c.in-EventPlaces.is

pub returns-in-Extra : goal.returns-in-Extra
unfolding question_number
returns-in-Extra c = simp c.in-Extra.is

pub returns-in-SheetLength : goal.returns-in-SheetLength
unfolding question_number
returns-in-SheetLength c = simp c.in-SheetLength.is

pub returns-in-Act : goal.returns-in-Act
unfolding question_number
returns-in-Act c = simp c.in-Act.is

pub returns-in-Record : goal.returns-in-Record
unfolding question_number
returns-in-Record c = simp c.in-Record.is

pub returns-in-Output : goal.returns-in-Output
unfolding question_number
returns-in-Output c = simp c.in-Output.is

pub returns-in-Standing : goal.returns-in-Standing
unfolding question_number
returns-in-Standing c = simp c.in-Standing.is

pub returns-in-BikeNumber : goal.returns-in-BikeNumber
unfolding question_number
returns-in-BikeNumber c = simp c.in-BikeNumber.is
