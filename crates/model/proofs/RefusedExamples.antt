-- The number of each refusal, and of what a call's tests give, on values. By computation; assumes nothing.
use mathlib.Core.Path.{◌≡◌, refl}
use Rattle.std.specs.Prelude.{Result, Ok, Err}
use Rattle.record.specs.declared.Record.{Record}
use Rattle.record.specs.Record.{zero_record}
use Rattle.rules.specs.Rules.{no_figures}
use Rattle.model.specs.declared.refusals.Refusal.{Refusal}
use Rattle.model.specs.declared.refusals.Refusal.TheVariants.{StoreSize, InvalidRecord, CalendarOver, NoSuchMonth, MeterKind, BasisOrPower, CableValue}
use Rattle.model.specs.declared.refusals.Refusal.TheVariants.{CurrentsOrPlace, IntegralMeter, NoSuchMeter, Barred, AlreadyGiven, NotMonthHours}
use Rattle.model.specs.declared.refusals.Refusal.TheVariants.{ReadingAboveLimit, OutOfService, UnknownReason, InService, TwoDenials, NoDenial}
use Rattle.model.specs.declared.refusals.Refusal.TheVariants.{NotMonthMarks, UnknownMark, TooManyPeakHours, TooManyCapacityHours}
use Rattle.model.specs.declared.refusals.Refusal.TheVariants.{HourBufferSize, WordAboveLimit, NoCapacityHour}
use Rattle.model.specs.Refused.{refusal_number, number_or, number_of, answered}
use Rattle.model.proofs.Examples.{point}

-- anyone's and contract staff's
opening_numbers :
    (refusal_number StoreSize ≡ 1)
    × (refusal_number InvalidRecord ≡ 2)
    × (refusal_number CalendarOver ≡ 3)
    × (refusal_number NoSuchMonth ≡ 10)
    × (refusal_number MeterKind ≡ 11)
    × (refusal_number BasisOrPower ≡ 12)
    × (refusal_number CableValue ≡ 13)
    × (refusal_number CurrentsOrPlace ≡ 14)
    × (refusal_number IntegralMeter ≡ 15)
opening_numbers = (refl, refl, refl, refl, refl, refl, refl, refl, refl)

-- the meter readers' and the network firm's
month_numbers :
    (refusal_number NoSuchMeter ≡ 20)
    × (refusal_number Barred ≡ 21)
    × (refusal_number AlreadyGiven ≡ 22)
    × (refusal_number NotMonthHours ≡ 23)
    × (refusal_number ReadingAboveLimit ≡ 24)
    × (refusal_number OutOfService ≡ 30)
    × (refusal_number UnknownReason ≡ 31)
    × (refusal_number InService ≡ 32)
    × (refusal_number TwoDenials ≡ 33)
    × (refusal_number NoDenial ≡ 34)
month_numbers = (refl, refl, refl, refl, refl, refl, refl, refl, refl, refl)

-- settlement's
closing_numbers :
    (refusal_number NotMonthMarks ≡ 40)
    × (refusal_number UnknownMark ≡ 41)
    × (refusal_number TooManyPeakHours ≡ 42)
    × (refusal_number TooManyCapacityHours ≡ 43)
    × (refusal_number NoCapacityHour ≡ 46)
    × (refusal_number HourBufferSize ≡ 44)
    × (refusal_number WordAboveLimit ≡ 45)
closing_numbers = (refl, refl, refl, refl, refl, refl, refl)

-- tests that all pass, with the record after the call, and one that does not
abbrev passed : Result Record Refusal
passed = Ok (point 1 2)

abbrev failed : Result Record Refusal
failed = Err NoDenial

-- the number of the test that does not pass; where all pass, the rest of the list has its say, and 0 where there is none
numbers : (number_or failed 7 ≡ 34) × (number_or passed 7 ≡ 7) × (number_of failed ≡ 34) × (number_of passed ≡ 0)
numbers = (refl, refl, refl, refl)

-- the record after an accepted call, and before a refused one; neither has figures
answers :
    (answered passed zero_record ≡ record { refusal = 0; after = point 1 2; figures = no_figures })
    × (answered failed zero_record ≡ record { refusal = 34; after = zero_record; figures = no_figures })
answers = (refl, refl)
