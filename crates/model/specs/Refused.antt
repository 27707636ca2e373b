-- The number of each refusal (document 01, 'Who causes which number'), and of what a call's tests give.
use Rattle.std.specs.Prelude.{ℕ, ◌≡◌, List, length, Result, Ok, Err, MatchResult}
use Rattle.record.specs.declared.Record.{Record}
use Rattle.model.specs.declared.Answer.{Answer}
use Rattle.model.specs.declared.refusals.Refusal.{Refusal}
use Rattle.model.specs.declared.refusals.Refusal.TheVariants.{StoreSize, InvalidRecord, CalendarOver, NoSuchMonth, MeterKind, BasisOrPower, CableValue}
use Rattle.model.specs.declared.refusals.Refusal.TheVariants.{CurrentsOrPlace, IntegralMeter, NoSuchMeter, Barred, AlreadyGiven, NotMonthHours}
use Rattle.model.specs.declared.refusals.Refusal.TheVariants.{ReadingAboveLimit, OutOfService, UnknownReason, InService, TwoDenials, NoDenial}
use Rattle.model.specs.declared.refusals.Refusal.TheVariants.{NotMonthMarks, UnknownMark, TooManyPeakHours, TooManyCapacityHours}
use Rattle.model.specs.declared.refusals.Refusal.TheVariants.{HourBufferSize, WordAboveLimit, NoCapacityHour}
use Rattle.rules.specs.Calls.{Opening, Call}
use Rattle.model.specs.Refusals.{open_refusal}
use Rattle.model.specs.Model.{State, state, accept, refusal, without_figures}
use Rattle.model.specs.Opening.{opened}

abbrev pub refusal_number : Refusal → ℕ
-- ANYONE
-- store not 10,416 words
refusal_number StoreSize = 1
-- record not open, a field outside the limits or not 0 where it has to be, ..
refusal_number InvalidRecord = 2
-- the calendar is over
refusal_number CalendarOver = 3
-- CONTRACT STAFF
-- year or month
refusal_number NoSuchMonth = 10
-- meter kind
refusal_number MeterKind = 11
-- basis not 1 to 3, or power 0 or above 1,000,000 on basis 1 or 2
refusal_number BasisOrPower = 12
-- cable value on basis 3
refusal_number CableValue = 13
-- on basis 2, list empty or above 64, a current outside 1 to 2,000, or place outside the list
refusal_number CurrentsOrPlace = 14
-- an integral billing meter where P is 670 kW or more
refusal_number IntegralMeter = 15
-- METER READERS
-- no such meter, or a reading of the other form, or neighbour source not 1 or 2
refusal_number NoSuchMeter = 20
-- billing reading while out of service or with denials 2
refusal_number Barred = 21
-- already given
refusal_number AlreadyGiven = 22
-- not T hours
refusal_number NotMonthHours = 23
-- an hour above 1,000,000, or a volume above T × 1,000,000
refusal_number ReadingAboveLimit = 24
-- NETWORK FIRM
-- failure while out of service
refusal_number OutOfService = 30
-- reason not 1 to 4
refusal_number UnknownReason = 31
-- admission while in service
refusal_number InService = 32
-- denial with two
refusal_number TwoDenials = 33
-- permission with none
refusal_number NoDenial = 34
-- SETTLEMENT
-- not T marks
refusal_number NotMonthMarks = 40
-- mark above 3
refusal_number UnknownMark = 41
-- over 16 peak hours in a day
refusal_number TooManyPeakHours = 42
-- two or more capacity hours in a day
refusal_number TooManyCapacityHours = 43
-- hour buffer not 744
refusal_number HourBufferSize = 44
-- a word above 3,000,000 in rows 0 to 11, or above 1,000,000 in 12 or 13
refusal_number WordAboveLimit = 45
-- peak hours in a day without a capacity hour
refusal_number NoCapacityHour = 46

-- the number of a refusal, and without one that of the rest of the list
abbrev pub number_or : {A : Type 0} → Result A Refusal → ℕ → ℕ
number_or (Ok x) rest = rest
number_or (Err e) rest = refusal_number e

-- 0 without one
abbrev pub number_of : {A : Type 0} → Result A Refusal → ℕ
number_of x = number_or x 0

-- WHAT A CALL THAT IS NO CLOSING COMES TO: whether it is refused, and the record and the store behind it. An accepted one leaves what the rules
-- give, a refused one leaves both as they were
abbrev pub Gives : State → Call → Result (Unit {0}) Refusal → State → Type 0
Gives s c x after = (number_of x ≡ refusal s c) × MatchResult x (λ done. after ≡ accept s c) (λ e. after ≡ s)

-- the answer of an opening; a refused one returns the record that is given beside it
abbrev pub answered : Result Record Refusal → Record → Answer
answered (Ok after) before = without_figures 0 after
answered (Err e) before = without_figures (refusal_number e) before

-- WHAT AN OPENING COMES TO: the record of the point that it opens, or why it is refused, which leaves the store as it was
abbrev pub GivesPoint : Opening → List ℕ → Result Record Refusal → List ℕ → Type 0
GivesPoint o before x after =
    (number_of x ≡ open_refusal (length before) o) × MatchResult x (λ r. state r after ≡ opened o) (λ e. after ≡ before)
