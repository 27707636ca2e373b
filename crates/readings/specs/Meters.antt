-- The meters that are read, and the calls that read them (document 01, 'What a point keeps').
use Rattle.std.specs.Prelude.{ℕ, ◌≡◌, Bool, false, not, List, eqb, Result, IfOk}
use Rattle.contract.specs.declared.Contract.{Contract}
use Rattle.record.specs.declared.Service.{Service}
use Rattle.record.specs.declared.Reading.{Reading}
use Rattle.record.specs.declared.Readings.{Readings}
use Rattle.record.specs.declared.Record.{Record}
use Rattle.record.specs.Record.{is_set, with_billing, with_control}
use Rattle.rules.specs.Calls.{billing_hours, control_hours, billing_volume, control_volume, Call, read}
use Rattle.model.specs.declared.refusals.Refusal.{Refusal}
use Rattle.model.specs.Refusals.{refuse, refuse_anyone, is_barred, is_source}
use Rattle.model.specs.Refused.{number_or}
use Rattle.readings.specs.declared.Form.{Form}
use Rattle.readings.specs.declared.Form.TheVariants.{Hours, Volume}
use Rattle.readings.specs.declared.Meter.{Meter}
use Rattle.readings.specs.declared.Meter.TheVariants.{Billing, Control}
use Rattle.readings.specs.declared.Source.{Source}
use Rattle.readings.specs.declared.Source.TheVariants.{First, Second}

-- its kind in the contract
abbrev pub kind_of : Meter → Contract → ℕ
kind_of Billing c = c.billing
kind_of Control c = c.control

-- its reading of this month, and one put in its place
abbrev pub reading_of : Meter → Readings → Reading
reading_of Billing g = g.billing
reading_of Control g = g.control

abbrev pub with_reading : Meter → Readings → Reading → Readings
with_reading Billing g x = with_billing g x
with_reading Control g x = with_control g x

-- the row of its hours
abbrev pub row_of : Meter → ℕ
row_of Billing = 12
row_of Control = 13

-- a billing reading is barred while out of service or with denials 2, a control reading never
abbrev pub bars : Meter → Service → Bool
bars Billing s = is_barred s
bars Control s = false

-- the calls that read it
abbrev pub hours_call : Meter → List ℕ → Call
hours_call Billing hours = read (billing_hours hours)
hours_call Control hours = read (control_hours hours)

abbrev pub volume_call : Meter → ℕ → Call
volume_call Billing v = read (billing_volume v)
volume_call Control v = read (control_volume v)

-- the kind of a meter that is read in hours, and of one that is read in a volume
abbrev pub form_kind : Form → ℕ
form_kind Hours = 1
form_kind Volume = 2

-- 1 to 3 and 20 to 22 of a reading by a meter of a kind, 1 interval or 2 integral, and then the rest
abbrev pub refuse_meter : ℕ → Record → Meter → ℕ → ℕ → ℕ
refuse_meter words r m kind rest =
    refuse_anyone words r
    (refuse (not (eqb (kind_of m r.contract) kind)) 20
    (refuse (bars m r.service) 21
    (refuse (is_set (reading_of m r.readings).given) 22 rest)))

abbrev pub source_number : Source → ℕ
source_number First = 1
source_number Second = 2

-- the source of a number, and 20 where there is none
abbrev pub FindsSource : ℕ → Result Source Refusal → Type 0
FindsSource n x =
    ((rest : ℕ) → refuse (not (is_source n)) 20 rest ≡ number_or x rest) × IfOk x (λ source. source_number source ≡ n)
