-- Every example, worked out.
use mathlib.Core.Path.{refl}
use Rattle.numbers.specs.Rounding.{half_up}
use Rattle.calendar.specs.Calendar.{leap_year, is_month, month_days, month_number}
use Rattle.sharing.specs.Shares.{portion, taken, spread, shares_over, apart_at, shares_apart, stretched}
use Rattle.power.specs.Power.{formula, shared_power}
use Rattle.marks.specs.Marks.{peak_count, working_days, capacity_sum, capacity_of}
use Rattle.marks.specs.Peak.{peak_part, peak_rule}
use Rattle.contract.specs.Contract.{power_of}
use Rattle.rules.specs.Rules.{by_weights, by_peaks, ground_six_in, on_tested_past, on_control_past, on_control, on_billing, rules}
use Rattle.examples.specs.Examples.{Examples}
use Rattle.examples.proofs.Months.{three_months, past_hour}
use Rattle.examples.proofs.table.Goals as goal

examples : Examples
unfolding half_up leap_year is_month month_days month_number portion taken spread shares_over apart_at shares_apart formula shared_power peak_count capacity_of
    peak_part peak_rule working_days capacity_sum power_of stretched by_weights by_peaks ground_six_in on_tested_past on_control_past on_control
    on_billing rules
examples = record {
  a = (refl, refl, refl, refl);
  b = refl;
  c = refl;
  d = refl;
  e = (refl, refl);
  f = refl;
  g = (refl, refl);
  h = (refl, refl);
  i = refl;
  j = refl;
  k = (refl, refl, refl, refl);
  l = (refl, refl);
  m = three_months;
  n = past_hour;
}

pub returns : goal.returns
returns c = examples
