-- One day more is looked at and counts, and the peak hours of all days are those of all their hours.
use Rattle.std.proofs.Common.{◌≡◌, ◌/◌, length, sym, ◌∙◌, arith, rules, add-one}
use Rattle.std.specs.Prelude.{cond}
use Rattle.numbers.proofs.Laws.{cond_most, sum_parts}
use Rattle.marks.specs.Marks.{peak_at, day_of, first_day, working_days, survey_with}
use Rattle.marks.proofs.Laws.{day_part}
use Rattle.marks.proofs.days.survey_days.Goals as goal

pub loop-k-preserved : goal.loop-k-preserved
unfolding first_day working_days
loop-k-preserved c =
    let day : c.of-day.result ≡ day_of c.args.marks.now c.loop-k.k = day_part c.args.marks.now c.loop-k.k _ (omega arith) (omega arith) c.of-day.ensures.is in
    let working : c.from-in-loop-k.result ≡ cond c.is_working.result 1 0 = search rules in (
      omega (arith, cond_most c.is_working.result {x = 1} {y = 0} {k = 1} (omega arith) (omega arith)),
      omega (arith, c.of-day.ensures.most),
      c.loop-k.invariant.2,
      rw (c.or_day.ensures, add-one, c.loop-k.invariant.3, c.is_crowded.ensures, day),
      rw (c.or_day-in-loop-k.ensures, add-one, c.loop-k.invariant.4, c.is_doubled.ensures, day),
      rw (c.or_day-in-loop-k-2.ensures, add-one, c.loop-k.invariant.5, c.is_unmatched.ensures, day),
      rw (add-one, c.loop-k.invariant.6, c.from.ensures, day),
      rw (add-one, c.loop-k.invariant.7, working, c.is_working.ensures, day),
    )

pub returns : goal.returns
unfolding survey_with
returns c =
    let e : c.loop-k.k ≡ length c.args.marks.now / 24 = omega arith in
    let bad = rw e at c.loop-k.invariant.3 in
    let odd = rw e at c.loop-k.invariant.4 in
    let lone = rw e at c.loop-k.invariant.5 in
    let peaks = rw e at c.loop-k.invariant.6 ∙ sym (sum_parts (λ h. cond (peak_at c.args.marks.now h) 1 0) 24 (length c.args.marks.now / 24)) in
    let days = rw e at c.loop-k.invariant.7 in
    λ i. record { high = c.loop-k.invariant.2 i; crowded_day = bad i; doubled_day = odd i; unmatched_day = lone i; peaks = peaks i; days = days i }
