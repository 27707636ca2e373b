-- The test of ground 6 is that of the rules.
use Rattle.std.proofs.Common.{sym, ◌∙◌}
use Rattle.rules.proofs.Laws.{some_hour, few_hours}
use Rattle.first_ground.specs.Counts.{inputs_of}
use Rattle.first_ground.proofs.Marks.{peaks_few, days_few, shared_capacity, shared_room}
use Rattle.first_ground.proofs.Firsts.{six_outcome, later_outcome, six_test}
use Rattle.first_ground.proofs.counts.Counts.on_tested_past.Goals as goal

pub six_fits-requires : goal.six_fits-requires
six_fits-requires c =
    let m = c.args.self.now in
    let i = inputs_of m in
    rw m.surveyed (
      c.requires.fits.0,
      peaks_few i m.fit,
      days_few i m.fit,
      shared_capacity i m.fit c.args.past.now c.args.v.0 c.by_past-six.ensures.hours c.requires.fits.0 c.capacity_sum.ensures,
    )

pub returns-then-six_fits : goal.returns-then-six_fits
returns-then-six_fits c =
    let m = c.args.self.now in
    let i = inputs_of m in
    let same = six_test i m.fit _ _ _ m.surveyed c.six_fits.ensures c.power-p.ensures c.capacity_sum.ensures c.by_past-six.ensures.hours in
    six_outcome i _ _ (sym same ∙ c.if-six_fits.true) c.by_past-six.ensures

pub by_peaks-requires : goal.by_peaks-requires
by_peaks-requires c =
    let m = c.args.self.now in
    let i = inputs_of m in
    (c.requires.fits.0, some_hour i m.fit, few_hours i m.fit, shared_room i m.fit c.args.past.now c.args.v.0 c.by_past-six.ensures.hours)

pub returns : goal.returns
returns c =
    let m = c.args.self.now in
    let i = inputs_of m in
    let same = six_test i m.fit _ _ _ m.surveyed c.six_fits.ensures c.power-p.ensures c.capacity_sum.ensures c.by_past-six.ensures.hours in
    later_outcome i _ _ (sym same ∙ c.if-six_fits.false) (rw c.power-p.ensures at c.by_peaks.ensures)
