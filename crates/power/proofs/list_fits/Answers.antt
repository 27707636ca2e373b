-- Each current is tested by its place.
use Rattle.std.proofs.Common.{◌≡◌, ◌&&◌, leb, length, rules}
use Rattle.power.specs.Power.{list_fits}
use Rattle.power.proofs.Laws.{currents_all}
use Rattle.power.proofs.list_fits.Goals as goal

pub returns : goal.returns
unfolding list_fits
returns c =
    let e : c.contains.result ≡ leb 1 (length c.args.currents.now) && leb (length c.args.currents.now) 64 = search rules in
    rw (e, c.currents_fit.ensures, currents_all c.args.currents.now)
