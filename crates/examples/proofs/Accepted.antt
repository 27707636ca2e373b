-- An accepted closing of a point that goes on, over all points. Assumes nothing.
use Prim.Native.Nat.{ℕ, ◌/◌}
use mathlib.Core.Path.{◌≡◌}
use mathlib.Core.Bool.{true, not}
use mathlib.Core.List.{List}
use borrow.Author.Tests.{eq-eqb}
use lib.Dec.{eqb}
use lib.ListN.{length}
use Rattle.calendar.specs.Calendar.{open_hours}
use Rattle.marks.specs.Marks.{high, crowded, doubled, unmatched}
use Rattle.rules.specs.Calls.{closing}
use Rattle.model.specs.Refusals.{refuse, own_refusal}
use Rattle.model.specs.Model.{State, refusal, accepted}
use Rattle.model.specs.Sound.{Sound}

-- a closing of a point that goes on is accepted, where 3, 40 to 44 and 46 do not apply
pub passes : (s : State) (marks buffer : List ℕ) → Sound s
    → refuse (eqb s.point.date.year 3000) 3
    (refuse (not (eqb (length marks) (open_hours s.point.date))) 40
    (refuse (high marks) 41
    (refuse (crowded marks (length marks / 24)) 42
    (refuse (doubled marks (length marks / 24)) 43
    (refuse (unmatched marks (length marks / 24)) 46 (refuse (not (eqb (length buffer) 744)) 44 0))))))
    ≡ 0
    → accepted s (closing marks buffer) ≡ true
unfolding accepted refusal own_refusal refuse
passes s marks buffer sound e =
    eq-eqb (refusal s (closing marks buffer)) 0
    (rw (eq-eqb (length s.store) 10416 sound.fits.words, sound.fits.record_fits, sound.fits.store_fits_lem) e)
