-- What counts at a closing, part by part, is what the model counts. Assumes nothing.
use Prim.Native.Nat.{ℕ, ◌≤◌}
use mathlib.Core.Path.{◌≡◌, refl}
use mathlib.Core.Logic.{◌≢◌}
use mathlib.Core.List.{List}
use borrow.Author.Tests.{ne_eqb}
use lib.ListN.{length}
use Rattle.record.specs.declared.Reading.{Reading}
use Rattle.record.specs.declared.Record.{Record}
use Rattle.store.specs.Store.{row_part}
use Rattle.rules.specs.Rules.{Measured, PastHours, Inputs, counted_of, neighbour_of}
use Rattle.rules.proofs.Laws.{few_hours}
use Rattle.model.specs.Model.{state, stated_in, measured_in, past_in, inputs}
use Rattle.model.specs.Settled.{Settled}

-- N, as the record holds the two neighbour readings
pub neighbour_first : (g h : Reading) → g.given ≡ 1 → g.volume.0 ≡ neighbour_of (stated_in g) (stated_in h)
unfolding stated_in neighbour_of
neighbour_first g h given = rw given

pub neighbour_second : (g h : Reading) → g.given ≢ 1 → h.given ≡ 1 → h.volume.0 ≡ neighbour_of (stated_in g) (stated_in h)
unfolding stated_in neighbour_of
neighbour_second g h not given = rw (ne_eqb g.given 1 not, given)

pub neighbour_none : (g h : Reading) → g.given ≢ 1 → h.given ≢ 1 → 0 ≡ neighbour_of (stated_in g) (stated_in h)
unfolding stated_in neighbour_of
neighbour_none g h not none = rw (ne_eqb g.given 1 not, ne_eqb h.given 1 none)

-- of a closing that is accepted
module _ {r : Record} {store marks : List ℕ} (k : Settled r store marks) where
  pub marks_few : length marks ≤ 744
  unfolding inputs
  marks_few = few_hours (inputs (state r store) marks) k.counts

  -- all parts, from their rows on
  pub inputs_are : {billing_row control_row : List ℕ} {counted neighbour : ℕ} {billing control : Measured} {past : PastHours}
      → billing_row ≡ row_part store 12 (length marks) → control_row ≡ row_part store 13 (length marks)
      → counted ≡ counted_of r.service.run r.service.denials
      → billing ≡ measured_in r.contract.billing r.readings.billing billing_row
      → control ≡ measured_in r.contract.control r.readings.control control_row
      → neighbour ≡ neighbour_of (stated_in r.readings.first) (stated_in r.readings.second)
      → past ≡ past_in (state r store)
      → ◌≡◌ {A = Inputs}
      (record {
        contract = r.contract;
        marks = marks;
        counted = counted;
        billing = billing;
        control = control;
        neighbour = neighbour;
        past = past;
      }) (inputs (state r store) marks)
  unfolding inputs
  inputs_are read metered r_is b c n p = rw (r_is, b, c, n, p, read, metered, k.long) refl
