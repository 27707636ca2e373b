-- What a settlement engineer counts of a month, worded without the definitions that the rules use: peak and capacity hours, days, the hours of the
-- past, even hours, rounding and power. Hours count from 0. What stands in quotation marks is what the engineer would say, and not
-- document 01's words.
use Rattle.std.specs.Prelude.{ℕ, ◌+◌, ◌-◌, ◌*◌, ◌/◌, ◌%◌, ◌≤◌, ◌<◌, ◌≡◌, Bool, true, false, cond, not, ◌&&◌, ◌||◌}
use Rattle.std.specs.Prelude.{List, [], ◌∷◌, length, eqb, leb}
use Rattle.numbers.specs.Lists.{sum_to, any_to, count_to, at}
use Rattle.power.specs.declared.Cable.{Cable}
use Rattle.contract.specs.declared.Contract.{Contract}

-- "an hour marked 1 or 3 is a planned peak, one marked 2 or 3 a capacity hour"
abbrev pub peak_hour : List ℕ → ℕ → Bool
peak_hour marks h = eqb (at marks h) 1 || eqb (at marks h) 3

abbrev pub other_hour : List ℕ → ℕ → Bool
other_hour marks h = not (peak_hour marks h)

abbrev pub capacity_hour : List ℕ → ℕ → Bool
capacity_hour marks h = eqb (at marks h) 2 || eqb (at marks h) 3

-- n: "go down the marks and count the peaks"
abbrev pub peaks_among : List ℕ → ℕ
peaks_among [] = 0
peaks_among (m ∷ ms) = cond (eqb m 1 || eqb m 3) 1 0 + peaks_among ms

-- d: "a day counts at its first capacity hour, and not again"
abbrev pub counts_day : List ℕ → ℕ → Bool
counts_day marks h = capacity_hour marks h && not (any_to (λ e. capacity_hour marks (24 * (h / 24) + e)) (h % 24))

abbrev pub days_counted : List ℕ → ℕ
days_counted marks = count_to (counts_day marks) (length marks)

-- the numbers of the hours of a kind, and 0 in the others
abbrev pub only : (ℕ → Bool) → (ℕ → ℕ) → ℕ → ℕ
only kind f h = cond (kind h) (f h) 0

abbrev pub one_each : ℕ → ℕ
one_each h = 1

-- what the hours of a kind have together, among the first t
abbrev pub together : (ℕ → Bool) → List ℕ → ℕ → ℕ
together kind hours t = sum_to (only kind (at hours)) t

-- "any two of these hours are at most 1 kWh apart", among the first t
abbrev pub Even : (ℕ → Bool) → List ℕ → ℕ → Type 0
Even kind hours t = (h k : ℕ) → h < t → k < t → kind h ≡ true → kind k ≡ true → at hours h ≤ at hours k + 1

abbrev pub any_hour : ℕ → Bool
any_hour h = true

-- "an hour that the past lacks is that of a week before"
abbrev pub past_hour : List ℕ → ℕ → ℕ
past_hour past h = cond (leb (length past) h) (at past (h - 168)) (at past h)

-- "q is x / d to the nearest whole number, a half counted up": q × d is at most half of d above x, and less than half of d below it
pub record ToNearest (x d q : ℕ) : Type 0 where
  pub above : 2 * (q * d) ≤ 2 * x + d
  pub below : 2 * x < 2 * (q * d) + d

-- "at any hour, those before it have been given what falls to their weights, to the nearest kWh", so that none of v waits for the last hour
pub record Running (v : ℕ) (weights given : ℕ → ℕ) (t : ℕ) : Type 0 where
  pub each : (h : ℕ) → h ≤ t → ToNearest (v * sum_to weights h) (sum_to weights t) (sum_to given h)

-- I × U × c × phases × t, of which a kWh is 1,500,000; c is 900 where none is given
abbrev pub cable_work : Cable → ℕ → ℕ
cable_work k t = k.amperes * k.volts * cond (leb 1 k.cosine) k.cosine 900 * t * k.phases

-- "P is the agreed power, on basis 2 the point's share of it, and on a cable what it gives in one hour"
pub record IsPower (c : Contract) (p : ℕ) : Type 0 where
  pub agreed : eqb c.basis 3 ≡ false → p ≡ c.power.0
  pub cable : eqb c.basis 3 ≡ true → ToNearest (cable_work c.cable 1) 1500000 p
