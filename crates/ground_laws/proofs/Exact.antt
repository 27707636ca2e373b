-- Exact shares: those of the rules, and no others. Assumes nothing.
use mathlib.Core.Path.{◌≡◌, refl, sym, ap, ◌∙◌}
use mathlib.Core.Bool.{true}
use mathlib.Core.List.{List}
use Prim.Native.Nat.{ℕ, ◌-◌, ◌*◌, ◌<◌, min}
use native.Mathlib.Nat.{mul_right_comm, eq_of_mul-eq-mul_right, mul-one}
use lib.Dec.{lit<}
use lib.ListN.{length}
use Rattle.numbers.specs.Lists.{tab, sum_to, at}
use Rattle.numbers.proofs.Laws.{sum_same, sum_ones, at_tab, length_tab}
use Rattle.sharing.specs.Shares.{one, every, taken, stretched, past_at}
use Rattle.sharing.proofs.Rule.{taken_same, taken_zero, taken_given}
use Rattle.marks.specs.Marks.{peak_count}
use Rattle.marks.specs.Peak.{peak_part}
use Rattle.rules.specs.Rules.{Inputs, Share, hours_in, point_power, as_read, by_weights, by_peaks, evenly}
use Rattle.ground_laws.specs.Counted.{peak_hour, other_hour, peaks_among, past_hour}
use Rattle.ground_laws.specs.GroundLaws.{Fraction, SameShare}
use Rattle.ground_laws.proofs.Peaks.{peaks_counted, peaks_some, off_peak}
use Rattle.ground_laws.proofs.Sharing.{past_same}

-- what is t / b is one fraction
pub one_fraction : {p q : Share} {t b : ℕ} → 0 < b → Fraction p t b → Fraction q t b → SameShare p q
one_fraction {p} {q} {t} {b} any f g =
    let same : p.top * q.bottom * b ≡ q.top * p.bottom * b =
    mul_right_comm p.top q.bottom b
    ∙ ap (λ (x : ℕ). x * q.bottom) f.is
    ∙ mul_right_comm t p.bottom q.bottom
    ∙ ap (λ (x : ℕ). x * p.bottom) (sym g.is)
    ∙ mul_right_comm q.top b p.bottom in
    record { some = g.some; is = record { some = f.some; is = eq_of_mul-eq-mul_right b any _ _ same } }

-- AS READ
pub read_exact : (g : ℕ) (hs : List ℕ) (h : ℕ) → Fraction ((as_read g hs).exact h) (at hs h) 1
unfolding as_read
read_exact g hs h = record { some = lit< tt; is = refl }

-- BY WEIGHTS w of n hours, which are taken as u
module _ (n : ℕ) (w u : ℕ → ℕ) (same : (h : ℕ) → h < n → taken n every w h ≡ u h) where
  weight_at : (h : ℕ) → h < n → taken n every (at (tab n w)) h ≡ u h
  weight_at h l = taken_same n every (at (tab n w)) w (at_tab n w) h l ∙ same h l

  weights_exact : (g v : ℕ) → 0 < sum_to u n → (h : ℕ) → h < n → Fraction ((by_weights g v (tab n w)).exact h) (v * u h) (sum_to u n)
  unfolding by_weights
  weights_exact g v some h l = rw (length_tab n w, sum_same n _ u weight_at, weight_at h l) (record { some = some; is = refl })

-- evenly, where each counts as 1
ones_exact : (n : ℕ) (w : ℕ → ℕ) → ((h : ℕ) → h < n → taken n every w h ≡ 1) → (g v : ℕ) → 0 < n → (h : ℕ) → h < n
    → Fraction ((by_weights g v (tab n w)).exact h) v n
ones_exact n w same g v some h l = rw (mul-one v, sum_ones n) at (weights_exact n w one same g v (rw (sum_ones n) some) h l)

pub evenly_exact : (i : Inputs) (g v : ℕ) → 0 < hours_in i → (h : ℕ) → h < hours_in i → Fraction ((evenly g i v).exact h) v (hours_in i)
unfolding evenly
evenly_exact i g v some h l =
    ones_exact (hours_in i) one (λ k m. taken_given (hours_in i) one (rw (sum_ones (hours_in i)) some) k) g v some h l

-- by the past
pub past_exact : (n : ℕ) (past : List ℕ) (g v : ℕ) → 0 < sum_to (past_hour past) n → (h : ℕ) → h < n
    → Fraction ((by_weights g v (stretched past n)).exact h) (v * past_hour past h) (sum_to (past_hour past) n)
unfolding stretched
past_exact n past g v some h l =
    weights_exact n (past_at past) (past_hour past)
    (λ k m. taken_same n every (past_at past) (past_hour past) (λ j o. past_same past j) k m ∙ taken_given n (past_hour past) some k)
    g v some h l

pub empty_exact : (n : ℕ) (past : List ℕ) (g v : ℕ) → sum_to (past_hour past) n ≡ 0 → 0 < n → (h : ℕ) → h < n
    → Fraction ((by_weights g v (stretched past n)).exact h) v n
unfolding stretched
empty_exact n past g v e some h l =
    let none : sum_to (past_at past) n ≡ 0 = sum_same n _ _ (λ k m. past_same past k) ∙ e in
    ones_exact n (past_at past) (λ k m. taken_zero n (past_at past) none k) g v some h l

-- BY THE PEAK RULE
module _ (i : Inputs) (g v h : ℕ) where
  pub peak_exact : h < length i.marks → peak_hour i.marks h ≡ true
      → Fraction ((by_peaks g i v).exact h) (min v (peaks_among i.marks * point_power i)) (peaks_among i.marks)
  unfolding by_peaks peak_part
  peak_exact l t = rw (t, peaks_counted i.marks) (record { some = peaks_some i.marks h l t; is = refl })

  pub other_exact : 0 < length i.marks - peak_count i.marks → other_hour i.marks h ≡ true
      → Fraction ((by_peaks g i v).exact h) (v - min v (peaks_among i.marks * point_power i)) (length i.marks - peaks_among i.marks)
  unfolding by_peaks peak_part
  other_exact rest t =
      rw (off_peak i.marks h t, peaks_counted i.marks) (record { some = rw (peaks_counted i.marks) at rest; is = refl })
