-- The peak rule: what the peak hours get, and how evenly. Assumes nothing.
use mathlib.Core.Path.{◌≡◌, refl, sym, ◌∙◌}
use mathlib.Core.Bool.{Bool, true, false, cond, false≢true}
use mathlib.Core.List.{List, [], ◌∷◌}
use Prim.Native.Nat.{ℕ, zero, suc, ◌+◌, ◌-◌, ◌*◌, ◌≤◌, ◌<◌, min}
use native.Mathlib.Nat.{mul-le-mul_left, zero-mul, le_trans}
use native.Mathlib.Omega.{arith}
use native.Mathlib.Decide.{dec_lt}
use lib.ListN.{length}
use Rattle.numbers.specs.Lists.{sum_to, count_to, at}
use Rattle.numbers.proofs.Laws.{by_cases, sum_same, at_tab, count_holds, count_none, count_some}
use Rattle.sharing.specs.Shares.{one, others, taken, share, apart_at, shares_apart}
use Rattle.sharing.proofs.Laws.{sum_share, nearest_before}
use Rattle.sharing.proofs.Rule.{taken_some}
use Rattle.sharing.proofs.Even.{even_most, even_weight, even_sum, share_none}
use Rattle.marks.specs.Marks.{peak_at, peak_count}
use Rattle.marks.specs.Peak.{peak_part, peak_rule}
use Rattle.marks.proofs.Rule.{other_count, peak_near, other_near}
use Rattle.ground_laws.specs.Counted.{peak_hour, other_hour, peaks_among, only, one_each, together, Even, any_hour, Running}
use Rattle.ground_laws.proofs.Powers.{to_nearest}
use Rattle.ground_laws.proofs.Sharing.{alike}

-- n, counted down the marks
sum_front : (g : ℕ → ℕ) (n : ℕ) → sum_to g (suc n) ≡ g 0 + sum_to (λ k. g (suc k)) n
sum_front g zero = omega arith
sum_front g (suc n) = omega (arith, sum_front g n)

pub peaks_counted : (marks : List ℕ) → peak_count marks ≡ peaks_among marks
unfolding peak_count
peaks_counted [] = refl
peaks_counted (m ∷ ms) = omega (arith, sum_front (λ h. cond (peak_at (m ∷ ms) h) 1 0) (length ms), peaks_counted ms)

-- a peak is one of them, and another hour is none
pub peaks_some : (marks : List ℕ) (h : ℕ) → h < length marks → peak_hour marks h ≡ true → 0 < peaks_among marks
unfolding peak_count
peaks_some marks h l t = rw (peaks_counted marks) at (count_some (peak_at marks) (length marks) h l t)

pub off_peak : (marks : List ℕ) (h : ℕ) → other_hour marks h ≡ true → peak_hour marks h ≡ false
off_peak marks h e = by_cases (peak_hour marks h) (λ t. absurd (false≢true (rw t at e))) (λ f. f)

-- TWO VOLUMES SHARED APART: the chosen hours have the first together, and the others the second
-- the weights are 1 in each chosen hour
weights_same : (n : ℕ) (chosen : ℕ → Bool) → 0 < count_to chosen n → (h : ℕ) → sum_to (only chosen one_each) h ≡ sum_to (taken n chosen one) h
weights_same n chosen some h = sum_same h _ _ (λ k l. sym (even_weight n chosen some k))

-- what is given to chosen hours by a share is so hour by hour
running_share : (a n : ℕ) (chosen : ℕ → Bool) (f : ℕ → ℕ) → 0 < count_to chosen n
    → ((h : ℕ) → h < n → f h ≡ share a n (taken n chosen one) h)
    → Running a (only chosen one_each) f n
running_share a n chosen f some e =
    let w : ℕ → ℕ = taken n chosen one in
    let any : 0 < sum_to w n = rw (even_sum n chosen some) some in
    record {
      each = λ h l.
          rw (weights_same n chosen some h, weights_same n chosen some n, sum_same h f (share a n w) (λ k m. e k (le_trans m l)))
          (to_nearest (nearest_before a n w any h));
    }

module _ (a b n : ℕ) (chosen : ℕ → Bool) (some : 0 < count_to chosen n) (rest : 0 < count_to (others chosen) n) where
  first_part : (h : ℕ) → h < n → only chosen (at (shares_apart a b chosen n)) h ≡ share a n (taken n chosen one) h
  unfolding shares_apart apart_at
  first_part h l =
      rw (at_tab n (apart_at a b chosen n) h l)
      (by_cases (chosen h)
      (λ t.
      let none = rw t at (even_most n (others chosen) rest b h b (omega (arith, mul-le-mul_left b rest))) in
      rw t (omega arith))
      (λ f.
      let none = rw f at (even_most n chosen some a h a (omega (arith, mul-le-mul_left a some))) in
      rw f (omega arith)))

  pub chosen_get : sum_to (only chosen (at (shares_apart a b chosen n))) n ≡ a
  chosen_get =
      sum_same n _ (share a n (taken n chosen one)) first_part
      ∙ sum_share a n (taken n chosen one) (taken_some n chosen one (omega (arith, (count_holds chosen n some).below)))

  pub running_chosen : Running a (only chosen one_each) (only chosen (at (shares_apart a b chosen n))) n
  running_chosen = running_share a n chosen _ some first_part

-- also where none is chosen and the first volume is 0
module _ (a b n : ℕ) (chosen : ℕ → Bool) (none : count_to chosen n ≡ 0 → a ≡ 0) (rest : 0 < count_to (others chosen) n) where
  chosen_part : (h : ℕ) → share a n (taken n chosen one) h ≤ cond (chosen h) a 0
  chosen_part h =
      elim (dec_lt 0 (count_to chosen n)) [
        | yes some ↦ even_most n chosen some a h a (omega (arith, mul-le-mul_left a some))
        | no f ↦ rw (none (omega arith), share_none n (taken n chosen one) h) (omega arith)
      ]

  second_part : (h : ℕ) → h < n → only (others chosen) (at (shares_apart a b chosen n)) h ≡ share b n (taken n (others chosen) one) h
  unfolding shares_apart apart_at
  second_part h l =
      rw (at_tab n (apart_at a b chosen n) h l)
      (by_cases (chosen h)
      (λ t.
      let zero = rw t at (even_most n (others chosen) rest b h b (omega (arith, mul-le-mul_left b rest))) in
      rw t (omega arith))
      (λ f.
      let zero = rw f at (chosen_part h) in
      rw f (omega arith)))

  pub running_others : Running b (only (others chosen) one_each) (only (others chosen) (at (shares_apart a b chosen n))) n
  running_others = running_share b n (others chosen) _ rest second_part

sum_none : (n : ℕ) → sum_to (λ h. 0) n ≡ 0
sum_none zero = refl
sum_none (suc n) = omega (arith, sum_none n)

-- THE PEAK RULE, where some hour is no peak
module _ (v p : ℕ) (marks : List ℕ) (rest : 0 < length marks - peak_count marks) where
  no_peaks_get : peak_count marks ≡ 0 → together (peak_hour marks) (peak_rule v p marks) (length marks) ≡ 0
  unfolding peak_count
  no_peaks_get e =
      sum_same (length marks) _ (λ h. 0) (λ h l. rw (count_none (peak_at marks) (length marks) e h l)) ∙ sum_none (length marks)

  pub peaks_get : together (peak_hour marks) (peak_rule v p marks) (length marks) ≡ min v (peaks_among marks * p)
  unfolding peak_rule peak_part peak_count
  peaks_get =
      elim (dec_lt 0 (peak_count marks)) [
        | yes some ↦ chosen_get (peak_part v p marks) (v - peak_part v p marks) (length marks) (peak_at marks) some (rw (other_count marks) rest)
            ∙ rw (peaks_counted marks)
        | no f ↦
            let none : peak_count marks ≡ 0 = omega arith in
            no_peaks_get none ∙ rw (sym (peaks_counted marks), none, zero-mul) (omega arith)
      ]

  pub even_peaks : Even (peak_hour marks) (peak_rule v p marks) (length marks)
  even_peaks h k l m s t = alike (peak_near v p marks h l rest s) (peak_near v p marks k m rest t)

  pub even_others : Even (other_hour marks) (peak_rule v p marks) (length marks)
  even_others h k l m s t = alike (other_near v p marks h l rest (off_peak marks h s)) (other_near v p marks k m rest (off_peak marks k t))

  pub even_all : peaks_among marks ≡ 0 → Even any_hour (peak_rule v p marks) (length marks)
  unfolding peak_count
  even_all e h k l m s t =
      let none = count_none (peak_at marks) (length marks) (peaks_counted marks ∙ e) in
      even_others h k l m (rw (none h l)) (rw (none k m))

  pub running_peaks : 0 < peaks_among marks
      → Running (min v (peaks_among marks * p)) (only (peak_hour marks) one_each) (only (peak_hour marks) (at (peak_rule v p marks))) (length marks)
  unfolding peak_rule peak_part peak_count
  running_peaks some =
      rw (sym (peaks_counted marks))
      (running_chosen (peak_part v p marks) (v - peak_part v p marks) (length marks) (peak_at marks)
      (rw (sym (peaks_counted marks)) at some)
      (rw (other_count marks) rest))

  pub running_rest :
      Running (v - min v (peaks_among marks * p)) (only (other_hour marks) one_each) (only (other_hour marks) (at (peak_rule v p marks)))
      (length marks)
  unfolding peak_rule peak_part peak_count
  running_rest =
      rw (sym (peaks_counted marks))
      (running_others (peak_part v p marks) (v - peak_part v p marks) (length marks) (peak_at marks)
      (λ e. rw (e, zero-mul) (omega arith))
      (rw (other_count marks) rest))
