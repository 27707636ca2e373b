-- What holds of the peak rule, for any number of hours from 1 on, any marks and any power. Assumes nothing.
use mathlib.Core.Path.{◌≡◌, ◌∙◌}
use mathlib.Core.Bool.{Bool, true, false, cond}
use mathlib.Core.List.{List}
use Prim.Native.Nat.{ℕ, ◌+◌, ◌-◌, ◌*◌, ◌≤◌, ◌<◌}
use native.Mathlib.Nat.{zero-add, zero-mul, sub-zero, mul_comm, mul-le-mul_left}
use native.Mathlib.Omega.{arith}
use native.Mathlib.Decide.{dec_lt}
use lib.ListN.{length}
use Rattle.numbers.specs.Lists.{count_to, sum, at}
use Rattle.numbers.proofs.Laws.{by_cases, tab_same, at_tab, count_none, count_some}
use Rattle.sharing.specs.Shares.{one, ones, others, every, taken, share, shares, spread, apart_at, shares_apart}
use Rattle.sharing.proofs.Laws.{Near, share_same}
use Rattle.sharing.proofs.Rule.{sum_apart, length_apart, all_hours, shares_tab, chosen_same}
use Rattle.sharing.proofs.Even.{even_near, even_most, share_none}
use Rattle.marks.specs.Marks.{peak_at, peak_count, crowded}
use Rattle.marks.specs.Peak.{peak_part, peak_rule}
use Rattle.marks.proofs.Laws.{peaks_most}

-- the hours that are no peaks
abbrev off_peak_at : List ℕ → ℕ → Bool
off_peak_at marks = others (peak_at marks)

-- A is at most V, and at most n × P
pub part_most : (v p : ℕ) (marks : List ℕ) → (peak_part v p marks ≤ v) × (peak_part v p marks ≤ p * peak_count marks)
unfolding peak_part
part_most v p marks = (omega arith, omega (arith, mul_comm p (peak_count marks)))

part_none : (v p : ℕ) (marks : List ℕ) → peak_count marks ≡ 0 → peak_part v p marks ≡ 0
unfolding peak_part
part_none v p marks e = rw (e, zero-mul) (omega arith)

-- LAW: the hours sum to V
pub sum_peak_rule : (v p : ℕ) (marks : List ℕ) → 0 < length marks → sum (peak_rule v p marks) ≡ v
unfolding peak_rule
sum_peak_rule v p marks some =
    sum_apart (peak_part v p marks) (v - peak_part v p marks) (peak_at marks) (length marks) some ∙ omega (arith, (part_most v p marks).0)

pub length_peak_rule : (v p : ℕ) (marks : List ℕ) → length (peak_rule v p marks) ≡ length marks
unfolding peak_rule
length_peak_rule v p marks = length_apart _ _ _ (length marks)

-- the number of hours that are no peaks
pub other_count : (marks : List ℕ) → count_to (off_peak_at marks) (length marks) ≡ length marks - peak_count marks
unfolding peak_count
other_count marks = omega (arith, all_hours (peak_at marks) (length marks))

-- hour h of the rule
at_peak_rule : (v p : ℕ) (marks : List ℕ) (h : ℕ) → h < length marks
    → at (peak_rule v p marks) h
    ≡ share (peak_part v p marks) (length marks) (taken (length marks) (peak_at marks) one) h
    + share (v - peak_part v p marks) (length marks) (taken (length marks) (off_peak_at marks) one) h
unfolding peak_rule shares_apart apart_at
at_peak_rule v p marks h l = at_tab (length marks) _ h l

peaks_off : (marks : List ℕ) → peak_count marks ≡ 0 → (h : ℕ) → h < length marks → peak_at marks h ≡ false
unfolding peak_count
peaks_off marks e = count_none (peak_at marks) (length marks) e

-- LAW: with no peak hour V goes evenly over all hours
pub no_peaks : (v p : ℕ) (marks : List ℕ) → peak_count marks ≡ 0 → peak_rule v p marks ≡ shares v (ones (length marks))
unfolding peak_rule shares_apart apart_at spread
no_peaks v p marks e =
    let t = length marks in
    let all = chosen_same t (off_peak_at marks) every one (λ h l. rw (peaks_off marks e h l)) in
    rw (shares_tab v t every one, part_none v p marks e, sub-zero)
    (tab_same t _ _ (λ h l. rw (share_none t (taken t (peak_at marks) one) h, zero-add) (share_same v t _ _ all h l)))

near_sum : {r q v s : ℕ} → Near q v 1 s → r ≡ q → Near r v 1 s
near_sum near e = rw e near

-- the part of the peak hours, and of the others, in hour h
module _ (v p : ℕ) (marks : List ℕ) (h : ℕ) where
  peak_share : ℕ
  peak_share = share (peak_part v p marks) (length marks) (taken (length marks) (peak_at marks) one) h

  other_share : ℕ
  other_share = share (v - peak_part v p marks) (length marks) (taken (length marks) (off_peak_at marks) one) h

  peak_share_most : peak_share ≤ cond (peak_at marks h) p 0
  unfolding peak_share peak_count
  peak_share_most =
      elim (dec_lt 0 (peak_count marks)) [
        | yes some ↦ even_most (length marks) (peak_at marks) some (peak_part v p marks) h p (part_most v p marks).1
        | no none ↦ rw (part_none v p marks (omega arith), share_none (length marks) (taken (length marks) (peak_at marks) one) h) (omega arith)
      ]

  other_share_most : (x : ℕ) → 0 < length marks - peak_count marks → v ≤ x * (length marks - peak_count marks)
      → other_share ≤ cond (off_peak_at marks h) x 0
  unfolding other_share
  other_share_most x some l =
      even_most (length marks) (off_peak_at marks) (rw (other_count marks) some) (v - peak_part v p marks) h x (rw (other_count marks) (omega arith))

-- LAW: no hour above 3,000,000 where the marks pass 42, V is at most T × 1,000,000 and P at most 1,000,000
pub peak_rule_most : (v p k : ℕ) (marks : List ℕ) → length marks ≡ 24 * k → 0 < k → crowded marks k ≡ false → p ≤ 1000000
    → v ≤ length marks * 1000000
    → (h : ℕ) → h < length marks → at (peak_rule v p marks) h ≤ 3000000
unfolding peak_share other_share
peak_rule_most v p k marks e some f power volume h l =
    let n = peaks_most marks k e f in
    let a = peak_share_most v p marks h in
    let b = other_share_most v p marks h 3000000 (omega arith) (omega arith) in
    rw (at_peak_rule v p marks h l)
    (by_cases (peak_at marks h)
    (λ t. let a' = rw t at a in let b' = rw t at b in omega arith)
    (λ g. let a' = rw g at a in let b' = rw g at b in omega arith))

-- LAW: an hour is less than one kWh from its exact share, A/n in a peak hour and (V - A)/(T - n) in another
module _ (v p : ℕ) (marks : List ℕ) (h : ℕ) (l : h < length marks) (rest : 0 < length marks - peak_count marks) where
  pub peak_near : peak_at marks h ≡ true → Near (at (peak_rule v p marks) h) (peak_part v p marks) 1 (peak_count marks)
  unfolding other_share peak_count
  peak_near t =
      let none : other_share v p marks h ≤ 0 = rw t at (other_share_most v p marks h v rest (omega (arith, mul-le-mul_left v rest))) in
      near_sum (even_near (length marks) (peak_at marks) (count_some (peak_at marks) (length marks) h l t) (peak_part v p marks) h t)
      (at_peak_rule v p marks h l ∙ omega arith)

  pub other_near : peak_at marks h ≡ false → Near (at (peak_rule v p marks) h) (v - peak_part v p marks) 1 (length marks - peak_count marks)
  unfolding peak_share
  other_near f =
      let none : peak_share v p marks h ≤ 0 = rw f at (peak_share_most v p marks h) in
      near_sum (rw (other_count marks) at (even_near (length marks) (off_peak_at marks) (rw (other_count marks) rest) (v - peak_part v p marks) h (rw f)))
      (at_peak_rule v p marks h l ∙ omega arith)
