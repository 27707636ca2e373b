-- Even sharing, and sharing by the past, over any number of hours. Assumes nothing.
use mathlib.Core.Path.{◌≡◌, ◌∙◌}
use mathlib.Core.List.{List}
use Prim.Native.Nat.{ℕ, ◌+◌, ◌≤◌, ◌<◌}
use native.Mathlib.Nat.{mul-le-mul_right, add-mul, mul-zero, le_trans}
use native.Mathlib.Omega.{arith}
use native.Mathlib.Decide.{dec_lt}
use borrow.Author.Tests.{leb-true, leb-false, lt-ltb, le-ltb}
use lib.Dec.{leb}
use lib.ListN.{length}
use Rattle.numbers.specs.Lists.{sum_to, at}
use Rattle.numbers.proofs.Laws.{by_cases, sum_ones, sum_same, at_tab}
use Rattle.sharing.specs.Shares.{ones, one, every, share, spread, shares, past_at, stretched}
use Rattle.sharing.proofs.Laws.{Near, spread_same, at_spread, near_share, share_most, nearest_before}
use Rattle.sharing.proofs.Rule.{shares_tab, taken_same, taken_zero, taken_given}
use Rattle.ground_laws.specs.Counted.{one_each, Even, any_hour, past_hour, Running}
use Rattle.ground_laws.proofs.Powers.{to_nearest}

-- two hours that are each less than one from v / s are at most one apart
pub alike : {r q v s : ℕ} → Near r v 1 s → Near q v 1 s → r ≤ q + 1
alike {r} {q} {v} {s} a b =
    elim (dec_lt (q + 1) r) [
      | yes l ↦ absurd (omega (arith, a.below, b.above, mul-le-mul_right s l, add-mul q 2 s))
      | no f ↦ omega arith
    ]

-- v spread by weights, hour by hour
pub running_spread : (v n : ℕ) (w : ℕ → ℕ) → 0 < sum_to w n → Running v w (at (spread v n w)) n
running_spread v n w some = record {
  each = λ h l.
      rw (sum_same h (at (spread v n w)) (share v n w) (λ k m. at_spread v n w k (le_trans m l))) (to_nearest (nearest_before v n w some h));
}

-- with weight 1 in each hour
ones_some : (n : ℕ) → 0 < n → 0 < sum_to one n
ones_some n some = rw (sum_ones n) some

even_spread : (v n : ℕ) → 0 < n → Even any_hour (spread v n one) n
even_spread v n some h k l m s t =
    let near = near_share v n one (ones_some n some) in
    rw (at_spread v n one h l, at_spread v n one k m) (alike (near h) (near k))

spread_ones : (v n : ℕ) → 0 < n → shares v (ones n) ≡ spread v n one
spread_ones v n some = shares_tab v n every one ∙ spread_same v n _ _ (λ h l. taken_given n one (ones_some n some) h)

pub even_ones : (v n : ℕ) → 0 < n → Even any_hour (shares v (ones n)) n
even_ones v n some = rw (spread_ones v n some) (even_spread v n some)

pub running_ones : (v n : ℕ) → 0 < n → Running v one_each (at (shares v (ones n))) n
running_ones v n some = rw (spread_ones v n some) (running_spread v n one (ones_some n some))

-- the hours of the past, as they are stretched
pub past_same : (past : List ℕ) (h : ℕ) → past_at past h ≡ past_hour past h
past_same past h =
    by_cases (leb (length past) h)
    (λ t. rw (t, le-ltb h (length past) (leb-true _ _ t)))
    (λ f. rw (f, lt-ltb h (length past) (leb-false _ _ f)))

pub stretched_hour : (past : List ℕ) (n h : ℕ) → h < n → at (stretched past n) h ≡ past_hour past h
unfolding stretched
stretched_hour past n h l = at_tab n (past_at past) h l ∙ past_same past h

-- v shared by a past with consumption is spread by its hours
spread_past : (v n : ℕ) (past : List ℕ) → 0 < sum_to (past_hour past) n → shares v (stretched past n) ≡ spread v n (past_hour past)
unfolding stretched
spread_past v n past some =
    shares_tab v n every (past_at past)
    ∙ spread_same v n _ _ λ h l.
    taken_same n every (past_at past) (past_hour past) (λ k m. past_same past k) h l ∙ taken_given n (past_hour past) some h

pub near_past : (v n : ℕ) (past : List ℕ) → 0 < sum_to (past_hour past) n → (h : ℕ) → h < n
    → Near (at (shares v (stretched past n)) h) v (past_hour past h) (sum_to (past_hour past) n)
near_past v n past some h l =
    rw (spread_past v n past some, at_spread v n (past_hour past) h l) (near_share v n (past_hour past) some h)

pub none_past : (v n : ℕ) (past : List ℕ) → 0 < sum_to (past_hour past) n → (h : ℕ) → h < n → past_hour past h ≡ 0
    → at (shares v (stretched past n)) h ≡ 0
none_past v n past some h l e =
    rw (spread_past v n past some, at_spread v n (past_hour past) h l)
    (omega (arith, share_most v n (past_hour past) some h 0 (rw (e, mul-zero) (omega arith))))

pub running_past : (v n : ℕ) (past : List ℕ) → 0 < sum_to (past_hour past) n → Running v (past_hour past) (at (shares v (stretched past n))) n
running_past v n past some = rw (spread_past v n past some) (running_spread v n (past_hour past) some)

-- and by one without it evenly
spread_empty : (v n : ℕ) (past : List ℕ) → sum_to (past_hour past) n ≡ 0 → shares v (stretched past n) ≡ spread v n one
unfolding stretched
spread_empty v n past e =
    let none : sum_to (past_at past) n ≡ 0 = sum_same n _ _ (λ h l. past_same past h) ∙ e in
    shares_tab v n every (past_at past) ∙ spread_same v n _ _ (λ h l. taken_zero n (past_at past) none h)

pub even_past : (v n : ℕ) (past : List ℕ) → 0 < n → sum_to (past_hour past) n ≡ 0 → Even any_hour (shares v (stretched past n)) n
even_past v n past some e = rw (spread_empty v n past e) (even_spread v n some)

pub running_empty : (v n : ℕ) (past : List ℕ) → 0 < n → sum_to (past_hour past) n ≡ 0 → Running v one_each (at (shares v (stretched past n))) n
running_empty v n past some e = rw (spread_empty v n past e) (running_spread v n one (ones_some n some))
