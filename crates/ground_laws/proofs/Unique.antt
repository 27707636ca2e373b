-- What the laws of the grounds say of a number is said of one number only. Assumes nothing.
use mathlib.Core.Path.{◌≡◌, sym, subst, ◌∙◌}
use mathlib.Core.Bool.{true}
use mathlib.Core.List.{List}
use Prim.Native.Nat.{ℕ, suc, ◌-◌, ◌*◌, ◌≤◌, ◌<◌, min}
use native.Mathlib.Nat.{le_step, le_refl, le_trans}
use native.Mathlib.Omega.{arith}
use native.Mathlib.Decide.{dec_lt}
use lib.ListN.{length}
use Rattle.std.specs.Prelude.{Some}
use Rattle.numbers.specs.Lists.{sum_to, at}
use Rattle.numbers.proofs.Laws.{by_cases, sum_same}
use Rattle.rules.specs.Rules.{Inputs, Outcome, Measured, whole}
use Rattle.ground_laws.specs.Counted.{peak_hour, other_hour, capacity_hour, peaks_among, only, together, past_hour}
use Rattle.ground_laws.specs.Counted.{Running}
use Rattle.ground_laws.specs.GroundLaws.{Volume, SameShare, ByPeaks, ByPast, SharedByPast, ExactOver, Tested, Untested}
use Rattle.ground_laws.proofs.Peaks.{peaks_some}
use Rattle.ground_laws.proofs.Exact.{one_fraction}
use Rattle.ground_laws.proofs.Powers.{one_nearest, one_power}

-- an hour is what has been given behind it less what has been given before it
pub one_running : {v t : ℕ} {w f g : ℕ → ℕ} → Running v w f t → Running v w g t → (h : ℕ) → h < t → f h ≡ g h
one_running {t = t} {f = f} {g} a b h l =
    let m : h ≤ t = le_trans (le_step (le_refl h)) l in
    let before : sum_to f h ≡ sum_to g h = one_nearest (a.each h m) (b.each h m) in
    let behind : sum_to f (suc h) ≡ sum_to g (suc h) = one_nearest (a.each (suc h) l) (b.each (suc h) l) in
    omega arith

pub running_at : {v x t : ℕ} {w f : ℕ → ℕ} → Running v w f t → v ≡ x → Running x w f t
running_at {t = t} {w} {f} a e = subst (λ (y : ℕ). Running y w f t) e a

pub one_volume : {m : Measured} {n x y : ℕ} → Volume m n x → Volume m n y → x ≡ y
one_volume {m} {n} {x} {y} a b =
    let same : whole a.read ≡ whole b.read = sym a.is ∙ b.is in
    let read : a.read ≡ b.read = cc in
    a.less ∙ rw read (sym b.less)

module _ (i : Inputs) where
  -- the hours by the peak rule
  pub one_peaks : {u w : Outcome} → ByPeaks i u → ByPeaks i w → u.volume ≡ w.volume → (h : ℕ) → h < length i.marks
      → at u.hours h ≡ at w.hours h
  one_peaks {u} {w} a b e h l =
      let p : a.power ≡ b.power = one_power i.contract a.power b.power a.is_power b.is_power in
      let n : ℕ = peaks_among i.marks in
      let part : min w.volume (n * b.power) ≡ min u.volume (n * a.power) = rw (p, e) in
      let rest : w.volume - min w.volume (n * b.power) ≡ u.volume - min u.volume (n * a.power) = rw (p, e) in
      by_cases (peak_hour i.marks h)
      (λ t. let some = peaks_some i.marks h l t in rw t at (one_running (a.running some) (running_at (b.running some) part) h l))
      (λ f. rw f at (one_running a.others_running (running_at b.others_running rest) h l))

  pub one_exact_peaks : {u w : Outcome} → 0 < length i.marks - peaks_among i.marks → ByPeaks i u → ByPeaks i w → u.volume ≡ w.volume
      → (h : ℕ) → h < length i.marks → SameShare (u.exact h) (w.exact h)
  one_exact_peaks {u} {w} rest a b e h l =
      let p : a.power ≡ b.power = one_power i.contract a.power b.power a.is_power b.is_power in
      by_cases (peak_hour i.marks h)
      (λ t. one_fraction (peaks_some i.marks h l t) (a.exact_peak h l t) (rw (p, e) (b.exact_peak h l t)))
      (λ f. let o : other_hour i.marks h ≡ true = rw f in one_fraction rest (a.exact_other h l o) (rw (p, e) (b.exact_other h l o)))

  -- and by the past
  of_past : {v : ℕ} {xs ys past : List ℕ} {s : ℕ} → ByPast i v xs past s → ByPast i v ys past s → (h : ℕ) → h < length i.marks
      → at xs h ≡ at ys h
  of_past {s = s} a b h l =
      elim (dec_lt 0 s) [
        | yes some ↦ one_running (a.running some) (b.running some) h l
        | no f ↦ let none : s ≡ 0 = omega arith in one_running (a.empty_running none) (b.empty_running none) h l
      ]

  pub one_past : {v : ℕ} {xs ys : List ℕ} → SharedByPast i v xs → SharedByPast i v ys → (h : ℕ) → h < length i.marks → at xs h ≡ at ys h
  one_past {v} {xs} {ys} a b =
      let e : Some a.past ≡ Some b.past = sym a.by_past.given ∙ b.by_past.given in
      let same : b.past ≡ a.past = cc in
      of_past a.by_past (subst (λ (p : List ℕ). ByPast i v ys p (sum_to (past_hour p) (length i.marks))) same b.by_past)

  pub one_exact_past : {u w : Outcome} {past : List ℕ} {s : ℕ} → 0 < length i.marks → ExactOver i u past s → ExactOver i w past s
      → u.volume ≡ w.volume → (h : ℕ) → h < length i.marks → SameShare (u.exact h) (w.exact h)
  one_exact_past {s = s} any a b e h l =
      elim (dec_lt 0 s) [
        | yes some ↦ one_fraction some (a.each some h l) (rw e (b.each some h l))
        | no f ↦ let none : s ≡ 0 = omega arith in one_fraction any (a.empty none h l) (rw e (b.empty none h l))
      ]

  pub past_of : {v x : ℕ} {xs : List ℕ} → v ≡ x → SharedByPast i v xs → SharedByPast i x xs
  past_of {xs = xs} e s = subst (λ (y : ℕ). SharedByPast i y xs) e s

  pub test_of : {v x : ℕ} {xs : List ℕ} → v ≡ x → Tested i v xs → Tested i x xs
  test_of {xs = xs} e s = subst (λ (y : ℕ). Tested i y xs) e s

  -- the test holds or does not
  pub one_test : {v : ℕ} {xs : List ℕ} → Untested i v → SharedByPast i v xs → Tested i v xs → ⊥
  one_test {v} {xs} a s b =
      let p : a.power ≡ b.power = one_power i.contract a.power b.power a.is_power b.is_power in
      let t : ℕ = length i.marks in
      let kind = capacity_hour i.marks in
      let c : together kind a.hours t ≡ together kind xs t =
      sum_same t (only kind (at a.hours)) (only kind (at xs)) (λ h l. rw (one_past a.shared s h l)) in
      let not_less = rw (p, c) at (a.not_less b.some) in
      omega (arith, not_less, b.less)
