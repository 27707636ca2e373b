-- Two outcomes of which the laws hold are the same. Assumes nothing.
use mathlib.Core.Path.{◌≡◌, refl, sym, ap, ◌∙◌}
use mathlib.Core.Bool.{true, ◌||◌}
use mathlib.Core.Logic.{⊎_elim}
use mathlib.Core.List.{List}
use Prim.Native.Nat.{ℕ, ◌≤◌, ◌<◌}
use native.Mathlib.Omega.{arith}
use native.Mathlib.Decide.{dec_lt}
use borrow.Author.Tests.{eqb-true}
use lib.Dec.{eqb, lit<}
use lib.ListN.{length}
use lib.Seq.{ext_get_or}
use Rattle.std.specs.Prelude.{Some, None}
use Rattle.numbers.specs.Lists.{sum_to, at}
use Rattle.numbers.proofs.Laws.{by_cases, either}
use Rattle.rules.specs.Rules.{Inputs, Outcome, Measured, missing, hourly, whole, PastHours, rules}
use Rattle.rules.specs.Right.{InputsFit}
use Rattle.rules.proofs.Laws.{some_hour}
use Rattle.ground_laws.specs.GroundLaws.{SameShare, ByPeaks, SharedByPast, ExactAsRead, ExactEvenly, ExactByPast, Chosen, Lawful, Same}
use Rattle.ground_laws.proofs.Which.{which}
use Rattle.ground_laws.proofs.Powers.{one_nearest}
use Rattle.ground_laws.proofs.Exact.{one_fraction}
use Rattle.ground_laws.proofs.Grounds.{lawful, other_some}
use Rattle.ground_laws.proofs.Unique.{one_running, running_at, one_volume, one_peaks, one_exact_peaks, one_past, one_exact_past, past_of, test_of}
use Rattle.ground_laws.proofs.Unique.{one_test}

module _ (i : Inputs) (fit : InputsFit i) (u w : Outcome) (lu : Lawful i u) (lw : Lawful i w) where
  abbrev Exact : Type 0
  Exact = (h : ℕ) → h < length i.marks → SameShare (u.exact h) (w.exact h)

  -- of one ground, with the same hours and exact shares
  same_hours : {g : ℕ} → u.ground ≡ g → w.ground ≡ g → u.hours ≡ w.hours → Exact → Same u w
  same_hours p q e x = record {
    ground = p ∙ sym q;
    hours = e;
    volume = sym lu.made_up.sums ∙ ap (λ (hs : List ℕ). sum_to (at hs) (length i.marks)) e ∙ lw.made_up.sums;
    exact = λ h l. x h (rw lu.made_up.long at l);
  }

  same_read : {g : ℕ} → u.ground ≡ g → w.ground ≡ g → u.hours ≡ w.hours → ExactAsRead i u → ExactAsRead i w → Same u w
  same_read p q e a b = same_hours p q e (λ h l. one_fraction (lit< tt) (a.each h l) (rw e (b.each h l)))

  same_evenly : u.volume ≡ w.volume → ExactEvenly i u → ExactEvenly i w → Exact
  same_evenly v a b h l = one_fraction (some_hour i fit) (a.each h l) (rw v (b.each h l))

  same_list : ((h : ℕ) → h < length i.marks → at u.hours h ≡ at w.hours h) → u.hours ≡ w.hours
  same_list e = ext_get_or 0 u.hours w.hours (lu.made_up.long ∙ sym lw.made_up.long) (λ h l. e h (rw lu.made_up.long at l))

  same_each : {g : ℕ} → u.ground ≡ g → w.ground ≡ g → ((h : ℕ) → h < length i.marks → at u.hours h ≡ at w.hours h) → Exact → Same u w
  same_each p q e = same_hours p q (same_list e)

  same_peaks : {g : ℕ} → u.ground ≡ g → w.ground ≡ g → u.volume ≡ w.volume → ByPeaks i u → ByPeaks i w → Same u w
  same_peaks p q v a b = same_each p q (one_peaks i a b v) (one_exact_peaks i (other_some i fit) a b v)

  same_past : {g : ℕ} → u.ground ≡ g → w.ground ≡ g → w.volume ≡ u.volume → SharedByPast i u.volume u.hours → SharedByPast i w.volume w.hours
      → ExactByPast i u → ExactByPast i w → Same u w
  same_past p q v s t a b =
      let g : i.past ≡ Some s.past = s.by_past.given in
      same_each p q (one_past i s (past_of i v t)) (one_exact_past i (some_hour i fit) (a.each s.past g) (b.each s.past g) (sym v))

  one : u.ground ≡ 1 → w.ground ≡ 1 → Same u w
  one p q =
      let e : hourly u.hours ≡ hourly w.hours = sym (lu.one p).hours ∙ (lw.one q).hours in
      let hours : u.hours ≡ w.hours = cc in
      same_read p q hours (lu.one p).exact (lw.one q).exact

  two : u.ground ≡ 2 → w.ground ≡ 2 → Same u w
  two p q = same_peaks p q (one_volume (lu.two p).volume (lw.two q).volume) (lu.two p).hours (lw.two q).hours

  three : u.ground ≡ 3 → w.ground ≡ 3 → Same u w
  three p q =
      let e : hourly u.hours ≡ hourly w.hours = sym (lu.three p).hours ∙ (lw.three q).hours in
      let hours : u.hours ≡ w.hours = cc in
      same_read p q hours (lu.three p).exact (lw.three q).exact

  four : u.ground ≡ 4 → w.ground ≡ 4 → Same u w
  four p q =
      let v : w.volume ≡ u.volume = one_volume (lw.four q).volume.volume (lu.four p).volume.volume in
      same_past p q v (lu.four p).hours (lw.four q).hours (lu.four p).exact (lw.four q).exact

  five : u.ground ≡ 5 → w.ground ≡ 5 → Same u w
  five p q = same_peaks p q (one_volume (lu.five p).volume.volume (lw.five q).volume.volume) (lu.five p).hours (lw.five q).hours

  six : u.ground ≡ 6 → w.ground ≡ 6 → Same u w
  six p q =
      let v : w.volume ≡ u.volume = one_volume (lw.six q).volume.volume (lu.six p).volume.volume in
      same_past p q v (lu.six p).hours (lw.six q).hours (lu.six p).exact (lw.six q).exact

  seven : u.ground ≡ 7 → w.ground ≡ 7 → Same u w
  seven p q =
      let e : Some (lu.seven p).past ≡ Some (lw.seven q).past = sym (lu.seven p).given ∙ (lw.seven q).given in
      let same : (lu.seven p).past ≡ (lw.seven q).past = cc in
      let hours : u.hours ≡ w.hours = same_list (λ h l. (lu.seven p).hours h l ∙ rw same (sym ((lw.seven q).hours h l))) in
      same_read p q hours (lu.seven p).exact (lw.seven q).exact

  eight : u.ground ≡ 8 → w.ground ≡ 8 → Same u w
  eight p q =
      let v : w.volume ≡ u.volume = (lw.eight q).volume ∙ sym (lu.eight p).volume in
      same_each p q (one_running (lu.eight p).running (running_at (lw.eight q).running v))
      (same_evenly (sym v) (lu.eight p).exact (lw.eight q).exact)

  nine : u.ground ≡ 9 → w.ground ≡ 9 → Same u w
  nine p q =
      let v : w.volume ≡ u.volume = one_nearest (lw.nine q).volume (lu.nine p).volume in
      same_each p q (one_running (lu.nine p).running (running_at (lw.nine q).running v))
      (same_evenly (sym v) (lu.nine p).exact (lw.nine q).exact)

-- grounds 5 and 6 are not both
not_both : (i : Inputs) (u w : Outcome) → Lawful i u → Lawful i w → (past : List ℕ) → i.past ≡ Some past → u.ground ≡ 5 → w.ground ≡ 6
    → ⊥
not_both i u w lu lw past e p q =
    let v : w.volume ≡ u.volume = one_volume (lw.six q).volume.volume (lu.five p).volume.volume in
    one_test i ((lu.five p).untested past e) (past_of i v (lw.six q).hours) (test_of i v (lw.six q).tested)

module _ (i : Inputs) (fit : InputsFit i) (u w : Outcome) (cu : Chosen i u.ground) (cw : Chosen i w.ground) (lu : Lawful i u) (lw : Lawful i w) where
  of_tested : (past : List ℕ) → i.past ≡ Some past → eqb u.ground 5 || eqb u.ground 6 ≡ true → eqb w.ground 5 || eqb w.ground 6 ≡ true
      → Same u w
  of_tested past e a b =
      ⊎_elim
      (λ p.
      ⊎_elim
      (λ q. five i fit u w lu lw (eqb-true _ _ p) (eqb-true _ _ q))
      (λ q. absurd (not_both i u w lu lw past e (eqb-true _ _ p) (eqb-true _ _ q)))
      (either _ (eqb w.ground 6) b))
      (λ p.
      ⊎_elim
      (λ q. absurd (not_both i w u lw lu past e (eqb-true _ _ q) (eqb-true _ _ p)))
      (λ q. six i fit u w lu lw (eqb-true _ _ p) (eqb-true _ _ q))
      (either _ (eqb w.ground 6) b))
      (either _ (eqb u.ground 6) a)

  of_control_past : i.billing ≡ missing → (k : ℕ) → i.control ≡ whole k → (p : PastHours) → i.past ≡ p → Same u w
  of_control_past e k f None g = five i fit u w lu lw (cu.by_peaks k e f g) (cw.by_peaks k e f g)
  of_control_past e k f (Some hs) g =
      elim (dec_lt 2 i.counted) [
        | yes l ↦ of_tested hs g (cu.tested k hs e f g l) (cw.tested k hs e f g l)
        | no n ↦ let few : i.counted ≤ 2 = omega arith in four i fit u w lu lw (cu.by_past k hs e f g few) (cw.by_past k hs e f g few)
      ]

  of_past : i.billing ≡ missing → i.control ≡ missing → (p : PastHours) → i.past ≡ p → Same u w
  of_past e f None g =
      by_cases (eqb i.contract.basis 3)
      (λ t. nine i fit u w lu lw (cu.cable e f g t) (cw.cable e f g t))
      (λ b. eight i fit u w lu lw (cu.power e f g b) (cw.power e f g b))
  of_past e f (Some hs) g =
      elim (dec_lt 2 i.counted) [
        | yes l ↦
            by_cases (eqb i.contract.basis 3)
            (λ t. nine i fit u w lu lw (cu.late_cable e f l t) (cw.late_cable e f l t))
            (λ b. eight i fit u w lu lw (cu.late_power e f l b) (cw.late_power e f l b))
        | no n ↦ let few : i.counted ≤ 2 = omega arith in seven i fit u w lu lw (cu.past hs e f g few) (cw.past hs e f g few)
      ]

  of_control : i.billing ≡ missing → (m : Measured) → i.control ≡ m → Same u w
  of_control e missing f = of_past e f i.past refl
  of_control e (hourly hs) f = three i fit u w lu lw (cu.control_hours hs e f) (cw.control_hours hs e f)
  of_control e (whole k) f = of_control_past e k f i.past refl

  of_billing : (m : Measured) → i.billing ≡ m → Same u w
  of_billing missing e = of_control e i.control refl
  of_billing (hourly hs) e = one i fit u w lu lw (cu.billing_hours hs e) (cw.billing_hours hs e)
  of_billing (whole b) e = two i fit u w lu lw (cu.billing_volume b e) (cw.billing_volume b e)

pub complete : (i : Inputs) → InputsFit i → (u : Outcome) → Chosen i u.ground → Lawful i u → Same u (rules i)
complete i fit u c l = of_billing i fit u (rules i) c (which i) l (lawful i fit) i.billing refl
