-- Each ground's law, of the way in which it comes about. Assumes nothing.
use mathlib.Core.Path.{◌≡◌, refl, sym, subst, ◌∙◌}
use mathlib.Core.Bool.{Bool, true, false}
use mathlib.Core.List.{List}
use Prim.Native.Nat.{ℕ, ◌-◌, ◌<◌}
use native.Mathlib.Nat.{mul_comm}
use native.Mathlib.Omega.{arith}
use borrow.Author.Tests.{ltb-true, ltb-false, lt-ltb}
use lib.Dec.{eqb, ltb}
use lib.ListN.{length}
use Rattle.std.specs.Prelude.{Some}
use Rattle.std.proofs.lemmas.Option.{none-some}
use Rattle.numbers.proofs.Laws.{both, sum_at}
use Rattle.sharing.specs.Shares.{stretched, shares}
use Rattle.marks.specs.Marks.{peak_count}
use Rattle.marks.specs.Peak.{peak_part}
use Rattle.marks.proofs.Laws.{peaks_most, capacity_sum_hours}
use Rattle.contract.specs.Contract.{power_of}
use Rattle.rules.specs.Rules.{Inputs, Outcome, missing, whole, hours_in, point_power, as_read, by_weights, by_peaks, evenly, ground_six_in, rules}
use Rattle.rules.specs.Right.{InputsFit, days_of}
use Rattle.rules.proofs.Laws.{some_hour, few_hours, rules_right}
use Rattle.ground_laws.specs.Counted.{peaks_among, IsPower}
use Rattle.ground_laws.specs.GroundLaws.{MadeUp, ControlVolume, ByPeaks, SharedByPast, ExactByPast, Tested, Untested}
use Rattle.ground_laws.specs.GroundLaws.{BillingHours, BillingVolume, ControlHours, ControlByPast, ControlByPeaks, ControlByPastTested}
use Rattle.ground_laws.specs.GroundLaws.{OfPast, ByPower, ByCable, Lawful}
use Rattle.ground_laws.proofs.Cases.{Each, of_rules}
use Rattle.ground_laws.proofs.Sharing.{even_ones, running_ones, stretched_hour, near_past, none_past, even_past, running_past, running_empty}
use Rattle.ground_laws.proofs.Peaks.{peaks_counted, peaks_get, even_peaks, even_others, even_all, running_peaks, running_rest}
use Rattle.ground_laws.proofs.Exact.{read_exact, evenly_exact, past_exact, empty_exact, peak_exact, other_exact}
use Rattle.ground_laws.proofs.Days.{working_counted}
use Rattle.ground_laws.proofs.Powers.{formula_near, power_near}

-- the law of ground g
abbrev pick : Bool → Type 0 → Type 0 → Type 0
pick true A B = A
pick false A B = B

abbrev LawOf : Inputs → ℕ → Outcome → Type 0
LawOf i g u =
    pick (eqb g 1) (BillingHours i u)
    (pick (eqb g 2) (BillingVolume i u)
    (pick (eqb g 3) (ControlHours i u)
    (pick (eqb g 4) (ControlByPast i u)
    (pick (eqb g 5) (ControlByPeaks i u)
    (pick (eqb g 6) (ControlByPastTested i u)
    (pick (eqb g 7) (OfPast i u)
    (pick (eqb g 8) (ByPower i u) (ByCable i u))))))))

made_up : (i : Inputs) → InputsFit i → MadeUp i (rules i)
made_up i fit =
    let right = rules_right i fit in
    record { long = right.long; sums = rw right.long at (sym (sum_at (rules i).hours)) ∙ right.sums }

module _ (i : Inputs) (fit : InputsFit i) where
  is_power : IsPower i.contract (point_power i)
  is_power = power_near i.contract fit.cable

  rest : 0 < length i.marks - peak_count i.marks
  rest = omega (arith, fit.whole_days, fit.some, peaks_most i.marks (days_of i) fit.whole_days fit.not_crowded)

  pub other_some : 0 < length i.marks - peaks_among i.marks
  other_some = rw (peaks_counted i.marks) at rest

  peaks_lem : (g v : ℕ) → ByPeaks i (by_peaks g i v)
  unfolding by_peaks
  peaks_lem g v =
      let p = point_power i in
      record {
        power = p;
        is_power = is_power;
        peaks_get = peaks_get v p i.marks rest;
        peaks = even_peaks v p i.marks rest;
        others = even_others v p i.marks rest;
        all = even_all v p i.marks rest;
        running = running_peaks v p i.marks rest;
        others_running = running_rest v p i.marks rest;
        exact_peak = peak_exact i g v;
        exact_other = λ h l t. other_exact i g v h rest t;
      }

  past_lem : (v : ℕ) (hs : List ℕ) → i.past ≡ Some hs → SharedByPast i v (shares v (stretched hs (hours_in i)))
  past_lem v hs e =
      let t = hours_in i in
      record {
        past = hs;
        by_past = record {
          given = e;
          below = λ some h l. (near_past v t hs some h l).below;
          above = λ some h l. (near_past v t hs some h l).above;
          none = λ some h l. none_past v t hs some h l;
          running = running_past v t hs;
          empty = even_past v t hs (some_hour i fit);
          empty_running = running_empty v t hs (some_hour i fit);
        };
      }

  exact_lem : (g v : ℕ) (hs : List ℕ) → i.past ≡ Some hs → ExactByPast i (by_weights g v (stretched hs (hours_in i)))
  unfolding by_weights
  exact_lem g v hs e = record {
    each = λ past f.
        let p : Some hs ≡ Some past = sym e ∙ f in
        let same : hs ≡ past = cc in
        rw same (record {
          each = past_exact (hours_in i) past g v;
          empty = λ none. empty_exact (hours_in i) past g v none (some_hour i fit);
        });
  }

  control_lem : (u : Outcome) (k : ℕ) → i.billing ≡ missing → i.control ≡ whole k → u.volume ≡ k - i.neighbour → ControlVolume i u
  control_lem u k e f g = record { unread = e; volume = record { read = k; is = f; less = g } }

  tested_lem : (v : ℕ) (hs : List ℕ) → 2 < i.counted → ground_six_in i v (shares v hs) ≡ true → Tested i v (shares v hs)
  unfolding ground_six_in peak_part
  tested_lem v hs late e =
      let t = both (ltb 0 (peak_count i.marks)) _ e in
      let n = peaks_counted i.marks in
      let d = working_counted i.marks (days_of i) fit.whole_days in
      let c = capacity_sum_hours i.marks (shares v hs) (few_hours i fit) in
      record {
        late = late;
        power = point_power i;
        is_power = is_power;
        some = rw n at (ltb-true 0 (peak_count i.marks) t.0);
        less = rw (n, d, c) at (ltb-true _ _ t.1);
      }

  untested_lem : (v : ℕ) (hs : List ℕ) → i.past ≡ Some hs → 2 < i.counted
      → ground_six_in i v (shares v (stretched hs (hours_in i))) ≡ false
      → Untested i v
  unfolding ground_six_in peak_part
  untested_lem v hs g late e =
      let xs = shares v (stretched hs (hours_in i)) in
      let n = peaks_counted i.marks in
      let d = working_counted i.marks (days_of i) fit.whole_days in
      let c = capacity_sum_hours i.marks xs (few_hours i fit) in
      record {
        late = late;
        hours = xs;
        shared = past_lem v hs g;
        power = point_power i;
        is_power = is_power;
        not_less = λ some.
            let any : 0 < peak_count i.marks = rw n some in
            rw (n, d, c) at (ltb-false _ _ (rw (lt-ltb 0 (peak_count i.marks) any) at e));
      }

  each : Each i (λ u. LawOf i u.ground u)
  unfolding as_read by_weights by_peaks evenly power_of
  each = record {
    billing_hours = λ hs e. record { hours = e; exact = record { each = λ h l. read_exact 1 hs h } };
    billing_volume = λ b e. record { volume = record { read = b; is = e; less = refl }; hours = peaks_lem 2 (b - i.neighbour) };
    control_hours = λ e hs f. record { unread = e; hours = f; exact = record { each = λ h l. read_exact 3 hs h } };
    by_past = λ e k f hs g l.
        record {
          volume = control_lem _ k e f refl;
          few = l;
          hours = past_lem (k - i.neighbour) hs g;
          exact = exact_lem 4 (k - i.neighbour) hs g;
        };
    tested = λ e k f hs g l t.
        record {
          volume = control_lem _ k e f refl;
          tested = tested_lem (k - i.neighbour) (stretched hs (hours_in i)) l t;
          hours = past_lem (k - i.neighbour) hs g;
          exact = exact_lem 6 (k - i.neighbour) hs g;
        };
    untested = λ e k f hs g l t.
        record {
          volume = control_lem _ k e f refl;
          untested = λ past p. untested_lem (k - i.neighbour) hs g l t;
          hours = peaks_lem 5 (k - i.neighbour);
        };
    no_past = λ e k f g.
        record {
          volume = control_lem _ k e f refl;
          untested = λ past p. absurd (none-some past (sym g ∙ p));
          hours = peaks_lem 5 (k - i.neighbour);
        };
    past = λ e f hs g l.
        record {
          billing = e;
          control = f;
          few = l;
          past = hs;
          given = g;
          hours = stretched_hour hs (hours_in i);
          exact = record { each = λ h m. read_exact 7 (stretched hs (hours_in i)) h };
        };
    power = λ e f b.
        record {
          billing = e;
          control = f;
          basis = b;
          volume = rw b (mul_comm (hours_in i) i.contract.power.0);
          even = even_ones _ (hours_in i) (some_hour i fit);
          running = running_ones _ (hours_in i) (some_hour i fit);
          exact = record { each = evenly_exact i 8 _ (some_hour i fit) };
        };
    cable = λ e f b.
        record {
          billing = e;
          control = f;
          basis = b;
          volume = formula_near i.contract.cable (hours_in i) (fit.cable b);
          even = even_ones _ (hours_in i) (some_hour i fit);
          running = running_ones _ (hours_in i) (some_hour i fit);
          exact = record { each = evenly_exact i 9 _ (some_hour i fit) };
        };
  }

  law : {g : ℕ} → (rules i).ground ≡ g → LawOf i g (rules i)
  law e = subst (λ (g : ℕ). LawOf i g (rules i)) e (of_rules i (λ u. LawOf i u.ground u) each)

pub lawful : (i : Inputs) → InputsFit i → Lawful i (rules i)
lawful i fit = record {
  made_up = made_up i fit;
  one = law i fit;
  two = law i fit;
  three = law i fit;
  four = law i fit;
  five = law i fit;
  six = law i fit;
  seven = law i fit;
  eight = law i fit;
  nine = law i fit;
}
