-- A loop that flags the peak hours. Assumes nothing.
use mathlib.Core.Path.{◌≡◌, sym, ◌∙◌}
use mathlib.Core.Bool.{Bool, false}
use mathlib.Core.List.{List}
use Prim.Native.Nat.{ℕ, ◌+◌, ◌-◌, ◌*◌, ◌≤◌, ◌<◌, min}
use native.Mathlib.Nat.{not-suc-le-zero}
use native.Mathlib.Omega.{arith}
use borrow.Author.Count.{below_more}
use lib.ListN.{length, get_or, set, take, replicate, length-replicate, length-set, length-take}
use lib.Seq.{get_or-set_same, get_or-set_other, get_or-take}
use Rattle.sharing.specs.Shares.{shares_apart, chosen_at, month_fits, Shared}
use Rattle.sharing.proofs.Rule.{apart_same}
use Rattle.marks.specs.Marks.{peak_at, peak_count}
use Rattle.marks.specs.Peak.{peak_part, peak_rule, Flags}

pub flags_start : (marks : List ℕ) (flags : List Bool) → length flags ≡ 744 → Flags marks flags 0
flags_start marks flags e = record { long = e; is = λ h l. absurd (not-suc-le-zero l) }

pub flags_none : (marks : List ℕ) → Flags marks (replicate 744 false) 0
flags_none marks = flags_start marks (replicate 744 false) (length-replicate 744 false)

pub flags_more : {marks : List ℕ} {flags : List Bool} {h : ℕ} (b : Bool)
    → Flags marks flags h → h < 744 → b ≡ peak_at marks h → Flags marks (set flags h b) (h + 1)
flags_more {marks} {flags} {h} b f l e = record {
  long = length-set flags h b ∙ f.long;
  is =
      below_more (λ k. get_or (set flags h b) k false ≡ peak_at marks k) h
      (λ k m. get_or-set_other flags h k b false (λ s. absurd (omega arith)) ∙ f.is k m)
      (get_or-set_same flags h b false (omega (arith, f.long)) ∙ e);
}

-- the flags of the marks' hours, as the part of the array that is lent
pub record Part (marks : List ℕ) (part : List Bool) : Type 0 where
  pub long : length part ≡ length marks
  pub is : (h : ℕ) → h < length marks → chosen_at part h ≡ peak_at marks h

pub part_of : {marks : List ℕ} {flags : List Bool} → Flags marks flags (length marks) → length marks ≤ 744 → Part marks (take (length marks) flags)
part_of {marks} {flags} f l = record {
  long = simp length-take (omega (arith, f.long));
  is = λ h m. rw get_or-take (f.is h m);
}

-- what the peak rule answers, from what the sharing apart answered
pub peak_shared : (v p room : ℕ) {n a : ℕ} {marks before after : List ℕ} {part : List Bool} {r : Bool}
    → Part marks part → a ≡ min v (n * p) → n ≡ peak_count marks
    → Shared (month_fits (a + (v - a)) (length part) room) (shares_apart a (v - a) (chosen_at part) (length part)) before after r
    → Shared (month_fits v (length marks) room) (peak_rule v p marks) before after r
unfolding peak_rule peak_part
peak_shared v p room {a = a} {marks = marks} {part = part} f e i s =
    let whole : a + (v - a) ≡ v = omega arith in
    let cut : min v (peak_count marks * p) ≡ a = sym (e ∙ rw i) in
    rw (cut, ← apart_same a (v - a) (length marks) (chosen_at part) (peak_at marks) f.is)
    (rw (whole, f.long) at s)
