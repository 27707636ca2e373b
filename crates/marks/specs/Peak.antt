-- The peak rule (document 01).
use Rattle.std.specs.Prelude.{ℕ, ◌-◌, ◌*◌, ◌<◌, min, ◌≡◌, Bool, false, List, length, get_or}
use Rattle.sharing.specs.Shares.{shares_apart}
use Rattle.marks.specs.Marks.{peak_at, peak_count}

-- A = min(V, n × P): what of V the peak hours take at the power P
unfoldable pub peak_part : ℕ → ℕ → List ℕ → ℕ
peak_part v p marks = min v (peak_count marks * p)

-- A is shared evenly over the peak hours, V - A evenly over the others
unfoldable pub peak_rule : ℕ → ℕ → List ℕ → List ℕ
peak_rule v p marks = shares_apart (peak_part v p marks) (v - peak_part v p marks) (peak_at marks) (length marks)

-- the flags of the first n hours say where the peaks are
pub record Flags (marks : List ℕ) (flags : List Bool) (n : ℕ) : Type 0 where
  pub long : length flags ≡ 744
  pub is : (h : ℕ) → h < n → get_or flags h false ≡ peak_at marks h
