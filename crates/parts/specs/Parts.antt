-- The entries of a list of hours in two parts, those inside a set of days and those outside, and a list joined from them.
use Rattle.std.specs.Prelude.{ℕ, zero, suc, ◌≡◌, ◌<◌, Bool, cond, List, [], ◌∷◌, ◌++◌, length, get_or}
use Rattle.numbers.specs.Lists.{tab, sum_to, at}
use Rattle.parts.specs.Sets.{in_set, lies_inside, lies_outside, rank}

-- those of f 0, f 1, .., f (n - 1) whose index is chosen, in order
abbrev pub selected : {X : Type 0} → (ℕ → Bool) → (ℕ → X) → ℕ → List X
selected chosen f zero = []
selected chosen f (suc n) = selected chosen f n ++ cond (chosen n) (f n ∷ []) []

-- PARTED: the entries of the hours inside, and of those outside
unfoldable pub inside_part : ℕ → List ℕ → List ℕ
inside_part days xs = selected (lies_inside days) (at xs) (length xs)

unfoldable pub outside_part : ℕ → List ℕ → List ℕ
outside_part days xs = selected (lies_outside days) (at xs) (length xs)

-- the days of the set among the first n, in order
unfoldable pub chosen_days : ℕ → ℕ → List ℕ
chosen_days days n = selected (in_set days) (λ k. k) n

-- JOINED: hour h has entry rank(h) of the one list where it lies inside, and entry h of the other where it lies outside
abbrev pub joined_at : ℕ → List ℕ → List ℕ → ℕ → ℕ
joined_at days inside outside h = cond (lies_inside days h) (at inside (rank days h)) (at outside h)

unfoldable pub joined : ℕ → List ℕ → List ℕ → List ℕ
joined days inside outside = tab (length outside) (joined_at days inside outside)

-- the sum of the entries outside, over a buffer of 744 words
unfoldable pub sum_outside : ℕ → List ℕ → ℕ
sum_outside days xs = sum_to (λ h. cond (lies_outside days h) (at xs h) 0) 744

-- l is as long as d, and has the entries of xs from its front on, with x behind them; what does not fit is left out
pub record Front {X : Type 0} (x : X) (xs d l : List X) : Type 0 where
  pub long : length l ≡ length d
  pub is : (i : ℕ) → i < length d → get_or l i x ≡ get_or xs i x
