-- Lists of numbers, and functions of an index, which counts from 0.
use Rattle.std.specs.Prelude.{ℕ, zero, suc, ◌+◌, ◌-◌, ◌≡◌, List, [], ◌∷◌, ◌++◌, Bool, true, false, cond, ◌&&◌, ◌||◌, length, get_or, drop, replicate, leb}

-- f 0, f 1, .., f (n - 1)
abbrev pub tab : ℕ → (ℕ → ℕ) → List ℕ
tab zero f = []
tab (suc n) f = tab n f ++ (f n ∷ [])

-- f 0 + f 1 + .. + f (n - 1)
abbrev pub sum_to : (ℕ → ℕ) → ℕ → ℕ
sum_to f zero = 0
sum_to f (suc n) = sum_to f n + f n

-- whether f holds of 0, 1, .., n - 1
abbrev pub all_to : (ℕ → Bool) → ℕ → Bool
all_to f zero = true
all_to f (suc n) = all_to f n && f n

-- whether f holds of one of 0, 1, .., n - 1
abbrev pub any_to : (ℕ → Bool) → ℕ → Bool
any_to f zero = false
any_to f (suc n) = any_to f n || f n

-- how many of 0, 1, .., n - 1 f holds of
abbrev pub count_to : (ℕ → Bool) → ℕ → ℕ
count_to f n = sum_to (λ k. cond (f k) 1 0) n

-- the sum of a list
abbrev pub sum : List ℕ → ℕ
sum [] = 0
sum (x ∷ xs) = x + sum xs

-- element k, and 0 past the end
abbrev pub at : List ℕ → ℕ → ℕ
at xs k = get_or xs k 0

abbrev pub zeros : ℕ → List ℕ
zeros n = replicate n 0

-- xs, with 0 from its end on up to n elements
unfoldable pub padded : ℕ → List ℕ → List ℕ
padded n xs = xs ++ zeros (n - length xs)

-- whether no element is above the limit
unfoldable pub none_above : ℕ → List ℕ → Bool
none_above limit xs = all_to (λ k. leb (at xs k) limit) (length xs)

-- l is d, filled from the front with the first n of f's values
pub record Filled (f : ℕ → ℕ) (d l : List ℕ) (n : ℕ) : Type 0 where
  pub long : length l ≡ length d
  pub is : l ≡ tab n f ++ drop n d
