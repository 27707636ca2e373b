-- The values of a function at chosen indexes, in order. Assumes nothing.
use mathlib.Core.Path.{◌≡◌, refl, sym, ap, ◌∙◌}
use mathlib.Core.Logic.{⊎_elim}
use mathlib.Core.List.{[], ◌∷◌, ◌++◌, append-nil}
use mathlib.Core.Bool.{Bool, true, false, cond}
use Prim.Native.Nat.{ℕ, zero, suc, ◌+◌, ◌<◌}
use native.Mathlib.Nat.{not-suc-le-zero, le_of_suc-le-suc, eq-or-lt_of_le, le_refl, le_step, add-zero}
use native.Mathlib.Numerals.{add-one}
use native.Mathlib.Omega.{arith}
use native.Mathlib.Decide.{dec_lt}
use lib.ListN.{length, length-append, get_or-append}
use lib.Seq.{get_or_at}
use Rattle.numbers.specs.Lists.{tab, sum_to, count_to, sum, at}
use Rattle.numbers.proofs.Laws.{by_cases, sum_snoc, sum_up, sum_same, sum_tab}
use Rattle.parts.specs.Parts.{selected}

module _ (chosen : ℕ → Bool) where
  -- one index more, chosen or not
  pub selected_yes : {X : Type 0} (f : ℕ → X) (n : ℕ) → chosen n ≡ true → selected chosen f (suc n) ≡ selected chosen f n ++ (f n ∷ [])
  selected_yes f n t = rw t

  pub selected_no : {X : Type 0} (f : ℕ → X) (n : ℕ) → chosen n ≡ false → selected chosen f (suc n) ≡ selected chosen f n
  selected_no f n g = rw (g, append-nil)

  pub count_yes : (n : ℕ) → chosen n ≡ true → count_to chosen (suc n) ≡ count_to chosen n + 1
  count_yes n t = rw t

  pub count_no : (n : ℕ) → chosen n ≡ false → count_to chosen (suc n) ≡ count_to chosen n
  count_no n g = rw (g, add-zero)

  -- the count before a chosen index is below that before a later one
  pub count_below : {h n : ℕ} → h < n → chosen h ≡ true → count_to chosen h < count_to chosen n
  count_below {h} {n} l t = omega (arith, count_yes h t, sum_up (λ k. cond (chosen k) 1 0) l)

  pub length_selected : {X : Type 0} (f : ℕ → X) (n : ℕ) → length (selected chosen f n) ≡ count_to chosen n
  length_selected f zero = refl
  length_selected f (suc n) =
      by_cases (chosen n)
      (λ t. rw t (simp length-append (omega (arith, length_selected f n))))
      (λ g. rw (g, append-nil, add-zero) (length_selected f n))

  -- the value of a chosen index stands behind as many as are chosen before it
  pub at_selected : (f : ℕ → ℕ) (n h : ℕ) → h < n → chosen h ≡ true → at (selected chosen f n) (count_to chosen h) ≡ f h
  at_selected f zero h l t = absurd (not-suc-le-zero l)
  at_selected f (suc n) h l t =
      ⊎_elim
      (λ e. rw (e, rw e at t) (get_or_at (selected chosen f n) (f n) [] 0 (count_to chosen n) (length_selected f n)))
      (λ k.
      get_or-append (selected chosen f n) (cond (chosen n) (f n ∷ []) []) 0 (count_to chosen h)
      (rw (length_selected f n) (count_below k t))
      ∙ at_selected f n h k t)
      (eq-or-lt_of_le (le_of_suc-le-suc l))

  -- functions that agree at chosen indexes have the same values there
  pub selected_same : (f g : ℕ → ℕ) (n : ℕ)
      → ((h : ℕ) → h < n → chosen h ≡ true → f h ≡ g h) → selected chosen f n ≡ selected chosen g n
  selected_same f g zero e = refl
  selected_same f g (suc n) e =
      let s = selected_same f g n (λ h l. e h (le_step l)) in
      by_cases (chosen n)
      (λ t. rw (t, s, e n (le_refl _) t))
      (λ d. rw (d, s))

  pub selected_all : (f : ℕ → ℕ) (n : ℕ) → ((h : ℕ) → h < n → chosen h ≡ true) → selected chosen f n ≡ tab n f
  selected_all f zero e = refl
  selected_all f (suc n) e = rw (e n (le_refl _), selected_all f n (λ h l. e h (le_step l)))

  -- a function of how many are chosen before has all its values at the chosen indexes
  pub selected_counts : (f : ℕ → ℕ) (n : ℕ) → selected chosen (λ h. f (count_to chosen h)) n ≡ tab (count_to chosen n) f
  selected_counts f zero = refl
  selected_counts f (suc n) =
      by_cases (chosen n)
      (λ t. rw (t, add-one, selected_counts f n))
      (λ g. rw (g, append-nil, add-zero) (selected_counts f n))

  pub sum_selected : (f : ℕ → ℕ) (n : ℕ) → sum (selected chosen f n) ≡ sum_to (λ h. cond (chosen h) (f h) 0) n
  sum_selected f zero = refl
  sum_selected f (suc n) =
      by_cases (chosen n)
      (λ t. rw t (omega (arith, sum_snoc (selected chosen f n) (f n), sum_selected f n)))
      (λ g. rw (g, append-nil, add-zero) (sum_selected f n))

  -- a sum over the counts before chosen indexes, and over the values at these
  pub sum_counts : (f : ℕ → ℕ) (n : ℕ) → sum_to (λ h. cond (chosen h) (f (count_to chosen h)) 0) n ≡ sum_to f (count_to chosen n)
  sum_counts f n = sym (sum_selected (λ h. f (count_to chosen h)) n) ∙ ap sum (selected_counts f n) ∙ sum_tab (count_to chosen n) f

  pub sum_of_selected : (g f : ℕ → ℕ) (n : ℕ)
      → sum_to (λ j. g (at (selected chosen f n) j)) (count_to chosen n) ≡ sum_to (λ h. cond (chosen h) (g (f h)) 0) n
  sum_of_selected g f n =
      sym (sum_counts (λ j. g (at (selected chosen f n) j)) n)
      ∙ sum_same n _ _ (λ h l. by_cases (chosen h) (λ t. rw (t, at_selected f n h l t)) (λ d. rw d))

  -- each place before the count is that of a chosen index
  pub record ChosenAt (n j : ℕ) : Type 0 where
    pub index : ℕ
    pub below : index < n
    pub holds : chosen index ≡ true
    pub place : count_to chosen index ≡ j

  pub chosen_index : (n j : ℕ) → j < count_to chosen n → ChosenAt n j
  chosen_index zero j l = absurd (not-suc-le-zero l)
  chosen_index (suc n) j l =
      elim (dec_lt j (count_to chosen n)) [
        | yes k ↦
            let s = chosen_index n j k in
            record { index = s.index; below = le_step s.below; holds = s.holds; place = s.place }
        | no f ↦
            by_cases (chosen n)
            (λ t. record { index = n; below = le_refl _; holds = t; place = omega (arith, count_yes n t) })
            (λ g. absurd (omega (arith, count_no n g)))
      ]
