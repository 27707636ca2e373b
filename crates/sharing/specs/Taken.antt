-- The weights of a month's hours as the struct of the code has them.
use Rattle.std.specs.Prelude.{ℕ, length}
use Rattle.sharing.specs.Shares.{taken, past_at, chosen_at}
use Rattle.sharing.specs.declared.weights.Weights.{Weights}

-- how many hours these are
abbrev pub hour_count : Weights → ℕ
hour_count ws = length ws.chosen.now

-- the weight by which an hour is taken
abbrev pub weight_of : Weights → ℕ → ℕ
weight_of ws = taken (hour_count ws) (chosen_at ws.chosen.now) (past_at ws.past.now)
