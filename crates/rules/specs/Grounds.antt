-- The grounds by number (document 01, 'Closing').
use Rattle.std.specs.Prelude.{ℕ, Bool, ◌||◌, eqb}
use Rattle.rules.specs.declared.Ground.{Ground}
use Rattle.rules.specs.declared.Clause.{Clause}
use Rattle.rules.specs.declared.Clause.TheVariants.{Missed, DeniedTwice, OutOfService}
use Rattle.rules.specs.declared.Ground.TheVariants.{BillingHours, BillingVolume, ControlHours, ControlByPast}
use Rattle.rules.specs.declared.Ground.TheVariants.{ControlByPeaks, ControlByPastTested, Past, Power, Cable}

-- the number of a ground in document 01's table
abbrev pub ground_number : Ground → ℕ
ground_number BillingHours = 1
ground_number BillingVolume = 2
ground_number ControlHours = 3
ground_number ControlByPast = 4
ground_number ControlByPeaks = 5
ground_number ControlByPastTested = 6
ground_number Past = 7
ground_number Power = 8
ground_number Cable = 9

-- grounds 1 and 2, on which the billing meter was read
abbrev pub is_measured : Ground → Bool
is_measured g = eqb (ground_number g) 1 || eqb (ground_number g) 2

-- the number of a point of document 000
abbrev pub clause_number : Clause → ℕ
clause_number Missed = 166
clause_number DeniedTwice = 178
clause_number OutOfService = 179
