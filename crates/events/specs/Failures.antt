-- The reasons of a failure by their numbers (document 01, 'What a point keeps').
use Rattle.std.specs.Prelude.{ℕ, ◌≡◌, not, Result, IfOk}
use Rattle.events.specs.declared.Reason.{Reason}
use Rattle.events.specs.declared.Reason.TheVariants.{Fault, Loss, VerificationOver, TakenDown}
use Rattle.model.specs.declared.refusals.Refusal.{Refusal}
use Rattle.model.specs.Refusals.{refuse, is_reason}
use Rattle.model.specs.Refused.{number_or}

abbrev pub reason_number : Reason → ℕ
reason_number Fault = 1
reason_number Loss = 2
reason_number VerificationOver = 3
reason_number TakenDown = 4

-- the reason of a number, and 31 where there is none
abbrev pub FindsReason : ℕ → Result Reason Refusal → Type 0
FindsReason n x =
    ((rest : ℕ) → refuse (not (is_reason n)) 31 rest ≡ number_or x rest) × IfOk x (λ reason. reason_number reason ≡ n)
