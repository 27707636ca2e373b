-- The number 15, and an accepted opening, which clears the store and keeps the contract.
use Rattle.std.proofs.Common.{rules, sym}
use Rattle.opening.proofs.Laws.{number_after, opened_is}
use Rattle.opening.proofs.try_open.Goals as goal

pub returns-in_err-refuse_if : goal.returns-in_err-refuse_if
returns-in_err-refuse_if c =
    let z = number_after _ _ _ c.in_ok-check_asked.ensures c.power_of-p.ensures (rw c.integral_on_big_load.ensures at c.refuse_if.ensures.number 0) in
    search (rules, z)

pub returns : goal.returns
returns c =
    let z = number_after _ _ _ c.in_ok-check_asked.ensures c.power_of-p.ensures (rw c.integral_on_big_load.ensures at c.in_ok-refuse_if.ensures.number 0) in
    (sym z, rw (c.fresh_record.ensures, c.keep.ensures) (opened_is _ _ _ _ z c.power_of-p.ensures c.clear_store.ensures))
