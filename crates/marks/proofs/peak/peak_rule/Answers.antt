-- The flags of the marks' hours are lent to the sharing, and A and V - A sum to V.
use native.Mathlib.Nat.{sub-zero}
use Rattle.marks.specs.Marks.{peak_count}
use Rattle.marks.proofs.Flag.{part_of, peak_shared}
use Rattle.marks.proofs.peak.peak_rule.Goals as goal

pub returns : goal.returns
unfolding peak_count
returns c =
    peak_shared _ _ _ (part_of c.flag_peaks.ensures c.if-t-gt744.false) c.peak_part-part.ensures c.count_peaks.ensures.is
    (rw sub-zero at c.share_apart.ensures)
