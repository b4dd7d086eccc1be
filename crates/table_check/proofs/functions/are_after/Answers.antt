use Rattle.std.proofs.Common.{◌+◌, ◌^◌, ◌≤◌, inl, inr}
use Rattle.std.proofs.lemmas.Bool.{cases_lt}
use Rattle.table_check.specs.ClaimViews.{range_of}
use Rattle.table_check.proofs.Deciding.{decides_no}
use Rattle.table_check.proofs.Reduced.{nonempty_mapped, too_far}
use Rattle.table_check.proofs.functions.are_after.Goals as goal

pub returns-in-None : goal.returns-in-None
returns-in-None c =
    decides_no (λ within. too_far (c.args.start + c.args.offset) c.args.end _ far c.ranges.end.fits (nonempty_mapped range_of c.args.ranges.now c.requires) within)
  where
    far : 2 ^ 64 ≤ c.args.start + c.args.offset
    far = elim (cases_lt (c.args.start + c.args.offset) (2 ^ 64)) [ inl below ↦ absurd (c.in-None.ensures below) | inr above ↦ above ]
