use Rattle.std.proofs.Common.{◌≡◌, Ok, refl}
use Rattle.kalzurenk_c.specs.Deliveries.{delivery_given, with_space}
use Rattle.kalzurenk_c.proofs.delivery.deliver_given.Goals as goal

pub returns : goal.returns
returns c =
    let space = c.in_ok-space.ensures in
    let pending = c.in_ok-pending.ensures in
    let given : delivery_given c.args.regions.now c.args.modules.now c.args.pairs.now ≡ Ok (with_space c.in_ok-space.space c.in_ok-pending.pending.resumes) = rw (space, pending.0) refl in
    (with_space c.in_ok-space.space c.in_ok-pending.pending.resumes, given, rw (pending.1, c.over_own_image-own.ensures) at c.write_delivery.ensures)
