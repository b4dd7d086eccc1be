use Rattle.std.proofs.Common.{◌≡◌, Ok, Err, refl, ◌∙◌}
use Rattle.stack_deliver.specs.Delivering.{delivery_in}
use Rattle.kalzurenk_c.proofs.delivery.told_of.Goals as goal

pub returns-in-Ok : goal.returns-in-Ok
returns-in-Ok c due is =
    let made : due ≡ Ok (delivery_in c.args.room.now c.in-Ok.ending) = rw c.in-Ok.is at is in
    c.ending_told.ensures ∙ rw made refl

pub returns-in-Err : goal.returns-in-Err
returns-in-Err c due is =
    let failed : due ≡ Err c.in-Err.error = rw c.in-Err.is at is in
    c.refused_told.ensures ∙ rw failed refl
