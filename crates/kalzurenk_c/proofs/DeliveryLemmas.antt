-- What is due of a delivery, by its answer and the room after it.
use Rattle.std.proofs.Common.{◌≡◌, [], Result, Ok, Err, refl}
use Rattle.std.specs.Prelude.{IsOkAnd, OnErr}
use Rattle.stack_walks.specs.Walking.{RoomValue}
use Rattle.stack_steps.specs.declared.error.DeliverError.{DeliverError}
use Rattle.stack_deliver.specs.declared.outcome.Ending.{Ending}
use Rattle.stack_deliver.specs.Delivering.{IsDelivered, delivery_in}
use Rattle.stack_deliver.specs.StackDelivery.{DeliveryValue}
use Rattle.kalzurenk_c.specs.Deliveries.{trail_due}

pub trail_left : (r : Result Ending DeliverError) (room : RoomValue) (due : Result DeliveryValue DeliverError) → IsDelivered r room due → OnErr r ((room.visited ≡ []) × (room.trail ≡ [])) → room.trail ≡ trail_due due
trail_left (Ok ending) room due is emptied = rw is refl
trail_left (Err e) room due is emptied = rw is emptied.1

pub delivered_so : (r : Result Ending DeliverError) (room : RoomValue) (due : Result DeliveryValue DeliverError) (P : DeliveryValue → Type 0) → IsDelivered r room due → IsOkAnd r (λ ending. P (delivery_in room ending)) →
    (d : DeliveryValue) × (due ≡ Ok d) × P d
delivered_so (Ok ending) room due P is p = (delivery_in room ending, is, p)
delivered_so (Err e) room due P is p = absurd p
