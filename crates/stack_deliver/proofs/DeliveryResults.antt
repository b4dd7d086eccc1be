-- Answers of deliveries, and what is due.
use Rattle.std.proofs.Common.{◌≡◌, ℕ, ◌+◌, ◌*◌, ◌≤◌, length, Result, Ok, Err, ap}
use Rattle.std.specs.Prelude.{IsOkAnd}
use Rattle.stack_deliver.specs.declared.outcome.Ending.{Ending}
use Rattle.stack_deliver.specs.declared.outcome.Outcome.{Outcome}
use Rattle.stack_steps.specs.declared.error.DeliverError.{DeliverError}
use Rattle.stack_deliver.specs.StackDelivery.{DeliveryValue}
use Rattle.stack_walks.specs.Walking.{RoomValue}
use Rattle.stack_deliver.specs.Delivering.{IsDelivered, delivery_in}

-- ---- deliveries

pub delivered_fault : (r : Result Ending DeliverError) (room : RoomValue) (due : Result DeliveryValue DeliverError) (e : DeliverError) → IsDelivered r room due → r ≡ Err e → due ≡ Err e
delivered_fault (Ok ending) room due e is fails = absurd cc
delivered_fault (Err x) room due e is fails = let same : x ≡ e = cc in rw same at is

pub fault_delivered : (r : Result Ending DeliverError) (room : RoomValue) (due : Result DeliveryValue DeliverError) (e : DeliverError) → IsDelivered r room due → due ≡ Err e → r ≡ Err e
fault_delivered (Ok ending) room due e is fails = absurd cc
fault_delivered (Err x) room due e is fails = let same : x ≡ e = cc in ap Err same

pub ending_delivered : (r : Result Ending DeliverError) (room : RoomValue) (due : Result DeliveryValue DeliverError) (d : DeliveryValue) (P : DeliveryValue → Type 0) → IsDelivered r room due → due ≡ Ok d → P d → IsOkAnd r (λ ending. P (delivery_in room ending))
ending_delivered (Ok ending) room due d P is goes p = let same : d ≡ delivery_in room ending = cc in rw same at p
ending_delivered (Err x) room due d P is goes p = absurd cc

-- what is in the room is what was delivered
pub few_delivered : (r : Result Ending DeliverError) (room : RoomValue) (due : Result DeliveryValue DeliverError) (d : DeliveryValue) (n : ℕ) → IsDelivered r room due → due ≡ Ok d → n ≤ 2 * length d.visited + length d.trail → n ≤ 2 * length room.visited + length room.trail
few_delivered (Ok ending) room due d n is goes few = let same : d ≡ delivery_in room ending = cc in rw same at few
few_delivered (Err x) room due d n is goes few = absurd cc

pub delivered_ending : (r : Result Ending DeliverError) (room : RoomValue) (due : Result DeliveryValue DeliverError) (o : Outcome) → IsDelivered r room due → IsOkAnd r (λ ending. ending.outcome ≡ o) → (d : DeliveryValue) × (due ≡ Ok d) × (d.outcome ≡ o)
delivered_ending (Ok ending) room due o is ends = (delivery_in room ending, is, ends)
delivered_ending (Err x) room due o is ends = absurd ends
