-- What is said of a delivery over the space's own image is so of the space.
use Rattle.std.proofs.Common.{◌≡◌, ℕ, List, Result, subst}
use Rattle.unwind_arch.specs.declared.x86_64.Context.{Context}
use Rattle.stack_steps.specs.declared.error.DeliverError.{DeliverError}
use Rattle.stack_steps.specs.Languages.{Languages}
use Rattle.stack_steps.specs.Modules.{SpaceValue}
use Rattle.stack_steps.specs.Ticking.{RisesWithin}
use Rattle.stack_walks.specs.Walking.{RoomValue}
use Rattle.stack_deliver.specs.declared.outcome.Ending.{Ending}
use Rattle.stack_deliver.specs.Delivering.{IsDelivered}
use Rattle.stack_deliver.specs.Searches.{met_through}
use Rattle.stack_deliver.specs.StackDelivery.{delivery_through}

pub delivered_over : (languages : Languages) (own space : SpaceValue) (r : Result Ending DeliverError) (room : RoomValue) (c : Context) (exception : ℕ) (resumes : List (ℕ × ℕ)) (limit : ℕ) → own ≡ space → IsDelivered r room (delivery_through languages own c exception resumes limit)
    → IsDelivered r room (delivery_through languages space c exception resumes limit)
delivered_over languages own space r room c exception resumes limit same is = subst (λ (s : SpaceValue). IsDelivered r room (delivery_through languages s c exception resumes limit)) same is

pub met_over : (languages : Languages) (own space : SpaceValue) (c : Context) (exception : ℕ) (resumes : List (ℕ × ℕ)) (limit before after : ℕ) → own ≡ space → RisesWithin own (met_through languages own c exception resumes limit) before after
    → RisesWithin space (met_through languages space c exception resumes limit) before after
met_over languages own space c exception resumes limit before after same is = subst (λ (s : SpaceValue). RisesWithin s (met_through languages s c exception resumes limit) before after) same is
