-- The delivery over a generated chain, and what is counted of it.
use Rattle.std.proofs.Common.{◌≡◌, ℕ, ◌+◌, ◌-◌, ◌*◌, ◌/◌, ◌^◌, ◌≤◌, min, List, length, refl, sym, ap, ◌∙◌, arith}
use Rattle.std.proofs.lemmas.List.{length-map}
use Rattle.unwind_definitions.specs.State.{State}
use Rattle.unwind_definitions.specs.Function.{Function}
use Rattle.unwind_definitions.specs.Chain.{Call}
use Rattle.unwind_definitions.specs.Delivery as described
use Rattle.unwind_arch.specs.declared.x86_64.Context.{Context}
use Rattle.stack_deliver.specs.declared.outcome.Outcome.{Outcome}
use Rattle.stack_deliver.specs.declared.outcome.Outcome.TheVariants.{Installed, EndOfStack, FatalPhase1, FatalPhase2}
use Rattle.stack_steps.specs.Modules.{SpaceValue}
use Rattle.stack_deliver.specs.Delivering.{StartsValidChain}
use Rattle.stack_deliver.specs.StackDelivery.{DeliveryValue}
use Rattle.stack_deliver.specs.StateViews.{state_of, pair_of, outcome_of, delivery_shown}
use Rattle.generated_chains.specs.Caught.{IsCaught}
use Rattle.stack_snapshot.specs.Content.{Content, space_of}
use Rattle.stack_snapshot.specs.Described.{DescribesChain}

installed : (o : Outcome) → outcome_of o ≡ described.Installed → o ≡ Installed
installed Installed e = refl
installed EndOfStack e = absurd cc
installed FatalPhase1 e = absurd cc
installed FatalPhase2 e = absurd cc

pub record Counts (d : DeliveryValue) (count : ℕ) : Type 0 where
  pub frames : length d.visited ≡ count
  pub cleanups : length d.trail ≡ (count - 1) / 4
  pub outcome : d.outcome ≡ Installed

pub caught_counts : (d : DeliveryValue) (e : described.Delivery) (count : ℕ) → delivery_shown d ≡ e → IsCaught e count → Counts d count
caught_counts d e count shows is = record {
  frames = sym (length-map d.visited state_of) ∙ ap (λ (x : described.Delivery). length x.visited) shows ∙ is.visited;
  cleanups = sym (length-map d.trail pair_of) ∙ ap (λ (x : described.Delivery). length x.trail) shows ∙ is.cleanups;
  outcome = installed d.outcome (ap (λ (x : described.Delivery). x.outcome) shows ∙ is.outcome);
}

-- what a ledger counts from nothing on is no more than the steps are
pub few_probes : (count digits probes start new frames cleanups : ℕ) → start ≡ 0 → probes ≡ min new (2 ^ 64 - 1) → frames ≡ count → cleanups ≡ (count - 1) / 4 → new ≤ start + (2 * frames + cleanups) * digits → probes ≤ (2 * count + (count - 1) / 4) * digits
few_probes count digits probes start new frames cleanups none counted each some few =
    let most : new ≤ 0 + (2 * count + (count - 1) / 4) * digits = rw (none, each, some) at few in
    omega arith

-- a delivery starts as its snapshot says, over a space of the same memory and modules
pub starts_chain : (s : Content) (space : SpaceValue) (start : Context) (resumes : List (ℕ × ℕ)) (limit : ℕ) (functions : List Function) (state : State) (calls : List Call)
    → space.image ≡ (space_of s).image → space.modules ≡ (space_of s).modules → start ≡ s.start → resumes ≡ s.resumes → limit ≡ s.limit
    → DescribesChain s functions state calls → StartsValidChain space start resumes limit functions state calls
starts_chain s space start resumes limit functions state calls image modules at by most described = record {
  valid = rw (image, modules, at, by) described.valid;
  shorter = rw most described.shorter;
}
