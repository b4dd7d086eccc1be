-- A space of which nothing changes but the indexes of its modules, and what is delivered over it.
use Rattle.std.proofs.Common.{◌≡◌, ◌≢◌, ◌∙◌, ℕ, Bool, true, false, List, Option, Some, None, Result, Ok, Err, refl, ap, subst}
use Rattle.std.specs.Prelude.{IfSome}
use Rattle.std.specs.declared.alloc.AllocError.{AllocError}
use Rattle.unwind_arch.specs.declared.x86_64.Context.{Context}
use Rattle.stack_steps.specs.declared.error.DeliverError.{DeliverError}
use Rattle.stack_steps.specs.Languages.{Languages}
use Rattle.stack_steps.specs.Modules.{SpaceValue}
use Rattle.stack_steps.specs.Preparing.{ChangesIndexes, PreparesAt}
use Rattle.stack_walks.specs.Lines.{GivesUnlessNoMemory}
use Rattle.stack_deliver.specs.StackDelivery.{DeliveryValue, delivery_through}
use Rattle.delivery_laws.proofs.SameAnswers.{delivery_same}

pub same_indexes : (space : SpaceValue) → ChangesIndexes space space
same_indexes space = (space.added, refl)

pub kept_indexes : (old new : SpaceValue) → new ≡ old → ChangesIndexes old new
kept_indexes old new is = (old.added, is)

pub changes_after : (old between new : SpaceValue) → ChangesIndexes old between → ChangesIndexes between new → ChangesIndexes old new
changes_after old between new first second = (second.0, second.1 ∙ ap (λ (space : SpaceValue). record space { added = second.0 }) first.1)

pub changed_at : (old new : SpaceValue) (address : ℕ) (prepared : Result Bool AllocError) → (prepared ≡ Ok true → PreparesAt old address new) → (prepared ≢ Ok true → new ≡ old) → ChangesIndexes old new
changed_at old new address (Ok true) prepares unchanged = let at = prepares refl in (_, at.is)
changed_at old new address (Ok false) prepares unchanged = kept_indexes old new (unchanged (λ e. cc))
changed_at old new address (Err error) prepares unchanged = kept_indexes old new (unchanged (λ e. cc))

pub delivered_before : (languages : Languages) (old new : SpaceValue) (c : Context) (exception : ℕ) (resumes : List (ℕ × ℕ)) (limit : ℕ) (result : Result DeliveryValue DeliverError) → ChangesIndexes old new → GivesUnlessNoMemory result (delivery_through languages new c exception resumes limit) →
    GivesUnlessNoMemory result (delivery_through languages old c exception resumes limit)
delivered_before languages old new c exception resumes limit result changes given =
    subst (λ (due : Result DeliveryValue DeliverError). GivesUnlessNoMemory result due)
    (ap (λ (space : SpaceValue). delivery_through languages space c exception resumes limit) changes.1 ∙ delivery_same old changes.0 languages c exception resumes limit) given

pub some_before : (languages : Languages) (old new : SpaceValue) (c : Context) (exception : ℕ) (resumes : List (ℕ × ℕ)) (limit : ℕ) (o : Option (Result DeliveryValue DeliverError)) → ChangesIndexes old new →
    IfSome o (λ result. GivesUnlessNoMemory result (delivery_through languages new c exception resumes limit)) → IfSome o (λ result. GivesUnlessNoMemory result (delivery_through languages old c exception resumes limit))
some_before languages old new c exception resumes limit None changes given = tt
some_before languages old new c exception resumes limit (Some result) changes given = delivered_before languages old new c exception resumes limit result changes given
