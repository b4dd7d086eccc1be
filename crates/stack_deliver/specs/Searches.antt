-- How many contexts a delivery meets: the search meets those that it visits, and each pass those from its start outwards. At each
-- of them a description is searched once at most.
use Rattle.std.specs.Prelude.{◌≡◌, ℕ, zero, suc, ◌+◌, ◌^◌, ◌<◌, Bool, true, false, List, [], ◌∷◌, Option, Some, None, Result, Ok, Err}
use Rattle.unwind_arch.specs.declared.x86_64.Context.{Context}
use Rattle.fde_finders.specs.declared.custom.FrameInfoKind.TheVariants.{EhFrameHdr}
use Rattle.fde_finders.specs.Named.{pairs_by}
use Rattle.stack_steps.specs.declared.error.DeliverError.{DeliverError}
use Rattle.stack_steps.specs.declared.space.Module.{Module}
use Rattle.stack_steps.specs.declared.space.ModuleTables.TheVariants.{Elf}
use Rattle.fde_finders.specs.declared.custom.FrameInfo.{FrameInfo}
use Rattle.stack_steps.specs.Modules.{SpaceValue}
use Rattle.stack_steps.specs.Languages.{Languages, is_taken, rust_alone}
use Rattle.stack_walks.specs.FrameVisits.{Line, Stop, cleaning, mark_at, pass_of, searching}
use Rattle.stack_deliver.specs.Passes.{Cleanup, Finishes, PassEnd, cleanup_of, resume_at}
use Rattle.stack_deliver.specs.Resumes.{return_of}
use Rattle.stack_walks.specs.ContextsMet.{contexts_met}

-- ---- the passes

-- after a pass that enters a landing pad elsewhere than at the kept frame
abbrev pub met_after : Result PassEnd DeliverError → (ℕ → Context → ℕ) → ℕ
met_after (Ok (Finishes ending)) later = 0
met_after (Ok (Cleanup pad entered)) later = later pad entered
met_after (Err e) later = 0

-- from where the next pass starts
abbrev pub met_after_resume : Result Context DeliverError → (Context → ℕ) → ℕ
met_after_resume (Ok c) later = later c
met_after_resume (Err e) later = 0

module _ (languages : Languages) (space : SpaceValue) (exception kept : ℕ) (resumes : List (ℕ × ℕ)) (limit : ℕ) where
  -- By the passes from a context on toward the kept frame, where the trail has places for so many cleanups. A context that
  -- several passes come to is met by each of them.
  abbrev pub met_in_passes : ℕ → Context → ℕ
  met_in_passes zero c = contexts_met (Some (cleaning languages)) space limit c false
  met_in_passes (suc places) c =
      contexts_met (Some (cleaning languages)) space limit c false
      + met_after (cleanup_of languages space exception kept limit c)
      (λ pad entered. met_after_resume (resume_at pad entered (return_of resumes pad)) (met_in_passes places))

-- ---- a delivery

-- toward where the search stopped: nothing where the program ends there at once
abbrev pub met_toward : Bool → ℕ → ℕ
met_toward false passes = 0
met_toward true passes = passes

abbrev pub met_after_stop : Option Stop → (ℕ → ℕ) → ℕ
met_after_stop None passes = 0
met_after_stop (Some stop) passes = met_toward (is_taken stop.action) (passes (mark_at stop.context stop.interrupted))

-- after the search: nothing where it found no frame
abbrev pub met_after_search : Result Line DeliverError → (ℕ → ℕ) → ℕ
met_after_search (Ok line) passes = met_after_stop line.stop passes
met_after_search (Err e) passes = 0

-- By a delivery: by its search, and by its passes, where it comes to these.
unfoldable pub met_through : Languages → SpaceValue → Context → ℕ → List (ℕ × ℕ) → ℕ → ℕ
met_through languages space c exception resumes limit =
    contexts_met (Some (searching languages)) space limit c false
    + met_after_search (pass_of (searching languages) space limit c false)
    (λ kept. met_in_passes languages space exception kept resumes limit limit c)

abbrev pub met_in_delivery : SpaceValue → Context → ℕ → List (ℕ × ℕ) → ℕ → ℕ
met_in_delivery = met_through rust_alone

-- ---- one module

-- A space has one module, which names a header. The number of pairs of the header's table can be written with so many binary
-- digits.
pub record HasOneHeader (space : SpaceValue) (digits : ℕ) : Type 0 where
  pub holder : Module
  pub tables : FrameInfo
  pub header : ℕ
  pub one : space.modules ≡ holder ∷ []
  pub elf : holder.tables ≡ Elf tables
  pub names : tables.kind ≡ EhFrameHdr header
  pub pairs : pairs_by tables space.image < 2 ^ digits
