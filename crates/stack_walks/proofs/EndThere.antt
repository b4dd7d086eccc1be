-- Each walk goes no further for some reason.
use Rattle.std.proofs.Common.{inl, inr, ◌≡◌, ◌≢◌, ℕ, Bool, List, Option, Some, None, Result, Ok, Err, refl, sym, ◌∙◌, subst}
use Rattle.std.specs.Prelude.{◌⊎◌}
use Rattle.unwind_definitions.specs.declared.error.Error.{Error as Fault}
use Rattle.unwind_definitions.specs.Input.{Input}
use Rattle.unwind_definitions.specs.Pointers.{Bases}
use Rattle.unwind_definitions.specs.LanguageTable.{input_at}
use Rattle.unwind_definitions.specs.LanguageSearch.{address_of_call}
use Rattle.unwind_definitions.specs.Scan.{scan}
use Rattle.unwind_arch.specs.declared.x86_64.Context.{Context}
use Rattle.eh_frame.proofs.Searching.{Comes, scan_comes}
use Rattle.fde_finders.specs.declared.custom.FrameInfoKind.{FrameInfoKind}
use Rattle.fde_finders.specs.declared.custom.FrameInfoKind.TheVariants.{EhFrame, EhFrameHdr}
use Rattle.fde_finders.specs.Finding.{table_bases}
use Rattle.format_frames.specs.declared.machine.Stepped.{Stepped}
use Rattle.stack_steps.specs.declared.error.DeliverError.{DeliverError}
use Rattle.stack_steps.specs.declared.error.DeliverError.TheVariants.{NoMemory, Unmapped, FrameLimit, PassLimit, NoResume, Table, MachO, CompactForm, PeInfo, ChainLimit}
use Rattle.stack_steps.specs.declared.space.Module.{Module}
use Rattle.stack_steps.specs.declared.space.ModuleTables.{ModuleTables}
use Rattle.stack_steps.specs.declared.space.ModuleTables.TheVariants.{Elf, Macho, Pe}
use Rattle.stack_steps.specs.Modules.{SpaceValue, module_at}
use Rattle.stack_steps.specs.Stepping.{step_of, FindsNoneIn, HasNoDescription, EndsAt}
use Rattle.stack_steps.specs.Elf.{FindsNone}
use Rattle.stack_steps.proofs.StepAnswers.{step_ends}
use Rattle.stack_walks.specs.declared.walk_end.EndReason.{EndReason}
use Rattle.stack_walks.specs.declared.walk_end.EndReason.TheVariants.{Outermost, NoModule, NoDescription, UnreadableTable, Refused, Limit}
use Rattle.stack_walks.specs.Lines.{line_of}
use Rattle.stack_walks.specs.WalkEnds.{reached_by, caller_from, start_state, IsUndescribedIn, IsUndescribed, IsUnknownIn, IsUnknown, EndsFor, ComesTo}
use Rattle.stack_walks.proofs.LineAnswers.{line_limit}
use Rattle.stack_walks.proofs.EndAnswers.{line_ended, line_failed, comes}

-- ---- why the stack ends

module _ (space : SpaceValue) (c : Context) (interrupted : Bool) where
  -- nothing is known of the address asked, for a reason
  abbrev Unframed : EndReason → Type 0
  Unframed why = (c.ra ≢ 0) × (step_of space c interrupted ≡ Ok None) ×
      IsUnknown space.image (module_at space.modules (address_of_call c.ra interrupted)) (address_of_call c.ra interrupted) why

  -- a reason, which ends a walk where nothing is known
  abbrev Reason : (EndReason → Type 0) → Type 0
  Reason P = (why : EndReason) × P why × (Unframed why → EndsFor why space c interrupted)

  of_table : (bases : Bases) (table : Input) (start : table.offset ≡ 0) (a : ℕ) (e : Fault) → scan bases table a ≡ Err e → Reason (IsUndescribedIn bases table a)
  of_table bases table start a e is = go (subst (Comes bases table a start 0) is (scan_comes bases table a start))
    where
      go : Comes bases table a start 0 (Err e) → Reason (IsUndescribedIn bases table a)
      go (inl unread) = (UnreadableTable a unread.offset e, (refl, (unread, refl)), λ u. u)
      go (inr none) = (NoDescription a, (refl, none.1), λ u. u)

  of_kind : (text : Option ℕ) (kind : FrameInfoKind) (a : ℕ) → FindsNone space.image text kind a → Reason (IsUndescribed space.image text kind a)
  of_kind text (EhFrame frame) a none = of_table (table_bases text frame) (input_at space.image frame) refl a none.0 none.1
  of_kind text (EhFrameHdr header) a none = (NoDescription a, (refl, none), λ u. u)

  of_tables : (m : Module) (tables : ModuleTables) (a : ℕ) → FindsNoneIn space.image m tables a → Reason (IsUnknownIn space.image m tables a)
  of_tables m (Elf tables) a none = of_kind tables.text_base tables.kind a none
  of_tables m (Macho tables) a none = (NoDescription a, (refl, none), λ u. u)
  of_tables m (Pe tables) a none = absurd none

  of_module : (o : Option Module) (a : ℕ) → HasNoDescription space.image o a → Reason (IsUnknown space.image o a)
  of_module None a none = (NoModule a, refl, λ u. u)
  of_module (Some m) a none = of_tables m m.tables a none

  -- a context without a frame is the last for a reason
  pub ended : step_of space c interrupted ≡ Ok None → (why : EndReason) × EndsFor why space c interrupted
  ended is = go (step_ends space c interrupted is)
    where
      go : EndsAt space c interrupted → (why : EndReason) × EndsFor why space c interrupted
      go (inl outermost) = (Outermost, outermost)
      go (inr u) = let reason = of_module (module_at space.modules (address_of_call c.ra interrupted)) (address_of_call c.ra interrupted) u.1 in (reason.0, reason.2 (u.0, is, reason.1))

-- ---- why a walk ends

limit_or_not : (e : DeliverError) → (e ≡ FrameLimit) ⊎ (e ≢ FrameLimit)
limit_or_not FrameLimit = inl refl
limit_or_not NoMemory = inr (λ h. cc)
limit_or_not (Unmapped a) = inr (λ h. cc)
limit_or_not PassLimit = inr (λ h. cc)
limit_or_not (NoResume pad) = inr (λ h. cc)
limit_or_not (Table e) = inr (λ h. cc)
limit_or_not (MachO e) = inr (λ h. cc)
limit_or_not CompactForm = inr (λ h. cc)
limit_or_not PeInfo = inr (λ h. cc)
limit_or_not ChainLimit = inr (λ h. cc)

module _ (space : SpaceValue) (limit : ℕ) (c : Context) (interrupted : Bool) where
  abbrev last : Stepped
  last = (reached_by (caller_from space) limit (start_state c interrupted)).state

  abbrev Line : Type 0
  Line = Result (List Context) DeliverError

  not_limit : (cs : List Context) → line_of space limit c interrupted ≡ Ok cs → line_of space limit c interrupted ≢ Err FrameLimit
  not_limit cs is met = let bad : ◌≡◌ {A = Line} (Ok cs) (Err FrameLimit) = sym is ∙ met in cc

  other_fault : (e : DeliverError) → e ≢ FrameLimit → line_of space limit c interrupted ≡ Err e → line_of space limit c interrupted ≢ Err FrameLimit
  other_fault e other is met = let both : ◌≡◌ {A = Line} (Err e) (Err FrameLimit) = sym is ∙ met in let same : e ≡ FrameLimit = cc in other same

  pub end_there : (why : EndReason) × ComesTo why space limit c interrupted
  end_there = go (line_of space limit c interrupted) refl
    where
      go : (r : Line) → line_of space limit c interrupted ≡ r → (why : EndReason) × ComesTo why space limit c interrupted
      go (Ok cs) is =
          let end = ended space last.context last.signal (line_ended space limit (start_state c interrupted) cs is) in
          (end.0, comes end.0 space limit (start_state c interrupted) (not_limit cs is) end.1)
      go (Err e) is = elim (limit_or_not e) as (λ t. (why : EndReason) × ComesTo why space limit c interrupted) [
        | inl met ↦ (Limit, line_limit space limit c interrupted (rw (← met) is))
        | inr other ↦
            let a = address_of_call last.context.ra last.signal in
            (Refused a e, comes (Refused a e) space limit (start_state c interrupted) (other_fault e other is) (refl, line_failed space limit (start_state c interrupted) e other is))
      ]
