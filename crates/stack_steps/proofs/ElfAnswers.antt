-- What a step in an ELF module answers. `MachoAnswers` and `PeAnswers` have the same of theirs.
use Rattle.std.proofs.Common.{inl, inr, ◌≡◌, ℕ, Bool, Option, Some, None, Result, Ok, Err, List, refl, sym, ap, subst, ◌∙◌}
use Rattle.std.specs.Prelude.{◌⊎◌}
use Rattle.std.specs.Result.{result_map_both}
use Rattle.memory_image.specs.Image.{Span, word_at}
use Rattle.unwind_definitions.specs.declared.error.Error.{Error as Fault}
use Rattle.unwind_definitions.specs.Input.{Input}
use Rattle.unwind_definitions.specs.Pointers as pointers
use Rattle.unwind_definitions.specs.Row.{RowInstructions, row_at}
use Rattle.unwind_definitions.specs.Entries.{Fde}
use Rattle.unwind_definitions.specs.Scan.{scan}
use Rattle.unwind_definitions.specs.LanguageTable.{input_at}
use Rattle.unwind_definitions.specs.Caller as calls
use Rattle.unwind_definitions.specs.Expressions.{evaluation}
use Rattle.unwind_arch.specs.declared.x86_64.Context.{Context}
use Rattle.unwind_arch.specs.ContextViews.{columns_of}
use Rattle.fde_finders.specs.declared.custom.FrameInfo.{FrameInfo}
use Rattle.fde_finders.specs.declared.custom.FrameInfoKind.{FrameInfoKind}
use Rattle.fde_finders.specs.declared.custom.FrameInfoKind.TheVariants.{EhFrame, EhFrameHdr}
use Rattle.fde_finders.specs.Finding.{FoundFde, table_bases, found_in}
use Rattle.fde_finders.specs.Named.{found_by_kind, found_by}
use Rattle.format_frames.specs.declared.machine.Stepped.{Stepped}
use Rattle.stack_steps.specs.declared.error.DeliverError.{DeliverError}
use Rattle.stack_steps.specs.declared.error.DeliverError.TheVariants.{Unmapped, Table}
use Rattle.stack_steps.specs.Frames.{FrameAt, DescribedFrame, Described, next_with, refusal_of}
use Rattle.stack_steps.specs.Elf.{frame, frame_with, frame_by, caller, FindsNone, Ends, RowFaults, Faults, Reads, Gives}
use Rattle.stack_steps.specs.Stepping.{caller_by}
use Rattle.stack_steps.proofs.RowReads.{unmapped_caller, caller_is_unmapped, reads_no_word}
use Rattle.stack_steps.proofs.StepParts.{stepped_by, fails_parts, goes_parts}

-- ---- the end of the stack

-- there is no frame where nothing is found
pub none_found : (a : ℕ) (o : Option FoundFde) → frame_by a o ≡ Ok None → o ≡ None
none_found a None e = refl
none_found a (Some found) e = absurd (never (row_at found.bases found.fde a) e)
  where
    never : (r : Result RowInstructions Fault) → result_map_both (frame_with found) Table r ≡ Ok None → ⊥
    never (Ok run) h = absurd cc
    never (Err x) h = absurd cc

-- a scan that leads to nothing has a fault
none_scanned : (bases : pointers.Bases) (table : Input) (r : Result Fde Fault) → found_in bases table r ≡ None → (x : Fault) × (r ≡ Err x)
none_scanned bases table (Ok fde) e = absurd cc
none_scanned bases table (Err x) e = (x, refl)

none_by_kind : (image : List Span) (text : Option ℕ) (kind : FrameInfoKind) (a : ℕ) → found_by_kind text kind image a ≡ None → FindsNone image text kind a
none_by_kind image text (EhFrame frame) a e = none_scanned (table_bases text frame) (input_at image frame) (scan (table_bases text frame) (input_at image frame) a) e
none_by_kind image text (EhFrameHdr header) a e = e

by_kind_none : (image : List Span) (text : Option ℕ) (kind : FrameInfoKind) (a : ℕ) → FindsNone image text kind a → found_by_kind text kind image a ≡ None
by_kind_none image text (EhFrame frame) a free = rw free.1 refl
by_kind_none image text (EhFrameHdr header) a free = free

pub ends : (image : List Span) (tables : FrameInfo) (a : ℕ) → frame image a tables ≡ Ok None → Ends image tables a
ends image tables a e = none_by_kind image tables.text_base tables.kind a (none_found a (found_by tables image a) e)

pub of_ends : (image : List Span) (tables : FrameInfo) (a : ℕ) → Ends image tables a → frame image a tables ≡ Ok None
of_ends image tables a free = rw (by_kind_none image tables.text_base tables.kind a free) refl

-- ---- a frame by a description, and its caller

-- a frame is refused for its row alone
by_row : (a : ℕ) (o : Option FoundFde) (e : DeliverError) → frame_by a o ≡ Err e → (found : FoundFde) × (x : Fault) × (o ≡ Some found) × (row_at found.bases found.fde a ≡ Err x) × (e ≡ Table x)
by_row a None e is = absurd cc
by_row a (Some found) e is = go (row_at found.bases found.fde a) refl is
  where
    go : (r : Result RowInstructions Fault) → row_at found.bases found.fde a ≡ r → result_map_both (frame_with found) Table r ≡ Err e →
        (g : FoundFde) × (x : Fault) × (Some found ≡ Some g) × (row_at g.bases g.fde a ≡ Err x) × (e ≡ Table x)
    go (Ok run) row h = absurd cc
    go (Err x) row h = (found, x, refl, row, cc)

-- a frame is what is found, with its row
with_row : (a : ℕ) (o : Option FoundFde) (f : FrameAt) → frame_by a o ≡ Ok (Some f) → (found : FoundFde) × (run : RowInstructions) × (o ≡ Some found) × (row_at found.bases found.fde a ≡ Ok run) × (f ≡ Described (record { found = found; run = run }))
with_row a None f is = absurd cc
with_row a (Some found) f is = go (row_at found.bases found.fde a) refl is
  where
    go : (r : Result RowInstructions Fault) → row_at found.bases found.fde a ≡ r → result_map_both (frame_with found) Table r ≡ Ok (Some f) →
        (g : FoundFde) × (run : RowInstructions) × (Some found ≡ Some g) × (row_at g.bases g.fde a ≡ Ok run) × (f ≡ Described (record { found = g; run = run }))
    go (Ok run) row h = (found, run, refl, row, cc)
    go (Err x) row h = absurd cc

abbrev caller_columns : List Span → Context → DescribedFrame → Result calls.Columns calls.StepFault
caller_columns image c f = calls.caller_of calls.x86_64 (evaluation image) image (columns_of c) f.run

caller_unmapped : (image : List Span) (c : Context) (f : DescribedFrame) (b : ℕ) → caller image c f ≡ Err (Unmapped b) → caller_columns image c f ≡ Err (calls.Unmapped b)
caller_unmapped image c f b e = go (caller_columns image c f) e
  where
    go : (r : Result calls.Columns calls.StepFault) → result_map_both (next_with f.found.fde.cie.letters.signal) refusal_of r ≡ Err (Unmapped b) → r ≡ Err (calls.Unmapped b)
    go (Ok columns) h = absurd cc
    go (Err (calls.Table x)) h = absurd cc
    go (Err (calls.Unmapped a)) h = cc

caller_faults : (image : List Span) (c : Context) (f : DescribedFrame) (e : Fault) → caller image c f ≡ Err (Table e) → caller_columns image c f ≡ Err (calls.Table e)
caller_faults image c f e is = go (caller_columns image c f) is
  where
    go : (r : Result calls.Columns calls.StepFault) → result_map_both (next_with f.found.fde.cie.letters.signal) refusal_of r ≡ Err (Table e) → r ≡ Err (calls.Table e)
    go (Ok columns) h = absurd cc
    go (Err (calls.Table x)) h = cc
    go (Err (calls.Unmapped a)) h = absurd cc

-- the columns of that caller
pub record Goes (image : List Span) (c : Context) (f : DescribedFrame) (next : Stepped) : Type 0 where
  pub columns : calls.Columns
  pub caller : calls.caller_of calls.x86_64 (evaluation image) image (columns_of c) f.run ≡ Ok columns
  pub is : next ≡ next_with f.found.fde.cie.letters.signal columns

caller_goes : (image : List Span) (c : Context) (f : DescribedFrame) (next : Stepped) → caller image c f ≡ Ok next → Goes image c f next
caller_goes image c f next e = go (caller_columns image c f) refl e
  where
    go : (r : Result calls.Columns calls.StepFault) → caller_columns image c f ≡ r → result_map_both (next_with f.found.fde.cie.letters.signal) refusal_of r ≡ Ok next → Goes image c f next
    go (Ok columns) caller h = record { columns = columns; caller = caller; is = cc }
    go (Err x) caller h = absurd cc

-- ---- the step

-- no other error is one of an ELF module
abbrev pub IsOf : DeliverError → Type 0
IsOf (Table e) = Unit {0}
IsOf (Unmapped b) = Unit {0}
IsOf _ = ⊥

module _ (image : List Span) (c : Context) (tables : FrameInfo) (a : ℕ) where
  abbrev pub step : Result (Option Stepped) DeliverError
  step = stepped_by image c (frame_by a (found_by tables image a))

  of_frame : (f : FrameAt) (found : FoundFde) (run : RowInstructions) (r : Result Stepped DeliverError) → f ≡ Described (record { found = found; run = run }) → caller_by image c f ≡ r → caller image c (record { found = found; run = run }) ≡ r
  of_frame f found run r is called = sym (ap (caller_by image c) is) ∙ called

  pub reads : (b : ℕ) → step ≡ Err (Unmapped b) → Reads image c tables a b
  reads b e = go (fails_parts image c (frame_by a (found_by tables image a)) (Unmapped b) e)
    where
      go : (frame_by a (found_by tables image a) ≡ Err (Unmapped b)) ⊎ ((f : FrameAt) × (frame_by a (found_by tables image a) ≡ Ok (Some f)) × (caller_by image c f ≡ Err (Unmapped b))) → Reads image c tables a b
      go (inl row) =
          let fault = by_row a (found_by tables image a) (Unmapped b) row in
          let is : Unmapped b ≡ Table fault.1 = fault.4 in absurd cc
      go (inr left) =
          let row = with_row a (found_by tables image a) left.0 left.1 in
          let f : DescribedFrame = record { found = row.0; run = row.1 } in
          let called : caller image c f ≡ Err (Unmapped b) = of_frame left.0 row.0 row.1 (Err (Unmapped b)) row.4 left.2 in
          record { found = row.0; finds = row.2; run = row.1; row = row.3; reads = unmapped_caller image (columns_of c) row.1 b (caller_unmapped image c f b called) }

  pub of_reads : (b : ℕ) → Reads image c tables a b → step ≡ Err (Unmapped b)
  of_reads b at = rw (at.finds, at.row, caller_is_unmapped image (columns_of c) at.run b at.reads) refl

  pub faults : (e : Fault) → step ≡ Err (Table e) → Faults image c tables a e
  faults e is = go (fails_parts image c (frame_by a (found_by tables image a)) (Table e) is)
    where
      go : (frame_by a (found_by tables image a) ≡ Err (Table e)) ⊎ ((f : FrameAt) × (frame_by a (found_by tables image a) ≡ Ok (Some f)) × (caller_by image c f ≡ Err (Table e))) → Faults image c tables a e
      go (inl row) =
          let fault = by_row a (found_by tables image a) (Table e) row in
          let same : fault.1 ≡ e = let f : Table e ≡ Table fault.1 = fault.4 in cc in
          record { found = fault.0; finds = fault.2; fault = rw fault.3 same }
      go (inr left) =
          let row = with_row a (found_by tables image a) left.0 left.1 in
          let f : DescribedFrame = record { found = row.0; run = row.1 } in
          let called : caller image c f ≡ Err (Table e) = of_frame left.0 row.0 row.1 (Err (Table e)) row.4 left.2 in
          record { found = row.0; finds = row.2; fault = rw row.3 (caller_faults image c f e called) }

  pub of_faults : (e : Fault) → Faults image c tables a e → step ≡ Err (Table e)
  of_faults e faults = go (row_at faults.found.bases faults.found.fde a) refl faults.fault
    where
      go : (r : Result RowInstructions Fault) → row_at faults.found.bases faults.found.fde a ≡ r → RowFaults image c r e → step ≡ Err (Table e)
      go (Ok run) row fault = rw (faults.finds, row, fault) refl
      go (Err x) row fault = rw (faults.finds, row, fault) refl

  pub gives : (next : Stepped) → step ≡ Ok (Some next) → Gives image c tables a next
  gives next is =
      let at = goes_parts image c (frame_by a (found_by tables image a)) next is in
      let row = with_row a (found_by tables image a) at.0 at.1 in
      let f : DescribedFrame = record { found = row.0; run = row.1 } in
      let goes = caller_goes image c f next (of_frame at.0 row.0 row.1 (Ok next) row.4 at.2) in
      record { found = row.0; finds = row.2; run = row.1; row = row.3; columns = goes.columns; caller = goes.caller; is = goes.is }

  pub of_gives : (next : Stepped) → Gives image c tables a next → step ≡ Ok (Some next)
  of_gives next at = rw (at.finds, at.row, at.caller, at.is) refl

  pub only : (e : DeliverError) → step ≡ Err e → IsOf e
  only e is = go (fails_parts image c (frame_by a (found_by tables image a)) e is)
    where
      refused : (r : Result calls.Columns calls.StepFault) (signal : Bool) → result_map_both (next_with signal) refusal_of r ≡ Err e → IsOf e
      refused (Ok columns) signal h = absurd cc
      refused (Err (calls.Table x)) signal h = let same : Table x ≡ e = cc in subst IsOf same tt
      refused (Err (calls.Unmapped b)) signal h = let same : Unmapped b ≡ e = cc in subst IsOf same tt

      go : (frame_by a (found_by tables image a) ≡ Err e) ⊎ ((f : FrameAt) × (frame_by a (found_by tables image a) ≡ Ok (Some f)) × (caller_by image c f ≡ Err e)) → IsOf e
      go (inl row) = let fault = by_row a (found_by tables image a) e row in subst IsOf (sym fault.4) tt
      go (inr left) =
          let row = with_row a (found_by tables image a) left.0 left.1 in
          let f : DescribedFrame = record { found = row.0; run = row.1 } in
          refused (caller_columns image c f) row.0.fde.cie.letters.signal (of_frame left.0 row.0 row.1 (Err e) row.4 left.2)

  -- what isn't mapped
  pub word : (b : ℕ) → Reads image c tables a b → word_at image b ≡ None
  word b at = reads_no_word image (columns_of c) at.run b at.reads
