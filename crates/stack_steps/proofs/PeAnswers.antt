-- What a step in a PE module answers. `ElfAnswers` and `MachoAnswers` have the same of theirs.
use Rattle.std.proofs.Common.{◌≡◌, ℕ, ◌-◌, false, Option, Some, None, Result, Ok, Err, List, refl, sym, ap, subst, ◌∙◌}
use Rattle.std.specs.Result.{result_map_both}
use Rattle.memory_image.specs.Image.{Span, word_at}
use Rattle.unwind_definitions.specs.Caller as calls
use Rattle.unwind_arch.specs.declared.x86_64.Context.{Context}
use Rattle.unwind_arch.specs.ContextViews.{columns_of}
use Rattle.pe_unwind_info.specs.declared.x86_64.fault.FrameFault.TheVariants as pe
use Rattle.pe_unwind_info.specs.FunctionTable.{functions_of, lookup_of}
use Rattle.format_definitions.specs.PeImage.{PeModule, table_of}
use Rattle.format_definitions.specs.PeStep.{PeFault, NoTable, InFrame}
use Rattle.format_definitions.specs.PeStep as pe_steps
use Rattle.format_frames.specs.declared.machine.Stepped.{Stepped}
use Rattle.stack_steps.specs.declared.error.DeliverError.{DeliverError}
use Rattle.stack_steps.specs.declared.error.DeliverError.TheVariants.{Unmapped, PeInfo, ChainLimit}
use Rattle.stack_steps.specs.declared.space.Module.{Module}
use Rattle.stack_steps.specs.declared.space.PeTables.{PeTables}
use Rattle.stack_steps.specs.Frames.{next_with}
use Rattle.stack_steps.specs.Pe.{module_of, refusal, recorded_frame, frame, recorded_columns, stepped, SaysUnread, Ends, Reads, Unread, ChainsTooMany, Gives}
use Rattle.stack_steps.proofs.StepParts.{some_next, stepped_by}
use Rattle.stack_steps.proofs.Words.{pe_word}

-- ---- the end of the stack

always_recorded : (m : PeModule) (rva : ℕ) (o : Option (List ℕ)) → recorded_frame m rva o ≡ Ok None → ⊥
always_recorded m rva None e = absurd cc
always_recorded m rva (Some table) e = absurd cc

pub ends : (image : List Span) (m : Module) (tables : PeTables) (a : ℕ) → frame image a m tables ≡ Ok None → Ends image m tables a
ends image m tables a e = always_recorded (module_of m tables) (a - m.start) (table_of image (module_of m tables)) e

pub of_ends : (image : List Span) (m : Module) (tables : PeTables) (a : ℕ) → Ends image m tables a → frame image a m tables ≡ Ok None
of_ends image m tables a free = absurd free

-- ---- the step

abbrev some_recorded : calls.Columns → Option Stepped
some_recorded columns = Some (next_with false columns)

abbrev pub answer : Result calls.Columns PeFault → Result (Option Stepped) DeliverError
answer r = result_map_both some_recorded refusal r

next_is : (r : Result calls.Columns PeFault) → some_next (result_map_both (next_with false) refusal r) ≡ answer r
next_is (Ok columns) = refl
next_is (Err fault) = refl

-- it is the step that is defined for the format
pub is_defined : (image : List Span) (c : Context) (m : Module) (tables : PeTables) (a : ℕ) → stepped_by image c (frame image a m tables) ≡ answer (stepped image c m tables a)
is_defined image c m tables a = by_table (table_of image (module_of m tables))
  where
    by_table : (o : Option (List ℕ)) → stepped_by image c (recorded_frame (module_of m tables) (a - m.start) o) ≡ answer (pe_steps.stepped_by image (module_of m tables) (a - m.start) (columns_of c) o)
    by_table None = refl
    by_table (Some table) = next_is (recorded_columns image c (module_of m tables) (a - m.start) (lookup_of (functions_of table) (a - m.start)))

-- ---- what it answers

fails : (r : Result calls.Columns PeFault) (e : DeliverError) → answer r ≡ Err e → (f : PeFault) × (r ≡ Err f) × (refusal f ≡ e)
fails (Ok columns) e h = absurd cc
fails (Err f) e h = (f, refl, cc)

abbrev failed : PeFault → Result calls.Columns PeFault
failed f = Err f

unmapped : (f : PeFault) (b : ℕ) → refusal f ≡ Unmapped b → f ≡ InFrame (pe.Stack b)
unmapped NoTable b h = absurd cc
unmapped (InFrame (pe.Memory rva)) b h = absurd cc
unmapped (InFrame (pe.Info rva)) b h = absurd cc
unmapped (InFrame pe.EpilogBytes) b h = absurd cc
unmapped (InFrame (pe.Stack a)) b h = cc
unmapped (InFrame pe.ChainLimit) b h = absurd cc

says_unread : (f : PeFault) → refusal f ≡ PeInfo → SaysUnread f
says_unread NoTable h = tt
says_unread (InFrame (pe.Memory rva)) h = tt
says_unread (InFrame (pe.Info rva)) h = tt
says_unread (InFrame pe.EpilogBytes) h = tt
says_unread (InFrame (pe.Stack a)) h = absurd cc
says_unread (InFrame pe.ChainLimit) h = absurd cc

of_says_unread : (f : PeFault) → SaysUnread f → refusal f ≡ PeInfo
of_says_unread NoTable says = refl
of_says_unread (InFrame (pe.Memory rva)) says = refl
of_says_unread (InFrame (pe.Info rva)) says = refl
of_says_unread (InFrame pe.EpilogBytes) says = refl
of_says_unread (InFrame (pe.Stack a)) says = absurd says
of_says_unread (InFrame pe.ChainLimit) says = absurd says

limit : (f : PeFault) → refusal f ≡ ChainLimit → f ≡ InFrame pe.ChainLimit
limit NoTable h = absurd cc
limit (InFrame (pe.Memory rva)) h = absurd cc
limit (InFrame (pe.Info rva)) h = absurd cc
limit (InFrame pe.EpilogBytes) h = absurd cc
limit (InFrame (pe.Stack a)) h = absurd cc
limit (InFrame pe.ChainLimit) h = refl

-- no other error is one of a PE module
abbrev pub IsOf : DeliverError → Type 0
IsOf (Unmapped b) = Unit {0}
IsOf PeInfo = Unit {0}
IsOf ChainLimit = Unit {0}
IsOf _ = ⊥

of_refusal : (f : PeFault) (e : DeliverError) → refusal f ≡ e → IsOf e
of_refusal NoTable e h = subst IsOf h tt
of_refusal (InFrame (pe.Memory rva)) e h = subst IsOf h tt
of_refusal (InFrame (pe.Info rva)) e h = subst IsOf h tt
of_refusal (InFrame pe.EpilogBytes) e h = subst IsOf h tt
of_refusal (InFrame (pe.Stack a)) e h = subst IsOf h tt
of_refusal (InFrame pe.ChainLimit) e h = subst IsOf h tt

goes : (r : Result calls.Columns PeFault) (next : Stepped) → answer r ≡ Ok (Some next) → (columns : calls.Columns) × (r ≡ Ok columns) × (next ≡ next_with false columns)
goes (Ok columns) next h = (columns, refl, cc)
goes (Err f) next h = absurd cc

module _ (image : List Span) (c : Context) (m : Module) (tables : PeTables) (a : ℕ) where
  abbrev pub step : Result (Option Stepped) DeliverError
  step = stepped_by image c (frame image a m tables)

  error : (e : DeliverError) → step ≡ Err e → (f : PeFault) × (stepped image c m tables a ≡ Err f) × (refusal f ≡ e)
  error e is = fails (stepped image c m tables a) e (sym (is_defined image c m tables a) ∙ is)

  of_error : (f : PeFault) → stepped image c m tables a ≡ Err f → step ≡ Err (refusal f)
  of_error f is = is_defined image c m tables a ∙ ap answer is

  pub reads : (b : ℕ) → step ≡ Err (Unmapped b) → Reads image c m tables a b
  reads b is = let f = error (Unmapped b) is in f.1 ∙ ap failed (unmapped f.0 b f.2)

  pub of_reads : (b : ℕ) → Reads image c m tables a b → step ≡ Err (Unmapped b)
  of_reads b at = of_error (InFrame (pe.Stack b)) at

  pub unread : step ≡ Err PeInfo → Unread image c m tables a
  unread is = let f = error PeInfo is in (f.0, says_unread f.0 f.2, f.1)

  abbrev failed_by : DeliverError → Result (Option Stepped) DeliverError
  failed_by e = Err e

  pub of_unread : Unread image c m tables a → step ≡ Err PeInfo
  of_unread at = of_error at.0 at.2 ∙ ap failed_by (of_says_unread at.0 at.1)

  pub too_many : step ≡ Err ChainLimit → ChainsTooMany image c m tables a
  too_many is = let f = error ChainLimit is in f.1 ∙ ap failed (limit f.0 f.2)

  pub of_too_many : ChainsTooMany image c m tables a → step ≡ Err ChainLimit
  of_too_many at = of_error (InFrame pe.ChainLimit) at

  pub gives : (next : Stepped) → step ≡ Ok (Some next) → Gives image c m tables a next
  gives next is =
      let g = goes (stepped image c m tables a) next (sym (is_defined image c m tables a) ∙ is) in
      record { columns = g.0; steps = g.1; is = g.2 }

  pub of_gives : (next : Stepped) → Gives image c m tables a next → step ≡ Ok (Some next)
  of_gives next at = is_defined image c m tables a ∙ ap answer at.steps ∙ rw at.is refl

  pub only : (e : DeliverError) → step ≡ Err e → IsOf e
  only e is = let f = error e is in of_refusal f.0 e f.2

  -- what isn't mapped
  pub word : (b : ℕ) → Reads image c m tables a b → word_at image b ≡ None
  word b at = pe_word image (module_of m tables) (a - m.start) (columns_of c) b at
