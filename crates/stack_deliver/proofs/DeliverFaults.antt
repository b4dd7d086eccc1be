-- What a delivery's errors are: faults of steps, unmapped words, and limits.
use Rattle.std.proofs.Common.{◌≡◌, ◌≢◌, ℕ, zero, suc, Bool, true, false, cond, List, Option, Some, None, Result, Ok, Err, refl, ap, subst, ◌∙◌}
use Rattle.std.specs.Option.{option_map, option_map_or}
use Rattle.memory_image.specs.Image.{Span, word_at}
use Rattle.memory_image.specs.Results.{result_map}
use Rattle.unwind_definitions.specs.Pointers.{Pointer, Direct, Indirect}
use Rattle.unwind_definitions.specs.LanguageSearch as tables
use Rattle.unwind_definitions.specs.Caller as calls
use Rattle.unwind_arch.specs.declared.x86_64.Context.{Context}
use Rattle.fde_finders.specs.Finding.{FoundFde}
use Rattle.std.specs.Result.{result_map_both}
use Rattle.pe_unwind_info.specs.declared.x86_64.fault.FrameFault.{FrameFault}
use Rattle.pe_unwind_info.specs.declared.x86_64.fault.FrameFault.TheVariants as pe
use Rattle.pe_unwind_info.specs.declared.x86_64.function_table.RuntimeFunction.{RuntimeFunction}
use Rattle.pe_unwind_info.specs.Frame.{chained_of, info_in, info_or}
use Rattle.pe_unwind_info.specs.FrameOf.{Image}
use Rattle.pe_unwind_info.specs.Info.{Info, parsed_info}
use Rattle.format_definitions.specs.PeImage.{PeModule, memory_of}
use Rattle.macho_unwind_info.specs.declared.error.Error.{Error}
use Rattle.pe_unwind_info.specs.declared.x86_64.handler.Handler.{Handler}
use Rattle.pe_unwind_info.specs.Handlers.{OwnRecord, handler_named, handler_or_fault, handler_if_named, with_own, then_records, records_of, first_naming, handler_among}
use Rattle.format_frames.specs.Handlers.{macho_place, handler_place, pe_place}
use Rattle.format_frames.specs.declared.machine.Stepped.{Stepped}
use Rattle.stack_walks.specs.declared.room.Trail.{Trail}
use Rattle.stack_steps.specs.declared.error.DeliverError.{DeliverError}
use Rattle.stack_steps.specs.declared.error.DeliverError.TheVariants.{NoMemory, Unmapped, FrameLimit, PassLimit, NoResume, Table, MachO, CompactForm, PeInfo, ChainLimit}
use Rattle.stack_steps.specs.declared.asking.FrameAction.{FrameAction}
use Rattle.stack_steps.specs.Languages.{Languages, asks_if_named, frame_asks, is_taken, routine_of}
use Rattle.stack_steps.specs.Modules.{SpaceValue}
use Rattle.stack_deliver.specs.Resumes.{return_of}
use Rattle.stack_steps.specs.Stepping.{step_of, frame_of, caller_by}
use Rattle.stack_steps.specs.Frames.{refusal_of, FrameAt, Described, Compact, Recorded}
use Rattle.stack_steps.specs.Macho.{compact_table}
use Rattle.stack_steps.specs.Elf.{table as described_table, table_if_named}
use Rattle.stack_steps.specs.Asking.{named_table}
use Rattle.stack_steps.specs.Pe.{recorded_table}
use Rattle.stack_walks.specs.FrameVisits.{Pass, cleaning, searching, visit_at, stops, FrameVisit, Ends, Stops, Goes, visit_of, Line, with_context, line_visit, pass_of, mark_at, Stop, visit_for}
use Rattle.stack_deliver.specs.Passes.{PassEnd, Finishes, Cleanup, end_of, cleanup_of, cleanup_at, resume_at, CleanupsRun, with_cleanup, cleanup_and_rest, after_pass, passes_of}
use Rattle.stack_deliver.specs.StackDelivery.{delivery_after, delivery_at, delivery_to, delivery_by, delivery_through}
use Rattle.stack_steps.proofs.StepParts.{some_next, stepped_by, step_is}
use Rattle.stack_deliver.proofs.VisitParts.{goes, visit_asked, visit_by}
use Rattle.stack_walks.proofs.LineAnswers.{IsStepFault, OnStepFault, step_faults}
use Rattle.stack_steps.proofs.StepAnswers.{step_unmapped}

-- an error of a delivery, but out of memory; an unmapped word isn't mapped
abbrev pub IsCause : List Span → DeliverError → Type 0
IsCause image NoMemory = ⊥
IsCause image (Unmapped a) = word_at image a ≡ None
IsCause image FrameLimit = Unit {0}
IsCause image PassLimit = Unit {0}
IsCause image (NoResume pad) = Unit {0}
IsCause image (Table e) = Unit {0}
IsCause image (MachO e) = Unit {0}
IsCause image CompactForm = Unit {0}
IsCause image PeInfo = Unit {0}
IsCause image ChainLimit = Unit {0}

abbrev pub OnCause : {A : Type 0} → List Span → Result A DeliverError → Type 0
OnCause image (Ok x) = Unit {0}
OnCause image (Err e) = IsCause image e

-- records have no fault of the stack
abbrev OnChain : {A : Type 0} → Result A FrameFault → Type 0
OnChain (Ok x) = Unit {0}
OnChain (Err (pe.Memory rva)) = Unit {0}
OnChain (Err (pe.Info rva)) = Unit {0}
OnChain (Err pe.EpilogBytes) = Unit {0}
OnChain (Err (pe.Stack a)) = ⊥
OnChain (Err pe.ChainLimit) = Unit {0}

info_faults : (rva : ℕ) (memory : Option (List ℕ)) → OnChain (info_in rva memory)
info_faults rva None = tt
info_faults rva (Some bytes) = go (parsed_info bytes)
  where
    go : (o : Option Info) → OnChain (info_or rva o)
    go None = tt
    go (Some info) = tt

own_faults : (own : OwnRecord) (r : Result (List OwnRecord) FrameFault) → OnChain r → OnChain (with_own own r)
own_faults own (Ok records) on = tt
own_faults own (Err (pe.Memory rva)) on = tt
own_faults own (Err (pe.Info rva)) on = tt
own_faults own (Err pe.EpilogBytes) on = tt
own_faults own (Err (pe.Stack a)) on = on
own_faults own (Err pe.ChainLimit) on = tt

records_faults : (memory : Image) (n : ℕ) (function : Option RuntimeFunction) → OnChain (records_of memory n function)
unfolding records_of
records_faults memory zero None = tt
records_faults memory zero (Some function) = tt
records_faults memory (suc n) None = tt
records_faults memory (suc n) (Some function) = go (info_in function.unwind_info_address (memory function.unwind_info_address)) (info_faults function.unwind_info_address (memory function.unwind_info_address)) (λ info. records_faults memory n (chained_of info))
  where
    go : (r : Result Info FrameFault) → OnChain r → ((info : Info) → OnChain (records_of memory n (chained_of info))) → OnChain (then_records function r (λ info. records_of memory n (chained_of info)))
    go (Ok info) on later = own_faults (function, info) (records_of memory n (chained_of info)) (later info)
    go (Err (pe.Memory rva)) on later = tt
    go (Err (pe.Info rva)) on later = tt
    go (Err pe.EpilogBytes) on later = tt
    go (Err (pe.Stack a)) on later = on
    go (Err pe.ChainLimit) on later = tt

step_cause : (space : SpaceValue) (c : Context) (interrupted : Bool) (e : DeliverError) → step_of space c interrupted ≡ Err e → IsCause space.image e
step_cause space c interrupted e fails = go e fails (subst OnStepFault fails (step_faults space c interrupted))
  where
    go : (x : DeliverError) → step_of space c interrupted ≡ Err x → IsStepFault x → IsCause space.image x
    go (Table f) is fault = tt
    go (MachO f) is fault = tt
    go CompactForm is fault = tt
    go PeInfo is fault = tt
    go ChainLimit is fault = tt
    go (Unmapped a) is fault = step_unmapped space c interrupted a is
    go NoMemory is fault = absurd fault
    go FrameLimit is fault = absurd fault
    go PassLimit is fault = absurd fault
    go (NoResume pad) is fault = absurd fault

-- ---- what names the personality

abbrev OnTarget : List Span → Result ℕ calls.StepFault → Type 0
OnTarget image (Ok a) = Unit {0}
OnTarget image (Err e) = IsCause image (refusal_of e)

target_cause : (image : List Span) (p : Pointer) → OnTarget image (tables.target image p)
target_cause image (Direct a) = tt
target_cause image (Indirect a) = go (word_at image a) refl
  where
    go : (o : Option ℕ) → word_at image a ≡ o → OnTarget image (option_map_or Ok o (Err (calls.Unmapped a)))
    go None none = none
    go (Some w) some = tt

described_cause : (image : List Span) (found : FoundFde) → OnCause image (described_table image found)
described_cause image found = go found.fde.cie.letters.personality
  where
    by_target : (r : Result ℕ calls.StepFault) → OnTarget image r → OnCause image (table_if_named image found (tables.some_address r))
    by_target (Ok a) on = tt
    by_target (Err e) on = on

    go : (o : Option (ℕ × Pointer)) → OnCause image (table_if_named image found (option_map_or (λ p. tables.some_address (tables.target image p)) (option_map (λ p. p.1) o) (Ok None)))
    go None = tt
    go (Some p) = by_target (tables.target image p.1) (target_cause image p.1)

-- An unwind record isn't on the stack.
handler_cause : (image : List Span) (m : PeModule) (o : Option OwnRecord) → OnCause image (recorded_table (result_map_both (option_map (handler_place m)) (λ fault. fault) (handler_if_named o)))
handler_cause image m None = tt
handler_cause image m (Some own) = go (handler_named own)
  where
    go : (o : Option Handler) → OnCause image (recorded_table (result_map_both (option_map (handler_place m)) (λ fault. fault) (handler_or_fault own.0.unwind_info_address o)))
    go None = tt
    go (Some handler) = tt

recorded_cause : (image : List Span) (m : PeModule) (function : Option RuntimeFunction) → OnCause image (recorded_table (pe_place image m function))
recorded_cause image m function = go (records_of (memory_of image m.base) 33 function) (records_faults (memory_of image m.base) 33 function)
  where
    go : (r : Result (List OwnRecord) FrameFault) → OnChain r → OnCause image (recorded_table (result_map_both (option_map (handler_place m)) (λ fault. fault) (handler_among r)))
    go (Ok records) on = handler_cause image m (first_naming records)
    go (Err (pe.Memory rva)) on = tt
    go (Err (pe.Info rva)) on = tt
    go (Err pe.EpilogBytes) on = tt
    go (Err (pe.Stack a)) on = absurd on
    go (Err pe.ChainLimit) on = tt

compact_cause : (image : List Span) (r : Result (Option tables.LanguagePlace) Error) → OnCause image (compact_table r)
compact_cause image (Ok place) = tt
compact_cause image (Err e) = tt

named_cause : (image : List Span) (f : FrameAt) → OnCause image (named_table image f)
named_cause image (Described f) = described_cause image f.found
named_cause image (Compact m listed) = compact_cause image (macho_place image m listed)
named_cause image (Recorded m rva function) = recorded_cause image m function

asked_cause : (languages : Languages) (image : List Span) (c : Context) (interrupted : Bool) (f : FrameAt) → OnCause image (frame_asks languages image c interrupted f)
asked_cause languages image c interrupted f = go (named_table image f) (named_cause image f)
  where
    go : (r : Result (Option (Result tables.LanguagePlace calls.StepFault)) DeliverError) → OnCause image r → OnCause image (result_map (asks_if_named languages image (tables.address_of_call c.ra interrupted) (routine_of image f)) r)
    go (Ok place) on = tt
    go (Err e) on = on

-- ---- passes

module _ (space : SpaceValue) where
  visit_cause : (p : Pass) (c : Context) (interrupted : Bool) → OnCause space.image (visit_of p space c interrupted)
  unfolding visit_for
  visit_cause p c interrupted = by_frame (frame_of space c interrupted) refl
    where
      by_caller : (f : FrameAt) → frame_of space c interrupted ≡ Ok (Some f) → (r : Result Stepped DeliverError) → caller_by space.image c f ≡ r → OnCause space.image (goes r)
      by_caller f framed (Ok next) is = tt
      by_caller f framed (Err e) is = step_cause space c interrupted e (step_is space c interrupted ∙ ap (stepped_by space.image c) framed ∙ ap some_next is)

      by_test : (f : FrameAt) → frame_of space c interrupted ≡ Ok (Some f) → (asked : FrameAction) (b : Bool) → OnCause space.image (visit_at space.image c f (cond b (Some asked) None))
      by_test f framed asked true = tt
      by_test f framed asked false = by_caller f framed (caller_by space.image c f) refl

      by_action : (f : FrameAt) → frame_of space c interrupted ≡ Ok (Some f) → (r : Result FrameAction DeliverError) → OnCause space.image r → OnCause space.image (visit_asked p space.image c f r)
      by_action f framed (Ok asked) on = by_test f framed asked (stops p.phase asked)
      by_action f framed (Err e) on = on

      by_frame : (r : Result (Option FrameAt) DeliverError) → frame_of space c interrupted ≡ r → OnCause space.image (visit_by p space.image c interrupted r)
      by_frame (Ok None) is = tt
      by_frame (Ok (Some f)) is = by_action f is (frame_asks p.languages space.image c interrupted f) (asked_cause p.languages space.image c interrupted f)
      by_frame (Err e) is = step_cause space c interrupted e (step_is space c interrupted ∙ ap (stepped_by space.image c) is)

  context_cause : (c : Context) (r : Result Line DeliverError) → OnCause space.image r → OnCause space.image (with_context c r)
  context_cause c (Ok line) on = tt
  context_cause c (Err e) on = on

  pub pass_cause : (p : Pass) (room : ℕ) (c : Context) (interrupted : Bool) → OnCause space.image (pass_of p space room c interrupted)
  pass_cause p zero c interrupted = tt
  pass_cause p (suc room) c interrupted = go (visit_of p space c interrupted) (visit_cause p c interrupted) (λ d mark. pass_cause p room d mark)
    where
      go : (r : Result FrameVisit DeliverError) → OnCause space.image r → ((d : Context) (mark : Bool) → OnCause space.image (pass_of p space room d mark)) → OnCause space.image (line_visit c interrupted r (pass_of p space room))
      go (Ok Ends) on later = tt
      go (Ok (Stops asked past)) on later = tt
      go (Ok (Goes next)) on later = context_cause c (pass_of p space room next.context next.signal) (later next.context next.signal)
      go (Err e) on later = on

  end_cause : (exception kept : ℕ) (r : Result Line DeliverError) → OnCause space.image r → OnCause space.image (end_of exception kept r)
  end_cause exception kept (Ok line) on = tt
  end_cause exception kept (Err e) on = on

  cleanup_cause : (t : Trail) (r : Result CleanupsRun DeliverError) → OnCause space.image r → OnCause space.image (with_cleanup t r)
  cleanup_cause t (Ok passed) on = tt
  cleanup_cause t (Err e) on = on

  module _ (languages : Languages) (exception kept : ℕ) (resumes : List (ℕ × ℕ)) (limit : ℕ) where
    pub passes_cause : (places : ℕ) (c : Context) → OnCause space.image (passes_of languages space exception kept resumes limit places c)
    passes_cause zero c = go (cleanup_of languages space exception kept limit c) (end_cause exception kept (pass_of (cleaning languages) space limit c false) (pass_cause (cleaning languages) limit c false))
      where
        go : (r : Result PassEnd DeliverError) → OnCause space.image r → OnCause space.image (after_pass r (λ pad entered. Err PassLimit))
        go (Ok (Finishes ending)) on = tt
        go (Ok (Cleanup pad d)) on = tt
        go (Err e) on = on
    passes_cause (suc n) c = go (cleanup_of languages space exception kept limit c) (end_cause exception kept (pass_of (cleaning languages) space limit c false) (pass_cause (cleaning languages) limit c false)) (λ d. passes_cause n d)
      where
        by_resume : (pad : ℕ) (entered : Context) (o : Option ℕ) → ((d : Context) → OnCause space.image (passes_of languages space exception kept resumes limit n d)) → OnCause space.image (cleanup_and_rest (cleanup_at pad entered) (resume_at pad entered o) (passes_of languages space exception kept resumes limit n))
        by_resume pad entered None later = tt
        by_resume pad entered (Some ret) later = cleanup_cause (cleanup_at pad entered) (passes_of languages space exception kept resumes limit n (record entered { ra = ret })) (later (record entered { ra = ret }))

        go : (r : Result PassEnd DeliverError) → OnCause space.image r → ((d : Context) → OnCause space.image (passes_of languages space exception kept resumes limit n d)) →
            OnCause space.image (after_pass r (λ pad entered. cleanup_and_rest (cleanup_at pad entered) (resume_at pad entered (return_of resumes pad)) (passes_of languages space exception kept resumes limit n)))
        go (Ok (Finishes ending)) on later = tt
        go (Ok (Cleanup pad d)) on later = by_resume pad d (return_of resumes pad) later
        go (Err e) on later = on

  after_cause : (visited : List Context) (r : Result CleanupsRun DeliverError) → OnCause space.image r → OnCause space.image (delivery_after visited r)
  after_cause visited (Ok passed) on = tt
  after_cause visited (Err e) on = on

  pub delivery_cause : (languages : Languages) (c : Context) (exception : ℕ) (resumes : List (ℕ × ℕ)) (limit : ℕ) → OnCause space.image (delivery_through languages space c exception resumes limit)
  unfolding delivery_through
  delivery_cause languages c exception resumes limit = go (pass_of (searching languages) space limit c false) (pass_cause (searching languages) limit c false)
    where
      at_pad : (visited : List Context) (b : Bool) (kept : ℕ) → OnCause space.image (delivery_at visited b (passes_of languages space exception kept resumes limit limit c))
      at_pad visited false kept = tt
      at_pad visited true kept = after_cause visited (passes_of languages space exception kept resumes limit limit c) (passes_cause languages exception kept resumes limit limit c)

      to_stop : (visited : List Context) (o : Option Stop) → OnCause space.image (delivery_to visited o (λ kept. passes_of languages space exception kept resumes limit limit c))
      to_stop visited None = tt
      to_stop visited (Some stop) = at_pad visited (is_taken stop.action) (mark_at stop.context stop.interrupted)

      go : (r : Result Line DeliverError) → OnCause space.image r → OnCause space.image (delivery_by r (λ kept. passes_of languages space exception kept resumes limit limit c))
      go (Ok line) on = to_stop line.contexts line.stop
      go (Err e) on = on

  pub delivery_unmapped : (languages : Languages) (c : Context) (exception : ℕ) (resumes : List (ℕ × ℕ)) (limit a : ℕ) → delivery_through languages space c exception resumes limit ≡ Err (Unmapped a) → word_at space.image a ≡ None
  delivery_unmapped languages c exception resumes limit a fails = subst (OnCause space.image) fails (delivery_cause languages c exception resumes limit)

  pub delivery_memory : (languages : Languages) (c : Context) (exception : ℕ) (resumes : List (ℕ × ℕ)) (limit : ℕ) → delivery_through languages space c exception resumes limit ≢ Err NoMemory
  delivery_memory languages c exception resumes limit fails = subst (OnCause space.image) fails (delivery_cause languages c exception resumes limit)
