-- The frame of a described function of a PE module, what it asks, and its caller. `ElfFrames` and `MachoFrames` have the same of theirs.
use Rattle.std.proofs.Common.{inl, inr, ◌≡◌, ◌≢◌, ℕ, ◌+◌, ◌-◌, ◌%◌, ◌^◌, ◌<◌, ◌≤◌, Bool, true, false, List, [], ◌∷◌, Option, Some, None, Result, Ok, Err, refl, sym, ap, subst, ◌∙◌, arith, eqb}
use Rattle.std.specs.Prelude.{◌⊎◌}
use Rattle.std.specs.List.{AllByRecursion, Contains}
use Rattle.std.specs.Option.{option_map}
use Rattle.std.specs.Result.{result_map_both}
use Rattle.memory_image.specs.Image.{Span, word_at}
use Rattle.memory_image.specs.Results.{result_map}
use Rattle.unwind_definitions.specs.Pointers.{Direct}
use Rattle.unwind_definitions.specs.Prologue.{Convention, Windows}
use Rattle.unwind_definitions.specs.Function.{Function, Action, IsFunction, action_at}
use Rattle.unwind_definitions.specs.LanguageSearch.{LanguagePlace, address_of_call}
use Rattle.unwind_definitions.specs.LanguageTable.{LeadsToLanguage}
use Rattle.pe_unwind_info.specs.declared.x86_64.fault.FrameFault.{FrameFault}
use Rattle.pe_unwind_info.specs.declared.x86_64.function_table.RuntimeFunction.{RuntimeFunction}
use Rattle.pe_unwind_info.specs.declared.x86_64.handler.Handler.{Handler}
use Rattle.pe_unwind_info.specs.Chain.{chain_of}
use Rattle.pe_unwind_info.specs.Epilog as epilogs
use Rattle.pe_unwind_info.specs.Frame.{info_in, chained_of}
use Rattle.pe_unwind_info.specs.FunctionTable.{lookup_of}
use Rattle.pe_unwind_info.specs.HandlerData.{names_handler, data_offset, data_offset_by, handler_data_offset_of}
use Rattle.pe_unwind_info.specs.Handlers.{OwnRecord, handler_by, with_own, then_records, records_of, infos_of, first_naming, handler_among}
use Rattle.pe_unwind_info.specs.Header.{has_flag}
use Rattle.pe_unwind_info.specs.Info.{Info, Trailer, OnException, OnTermination, ChainedTo, chained_in, chained_trailer, trailer_of}
use Rattle.pe_unwind_info.proofs.HandlerLemmas.{chain_is}
use Rattle.format_definitions.specs.PeImage.{PeModule, memory_of}
use Rattle.format_definitions.specs.PeModules.{NamesNoHandler, NamesLanguage, DescribesLeaf, HasRecord, DescribesPe}
use Rattle.format_frames.specs.Handlers.{handler_place, pe_place}
use Rattle.format_laws.proofs.Silent.{silent_action}
use Rattle.format_laws.proofs.PeSteps.{found_by_record, leaf_not_found}
use Rattle.stack_steps.specs.declared.error.DeliverError.{DeliverError}
use Rattle.stack_steps.specs.Asking.{action_if_named}
use Rattle.stack_steps.specs.Pe.{recorded_table, module_of, refusal as pe_refusal, recorded_frame, recorded_columns}
use Rattle.stack_steps.proofs.MachoFrames.{asks_at_place}
use Rattle.unwind_definitions.specs.Caller.{Columns}
use Rattle.unwind_definitions.specs.State.{State, Shows}
use Rattle.unwind_laws.proofs.Booleans as lists
use Rattle.unwind_arch.specs.declared.x86_64.Context.{Context}
use Rattle.unwind_arch.specs.ContextViews.{columns_of, context_of}
use Rattle.pe_unwind_info.specs.FrameOf.{frame_end_of}
use Rattle.pe_unwind_info.specs.FunctionTable as pe_tables
use Rattle.pe_unwind_info.specs.Machine.{FrameEnd, Returned, Faulted}
use Rattle.format_definitions.specs.PeRegisters.{registers_in, columns_with}
use Rattle.format_definitions.specs.PeStep.{PeFault, columns_at, pe_step}
use Rattle.format_definitions.specs.PeStep as pe_steps
use Rattle.format_definitions.specs.Modules.{KeepsIn}
use Rattle.format_definitions.specs.Modules as formats
use Rattle.format_laws.specs.PeUndone.{CallUndone}
use Rattle.stack_steps.specs.declared.space.Module.{Module}
use Rattle.stack_steps.specs.declared.space.ModuleTables.{ModuleTables}
use Rattle.stack_steps.specs.declared.space.ModuleTables.TheVariants.{Elf, Macho, Pe}
use Rattle.stack_steps.specs.declared.space.PeTables.{PeTables}
use Rattle.stack_steps.specs.Modules.{SpaceValue, module_at}
use Rattle.stack_steps.specs.SpaceViews.{format_by}
use Rattle.stack_steps.proofs.Holders.{HoldsAt}
use Rattle.stack_steps.proofs.StepUndone.{context_of-scratch}
use Rattle.stack_steps.specs.Frames.{Recorded, next_with}
use Rattle.stack_steps.proofs.FoundFrames.{FormatFrame, held_frame}

-- ---- the records of a function

-- the records are there where the chain is
all_records : (r : Result (List OwnRecord) FrameFault) (infos : List Info) → epilogs.result_map infos_of r ≡ Ok infos → (records : List OwnRecord) × (r ≡ Ok records) × (infos_of records ≡ infos)
all_records (Ok records) infos e = (records, refl, cc)
all_records (Err fault) infos e = absurd cc

none_naming : (records : List OwnRecord) → AllByRecursion NamesNoHandler (infos_of records) → first_naming records ≡ None
none_naming [] quiet = refl
none_naming (own ∷ records) quiet = let no_ : names_handler own.1 ≡ false = quiet.0 in rw no_ (none_naming records quiet.1)

-- without the flags no trailer is a handler's
chained_offset : (o : Option RuntimeFunction) (offset : ℕ) → data_offset_by (chained_trailer o) offset ≡ None
chained_offset None offset = refl
chained_offset (Some function) offset = refl

no_offset : (info : Info) → names_handler info ≡ false → handler_data_offset_of info ≡ None
no_offset info none = go (has_flag 1 info.header) (has_flag 2 info.header) (has_flag 4 info.header) refl refl refl none
  where
    go : (a b c : Bool) → has_flag 1 info.header ≡ a → has_flag 2 info.header ≡ b → has_flag 4 info.header ≡ c → names_handler info ≡ false → handler_data_offset_of info ≡ None
    go true b c e f g h = let bad : true ≡ false = rw e at h in absurd cc
    go false true c e f g h = let bad : true ≡ false = rw (e, f) at h in absurd cc
    go false false true e f g h = rw (e, f, g) (chained_offset (chained_in info.after) (data_offset info.header))
    go false false false e f g h = rw (e, f, g) refl

-- the place of a trailer's handler data
place_by : (m : PeModule) (function : RuntimeFunction) (offset : ℕ) (o : Option Trailer) → data_offset_by o offset ≢ None →
    (handler : Handler) × (handler_by function offset o ≡ Some handler) × (data_offset_by o offset ≡ Some offset) × (handler.begin ≡ function.begin_address) × (handler.data_rva ≡ function.unwind_info_address + offset)
place_by m function offset None some = absurd (some refl)
place_by m function offset (Some (OnException address bytes)) some = (record { begin = function.begin_address; handler_address = address; data_rva = function.unwind_info_address + offset }, refl, refl, refl, refl)
place_by m function offset (Some (OnTermination address bytes)) some = (record { begin = function.begin_address; handler_address = address; data_rva = function.unwind_info_address + offset }, refl, refl, refl, refl)
place_by m function offset (Some (ChainedTo other)) some = absurd (some refl)

module _ (image : List Span) (m : PeModule) (f : Function) (convention : Convention) (is : IsFunction convention f) (a : ℕ) (low : f.start < 2 ^ 64) (small : f.end < 2 ^ 64) where
  abbrev asked : Result (Option LanguagePlace) FrameFault → Result Action DeliverError
  asked r = result_map (action_if_named image a) (recorded_table r)

  abbrev placed : Result (Option Handler) FrameFault → Result (Option LanguagePlace) FrameFault
  placed = result_map_both (option_map (handler_place m)) (λ fault. fault)

  module _ (function : RuntimeFunction) (first : Info) (chained : List Info) (start : f.start ≡ m.base + function.begin_address) (reads : info_in function.unwind_info_address (memory_of image m.base function.unwind_info_address) ≡ Ok first)
      (chain : chain_of (memory_of image m.base) 32 (chained_of first) ≡ Ok chained) (language : NamesLanguage image m.base function first chained f) where
    by_first : (b : Bool) → names_handler first ≡ b → (records : List OwnRecord) → infos_of records ≡ chained → asked (placed (handler_among (Ok ((function, first) ∷ records)))) ≡ Ok (action_at f a)
    by_first false none records are =
        let quiet : first_naming records ≡ None = none_naming records (subst (AllByRecursion NamesNoHandler) (sym are) language.quiet) in
        let silent : f.sites ≡ None = subst (λ (o : Option ℕ). LeadsToLanguage image f (option_map (λ (offset : ℕ). Direct ((m.base + (function.unwind_info_address + offset)) % 2 ^ 64)) o)) (no_offset first none) language.leads in
        rw (none, quiet) (ap (λ x. Ok x) (sym (silent_action f a silent)))
    by_first true named records are =
        let h = place_by m function (data_offset first.header) (trailer_of first) (language.trailer named) in
        let leads = subst (λ (o : Option ℕ). LeadsToLanguage image f (option_map (λ (offset : ℕ). Direct ((m.base + (function.unwind_info_address + offset)) % 2 ^ 64)) o)) h.2 language.leads in
        let begins : ((m.base + h.0.begin) % 2 ^ 64) ≡ f.start = let e = h.3 in omega arith in
        let stands : ((m.base + h.0.data_rva) % 2 ^ 64) ≡ ((m.base + (function.unwind_info_address + data_offset first.header)) % 2 ^ 64) = ap (λ (rva : ℕ). (m.base + rva) % 2 ^ 64) h.4 in
        rw (named, h.1) (ap (λ x. Ok x) (asks_at_place image f convention is a (handler_place m h.0) leads.0 begins leads.1 small (rw stands leads.2)))

    by_record : asked (pe_place image m (Some function)) ≡ Ok (action_at f a)
    unfolding records_of
    by_record =
        let rest = all_records (records_of (memory_of image m.base) 32 (chained_of first)) chained (sym (chain_is (memory_of image m.base) 32 (chained_of first)) ∙ chain) in
        ap (λ (r : Result Info FrameFault). asked (placed (handler_among (then_records function r (λ info. records_of (memory_of image m.base) 32 (chained_of info)))))) reads
        ∙ ap (λ (r : Result (List OwnRecord) FrameFault). asked (placed (handler_among (with_own (function, first) r)))) rest.1
        ∙ by_first (names_handler first) refl rest.0 rest.2

  by_leaf : f.sites ≡ None → asked (pe_place image m None) ≡ Ok (action_at f a)
  unfolding records_of
  by_leaf silent = ap (λ x. Ok x) (sym (silent_action f a silent))

  -- the frame of a described function asks what the function does
  pub recorded_asks : (part : List Function) (d : DescribesPe image m part) → HasRecord image m d.table f ⊎ DescribesLeaf m d.table f → (at : ℕ) → f.start ≤ at → at < f.end → asked (pe_place image m (lookup_of (Some d.table) (at - m.base))) ≡ Ok (action_at f a)
  recorded_asks part d (inl r) at from below =
      ap (λ (o : Option RuntimeFunction). asked (pe_place image m o)) (found_by_record image m part d f r at from below) ∙ by_record r.function r.describes.first r.describes.chained r.describes.start r.describes.reads r.describes.chain r.describes.language
  recorded_asks part d (inr leaf) at from below = ap (λ (o : Option RuntimeFunction). asked (pe_place image m o)) (leaf_not_found image m part d f leaf at from below) ∙ by_leaf leaf.plain.no_sites

-- ---- in a space

-- RSI and RDI have values in the caller
scratch_values : (c : Context) (r : FrameEnd) (caller : Columns) → columns_at (columns_of c) r ≡ Ok caller → ((v : ℕ) × (caller 4 ≡ Some v)) × ((v : ℕ) × (caller 5 ≡ Some v))
scratch_values c (Faulted fault regs) caller e = absurd cc
scratch_values c (Returned ret regs) caller e =
    let same : caller ≡ columns_with (columns_of c) ret regs = cc in
    ((regs.general 6, ap (λ (columns : Columns). columns 4) same), (regs.general 7, ap (λ (columns : Columns). columns 5) same))

module _ (space : SpaceValue) (c : Context) (interrupted : Bool) (a : ℕ) (nonzero : eqb c.ra 0 ≡ false) (asked : address_of_call c.ra interrupted ≡ a) (f : Function) (low : f.start ≤ a) (high : a < f.end) (t : State) where
  frame_in : (m : Module) (tables : PeTables) → module_at space.modules a ≡ Some m → m.tables ≡ Pe tables → IsFunction Windows f → (part : List Function) (d : DescribesPe space.image (module_of m tables) part) →
      HasRecord space.image (module_of m tables) d.table f ⊎ DescribesLeaf (module_of m tables) d.table f → CallUndone (pe_step space.image (module_of m tables) (a - m.start) (columns_of c)) (columns_of c) t → FormatFrame space c interrupted (formats.Pe (module_of m tables)) f a t
  frame_in m tables holds is is_function part d described u =
      let home : PeModule = module_of m tables in
      let rva : ℕ = a - m.start in
      let function : Option RuntimeFunction = pe_tables.lookup_of (pe_tables.functions_of d.bytes) rva in
      let gives : recorded_columns space.image c home rva function ≡ Ok u.caller = sym (ap (pe_steps.stepped_by space.image home rva (columns_of c)) d.mapped) ∙ u.answered in
      let both = scratch_values c (frame_end_of (memory_of space.image home.base) (word_at space.image) rva function (registers_in (columns_of c))) u.caller gives in
      let kept : columns_of (context_of u.caller) ≡ u.caller = λ i k. context_of-scratch c u.caller t u.shows u.others both.0 both.1 k i in
      record {
        frame = Recorded home rva function;
        framed = held_frame space c interrupted a m (Pe tables) nonzero asked holds is ∙ ap (recorded_frame home rva) d.mapped;
        asks = λ small. ap (λ (at : ℕ). result_map (action_if_named space.image at) (recorded_table (pe_place space.image home function))) asked
            ∙ ap (λ (table : Option (List RuntimeFunction)). result_map (action_if_named space.image a) (recorded_table (pe_place space.image home (pe_tables.lookup_of table rva)))) d.reads
            ∙ recorded_asks space.image home f Windows is_function a (omega arith) small part d described a low high;
        no_arguments = refl;
        next = next_with false u.caller;
        called = ap (λ (r : Result Columns PeFault). result_map_both (next_with false) pe_refusal r) gives;
        unmarked = refl;
        shows = subst (λ (columns : Columns). Shows columns t) (sym kept) u.shows;
        others = subst (λ (columns : Columns). KeepsIn (formats.Pe home) (columns_of c) columns) (sym kept) u.others;
        whole = refl;
      }

  frame_named : (m : Module) (tables : ModuleTables) (home : PeModule) → module_at space.modules a ≡ Some m → m.tables ≡ tables → IsFunction Windows f → format_by m tables ≡ formats.Pe home → (part : List Function) (d : DescribesPe space.image home part) →
      HasRecord space.image home d.table f ⊎ DescribesLeaf home d.table f → CallUndone (pe_step space.image home (a - home.base) (columns_of c)) (columns_of c) t → FormatFrame space c interrupted (formats.Pe home) f a t
  frame_named m (Elf frame) home holds is is_function same = absurd cc
  frame_named m (Macho tables) home holds is is_function same = absurd cc
  frame_named m (Pe tables) home holds is is_function same =
      let here : module_of m tables ≡ home = cc in
      subst (λ (k : PeModule). (part : List Function) (d : DescribesPe space.image k part) → HasRecord space.image k d.table f ⊎ DescribesLeaf k d.table f →
      CallUndone (pe_step space.image k (a - k.base) (columns_of c)) (columns_of c) t → FormatFrame space c interrupted (formats.Pe k) f a t) here (frame_in m tables holds is is_function)

  -- a function of a PE module
  pub framed : (home : PeModule) → HoldsAt space.modules (formats.Pe home) a → IsFunction Windows f → (part : List Function) (d : DescribesPe space.image home part) → Contains part f →
      CallUndone (pe_step space.image home (a - home.base) (columns_of c)) (columns_of c) t → FormatFrame space c interrupted (formats.Pe home) f a t
  framed home at is_function part d has u =
      frame_named at.holder at.holder.tables home at.holds refl is_function at.same part d (lists.all_contains (λ (g : Function). HasRecord space.image home d.table g ⊎ DescribesLeaf home d.table g) part f d.each has) u
