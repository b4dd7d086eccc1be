-- The frame of a described function of a Mach-O module, what it asks, and its caller. `ElfFrames` and `PeFrames` have the same of theirs.
use Rattle.std.proofs.Common.{◌≡◌, ◌≢◌, ℕ, ◌+◌, ◌%◌, ◌^◌, ◌<◌, ◌≤◌, Bool, true, false, cond, eqb, ltb, length, List, Option, Some, None, Result, Ok, refl, sym, ap, subst, ◌∙◌, arith, ◌-◌}
use Rattle.std.specs.Prelude.{IfSome, IsTrue}
use Rattle.std.specs.Option.{option_map}
use Rattle.std.proofs.lemmas.Bool.Decides.{nat_tests}
use Rattle.memory_image.specs.Image.{Span, table_at}
use Rattle.memory_image.specs.Results.{◌>>=◌, result_map}
use Rattle.unwind_definitions.specs.declared.error.Error.{Error as Fault}
use Rattle.unwind_definitions.specs.Entries.{Fde}
use Rattle.unwind_definitions.specs.Pointers.{Direct}
use Rattle.unwind_definitions.specs.Prologue.{Convention, SystemV}
use Rattle.unwind_definitions.specs.Function.{Function, Site, AreSitesOf, IsFunction, in_body, action_at}
use Rattle.unwind_definitions.specs.LanguageSearch.{LanguagePlace, address_of_call, table_action}
use Rattle.unwind_definitions.specs.LanguageTable.{input_at, IsLanguageTable, LeadsToLanguage}
use Rattle.unwind_definitions.specs.Row.{RowInstructions, argument_size, row_at}
use Rattle.unwind_laws.proofs.Asked.{asks_as}
use Rattle.unwind_laws.proofs.LanguageSites.{described_asks}
use Rattle.unwind_laws.proofs.Signal.{one_read}
use Rattle.unwind_arch.specs.declared.x86_64.Context.{Context}
use Rattle.fde_finders.specs.Finding.{FoundFde}
use Rattle.macho_unwind_info.specs.declared.error.Error.{Error}
use Rattle.macho_unwind_info.specs.declared.function.Function.{Function as Listed}
use Rattle.macho_unwind_info.specs.declared.opcodes.x86_64.OpcodeX86_64.{OpcodeX86_64}
use Rattle.macho_unwind_info.specs.declared.opcodes.x86_64.OpcodeX86_64.TheVariants.{Null, FrameBased, FramelessImmediate, FramelessIndirect, Dwarf, InvalidFrameless, UnrecognizedKind}
use Rattle.macho_unwind_info.specs.declared.raw.unaligned.U32.{U32}
use Rattle.macho_unwind_info.specs.LanguageTables.{personalities_of, has_language_table, listed_table, lsda_of, HasDescribedTables}
use Rattle.macho_unwind_info.specs.Listing.{Section, part, section_of}
use Rattle.macho_unwind_info.specs.X86_64.{opcode_of}
use Rattle.macho_unwind_info.proofs.LanguageLemmas.{finds_listed}
use Rattle.format_definitions.specs.CompactStep.{MachoModule, frame_bases, macho_step}
use Rattle.format_definitions.specs.MachoModules.{personality_index, table_offset_of, NamesLanguage, NamesUnlessDwarf, IsDwarf, IsOpcodeOf, HasListed, DescribesMacho}
use Rattle.format_frames.specs.FrameData.{found_in, some_found, description_by}
use Rattle.format_frames.specs.Handlers.{offset_if_named, language_offset, place_at, macho_place}
use Rattle.format_laws.proofs.Silent.{silent_action}
use Rattle.format_laws.proofs.MachoSteps.{found_at, listed_found}
use Rattle.stack_steps.specs.Asking.{or_terminate, action_if_named, action_asked, arguments_of}
use Rattle.stack_steps.specs.Macho.{compact_table, opcode_frame, module_of, compact_frame, compact_next}
use Rattle.stack_steps.specs.Frames.{FrameAt, Described, Compact}
use Rattle.stack_steps.proofs.ElfFrames.{asked_as}
use Rattle.stack_steps.proofs.StepParts.{frame_found, stepped_by}
use Rattle.std.specs.List.{Contains}
use Rattle.unwind_definitions.specs.Caller.{Columns}
use Rattle.unwind_definitions.specs.State.{State, Shows}
use Rattle.unwind_laws.proofs.Booleans as lists
use Rattle.unwind_arch.specs.ContextViews.{columns_of, context_of}
use Rattle.macho_unwind_info.specs.Lookup.{lookup_of}
use Rattle.format_definitions.specs.CompactStep as compact
use Rattle.format_definitions.specs.Modules.{KeepsIn}
use Rattle.format_definitions.specs.Modules as formats
use Rattle.format_frames.specs.Refusals.{looked_up, function_at}
use Rattle.format_laws.specs.CompactUndone.{MachoUndone}
use Rattle.stack_steps.specs.declared.space.Module.{Module}
use Rattle.stack_steps.specs.declared.space.ModuleTables.{ModuleTables}
use Rattle.stack_steps.specs.declared.space.ModuleTables.TheVariants.{Elf, Macho, Pe}
use Rattle.stack_steps.specs.declared.space.MachoTables.{MachoTables}
use Rattle.stack_steps.specs.Modules.{SpaceValue, module_at}
use Rattle.stack_steps.specs.SpaceViews.{format_by}
use Rattle.stack_steps.proofs.Holders.{HoldsAt}
use Rattle.stack_steps.proofs.StepUndone.{context_of-holds}
use Rattle.stack_steps.specs.Stepping.{frame_by_tables, caller_by}
use Rattle.stack_steps.proofs.FoundFrames.{FormatFrame, held_frame, called_by}
use Rattle.stack_steps.proofs.MachoAnswers.{answer, is_defined}

-- ---- where the language table of a listed function stands

module _ (image : List Span) (m : MachoModule) (info : Section) (personalities : List U32) (listed : Listed) (parses : section_of (table_at image m.unwind_info) ≡ Ok info) (named : personalities_of info ≡ Ok personalities)
    (tables : HasDescribedTables info) (within : personality_index listed.opcode ≤ length personalities) where
  some_offset : (b : Bool) → has_language_table listed.opcode ≡ b → lsda_of info listed ≡ Ok (cond b (listed_table info listed.start_address) None)
  some_offset true has = rw has (finds_listed info listed.start_address tables)
  some_offset false has = rw has refl

  offset_is : language_offset listed info ≡ Ok (cond (has_language_table listed.opcode) (listed_table info listed.start_address) None)
  offset_is =
      let listed_there : ltb (length personalities) (personality_index listed.opcode) ≡ false = grind (arith, nat_tests) in
      ap (λ r. part r >>= offset_if_named info listed) named ∙ rw listed_there (some_offset (has_language_table listed.opcode) refl)

  abbrev place_with : Result (Option ℕ) Error → Result (Option LanguagePlace) Error
  place_with = result_map (option_map (place_at m listed))

  place_is : macho_place image m listed ≡ Ok (option_map (place_at m listed) (table_offset_of info listed))
  place_is = go (eqb (personality_index listed.opcode) 0) refl
    where
      go : (b : Bool) → eqb (personality_index listed.opcode) 0 ≡ b → macho_place image m listed ≡ Ok (option_map (place_at m listed) (table_offset_of info listed))
      go true none = rw none refl
      go false some = rw some (ap (λ r. place_with (r >>= language_offset listed)) parses ∙ ap place_with offset_is)

-- ---- what is asked

-- by the place of a language table
module _ (image : List Span) (f : Function) (convention : Convention) (is : IsFunction convention f) (a : ℕ) where
  pub asks_at_place : (place : LanguagePlace) (sites : List Site) → place.start ≡ f.start → f.sites ≡ Some sites → f.end < 2 ^ 64 → IsLanguageTable image place.lsda f.start sites → or_terminate (table_action image a (Ok place)) ≡ action_at f a
  asks_at_place place sites start has small table =
      let some : place.lsda ≢ 0 = table.nonzero in
      let nonzero : eqb place.lsda 0 ≡ false = grind (arith, nat_tests) in
      let are_sites : AreSitesOf f sites = subst (λ (o : Option (List Site)). IfSome o (AreSitesOf f)) has is.sites in
      rw (nonzero, start, has) (ap or_terminate (described_asks image (record place.bases { func = Some f.start }) f place.lsda sites a are_sites small table))

module _ (image : List Span) (f : Function) (is : IsFunction SystemV f) (a : ℕ) where
  -- by the place to which a pointer leads
  asks_by : (m : MachoModule) (listed : Listed) (o : Option ℕ) → f.start ≡ m.base + listed.start_address → f.start < 2 ^ 64 → f.end < 2 ^ 64 → LeadsToLanguage image f (option_map (λ (offset : ℕ). Direct ((m.base + offset) % 2 ^ 64)) o) →
      action_if_named image a (option_map Ok (option_map (place_at m listed) o)) ≡ action_at f a
  asks_by m listed None start low small none = sym (silent_action f a none)
  asks_by m listed (Some offset) start low small leads =
      asks_at_place image f SystemV is a (place_at m listed offset) leads.0 (omega arith) leads.1 small leads.2

  pub macho_asks : (m : MachoModule) (info : Section) (personalities : List U32) (listed : Listed) → section_of (table_at image m.unwind_info) ≡ Ok info → personalities_of info ≡ Ok personalities → HasDescribedTables info →
      f.start ≡ m.base + listed.start_address → f.start < 2 ^ 64 → f.end < 2 ^ 64 → NamesLanguage image info personalities m.base listed f → result_map (action_if_named image a) (compact_table (macho_place image m listed)) ≡ Ok (action_at f a)
  macho_asks m info personalities listed parses named tables start low small language =
      ap (λ r. result_map (action_if_named image a) (compact_table r)) (place_is image m info personalities listed parses named tables language.index) ∙
      ap (λ x. Ok x) (asks_by m listed (table_offset_of info listed) start low small language.leads)

-- ---- the frame

-- the frame of a listed function, which asks what the function does
pub record MachoFrame (image : List Span) (c : Context) (interrupted : Bool) (a : ℕ) (f : Function) (m : MachoModule) (listed : Listed) (described : Result (Option FoundFde) Fault) : Type 0 where
  pub frame : FrameAt
  pub is : opcode_frame m a listed described ≡ Ok (Some frame)
  pub asks : f.end < 2 ^ 64 → action_asked image c interrupted frame ≡ Ok (action_at f a)
  pub no_arguments : arguments_of frame ≡ 0

module _ (image : List Span) (c : Context) (interrupted : Bool) (a : ℕ) (asked : address_of_call c.ra interrupted ≡ a) (f : Function) (is : IsFunction SystemV f) (low : f.start ≤ a) (high : a < f.end) (inside : IsTrue (in_body f a)) (m : MachoModule) (listed : Listed) where
  -- by frame data
  row_there : (table offset : ℕ) (d : IsDwarf image f table offset) (b : Bool) → f.outermost ≡ b → (run : RowInstructions) × (row_at (frame_bases table) d.fde a ≡ Ok run) × (argument_size run ≡ 0)
  row_there table offset d false e = let row = d.describes.code.rows.bodies e a inside in (row.0, row.1, row.2.arguments)
  row_there table offset d true e = let row = d.describes.code.rows.outermost e a inside in (row.0, row.1, row.2.arguments)

  by_data : (table offset : ℕ) → IsDwarf image f table offset → MachoFrame image c interrupted a f m listed (description_by image (Some table) (Dwarf offset))
  by_data table offset d =
      let found : FoundFde = found_in image table d.fde in
      let row = row_there table offset d f.outermost refl in
      record {
        frame = Described (record { found = found; run = row.0 });
        is = ap (λ (r : Result Fde Fault). opcode_frame m a listed (some_found (result_map (found_in image table) r))) (found_at image f table offset d) ∙ frame_found a (Some found) found row.0 refl row.1;
        asks = λ small. asked_as image c interrupted found f a (asks_as image (frame_bases table) f d.fde is (one_read (frame_bases table) (input_at image table) offset d.next d.fde d.reads) d.describes) asked;
        no_arguments = row.2;
      }

  -- by the opcode alone
  module _ (info : Section) (personalities : List U32) (parses : section_of (table_at image m.unwind_info) ≡ Ok info) (named : personalities_of info ≡ Ok personalities) (tables : HasDescribedTables info) (start : f.start ≡ m.base + listed.start_address) where
    alone : NamesLanguage image info personalities m.base listed f → MachoFrame image c interrupted a f m listed (Ok None)
    alone language = record {
      frame = Compact m listed;
      is = refl;
      asks = λ small. ap (λ (at : ℕ). result_map (action_if_named image at) (compact_table (macho_place image m listed))) asked ∙ macho_asks image f is a m info personalities listed parses named tables start (omega arith) small language;
      no_arguments = refl;
    }

    by_opcode : (frames : Option ℕ) (o : OpcodeX86_64) → IsOpcodeOf image frames f o → NamesUnlessDwarf image info personalities m.base listed f o → MachoFrame image c interrupted a f m listed (description_by image frames o)
    by_opcode frames Null d language = absurd d
    by_opcode frames (FrameBased offset fields) d language = alone language
    by_opcode frames (FramelessImmediate size registers) d language = alone language
    by_opcode frames (FramelessIndirect at adjust registers) d language = alone language
    by_opcode None (Dwarf offset) d language = absurd d
    by_opcode (Some table) (Dwarf offset) d language = by_data table offset d
    by_opcode frames InvalidFrameless d language = absurd d
    by_opcode frames (UnrecognizedKind k) d language = absurd d

pub listed_frame : (image : List Span) (c : Context) (interrupted : Bool) (a : ℕ) → address_of_call c.ra interrupted ≡ a → (f : Function) → IsFunction SystemV f → f.start ≤ a → a < f.end → IsTrue (in_body f a) →
    (m : MachoModule) (functions : List Function) (d : DescribesMacho image m functions) (h : HasListed image d.info d.personalities m f) →
    MachoFrame image c interrupted a f m h.listed (description_by image m.frames (opcode_of h.listed.opcode))
listed_frame image c interrupted a asked f is low high inside m functions d h =
    by_opcode image c interrupted a asked f is low high inside m h.listed d.info d.personalities d.parses d.named d.tables h.describes.start m.frames (opcode_of h.listed.opcode) h.describes.opcode h.describes.language

-- ---- in a space

module _ (space : SpaceValue) (c : Context) (interrupted : Bool) (a : ℕ) (nonzero : eqb c.ra 0 ≡ false) (asked : address_of_call c.ra interrupted ≡ a) (f : Function) (low : f.start ≤ a) (high : a < f.end) (t : State) where
  frame_in : (m : Module) (tables : MachoTables) → module_at space.modules a ≡ Some m → m.tables ≡ Macho tables → m.start ≤ a → IsFunction SystemV f → IsTrue (in_body f a) → (part : List Function) (d : DescribesMacho space.image (module_of m tables) part) →
      HasListed space.image d.info d.personalities (module_of m tables) f → MachoUndone (macho_step space.image (module_of m tables) (a - m.start) (columns_of c)) (columns_of c) t → FormatFrame space c interrupted (formats.Macho (module_of m tables)) f a t
  frame_in m tables holds is from is_function inside part d h u =
      let home : MachoModule = module_of m tables in
      let looked : lookup_of d.info (a - m.start) ≡ Ok (Some h.listed) = listed_found space.image home part d f h a low high in
      let found : function_at space.image home (a - m.start) ≡ Ok (Some h.listed) = ap (looked_up (a - m.start)) d.parses ∙ looked in
      let caller : compact.Stepped = record { columns = u.caller; signal = false } in
      let listed = listed_frame space.image c interrupted a asked f is_function low high inside home part d h in
      let there : frame_by_tables space.image a m (Macho tables) ≡ Ok (Some listed.frame) = ap (compact_frame space.image home a) found ∙ listed.is in
      let steps : stepped_by space.image c (Ok (Some listed.frame)) ≡ Ok (Some (compact_next caller)) =
      ap (stepped_by space.image c) (sym there) ∙ is_defined space.image c m tables a from ∙ ap answer u.answered in
      let kept : columns_of (context_of u.caller) ≡ u.caller = λ i k. context_of-holds c u.caller t u.shows u.others k i in
      record {
        frame = listed.frame;
        framed = held_frame space c interrupted a m (Macho tables) nonzero asked holds is ∙ there;
        asks = listed.asks;
        no_arguments = listed.no_arguments;
        next = compact_next caller;
        called = called_by (compact_next caller) (caller_by space.image c listed.frame) steps;
        unmarked = refl;
        shows = subst (λ (columns : Columns). Shows columns t) (sym kept) u.shows;
        others = subst (λ (columns : Columns). KeepsIn (formats.Macho home) (columns_of c) columns) (sym kept) u.others;
        whole = refl;
      }

  frame_named : (m : Module) (tables : ModuleTables) (home : MachoModule) → module_at space.modules a ≡ Some m → m.tables ≡ tables → m.start ≤ a → IsFunction SystemV f → IsTrue (in_body f a) → format_by m tables ≡ formats.Macho home → (part : List Function) (d : DescribesMacho space.image home part) →
      HasListed space.image d.info d.personalities home f → MachoUndone (macho_step space.image home (a - home.base) (columns_of c)) (columns_of c) t → FormatFrame space c interrupted (formats.Macho home) f a t
  frame_named m (Elf frame) home holds is from is_function inside same = absurd cc
  frame_named m (Pe tables) home holds is from is_function inside same = absurd cc
  frame_named m (Macho tables) home holds is from is_function inside same =
      let here : module_of m tables ≡ home = cc in
      subst (λ (k : MachoModule). (part : List Function) (d : DescribesMacho space.image k part) → HasListed space.image d.info d.personalities k f →
      MachoUndone (macho_step space.image k (a - k.base) (columns_of c)) (columns_of c) t → FormatFrame space c interrupted (formats.Macho k) f a t) here (frame_in m tables holds is from is_function inside)

  -- a function of a Mach-O module
  pub framed : (home : MachoModule) → HoldsAt space.modules (formats.Macho home) a → IsFunction SystemV f → IsTrue (in_body f a) → (part : List Function) (d : DescribesMacho space.image home part) → Contains part f →
      MachoUndone (macho_step space.image home (a - home.base) (columns_of c)) (columns_of c) t → FormatFrame space c interrupted (formats.Macho home) f a t
  framed home at is_function inside part d has u =
      frame_named at.holder at.holder.tables home at.holds refl at.from is_function inside at.same part d (lists.all_contains (HasListed space.image d.info d.personalities home) part f d.each has) u
