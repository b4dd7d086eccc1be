-- The line from a context that shows the start of a described chain shows the chain's states.
use Rattle.std.proofs.Common.{inl, inr, ◌≡◌, ◌≢◌, ℕ, zero, suc, ◌-◌, ◌<◌, Bool, true, false, List, [], ◌∷◌, length, Option, Some, None, Result, Ok, Err, ◌^◌, refl, sym, ap, ◌∙◌, subst, arith, eqb}
use Rattle.std.specs.Prelude.{◌⊎◌, ◌+◌, IsTrue}
use Rattle.std.specs.List.{Contains, AllByRecursion}
use Rattle.std.proofs.lemmas.Bool.Decides.{nat_tests}
use Rattle.memory_image.specs.Image.{Span, IsLaidOut}
use Rattle.unwind_definitions.specs.declared.error.Error.TheVariants.{NoUnwindInfoForAddress}
use Rattle.unwind_definitions.specs.State.{State, Shows}
use Rattle.unwind_definitions.specs.Scan.{fdes_of, scan}
use Rattle.unwind_definitions.specs.LanguageTable.{input_at}
use Rattle.unwind_definitions.specs.LanguageSearch.{address_of_call}
use Rattle.unwind_definitions.specs.Function.{Function}
use Rattle.unwind_definitions.specs.Chain.{Call, IsLink, IsEnd, IsChain, states_of}
use Rattle.format_definitions.specs.Calls.{IsDescribedCall}
use Rattle.format_definitions.specs.Modules.{in_format, MachoCoversNot, IsUncoveredIn, IsUncoveredBy, LiesDescribed}
use Rattle.format_definitions.specs.CompactStep.{MachoModule, compact_step, answered_by, found_in, macho_step}
use Rattle.format_definitions.specs.CompactStep.{stepped_by as stepped_in}
use Rattle.format_definitions.specs.CompactStep as compact
use Rattle.macho_unwind_info.specs.declared.error.Error as macho
use Rattle.macho_unwind_info.specs.declared.function.Function.{Function as Listed}
use Rattle.macho_unwind_info.specs.Lookup.{lookup_of}
use Rattle.macho_unwind_info.specs.X86_64.{opcode_of}
use Rattle.unwind_definitions.specs.Caller.{Columns, StepFault}
use Rattle.format_laws.proofs.Steps.{uncovered_ends, state_in}
use Rattle.format_frames.specs.Refusals.{looked_up, function_at}
use Rattle.unwind_definitions.specs.Module as described
use Rattle.unwind_laws.proofs.Booleans as lists
use Rattle.unwind_laws.proofs.Found.{not_found}
use Rattle.unwind_arch.specs.declared.x86_64.Context.{Context}
use Rattle.fde_finders.specs.declared.custom.FrameInfo.{FrameInfo}
use Rattle.stack_steps.specs.declared.space.Module.{Module}
use Rattle.stack_steps.specs.declared.space.MachoTables.{MachoTables}
use Rattle.stack_steps.specs.declared.space.ModuleTables.{ModuleTables}
use Rattle.stack_steps.specs.declared.space.ModuleTables.TheVariants.{Elf, Macho, Pe}
use Rattle.fde_finders.specs.declared.custom.FrameInfoKind.{FrameInfoKind}
use Rattle.fde_finders.specs.declared.custom.FrameInfoKind.TheVariants.{EhFrame, EhFrameHdr}
use Rattle.unwind_arch.specs.ContextViews.{columns_of}
use Rattle.stack_steps.specs.Modules.{SpaceValue, AreApart, contains, module_at}
use Rattle.stack_steps.specs.SpaceViews.{tables_of, elf_module, format_by, format_of, formats_of}
use Rattle.fde_finders.specs.Finding.{table_bases}
use Rattle.fde_finders.specs.Named.{found_by_kind}
use Rattle.stack_steps.specs.Macho.{module_of as macho_of, compact_frame}
use Rattle.stack_steps.specs.Stepping.{frame_by_tables, frame_in, frame_of, step_of}
use Rattle.stack_steps.proofs.StepParts.{stepped_by, step_is}
use Rattle.stack_walks.specs.Lines.{line_of}
use Rattle.stack_steps.specs.Undoing.{UndoneIn}
use Rattle.stack_walks.specs.Walking.{EachShows}
use Rattle.stack_steps.proofs.HeaderFinds.{header_finds_none}
use Rattle.stack_steps.proofs.Holders.{in_formats}
use Rattle.stack_steps.proofs.MetCalls.{format_undone}

-- a module that is found is one of the space's, and contains the address
module_at-found : (modules : List Module) (m : Module) (a : ℕ) → module_at modules a ≡ Some m → Contains modules m × IsTrue (contains m a)
module_at-found [] m a found = absurd cc
module_at-found (n ∷ ns) m a found = go (contains n a) refl (λ h. module_at-found ns m a h)
  where
    go : (b : Bool) → contains n a ≡ b → (module_at ns a ≡ Some m → Contains ns m × IsTrue (contains m a)) → Contains (n ∷ ns) m × IsTrue (contains m a)
    go true inside later =
        let here : module_at (n ∷ ns) a ≡ Some n = rw inside refl in
        let same : n ≡ m = cc in
        (subst (λ (k : Module). Contains (n ∷ ns) k) same (lists.first n ns), subst (λ (k : Module). IsTrue (contains k a)) same inside)
    go false outside later =
        let past : module_at ns a ≡ Some m = rw outside at found in
        let r = later past in
        (lists.later n ns m r.0, r.1)

-- modules that are apart are not empty
not_empty : (low : ℕ) (modules : List Module) (m : Module) → AreApart low modules → Contains modules m → m.start < m.end
not_empty low [] m apart has = absurd (lists.none_in_nil m has)
not_empty low (n ∷ ns) m apart has = elim (lists.here_or_later n ns m has) [
  | inl same ↦ subst (λ (k : Module). k.start < k.end) same apart.1
  | inr more ↦ not_empty n.end ns m apart.2 more
]

-- an address that a module contains lies in it by its format
inside_format : (m : Module) (a : ℕ) → m.start < m.end → IsTrue (contains m a) → (tables : ModuleTables) → IsTrue (in_format a (format_by m tables))
inside_format m a some inside (Elf t) = inside
inside_format m a some inside (Macho t) = let end : m.start + (m.end - m.start) ≡ m.end = omega arith in rw end inside
inside_format m a some inside (Pe t) = let end : m.start + (m.end - m.start) ≡ m.end = omega arith in rw end inside

-- where a step in a Mach-O module ends the stack, nothing is found
no_columns : Columns
no_columns = λ k. None

finds_none : (image : List Span) (m : MachoModule) (rva : ℕ) (columns : Columns) (found : Result (Option Listed) macho.Error) → stepped_in image m rva columns found ≡ Ok None → found ≡ Ok None
finds_none image m rva columns (Err e) ends = absurd cc
finds_none image m rva columns (Ok None) ends = refl
finds_none image m rva columns (Ok (Some listed)) ends = absurd (answers (compact_step image m.frames (m.base + listed.start_address) (m.base + rva) columns (opcode_of listed.opcode)) ends)
  where
    answers : (o : Option (Result compact.Stepped StepFault)) → answered_by o ≡ Ok None → ⊥
    answers None e = absurd cc
    answers (Some (Ok caller)) e = absurd cc
    answers (Some (Err f)) e = absurd cc

module _ (space : SpaceValue) where
  -- nothing is found for the address by a module's frame table, which doesn't contain it, or by the header that lists it
  pub in_no_entry : IsLaidOut 0 space.image → (a : ℕ) (m : Module) (t : FrameInfo) → described.CoversNot space.image (elf_module m.start m.end t) a → (kind : FrameInfoKind) → t.kind ≡ kind → found_by_kind t.text_base kind space.image a ≡ None
  in_no_entry laid a m t u (EhFrameHdr h) named =
      let tables : tables_of t.kind ≡ described.Header h = ap tables_of named in
      let lists : described.IsHeaderTable space.image h u.frame (fdes_of u.entries) = subst (λ (t : described.Tables). described.HeaderLists space.image t u.frame (fdes_of u.entries)) tables u.header in
      header_finds_none space.image (elf_module m.start m.end t) a u h tables lists laid
  in_no_entry laid a m t u (EhFrame f) named =
      let address : described.frame_address space.image (described.Frames f) ≡ Some u.frame =
      subst (λ (k : FrameInfoKind). described.frame_address space.image (tables_of k) ≡ Some u.frame) named u.address in
      let place : f ≡ u.frame = cc in
      let header : described.header_of (tables_of t.kind) ≡ None = rw named refl in
      let none : scan (described.bases_of (elf_module m.start m.end t) f) (input_at space.image f) a ≡ Err NoUnwindInfoForAddress =
      subst (λ (g : ℕ). scan (described.bases_of (elf_module m.start m.end t) g) (input_at space.image g) a ≡ Err NoUnwindInfoForAddress) (sym place) (not_found space.image (elf_module m.start m.end t) a u) in
      let same : table_bases t.text_base f ≡ described.bases_of (elf_module m.start m.end t) f = rw header refl in
      rw (same, none) refl

  -- no function of the listing of a Mach-O module covers the address
  pub none_listed : (a : ℕ) (m : Module) (t : MachoTables) → MachoCoversNot space.image (macho_of m t) a → function_at space.image (macho_of m t) (a - m.start) ≡ Ok None
  none_listed a m t u =
      let ends : macho_step space.image (macho_of m t) (a - m.start) no_columns ≡ Ok None = uncovered_ends space.image (macho_of m t) a no_columns u in
      let found : function_at space.image (macho_of m t) (a - m.start) ≡ lookup_of u.info (a - m.start) = ap (looked_up (a - m.start)) u.parses in
      let steps : macho_step space.image (macho_of m t) (a - m.start) no_columns ≡ stepped_in space.image (macho_of m t) (a - m.start) no_columns (lookup_of u.info (a - m.start)) = ap (found_in space.image (macho_of m t) (a - m.start) no_columns) u.parses in
      found ∙ finds_none space.image (macho_of m t) (a - m.start) no_columns (lookup_of u.info (a - m.start)) (sym steps ∙ ends)

  -- nothing covers the address in the module that holds it
  pub uncovered_there : AreApart 0 space.modules → (a : ℕ) → IsUncoveredBy space.image (formats_of space) a → (m : Module) → module_at space.modules a ≡ Some m → IsUncoveredIn space.image (format_by m m.tables) a
  uncovered_there apart a free m found =
      let r = module_at-found space.modules m a found in
      free (format_of m) (in_formats space.modules m r.0) (inside_format m a (not_empty 0 space.modules m apart r.0) r.1 m.tables)

  -- an address that nothing covers ends the stack
  pub by_module : AreApart 0 space.modules → IsLaidOut 0 space.image → (a : ℕ) → IsUncoveredBy space.image (formats_of space) a → (o : Option Module) → module_at space.modules a ≡ o → frame_in space.image a o ≡ Ok None
  by_module apart laid a free None found = refl
  by_module apart laid a free (Some m) found = by_tables m.tables (uncovered_there apart a free m found)
    where
      by_tables : (tables : ModuleTables) → IsUncoveredIn space.image (format_by m tables) a → frame_by_tables space.image a m tables ≡ Ok None
      by_tables (Elf t) u = rw (in_no_entry laid a m t u t.kind refl) refl
      by_tables (Macho t) u = ap (compact_frame space.image (macho_of m t) a) (none_listed a m t u)
      by_tables (Pe t) u = absurd u

  -- the stack ends where the return address is 0 or no function covers it
  pub ends : AreApart 0 space.modules → IsLaidOut 0 space.image → (functions : List Function) (c : Context) (s : State) → Shows (columns_of c) s → IsEnd space.image (IsUncoveredBy space.image (formats_of space)) functions s → frame_of space c false ≡ Ok None
  unfolding frame_of
  ends apart laid functions c s shows end = go end.ends
    where
      go : (s.ra ≡ 0) ⊎ ((s.ra ≢ 0) × IsUncoveredBy space.image (formats_of space) (s.ra - 1)) → frame_of space c false ≡ Ok None
      go (inl none) = let e : columns_of c 16 ≡ Some s.ra = shows.ra in let at : c.ra ≡ 0 = cc in rw at refl
      go (inr u) =
          let e : columns_of c 16 ≡ Some s.ra = shows.ra in
          let at : c.ra ≡ s.ra = cc in
          let some : s.ra ≢ 0 = u.0 in
          let nonzero : eqb c.ra 0 ≡ false = grind (arith, nat_tests) in
          let low : s.ra < 2 ^ 64 = end.state.ra in
          let asked : address_of_call c.ra false ≡ s.ra - 1 = omega arith in
          rw (nonzero, asked) (by_module apart laid (s.ra - 1) u.1 (module_at space.modules (s.ra - 1)) refl)

  pub step_ends : AreApart 0 space.modules → IsLaidOut 0 space.image → (functions : List Function) (c : Context) (s : State) → Shows (columns_of c) s → IsEnd space.image (IsUncoveredBy space.image (formats_of space)) functions s → step_of space c false ≡ Ok None
  step_ends apart laid functions c s shows end = step_is space c false ∙ ap (stepped_by space.image c) (ends apart laid functions c s shows end)

  -- a call of a chain is described
  unfoldable pub call_in : (functions : List Function) (s : State) (k : Call) (calls : List Call) → IsChain space.image (IsUncoveredBy space.image (formats_of space)) functions s (k ∷ calls) → LiesDescribed space.image (formats_of space) functions k.callee →
      IsDescribedCall space.image (formats_of space) functions s k
  call_in functions s k calls chain lies =
      let link : IsLink space.image functions s k calls = chain.0 in
      record {
        listed = link.listed;
        lies = lies;
        called = link.called;
        caller = state_in space.image (formats_of space) functions k.caller calls chain.1;
        ends = λ outer. (link.last outer).1;
      }

  -- The line from a context that shows the start of a chain, where there is room for it.
  pub line_shows : AreApart 0 space.modules → IsLaidOut 0 space.image → (functions : List Function) (s : State) (calls : List Call) (c : Context) (room : ℕ) →
      IsChain space.image (IsUncoveredBy space.image (formats_of space)) functions s calls → AllByRecursion (λ (k : Call). LiesDescribed space.image (formats_of space) functions k.callee) calls → Shows (columns_of c) s → length calls < room →
      (cs : List Context) × (line_of space room c false ≡ Ok cs) × EachShows cs (states_of s calls)
  unfolding call_in
  line_shows apart laid functions s [] c zero chain lie shows less = absurd (omega arith)
  line_shows apart laid functions s [] c (suc room) chain lie shows less = (c ∷ [], rw (step_ends apart laid functions c s shows chain) refl, (shows, tt))
  line_shows apart laid functions s (k ∷ calls) c zero chain lie shows less = absurd (omega arith)
  line_shows apart laid functions s (k ∷ calls) c (suc room) chain lie shows less =
      let step : UndoneIn lie.0.home (step_of space c false) (columns_of c) k.caller = format_undone space c functions s k apart laid (call_in functions s k calls chain lie.0) shows chain.0.state.ra in
      let fewer : length calls < room = omega arith in
      let rest = line_shows apart laid functions k.caller calls step.next.context room chain.1 lie.1 step.shows fewer in
      (c ∷ rest.0, rw (step.answered, step.unmarked, rest.1) refl, (shows, rest.2))
