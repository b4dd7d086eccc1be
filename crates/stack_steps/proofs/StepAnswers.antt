-- When a step answers that the stack ends, when the caller, and when each of its errors.
use Rattle.std.proofs.Common.{inl, inr, ◌≡◌, ◌≢◌, ℕ, ◌≤◌, Bool, true, false, List, [], ◌∷◌, Option, Some, None, Result, Ok, Err, refl, sym, ap, subst, ◌∙◌, arith, eqb, leb, ltb}
use Rattle.std.proofs.lemmas.Bool.{leb-true}
use Rattle.std.proofs.lemmas.Bool.Decides.{nat_tests, eqb_tells}
use Rattle.memory_image.specs.Image.{Span, word_at}
use Rattle.unwind_definitions.specs.declared.error.Error.{Error as Fault}
use Rattle.unwind_definitions.specs.LanguageSearch.{address_of_call}
use Rattle.unwind_laws.proofs.Booleans.{both_true}
use Rattle.unwind_arch.specs.declared.x86_64.Context.{Context}
use Rattle.macho_unwind_info.specs.declared.error.Error.{Error as MachoError}
use Rattle.format_frames.specs.declared.machine.Stepped.{Stepped}
use Rattle.stack_steps.specs.declared.error.DeliverError.{DeliverError}
use Rattle.stack_steps.specs.declared.error.DeliverError.TheVariants.{NoMemory, Unmapped, FrameLimit, PassLimit, NoResume, Table, MachO, CompactForm, PeInfo, ChainLimit}
use Rattle.stack_steps.specs.declared.space.Module.{Module}
use Rattle.stack_steps.specs.declared.space.ModuleTables.{ModuleTables}
use Rattle.stack_steps.specs.declared.space.ModuleTables.TheVariants.{Elf, Macho, Pe}
use Rattle.stack_steps.specs.Modules.{SpaceValue, contains, module_at}
use Rattle.stack_steps.specs.Frames.{FrameAt}
use Rattle.stack_steps.specs.Stepping.{frame_by_tables, frame_in, frame_of, step_of, FindsNoneIn, HasNoDescription, EndsAt, IsInModule, TablesFault, FaultsAt, SectionFaults, IsUnreadSection, HasNoForm, IsWithoutForm}
use Rattle.stack_steps.specs.Stepping.{RecordsUnread, IsUnreadInfo, ChainsTooMany, IsChainedTooLong, TablesRead, ReadIsUnmapped, TablesGive, GivesCaller}
use Rattle.stack_steps.proofs.ElfAnswers as elf
use Rattle.stack_steps.proofs.MachoAnswers as macho
use Rattle.stack_steps.proofs.PeAnswers as pe
use Rattle.stack_steps.proofs.StepParts.{stepped_by, step_is, none_framed}

-- the errors that a step may have
abbrev pub IsStepError : DeliverError → Type 0
IsStepError (Table e) = Unit {0}
IsStepError (Unmapped a) = Unit {0}
IsStepError (MachO e) = Unit {0}
IsStepError CompactForm = Unit {0}
IsStepError PeInfo = Unit {0}
IsStepError ChainLimit = Unit {0}
IsStepError _ = ⊥

none_by_tables : (image : List Span) (a : ℕ) (m : Module) (tables : ModuleTables) → frame_by_tables image a m tables ≡ Ok None → FindsNoneIn image m tables a
none_by_tables image a m (Elf tables) e = elf.ends image tables a e
none_by_tables image a m (Macho tables) e = macho.ends image m tables a e
none_by_tables image a m (Pe tables) e = pe.ends image m tables a e

by_tables_none : (image : List Span) (a : ℕ) (m : Module) (tables : ModuleTables) → FindsNoneIn image m tables a → frame_by_tables image a m tables ≡ Ok None
by_tables_none image a m (Elf tables) free = elf.of_ends image tables a free
by_tables_none image a m (Macho tables) free = macho.of_ends image m tables a free
by_tables_none image a m (Pe tables) free = pe.of_ends image m tables a free

none_in_module : (image : List Span) (a : ℕ) (o : Option Module) → frame_in image a o ≡ Ok None → HasNoDescription image o a
none_in_module image a None e = tt
none_in_module image a (Some m) e = none_by_tables image a m m.tables e

in_module_none : (image : List Span) (a : ℕ) (o : Option Module) → HasNoDescription image o a → frame_in image a o ≡ Ok None
in_module_none image a None free = refl
in_module_none image a (Some m) free = by_tables_none image a m m.tables free

module _ (space : SpaceValue) (c : Context) (interrupted : Bool) where
  abbrev asked : ℕ
  asked = address_of_call c.ra interrupted

  abbrev framed : Result (Option FrameAt) DeliverError
  framed = frame_of space c interrupted

  -- a step answers the end of the stack where it ends, and nowhere else
  pub step_ends : step_of space c interrupted ≡ Ok None → EndsAt space c interrupted
  unfolding frame_of
  step_ends e =
      let nothing : framed ≡ Ok None = none_framed space.image c framed (sym (step_is space c interrupted) ∙ e) in
      elim (eqb_tells c.ra 0) as (λ t. EndsAt space c interrupted) [
        | inl none ↦ inl none.1
        | inr some ↦ inr (some.1, none_in_module space.image asked (module_at space.modules asked) (rw some.0 at nothing))
      ]

  no_frame : EndsAt space c interrupted → framed ≡ Ok None
  unfolding frame_of
  no_frame (inl none) = rw none refl
  no_frame (inr u) =
      let some : c.ra ≢ 0 = u.0 in
      let nonzero : eqb c.ra 0 ≡ false = grind (arith, nat_tests) in
      rw nonzero (in_module_none space.image asked (module_at space.modules asked) u.1)

  pub ends_step : EndsAt space c interrupted → step_of space c interrupted ≡ Ok None
  ends_step ends = step_is space c interrupted ∙ ap (stepped_by space.image c) (no_frame ends)

-- ---- by the tables of a module

module _ (image : List Span) (c : Context) (m : Module) (a : ℕ) (from : m.start ≤ a) where
  abbrev tables_step : ModuleTables → Result (Option Stepped) DeliverError
  tables_step tables = stepped_by image c (frame_by_tables image a m tables)

  tables_read : (b : ℕ) (tables : ModuleTables) → tables_step tables ≡ Err (Unmapped b) → TablesRead image c b m tables a
  tables_read b (Elf tables) is = elf.reads image c tables a b is
  tables_read b (Macho tables) is = macho.reads image c m tables a from b is
  tables_read b (Pe tables) is = pe.reads image c m tables a b is

  read_tables : (b : ℕ) (tables : ModuleTables) → TablesRead image c b m tables a → tables_step tables ≡ Err (Unmapped b)
  read_tables b (Elf tables) at = elf.of_reads image c tables a b at
  read_tables b (Macho tables) at = macho.of_reads image c m tables a from b at
  read_tables b (Pe tables) at = pe.of_reads image c m tables a b at

  tables_fault : (e : Fault) (tables : ModuleTables) → tables_step tables ≡ Err (Table e) → TablesFault image c e m tables a
  tables_fault e (Elf tables) is = elf.faults image c tables a e is
  tables_fault e (Macho tables) is = macho.faults image c m tables a from e is
  tables_fault e (Pe tables) is = pe.only image c m tables a (Table e) is

  fault_tables : (e : Fault) (tables : ModuleTables) → TablesFault image c e m tables a → tables_step tables ≡ Err (Table e)
  fault_tables e (Elf tables) at = elf.of_faults image c tables a e at
  fault_tables e (Macho tables) at = macho.of_faults image c m tables a from e at
  fault_tables e (Pe tables) at = absurd at

  tables_section : (e : MachoError) (tables : ModuleTables) → tables_step tables ≡ Err (MachO e) → SectionFaults image c e m tables a
  tables_section e (Elf tables) is = elf.only image c tables a (MachO e) is
  tables_section e (Macho tables) is = macho.unread image c m tables a from e is
  tables_section e (Pe tables) is = pe.only image c m tables a (MachO e) is

  section_tables : (e : MachoError) (tables : ModuleTables) → SectionFaults image c e m tables a → tables_step tables ≡ Err (MachO e)
  section_tables e (Elf tables) at = absurd at
  section_tables e (Macho tables) at = macho.of_unread image c m tables a from e at
  section_tables e (Pe tables) at = absurd at

  tables_form : (tables : ModuleTables) → tables_step tables ≡ Err CompactForm → HasNoForm image c m tables a
  tables_form (Elf tables) is = elf.only image c tables a CompactForm is
  tables_form (Macho tables) is = macho.without_form image c m tables a from is
  tables_form (Pe tables) is = pe.only image c m tables a CompactForm is

  form_tables : (tables : ModuleTables) → HasNoForm image c m tables a → tables_step tables ≡ Err CompactForm
  form_tables (Elf tables) at = absurd at
  form_tables (Macho tables) at = macho.of_without_form image c m tables a from at
  form_tables (Pe tables) at = absurd at

  tables_unread : (tables : ModuleTables) → tables_step tables ≡ Err PeInfo → RecordsUnread image c m tables a
  tables_unread (Elf tables) is = elf.only image c tables a PeInfo is
  tables_unread (Macho tables) is = macho.only image c m tables a from PeInfo is
  tables_unread (Pe tables) is = pe.unread image c m tables a is

  unread_tables : (tables : ModuleTables) → RecordsUnread image c m tables a → tables_step tables ≡ Err PeInfo
  unread_tables (Elf tables) at = absurd at
  unread_tables (Macho tables) at = absurd at
  unread_tables (Pe tables) at = pe.of_unread image c m tables a at

  tables_limit : (tables : ModuleTables) → tables_step tables ≡ Err ChainLimit → ChainsTooMany image c m tables a
  tables_limit (Elf tables) is = elf.only image c tables a ChainLimit is
  tables_limit (Macho tables) is = macho.only image c m tables a from ChainLimit is
  tables_limit (Pe tables) is = pe.too_many image c m tables a is

  limit_tables : (tables : ModuleTables) → ChainsTooMany image c m tables a → tables_step tables ≡ Err ChainLimit
  limit_tables (Elf tables) at = absurd at
  limit_tables (Macho tables) at = absurd at
  limit_tables (Pe tables) at = pe.of_too_many image c m tables a at

  tables_give : (next : Stepped) (tables : ModuleTables) → tables_step tables ≡ Ok (Some next) → TablesGive image c next m tables a
  tables_give next (Elf tables) is = elf.gives image c tables a next is
  tables_give next (Macho tables) is = macho.gives image c m tables a from next is
  tables_give next (Pe tables) is = pe.gives image c m tables a next is

  give_tables : (next : Stepped) (tables : ModuleTables) → TablesGive image c next m tables a → tables_step tables ≡ Ok (Some next)
  give_tables next (Elf tables) at = elf.of_gives image c tables a next at
  give_tables next (Macho tables) at = macho.of_gives image c m tables a from next at
  give_tables next (Pe tables) at = pe.of_gives image c m tables a next at

  -- what isn't mapped
  tables_word : (b : ℕ) (tables : ModuleTables) → TablesRead image c b m tables a → word_at image b ≡ None
  tables_word b (Elf tables) at = elf.word image c tables a b at
  tables_word b (Macho tables) at = macho.word image c m tables a from b at
  tables_word b (Pe tables) at = pe.word image c m tables a b at

  tables_only : (e : DeliverError) (tables : ModuleTables) → tables_step tables ≡ Err e → IsStepError e
  tables_only e (Elf tables) is = of_elf e (elf.only image c tables a e is)
    where
      of_elf : (x : DeliverError) → elf.IsOf x → IsStepError x
      of_elf (Table f) of = tt
      of_elf (Unmapped b) of = tt
      of_elf NoMemory of = absurd of
      of_elf FrameLimit of = absurd of
      of_elf PassLimit of = absurd of
      of_elf (NoResume pad) of = absurd of
      of_elf (MachO e) of = absurd of
      of_elf CompactForm of = absurd of
      of_elf PeInfo of = absurd of
      of_elf ChainLimit of = absurd of
  tables_only e (Macho tables) is = of_macho e (macho.only image c m tables a from e is)
    where
      of_macho : (x : DeliverError) → macho.IsOf x → IsStepError x
      of_macho (Table f) of = tt
      of_macho (Unmapped b) of = tt
      of_macho (MachO e) of = tt
      of_macho CompactForm of = tt
      of_macho NoMemory of = absurd of
      of_macho FrameLimit of = absurd of
      of_macho PassLimit of = absurd of
      of_macho (NoResume pad) of = absurd of
      of_macho PeInfo of = absurd of
      of_macho ChainLimit of = absurd of
  tables_only e (Pe tables) is = of_pe e (pe.only image c m tables a e is)
    where
      of_pe : (x : DeliverError) → pe.IsOf x → IsStepError x
      of_pe (Unmapped b) of = tt
      of_pe PeInfo of = tt
      of_pe ChainLimit of = tt
      of_pe NoMemory of = absurd of
      of_pe FrameLimit of = absurd of
      of_pe PassLimit of = absurd of
      of_pe (NoResume pad) of = absurd of
      of_pe (Table e) of = absurd of
      of_pe (MachO e) of = absurd of
      of_pe CompactForm of = absurd of

-- ---- in a space

starts_below : (modules : List Module) (m : Module) (a : ℕ) → module_at modules a ≡ Some m → m.start ≤ a
starts_below [] m a found = absurd cc
starts_below (n ∷ ns) m a found = go (contains n a) refl (λ h. starts_below ns m a h)
  where
    go : (b : Bool) → contains n a ≡ b → (module_at ns a ≡ Some m → m.start ≤ a) → m.start ≤ a
    go true inside later =
        let here : module_at (n ∷ ns) a ≡ Some n = rw inside refl in
        let same : n ≡ m = cc in
        let low : n.start ≤ a = leb-true n.start a (both_true (leb n.start a) (ltb a n.end) inside).0 in
        subst (λ (k : Module). k.start ≤ a) same low
    go false outside later = let past : module_at ns a ≡ Some m = rw outside at found in later past

module _ (space : SpaceValue) (c : Context) (interrupted : Bool) where
  abbrev at_call : ℕ
  at_call = address_of_call c.ra interrupted

  abbrev here : Result (Option FrameAt) DeliverError
  here = frame_of space c interrupted

  abbrev step_in : Module → ModuleTables → Result (Option Stepped) DeliverError
  step_in m tables = stepped_by space.image c (frame_by_tables space.image at_call m tables)

  -- what a step answers, but the end of the stack, the module that holds the address does
  held_step : (P : Module → ModuleTables → ℕ → Type 0) (r : Result (Option Stepped) DeliverError) → r ≢ Ok None → ((m : Module) (tables : ModuleTables) → m.start ≤ at_call → step_in m tables ≡ r → P m tables at_call) →
      step_of space c interrupted ≡ r → IsInModule space c interrupted P
  unfolding frame_of
  held_step P r some each is = elim (eqb_tells c.ra 0) as (λ t. IsInModule space c interrupted P) [
    | inl nowhere ↦ let none : Ok None ≡ r = rw nowhere.0 at (sym (step_is space c interrupted) ∙ is) in absurd (some (sym none))
    | inr returns ↦ go returns.1 (module_at space.modules at_call) refl (rw returns.0 at (sym (step_is space c interrupted) ∙ is))
  ]
    where
      go : c.ra ≢ 0 → (o : Option Module) → module_at space.modules at_call ≡ o → stepped_by space.image c (frame_in space.image at_call o) ≡ r → IsInModule space c interrupted P
      go returns None holds steps = absurd (some (sym steps))
      go returns (Some m) holds steps = record { returns = returns; holder = m; holds = holds; is = each m m.tables (starts_below space.modules m at_call holds) steps }

  step_held : (P : Module → ModuleTables → ℕ → Type 0) (r : Result (Option Stepped) DeliverError) → ((m : Module) (tables : ModuleTables) → m.start ≤ at_call → P m tables at_call → step_in m tables ≡ r) →
      IsInModule space c interrupted P → step_of space c interrupted ≡ r
  unfolding frame_of
  step_held P r each added_module =
      let some : c.ra ≢ 0 = added_module.returns in
      let nonzero : eqb c.ra 0 ≡ false = grind (arith, nat_tests) in
      let m : Module = added_module.holder in
      let framed : here ≡ frame_by_tables space.image at_call m m.tables = rw (nonzero, added_module.holds) refl in
      step_is space c interrupted ∙ ap (stepped_by space.image c) framed ∙ each m m.tables (starts_below space.modules m at_call added_module.holds) added_module.is

  -- a step answers an address that isn't mapped where what is found reads there, and nowhere else
  pub step_read : (b : ℕ) → step_of space c interrupted ≡ Err (Unmapped b) → ReadIsUnmapped space c interrupted b
  step_read b e = held_step (TablesRead space.image c b) (Err (Unmapped b)) (λ h. absurd cc) (λ m tables from is. tables_read space.image c m at_call from b tables is) e

  pub read_step : (b : ℕ) → ReadIsUnmapped space c interrupted b → step_of space c interrupted ≡ Err (Unmapped b)
  read_step b at = step_held (TablesRead space.image c b) (Err (Unmapped b)) (λ m tables from is. read_tables space.image c m at_call from b tables is) at

  pub step_unmapped : (b : ℕ) → step_of space c interrupted ≡ Err (Unmapped b) → word_at space.image b ≡ None
  step_unmapped b e =
      let at = step_read b e in
      tables_word space.image c at.holder at_call (starts_below space.modules at.holder at_call at.holds) b at.holder.tables at.is

  -- a step answers a fault of tables where there is one, and nowhere else
  pub step_table : (e : Fault) → step_of space c interrupted ≡ Err (Table e) → FaultsAt space c interrupted e
  step_table e is = held_step (TablesFault space.image c e) (Err (Table e)) (λ h. absurd cc) (λ m tables from s. tables_fault space.image c m at_call from e tables s) is

  pub table_step : (e : Fault) → FaultsAt space c interrupted e → step_of space c interrupted ≡ Err (Table e)
  table_step e faults = step_held (TablesFault space.image c e) (Err (Table e)) (λ m tables from s. fault_tables space.image c m at_call from e tables s) faults

  -- the same of the faults of the other formats
  pub step_section : (e : MachoError) → step_of space c interrupted ≡ Err (MachO e) → IsUnreadSection space c interrupted e
  step_section e is = held_step (SectionFaults space.image c e) (Err (MachO e)) (λ h. absurd cc) (λ m tables from s. tables_section space.image c m at_call from e tables s) is

  pub section_step : (e : MachoError) → IsUnreadSection space c interrupted e → step_of space c interrupted ≡ Err (MachO e)
  section_step e faults = step_held (SectionFaults space.image c e) (Err (MachO e)) (λ m tables from s. section_tables space.image c m at_call from e tables s) faults

  pub step_form : step_of space c interrupted ≡ Err CompactForm → IsWithoutForm space c interrupted
  step_form is = held_step (HasNoForm space.image c) (Err CompactForm) (λ h. absurd cc) (λ m tables from s. tables_form space.image c m at_call from tables s) is

  pub form_step : IsWithoutForm space c interrupted → step_of space c interrupted ≡ Err CompactForm
  form_step none = step_held (HasNoForm space.image c) (Err CompactForm) (λ m tables from s. form_tables space.image c m at_call from tables s) none

  pub step_info : step_of space c interrupted ≡ Err PeInfo → IsUnreadInfo space c interrupted
  step_info is = held_step (RecordsUnread space.image c) (Err PeInfo) (λ h. absurd cc) (λ m tables from s. tables_unread space.image c m at_call from tables s) is

  pub info_step : IsUnreadInfo space c interrupted → step_of space c interrupted ≡ Err PeInfo
  info_step unread = step_held (RecordsUnread space.image c) (Err PeInfo) (λ m tables from s. unread_tables space.image c m at_call from tables s) unread

  pub step_limit : step_of space c interrupted ≡ Err ChainLimit → IsChainedTooLong space c interrupted
  step_limit is = held_step (ChainsTooMany space.image c) (Err ChainLimit) (λ h. absurd cc) (λ m tables from s. tables_limit space.image c m at_call from tables s) is

  pub limit_step : IsChainedTooLong space c interrupted → step_of space c interrupted ≡ Err ChainLimit
  limit_step many = step_held (ChainsTooMany space.image c) (Err ChainLimit) (λ m tables from s. limit_tables space.image c m at_call from tables s) many

  -- a step answers the caller that the tables of a module give, and nothing else
  pub step_caller : (next : Stepped) → step_of space c interrupted ≡ Ok (Some next) → GivesCaller space c interrupted next
  step_caller next is = held_step (TablesGive space.image c next) (Ok (Some next)) (λ h. absurd cc) (λ m tables from s. tables_give space.image c m at_call from next tables s) is

  pub caller_step : (next : Stepped) → GivesCaller space c interrupted next → step_of space c interrupted ≡ Ok (Some next)
  caller_step next at = step_held (TablesGive space.image c next) (Ok (Some next)) (λ m tables from s. give_tables space.image c m at_call from next tables s) at

  -- no other error is one of a step
  pub step_errors : (e : DeliverError) → step_of space c interrupted ≡ Err e → IsStepError e
  step_errors e is =
      let added_module = held_step (λ m tables a. IsStepError e) (Err e) (λ h. absurd cc) (λ m tables from s. tables_only space.image c m at_call from e tables s) is in
      added_module.is
