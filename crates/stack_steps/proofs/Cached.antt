-- A row that is kept is the one that a search finds.
use Rattle.std.proofs.Common.{inl, inr, Bor, ◌≡◌, ◌≢◌, ℕ, zero, suc, ◌+◌, ◌^◌, ◌<◌, ◌≤◌, Bool, List, [], ◌∷◌, length, get_or, set, Option, Some, None, Result, Ok, Err, refl, sym, ap, subst, ◌∙◌, arith}
use Rattle.std.specs.Prelude.{IfSome, IsNone, MatchOption}
use Rattle.std.specs.List.{AllByRecursion}
use Rattle.std.specs.Option.{option_map}
use Rattle.std.proofs.lemmas.Bool.{eq-eqb, ne_eqb}
use Rattle.memory_image.specs.Image.{Span, IsLaidOut}
use Rattle.unwind_definitions.specs.LanguageSearch.{address_of_call}
use Rattle.unwind_arch.specs.declared.x86_64.Context.{Context}
use Rattle.eh_frame.specs.Index.{AreFewSteps, Index}
use Rattle.fde_finders.specs.declared.custom.FrameInfo.{FrameInfo}
use Rattle.fde_finders.specs.Named.{found_by}
use Rattle.format_frames.specs.declared.machine.Stepped.{Stepped}
use Rattle.frame_rows.specs.Rows.{IsRowOf}
use Rattle.stack_steps.specs.declared.error.DeliverError.{DeliverError}
use Rattle.stack_steps.specs.declared.frame_cache.CachedRow.{CachedRow}
use Rattle.stack_steps.specs.declared.functions.DescribedFunction.{DescribedFunction}
use Rattle.stack_steps.specs.declared.prepared.PreparedTable.{PreparedTable}
use Rattle.stack_steps.specs.declared.space.AddedModule.{AddedModule}
use Rattle.stack_steps.specs.declared.space.Module.{Module}
use Rattle.stack_steps.specs.declared.space.ModuleTables.{ModuleTables}
use Rattle.stack_steps.specs.declared.space.ModuleTables.TheVariants.{Elf, Macho, Pe}
use Rattle.stack_steps.specs.AddedModule.{IsAddedModule, IsTable, IsTableIn, IsTableOf, added_of, holder_of, index_in}
use Rattle.stack_steps.specs.Caching.{AreCached, Finds, GivesRowDue, IsCached, IsCachedPlace, IsFree, IsHolder, IsRowDue, Keeps, cached_function}
use Rattle.stack_steps.specs.Elf.{caller, frame_by}
use Rattle.stack_steps.specs.Functions.{described_at, described_function, described_in, function_of}
use Rattle.stack_steps.specs.Frames.{FrameAt, DescribedFrame}
use Rattle.stack_steps.specs.Growing.{IsSeenOver}
use Rattle.stack_steps.specs.Modules.{SpaceValue, module_at}
use Rattle.stack_steps.specs.ModulesAsked.{IsAsked}
use Rattle.stack_steps.specs.Preparing.{index_at}
use Rattle.stack_steps.specs.Stepping.{frame_by_tables, frame_in, frame_of, step_of}
use Rattle.stack_steps.specs.Ticking.{TicksAt, TicksBy}
use Rattle.stack_steps.proofs.Growing.{held_stays}
use Rattle.stack_steps.proofs.StepParts.{found_framed, some_next, step_is, stepped_by}

-- ---- the places

module _ (space : SpaceValue) where
  free_cached : (place : Option CachedRow) → IsFree place → IsCachedPlace space place
  free_cached None is = tt
  free_cached (Some k) is = absurd cc

  pub all_free : (places : List (Option CachedRow)) → AllByRecursion IsFree places → AreCached space places
  all_free [] all = tt
  all_free (p ∷ ps) all = (free_cached p all.0, all_free ps all.1)

  set_cached : (places : List (Option CachedRow)) (i : ℕ) (k : CachedRow) → AreCached space places → IsCached space k → AreCached space (set places i (Some k))
  set_cached [] zero k all one = tt
  set_cached [] (suc i) k all one = tt
  set_cached (p ∷ ps) zero k all one = (one, all.1)
  set_cached (p ∷ ps) (suc i) k all one = (all.0, set_cached ps i k all.1 one)

  pub kept_cached : (old new : List (Option CachedRow)) (k : CachedRow) → Keeps old k new → AreCached space old → IsCached space k → AreCached space new
  kept_cached old new k (inl same) all one = subst (AreCached space) (sym same) all
  kept_cached old new k (inr kept) all one = subst (AreCached space) (sym kept.1) (set_cached old kept.0 k all one)

  at_place : (places : List (Option CachedRow)) (i : ℕ) (k : CachedRow) → i < length places → get_or places i None ≡ Some k → AreCached space places → IsCached space k
  at_place [] i k lt is all = absurd (omega arith)
  at_place (p ∷ ps) zero k lt is all = subst (IsCachedPlace space) is all.0
  at_place (p ∷ ps) (suc i) k lt is all = at_place ps i k (omega arith) is all.1

  pub found_cached : (places : List (Option CachedRow)) (a : ℕ) (k : CachedRow) → Finds places a k → AreCached space places → IsCached space k
  found_cached places a k f all = at_place places f.index k f.within f.there all

-- ---- the module that a look-up answers

pub held_of : (space : SpaceValue) (a : ℕ) (o : Option (Bor AddedModule)) → option_map (λ added_module. holder_of added_module.now) o ≡ module_at space.modules a → MatchOption o (index_at space.added a ≡ None) (λ added_module. index_at space.added a ≡ (added_of added_module.now).index) →
    IfSome o (λ added_module. IsAddedModule space.image added_module.now) → IfSome o (λ added_module. IsHolder space a added_module.now)
held_of space a None module_is index_is table_is = tt
held_of space a (Some m) module_is index_is table_is = record { holds = sym module_is; indexed = index_is; added = table_is }

-- ---- the table of a prepared module

record IsElf (image : List Span) (tables : ModuleTables) (t : PreparedTable) : Type 0 where
  pub info : FrameInfo
  pub is : tables ≡ Elf info
  pub table : IsTableOf image info t

elf_table : (image : List Span) (tables : ModuleTables) (t : PreparedTable) → IsTableIn image tables t → IsElf image tables t
elf_table image (Elf info) t is = record { info = info; is = refl; table = is }
elf_table image (Macho tables) t is = absurd is
elf_table image (Pe tables) t is = absurd is

table_there : (image : List Span) (m : AddedModule) (t : PreparedTable) → IsAddedModule image m → m.table ≡ Some t → IsElf image m.holder.tables t
table_there image m t added is = elf_table image m.holder.tables t (subst (IsTable image m.holder.tables) is added.is_table)

-- what is found at an address of such a module, over whatever image
abbrev pub GivesOver : PreparedTable → ℕ → Result (Option CachedRow) DeliverError → Type 0
GivesOver t a given = (image : List Span) (tables : FrameInfo) → IsLaidOut 0 image → IsTableOf image tables t → GivesRowDue given (frame_by a (found_by tables image a))

pub described_is : (space : SpaceValue) (a : ℕ) (o : Option Module) → module_at space.modules a ≡ o → described_function space a ≡ described_at space.image a o
unfolding described_function
described_is space a o is = ap (described_at space.image a) is

pub new_cached : (space : SpaceValue) (m : AddedModule) (t : PreparedTable) (a : ℕ) (k : CachedRow) → IsHolder space a m → m.table ≡ Some t → k.address ≡ a → GivesOver t a (Ok (Some k)) → IsCached space k
new_cached space m t a k held is at gives = record {
  holder = m.holder;
  holds = here;
  index = t.index;
  prepared = ap (index_at space.added) at ∙ held.indexed ∙ ap (option_map index_in) is;
  some = (table_there space.image m t held.added is).table.prepared.some;
  described = λ laid.
      let e = table_there space.image m t held.added is in
      let due = gives space.image e.info laid e.table in
      let one : described_function space k.address ≡ described_in space.image a m.holder.tables = described_is space k.address (Some m.holder) here ∙ ap (λ n. described_in space.image n m.holder.tables) at in
      one ∙ ap (described_in space.image a) e.is ∙ ap (option_map function_of) (found_framed a (found_by e.info space.image a) due.frame due.is_due) ∙ (λ i. Some (record { start = sym due.start i; signal = sym due.signal i }));
  found = λ image laid grows.
      let e = table_there image m t (held_stays space.image image grows m held.added) is in
      let due : frame_by a (found_by e.info image a) ≡ frame_in image k.address (module_at space.modules k.address) =
      sym (ap (λ n. frame_in image n (module_at space.modules n)) at ∙ ap (frame_in image a) held.holds ∙ ap (frame_by_tables image a m.holder) e.is) in
      subst (λ d. IsRowDue d k) due (gives image e.info laid e.table);
}
  where
    here : module_at space.modules k.address ≡ Some m.holder
    here = ap (module_at space.modules) at ∙ held.holds

-- the function that the index of such a module finds
pub held_function : (image : List Span) (m : AddedModule) (t : PreparedTable) (a : ℕ) (given : Option DescribedFunction) → IsLaidOut 0 image → IsAddedModule image m → m.table ≡ Some t →
    ((over : List Span) (tables : FrameInfo) → IsLaidOut 0 over → IsTableOf over tables t → given ≡ option_map function_of (found_by tables over a)) → given ≡ described_in image a m.holder.tables
held_function image m t a given laid added is finds =
    let e = table_there image m t added is in
    finds image e.info laid e.table ∙ sym (ap (described_in image a) e.is)

-- the function of a row that is kept
pub kept_function : (space : SpaceValue) (k : CachedRow) (a : ℕ) → IsLaidOut 0 space.image → IsCached space k → k.address ≡ a → Some (cached_function k) ≡ described_function space a
kept_function space k a laid is at = sym (is.described laid) ∙ ap (described_function space) at

-- ---- steps

some_module : (x y : Module) → Some x ≡ Some y → x ≡ y
some_module x y e = cc

few_digits : (digits count old new : ℕ) → 0 < count → count < 2 ^ digits → new ≡ old + 1 → new ≤ old + digits
few_digits zero count old new some fits one = absurd (omega arith)
few_digits (suc d) count old new some fits one = omega arith

pub unframed_step : (seen : SpaceValue) (c : Context) (interrupted : Bool) → frame_of seen c interrupted ≡ Ok None → Ok None ≡ step_of seen c interrupted
unframed_step seen c interrupted none = sym (step_is seen c interrupted ∙ ap (stepped_by seen.image c) none)

-- the stack ends at a return address of 0
pub outermost_step : (seen : SpaceValue) (c : Context) (interrupted : Bool) → c.ra ≡ 0 → Ok None ≡ step_of seen c interrupted
unfolding frame_of
outermost_step seen c interrupted none = unframed_step seen c interrupted (rw (eq-eqb c.ra 0 none) refl)

module _ (space seen : SpaceValue) (over : IsSeenOver space seen) (c : Context) (interrupted : Bool) (returns : c.ra ≢ 0) where
  abbrev asked : ℕ
  asked = address_of_call c.ra interrupted

  module_same : module_at seen.modules asked ≡ module_at space.modules asked
  module_same = ap (λ (s : SpaceValue). module_at s.modules asked) over.same

  index_same : index_at seen.added asked ≡ index_at space.added asked
  index_same = ap (λ (s : SpaceValue). index_at s.added asked) over.same

  framed : frame_of seen c interrupted ≡ frame_in seen.image asked (module_at space.modules asked)
  unfolding frame_of
  framed = rw (ne_eqb c.ra 0 returns) (ap (frame_in seen.image asked) module_same)

  -- what is counted in a module that holds the address
  held_ticks : (m : Module) (o : Option Index) (old new : ℕ) → module_at space.modules asked ≡ Some m → index_at space.added asked ≡ o → TicksBy seen.image m o old new → TicksAt seen c interrupted old new
  held_ticks m o old new holds indexed ticks = record {
    ends = λ none. absurd (returns none);
    nowhere = λ some none. absurd (never none);
    somewhere = λ some n there.
        subst (λ (p : Option Index). TicksBy seen.image n p old new) (sym (index_same ∙ indexed))
        (subst (λ (l : Module). TicksBy seen.image l o old new) (some_module m n (sym (module_same ∙ holds) ∙ there)) ticks);
  }
    where
      never : module_at seen.modules asked ≡ None → ⊥
      never none = let both : None ≡ Some m = sym none ∙ module_same ∙ holds in cc

  -- ---- by a row that is kept

  stepped : (due : Result (Option FrameAt) DeliverError) (k : CachedRow) (next : Stepped) → frame_of seen c interrupted ≡ due → IsRowDue due k → ((f : DescribedFrame) → IsRowOf k.row f.run → k.signal ≡ f.found.fde.cie.letters.signal → caller seen.image c f ≡ Ok next) →
      Ok (Some next) ≡ step_of seen c interrupted
  stepped due k next is r calls = sym (step_is seen c interrupted ∙ ap (stepped_by seen.image c) (is ∙ r.is_due) ∙ ap some_next (calls r.frame r.row r.signal))

  pub kept_step : IsLaidOut 0 seen.image → (k : CachedRow) (next : Stepped) → IsCached space k → k.address ≡ asked → ((f : DescribedFrame) → IsRowOf k.row f.run → k.signal ≡ f.found.fde.cie.letters.signal → caller seen.image c f ≡ Ok next) →
      Ok (Some next) ≡ step_of seen c interrupted
  kept_step laid k next is at calls =
      let r : IsRowDue (frame_in seen.image asked (module_at space.modules asked)) k = subst (λ a. IsRowDue (frame_in seen.image a (module_at space.modules a)) k) at (is.found seen.image laid over.grows) in
      stepped (frame_in seen.image asked (module_at space.modules asked)) k next framed r calls

  pub kept_ticks : (k : CachedRow) (old new : ℕ) → IsCached space k → k.address ≡ asked → new ≡ old + 1 → TicksAt seen c interrupted old new
  kept_ticks k old new is at one =
      let few : AreFewSteps (length is.index.functions) old new = record { one = omega arith; digits = λ digits fits. few_digits digits (length is.index.functions) old new is.some fits one } in
      held_ticks is.holder (Some is.index) old new (ap (module_at space.modules) (sym at) ∙ is.holds) (ap (index_at space.added) (sym at) ∙ is.prepared) few

  -- ---- by a search

  pub asked_by : (m : AddedModule) → IsHolder space asked m → m.holder.start ≤ asked → asked < m.holder.end → IsAsked seen c interrupted m
  asked_by m held from within = record {
    added = held_stays space.image seen.image over.grows m held.added;
    frame = framed ∙ ap (frame_in seen.image asked) held.holds;
    from = from;
    within = within;
    ticks = λ old new ticks. held_ticks m.holder (added_of m).index old new held.holds held.indexed ticks;
  }

  pub none_framed : module_at space.modules asked ≡ None → frame_of seen c interrupted ≡ Ok None
  none_framed none = framed ∙ ap (frame_in seen.image asked) none

  pub none_ticked : module_at space.modules asked ≡ None → index_at space.added asked ≡ None → (n : ℕ) → TicksAt seen c interrupted n n
  none_ticked none unindexed n = record {
    ends = λ none. refl;
    nowhere = λ some gone. (index_same ∙ unindexed, refl);
    somewhere = λ some m there. let both : None ≡ Some m = sym none ∙ sym module_same ∙ there in absurd cc;
  }

  -- of the module that a look-up answers
  pub asked_of : (a : ℕ) (o : Option (Bor AddedModule)) → a ≡ asked → IfSome o (λ added_module. IsHolder space a added_module.now) → IfSome o (λ added_module. (added_module.now.holder.start ≤ a) × (a < added_module.now.holder.end)) →
      IfSome o (λ added_module. IsAsked seen c interrupted added_module.now)
  asked_of a None at held within = tt
  asked_of a (Some m) at held within =
      let here = subst (λ n. (m.now.holder.start ≤ n) × (n < m.now.holder.end)) at within in
      asked_by m.now (subst (λ n. IsHolder space n m.now) at held) here.0 here.1

  pub ends_of : (a : ℕ) (o : Option (Bor AddedModule)) → a ≡ asked → option_map (λ added_module. holder_of added_module.now) o ≡ module_at space.modules a → IsNone o → frame_of seen c interrupted ≡ Ok None
  ends_of a None at module_is none = none_framed (sym (module_is ∙ ap (module_at space.modules) at))
  ends_of a (Some m) at module_is none = absurd cc

  pub unsearched_of : (a : ℕ) (o : Option (Bor AddedModule)) → a ≡ asked → option_map (λ added_module. holder_of added_module.now) o ≡ module_at space.modules a → MatchOption o (index_at space.added a ≡ None) (λ added_module. index_at space.added a ≡ (added_of added_module.now).index) →
      (n : ℕ) → IsNone o → TicksAt seen c interrupted n n
  unsearched_of a None at module_is index_is n none = none_ticked (sym (module_is ∙ ap (module_at space.modules) at)) (ap (index_at space.added) (sym at) ∙ index_is) n
  unsearched_of a (Some m) at module_is index_is n none = absurd cc

  module _ (laid : IsLaidOut 0 seen.image) (m : AddedModule) (t : PreparedTable) (asks : IsAsked seen c interrupted m) (is : m.table ≡ Some t) where
    e : IsElf seen.image m.holder.tables t
    e = table_there seen.image m t asks.added is

    due : frame_of seen c interrupted ≡ frame_by asked (found_by e.info seen.image asked)
    due = asks.frame ∙ ap (frame_by_tables seen.image asked m.holder) e.is

    pub found_step : (k : CachedRow) (next : Stepped) → GivesOver t asked (Ok (Some k)) → ((f : DescribedFrame) → IsRowOf k.row f.run → k.signal ≡ f.found.fde.cie.letters.signal → caller seen.image c f ≡ Ok next) → Ok (Some next) ≡ step_of seen c interrupted
    found_step k next gives calls = stepped (frame_by asked (found_by e.info seen.image asked)) k next due (gives seen.image e.info laid e.table) calls

    pub none_step : GivesOver t asked (Ok None) → Ok None ≡ step_of seen c interrupted
    none_step gives = unframed_step seen c interrupted (due ∙ gives seen.image e.info laid e.table)

    pub fault_step : (fault : DeliverError) → GivesOver t asked (Err fault) → Err fault ≡ step_of seen c interrupted
    fault_step fault gives = sym (step_is seen c interrupted ∙ ap (stepped_by seen.image c) (due ∙ gives seen.image e.info laid e.table))

    pub few_ticks : (old new : ℕ) → AreFewSteps (length t.index.functions) old new → TicksAt seen c interrupted old new
    few_ticks old new few = asks.ticks old new (subst (λ (o : Option PreparedTable). TicksBy seen.image m.holder (option_map index_in o) old new) (sym is) few)
