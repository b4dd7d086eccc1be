-- How far a count of steps rises in searches of headers' tables.
use Rattle.std.proofs.Common.{◌≡◌, ◌≢◌, ℕ, ◌+◌, ◌-◌, ◌*◌, ◌^◌, ◌<◌, ◌≤◌, Bool, true, false, List, [], ◌∷◌, length, Option, Some, None, refl, sym, ap, subst, ◌∙◌, arith, eqb}
use Rattle.std.proofs.lemmas.Bool.{eqb-false, eqb-true}
use Rattle.std.specs.List.{AllByRecursion}
use Rattle.std.proofs.Math.Nat.{add-mul}
use Rattle.std.proofs.lemmas.Nat.{mul-le, pow_pos}
use Rattle.memory_image.specs.Image.{Span}
use Rattle.unwind_definitions.specs.LanguageSearch.{address_of_call}
use Rattle.fde_finders.specs.Named.{pairs_by_kind}
use Rattle.unwind_arch.specs.declared.x86_64.Context.{Context}
use Rattle.stack_steps.specs.declared.space.Module.{Module}
use Rattle.stack_steps.specs.declared.space.ModuleTables.{ModuleTables}
use Rattle.stack_steps.specs.declared.space.ModuleTables.TheVariants.{Elf, Macho, Pe}
use Rattle.eh_frame.specs.Index.{AreFewSteps, Index}
use Rattle.fde_finders.specs.declared.custom.FrameInfoKind.{FrameInfoKind}
use Rattle.stack_steps.specs.Modules.{Added, SpaceValue, contains, module_at}
use Rattle.stack_steps.specs.Preparing.{index_at, index_of, len_of, prepared_len}
use Rattle.stack_steps.specs.Ticking.{IsUnsearched, module_pairs, pairs_in_module, searched_in, searched_at, CountsWithin, IsScannedAt, RisesBySearch, RisesWithin, TicksAt, TicksBy}

-- a module that is found has no more pairs than each of the modules may
pairs_found : (image : List Span) (digits a : ℕ) (ms : List Module) → AllByRecursion (λ (m : Module). module_pairs image m.tables < 2 ^ digits) ms → pairs_in_module image (module_at ms a) < 2 ^ digits
pairs_found image digits a [] each = pow_pos digits
pairs_found image digits a (m ∷ ms) each = go (contains m a) refl (pairs_found image digits a ms each.1)
  where
    go : (b : Bool) → contains m a ≡ b → pairs_in_module image (module_at ms a) < 2 ^ digits → pairs_in_module image (module_at (m ∷ ms) a) < 2 ^ digits
    go true here later = rw here each.0
    go false elsewhere later = rw elsewhere later

-- and its index no more descriptions
index_found : (digits a : ℕ) (ms : List Added) → AllByRecursion (λ (m : Added). len_of (index_of m) < 2 ^ digits) ms → len_of (index_at ms a) < 2 ^ digits
index_found digits a [] each = pow_pos digits
index_found digits a (m ∷ ms) each = go (contains m.holder a) refl (index_found digits a ms each.1)
  where
    go : (b : Bool) → contains m.holder a ≡ b → len_of (index_at ms a) < 2 ^ digits → len_of (index_at (m ∷ ms) a) < 2 ^ digits
    go true here later = rw here each.0
    go false elsewhere later = rw elsewhere later

searched_within : (space : SpaceValue) (c : Context) (interrupted : Bool) (digits : ℕ) → CountsWithin space digits → searched_at space c interrupted < 2 ^ digits
searched_within space c interrupted digits each = go (eqb c.ra 0) refl
  where
    by_index : (a : ℕ) (o : Option Index) → index_at space.added a ≡ o → searched_in space.image o (module_at space.modules a) < 2 ^ digits
    by_index a None is = pairs_found space.image digits a space.modules each.0
    by_index a (Some index) is = subst (λ (o : Option Index). len_of o < 2 ^ digits) is (index_found digits a space.added each.1)

    go : (b : Bool) → eqb c.ra 0 ≡ b → searched_at space c interrupted < 2 ^ digits
    go true none = rw none (pow_pos digits)
    go false some = rw some (by_index (address_of_call c.ra interrupted) (index_at space.added (address_of_call c.ra interrupted)) refl)

-- ---- the search at a context

few_rise : (count old new : ℕ) → AreFewSteps count old new → RisesBySearch count old new
few_rise count old new few =
    let one = few.one in
    (new - old, omega arith, record { some = λ listed. omega arith; digits = λ digits fits. let most = few.digits digits fits in omega arith })

none_rises : (count old new : ℕ) → count ≡ 0 → new ≡ old → RisesBySearch count old new
none_rises count old new none same = (0, omega arith, record { some = λ listed. omega arith; digits = λ digits fits. omega arith })

module _ (space : SpaceValue) (c : Context) (interrupted : Bool) (old new : ℕ) (ticks : TicksAt space c interrupted old new) where
  abbrev asked : ℕ
  asked = address_of_call c.ra interrupted

  by_ticks : (o : Option Index) (m : Module) → TicksBy space.image m o old new → RisesBySearch (searched_in space.image o (Some m)) old new
  by_ticks None m by = by
  by_ticks (Some index) m by = few_rise (length index.functions) old new by

  by_module : c.ra ≢ 0 → (o : Option Module) → module_at space.modules asked ≡ o → RisesBySearch (searched_in space.image (index_at space.added asked) o) old new
  by_module some None is =
      let nowhere = ticks.nowhere some is in
      none_rises (searched_in space.image (index_at space.added asked) None) old new (ap (λ (o : Option Index). searched_in space.image o None) nowhere.0) nowhere.1
  by_module some (Some m) is = by_ticks (index_at space.added asked) m (ticks.somewhere some m is)

  pub ticks_rise : RisesBySearch (searched_at space c interrupted) old new
  ticks_rise = go (eqb c.ra 0) refl
    where
      go : (b : Bool) → eqb c.ra 0 ≡ b → RisesBySearch (searched_at space c interrupted) old new
      go true none = rw none (none_rises 0 old new refl (ticks.ends (eqb-true c.ra 0 none)))
      go false some = rw some (by_module (eqb-false c.ra 0 some) (module_at space.modules asked) refl)

  few_at : c.ra ≢ 0 → (o : Option Index) → index_at space.added asked ≡ o → 0 < len_of o → AreFewSteps (len_of o) old new
  few_at some None is long = absurd (omega arith)
  few_at some (Some index) is long = go (module_at space.modules asked) refl
    where
      go : (o : Option Module) → module_at space.modules asked ≡ o → AreFewSteps (length index.functions) old new
      go None at = let none : Some index ≡ None = sym is ∙ (ticks.nowhere some at).0 in absurd cc
      go (Some m) at = subst (λ (p : Option Index). TicksBy space.image m p old new) is (ticks.somewhere some m at)

  -- the index of a prepared module is searched
  pub index_is_searched : c.ra ≢ 0 → 0 < prepared_len space asked → AreFewSteps (prepared_len space asked) old new
  index_is_searched some long = few_at some (index_at space.added asked) refl long

  none_in : (tables : ModuleTables) → IsUnsearched tables → module_pairs space.image tables ≡ 0
  none_in (Elf tables) scanned = ap (λ (k : FrameInfoKind). pairs_by_kind tables.text_base k space.image) scanned.1
  none_in (Macho tables) other = refl
  none_in (Pe tables) other = refl

  -- nothing is counted in a scan
  pub scan_is_free : IsScannedAt space c interrupted → new ≡ old
  scan_is_free at =
      let by : TicksBy space.image at.holder None old new = subst (λ (p : Option Index). TicksBy space.image at.holder p old new) at.unprepared (ticks.somewhere at.returns at.holder at.holds) in
      let none : module_pairs space.image at.holder.tables ≡ 0 = none_in at.holder.tables at.unsearched in
      let few : by.0 ≤ 0 = by.2.digits 0 (omega (arith, none)) in
      let is : new ≡ old + by.0 = by.1 in
      omega arith

-- nothing is searched
pub rises_none : (space : SpaceValue) (n : ℕ) → RisesWithin space 0 n n
rises_none space n = (omega arith, λ digits each. omega arith)

-- one search more
pub rises_by_one : (space : SpaceValue) (c : Context) (interrupted : Bool) (searches start old new : ℕ) → RisesWithin space searches start old → TicksAt space c interrupted old new → RisesWithin space (searches + 1) start new
rises_by_one space c interrupted searches start old new before ticks =
    let search = ticks_rise space c interrupted old new ticks in
    let at : new ≡ old + search.0 = search.1 in
    let risen = before.0 in (
      omega (arith, risen),
      λ digits each.
          let within : search.0 ≤ digits = search.2.digits digits (searched_within space c interrupted digits each) in
          let low = before.1 digits each in
          let sum : (searches + 1) * digits ≡ searches * digits + 1 * digits = add-mul searches 1 digits in
          omega (arith, low),
    )

-- more searches than there were
pub rises_up_to : (space : SpaceValue) (few many start new : ℕ) → few ≤ many → RisesWithin space few start new → RisesWithin space many start new
rises_up_to space few many start new more rises = (
  rises.0,
  λ digits each.
      let low = rises.1 digits each in
      let most = mul-le few digits many digits more (omega arith) in
      omega (arith, low),
)

-- as many searches
pub rises_to : (space : SpaceValue) (few many start new : ℕ) → few ≡ many → RisesWithin space few start new → RisesWithin space many start new
rises_to space few many start new same rises = rises_up_to space few many start new (omega arith) rises

-- one after the other
pub rises_then : (space : SpaceValue) (few more start middle new : ℕ) → RisesWithin space few start middle → RisesWithin space more middle new → RisesWithin space (few + more) start new
rises_then space few more start middle new first second =
    let low = first.0 in
    let high = second.0 in (
      omega (arith, low, high),
      λ digits each.
          let a = first.1 digits each in
          let b = second.1 digits each in
          let sum : (few + more) * digits ≡ few * digits + more * digits = add-mul few more digits in
          omega (arith, a, b),
    )
