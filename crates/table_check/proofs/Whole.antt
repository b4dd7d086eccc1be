-- A module whose parts are all found describes its functions, and the other way round.
use Rattle.std.proofs.Common.{◌≡◌, ℕ, zero, suc, ◌+◌, ◌≤◌, Bool, true, false, List, [], ◌∷◌, ◌++◌, Option, Some, None, Result, Ok, Err, refl, sym, ap, subst, ◌∙◌, inl, inr, arith}
use Rattle.std.specs.Prelude.{◌==◌}
use Rattle.std.specs.List.{AllByRecursion, Contains, filter, list_any}
use Rattle.std.proofs.lemmas.Bool.{and_parts, eqb-true}
use Rattle.memory_image.specs.Image.{Span}
use Rattle.unwind_definitions.specs.declared.error.Error.{Error as Fault}
use Rattle.unwind_definitions.specs.Input.{Input}
use Rattle.unwind_definitions.specs.Pointers.{Bases}
use Rattle.unwind_definitions.specs.Entries.{AreEntries, Entry, Fde, Found, entry_at}
use Rattle.unwind_definitions.specs.Scan.{fdes_of}
use Rattle.unwind_definitions.specs.Function.{AreWithin, Function}
use Rattle.unwind_definitions.specs.LanguageTable.{LeadsToLanguage, input_at}
use Rattle.unwind_definitions.specs.FrameTable.{HasDescription, HasShortLength, MeetsNot, has_range_of}
use Rattle.unwind_definitions.specs.Module.{DescribesModule, Module, Tables, bases_of, frame_address}
use Rattle.unwind_laws.proofs.Booleans.{any_contains, first, filter_contains, here_or_later, none_in_nil}
use Rattle.table_check.specs.AllEntries.{AllApart, AreAll}
use Rattle.table_check.specs.Descriptions.{AllDescribed, HasCode, HasLanguage}
use Rattle.table_check.specs.First.{FailsFirst}
use Rattle.table_check.specs.Ranges.{extents_of}
use Rattle.table_check.specs.Reasons.{AllStandBeside}
use Rattle.table_check.specs.Scanned.{AllMayStand, AllMayStandIn, AllStand, FitsFunction, IsDescribedAmong, IsShortAt, ReadBefore, StandBefore}
use Rattle.table_check.proofs.Apart.{all_apart, all_once, all_stand_apart, apart_of, nonempty_of, pairs_of}
use Rattle.table_check.proofs.OwnOffsets.{own_offset}

ends_once : (r : Result (Option Found) Fault) (x : Found) → r ≡ Ok None → r ≡ Ok (Some x) → ⊥
ends_once (Ok None) x a b = absurd cc
ends_once (Ok (Some y)) x a b = absurd cc
ends_once (Err e) x a b = absurd cc

-- ---- entries

module _ (bases : Bases) (table : Input) where
  stand_reads : (from : ℕ) (es : List Entry) (end : ℕ) → StandBefore bases table from es end → entry_at bases table end ≡ Ok None → AreEntries bases table from es
  stand_reads from [] end stand over = ap (entry_at bases table) stand ∙ over
  stand_reads from (e ∷ es) end stand over = (stand.0, stand.1, stand_reads stand.0 es end stand.3 over)

  stand_short : (from : ℕ) (es : List Entry) (end : ℕ) → StandBefore bases table from es end → AllByRecursion (HasShortLength table) es
  stand_short from [] end stand = tt
  stand_short from (e ∷ es) end stand = (subst (IsShortAt table) (sym (own_offset bases table from e stand.0 stand.1)) stand.2, stand_short stand.0 es end stand.3)

  pub read_before : (from : ℕ) (es : List Entry) (end : ℕ) → StandBefore bases table from es end → ReadBefore bases table from es end
  read_before from [] end stand = stand
  read_before from (e ∷ es) end stand = (stand.0, stand.1, read_before stand.0 es end stand.3)

  pub stand_all : (s : AllStand bases table) → AreAll bases table s.entries
  stand_all s = record { end = s.end; read = read_before 0 s.entries s.end s.stand; over = λ e next at. ends_once (entry_at bases table s.end) (record { entry = e; next = next }) s.over at }

  pub may_stand_all : (functions : List Function) (s : AllMayStandIn bases table functions) → AreAll bases table s.entries
  may_stand_all functions s = record { end = s.end; read = s.read; over = s.over }

  -- the entries of a table whose lengths are short, up to its end
  record AreWhole (from : ℕ) (es : List Entry) : Type 0 where
    end : ℕ
    stand : StandBefore bases table from es end
    over : entry_at bases table end ≡ Ok None

  whole : (from : ℕ) (es : List Entry) → AreEntries bases table from es → AllByRecursion (HasShortLength table) es → AreWhole from es
  whole from [] reads lengths = record { end = from; stand = refl; over = reads }
  whole from (e ∷ es) reads lengths =
      let rest = whole reads.0 es reads.2 lengths.1 in
      let short : IsShortAt table from = subst (IsShortAt table) (own_offset bases table from e reads.0 reads.1) lengths.0 in
      record { end = rest.end; stand = (reads.0, reads.1, short, rest.stand); over = rest.over }

-- ---- descriptions beside functions

-- a description that isn't a function's meets none
foreign_of : (functions : List Function) (fde : Fde) → AllByRecursion (FitsFunction fde) functions → list_any (λ f. has_range_of f fde) functions ≡ false → AllByRecursion (MeetsNot fde) functions
foreign_of [] fde fits none = tt
foreign_of (f ∷ functions) fde fits none = go (has_range_of f fde) refl fits.0 (foreign_of functions fde fits.1)
  where
    go : (b : Bool) → has_range_of f fde ≡ b → FitsFunction fde f → (list_any (λ g. has_range_of g fde) functions ≡ false → AllByRecursion (MeetsNot fde) functions) → AllByRecursion (MeetsNot fde) (f ∷ functions)
    go true is fit rest = let h : list_any (λ g. has_range_of g fde) (f ∷ functions) ≡ true = rw is refl in absurd cc
    go false is (inl range) rest = absurd cc
    go false is (inr meets) rest = (meets, rest (rw is at none))

each_fits : (functions : List Function) (front fdes : List Fde) (fde : Fde) → AllMayStand functions front fdes → Contains fdes fde → AllByRecursion (FitsFunction fde) functions
each_fits functions front [] fde stand has = absurd (none_in_nil fde has)
each_fits functions front (x ∷ fdes) fde stand has = elim (here_or_later x fdes fde has) [
  | inl same ↦ subst (λ (y : Fde). AllByRecursion (FitsFunction y) functions) same stand.0.fits
  | inr rest ↦ each_fits functions (front ++ x ∷ []) fdes fde stand.1 rest
]

meets_fits : (functions : List Function) (fde : Fde) → AllByRecursion (MeetsNot fde) functions → AllByRecursion (FitsFunction fde) functions
meets_fits [] fde all = tt
meets_fits (f ∷ functions) fde all = (inr all.0, meets_fits functions fde all.1)

start_above : (low high : ℕ) (functions : List Function) (g : Function) → AreWithin low high (extents_of functions) → Contains functions g → low ≤ g.start
start_above low high [] g within has = absurd (none_in_nil g has)
start_above low high (f ∷ functions) g within has = elim (here_or_later f functions g has) [
  | inl same ↦ subst (λ (x : Function). low ≤ x.start) same within.0
  | inr rest ↦ (let a = within.0 in let b = within.1 in let c = start_above f.end high functions g within.3 rest in omega (arith, a, b, c))
]

ends_below : (low high : ℕ) (functions : List Function) (fde : Fde) → AreWithin low high (extents_of functions) → fde.start + fde.size ≤ low → AllByRecursion (FitsFunction fde) functions
ends_below low high [] fde within le = tt
ends_below low high (f ∷ functions) fde within le =
    let a = within.0 in let b = within.1 in
    (inr (inl (omega (arith, le, a))), ends_below f.end high functions fde within.3 (omega (arith, le, a, b)))

-- a description of one of functions that ascend meets no other
range_fits : (low high : ℕ) (functions : List Function) (fde : Fde) (g : Function) → AreWithin low high (extents_of functions) → Contains functions g → has_range_of g fde ≡ true → AllByRecursion (FitsFunction fde) functions
range_fits low high [] fde g within has is = absurd (none_in_nil g has)
range_fits low high (f ∷ functions) fde g within has is = elim (here_or_later f functions g has) [
  | inl same ↦ (
      let range : has_range_of f fde ≡ true = ap (λ x. has_range_of x fde) same ∙ is in
      let p = and_parts (fde.start == f.start) (fde.start + fde.size == f.end) range in
      let e = eqb-true (fde.start + fde.size) f.end p.1 in
      (inl range, ends_below f.end high functions fde within.3 (omega (arith, e)))
      )
  | inr rest ↦ (
      let p = and_parts (fde.start == g.start) (fde.start + fde.size == g.end) is in
      let s = eqb-true fde.start g.start p.0 in
      let above = start_above f.end high functions g within.3 rest in
      (inr (inr (omega (arith, s, above))), range_fits f.end high functions fde g within.3 rest is)
      )
]

inside_of : (low high start end : ℕ) (functions : List Function) → start ≤ low → high ≤ end → AreWithin low high (extents_of functions) → AllByRecursion (λ (f : Function). (start ≤ f.start) × (f.end ≤ end)) functions
inside_of low high start end [] a b within = tt
inside_of low high start end (f ∷ functions) a b within =
    let x = within.0 in let y = within.1 in let z = within.2 in
    ((omega (arith, a, x), omega (arith, b, z)), inside_of f.end high start end functions (omega (arith, a, x, y)) b within.3)

-- ---- the descriptions of functions

only : {A : Type 0} (a b : A) → a ∷ [] ≡ b ∷ [] → a ≡ b
only a b is = cc

module _ (image : List Span) (bases : Bases) (fdes : List Fde) where
  each_of : (functions : List Function) → AllByRecursion (HasCode image bases fdes) functions → AllByRecursion (HasLanguage image bases fdes) functions → AllByRecursion (HasDescription image bases fdes) functions
  each_of [] code sites = tt
  each_of (f ∷ functions) code sites =
      let c = code.0 in let l = sites.0 in
      let same : l.fde ≡ c.fde = only l.fde c.fde (sym l.one ∙ c.one) in
      (record { fde = c.fde; one = c.one; describes = record { code = c.holds; language = subst (λ (x : Fde). LeadsToLanguage image f x.language) same l.holds } }, each_of functions code.1 sites.1)

  code_of : (functions : List Function) → AllByRecursion (HasDescription image bases fdes) functions → AllByRecursion (HasCode image bases fdes) functions
  code_of [] each = tt
  code_of (f ∷ functions) each = let d = each.0 in (record { fde = d.fde; one = d.one; holds = d.describes.code }, code_of functions each.1)

  language_of : (functions : List Function) → AllByRecursion (HasDescription image bases fdes) functions → AllByRecursion (HasLanguage image bases fdes) functions
  language_of [] each = tt
  language_of (f ∷ functions) each = let d = each.0 in (record { fde = d.fde; one = d.one; holds = d.describes.language }, language_of functions each.1)

  pub among : (functions : List Function) → AllByRecursion (HasCode image bases fdes) functions → AllByRecursion (IsDescribedAmong fdes) functions
  among [] each = tt
  among (f ∷ functions) each =
      let d = each.0 in
      let in_filter : Contains (filter (has_range_of f) fdes) d.fde = subst (λ l. Contains l d.fde) (sym d.one) (first d.fde []) in
      let has = filter_contains (has_range_of f) fdes d.fde in_filter in
      ((d.fde, has.0, has.1), among functions each.1)

-- ---- the whole

-- entries and descriptions that stand beside functions, and describe them
pub record AreParts (image : List Span) (bases : Bases) (table : Input) (tables : Tables) (frame : ℕ) (functions : List Function) : Type 0 where
  pub beside : AllStandBeside bases table functions
  pub all : AllDescribed image bases (fdes_of beside.descriptions.entries) tables frame functions

module _ (image : List Span) (m : Module) (functions : List Function) where
  pub describes : (frame : ℕ) → frame_address image m.tables ≡ Some frame → AreWithin m.start m.end (extents_of functions) → (s : AllStandBeside (bases_of m frame) (input_at image frame) functions) →
      AllDescribed image (bases_of m frame) (fdes_of s.descriptions.entries) m.tables frame functions → DescribesModule image m functions
  describes frame address within s all =
      let bases = bases_of m frame in
      let table = input_at image frame in
      let entries = s.descriptions.entries in
      let once : s.entries.entries ≡ entries = all_once bases table s.entries.entries entries (stand_all bases table s.entries) (may_stand_all bases table functions s.descriptions) in
      let apart : AllApart (fdes_of entries) = all_apart functions [] (fdes_of entries) s.descriptions.stand in
      record {
        frame = frame;
        address = address;
        entries = entries;
        frames = record {
          reads = subst (AreEntries bases table 0) once (stand_reads bases table 0 s.entries.entries s.entries.end s.entries.stand s.entries.over);
          lengths = subst (AllByRecursion (HasShortLength table)) once (stand_short bases table 0 s.entries.entries s.entries.end s.entries.stand);
          each = each_of image bases (fdes_of entries) functions all.code all.sites;
          foreign = λ fde has none. foreign_of functions fde (each_fits functions [] (fdes_of entries) fde s.descriptions.stand has) none;
        };
        nonempty = nonempty_of (fdes_of entries) apart;
        apart = pairs_of (fdes_of entries) apart;
        inside = inside_of m.start m.end m.start m.end functions (omega arith) (omega arith) within;
        header = all.listed;
      }

  module _ (d : DescribesModule image m functions) (within : AreWithin m.start m.end (extents_of functions)) where
    abbrev pub d_bases : Bases
    d_bases = bases_of m d.frame

    abbrev pub d_table : Input
    d_table = input_at image d.frame

    d_whole : AreWhole d_bases d_table 0 d.entries
    d_whole = whole d_bases d_table 0 d.entries d.frames.reads d.frames.lengths

    d_fits : (x : Fde) → Contains (fdes_of d.entries) x → AllByRecursion (FitsFunction x) functions
    d_fits x has = go (list_any (λ f. has_range_of f x) functions) refl
      where
        go : (b : Bool) → list_any (λ f. has_range_of f x) functions ≡ b → AllByRecursion (FitsFunction x) functions
        go true is = let g = any_contains (λ f. has_range_of f x) functions is in range_fits m.start m.end functions x g.0 within g.1 g.2
        go false is = meets_fits functions x (d.frames.foreign x has is)

    d_all : AreAll d_bases d_table d.entries
    d_all = record { end = d_whole.end; read = read_before d_bases d_table 0 d.entries d_whole.end d_whole.stand; over = λ e next at. ends_once (entry_at d_bases d_table d_whole.end) (record { entry = e; next = next }) d_whole.over at }

    d_apart : AllApart (fdes_of d.entries)
    d_apart = apart_of (fdes_of d.entries) d.nonempty d.apart

    d_may : AllMayStand functions [] (fdes_of d.entries)
    d_may = all_stand_apart functions [] (fdes_of d.entries) d_apart d_fits (λ x has. tt)

    -- and all parts of it are found
    pub d_parts : AreParts image d_bases d_table m.tables d.frame functions
    d_parts = record {
      beside = record {
        entries = record { entries = d.entries; end = d_whole.end; stand = d_whole.stand; over = d_whole.over };
        descriptions = record { entries = d.entries; end = d_all.end; read = d_all.read; over = d_all.over; stand = d_may };
      };
      all = record { code = code_of image d_bases (fdes_of d.entries) functions d.frames.each; sites = language_of image d_bases (fdes_of d.entries) functions d.frames.each; listed = d.header };
    }

pub fails_not : {X : Type 0} (P : X → Type 0) (xs : List X) (i : ℕ) → FailsFirst P xs i → AllByRecursion P xs → ⊥
fails_not P [] i fails all = fails
fails_not P (x ∷ xs) zero fails all = fails all.0
fails_not P (x ∷ xs) (suc i) fails all = fails_not P xs i fails.1 all.1
