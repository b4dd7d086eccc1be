-- What a check answers, from what its parts tell.
use Rattle.std.proofs.Common.{◌≡◌, ℕ, zero, suc, List, [], ◌∷◌, ◌++◌, Option, Some, None, Result, Ok, Err, sym, ap, subst, ◌∙◌, inl, inr, append_assoc}
use Rattle.std.specs.Prelude.{MatchOption}
use Rattle.std.proofs.lemmas.List.{append-nil}
use Rattle.memory_image.specs.Image.{Span}
use Rattle.unwind_definitions.specs.declared.error.Error.{Error as Fault}
use Rattle.unwind_definitions.specs.Input.{Input}
use Rattle.unwind_definitions.specs.Pointers.{Bases}
use Rattle.unwind_definitions.specs.Prologue.{SystemV}
use Rattle.unwind_definitions.specs.Entries.{ACie, AFde, Entry, Fde, Found, entry_at}
use Rattle.unwind_definitions.specs.Scan.{fdes_of}
use Rattle.unwind_definitions.specs.Function.{AreWithin, Function, IsFunction, Range}
use Rattle.unwind_definitions.specs.LanguageTable.{input_at}
use Rattle.unwind_definitions.specs.Module.{Module, Tables, bases_of}
use Rattle.fde_finders.specs.declared.custom.FrameInfo.{FrameInfo}
use Rattle.fde_finders.specs.FrameTables.{FrameTable, table_by}
use Rattle.table_check.specs.declared.reason.Reason.{Reason}
use Rattle.table_check.specs.declared.reason.Reason.TheVariants as reason
use Rattle.table_check.specs.Descriptions.{AllDescribed, HasCode, HasLanguage}
use Rattle.table_check.specs.Modules.{AreDescribed, module_of, tables_of}
use Rattle.table_check.specs.Ranges.{LeavesFirst, extents_of}
use Rattle.table_check.specs.Reasons.{Refuses, StandsSoFar}
use Rattle.table_check.specs.Scanned.{AllMayStand, AllMayStandIn, AllStand, IsDescribedAmong, IsFirstExtra, IsFirstRefused, IsRefused, IsShortAt, MayStand, ReadBefore, StandBefore}
use Rattle.table_check.specs.Verdicts.{RefusesDescriptions}
use Rattle.table_check.proofs.Beside.{found_in}
use Rattle.table_check.proofs.NamedTables.{address_is, frame_table, named_at}
use Rattle.table_check.proofs.Whole.{AreParts, among, d_parts, describes, fails_not}

pub one_table : (t u : FrameTable) → ◌≡◌ {A = Option FrameTable} (Some t) (Some u) → t ≡ u
one_table t u e = cc

-- ---- what is refused doesn't stand

pub leaves_not : (low high : ℕ) (ranges : List Range) (i : ℕ) → LeavesFirst low high ranges i → AreWithin low high ranges → ⊥
leaves_not low high [] i leaves within = leaves
leaves_not low high (r ∷ ranges) zero leaves within = leaves (within.0, within.1, within.2)
leaves_not low high (r ∷ ranges) (suc i) leaves within = leaves_not r.to high ranges i leaves.1 within.3

module _ (bases : Bases) (table : Input) where
  ok_err : (o : Option Found) (e : Fault) → ◌≡◌ {A = Result (Option Found) Fault} (Ok o) (Err e) → ⊥
  ok_err o e is = cc

  none_some : (f : Found) → ◌≡◌ {A = Result (Option Found) Fault} (Ok None) (Ok (Some f)) → ⊥
  none_some f is = cc

  pub same_found : (f g : Found) → ◌≡◌ {A = Result (Option Found) Fault} (Ok (Some f)) (Ok (Some g)) → f ≡ g
  same_found f g is = ap (found_in f) is

  -- an entry that reads and has a short length isn't refused
  pub reads_not : (offset : ℕ) (e : Entry) (next : ℕ) → entry_at bases table offset ≡ Ok (Some (record { entry = e; next = next })) → IsShortAt table offset → IsRefused bases table offset → ⊥
  reads_not offset e next at short (inl fault) = ok_err (Some (record { entry = e; next = next })) fault.0 (sym at ∙ fault.1)
  reads_not offset e next at short (inr long) = long.3 short

  -- and neither is the end
  end_not : (offset : ℕ) → entry_at bases table offset ≡ Ok None → IsRefused bases table offset → ⊥
  end_not offset over (inl fault) = ok_err None fault.0 (sym over ∙ fault.1)
  end_not offset over (inr long) = none_some (record { entry = long.0; next = long.1 }) (sym over ∙ long.2)

  refused_from : (from : ℕ) (before es : List Entry) (offset end : ℕ) → StandBefore bases table from before offset → IsRefused bases table offset → StandBefore bases table from es end → entry_at bases table end ≡ Ok None → ⊥
  refused_from from [] [] offset end a refused b over = end_not from (ap (entry_at bases table) b ∙ over) (subst (IsRefused bases table) (sym a) refused)
  refused_from from [] (x ∷ es) offset end a refused b over = reads_not from x b.0 b.1 b.2 (subst (IsRefused bases table) (sym a) refused)
  refused_from from (y ∷ before) [] offset end a refused b over = none_some (record { entry = y; next = a.0 }) (sym (ap (entry_at bases table) b ∙ over) ∙ a.1)
  refused_from from (y ∷ before) (x ∷ es) offset end a refused b over =
      let same = same_found (record { entry = x; next = b.0 }) (record { entry = y; next = a.0 }) (sym b.1 ∙ a.1) in
      refused_from a.0 before es offset end a.3 refused (subst (λ (f : Found). StandBefore bases table f.next es end) same b.3) over

  pub refused_not : (offset : ℕ) → IsFirstRefused bases table offset → AllStand bases table → ⊥
  refused_not offset r s = refused_from 0 r.before s.entries offset s.end r.stand r.refused s.stand s.over

  module _ (functions : List Function) where
    joins : (x : Entry) (front : List Fde) (es before : List Entry) (fde : Fde) → ((ahead : List Fde) → AllMayStand functions ahead (fdes_of es) → MayStand functions (ahead ++ fdes_of before) fde) →
        AllMayStand functions front (fdes_of (x ∷ es)) → MayStand functions (front ++ fdes_of (x ∷ before)) fde
    joins (ACie cie) front es before fde rest stand = rest front stand
    joins (AFde x) front es before fde rest stand = subst (λ l. MayStand functions l fde) (append_assoc front (x ∷ []) (fdes_of before)) (rest (front ++ x ∷ []) stand.1)

    -- a description among all that may stand may stand after those before it
    stands_after : (from : ℕ) (front : List Fde) (before es : List Entry) (offset end : ℕ) (fde : Fde) (next : ℕ) → ReadBefore bases table from before offset → entry_at bases table offset ≡ Ok (Some (record { entry = AFde fde; next = next })) →
        ReadBefore bases table from es end → ((e : Entry) (n : ℕ) → entry_at bases table end ≡ Ok (Some (record { entry = e; next = n })) → ⊥) → AllMayStand functions front (fdes_of es) → MayStand functions (front ++ fdes_of before) fde
    stands_after from front [] [] offset end fde next a at b over stand = absurd (over (AFde fde) next (ap (entry_at bases table) (sym b ∙ a) ∙ at))
    stands_after from front [] (x ∷ es) offset end fde next a at b over stand =
        let same = same_found (record { entry = x; next = b.0 }) (record { entry = AFde fde; next = next }) (sym b.1 ∙ ap (entry_at bases table) a ∙ at) in
        let here : AllMayStand functions front (fdes_of (AFde fde ∷ es)) = subst (λ (f : Found). AllMayStand functions front (fdes_of (f.entry ∷ es))) same stand in
        subst (λ l. MayStand functions l fde) (sym (append-nil front)) here.0
    stands_after from front (y ∷ before) [] offset end fde next a at b over stand = absurd (over y a.0 (ap (entry_at bases table) (sym b) ∙ a.1))
    stands_after from front (y ∷ before) (x ∷ es) offset end fde next a at b over stand =
        let same = same_found (record { entry = x; next = b.0 }) (record { entry = y; next = a.0 }) (sym b.1 ∙ a.1) in
        let rest = subst (λ (f : Found). ReadBefore bases table f.next es end) same b.2 in
        joins y front es before fde (λ ahead all. stands_after a.0 ahead before es offset end fde next a.2 at rest over all)
        (subst (λ (f : Found). AllMayStand functions front (fdes_of (f.entry ∷ es))) same stand)

    extra_not : (start : ℕ) → IsFirstExtra bases table functions start → AllMayStandIn bases table functions → ⊥
    extra_not start x s = x.extra (stands_after 0 [] x.before s.entries x.offset s.end x.fde x.next x.read x.there s.read s.over s.stand)

module _ (image : List Span) (start end : ℕ) (frame : FrameInfo) (functions : List Function) where
  pub refuses_not : (r : Reason) → Refuses image start end frame functions r → StandsSoFar image start end frame functions → ⊥
  refuses_not (reason.Claim i) refuses s = fails_not (IsFunction SystemV) functions i refuses s.claims.each
  refuses_not (reason.Range i) refuses s = leaves_not start end (extents_of functions) i refuses.1 s.claims.ranges
  refuses_not reason.Header refuses s = let e = sym refuses.1 ∙ s.named in absurd cc
  refuses_not (reason.Entry offset) refuses s =
      let same = one_table refuses.1 s.table (sym refuses.2 ∙ s.named) in
      refused_not s.table.bases s.table.entries offset (subst (λ (t : FrameTable). IsFirstRefused t.bases t.entries offset) same refuses.3) s.beside.entries
  refuses_not (reason.Extra first) refuses s =
      let same = one_table refuses.1 s.table (sym refuses.2 ∙ s.named) in
      extra_not s.table.bases s.table.entries functions first (subst (λ (t : FrameTable). IsFirstExtra t.bases t.entries functions first) same refuses.3.1) s.beside.descriptions
  refuses_not (reason.Missing i) refuses s = refuses
  refuses_not (reason.Program i) refuses s = refuses
  refuses_not (reason.Sites i) refuses s = refuses
  refuses_not reason.HeaderTable refuses s = refuses

-- descriptions that are refused don't describe all
pub descriptions_not : (image : List Span) (bases : Bases) (fdes : List Fde) (tables : Tables) (frame : ℕ) (functions : List Function) (r : Reason) → RefusesDescriptions image bases fdes tables frame functions r → AllDescribed image bases fdes tables frame functions → ⊥
descriptions_not image bases fdes tables frame functions (reason.Missing i) refuses all = fails_not (IsDescribedAmong fdes) functions i refuses (among image bases fdes functions all.code)
descriptions_not image bases fdes tables frame functions (reason.Program i) refuses all = fails_not (HasCode image bases fdes) functions i refuses.1 all.code
descriptions_not image bases fdes tables frame functions (reason.Sites i) refuses all = fails_not (HasLanguage image bases fdes) functions i refuses.1 all.sites
descriptions_not image bases fdes tables frame functions reason.HeaderTable refuses all = refuses.2 all.listed
descriptions_not image bases fdes tables frame functions reason.Header refuses all = refuses
descriptions_not image bases fdes tables frame functions (reason.Claim i) refuses all = refuses
descriptions_not image bases fdes tables frame functions (reason.Range i) refuses all = refuses
descriptions_not image bases fdes tables frame functions (reason.Entry o) refuses all = refuses
descriptions_not image bases fdes tables frame functions (reason.Extra o) refuses all = refuses

-- ---- what stands, and what is said of its descriptions

module _ (image : List Span) (start end : ℕ) (frame : FrameInfo) (functions : List Function) where
  module _ (s : StandsSoFar image start end frame functions) where
    abbrev pub fdes_in : List Fde
    fdes_in = fdes_of s.beside.descriptions.entries

    -- what is said of the descriptions of a table, beside such functions
    abbrev pub IsSaid : FrameTable → List Function → Option Reason → Type 0
    IsSaid t fs o = MatchOption o (AllDescribed image t.bases fdes_in (tables_of frame.kind) t.entries.base fs) (λ r. RefusesDescriptions image t.bases fdes_in (tables_of frame.kind) t.entries.base fs r)

    module _ (t : FrameTable) (named : table_by frame image ≡ Some t) where
      same : t ≡ s.table
      same = one_table t s.table (sym named ∙ s.named)

      abbrev m : Module
      m = module_of start end frame

      pub says_yes : IsSaid t functions None → AreDescribed image start end frame functions
      says_yes said =
          let all = subst (λ (x : FrameTable). IsSaid x functions None) same said in
          let is = frame_table image start end frame.text_base frame.kind s.table s.named in
          let address = address_is image start end frame.text_base frame.kind s.table fdes_in s.named all.listed in
          let parts : AreParts image s.table.bases s.table.entries m.tables s.table.entries.base functions = record { beside = s.beside; all = all } in
          let by_bases = subst (λ (b : Bases). AreParts image b s.table.entries m.tables s.table.entries.base functions) is.bases parts in
          let by_table = subst (λ (i : Input). AreParts image (bases_of m s.table.entries.base) i m.tables s.table.entries.base functions) is.entries by_bases in
          record { functions_in = s.claims; described = describes image m functions s.table.entries.base address s.claims.ranges by_table.beside by_table.all }

  -- all parts of a described module
  pub record IsWhole : Type 0 where
    pub stand : StandsSoFar image start end frame functions
    pub all : AllDescribed image stand.table.bases (fdes_of stand.beside.descriptions.entries) (tables_of frame.kind) stand.table.entries.base functions

  pub whole_of : AreDescribed image start end frame functions → IsWhole
  whole_of a =
      let d = a.described in
      let n = named_at image start end frame.text_base frame.kind d.frame (fdes_of d.entries) d.address d.header in
      let t = n.table in
      let is = frame_table image start end frame.text_base frame.kind t n.named in
      let parts = d_parts image (module_of start end frame) functions d a.functions_in.ranges in
      let at_base = subst (λ a. AreParts image (bases_of (module_of start end frame) a) (input_at image a) (tables_of frame.kind) a functions) (sym n.base) parts in
      let by_bases = subst (λ (b : Bases). AreParts image b (input_at image t.entries.base) (tables_of frame.kind) t.entries.base functions) (sym is.bases) at_base in
      let by_table = subst (λ (i : Input). AreParts image t.bases i (tables_of frame.kind) t.entries.base functions) (sym is.entries) by_bases in
      record { stand = record { claims = a.functions_in; table = t; named = n.named; beside = by_table.beside }; all = by_table.all }
