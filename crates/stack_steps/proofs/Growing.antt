-- In an image that has grown a prepared module's table is the same.
use Rattle.std.proofs.Common.{◌≡◌, ◌≢◌, Bor, ℕ, zero, suc, ◌+◌, ◌*◌, List, [], ◌∷◌, map, Option, Some, None, Result, Ok, Err, refl, sym, ap, ◌∙◌, subst, arith}
use Rattle.std.specs.Prelude.{slice_get, IfSome}
use Rattle.std.specs.Option.{option_and_then, option_map}
use Rattle.std.proofs.lemmas.List.{length-map}
use Rattle.std.proofs.lemmas.List.Sorted.{length_permutation}
use Rattle.memory_image.specs.Image.{Span, byte_at, number_at, table_at, word_at}
use Rattle.unwind_definitions.specs.declared.error.Error.{Error as Fault}
use Rattle.unwind_definitions.specs.Entries.{Entry, entry_at}
use Rattle.unwind_definitions.specs.Header.{FrameHeader, header}
use Rattle.unwind_definitions.specs.Input.{Input}
use Rattle.unwind_definitions.specs.LanguageTable.{input_at}
use Rattle.unwind_definitions.specs.Pointers.{Bases, Pointer, Direct, Indirect}
use Rattle.eh_frame.specs.Index.{Index, IsPreparedFrom, described_fde}
use Rattle.eh_frame.specs.Listed.{nonempty}
use Rattle.fde_finders.specs.declared.custom.FrameInfo.{FrameInfo}
use Rattle.fde_finders.specs.declared.custom.FrameInfoKind.{FrameInfoKind}
use Rattle.fde_finders.specs.declared.custom.FrameInfoKind.TheVariants.{EhFrame, EhFrameHdr}
use Rattle.fde_finders.specs.Finding.{at_frame, relative_to, table_bases}
use Rattle.fde_finders.specs.FrameTables.{FrameTable, led_table, table_by_kind}
use Rattle.fde_finders.specs.HeaderFinding.{Led, at_header, led_address, led_at, led_by, led_to}
use Rattle.unwind_definitions.specs.Header.{table_in}
use Rattle.stack_steps.specs.declared.prepared.PreparedTable.{PreparedTable}
use Rattle.stack_steps.specs.declared.space.AddedModule.{AddedModule}
use Rattle.stack_steps.specs.declared.space.ModuleTables.{ModuleTables}
use Rattle.stack_steps.specs.declared.space.ModuleTables.TheVariants.{Elf, Macho, Pe}
use Rattle.stack_steps.specs.Growing.{Grows}
use Rattle.stack_steps.specs.AddedModule.{IsAddedModule, IsTable, IsTableOf, kept_table}

-- ---- a table that is prepared has bytes

-- nothing stands in a table without bytes
none_stands : (bases : Bases) (base : ℕ) → entry_at bases (record { base = base; offset = 0; bytes = [] }) 0 ≡ Ok None
unfolding entry_at
none_stands bases base = refl

has_entries : (bases : Bases) (base : ℕ) (index : Index) → IsPreparedFrom bases (record { base = base; offset = 0; bytes = [] }) index → ⊥
has_entries bases base index p = go p.entries p.are p.each
  where
    go : (es : List Entry) → Rattle.unwind_definitions.specs.Entries.AreEntries bases (record { base = base; offset = 0; bytes = [] }) 0 es → Rattle.std.specs.List.Sorted.IsPermutation (nonempty es) (map described_fde index.functions) → ⊥
    go [] are each =
        let same = length_permutation _ _ each in
        let count = length-map index.functions described_fde in
        let some = p.some in
        absurd (omega (arith, same, count))
    go (e ∷ es) are each = let none = none_stands bases base in let some = are.1 in cc

mapped : (bases : Bases) (image : List Span) (a : ℕ) (index : Index) → IsPreparedFrom bases (input_at image a) index → table_at image a ≢ []
mapped bases image a index p none = has_entries bases a index (subst (λ (bs : List ℕ). IsPreparedFrom bases (record { base = a; offset = 0; bytes = bs }) index) none p)

-- ---- what is read stays

module _ (old new : List Span) (grows : Grows old new) where
  input_stays : (a : ℕ) → table_at old a ≢ [] → input_at new a ≡ input_at old a
  input_stays a some = ap (λ (bs : List ℕ). record { base = a; offset = 0; bytes = bs }) (grows a some)

  byte_stays : (a b : ℕ) → byte_at old a ≡ Some b → byte_at new a ≡ Some b
  byte_stays a b is = ap (λ (bs : List ℕ). slice_get bs 0) (grows a (λ none. none_there none)) ∙ is
    where
      none_there : table_at old a ≡ [] → ⊥
      none_there none = let got = subst (λ (bs : List ℕ). slice_get bs 0 ≡ Some b) none is in cc

  number_stays : (n a v : ℕ) → number_at old a n ≡ Some v → number_at new a n ≡ Some v
  number_stays zero a v is = is
  number_stays (suc n) a v is = first (byte_at old a) refl is (number_stays n (a + 1))
    where
      rest : (b : ℕ) (more : Option ℕ) → number_at old (a + 1) n ≡ more → option_map (λ w. b + 256 * w) more ≡ Some v → ((w : ℕ) → number_at old (a + 1) n ≡ Some w → number_at new (a + 1) n ≡ Some w) → option_map (λ w. b + 256 * w) (number_at new (a + 1) n) ≡ Some v
      rest b None at is stays = absurd cc
      rest b (Some w) at is stays = ap (option_map (λ w. b + 256 * w)) (stays w at) ∙ is

      first : (o : Option ℕ) → byte_at old a ≡ o → option_and_then (λ b. option_map (λ w. b + 256 * w) (number_at old (a + 1) n)) o ≡ Some v → ((w : ℕ) → number_at old (a + 1) n ≡ Some w → number_at new (a + 1) n ≡ Some w) → number_at new a (suc n) ≡ Some v
      first None at is stays = absurd cc
      first (Some b) at is stays = ap (option_and_then (λ b. option_map (λ w. b + 256 * w) (number_at new (a + 1) n))) (byte_stays a b at) ∙ rest b (number_at old (a + 1) n) refl is stays

  word_stays : (a v : ℕ) → word_at old a ≡ Some v → word_at new a ≡ Some v
  unfolding word_at
  word_stays a v is = number_stays 8 a v is

  address_stays : (p : Pointer) (a : ℕ) → led_address old p ≡ Some a → led_address new p ≡ Some a
  address_stays (Direct b) a is = is
  address_stays (Indirect b) a is = word_stays b a is

  -- ---- the header that leads to a table

  led_stays : (r : Result FrameHeader Fault) (l : Led) → led_by old r ≡ Some l → led_by new r ≡ Some l
  led_stays (Err e) l is = absurd cc
  led_stays (Ok h) l is = go (led_address old h.frame) refl is
    where
      go : (o : Option ℕ) → led_address old h.frame ≡ o → led_to h o ≡ Some l → led_to h (led_address new h.frame) ≡ Some l
      go None at is = absurd cc
      go (Some a) at is = ap (led_to h) (address_stays h.frame a at) ∙ is

  header_stays : (bases : Bases) (h : ℕ) (l : Led) → led_at bases old h ≡ Some l → led_at bases new h ≡ Some l
  header_stays bases h l is =
      ap (λ (c : Input). led_by new (header (at_header bases h) c)) (input_stays h (λ none. unread none))
      ∙ led_stays (header (at_header bases h) (input_at old h)) l is
    where
      unread : table_at old h ≡ [] → ⊥
      unread none = let gone : led_by old (header (at_header bases h) (record { base = h; offset = 0; bytes = [] })) ≡ Some l = subst (λ (bs : List ℕ). led_by old (header (at_header bases h) (record { base = h; offset = 0; bytes = bs })) ≡ Some l) none is in cc

  -- ---- the table that a module names

  named : (text : Option ℕ) (kind : FrameInfoKind) (t : FrameTable) (index : Index) → table_by_kind text kind old ≡ Some t → IsPreparedFrom t.bases t.entries index → table_by_kind text kind new ≡ Some t
  named text (EhFrame frame) t index is p = ap (λ (c : Input). Some (record { entries = c; bases = table_bases text frame; pairs = None })) (input_stays frame some) ∙ is
    where
      same : ◌≡◌ {A = Input} (input_at old frame) t.entries
      same = cc

      some : table_at old frame ≢ []
      some = mapped t.bases old frame index (subst (λ (c : Input). IsPreparedFrom t.bases c index) (sym same) p)
  named text (EhFrameHdr h) t index is p = go (led_at known old h) refl is
    where
      known : Bases
      known = relative_to text None

      table_in_old : Led → FrameTable
      table_in_old = led_table (at_header known h) old

      there : (l : Led) → ◌≡◌ {A = Option FrameTable} (Some (table_in_old l)) (Some t) → led_table (at_header known h) new l ≡ table_in_old l
      there l same = ap (λ (c : Input). record { entries = c; bases = at_frame (at_header known h) l.frame; pairs = table_in l.header }) (input_stays l.frame (mapped t.bases old l.frame index (subst (λ (c : Input). IsPreparedFrom t.bases c index) (sym entries) p)))
        where
          entries : ◌≡◌ {A = Input} (input_at old l.frame) t.entries
          entries = let one : table_in_old l ≡ t = cc in ap (λ (x : FrameTable). x.entries) one

      go : (o : Option Led) → led_at known old h ≡ o → option_map table_in_old o ≡ Some t → table_by_kind text (EhFrameHdr h) new ≡ Some t
      go None at is = absurd cc
      go (Some l) at is = ap (option_map (led_table (at_header known h) new)) (header_stays known h l at) ∙ ap Some (there l is) ∙ is

  table_stays : (tables : FrameInfo) (t : PreparedTable) → IsTableOf old tables t → IsTableOf new tables t
  table_stays tables t is = record {
    pairs = is.pairs;
    names = named tables.text_base tables.kind (kept_table t is.pairs) t.index is.names is.prepared;
    prepared = is.prepared;
    listed = is.listed;
  }

  index_stays : (tables : ModuleTables) (t : Option PreparedTable) → IsTable old tables t → IsTable new tables t
  index_stays tables None is = tt
  index_stays (Elf tables) (Some t) is = table_stays tables t is
  index_stays (Macho tables) (Some t) is = absurd is
  index_stays (Pe tables) (Some t) is = absurd is

  -- a module of a space, with its table
  pub held_stays : (h : AddedModule) → IsAddedModule old h → IsAddedModule new h
  held_stays h is = record { is_table = index_stays h.holder.tables h.table is.is_table; placed = is.placed }

  -- the same of one that is found
  pub found_stays : (o : Option (Bor AddedModule)) → IfSome o (λ added_module. IsAddedModule old added_module.now) → IfSome o (λ added_module. IsAddedModule new added_module.now)
  found_stays None is = tt
  found_stays (Some added_module) is = held_stays added_module.now is
