-- In a space with one module, which names a header, each search is among as many as the header's table has pairs.
use Rattle.std.proofs.Common.{◌≡◌, inl, inr, ℕ, ◌^◌, ◌<◌, Bool, true, false, eqb, List, [], ◌∷◌, length, Option, Some, None, Result, refl, sym, ap, subst, ◌∙◌, arith}
use Rattle.std.specs.Prelude.{IfSome}
use Rattle.std.specs.List.{AllByRecursion, Contains}
use Rattle.std.specs.Option.{option_map}
use Rattle.std.proofs.lemmas.List.{length-map}
use Rattle.std.proofs.lemmas.Nat.{pow_pos}
use Rattle.std.proofs.lemmas.Bool.{eqb-true}
use Rattle.memory_image.specs.Image.{Span}
use Rattle.unwind_definitions.specs.Entries.{Fde}
use Rattle.unwind_definitions.specs.declared.error.Error.{Error as Fault}
use Rattle.unwind_definitions.specs.Header.{FrameHeader, PairTable, table_in}
use Rattle.unwind_definitions.specs.Input.{Input}
use Rattle.unwind_definitions.specs.Module.{IsHeaderTable}
use Rattle.unwind_definitions.specs.Pointers.{Bases}
use Rattle.unwind_laws.specs.Listing.{listing}
use Rattle.unwind_laws.proofs.Booleans.{here_or_later, none_in_nil}
use Rattle.unwind_laws.proofs.HeaderListed.{header_read}
use Rattle.eh_frame.specs.Index.{Index, described_fde}
use Rattle.fde_finders.specs.declared.custom.FrameInfoKind.{FrameInfoKind}
use Rattle.fde_finders.specs.declared.custom.FrameInfoKind.TheVariants.{EhFrame, EhFrameHdr}
use Rattle.fde_finders.specs.Finding.{relative_to}
use Rattle.fde_finders.specs.FrameTables.{FrameTable, led_table, table_by_kind}
use Rattle.fde_finders.specs.HeaderFinding.{Led, at_header, led_at, led_by, pairs_in, pairs_led, pairs_by_header}
use Rattle.fde_finders.specs.Named.{pairs_by, pairs_by_kind}
use Rattle.stack_steps.specs.declared.space.Module.{Module}
use Rattle.stack_steps.specs.declared.space.ModuleTables.{ModuleTables}
use Rattle.stack_steps.specs.declared.space.ModuleTables.TheVariants.{Elf}
use Rattle.stack_steps.specs.Modules.{Added, SpaceValue}
use Rattle.stack_steps.specs.Preparing.{HeaderLists, IsAddedTo, IsIndexIn, IsIndexOf, Lists, fdes_in, index_of, len_of}
use Rattle.stack_deliver.specs.Searches.{HasOneHeader}
use Rattle.stack_steps.specs.Ticking.{CountsWithin, module_pairs}

some_table : (x y : FrameTable) → Some x ≡ Some y → x ≡ y
some_table x y e = cc

-- an index of a frame table that a header leads to has as many descriptions as the header's table has pairs
as_listed : (text : Option ℕ) (kind : FrameInfoKind) (image : List Span) (h : ℕ) (table : FrameTable) (index : Index) → kind ≡ EhFrameHdr h → table_by_kind text kind image ≡ Some table → Lists kind table (fdes_in index) →
    length index.functions ≡ pairs_by_kind text kind image
unfolding pairs_by_header
as_listed text (EhFrame frame) image h table index is names lists = absurd cc
as_listed text (EhFrameHdr header) image h table index is names lists = by_led (led_at (relative_to text None) image header) names
  where
    by_pairs : (o : Option PairTable) → HeaderLists o table.entries.base (fdes_in index) → length index.functions ≡ pairs_in o
    by_pairs None lists = absurd lists
    by_pairs (Some pairs) lists = sym (length-map index.functions described_fde) ∙ sym lists.as_many

    by_led : (o : Option Led) → option_map (led_table (at_header (relative_to text None) header) image) o ≡ Some table → length index.functions ≡ pairs_led o
    by_led None names = absurd cc
    by_led (Some l) names =
        let same : led_table (at_header (relative_to text None) header) image l ≡ table = some_table _ table names in
        by_pairs table.pairs lists ∙ sym (ap (λ (t : FrameTable). pairs_in t.pairs) same)

-- the one module of a list
only : (m n : Module) → Contains (m ∷ []) n → m ≡ n
only m n has = elim (here_or_later m [] n has) [
  | inl same ↦ same
  | inr more ↦ absurd (none_in_nil n more)
]

module _ (space : SpaceValue) (digits : ℕ) (one : HasOneHeader space digits) where
  index_within : (m : Added) → IsAddedTo space m → len_of (index_of m) < 2 ^ digits
  index_within m added = by_index m.index added.indexed
    where
      holder : one.holder ≡ m.holder
      holder = only one.holder m.holder (subst (λ (ms : List Module). Contains ms m.holder) one.one added.among)

      elf : m.holder.tables ≡ Elf one.tables
      elf = ap (λ (n : Module). n.tables) (sym holder) ∙ one.elf

      by_index : (o : Option Index) → IfSome o (IsIndexIn space.image m.holder.tables) → len_of o < 2 ^ digits
      by_index None is = pow_pos digits
      by_index (Some index) is =
          let kept : IsIndexOf space.image one.tables index = subst (λ (t : ModuleTables). IsIndexIn space.image t index) elf is in
          let many : length index.functions ≡ pairs_by one.tables space.image = as_listed one.tables.text_base one.tables.kind space.image one.header kept.table index one.names kept.names kept.listed in
          let few = one.pairs in
          omega arith

  each_within : (ms : List Added) → AllByRecursion (IsAddedTo space) ms → AllByRecursion (λ (m : Added). len_of (index_of m) < 2 ^ digits) ms
  each_within [] added = tt
  each_within (m ∷ ms) added = (index_within m added.0, each_within ms added.1)

  pub counts_within : AllByRecursion (IsAddedTo space) space.added → CountsWithin space digits
  counts_within added = (
    subst (λ (ms : List Module). AllByRecursion (λ (m : Module). module_pairs space.image m.tables < 2 ^ digits) ms) (sym one.one) (subst (λ (t : ModuleTables). module_pairs space.image t < 2 ^ digits) (sym one.elf) one.pairs, tt),
    each_within space.added added,
  )

-- ---- a header that lists the descriptions of a frame table

listing_pairs : (h frame : ℕ) (bases : Bases) (fdes : List Fde) (listed : Input) → pairs_in (table_in (listing h bases frame fdes listed)) ≡ length fdes
listing_pairs h frame bases fdes listed = go (eqb (length fdes) 0) refl
  where
    go : (b : Bool) → eqb (length fdes) 0 ≡ b → pairs_in (table_in (listing h bases frame fdes listed)) ≡ length fdes
    go true none = rw none (sym (eqb-true (length fdes) 0 none))
    go false some = rw some refl

-- it has as many pairs
pub header_pairs : (text : Option ℕ) (image : List Span) (h frame : ℕ) (fdes : List Fde) → IsHeaderTable image h frame fdes → pairs_by_header (relative_to text None) image h ≡ length fdes
unfolding pairs_by_header
header_pairs text image h frame fdes table =
    let known : Bases = at_header (relative_to text None) h in
    ap (λ (r : Result FrameHeader Fault). pairs_led (led_by image r)) (header_read image h frame fdes known table)
    ∙ listing_pairs h frame known fdes table.listed
