-- In an image that has grown the frame table that a module names finds the same.
use Rattle.std.proofs.Common.{◌≡◌, ◌≢◌, ℕ, List, [], Option, Some, None, Result, Ok, Err, refl, sym, ap, ◌∙◌, subst}
use Rattle.std.specs.Prelude.{slice_get}
use Rattle.std.specs.Option.{option_map}
use Rattle.memory_image.specs.Image.{Span, table_at}
use Rattle.unwind_definitions.specs.declared.error.Error.{Error as Fault}
use Rattle.unwind_definitions.specs.Header.{FrameHeader, header, table_in}
use Rattle.unwind_definitions.specs.Input.{Input}
use Rattle.unwind_definitions.specs.LanguageTable.{input_at}
use Rattle.unwind_definitions.specs.Pointers.{Bases, Pointer, Direct, Indirect}
use Rattle.unwind_definitions.specs.Scan.{scan}
use Rattle.fde_finders.specs.declared.custom.FrameInfo.{FrameInfo}
use Rattle.fde_finders.specs.declared.custom.FrameInfoKind.{FrameInfoKind}
use Rattle.fde_finders.specs.declared.custom.FrameInfoKind.TheVariants.{EhFrame, EhFrameHdr}
use Rattle.fde_finders.specs.Finding.{at_frame, found_in, relative_to, table_bases}
use Rattle.fde_finders.specs.FrameTables.{led_table, table_by, table_by_kind}
use Rattle.fde_finders.specs.HeaderFinding.{Led, at_header, by_led, by_table, found_by_header, led_address, led_at, led_by, led_to}
use Rattle.fde_finders.specs.Named.{found_by, found_by_kind}
use Rattle.stack_steps.specs.Growing.{Grows}
use Rattle.part_walks.specs.Parts.{HasBytes, IsPartOf}
use Rattle.part_walks.proofs.PartReads.{word_whole}

module _ (old new : List Span) (grows : Grows old new) where
  -- an image is a part of what it grows to
  pub grown_part : IsPartOf old new
  grown_part a b is = ap (λ (bs : List ℕ). slice_get bs 0) (grows a (λ none. none_there none)) ∙ is
    where
      none_there : table_at old a ≡ [] → ⊥
      none_there none = let got = subst (λ (bs : List ℕ). slice_get bs 0 ≡ Some b) none is in cc

  input_stays : (a : ℕ) → table_at old a ≢ [] → input_at new a ≡ input_at old a
  input_stays a some = ap (λ (bs : List ℕ). record { base = a; offset = 0; bytes = bs }) (grows a some)

  -- ---- the header that leads to a table

  address_stays : (p : Pointer) (a : ℕ) → led_address old p ≡ Some a → led_address new p ≡ Some a
  address_stays (Direct b) a is = is
  address_stays (Indirect b) a is = word_whole old new grown_part b a is

  led_stays : (r : Result FrameHeader Fault) (l : Led) → led_by old r ≡ Some l → led_by new r ≡ Some l
  led_stays (Err e) l is = absurd cc
  led_stays (Ok h) l is = go (led_address old h.frame) refl is
    where
      go : (o : Option ℕ) → led_address old h.frame ≡ o → led_to h o ≡ Some l → led_to h (led_address new h.frame) ≡ Some l
      go None at is = absurd cc
      go (Some a) at is = ap (led_to h) (address_stays h.frame a at) ∙ is

  header_stays : (bases : Bases) (h : ℕ) (l : Led) → led_at bases old h ≡ Some l → led_at bases new h ≡ Some l
  header_stays bases h l is =
      ap (λ (c : Input). led_by new (header (at_header bases h) c)) (input_stays h (λ none. unread none))
      ∙ led_stays (header (at_header bases h) (input_at old h)) l is
    where
      unread : table_at old h ≡ [] → ⊥
      unread none = let gone : led_by old (header (at_header bases h) (record { base = h; offset = 0; bytes = [] })) ≡ Some l = subst (λ (bs : List ℕ). led_by old (header (at_header bases h) (record { base = h; offset = 0; bytes = bs })) ≡ Some l) none is in cc

  -- ---- what is found

  by_header_stays : (known : Bases) (h pc : ℕ) → HasBytes (option_map (led_table (at_header known h) old) (led_at known old h)) → found_by_header known new h pc ≡ found_by_header known old h pc
  unfolding found_by_header
  by_header_stays known h pc some = go (led_at known old h) refl some
    where
      go : (o : Option Led) → led_at known old h ≡ o → HasBytes (option_map (led_table (at_header known h) old) o) → by_led (at_header known h) new pc (led_at known new h) ≡ by_led (at_header known h) old pc (led_at known old h)
      go None at some = absurd some
      go (Some l) at some =
          ap (by_led (at_header known h) new pc) (header_stays known h l at)
          ∙ (ap (λ (c : Input). by_table (at_frame (at_header known h) l.frame) c pc (table_in l.header)) (input_stays l.frame some)
          ∙ sym (ap (by_led (at_header known h) old pc) at))

  kind_stays : (text : Option ℕ) (kind : FrameInfoKind) (pc : ℕ) → HasBytes (table_by_kind text kind old) → found_by_kind text kind new pc ≡ found_by_kind text kind old pc
  kind_stays text (EhFrame frame) pc some = ap (λ (c : Input). found_in (table_bases text frame) c (scan (table_bases text frame) c pc)) (input_stays frame some)
  kind_stays text (EhFrameHdr h) pc some = by_header_stays (relative_to text None) h pc some

  -- by the table that a module names
  pub found_stays : (info : FrameInfo) (pc : ℕ) → HasBytes (table_by info old) → found_by info new pc ≡ found_by info old pc
  found_stays info pc some = kind_stays info.text_base info.kind pc some
