-- A description that a finder finds contains the address, whichever tables it is found by.
use Rattle.std.proofs.Common.{◌≡◌, ℕ, Bool, true, false, List, Option, Some, None, Result, Ok, Err, refl, sym, subst, cond}
use Rattle.std.specs.Prelude.{IsTrue}
use Rattle.std.specs.Result.{result_ok}
use Rattle.memory_image.specs.Image.{Span}
use Rattle.unwind_definitions.specs.declared.error.Error.{Error as Fault}
use Rattle.unwind_definitions.specs.declared.error.Error.TheVariants.{NoUnwindInfoForAddress}
use Rattle.unwind_definitions.specs.Faults.{◌>>=◌}
use Rattle.unwind_definitions.specs.Input.{Input}
use Rattle.unwind_definitions.specs.LanguageTable.{input_at}
use Rattle.unwind_definitions.specs.Pointers.{Bases}
use Rattle.unwind_definitions.specs.Entries.{Fde}
use Rattle.unwind_definitions.specs.Row.{covers_pc}
use Rattle.unwind_definitions.specs.Header.{PairTable, table_in}
use Rattle.unwind_definitions.specs.HeaderSearch.{boundary_in, containing, fde_at_address, found_by, table_answer}
use Rattle.fde_finders.specs.declared.custom.FrameInfo.{FrameInfo}
use Rattle.fde_finders.specs.declared.custom.FrameInfoKind.{FrameInfoKind}
use Rattle.fde_finders.specs.declared.custom.FrameInfoKind.TheVariants.{EhFrame, EhFrameHdr}
use Rattle.fde_finders.specs.Finding.{FoundFde, at_frame, relative_to, found_in_text, table_bases}
use Rattle.fde_finders.specs.HeaderFinding.{Led, at_header, by_led, by_table, found_by_header, led_at, or_scanned}
use Rattle.fde_finders.specs.Named.{found_by_kind, found_named, FindsBy}
use Rattle.fde_finders.specs.Placed.{Placed, in_text, FindsPlaced, FindsByPlacedHeader}
use Rattle.fde_finders.specs.Covering.{scanned_covers}

-- ---- by a header's table
module _ (bases : Bases) (frame : Input) (pc : ℕ) (fde : Fde) where
  contained : (k : Fde) (b : Bool) → covers_pc k pc ≡ b → cond b (Ok k) (Err NoUnwindInfoForAddress) ≡ Ok fde → IsTrue (covers_pc fde pc)
  contained k true is e = let same : k ≡ fde = cc in subst (λ (f : Fde). IsTrue (covers_pc f pc)) same is
  contained k false is e = absurd cc

  stands : (r : Result Fde Fault) → (r >>= λ k. containing pc k) ≡ Ok fde → IsTrue (covers_pc fde pc)
  stands (Ok k) e = contained k (covers_pc k pc) refl e
  stands (Err x) e = absurd cc

  named : (place : Result (Option (ℕ × ℕ)) Fault) → found_by bases frame pc place ≡ Ok fde → IsTrue (covers_pc fde pc)
  named (Err x) e = absurd cc
  named (Ok None) e = absurd cc
  named (Ok (Some p)) e = stands (fde_at_address bases frame p.1) e

  pub answer_covers : (t : PairTable) → table_answer bases frame t pc ≡ Ok fde → IsTrue (covers_pc fde pc)
  answer_covers t e = named (boundary_in t pc) e

or_covers : (bases : Bases) (frames : Input) (pc : ℕ) (found : FoundFde) (t : PairTable) (r : Result Fde Fault) → table_answer bases frames t pc ≡ r → or_scanned bases frames pc (result_ok r) ≡ Some found → IsTrue (covers_pc found.fde pc)
or_covers bases frames pc found t (Ok fde) is e =
    let same : fde ≡ found.fde = cc in
    subst (λ (f : Fde). IsTrue (covers_pc f pc)) same (answer_covers bases frames pc fde t is)
or_covers bases frames pc found t (Err x) is e = scanned_covers bases frames pc found e

table_covers : (bases : Bases) (frames : Input) (pc : ℕ) (found : FoundFde) (t : Option PairTable) → by_table bases frames pc t ≡ Some found → IsTrue (covers_pc found.fde pc)
table_covers bases frames pc found None e = scanned_covers bases frames pc found e
table_covers bases frames pc found (Some t) e = or_covers bases frames pc found t (table_answer bases frames t pc) refl e

led_covers : (bases : Bases) (image : List Span) (pc : ℕ) (found : FoundFde) (l : Option Led) → by_led bases image pc l ≡ Some found → IsTrue (covers_pc found.fde pc)
led_covers bases image pc found None e = absurd cc
led_covers bases image pc found (Some l) e = table_covers (at_frame bases l.frame) (input_at image l.frame) pc found (table_in l.header) e

-- what is found by a header contains the address
pub header_covers : (bases : Bases) (image : List Span) (h pc : ℕ) (found : FoundFde) → found_by_header bases image h pc ≡ Some found → IsTrue (covers_pc found.fde pc)
unfolding found_by_header
header_covers bases image h pc found e = led_covers (at_header bases h) image pc found (led_at bases image h) e

-- ---- by a table that is named
by_kind : (text : Option ℕ) (kind : FrameInfoKind) (image : List Span) (pc : ℕ) (found : FoundFde) → found_by_kind text kind image pc ≡ Some found → IsTrue (covers_pc found.fde pc)
by_kind text (EhFrame frame) image pc found e = scanned_covers (table_bases text frame) (input_at image frame) pc found e
by_kind text (EhFrameHdr header) image pc found e = header_covers (relative_to text None) image header pc found e

by_name : (info : Option FrameInfo) (image : List Span) (pc : ℕ) (found : FoundFde) → found_named info image pc ≡ Some found → IsTrue (covers_pc found.fde pc)
by_name None image pc found e = absurd cc
by_name (Some info) image pc found e = by_kind info.text_base info.kind image pc found e

pub named_contains : {E : Type 0} (names : E → ℕ → Option FrameInfo → Type 0) (finder : Option E) (image : List Span) (pc : ℕ) (found : FoundFde) (ticks : ℕ) → FindsBy names finder image pc (Some found) ticks → IsTrue (covers_pc found.fde pc)
named_contains names None image pc found ticks finds = let no : Some found ≡ None = finds.0 in absurd cc
named_contains names (Some e) image pc found ticks finds = by_name finds.0 image pc found (sym finds.2)

-- ---- inside one module
inside_covers : (b : Bool) (o : Option FoundFde) (pc : ℕ) (found : FoundFde) → (o ≡ Some found → IsTrue (covers_pc found.fde pc)) → Some found ≡ cond b o None → IsTrue (covers_pc found.fde pc)
inside_covers true o pc found covers e = covers (sym e)
inside_covers false o pc found covers e = absurd cc

pub placed_contains : (p : Placed) (image : List Span) (pc : ℕ) (found : FoundFde) (ticks : ℕ) → FindsPlaced p image pc (Some found) ticks → IsTrue (covers_pc found.fde pc)
placed_contains p image pc found ticks finds =
    inside_covers (in_text p pc) (found_in_text (Some p.start) image p.table pc) pc found (scanned_covers (table_bases (Some p.start) p.table) (input_at image p.table) pc found) finds.0

pub placed_header_contains : (p : Placed) (image : List Span) (pc : ℕ) (found : FoundFde) (ticks : ℕ) → FindsByPlacedHeader p image pc (Some found) ticks → IsTrue (covers_pc found.fde pc)
placed_header_contains p image pc found ticks finds =
    inside_covers (in_text p pc) (found_by_header (relative_to (Some p.start) None) image p.table pc) pc found (header_covers (relative_to (Some p.start) None) image p.table pc found) finds.0
