-- Mach-O modules that describe functions, and states that are entered by them.
use Rattle.std.proofs.Common.{◌≡◌, ◌≢◌, ℕ, zero, suc, ◌+◌, ◌*◌, ◌≤◌, false, List, [], ◌∷◌, Option, Some, None, Result, Ok, Err, refl, ap, sym, subst, arith, lit<, lit≤, ◌∙◌}
use Rattle.std.specs.Prelude.{IsTrue, slice_get}
use Rattle.std.specs.List.{AllPairs, list_any}
use Rattle.memory_image.specs.Halving.{place_by_halving, boundary_of}
use Rattle.memory_image.specs.Image.{Span, table_at, half_at, word_at}
use Rattle.unwind_definitions.specs.Entries.{AFde, entry_at}
use Rattle.unwind_definitions.specs.LanguageTable.{input_at}
use Rattle.unwind_definitions.specs.State.{CalleeSaved, RBX, RBP, R12, R13, R14, R15, value_of, is_same, IsState}
use Rattle.unwind_definitions.specs.Prologue.{SystemV, Followed, Push, Save, saves, steps_of, distance}
use Rattle.unwind_definitions.specs.Entered.{IsEntered}
use Rattle.unwind_definitions.specs.Function.{Function, IsFunction}
use Rattle.unwind_laws.specs.Columns.{columns_of}
use Rattle.unwind_laws.specs.Pushing as pushing
use Rattle.unwind_laws.proofs.PushingValid as pushed
use Rattle.unwind_laws.proofs.RowFacts.{by_register, state_fits}
use Rattle.macho_unwind_info.specs.declared.error.Error.{Error}
use Rattle.macho_unwind_info.specs.declared.raw.format.Opcode.{Opcode}
use Rattle.macho_unwind_info.specs.declared.raw.format.PageEntry.{PageEntry}
use Rattle.macho_unwind_info.specs.declared.page.Page.{Page}
use Rattle.macho_unwind_info.specs.Described.{AscendWithin, IsDescribedPage, HasDescribedPages}
use Rattle.macho_unwind_info.specs.Listing.{section_of, page_of, whole_page, entries_of}
use Rattle.macho_unwind_info.specs.Lookup.{first_address, lookup_of}
use Rattle.memory_image.specs.Results.{◌>>=◌}
use Rattle.macho_unwind_info.specs.Sample.{described_bytes, damaged_bytes}
use Rattle.macho_unwind_info.specs.X86_64.{opcode_of, fields_of}
use Rattle.format_definitions.specs.CompactStep.{fields_up, frame_bases, compact_step, macho_step}
use Rattle.format_definitions.specs.MachoModules.{IsField, IsFrameBased, IsFrameless, IsOpcodeOf, DescribesMacho}
use Rattle.format_laws.specs.CompactUndone.{GivesCaller, GivesState}
use Rattle.format_laws.specs.MachoSamples.{sample_module, image, damaged_image, frameless_function, framed_function, frameless_state, frameless_caller, framed_state, framed_caller, indirect_word, indirect_image, indirect_function, indirect_state, indirect_caller, dwarf_word}

-- ---- functions

pub frameless_is_function : IsFunction SystemV frameless_function
frameless_is_function = record {
  prologue = record { ends = tt; each = tt; once = λ i j d lt below. absurd (omega arith) };
  has_body = λ e. absurd cc;
  bodies = (lit≤ tt, lit< tt, lit≤ tt, tt);
  sites = tt;
  outermost = λ e. absurd cc;
}

framed_apart : AllPairs (λ (a b : Save). a.register ≢ b.register) (saves (steps_of framed_function.prologue))
framed_apart i zero d lt below = absurd (omega arith)
framed_apart zero (suc zero) d lt below = λ e. absurd cc
framed_apart (suc i) (suc zero) d lt below = absurd (omega arith)
framed_apart i (suc (suc j)) d lt below = absurd (omega arith)

pub framed_is_function : IsFunction SystemV framed_function
framed_is_function = record {
  prologue = record { ends = (lit< tt, (lit< tt, (lit< tt, tt))); each = (refl, ((refl, refl, refl), (refl, tt))); once = framed_apart };
  has_body = λ e. absurd cc;
  bodies = (lit≤ tt, lit< tt, lit≤ tt, tt);
  sites = tt;
  outermost = λ e. absurd cc;
}

-- ---- opcodes

none_saved : (r : CalleeSaved) → distance r [] ≢ None → ⊥
none_saved RBX h = h refl
none_saved RBP h = h refl
none_saved R12 h = h refl
none_saved R13 h = h refl
none_saved R14 h = h refl
none_saved R15 h = h refl

pub frameless : IsFrameless [] 8 []
frameless = record { no_set = refl; is_depth = refl; saved = tt; all = λ r h. absurd (none_saved r h) }

abbrev framed_fields : List (Option CalleeSaved)
framed_fields = fields_up (fields_of 0x01010001)

rbx_field : IsField (steps_of framed_function.prologue) 8 0 framed_fields RBX
rbx_field = record { low = lit≤ tt; names = refl; other = λ e. absurd cc; at = 24; saved = refl; slot = refl }

framed : IsFrameBased (steps_of framed_function.prologue) 8 framed_fields
framed = record { rest = Push (Followed RBX) ∷ []; begins = refl; each = each; others = others }
  where
    each : (r : CalleeSaved) → r ≢ RBP → distance r (steps_of framed_function.prologue) ≢ None → (j : ℕ) × IsField (steps_of framed_function.prologue) 8 j framed_fields r
    each RBX other saved = (0, rbx_field)
    each RBP other saved = absurd (other refl)
    each R12 other saved = absurd (saved refl)
    each R13 other saved = absurd (saved refl)
    each R14 other saved = absurd (saved refl)
    each R15 other saved = absurd (saved refl)

    others : (j : ℕ) (r : CalleeSaved) → 8 * j + 8 ≤ 8 → slice_get framed_fields j ≡ Some (Some r) → IsField (steps_of framed_function.prologue) 8 j framed_fields r
    others zero r low names =
        let h : ◌≡◌ {A = Option (Option CalleeSaved)} (Some (Some RBX)) (Some (Some r)) = names in
        let same : RBX ≡ r = cc in
        subst (IsField (steps_of framed_function.prologue) 8 0 framed_fields) same rbx_field
    others (suc j) r low names = absurd (omega arith)

-- ---- the module

-- over any memory that has the section at its place
pub described_in : (memory : List Span) → table_at memory 0x600000 ≡ described_bytes → DescribesMacho memory sample_module (frameless_function ∷ framed_function ∷ [])
described_in memory at = record {
  info = _;
  parses = ap section_of at ∙ refl;
  personalities = [];
  named = refl;
  pages = (
    lit< tt,
    record {
      opened = _;
      reads = refl;
      begin = refl;
      ascend = (
        record { at = 0x1000; is = refl; from_low = lit≤ tt; below_high = lit< tt; opcode = 0x02010000; reads = refl },
        (record { at = 0x1100; is = refl; from_low = lit≤ tt; below_high = lit< tt; opcode = 0x02010000; reads = refl }, tt),
      );
    },
    (
      lit< tt,
      record {
        opened = _;
        reads = refl;
        begin = refl;
        ascend = (record { at = 0x2000; is = refl; from_low = lit≤ tt; below_high = lit< tt; opcode = 0x01010001; reads = refl }, tt);
      },
      tt,
    ),
  );
  tables = (lit< tt, record { entries = []; reads = refl; ascend = tt }, (lit< tt, record { entries = []; reads = refl; ascend = tt }, tt));
  each = (
    record {
      listed = record { start_address = 0x1000; end_address = 0x1100; opcode = 0x02010000 };
      among = (0, lit< tt, refl);
      describes = record { start = refl; end = refl; inside = lit≤ tt; opcode = (refl, frameless); language = record { index = lit≤ tt; leads = refl } };
    },
    (
      record {
        listed = record { start_address = 0x2000; end_address = 0x3000; opcode = 0x01010001 };
        among = (2, lit< tt, refl);
        describes = record { start = refl; end = refl; inside = lit≤ tt; opcode = (refl, framed); language = record { index = lit≤ tt; leads = refl } };
      },
      tt,
    ),
  );
}

pub described : DescribesMacho image sample_module (frameless_function ∷ framed_function ∷ [])
described = described_in image refl

-- ---- states

-- over any memory that has the return address at its place
pub frameless_entered : (memory : List Span) → word_at memory 0x70a0 ≡ Some 0x140001050 → IsEntered memory false (steps_of frameless_function.prologue) frameless_caller frameless_state
frameless_entered memory at = record { room = lit≤ tt; returns = λ _. at; leaves = tt; stack = refl; keeps = λ r e. by_register (λ q. value_of q frameless_state ≡ value_of q frameless_caller) refl refl refl refl refl refl r }

pub return_at : word_at image 0x70a0 ≡ Some 0x140001050
unfolding word_at
return_at = refl

pub framed_entered : IsEntered image false (steps_of framed_function.prologue) framed_caller framed_state
unfolding word_at
framed_entered = record {
  room = lit≤ tt;
  returns = λ _. refl;
  leaves = (lit≤ tt, refl, (lit< tt, (lit≤ tt, refl, tt)));
  stack = (lit≤ tt, refl);
  keeps = by_register (λ r. distance r (steps_of framed_function.prologue) ≡ None → value_of r framed_state ≡ value_of r framed_caller) (λ e. absurd cc) (λ e. absurd cc) (λ e. refl) (λ e. refl) (λ e. refl) (λ e. refl);
}

pub frameless_caller_fits : IsState frameless_caller
frameless_caller_fits = state_fits frameless_caller (lit< tt) (lit< tt) (lit< tt) (lit< tt) (lit< tt) (lit< tt) (lit< tt) (lit< tt)

pub framed_caller_fits : IsState framed_caller
framed_caller_fits = state_fits framed_caller (lit< tt) (lit< tt) (lit< tt) (lit< tt) (lit< tt) (lit< tt) (lit< tt) (lit< tt)

-- ---- steps, computed

pub frameless_step : GivesState (macho_step image sample_module 0x100f (columns_of frameless_state)) frameless_caller
unfolding word_at lookup_of place_by_halving boundary_of
frameless_step = record { caller = _; answered = refl; shows = record { ra = refl; sp = refl; saved = by_register (λ q. _ ≡ Some (value_of q frameless_caller)) refl refl refl refl refl refl } }

pub framed_step : GivesState (macho_step image sample_module 0x200f (columns_of framed_state)) framed_caller
unfolding word_at lookup_of place_by_halving boundary_of
framed_step = record { caller = _; answered = refl; shows = record { ra = refl; sp = refl; saved = by_register (λ q. _ ≡ Some (value_of q framed_caller)) refl refl refl refl refl refl } }

-- the same where an entry after it names an opcode that isn't there
pub damaged_step : GivesState (macho_step damaged_image sample_module 0x100f (columns_of frameless_state)) frameless_caller
unfolding word_at lookup_of place_by_halving boundary_of
damaged_step = record { caller = _; answered = refl; shows = record { ra = refl; sp = refl; saved = by_register (λ q. _ ≡ Some (value_of q frameless_caller)) refl refl refl refl refl refl } }

-- what holds of a value that there is
abbrev OnValue : {A : Type 0} → (A → Type 0) → Result A Error → Type 0
OnValue P (Ok x) = P x
OnValue P (Err e) = Unit {0}

on_value : {A : Type 0} (P : A → Type 0) (r : Result A Error) (x : A) → r ≡ Ok x → P x → OnValue P r
on_value P r x e p = subst (OnValue P) (sym e) p

entries_ascend : (bytes : List ℕ) (global : List Opcode) (page : PageEntry) (next : ℕ) → IsDescribedPage bytes global page next →
    OnValue (λ (opened : Page). AscendWithin (first_address page) next (entries_of global opened)) (page_of bytes page >>= whole_page)
entries_ascend bytes global page next d = on_value (λ (opened : Page). AscendWithin (first_address page) next (entries_of global opened)) (page_of bytes page >>= whole_page) d.opened d.reads d.ascend

-- pages of which an entry names an opcode that isn't there are not as a linker writes them
undescribed_pages : OnValue HasDescribedPages (section_of damaged_bytes) → ⊥
undescribed_pages pages =
    let within = (entries_ascend _ _ _ _ pages.1).1.0 in
    let reads = within.reads in
    absurd cc

pub undescribed : (functions : List Function) → DescribesMacho damaged_image sample_module functions → ⊥
undescribed functions d = undescribed_pages (on_value HasDescribedPages (section_of damaged_bytes) d.info d.parses d.pages)

-- ---- a size that stands in the code

indirect_apart : AllPairs (λ (a b : Save). a.register ≢ b.register) (saves (steps_of indirect_function.prologue))
indirect_apart i zero d lt below = absurd (omega arith)
indirect_apart zero (suc zero) d lt below = λ e. absurd cc
indirect_apart zero (suc (suc zero)) d lt below = λ e. absurd cc
indirect_apart (suc zero) (suc (suc zero)) d lt below = λ e. absurd cc
indirect_apart zero (suc (suc (suc zero))) d lt below = λ e. absurd cc
indirect_apart (suc zero) (suc (suc (suc zero))) d lt below = λ e. absurd cc
indirect_apart (suc (suc zero)) (suc (suc (suc zero))) d lt below = λ e. absurd cc
indirect_apart zero (suc (suc (suc (suc zero)))) d lt below = λ e. absurd cc
indirect_apart (suc zero) (suc (suc (suc (suc zero)))) d lt below = λ e. absurd cc
indirect_apart (suc (suc zero)) (suc (suc (suc (suc zero)))) d lt below = λ e. absurd cc
indirect_apart (suc (suc (suc zero))) (suc (suc (suc (suc zero)))) d lt below = λ e. absurd cc
indirect_apart zero (suc (suc (suc (suc (suc zero))))) d lt below = λ e. absurd cc
indirect_apart (suc zero) (suc (suc (suc (suc (suc zero))))) d lt below = λ e. absurd cc
indirect_apart (suc (suc zero)) (suc (suc (suc (suc (suc zero))))) d lt below = λ e. absurd cc
indirect_apart (suc (suc (suc zero))) (suc (suc (suc (suc (suc zero))))) d lt below = λ e. absurd cc
indirect_apart (suc (suc (suc (suc zero)))) (suc (suc (suc (suc (suc zero))))) d lt below = λ e. absurd cc
indirect_apart (suc i) (suc zero) d lt below = absurd (omega arith)
indirect_apart (suc (suc i)) (suc (suc zero)) d lt below = absurd (omega arith)
indirect_apart (suc (suc (suc i))) (suc (suc (suc zero))) d lt below = absurd (omega arith)
indirect_apart (suc (suc (suc (suc i)))) (suc (suc (suc (suc zero)))) d lt below = absurd (omega arith)
indirect_apart (suc (suc (suc (suc (suc i))))) (suc (suc (suc (suc (suc zero))))) d lt below = absurd (omega arith)
indirect_apart i (suc (suc (suc (suc (suc (suc j)))))) d lt below = absurd (omega arith)

pub indirect_is_function : IsFunction SystemV indirect_function
indirect_is_function = record {
  prologue = record { ends = (lit< tt, (lit< tt, (lit< tt, (lit< tt, (lit< tt, (lit< tt, (lit< tt, tt))))))); each = (refl, (refl, (refl, (refl, (refl, (refl, ((lit< tt, refl), tt))))))); once = indirect_apart };
  has_body = λ e. absurd cc;
  bodies = (lit≤ tt, lit< tt, lit≤ tt, tt);
  sites = tt;
  outermost = λ e. absurd cc;
}

pub indirect_described : IsOpcodeOf indirect_image None indirect_function (opcode_of indirect_word)
unfolding half_at
indirect_described = (
  refl,
  record {
    size = 0x1000;
    mapped = refl;
    frameless = record {
      no_set = refl;
      is_depth = refl;
      saved = (refl, (refl, (refl, (refl, (refl, (refl, tt))))));
      all = λ r h. by_register (λ q. IsTrue (list_any (is_same q) (RBP ∷ R15 ∷ R14 ∷ R13 ∷ R12 ∷ RBX ∷ []))) refl refl refl refl refl refl r;
    };
  },
)

pub indirect_entered : IsEntered indirect_image false (steps_of indirect_function.prologue) indirect_caller indirect_state
unfolding word_at
indirect_entered = record {
  room = lit≤ tt;
  returns = λ _. refl;
  leaves = (lit≤ tt, refl, (lit≤ tt, refl, (lit≤ tt, refl, (lit≤ tt, refl, (lit≤ tt, refl, (lit≤ tt, refl, (lit≤ tt, tt)))))));
  stack = refl;
  keeps = by_register (λ r. distance r (steps_of indirect_function.prologue) ≡ None → value_of r indirect_state ≡ value_of r indirect_caller) (λ e. absurd cc) (λ e. absurd cc) (λ e. absurd cc) (λ e. absurd cc) (λ e. absurd cc) (λ e. absurd cc);
}

pub indirect_step : GivesCaller (compact_step indirect_image None indirect_function.start 0x100003017 (columns_of indirect_state) (opcode_of indirect_word)) indirect_caller
unfolding word_at half_at
indirect_step = record { caller = _; answered = refl; shows = record { ra = refl; sp = refl; saved = by_register (λ q. _ ≡ Some (value_of q indirect_caller)) refl refl refl refl refl refl } }

-- ---- frame data

dwarf_reads : entry_at (frame_bases 0x500000) (input_at pushing.image 0x500000) 24 ≡ Ok (Some (record { entry = AFde pushing.fde; next = 48 }))
unfolding entry_at
dwarf_reads = refl

pub dwarf_described : IsOpcodeOf pushing.image (Some 0x500000) pushing.function (opcode_of dwarf_word)
dwarf_described = record { fde = pushing.fde; next = 48; reads = dwarf_reads; describes = pushed.describes pushing.image }

pub dwarf_entered : IsEntered pushing.image false (steps_of pushing.function.prologue) pushing.caller pushing.start
unfolding word_at
dwarf_entered = record {
  room = lit≤ tt;
  returns = λ _. refl;
  leaves = (lit≤ tt, refl, tt);
  stack = refl;
  keeps = by_register (λ r. distance r (steps_of pushing.function.prologue) ≡ None → value_of r pushing.start ≡ value_of r pushing.caller) (λ e. absurd cc) (λ e. refl) (λ e. refl) (λ e. refl) (λ e. refl) (λ e. refl);
}
