-- The ELF module of three functions, over any memory that has its tables at their places, and in that of calls through three formats.
use Rattle.std.proofs.Common.{◌≡◌, ℕ, false, List, Some, None, refl, sym, subst, inr, lit<, lit≤}
use Rattle.std.specs.Prelude.{IsFalse}
use Rattle.std.specs.List.{AllByRecursion, list_any}
use Rattle.memory_image.specs.Image.{Span, table_at, word_at}
use Rattle.unwind_definitions.specs.Pointers.{Bases}
use Rattle.unwind_definitions.specs.Entries.{entry_at}
use Rattle.unwind_definitions.specs.State.{value_of}
use Rattle.unwind_definitions.specs.Prologue.{steps_of, distance}
use Rattle.unwind_definitions.specs.Entered.{IsEntered}
use Rattle.unwind_definitions.specs.LanguageTable.{IsLanguageTable}
use Rattle.unwind_definitions.specs.FrameTable.{IsEmittedCie, DescribesFrames, MeetsNot, has_range_of}
use Rattle.unwind_definitions.specs.Module.{bases_of, DescribesModule}
use Rattle.unwind_laws.specs.Three.{frames, table, cie_language, fde_a, fde_b, fde_c, fc, functions, entries, module_of_them, third, last}
use Rattle.unwind_laws.proofs.RowFacts.{by_register}
use Rattle.unwind_laws.proofs.ThreeRows.{rows_a, rows_b, rows_c}
use Rattle.unwind_laws.proofs.ThreeValid.{sites_b, sites_c, emitted_plain, pairs_three, each_fde}
use Rattle.format_laws.specs.PeSamples.{room_image}

-- what the module names beside its frame table: the two language tables, and the cell of their personality
pub record NamesTables (memory : List Span) : Type 0 where
  pub second : IsLanguageTable memory 0x502000 0x401020 sites_b
  pub third : IsLanguageTable memory 0x50200c 0x401050 sites_c
  pub emitted : IsEmittedCie memory cie_language

module _ (memory : List Span) (names : NamesTables memory) where
  frames_described : (bases : Bases) → DescribesFrames memory bases table entries functions
  unfolding entry_at
  frames_described bases = record {
    reads = (24, refl, (52, refl, (84, refl, (112, refl, (148, refl, refl)))));
    lengths = ((20, _, refl, lit< tt), ((24, _, refl, lit< tt), ((28, _, refl, lit< tt), ((24, _, refl, lit< tt), ((32, _, refl, lit< tt), tt)))));
    each = (
      record { fde = fde_a; one = refl; describes = record { code = record { cie = emitted_plain memory; earlier = lit< tt; start = refl; end = refl; rows = rows_a bases }; language = refl } },
      (
        record { fde = fde_b; one = refl; describes = record { code = record { cie = names.emitted; earlier = lit< tt; start = refl; end = refl; rows = rows_b bases }; language = (sites_b, refl, names.second) } },
        (record { fde = fde_c; one = refl; describes = record { code = record { cie = names.emitted; earlier = lit< tt; start = refl; end = refl; rows = rows_c bases }; language = (sites_c, refl, names.third) } }, tt),
      ),
    );
    foreign = each_fde (λ fde. IsFalse (list_any (λ f. has_range_of f fde) functions) → AllByRecursion (MeetsNot fde) functions) (λ none. absurd cc) (λ none. absurd cc) (λ none. absurd cc);
  }

  pub described_in : table_at memory 0x500000 ≡ frames → DescribesModule memory module_of_them functions
  described_in at = record {
    frame = 0x500000;
    address = refl;
    entries = entries;
    frames = subst (λ (bytes : List ℕ). DescribesFrames memory (bases_of module_of_them 0x500000) (record { base = 0x500000; offset = 0; bytes = bytes }) entries functions) (sym at) (frames_described (bases_of module_of_them 0x500000));
    nonempty = (lit< tt, (lit< tt, (lit< tt, tt)));
    apart = pairs_three;
    inside = ((lit≤ tt, lit≤ tt), ((lit≤ tt, lit≤ tt), ((lit≤ tt, lit≤ tt), tt)));
    header = tt;
  }

names_tables : NamesTables room_image
unfolding word_at
names_tables = record {
  second = record { nonzero = λ e. absurd cc; size = 8; after = _; header = refl; listed = _; actions = _; parts = refl; each = (_, refl, (_, refl, refl)) };
  third = record { nonzero = λ e. absurd cc; size = 4; after = _; header = refl; listed = _; actions = _; parts = refl; each = (_, refl, refl) };
  emitted = record { version = refl; code_factor = refl; data_factor = refl; return_column = refl; augmentation = inr (inr refl); address = refl; language = inr refl; personality = inr (refl, λ e. absurd cc); program = (2, refl) };
}

pub described : DescribesModule room_image module_of_them functions
described = described_in room_image names_tables refl

-- over any memory that has the words of the third function's frame at their places
pub entered_in : (memory : List Span) → word_at memory 0x70e8 ≡ Some 0xb → word_at memory 0x70f0 ≡ Some 0xe → word_at memory 0x70f8 ≡ Some 0 → IsEntered memory false (steps_of fc.prologue) last (third 0x401060)
entered_in memory rbx r14 ra = record {
  room = lit≤ tt;
  returns = λ _. ra;
  leaves = (lit≤ tt, r14, (lit≤ tt, rbx, (lit≤ tt, tt)));
  stack = refl;
  keeps = by_register (λ r. distance r (steps_of fc.prologue) ≡ None → value_of r (third 0x401060) ≡ value_of r last) (λ e. absurd cc) (λ e. refl) (λ e. refl) (λ e. refl) (λ e. absurd cc) (λ e. refl);
}

pub entered : IsEntered room_image false (steps_of fc.prologue) last (third 0x401060)
unfolding word_at
entered = entered_in room_image refl refl refl
