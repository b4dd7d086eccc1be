-- Calls through modules of three formats are valid, in each of which the function that is called has a handler.
use Rattle.std.proofs.Common.{false, [], refl, inl, inr, lit<, lit≤}
use Rattle.memory_image.specs.Image.{word_at}
use Rattle.unwind_definitions.specs.State.{IsState}
use Rattle.unwind_definitions.specs.Prologue.{steps_of}
use Rattle.unwind_definitions.specs.Entered.{IsEntered}
use Rattle.unwind_definitions.specs.Chain.{IsChain}
use Rattle.unwind_laws.specs.Columns.{columns_of}
use Rattle.unwind_laws.specs.Three as three
use Rattle.unwind_laws.proofs.PushingValid.{columns_show}
use Rattle.unwind_laws.proofs.RowFacts.{state_fits}
use Rattle.unwind_laws.proofs.ThreeValid.{function_a, function_b, function_c, words}
use Rattle.format_definitions.specs.Modules.{Elf, Macho, Pe, IsUncoveredBy}
use Rattle.format_definitions.specs.Process.{IsProcess}
use Rattle.format_definitions.specs.Valid.{DescribesItsPart, IsValid}
use Rattle.format_laws.specs.Sample.{modules}
use Rattle.format_laws.specs.MachoSamples.{sample_module}
use Rattle.format_laws.specs.PeSamples.{module_of_one}
use Rattle.format_laws.proofs.Caught.{modules_apart}
use Rattle.format_laws.proofs.ElfThree as elf
use Rattle.format_samples.specs.Handlers.{image, functions, in_macho, in_pe, calls_from_macho, calls_from_pe}
use Rattle.format_samples.proofs.MachoHandler as macho
use Rattle.format_samples.proofs.PeHandler as pe

pub is_process : IsProcess image modules
is_process = record {
  regions = (lit≤ tt, lit< tt, lit≤ tt, (lit≤ tt, lit< tt, lit≤ tt, (lit≤ tt, lit< tt, lit≤ tt, (lit≤ tt, lit< tt, lit≤ tt, (lit≤ tt, lit< tt, lit≤ tt, (lit≤ tt, lit< tt, lit≤ tt, (lit≤ tt, lit< tt, lit≤ tt, (lit≤ tt, lit< tt, lit≤ tt, (lit≤ tt, lit< tt, lit≤ tt, tt)))))))));
  ranges = ((lit< tt, lit< tt), ((lit< tt, lit< tt), ((lit< tt, lit< tt), tt)));
  apart = modules_apart;
}

-- ---- what its modules describe

names_tables : elf.NamesTables image
unfolding word_at
names_tables = record {
  second = record { nonzero = λ e. absurd cc; size = 8; after = _; header = refl; listed = _; actions = _; parts = refl; each = (_, refl, (_, refl, refl)) };
  third = record { nonzero = λ e. absurd cc; size = 4; after = _; header = refl; listed = _; actions = _; parts = refl; each = (_, refl, refl) };
  emitted = record { version = refl; code_factor = refl; data_factor = refl; return_column = refl; augmentation = inr (inr refl); address = refl; language = inr refl; personality = inr (refl, λ e. absurd cc); program = (2, refl) };
}

elf_part : DescribesItsPart image functions (Elf three.module_of_them)
elf_part = record { are_functions = (function_a, (function_b, (function_c, tt))); describes = elf.described_in image names_tables refl }

macho_part : DescribesItsPart image functions (Macho sample_module)
macho_part = record { are_functions = (macho.is_function, tt); describes = macho.described }

pe_part : DescribesItsPart image functions (Pe module_of_one)
pe_part = record { are_functions = (pe.is_function, tt); describes = pe.described }

-- ---- the calls

macho_fits : IsState in_macho
macho_fits = state_fits in_macho (lit< tt) (lit< tt) (lit< tt) (lit< tt) (lit< tt) (lit< tt) (lit< tt) (lit< tt)

pe_fits : IsState in_pe
pe_fits = state_fits in_pe (lit< tt) (lit< tt) (lit< tt) (lit< tt) (lit< tt) (lit< tt) (lit< tt) (lit< tt)

third_entered : IsEntered image false (steps_of three.fc.prologue) three.last (three.third 0x401060)
unfolding word_at
third_entered = elf.entered_in image refl refl refl

chain_from_pe : IsChain image (IsUncoveredBy image modules) functions in_pe calls_from_pe
chain_from_pe = (
  record { state = pe_fits; listed = (0, lit< tt, refl); called = record { returns = λ e. absurd cc; inside = refl; entered = pe.entered }; last = λ outer. absurd cc },
  (
    record {
      state = words (three.third 0x401060) (lit< tt) (lit< tt) (lit< tt) (lit< tt) (lit< tt) refl refl refl;
      listed = (4, lit< tt, refl);
      called = record { returns = λ e. absurd cc; inside = refl; entered = third_entered };
      last = λ outer. absurd cc;
    },
    record { state = words three.last (lit< tt) (lit< tt) (lit< tt) (lit< tt) (lit< tt) refl refl refl; ends = inl refl },
  ),
)

chain_from_macho : IsChain image (IsUncoveredBy image modules) functions in_macho calls_from_macho
chain_from_macho = (record { state = macho_fits; listed = (1, lit< tt, refl); called = record { returns = λ e. absurd cc; inside = refl; entered = macho.entered }; last = λ outer. absurd cc }, chain_from_pe)

pub valid_from_macho : IsValid image modules (columns_of in_macho) [] functions in_macho calls_from_macho
valid_from_macho = record {
  parts = (elf_part, (macho_part, (pe_part, tt)));
  no_others = (refl, (refl, (refl, (refl, (refl, tt)))));
  shows = columns_show in_macho;
  chain = chain_from_macho;
  resumed = λ f found accepted. tt;
}

pub valid_from_pe : IsValid image modules (columns_of in_pe) [] functions in_pe calls_from_pe
valid_from_pe = record { parts = valid_from_macho.parts; no_others = valid_from_macho.no_others; shows = columns_show in_pe; chain = chain_from_pe; resumed = λ f found accepted. tt }
