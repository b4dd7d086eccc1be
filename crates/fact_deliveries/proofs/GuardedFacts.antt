-- A small C++ program's frame table says what is known at five addresses of its code, its states stand with that, and its language
-- tables ask what the rule of C++ makes of their chains of action records.
use Rattle.std.proofs.Common.{◌≡◌, ℕ, true, false, Ok, refl, inl, lit<}
use Rattle.std.specs.List.{AllPairs, Contains}
use Rattle.memory_image.specs.Image.{word_at}
use Rattle.unwind_definitions.specs.Instructions.{instruction_of}
use Rattle.unwind_definitions.specs.Entries.{Fde, AreEntries, entry_at}
use Rattle.unwind_definitions.specs.Row.{RowInstructions, ColumnAndOffset, argument_size, covers_pc, row_at}
use Rattle.unwind_definitions.specs.Module.{DescriptionsApart, in_module}
use Rattle.frame_facts.specs.Facts.{Facts, StandsWith}
use Rattle.frame_facts.specs.FactRows.{SaysFacts}
use Rattle.frame_facts.specs.FactTables.{HasTables, AreSaidAt}
use Rattle.frame_facts_laws.proofs.SampleTests.{lie_apart, row_says, state_stands}
use Rattle.unwinding_frames.specs.CxxTables.{cxx_search}
use Rattle.stack_steps.specs.declared.asking.FrameAction.TheVariants.{Nothing, Cleanup, Handler}
use Rattle.stack_steps.specs.Languages.{described_asks, found_in}
use Rattle.fact_deliveries.specs.GuardedThrow.{languages}
use Rattle.fact_deliveries.specs.GuardedProgram as sample
use Rattle.fact_deliveries.specs.GuardedProgram.{bases, entries, fdes, home, image, process, table}

-- ---- the table

pub reads : AreEntries bases table 0 entries
unfolding entry_at
reads = (24, refl, (44, refl, (64, refl, (84, refl, (104, refl, (124, refl, (144, refl, (164, refl, (192, refl, (224, refl, (272, refl, (336, refl, (356, refl, refl)))))))))))))

pub apart : AllPairs DescriptionsApart fdes
apart = lie_apart fdes refl

abbrev pub tables : HasTables image home
tables = record {
  frame = 0x402010;
  address = refl;
  entries = entries;
  frames = record { reads = reads; lengths = ((20, _, refl, lit< tt), ((16, _, refl, lit< tt), ((16, _, refl, lit< tt), ((16, _, refl, lit< tt), ((16, _, refl, lit< tt), ((16, _, refl, lit< tt), ((16, _, refl, lit< tt), ((16, _, refl, lit< tt), ((24, _, refl, lit< tt), ((28, _, refl, lit< tt), ((44, _, refl, lit< tt), ((60, _, refl, lit< tt), ((16, _, refl, lit< tt), tt))))))))))))); each = tt; foreign = λ fde has none. tt };
  nonempty = (lit< tt, (lit< tt, (lit< tt, (lit< tt, (lit< tt, (lit< tt, (lit< tt, (lit< tt, (lit< tt, (lit< tt, (lit< tt, tt)))))))))));
  apart = apart;
  inside = tt;
  header = tt;
}

-- ---- rows say what is known

says_in_raises : SaysFacts sample.known_in_raises sample.row_in_raises
says_in_raises = row_says sample.known_in_raises sample.row_in_raises (ColumnAndOffset 7 16) refl (16, inl (refl, refl)) refl refl refl refl

says_in_cleans : SaysFacts sample.known_in_cleans sample.row_in_cleans
says_in_cleans = row_says sample.known_in_cleans sample.row_in_cleans (ColumnAndOffset 7 32) refl (32, inl (refl, refl)) refl refl refl refl

says_when_cleaned : SaysFacts sample.known_in_cleans sample.row_when_cleaned
says_when_cleaned = row_says sample.known_in_cleans sample.row_when_cleaned (ColumnAndOffset 7 32) refl (32, inl (refl, refl)) refl refl refl refl

says_in_catches : SaysFacts sample.known_in_catches sample.row_in_catches
says_in_catches = row_says sample.known_in_catches sample.row_in_catches (ColumnAndOffset 7 48) refl (48, inl (refl, refl)) refl refl refl refl

says_in_start : SaysFacts sample.known_in_start sample.row_in_start
says_in_start = row_says sample.known_in_start sample.row_in_start (ColumnAndOffset 7 16) refl (16, inl (refl, refl)) refl refl refl refl

-- ---- what the table says

-- a description of the table, which contains an address and has this row there, says its facts
abbrev said_by : (fde : Fde) (a : ℕ) (facts : Facts) (run : RowInstructions) → Contains fdes fde → covers_pc fde a ≡ true → in_module a home ≡ true → fde.cie.letters.signal ≡ false → row_at bases fde a ≡ Ok run → SaysFacts facts run → AreSaidAt process a facts
said_by fde a facts run listed covers inside unmarked row says = record {
  home = home;
  known = (0, lit< tt, refl);
  inside = inside;
  says = record { tables = tables; fde = fde; listed = listed; covers = covers; unmarked = unmarked; row = (run, row, says) };
}

pub said_in_raises : AreSaidAt process 0x401078 sample.known_in_raises
unfolding row_at instruction_of
said_in_raises = said_by sample.raises 0x401078 sample.known_in_raises sample.row_in_raises (7, lit< tt, refl) refl refl refl refl says_in_raises

pub said_in_cleans : AreSaidAt process 0x40108d sample.known_in_cleans
unfolding row_at instruction_of
said_in_cleans = said_by sample.cleans 0x40108d sample.known_in_cleans sample.row_in_cleans (8, lit< tt, refl) refl refl refl refl says_in_cleans

pub said_when_cleaned : AreSaidAt process 0x4010b6 sample.known_in_cleans
unfolding row_at instruction_of
said_when_cleaned = said_by sample.cleans 0x4010b6 sample.known_in_cleans sample.row_when_cleaned (8, lit< tt, refl) refl refl refl refl says_when_cleaned

pub said_in_catches : AreSaidAt process 0x4010d1 sample.known_in_catches
unfolding row_at instruction_of
said_in_catches = said_by sample.catches 0x4010d1 sample.known_in_catches sample.row_in_catches (9, lit< tt, refl) refl refl refl refl says_in_catches

pub said_in_start : AreSaidAt process 0x40112d sample.known_in_start
unfolding row_at instruction_of
said_in_start = said_by sample.start_code 0x40112d sample.known_in_start sample.row_in_start (10, lit< tt, refl) refl refl refl refl says_in_start

-- ---- states

pub stands_in_raises : StandsWith image sample.known_in_raises sample.in_cleans sample.in_raises
unfolding word_at
stands_in_raises = state_stands image sample.known_in_raises sample.in_cleans sample.in_raises refl

pub stands_in_cleans : StandsWith image sample.known_in_cleans sample.in_catches sample.in_cleans
unfolding word_at
stands_in_cleans = state_stands image sample.known_in_cleans sample.in_catches sample.in_cleans refl

pub stands_when_cleaned : StandsWith image sample.known_in_cleans sample.in_catches sample.cleaned
unfolding word_at
stands_when_cleaned = state_stands image sample.known_in_cleans sample.in_catches sample.cleaned refl

pub stands_in_catches : StandsWith image sample.known_in_catches sample.in_start sample.in_catches
unfolding word_at
stands_in_catches = state_stands image sample.known_in_catches sample.in_start sample.in_catches refl

pub stands_in_start : StandsWith image sample.known_in_start sample.outside sample.in_start
unfolding word_at
stands_in_start = state_stands image sample.known_in_start sample.outside sample.in_start refl

-- ---- what is asked

pub asks_in_raises : (described_asks languages image 0x401078 (found_in said_in_raises) ≡ Ok Nothing) × (0 ≡ argument_size said_in_raises.says.row.0)
unfolding said_in_raises
asks_in_raises = (refl, refl)

pub asks_in_cleans : (described_asks languages image 0x40108d (found_in said_in_cleans) ≡ Ok (Cleanup 0x4010a4)) × (0 ≡ argument_size said_in_cleans.says.row.0)
unfolding word_at cxx_search said_in_cleans
asks_in_cleans = (refl, refl)

pub asks_when_cleaned : (described_asks languages image 0x4010b6 (found_in said_when_cleaned) ≡ Ok Nothing) × (0 ≡ argument_size said_when_cleaned.says.row.0)
unfolding word_at cxx_search said_when_cleaned
asks_when_cleaned = (refl, refl)

pub asks_in_catches : (described_asks languages image 0x4010d1 (found_in said_in_catches) ≡ Ok (Handler 0x4010ec 2)) × (0 ≡ argument_size said_in_catches.says.row.0)
unfolding word_at cxx_search said_in_catches
asks_in_catches = (refl, refl)

pub asks_in_start : (described_asks languages image 0x40112d (found_in said_in_start) ≡ Ok Nothing) × (0 ≡ argument_size said_in_start.says.row.0)
unfolding said_in_start
asks_in_start = (refl, refl)
