-- A small C++ program's frame table says what is known at five addresses of its code, its states stand with that, and its language
-- tables ask what its call sites do.
use Rattle.std.proofs.Common.{◌≡◌, ℕ, true, false, None, Some, Ok, refl, inl, inr, lit<, lit≤}
use Rattle.std.specs.List.{AllPairs, Contains}
use Rattle.memory_image.specs.Image.{word_at}
use Rattle.unwind_definitions.specs.Instructions.{instruction_of}
use Rattle.unwind_definitions.specs.Entries.{Fde, AreEntries, entry_at}
use Rattle.unwind_definitions.specs.Row.{RowInstructions, ColumnAndOffset, covers_pc, row_at}
use Rattle.unwind_definitions.specs.Function.{NoAction, Cleanup, Catch}
use Rattle.unwind_definitions.specs.Module.{DescriptionsApart, in_module}
use Rattle.frame_facts.specs.Facts.{Facts, StandsWith}
use Rattle.frame_facts.specs.FactRows.{SaysFacts}
use Rattle.frame_facts.specs.FactTables.{HasTables, AreSaidAt}
use Rattle.frame_facts.specs.FactDeliveries.{AsksAt}
use Rattle.frame_facts_laws.proofs.SampleTests.{lie_apart, row_says, state_stands}
use Rattle.unwind_definitions.specs.Row.{argument_size}
use Rattle.unwinding_frames.specs.CxxTables.{cxx_search}
use Rattle.stack_steps.specs.declared.asking.FrameAction.TheVariants.{Nothing, Cleanup as Cleans, Handler}
use Rattle.stack_steps.specs.Languages.{described_asks, found_in}
use Rattle.fact_deliveries.specs.CxxLanding.{languages}
use Rattle.fact_deliveries.specs.LandingProgram as sample
use Rattle.fact_deliveries.specs.LandingProgram.{bases, entries, fdes, home, image, process, table}

-- ---- the table

pub reads : AreEntries bases table 0 entries
unfolding entry_at
reads = (24, refl, (44, refl, (64, refl, (84, refl, (104, refl, (124, refl, (144, refl, (164, refl, (192, refl, (224, refl, (268, refl, (300, refl, (344, refl, (372, refl, (392, refl, refl)))))))))))))))

pub apart : AllPairs DescriptionsApart fdes
apart = lie_apart fdes refl

abbrev pub tables : HasTables image home
tables = record {
  frame = 0x402000;
  address = refl;
  entries = entries;
  frames = record { reads = reads; lengths = ((20, _, refl, lit< tt), ((16, _, refl, lit< tt), ((16, _, refl, lit< tt), ((16, _, refl, lit< tt), ((16, _, refl, lit< tt), ((16, _, refl, lit< tt), ((16, _, refl, lit< tt), ((16, _, refl, lit< tt), ((24, _, refl, lit< tt), ((28, _, refl, lit< tt), ((40, _, refl, lit< tt), ((28, _, refl, lit< tt), ((40, _, refl, lit< tt), ((24, _, refl, lit< tt), ((16, _, refl, lit< tt), tt))))))))))))))); each = tt; foreign = λ fde has none. tt };
  nonempty = (lit< tt, (lit< tt, (lit< tt, (lit< tt, (lit< tt, (lit< tt, (lit< tt, (lit< tt, (lit< tt, (lit< tt, (lit< tt, (lit< tt, (lit< tt, tt)))))))))))));
  apart = apart;
  inside = tt;
  header = tt;
}

-- ---- rows say what is known

says_in_raises : SaysFacts sample.known_in_raises sample.row_in_raises
says_in_raises = row_says sample.known_in_raises sample.row_in_raises (ColumnAndOffset 7 16) refl (16, inl (refl, refl)) refl refl refl refl

says_in_cleans : SaysFacts sample.known_in_cleans sample.row_in_cleans
says_in_cleans = row_says sample.known_in_cleans sample.row_in_cleans (ColumnAndOffset 6 16) refl (16, inr (refl, refl)) refl refl refl refl

says_in_part : SaysFacts sample.known_when_cleaned sample.row_in_part
says_in_part = row_says sample.known_when_cleaned sample.row_in_part (ColumnAndOffset 6 16) refl (16, inr (refl, refl)) refl refl refl refl

says_in_catches : SaysFacts sample.known_in_catches sample.row_in_catches
says_in_catches = row_says sample.known_in_catches sample.row_in_catches (ColumnAndOffset 6 16) refl (16, inr (refl, refl)) refl refl refl refl

says_in_start : SaysFacts sample.known_in_start sample.row_in_start
says_in_start = row_says sample.known_in_start sample.row_in_start (ColumnAndOffset 7 16) refl (16, inl (refl, refl)) refl refl refl refl

-- ---- what the table says

-- a description of the table, which contains an address and has this row there, says its facts
abbrev said_by : (fde : Fde) (a : ℕ) (facts : Facts) (run : RowInstructions) → Contains fdes fde → covers_pc fde a ≡ true → in_module a home ≡ true → fde.cie.letters.signal ≡ false → row_at bases fde a ≡ Ok run → SaysFacts facts run → AreSaidAt process a facts
said_by fde a facts run listed covers inside unmarked row says = record {
  home = home;
  known = (0, lit< tt, refl);
  inside = inside;
  says = record { tables = tables; fde = fde; listed = listed; covers = covers; unmarked = unmarked; row = (run, row, says) };
}

pub said_in_raises : AreSaidAt process 0x4010ad sample.known_in_raises
unfolding row_at instruction_of
said_in_raises = said_by sample.raises 0x4010ad sample.known_in_raises sample.row_in_raises (7, lit< tt, refl) refl refl refl refl says_in_raises

pub said_in_cleans : AreSaidAt process 0x4010f4 sample.known_in_cleans
unfolding row_at instruction_of
said_in_cleans = said_by sample.cleans 0x4010f4 sample.known_in_cleans sample.row_in_cleans (8, lit< tt, refl) refl refl refl refl says_in_cleans

pub said_in_part : AreSaidAt process 0x40100f sample.known_when_cleaned
unfolding row_at instruction_of
said_in_part = said_by sample.cleans_part 0x40100f sample.known_when_cleaned sample.row_in_part (9, lit< tt, refl) refl refl refl refl says_in_part

pub said_in_catches : AreSaidAt process 0x401151 sample.known_in_catches
unfolding row_at instruction_of
said_in_catches = said_by sample.catches 0x401151 sample.known_in_catches sample.row_in_catches (10, lit< tt, refl) refl refl refl refl says_in_catches

pub said_in_start : AreSaidAt process 0x40117d sample.known_in_start
unfolding row_at instruction_of
said_in_start = said_by sample.start_code 0x40117d sample.known_in_start sample.row_in_start (12, lit< tt, refl) refl refl refl refl says_in_start

-- ---- states

pub stands_in_raises : StandsWith image sample.known_in_raises sample.in_cleans sample.in_raises
unfolding word_at
stands_in_raises = state_stands image sample.known_in_raises sample.in_cleans sample.in_raises refl

pub stands_in_cleans : StandsWith image sample.known_in_cleans sample.in_catches sample.in_cleans
unfolding word_at
stands_in_cleans = state_stands image sample.known_in_cleans sample.in_catches sample.in_cleans refl

pub stands_when_cleaned : StandsWith image sample.known_when_cleaned sample.in_catches sample.cleaned
unfolding word_at
stands_when_cleaned = state_stands image sample.known_when_cleaned sample.in_catches sample.cleaned refl

pub stands_in_catches : StandsWith image sample.known_in_catches sample.in_start sample.in_catches
unfolding word_at
stands_in_catches = state_stands image sample.known_in_catches sample.in_start sample.in_catches refl

pub stands_in_start : StandsWith image sample.known_in_start sample.outside sample.in_start
unfolding word_at
stands_in_start = state_stands image sample.known_in_start sample.outside sample.in_start refl

-- ---- what is asked

pub asks_in_raises : AsksAt process 0x4010ad sample.known_in_raises said_in_raises NoAction 0
unfolding said_in_raises
asks_in_raises = record { sites = None; has = record { each = tt; leads = refl; personality = refl }; asked = refl; size = refl }

pub asks_in_cleans : AsksAt process 0x4010f4 sample.known_in_cleans said_in_cleans (Cleanup 0x401111) 16
unfolding word_at said_in_cleans
asks_in_cleans = record {
  sites = Some sample.sites_of_cleans;
  has = record {
    each = record { ranges = (lit≤ tt, lit< tt, lit≤ tt, tt); actions = ((lit< tt, lit< tt), tt) };
    leads = (sample.sites_of_cleans, refl, record { nonzero = λ e. absurd cc; size = 4; after = _; header = refl; listed = _; actions = _; parts = refl; each = (_, refl, refl) });
    personality = inr (refl, λ e. absurd cc);
  };
  asked = refl;
  size = refl;
}

pub asks_in_part : AsksAt process 0x40100f sample.known_when_cleaned said_in_part NoAction 0
unfolding word_at said_in_part
asks_in_part = record {
  sites = Some sample.sites_of_part;
  has = record {
    each = record { ranges = (lit≤ tt, lit< tt, lit≤ tt, tt); actions = (tt, tt) };
    leads = (sample.sites_of_part, refl, record { nonzero = λ e. absurd cc; size = 4; after = _; header = refl; listed = _; actions = _; parts = refl; each = (_, refl, refl) });
    personality = inr (refl, λ e. absurd cc);
  };
  asked = refl;
  size = refl;
}

pub asks_in_catches : AsksAt process 0x401151 sample.known_in_catches said_in_catches (Catch 0x40115a) 16
unfolding word_at said_in_catches
asks_in_catches = record {
  sites = Some sample.sites_of_catches;
  has = record {
    each = record { ranges = (lit≤ tt, lit< tt, lit≤ tt, tt); actions = ((lit< tt, lit< tt), tt) };
    leads = (sample.sites_of_catches, refl, record { nonzero = λ e. absurd cc; size = 4; after = _; header = refl; listed = _; actions = _; parts = refl; each = (_, refl, refl) });
    personality = inr (refl, λ e. absurd cc);
  };
  asked = refl;
  size = refl;
}

pub asks_in_start : AsksAt process 0x40117d sample.known_in_start said_in_start NoAction 0
unfolding said_in_start
asks_in_start = record { sites = None; has = record { each = tt; leads = refl; personality = refl }; asked = refl; size = refl }

-- ---- what is asked by the rules of its languages

pub says_in_raises_cxx : (described_asks languages image 0x4010ad (found_in said_in_raises) ≡ Ok Nothing) × (0 ≡ argument_size said_in_raises.says.row.0)
unfolding said_in_raises
says_in_raises_cxx = (refl, refl)

pub says_in_cleans_cxx : (described_asks languages image 0x4010f4 (found_in said_in_cleans) ≡ Ok (Cleans 0x401111)) × (16 ≡ argument_size said_in_cleans.says.row.0)
unfolding word_at cxx_search said_in_cleans
says_in_cleans_cxx = (refl, refl)

pub says_in_part_cxx : (described_asks languages image 0x40100f (found_in said_in_part) ≡ Ok Nothing) × (0 ≡ argument_size said_in_part.says.row.0)
unfolding word_at cxx_search said_in_part
says_in_part_cxx = (refl, refl)

pub says_in_catches_cxx : (described_asks languages image 0x401151 (found_in said_in_catches) ≡ Ok (Handler 0x40115a 1)) × (16 ≡ argument_size said_in_catches.says.row.0)
unfolding word_at cxx_search said_in_catches
says_in_catches_cxx = (refl, refl)

pub says_in_start_cxx : (described_asks languages image 0x40117d (found_in said_in_start) ≡ Ok Nothing) × (0 ≡ argument_size said_in_start.says.row.0)
unfolding said_in_start
says_in_start_cxx = (refl, refl)
