-- A small program's frame table says what is known at nine addresses of its code, and its states stand with that.
use Rattle.std.proofs.Common.{◌≡◌, ℕ, true, false, None, Ok, refl, inl, inr, lit<, lit≤}
use Rattle.std.specs.List.{AllPairs, Contains}
use Rattle.memory_image.specs.Image.{word_at}
use Rattle.unwind_definitions.specs.Instructions.{instruction_of}
use Rattle.unwind_definitions.specs.Entries.{Fde, AreEntries, entry_at}
use Rattle.unwind_definitions.specs.Row.{RowInstructions, ColumnAndOffset, covers_pc, row_at}
use Rattle.unwind_definitions.specs.Module.{AreApart, DescriptionsApart, IsElfProcess, in_module}
use Rattle.unwind_laws.proofs.Booleans.{pairs_one}
use Rattle.frame_facts.specs.Facts.{Facts, StandsWith}
use Rattle.frame_facts.specs.FactRows.{SaysFacts}
use Rattle.frame_facts.specs.FactTables.{HasTables, AreSaidAt}
use Rattle.frame_facts.specs.FactDeliveries.{GoesOnAt}
use Rattle.frame_facts_laws.specs.SampleProgram as sample
use Rattle.frame_facts_laws.specs.SampleProgram.{bases, entries, fdes, home, image, process, table}
use Rattle.frame_facts_laws.proofs.SampleTests.{lie_apart, row_says, state_stands, words_fit}

-- ---- the table

pub reads : AreEntries bases table 0 entries
unfolding entry_at
reads = (24, refl, (44, refl, (68, refl, (88, refl, (108, refl, (148, refl, (168, refl, (208, refl, (232, refl, (260, refl, (300, refl, (332, refl, (352, refl, (372, refl, refl))))))))))))))

pub apart : AllPairs DescriptionsApart fdes
apart = lie_apart fdes refl

abbrev pub tables : HasTables image home
tables = record {
  frame = 0x402008;
  address = refl;
  entries = entries;
  frames = record { reads = reads; lengths = ((20, _, refl, lit< tt), ((16, _, refl, lit< tt), ((20, _, refl, lit< tt), ((16, _, refl, lit< tt), ((16, _, refl, lit< tt), ((36, _, refl, lit< tt), ((16, _, refl, lit< tt), ((36, _, refl, lit< tt), ((20, _, refl, lit< tt), ((24, _, refl, lit< tt), ((36, _, refl, lit< tt), ((28, _, refl, lit< tt), ((16, _, refl, lit< tt), ((16, _, refl, lit< tt), tt)))))))))))))); each = tt; foreign = λ fde has none. tt };
  nonempty = (lit< tt, (lit< tt, (lit< tt, (lit< tt, (lit< tt, (lit< tt, (lit< tt, (lit< tt, (lit< tt, (lit< tt, (lit< tt, (lit< tt, tt))))))))))));
  apart = apart;
  inside = tt;
  header = tt;
}

-- regions and modules share no address
pub whole : IsElfProcess process
whole = record { regions = (lit≤ tt, lit< tt, lit≤ tt, (lit≤ tt, lit< tt, lit≤ tt, tt)); ranges = ((lit< tt, lit< tt), tt); apart = pairs_one AreApart home }

-- ---- rows say what is known

pub says_overwritten : SaysFacts sample.known_overwritten sample.row_overwritten
says_overwritten = row_says sample.known_overwritten sample.row_overwritten (ColumnAndOffset 7 16) refl (16, inl (refl, refl)) refl refl refl refl

pub says_popped : SaysFacts sample.known_popped sample.row_popped
says_popped = row_says sample.known_popped sample.row_popped (ColumnAndOffset 7 8) refl (8, inl (refl, refl)) refl refl refl refl

pub says_in_part : SaysFacts sample.known_in_part sample.row_in_part
says_in_part = row_says sample.known_in_part sample.row_in_part (ColumnAndOffset 7 32) refl (32, inl (refl, refl)) refl refl refl refl

pub says_of_sums : SaysFacts sample.known_in_part sample.row_of_sums
says_of_sums = row_says sample.known_in_part sample.row_of_sums (ColumnAndOffset 7 32) refl (32, inl (refl, refl)) refl refl refl refl

pub says_in_many : SaysFacts sample.known_in_many sample.row_in_many
says_in_many = row_says sample.known_in_many sample.row_in_many (ColumnAndOffset 7 16) refl (16, inl (refl, refl)) refl refl refl refl

pub says_in_pushes : SaysFacts sample.known_in_pushes sample.row_in_pushes
says_in_pushes = row_says sample.known_in_pushes sample.row_in_pushes (ColumnAndOffset 7 32) refl (32, inl (refl, refl)) refl refl refl refl

pub says_past_arguments : SaysFacts sample.known_past_arguments sample.row_past_arguments
says_past_arguments = row_says sample.known_past_arguments sample.row_past_arguments (ColumnAndOffset 7 16) refl (16, inl (refl, refl)) refl refl refl refl

pub says_in_aligned : SaysFacts sample.known_in_aligned sample.row_in_aligned
says_in_aligned = row_says sample.known_in_aligned sample.row_in_aligned (ColumnAndOffset 6 16) refl (16, inr (refl, refl)) refl refl refl refl

pub says_in_libc_start : SaysFacts sample.known_in_libc_start sample.row_in_libc_start
says_in_libc_start = row_says sample.known_in_libc_start sample.row_in_libc_start (ColumnAndOffset 7 16) refl (16, inl (refl, refl)) refl refl refl refl

pub says_in_start : SaysFacts sample.known_in_start sample.row_in_start
says_in_start = row_says sample.known_in_start sample.row_in_start (ColumnAndOffset 7 8) refl (8, inl (refl, refl)) refl refl refl refl

-- ---- what the table says

-- a description of the table, which contains an address and has this row there, says its facts
abbrev said_by : (fde : Fde) (a : ℕ) (facts : Facts) (run : RowInstructions) → Contains fdes fde → covers_pc fde a ≡ true → in_module a home ≡ true → fde.cie.letters.signal ≡ false → row_at bases fde a ≡ Ok run → SaysFacts facts run → AreSaidAt process a facts
said_by fde a facts run listed covers inside unmarked row says = record {
  home = home;
  known = (0, lit< tt, refl);
  inside = inside;
  says = record { tables = tables; fde = fde; listed = listed; covers = covers; unmarked = unmarked; row = (run, row, says) };
}

pub said_overwritten : AreSaidAt process 0x401084 sample.known_overwritten
unfolding row_at instruction_of
said_overwritten = said_by sample.sums 0x401084 sample.known_overwritten sample.row_overwritten (3, lit< tt, refl) refl refl refl refl says_overwritten

pub said_popped : AreSaidAt process 0x4010a3 sample.known_popped
unfolding row_at instruction_of
said_popped = said_by sample.sums 0x4010a3 sample.known_popped sample.row_popped (3, lit< tt, refl) refl refl refl refl says_popped

pub said_in_part : AreSaidAt process 0x401010 sample.known_in_part
unfolding row_at instruction_of
said_in_part = said_by sample.checked_part 0x401010 sample.known_in_part sample.row_in_part (6, lit< tt, refl) refl refl refl refl says_in_part

pub said_in_many : AreSaidAt process 0x4010f2 sample.known_in_many
unfolding row_at instruction_of
said_in_many = said_by sample.many 0x4010f2 sample.known_in_many sample.row_in_many (7, lit< tt, refl) refl refl refl refl says_in_many

pub said_in_pushes : AreSaidAt process 0x401124 sample.known_in_pushes
unfolding row_at instruction_of
said_in_pushes = said_by sample.pushes 0x401124 sample.known_in_pushes sample.row_in_pushes (8, lit< tt, refl) refl refl refl refl says_in_pushes

pub said_past_arguments : AreSaidAt process 0x401127 sample.known_past_arguments
unfolding row_at instruction_of
said_past_arguments = said_by sample.pushes 0x401127 sample.known_past_arguments sample.row_past_arguments (8, lit< tt, refl) refl refl refl refl says_past_arguments

pub said_in_aligned : AreSaidAt process 0x401152 sample.known_in_aligned
unfolding row_at instruction_of
said_in_aligned = said_by sample.aligned 0x401152 sample.known_in_aligned sample.row_in_aligned (9, lit< tt, refl) refl refl refl refl says_in_aligned

pub said_in_libc_start : AreSaidAt process 0x40117e sample.known_in_libc_start
unfolding row_at instruction_of
said_in_libc_start = said_by sample.libc_start 0x40117e sample.known_in_libc_start sample.row_in_libc_start (11, lit< tt, refl) refl refl refl refl says_in_libc_start

pub said_in_start : AreSaidAt process 0x401050 sample.known_in_start
unfolding row_at instruction_of
said_in_start = said_by sample.start_code 0x401050 sample.known_in_start sample.row_in_start (0, lit< tt, refl) refl refl refl refl says_in_start

-- ---- states

pub stands_overwritten : StandsWith image sample.known_overwritten sample.in_part sample.overwritten
unfolding word_at
stands_overwritten = state_stands image sample.known_overwritten sample.in_part sample.overwritten refl

pub stands_popped : StandsWith image sample.known_popped sample.in_part sample.popped
unfolding word_at
stands_popped = state_stands image sample.known_popped sample.in_part sample.popped refl

pub stands_in_part : StandsWith image sample.known_in_part sample.in_many sample.in_part
unfolding word_at
stands_in_part = state_stands image sample.known_in_part sample.in_many sample.in_part refl

pub stands_in_many : StandsWith image sample.known_in_many sample.in_pushes sample.in_many
unfolding word_at
stands_in_many = state_stands image sample.known_in_many sample.in_pushes sample.in_many refl

pub stands_in_pushes : StandsWith image sample.known_in_pushes sample.in_aligned sample.in_pushes
unfolding word_at
stands_in_pushes = state_stands image sample.known_in_pushes sample.in_aligned sample.in_pushes refl

pub stands_in_aligned : StandsWith image sample.known_in_aligned sample.in_libc_start sample.in_aligned
unfolding word_at
stands_in_aligned = state_stands image sample.known_in_aligned sample.in_libc_start sample.in_aligned refl

pub stands_in_libc_start : StandsWith image sample.known_in_libc_start sample.in_start sample.in_libc_start
unfolding word_at
stands_in_libc_start = state_stands image sample.known_in_libc_start sample.in_start sample.in_libc_start refl

pub stands_in_start : StandsWith image sample.known_in_start sample.outside sample.in_start
unfolding word_at
stands_in_start = state_stands image sample.known_in_start sample.outside sample.in_start refl

-- ---- after a cleanup

pub cleaned_goes_on : GoesOnAt process sample.cleaned sample.in_aligned 0x401128
unfolding word_at said_past_arguments
cleaned_goes_on = record {
  nonzero = λ e. absurd cc;
  facts = sample.known_past_arguments;
  state = words_fit (sample.state 0x401128 0x7fffffffed30 0x7 0x7fffffffedb0) refl;
  stands = state_stands image sample.known_past_arguments sample.in_aligned (sample.state 0x401128 0x7fffffffed30 0x7 0x7fffffffedb0) refl;
  said = said_past_arguments;
  arguments = 0;
  asks = record { sites = None; has = record { each = tt; leads = refl; personality = refl }; asked = refl; size = refl };
}
