-- Over the memory that keeps the popped register, the worked stack is known.
use Rattle.std.proofs.Common.{inl, ◌≡◌, ℕ, true, List, [], ◌∷◌, Some, Ok, refl, sym, subst, lit<}
use Rattle.memory_image.specs.Image.{word_at}
use Rattle.unwind_definitions.specs.Columns as column
use Rattle.unwind_definitions.specs.Entries.{AreEntries, entry_at}
use Rattle.unwind_definitions.specs.Instructions.{instruction_of}
use Rattle.unwind_definitions.specs.LanguageTable.{input_at}
use Rattle.unwind_definitions.specs.Module.{DescriptionsApart, bases_of, in_module}
use Rattle.unwind_definitions.specs.Row.{ColumnAndOffset, RowInstructions, covers_pc, row_at}
use Rattle.unwind_definitions.specs.State.{IsState, Shows, column_of, value_of}
use Rattle.unwind_laws.proofs.Booleans.{pairs_one}
use Rattle.unwind_laws.proofs.RowFacts.{by_register}
use Rattle.frame_facts.specs.FactChains.{FactFrame, IsFactChain}
use Rattle.frame_facts.specs.FactRows.{SaysFacts}
use Rattle.frame_facts.specs.FactTables.{AreSaidAt, HasTables}
use Rattle.frame_facts.specs.Facts.{Facts, StandsWith}
use Rattle.frame_facts_laws.proofs.SampleTests.{row_says, state_stands, words_fit}
use Rattle.unwind_arch.specs.ContextViews.{columns_of}
use Rattle.stack_steps.specs.Modules.{SpaceValue}
use Rattle.stack_steps.specs.SpaceViews.{process_of}
use Rattle.stack_walks.specs.KnownWalks.{StartsKnownStack}
use Rattle.fact_walks.proofs.FactStacks.{facts_known}
use Rattle.popped_registers.specs.PoppedRegisters.{kept_space}
use Rattle.popped_registers.specs.PoppedSample.{at_return, body_run, callers, entries, fde, home, in_body, kept, known_at_return, known_in_body, outermost, popped_run, space, start}
use Rattle.popped_registers.proofs.SampleWalks.{sample_kept}

-- ---- the table

pub reads : AreEntries (bases_of home 0x500000) (input_at kept.image 0x500000) 0 entries
unfolding entry_at
reads = (24, refl, (52, refl, refl))

abbrev pub tables : HasTables kept.image home
tables = record {
  frame = 0x500000;
  address = refl;
  entries = entries;
  frames = record { reads = reads; lengths = ((20, _, refl, lit< tt), ((24, _, refl, lit< tt), tt)); each = tt; foreign = λ fde has none. tt };
  nonempty = (lit< tt, tt);
  apart = pairs_one DescriptionsApart fde;
  inside = tt;
  header = tt;
}

abbrev said_by : (a : ℕ) (facts : Facts) (run : RowInstructions) → covers_pc fde a ≡ true → in_module a home ≡ true → row_at (bases_of home 0x500000) fde a ≡ Ok run → SaysFacts facts run → AreSaidAt (process_of kept) a facts
said_by a facts run covers inside row says = record {
  home = home;
  known = (0, lit< tt, refl);
  inside = inside;
  says = record { tables = tables; fde = fde; listed = (0, lit< tt, refl); covers = covers; unmarked = refl; row = (run, row, says) };
}

said_at_return : AreSaidAt (process_of kept) 0x40100f known_at_return
unfolding row_at instruction_of
said_at_return = said_by 0x40100f known_at_return popped_run refl refl refl (row_says known_at_return popped_run (ColumnAndOffset column.rsp 8) refl (8, inl (refl, refl)) refl refl refl refl)

said_in_body : AreSaidAt (process_of kept) 0x401005 known_in_body
unfolding row_at instruction_of
said_in_body = said_by 0x401005 known_in_body body_run refl refl refl (row_says known_in_body body_run (ColumnAndOffset column.rsp 16) refl (16, inl (refl, refl)) refl refl refl refl)

-- ---- its states

pub in_body_state : IsState in_body
in_body_state = words_fit in_body refl

stands_at_return : StandsWith kept.image known_at_return in_body at_return
unfolding word_at
stands_at_return = state_stands kept.image known_at_return in_body at_return refl

stands_in_body : StandsWith kept.image known_in_body outermost in_body
unfolding word_at
stands_in_body = state_stands kept.image known_in_body outermost in_body refl

abbrev frames : List FactFrame
frames = record { facts = known_at_return; caller = in_body } ∷ record { facts = known_in_body; caller = outermost } ∷ []

chain : IsFactChain (process_of kept) true at_return frames
chain = (
  record { state = words_fit at_return refl; returns = λ e. absurd cc; stands = stands_at_return; said = said_at_return },
  (record { state = words_fit in_body refl; returns = λ e. absurd cc; stands = stands_in_body; said = said_in_body }, record { state = words_fit outermost refl; ends = inl refl }),
)

shows : Shows (columns_of start) at_return
shows = record { ra = refl; sp = refl; saved = λ r. by_register (λ r. columns_of start (column_of r) ≡ Some (value_of r at_return)) refl refl refl refl refl refl r }

starts : StartsKnownStack kept start 3 true at_return callers
starts = record { stack = facts_known kept true at_return frames (tt, tt) chain; shows = shows; shorter = lit< tt }

pub sample_known : StartsKnownStack (kept_space space 3 start) start 3 true at_return callers
sample_known = subst (λ (s : SpaceValue). StartsKnownStack s start 3 true at_return callers) (sym sample_kept) starts
