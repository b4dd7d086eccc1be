-- The frame table of a small program says what is known in a signal's handler, at the code to which that returns, and in the function
-- that the signal interrupted; its states stand with that.
use Rattle.std.proofs.Common.{◌≡◌, ◌≢◌, ℕ, Bool, true, false, List, [], ◌∷◌, length, eqb, Some, Ok, refl, subst, inl, inr, lit<, lit≤}
use Rattle.std.specs.List.{AllByRecursion, Contains, list_any}
use Rattle.std.proofs.lemmas.Bool.{eqb-true}
use Rattle.memory_image.specs.Image.{word_at}
use Rattle.unwind_definitions.specs.Input.{Input}
use Rattle.unwind_definitions.specs.Instructions.{Expression, instruction_of}
use Rattle.unwind_definitions.specs.Entries.{Fde, AreEntries, entry_at}
use Rattle.unwind_definitions.specs.Operations.{PushColumn, operation, operation_of, constant}
use Rattle.unwind_definitions.specs.Expressions.{rest_at}
use Rattle.unwind_definitions.specs.Row.{RowInstructions, ColumnAndOffset, covers_pc, row_at, rule_of}
use Rattle.unwind_definitions.specs.State.{CalleeSaved, State, column_of, value_of, is_followed}
use Rattle.unwind_definitions.specs.Module.{AreApart, IsElfProcess, in_module}
use Rattle.unwind_laws.proofs.Booleans.{all_contains, any_contains, not_either, pairs_one}
use Rattle.unwind_laws.proofs.RowFacts.{by_register}
use Rattle.frame_facts.specs.Facts.{Facts, StandsWith}
use Rattle.frame_facts.specs.FactRows.{SaysFacts}
use Rattle.frame_facts.specs.FactTables.{HasTables, AreSaidAt}
use Rattle.frame_facts.specs.FactChains.{address_asked, IsFactLink}
use Rattle.frame_facts.specs.SignalFrames.{FindsAbove, FindsOther, HoldsAbove, SaysSignalFrame, StandsInSignal, IsSignalFrameAt, IsSignalLink, linux_register, linux_signal_frame}
use Rattle.frame_facts_laws.specs.SampleProgram.{known_in_start, row_in_many, row_in_start}
use Rattle.frame_facts_laws.specs.SignalProgram as sample
use Rattle.frame_facts_laws.specs.SignalProgram.{bases, entries, fdes, home, image, process, table, row_in_restore}
use Rattle.frame_facts_laws.proofs.SampleTests.{are_words, lie_apart, row_says, state_stands, words_fit}

-- ---- the table

pub reads : AreEntries bases table 0 entries
unfolding entry_at
reads = (24, refl, (44, refl, (68, refl, (88, refl, (108, refl, (128, refl, (148, refl, (168, refl, (196, refl, (236, refl, (256, refl, (288, refl, (308, refl, (432, refl, (464, refl, refl)))))))))))))))

abbrev pub tables : HasTables image home
tables = record {
  frame = 0x402008;
  address = refl;
  entries = entries;
  frames = record { reads = reads; lengths = ((20, _, refl, lit< tt), ((16, _, refl, lit< tt), ((20, _, refl, lit< tt), ((16, _, refl, lit< tt), ((16, _, refl, lit< tt), ((16, _, refl, lit< tt), ((16, _, refl, lit< tt), ((16, _, refl, lit< tt), ((24, _, refl, lit< tt), ((36, _, refl, lit< tt), ((16, _, refl, lit< tt), ((28, _, refl, lit< tt), ((16, _, refl, lit< tt), ((120, _, refl, lit< tt), ((28, _, refl, lit< tt), tt))))))))))))))); each = tt; foreign = λ fde has none. tt };
  nonempty = (lit< tt, (lit< tt, (lit< tt, (lit< tt, (lit< tt, (lit< tt, (lit< tt, (lit< tt, (lit< tt, (lit< tt, (lit< tt, (lit< tt, tt))))))))))));
  apart = lie_apart fdes refl;
  inside = tt;
  header = tt;
}

-- regions and modules share no address
pub whole : IsElfProcess process
whole = record { regions = (lit≤ tt, lit< tt, lit≤ tt, (lit≤ tt, lit< tt, lit≤ tt, (lit≤ tt, lit< tt, lit≤ tt, tt))); ranges = ((lit< tt, lit< tt), tt); apart = pairs_one AreApart home }

-- ---- the row of the code to which the handler returns

-- what no test lets through
none_true : {A : Type 0} (p : A → Bool) (xs : List A) → list_any p xs ≡ false → AllByRecursion (λ (x : A). p x ≡ false) xs
none_true p [] none = tt
none_true p (x ∷ xs) none = let both = not_either (p x) (list_any p xs) none in (both.0, none_true p xs both.1)

above : (n : ℕ) (distance : List ℕ) (next : Input) → operation (rest_at (0x77 ∷ distance) 0) ≡ Ok (PushColumn 7 n, next) → next.offset ≡ length (0x77 ∷ distance) → FindsAbove n (Some (Expression (0x77 ∷ distance)))
above n distance next reads ends = (0x77 ∷ distance, (next, reads, ends), refl)

abbrev other_columns : List ℕ
other_columns = 0 ∷ 1 ∷ 2 ∷ 4 ∷ 5 ∷ 8 ∷ 9 ∷ 10 ∷ 11 ∷ []

abbrev FindsThere : ℕ → Type 0
FindsThere c = FindsOther linux_signal_frame c (rule_of row_in_restore c)

others_found : AllByRecursion FindsThere other_columns
unfolding operation_of
others_found = (
  inr (144, (7, lit< tt, refl), lit< tt, above 144 (0x90 ∷ 0x01 ∷ []) _ refl refl),
  (
    inr (136, (6, lit< tt, refl), lit< tt, above 136 (0x88 ∷ 0x01 ∷ []) _ refl refl),
    (
      inr (152, (8, lit< tt, refl), lit< tt, above 152 (0x98 ∷ 0x01 ∷ []) _ refl refl),
      (
        inr (112, (5, lit< tt, refl), lit< tt, above 112 (0xf0 ∷ 0x00 ∷ []) _ refl refl),
        (
          inr (104, (4, lit< tt, refl), lit< tt, above 104 (0xe8 ∷ 0x00 ∷ []) _ refl refl),
          (
            inr (40, (0, lit< tt, refl), lit< tt, above 40 (0x28 ∷ []) _ refl refl),
            (
              inr (48, (1, lit< tt, refl), lit< tt, above 48 (0x30 ∷ []) _ refl refl),
              (inr (56, (2, lit< tt, refl), lit< tt, above 56 (0x38 ∷ []) _ refl refl), (inr (64, (3, lit< tt, refl), lit< tt, above 64 (0xc0 ∷ 0x00 ∷ []) _ refl refl), tt)),
            ),
          ),
        ),
      ),
    ),
  ),
)

finds_other : (c : ℕ) → is_followed c ≡ false → FindsThere c
finds_other c free = go (list_any (λ (k : ℕ). eqb k c) other_columns) refl
  where
    go : (b : Bool) → list_any (λ (k : ℕ). eqb k c) other_columns ≡ b → FindsThere c
    go true is =
        let (m, listed, same) = any_contains (λ (k : ℕ). eqb k c) other_columns is in
        subst FindsThere (eqb-true m c same) (all_contains FindsThere other_columns m others_found listed)
    go false is =
        let (e0, (e1, (e2, (e4, (e5, (e8, (e9, (e10, (e11, _))))))))) = none_true (λ (k : ℕ). eqb k c) other_columns is in
        let (e3, (e6, (e7, (e12, (e13, (e14, (e15, (e16, _)))))))) = none_true (λ (k : ℕ). eqb k c) (3 ∷ 6 ∷ 7 ∷ 12 ∷ 13 ∷ 14 ∷ 15 ∷ 16 ∷ []) free in
        inl (rw (e0, e1, e2, e3, e4, e5, e6, e7, e8, e9, e10, e11, e12, e13, e14, e15, e16) refl)

pub says_in_restore : SaysSignalFrame linux_signal_frame row_in_restore
unfolding operation_of constant
says_in_restore = record {
  expression = 0x77 ∷ 0xa0 ∷ 0x01 ∷ 0x06 ∷ [];
  cfa = refl;
  reads = (_, refl, (_, refl, refl));
  rip = above 168 (0xa8 ∷ 0x01 ∷ []) _ refl refl;
  rsp = inr (above 160 (0xa0 ∷ 0x01 ∷ []) _ refl refl);
  registers = λ r. by_register (λ (q : CalleeSaved). FindsAbove (linux_register q) (rule_of row_in_restore (column_of q))) (above 128 (0x80 ∷ 0x01 ∷ []) _ refl refl) (above 120 (0xf8 ∷ 0x00 ∷ []) _ refl refl) (above 72 (0xc8 ∷ 0x00 ∷ []) _ refl refl) (above 80 (0xd0 ∷ 0x00 ∷ []) _ refl refl) (above 88 (0xd8 ∷ 0x00 ∷ []) _ refl refl) (above 96 (0xe0 ∷ 0x00 ∷ []) _ refl refl) r;
  others = finds_other;
}

pub said_in_restore : IsSignalFrameAt process 0x40113f linux_signal_frame
unfolding row_at instruction_of
said_in_restore = record {
  home = home;
  known = (0, lit< tt, refl);
  inside = refl;
  says = record { tables = tables; fde = sample.restore_code; listed = (10, lit< tt, refl); covers = refl; marked = refl; row = (row_in_restore, refl, says_in_restore) };
}

abbrev Held : CalleeSaved → Type 0
Held r = HoldsAbove image sample.in_restore (linux_register r) (value_of r sample.in_trapped)

pub stands_in_restore : StandsInSignal image linux_signal_frame sample.in_trapped sample.in_restore
unfolding word_at
stands_in_restore = record {
  rip = (lit< tt, refl);
  rsp = (lit< tt, refl);
  registers = λ r. by_register Held (lit< tt, refl) (lit< tt, refl) (lit< tt, refl) (lit< tt, refl) (lit< tt, refl) (lit< tt, refl) r;
  others = ((_, (lit< tt, refl)), ((_, (lit< tt, refl)), ((_, (lit< tt, refl)), ((_, (lit< tt, refl)), ((_, (lit< tt, refl)), ((_, (lit< tt, refl)), ((_, (lit< tt, refl)), ((_, (lit< tt, refl)), ((_, (lit< tt, refl)), tt)))))))));
}

-- ---- the other frames

says_at_entry : SaysFacts sample.known_at_entry sample.row_at_entry
says_at_entry = row_says sample.known_at_entry sample.row_at_entry (ColumnAndOffset 7 8) refl (8, inl (refl, refl)) refl refl refl refl

says_in_handler : SaysFacts sample.known_in_handler row_in_many
says_in_handler = row_says sample.known_in_handler row_in_many (ColumnAndOffset 7 16) refl (16, inl (refl, refl)) refl refl refl refl

says_in_calls : SaysFacts sample.known_in_calls sample.row_in_calls
says_in_calls = row_says sample.known_in_calls sample.row_in_calls (ColumnAndOffset 7 32) refl (32, inl (refl, refl)) refl refl refl refl

says_in_libc_start : SaysFacts sample.known_in_libc_start sample.row_in_libc_start
says_in_libc_start = row_says sample.known_in_libc_start sample.row_in_libc_start (ColumnAndOffset 7 176) refl (176, inl (refl, refl)) refl refl refl refl

says_in_start : SaysFacts known_in_start row_in_start
says_in_start = row_says known_in_start row_in_start (ColumnAndOffset 7 8) refl (8, inl (refl, refl)) refl refl refl refl

-- a description of the table, which contains an address and has this row there, says its facts
abbrev said_by : (fde : Fde) (a : ℕ) (facts : Facts) (run : RowInstructions) → Contains fdes fde → covers_pc fde a ≡ true → in_module a home ≡ true → fde.cie.letters.signal ≡ false → row_at bases fde a ≡ Ok run → SaysFacts facts run → AreSaidAt process a facts
said_by fde a facts run listed covers inside unmarked row says =
    record { home = home; known = (0, lit< tt, refl); inside = inside; says = record { tables = tables; fde = fde; listed = listed; covers = covers; unmarked = unmarked; row = (run, row, says) } }

abbrev Link : (interrupted : Bool) (s : State) (facts : Facts) (t : State) → Type 0
Link interrupted s facts t = IsFactLink process interrupted s (record { facts = facts; caller = t })

linked : (interrupted : Bool) (s : State) (facts : Facts) (t : State) → are_words s ≡ true → s.ra ≢ 0 → StandsWith image facts t s → AreSaidAt process (address_asked interrupted s) facts → Link interrupted s facts t
linked interrupted s facts t words nonzero stands said = record { state = words_fit s words; returns = nonzero; stands = stands; said = said }

pub link_in_work : Link true sample.in_work sample.known_at_entry sample.in_handler
unfolding row_at instruction_of word_at
link_in_work = linked true sample.in_work sample.known_at_entry sample.in_handler refl (λ e. absurd cc) (state_stands image sample.known_at_entry sample.in_handler sample.in_work refl) (said_by sample.work 0x401070 sample.known_at_entry sample.row_at_entry (5, lit< tt, refl) refl refl refl refl says_at_entry)

pub link_in_handler : Link false sample.in_handler sample.known_in_handler sample.in_restore
unfolding row_at instruction_of word_at
link_in_handler = linked false sample.in_handler sample.known_in_handler sample.in_restore refl (λ e. absurd cc) (state_stands image sample.known_in_handler sample.in_restore sample.in_handler refl) (said_by sample.handler 0x401088 sample.known_in_handler row_in_many (6, lit< tt, refl) refl refl refl refl says_in_handler)

pub link_in_restore : IsSignalLink process false sample.in_restore linux_signal_frame sample.in_trapped
link_in_restore = record { state = words_fit sample.in_restore refl; returns = λ e. absurd cc; stands = stands_in_restore; said = said_in_restore }

pub link_in_trapped : Link true sample.in_trapped sample.known_at_entry sample.in_calls
unfolding row_at instruction_of word_at
link_in_trapped = linked true sample.in_trapped sample.known_at_entry sample.in_calls refl (λ e. absurd cc) (state_stands image sample.known_at_entry sample.in_calls sample.in_trapped refl) (said_by sample.trapped 0x401056 sample.known_at_entry sample.row_at_entry (3, lit< tt, refl) refl refl refl refl says_at_entry)

pub link_in_calls : Link false sample.in_calls sample.known_in_calls sample.in_libc_start
unfolding row_at instruction_of word_at
link_in_calls = linked false sample.in_calls sample.known_in_calls sample.in_libc_start refl (λ e. absurd cc) (state_stands image sample.known_in_calls sample.in_libc_start sample.in_calls refl) (said_by sample.calls 0x4010b1 sample.known_in_calls sample.row_in_calls (7, lit< tt, refl) refl refl refl refl says_in_calls)

pub link_in_libc_start : Link false sample.in_libc_start sample.known_in_libc_start sample.in_start
unfolding row_at instruction_of word_at
link_in_libc_start = linked false sample.in_libc_start sample.known_in_libc_start sample.in_start refl (λ e. absurd cc) (state_stands image sample.known_in_libc_start sample.in_start sample.in_libc_start refl) (said_by sample.libc_start 0x40110e sample.known_in_libc_start sample.row_in_libc_start (9, lit< tt, refl) refl refl refl refl says_in_libc_start)

pub link_in_start : Link false sample.in_start known_in_start sample.outside
unfolding row_at instruction_of word_at
link_in_start = linked false sample.in_start known_in_start sample.outside refl (λ e. absurd cc) (state_stands image known_in_start sample.outside sample.in_start refl) (said_by sample.start_code 0x401030 known_in_start row_in_start (0, lit< tt, refl) refl refl refl refl says_in_start)
