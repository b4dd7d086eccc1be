-- A delivery over the stack of a small C++ program by the rules of its languages, to a handler behind a cleanup.
use Rattle.std.proofs.Common.{◌≡◌, ◌-◌, true, false, refl, inl, inr, eqb, lit<, lit≤}
use Rattle.std.specs.Prelude.{IsTrue}
use Rattle.memory_image.specs.Image.{IsLaidOut}
use Rattle.unwind_definitions.specs.State.{State}
use Rattle.unwind_laws.proofs.Booleans.{all_contains}
use Rattle.frame_facts.specs.Facts.{Facts, StandsWith}
use Rattle.frame_facts.specs.FactTables.{AreSaidAt}
use Rattle.frame_facts_laws.proofs.SampleTests.{are_words, words_fit}
use Rattle.format_definitions.specs.Modules.{FormatModule, in_format, IsUncoveredBy, IsUncoveredIn}
use Rattle.stack_steps.specs.Modules.{AreApart}
use Rattle.stack_steps.specs.SpaceViews.{formats_of}
use Rattle.stack_steps.specs.KnownStacks.{IsKnownLink, IsKnownEnd, IsKnownStack}
use Rattle.stack_deliver.specs.KnownThrows.{MayGoOnAt, StartsKnownThrow}
use Rattle.delivery_laws.proofs.Starts.{registers_show}
use Rattle.fact_deliveries.specs.GuardedProgram as sample
use Rattle.fact_deliveries.specs.GuardedThrow.{asking, languages, resumes, space, start}
use Rattle.fact_deliveries.proofs.LandingStarts.{not_zero}
use Rattle.fact_deliveries.proofs.GuardedFacts.{said_in_raises, said_in_cleans, said_when_cleaned, said_in_catches, said_in_start, stands_in_raises, stands_in_cleans, stands_when_cleaned, stands_in_catches, stands_in_start, asks_in_raises, asks_in_cleans, asks_when_cleaned, asks_in_catches, asks_in_start}

pub guarded_laid_out : IsLaidOut 0 space.image
guarded_laid_out = (lit≤ tt, lit< tt, lit≤ tt, (lit≤ tt, lit< tt, lit≤ tt, (lit≤ tt, lit< tt, lit≤ tt, (lit≤ tt, lit< tt, lit≤ tt, tt))))

pub guarded_apart : AreApart 0 space.modules
guarded_apart = (lit≤ tt, lit< tt, lit< tt)

-- a state and its caller's, by the facts that are said there
abbrev link : (s t : State) (facts : Facts) → are_words s ≡ true → eqb s.ra 0 ≡ false → StandsWith sample.image facts t s → AreSaidAt sample.process (s.ra - 1) facts → IsKnownLink space false s t
link s t facts words nonzero stands said = inl (facts, record { state = words_fit s words; returns = not_zero s nonzero; stands = stands; said = said })

-- no module holds the address below 1
uncovered : IsUncoveredBy space.image (formats_of space) 0
uncovered m has inside = all_contains (λ (m : FormatModule). IsTrue (in_format 0 m) → IsUncoveredIn space.image m 0) (formats_of space) m (λ at. absurd cc, tt) has inside

last_state : IsKnownEnd space false sample.outside
last_state = record { state = words_fit sample.outside refl; ends = inr (λ e. absurd cc, uncovered) }

abbrev stack : IsKnownStack space false sample.in_raises sample.callers
stack = (
  inl (link sample.in_raises sample.in_cleans sample.known_in_raises refl refl stands_in_raises said_in_raises),
  (
    inl (link sample.in_cleans sample.in_catches sample.known_in_cleans refl refl stands_in_cleans said_in_cleans),
    (
      inl (link sample.in_catches sample.in_start sample.known_in_catches refl refl stands_in_catches said_in_catches),
      (inl (link sample.in_start sample.outside sample.known_in_start refl refl stands_in_start said_in_start), last_state),
    ),
  ),
)

-- after the cleanup
goes_on : MayGoOnAt languages space sample.cleaned sample.in_catches
goes_on = record {
  link = link sample.cleaned sample.in_catches sample.known_in_cleans refl refl stands_when_cleaned said_when_cleaned;
  arguments = 0;
  silent = asks_when_cleaned;
}

pub guarded_starts : StartsKnownThrow languages space start resumes 5 sample.in_raises sample.callers asking
guarded_starts = record {
  starts = record { stack = stack; shows = registers_show sample.in_raises; shorter = lit< tt };
  asked = (refl, asks_in_raises, (refl, asks_in_cleans, (refl, asks_in_catches, (refl, asks_in_start, refl))));
  resumed = λ f found taken. (tt, ((0x4010b7, refl, goes_on), tt));
}
