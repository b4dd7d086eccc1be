-- A stop in a signal's handler begins a known stack, through the signal's frame and the function that the signal interrupted.
use Rattle.std.proofs.Common.{◌≡◌, inl, inr, true, ltb, arith, refl, lit<, lit≤}
use Rattle.std.specs.Prelude.{slice_index}
use Rattle.std.proofs.lemmas.Bool.Decides.{nat_tests}
use Rattle.memory_image.specs.Image.{IsLaidOut}
use Rattle.frame_facts.specs.SignalFrames.{linux_signal_frame}
use Rattle.frame_facts_laws.specs.SampleProgram.{known_in_start}
use Rattle.frame_facts_laws.specs.SignalProgram as sample
use Rattle.frame_facts_laws.proofs.SampleTests.{words_fit}
use Rattle.frame_facts_laws.proofs.SignalFacts.{link_in_work, link_in_handler, link_in_restore, link_in_trapped, link_in_calls, link_in_libc_start, link_in_start}
use Rattle.frame_facts_laws.specs.SignalSteps.{HasGeneralRegisters}
use Rattle.unwind_arch.specs.ContextViews.{columns_of}
use Rattle.stack_steps.specs.Modules.{AreApart}
use Rattle.stack_steps.specs.KnownStacks.{IsKnownStack, HasNoSignals}
use Rattle.stack_walks.specs.KnownWalks.{StartsKnownStack}
use Rattle.fact_walks.specs.SignalSpace.{space, in_work}
use Rattle.fact_walks.proofs.SampleStarts.{shows}

pub laid_out : IsLaidOut 0 space.image
laid_out = (lit≤ tt, lit< tt, lit≤ tt, (lit≤ tt, lit< tt, lit≤ tt, (lit≤ tt, lit< tt, lit≤ tt, tt)))

pub lie_apart : AreApart 0 space.modules
lie_apart = (lit≤ tt, lit< tt, lit< tt)

-- from the interrupted state on
pub interrupted_stack : IsKnownStack space true sample.in_trapped sample.outer_callers
interrupted_stack = (
  inl (inl (sample.known_at_entry, link_in_trapped)),
  (
    inl (inl (sample.known_in_calls, link_in_calls)),
    (inl (inl (sample.known_in_libc_start, link_in_libc_start)), (inl (inl (known_in_start, link_in_start)), record { state = words_fit sample.outside refl; ends = inl refl })),
  ),
)

stack : IsKnownStack space true sample.in_work sample.callers
stack = (inl (inl (sample.known_at_entry, link_in_work)), (inl (inl (sample.known_in_handler, link_in_handler)), (inr (linux_signal_frame, link_in_restore), interrupted_stack)))

-- no frame from the interrupted one on is a signal's
pub no_signals : (callers_known : IsKnownStack space true sample.in_trapped sample.outer_callers) × HasNoSignals space true sample.in_trapped sample.outer_callers callers_known
unfolding interrupted_stack
no_signals = (interrupted_stack, (refl, (refl, (refl, (refl, tt)))))

pub general_registers : HasGeneralRegisters (columns_of in_work)
general_registers k low = let fits : ltb k 16 ≡ true = grind (arith, nat_tests) in (slice_index in_work.registers k, rw fits refl)

pub handler_starts : StartsKnownStack space in_work 8 true sample.in_work sample.callers
handler_starts = record { stack = stack; shows = shows 0x401070 0x7fffffffdf68 0x4 0x8; shorter = lit< tt }
