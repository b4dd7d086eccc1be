-- The stops of a small program begin known stacks.
use Rattle.std.proofs.Common.{inl, ℕ, true, false, [], Some, ◌≡◌, refl, lit<, lit≤}
use Rattle.memory_image.specs.Image.{IsLaidOut}
use Rattle.unwind_definitions.specs.State.{value_of, column_of, Shows}
use Rattle.unwind_laws.proofs.RowFacts.{by_register}
use Rattle.frame_facts_laws.specs.SampleProgram as sample
use Rattle.frame_facts_laws.proofs.SampleChains.{overwritten_chain, popped_chain, outer_chain}
use Rattle.unwind_arch.specs.ContextViews.{columns_of}
use Rattle.stack_steps.specs.Modules.{AreApart}
use Rattle.stack_walks.specs.KnownWalks.{StartsKnownStack}
use Rattle.fact_walks.specs.Callers.{callers_in}
use Rattle.fact_walks.specs.SampleSpace.{space, context, in_prologue, in_epilogue, in_part, outside}
use Rattle.fact_walks.proofs.FactStacks.{facts_known}

pub shows : (ra rsp rbx rbp : ℕ) → Shows (columns_of (context ra rsp rbx rbp)) (sample.state ra rsp rbx rbp)
shows ra rsp rbx rbp = record { ra = refl; sp = refl; saved = λ r. by_register (λ r. columns_of (context ra rsp rbx rbp) (column_of r) ≡ Some (value_of r (sample.state ra rsp rbx rbp))) refl refl refl refl refl refl r }

pub laid_out : IsLaidOut 0 space.image
laid_out = (lit≤ tt, lit< tt, lit≤ tt, (lit≤ tt, lit< tt, lit≤ tt, tt))

pub lie_apart : AreApart 0 space.modules
lie_apart = (lit≤ tt, lit< tt, lit< tt)

pub prologue_starts : StartsKnownStack space in_prologue 9 true sample.overwritten sample.states
prologue_starts = record { stack = facts_known space true sample.overwritten (sample.frames_after sample.known_overwritten) (tt, tt) overwritten_chain; shows = shows 0x401084 0x7fffffffece0 0x8 0x8; shorter = lit< tt }

pub epilogue_starts : StartsKnownStack space in_epilogue 9 true sample.popped sample.states
epilogue_starts = record { stack = facts_known space true sample.popped (sample.frames_after sample.known_popped) (tt, tt) popped_chain; shows = shows 0x4010a3 0x7fffffffece8 0x8 0x6b; shorter = lit< tt }

pub part_starts : StartsKnownStack space in_part 8 false sample.in_part (callers_in sample.outer_frames)
part_starts = record { stack = facts_known space false sample.in_part sample.outer_frames (tt, tt) outer_chain; shows = shows 0x401011 0x7fffffffecf0 0x8 0x6b; shorter = lit< tt }

pub outside_starts : StartsKnownStack space outside 1 true sample.outside []
outside_starts = record { stack = record { state = outer_chain.1.1.1.1.1.1.state; ends = inl refl }; shows = shows 0x0 0x7fffffffedd8 0x0 0x0; shorter = lit< tt }
