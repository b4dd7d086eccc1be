use Rattle.std.proofs.Common.{inl, inr, ◌≢◌, ℕ, false, [], refl}
use Rattle.unwind_definitions.specs.declared.error.Error.TheVariants.{NoUnwindInfoForAddress, UnexpectedEof}
use Rattle.unwind_definitions.specs.Entries.{entry_at}
use Rattle.unwind_definitions.specs.Instructions.{instruction_of}
use Rattle.unwind_definitions.specs.Row.{row_at}
use Rattle.unwind_definitions.specs.Scan.{scan}
use Rattle.stack_walks.specs.WalkEndSample.{after_call, cut_entry, held_by, no_entry, nowhere}
use Rattle.stack_steps.specs.Stepping.{step_of, frame_of}
use Rattle.stack_steps.proofs.StepAnswers.{ends_step}
use Rattle.stack_walks.proofs.walk_end.each_reason_is_given.Goals as goal

returns_somewhere : ◌≢◌ {A = ℕ} 0x1005 0
returns_somewhere h = cc

pub returns-clause-outermost : goal.returns-clause-outermost
returns-clause-outermost c = inl refl

pub returns-clause-no_module : goal.returns-clause-no_module
returns-clause-no_module c = inl (returns_somewhere, ends_step nowhere (after_call 0x1005) false (inr (returns_somewhere, tt)), refl)

pub returns-clause-no_description : goal.returns-clause-no_description
unfolding scan entry_at
returns-clause-no_description c = inl (
  returns_somewhere,
  ends_step (held_by no_entry) (after_call 0x1005) false (inr (returns_somewhere, (NoUnwindInfoForAddress, refl))),
  (refl, record { entries = []; are = refl; none = refl }),
)

pub returns-clause-unreadable : goal.returns-clause-unreadable
unfolding scan entry_at
returns-clause-unreadable c = inl (
  returns_somewhere,
  ends_step (held_by cut_entry) (after_call 0x1005) false (inr (returns_somewhere, (UnexpectedEof, refl))),
  (refl, (record { before = []; offset = 0; precede = refl; none_before = refl; unread = refl }, refl)),
)

pub returns-clause-refused : goal.returns-clause-refused
unfolding step_of frame_of scan entry_at row_at instruction_of
returns-clause-refused c = inl (refl, refl)

pub returns-clause-limit : goal.returns-clause-limit
returns-clause-limit c = tt
