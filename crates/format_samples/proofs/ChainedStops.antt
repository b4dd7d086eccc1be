-- States that were stopped in the prologue of a function whose record goes on with another.
use Rattle.std.proofs.Common.{◌≡◌, false, [], ◌∷◌, ◌++◌, Some, None, refl, inl, lit<, lit≤}
use Rattle.memory_image.specs.Halving.{place_by_halving, boundary_of}
use Rattle.memory_image.specs.Image.{word_at}
use Rattle.unwind_definitions.specs.State.{RBP, value_of}
use Rattle.unwind_definitions.specs.Prologue.{steps_of, distance, frame_depth}
use Rattle.unwind_definitions.specs.Entered.{IsEntered}
use Rattle.unwind_definitions.specs.Stopped.{StandsAfter}
use Rattle.unwind_laws.specs.Columns.{columns_of}
use Rattle.unwind_laws.specs.Windows as windows
use Rattle.unwind_laws.proofs.Booleans.{pairs_one}
use Rattle.unwind_laws.proofs.RowFacts.{by_register}
use Rattle.pe_unwind_info.specs.Chain.{chain_of}
use Rattle.pe_unwind_info.specs.Epilog.{parsed_instruction, sequence_from}
use Rattle.pe_unwind_info.specs.EpilogList.{leading_epilogs, after_epilogs, any_lists}
use Rattle.pe_unwind_info.specs.Frame.{from_place}
use Rattle.pe_unwind_info.specs.FrameOf.{end_of_chain}
use Rattle.pe_unwind_info.specs.FunctionTable.{lookup_of}
use Rattle.pe_unwind_info.specs.Operations.{operations_of}
use Rattle.pe_unwind_info.specs.Steps.{run, epilog_run}
use Rattle.format_definitions.specs.PeImage.{memory_of}
use Rattle.format_definitions.specs.PeStep.{pe_step}
use Rattle.format_definitions.specs.PeModules.{IsInNoEpilog, HasRecord, DescribesPe}
use Rattle.format_definitions.specs.Modules.{Pe, LiesDescribed, IsDescribedChain}
use Rattle.format_definitions.specs.Process.{FormatsApart, IsProcess}
use Rattle.format_definitions.specs.Stops.{at_prologue, IsDescribedStop}
use Rattle.format_laws.specs.Sample.{pe_modules}
use Rattle.format_laws.specs.PeSamples.{module_of_one, chained_image, chained_info, inherited_steps, loop_record, table_bytes}
use Rattle.format_laws.specs.PeUndone.{GivesState}
use Rattle.format_laws.proofs.PeQuiet.{quiet_at}
use Rattle.format_laws.proofs.PeChained as chained
use Rattle.format_samples.proofs.Outside.{ends_outside}
use Rattle.format_samples.specs.StopSamples.{chained_call, allocation, setting, stores, allocated_state, set_state}

pub is_process : IsProcess chained_image pe_modules
is_process = record { regions = (lit≤ tt, lit< tt, lit≤ tt, (lit≤ tt, lit< tt, lit≤ tt, (lit≤ tt, lit< tt, lit≤ tt, (lit≤ tt, lit< tt, lit≤ tt, (lit≤ tt, lit< tt, lit≤ tt, tt))))); ranges = ((lit< tt, lit< tt), tt); apart = pairs_one FormatsApart (Pe module_of_one) }

unfoldable has_record : HasRecord chained_image module_of_one (loop_record ∷ []) windows.function
has_record = record { function = loop_record; listed = (0, lit< tt, refl); describes = chained.described }

unfoldable module_described : DescribesPe chained_image module_of_one (windows.function ∷ [])
module_described = record { bytes = table_bytes 0x00 0x11; mapped = refl; table = loop_record ∷ []; reads = refl; ordered = (lit≤ tt, lit< tt, lit≤ tt, tt); each = (inl has_record, tt) }

lies : LiesDescribed chained_image pe_modules (windows.function ∷ []) windows.function
lies = record { home = Pe module_of_one; known = (0, lit< tt, refl); inside = refl; is_function = chained.is_function; describes = module_described }

pub nobody_above : IsDescribedChain chained_image pe_modules (windows.function ∷ []) windows.caller []
nobody_above = ends_outside chained_image (windows.function ∷ []) windows.caller chained.caller_fits (λ e. absurd cc) refl

-- ---- after the allocation
allocated_entered : IsEntered chained_image false (steps_of (inherited_steps ++ allocation)) windows.caller allocated_state
unfolding word_at
allocated_entered = record {
  room = lit≤ tt;
  returns = λ _. refl;
  leaves = (lit≤ tt, chained.entered.leaves.1, (lit≤ tt, refl, (lit≤ tt, tt)));
  stack = refl;
  keeps = λ r e. by_register (λ q. value_of q allocated_state ≡ value_of q windows.caller) refl refl refl refl refl refl r;
}

pub allocated_stands : StandsAfter chained_image windows.function (inherited_steps ++ allocation) (setting ++ stores) windows.caller allocated_state
allocated_stands = record {
  steps = refl;
  entered = allocated_entered;
  intact = λ r h. by_register (λ q. value_of q allocated_state ≡ value_of q windows.caller) refl refl refl refl refl refl r;
  after = lit≤ tt;
  below = lit< tt;
}

allocated_quiet : IsInNoEpilog (memory_of chained_image 0x140000000) loop_record chained_info 0x1004
unfolding parsed_instruction sequence_from leading_epilogs operations_of
allocated_quiet = quiet_at (memory_of chained_image 0x140000000) loop_record chained_info 0x1004 refl

pub allocated_stop : IsDescribedStop chained_image pe_modules (windows.function ∷ []) allocated_state chained_call
unfolding lies module_described has_record chained.described
allocated_stop = record {
  inner = refl;
  listed = (0, lit< tt, refl);
  lies = lies;
  returns = λ e. absurd cc;
  stands = at_prologue has_record allocated_quiet (record { done = inherited_steps ++ allocation; later = setting ++ stores; stands = allocated_stands });
  caller = chained.caller_fits;
}

pub allocated_computed : GivesState (pe_step chained_image module_of_one 0x1004 (columns_of allocated_state)) windows.caller
unfolding word_at chain_of operations_of after_epilogs leading_epilogs any_lists parsed_instruction sequence_from from_place end_of_chain run epilog_run lookup_of place_by_halving boundary_of
allocated_computed = record { caller = _; answered = refl; shows = record { ra = refl; sp = refl; saved = by_register (λ q. _ ≡ Some (value_of q windows.caller)) refl refl refl refl refl refl } }

-- ---- after the step that sets RBP
set_entered : IsEntered chained_image false (steps_of (inherited_steps ++ (allocation ++ setting))) windows.caller set_state
unfolding word_at
set_entered = record {
  room = lit≤ tt;
  returns = λ _. refl;
  leaves = (lit≤ tt, chained.entered.leaves.1, (lit≤ tt, refl, (lit≤ tt, (lit< tt, tt))));
  stack = (lit≤ tt, refl);
  keeps = by_register (λ q. distance q (steps_of (inherited_steps ++ (allocation ++ setting))) ≡ None → value_of q set_state ≡ value_of q windows.caller) (λ e. refl) (λ e. absurd cc) (λ e. refl) (λ e. refl) (λ e. refl) (λ e. refl);
}

pub set_stands : StandsAfter chained_image windows.function (inherited_steps ++ (allocation ++ setting)) stores windows.caller set_state
set_stands = record {
  steps = refl;
  entered = set_entered;
  intact = by_register (λ q. (q ≡ RBP → frame_depth (steps_of (inherited_steps ++ (allocation ++ setting))) ≡ None) → value_of q set_state ≡ value_of q windows.caller) (λ h. refl) (λ h. let unset = h refl in absurd cc) (λ h. refl) (λ h. refl) (λ h. refl) (λ h. refl);
  after = lit≤ tt;
  below = lit< tt;
}

set_quiet : IsInNoEpilog (memory_of chained_image 0x140000000) loop_record chained_info 0x1009
unfolding parsed_instruction sequence_from leading_epilogs operations_of
set_quiet = quiet_at (memory_of chained_image 0x140000000) loop_record chained_info 0x1009 refl

pub set_stop : IsDescribedStop chained_image pe_modules (windows.function ∷ []) set_state chained_call
unfolding lies module_described has_record chained.described
set_stop = record {
  inner = refl;
  listed = (0, lit< tt, refl);
  lies = lies;
  returns = λ e. absurd cc;
  stands = at_prologue has_record set_quiet (record { done = inherited_steps ++ (allocation ++ setting); later = stores; stands = set_stands });
  caller = chained.caller_fits;
}

pub set_computed : GivesState (pe_step chained_image module_of_one 0x1009 (columns_of set_state)) windows.caller
unfolding word_at chain_of operations_of after_epilogs leading_epilogs any_lists parsed_instruction sequence_from from_place end_of_chain run epilog_run lookup_of place_by_halving boundary_of
set_computed = record { caller = _; answered = refl; shows = record { ra = refl; sp = refl; saved = by_register (λ q. _ ≡ Some (value_of q windows.caller)) refl refl refl refl refl refl } }
