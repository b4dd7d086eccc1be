-- The walk over a window of a stack, step by step.
use Rattle.std.proofs.Common.{◌≡◌, ℕ, Bool, true, false, eqb, List, [], ◌∷◌, Option, Some, None, Result, Ok, refl, sym, ap, subst, ◌∙◌, lit<, lit≤}
use Rattle.std.specs.Result.{result_map_both}
use Rattle.memory_image.specs.Image.{IsLaidOut, Span, word_at}
use Rattle.memory_image.specs.Results.{result_map}
use Rattle.unwind_definitions.specs.Caller.{cfa_value, value_without_rule, x86_64}
use Rattle.unwind_definitions.specs.Columns as column
use Rattle.unwind_definitions.specs.Entries.{entry_at}
use Rattle.unwind_definitions.specs.Expressions.{evaluation}
use Rattle.unwind_definitions.specs.Instructions.{Rule, instruction_of}
use Rattle.unwind_definitions.specs.LanguageTable.{input_at}
use Rattle.unwind_definitions.specs.Row.{CfaRule, ColumnAndOffset, cfa_rule, row_at, rule_of}
use Rattle.unwind_definitions.specs.Scan.{scan}
use Rattle.unwind_laws.specs.Pushing.{body_rules, body_run, fde}
use Rattle.unwind_arch.specs.declared.x86_64.Context.{Context}
use Rattle.unwind_arch.specs.ContextViews.{columns_of}
use Rattle.frame_rows.specs.Rules.{AscendsFrom, rule_in}
use Rattle.fde_finders.specs.Finding.{table_bases}
use Rattle.unwinding_frames.specs.Calling.{rules_applied}
use Rattle.unwinding_frames.proofs.Callers.{row_caller}
use Rattle.format_frames.specs.declared.machine.Stepped.{Stepped}
use Rattle.stack_steps.specs.declared.error.DeliverError.{DeliverError}
use Rattle.stack_steps.specs.Frames.{Described, DescribedFrame, next_with, refusal_of}
use Rattle.stack_steps.specs.Growing.{Grows}
use Rattle.stack_steps.specs.Modules.{SpaceValue}
use Rattle.stack_steps.specs.Stepping.{frame_of, step_of}
use Rattle.stack_steps.specs.StopSample.{pushing_space}
use Rattle.stack_steps.proofs.StepParts.{step_is, stepped_by}
use Rattle.stack_walks.specs.Lines.{line_after, line_of, with_first}
use Rattle.mapped_modules.specs.Spaces.{codes_of, space_of_core}
use Rattle.part_walks.specs.Parts.{HasRegion, HaveTables, IsMapped, IsPartOf, IsWithin}
use Rattle.part_walks.specs.PartSample.{loaded, outside, part, space_of_part, stack, start, tables, whole, window}
use Rattle.part_walks.specs.Windows.{AreWindowsOf, image_of_tables}
use Rattle.part_walks.proofs.BuiltParts.{grows_with, has_new, has_within, part_with}
use Rattle.part_walks.proofs.PartTables.{grown_part}

-- ---- the images

pub sample_tables : HaveTables tables pushing_space.modules
sample_tables = (λ none. absurd cc, tt)

pub sample_part_grows : Grows tables part
sample_part_grows = grows_with tables window (lit< tt) refl

pub sample_whole_grows : Grows tables whole
sample_whole_grows = grows_with tables stack (lit< tt) refl

pub sample_laid_out : IsLaidOut 0 (stack ∷ [])
sample_laid_out = (lit≤ tt, lit< tt, lit≤ tt, tt)

pub sample_within : IsWithin window stack
sample_within = record { from = 8; count = 16; start = refl; bytes = refl }

pub sample_has : HasRegion whole stack
sample_has = has_new tables stack refl

pub sample_has_window : HasRegion whole window
sample_has_window = has_within whole window stack sample_has sample_within

pub sample_is_part : IsPartOf part whole
sample_is_part = part_with tables whole window (grown_part tables whole sample_whole_grows) sample_has_window

-- ---- the steps

abbrev frame : DescribedFrame
frame = record { found = record { fde = fde; bases = table_bases None 0x500000; table = input_at part 0x500000 }; run = body_run }

abbrev next_by : (image : List Span) (c : Context) (cfa : ℕ) (rules : List (ℕ × Rule)) → Result (Option Stepped) DeliverError
next_by image c cfa rules = result_map Some (result_map_both (next_with false) refusal_of (rules_applied (evaluation image) image (columns_of c) cfa rules (value_without_rule x86_64 (columns_of c) cfa)))

stepped : (space : SpaceValue) (c : Context) (interrupted : Bool) (f : DescribedFrame) (rule : CfaRule) (cfa : ℕ) (rules : List (ℕ × Rule)) → f.found.fde.cie.letters.signal ≡ false → frame_of space c interrupted ≡ Ok (Some (Described f)) →
    cfa_rule f.run ≡ Some rule → cfa_value (evaluation space.image) (columns_of c) rule ≡ Ok cfa → AscendsFrom 0 rules → ((k : ℕ) → rule_in rules k ≡ rule_of f.run k) → step_of space c interrupted ≡ next_by space.image c cfa rules
stepped space c interrupted f rule cfa rules called found ruled gives up each =
    step_is space c interrupted
    ∙ (ap (stepped_by space.image c) found
    ∙ (ap (λ r. result_map Some (result_map_both (next_with f.found.fde.cie.letters.signal) refusal_of r)) (sym (row_caller x86_64 (evaluation space.image) space.image (columns_of c) cfa f.run rule rules refl refl ruled gives up each))
    ∙ ap (λ (signal : Bool). result_map Some (result_map_both (next_with signal) refusal_of (rules_applied (evaluation space.image) space.image (columns_of c) cfa rules (value_without_rule x86_64 (columns_of c) cfa)))) called))

each_rule : (k : ℕ) → rule_in body_rules k ≡ rule_of body_run k
each_rule k = go (eqb 3 k) refl (eqb 16 k) refl
  where
    go : (a : Bool) → eqb 3 k ≡ a → (b : Bool) → eqb 16 k ≡ b → rule_in body_rules k ≡ rule_of body_run k
    go true e b f = rw e refl
    go false e true f = rw (e, f) refl
    go false e false f = rw (e, f) refl

ascend : AscendsFrom 0 body_rules
ascend = (lit≤ tt, (lit≤ tt, lit≤ tt))

frame_at_start : frame_of space_of_part start true ≡ Ok (Some (Described frame))
unfolding frame_of scan entry_at row_at instruction_of
frame_at_start = refl

abbrev pub called : Stepped
called = record { context = outside; signal = false }

pub first_step : step_of space_of_part start true ≡ Ok (Some called)
unfolding word_at
first_step = stepped space_of_part start true frame (ColumnAndOffset column.rsp 16) 0x7010 body_rules refl frame_at_start refl refl ascend each_rule

pub last_step : step_of space_of_part outside false ≡ Ok None
unfolding step_of frame_of
last_step = refl

-- ---- the walk

pub sample_step : IsMapped (step_of space_of_part start true)
sample_step = subst (λ q. IsMapped q) (sym first_step) tt

pub sample_states : line_of space_of_part 2 start true ≡ Ok (start ∷ outside ∷ [])
sample_states =
    ap (λ r. line_after start r (line_of space_of_part 1)) first_step
    ∙ ap (λ r. with_first start (line_after outside r (line_of space_of_part 0))) last_step

pub sample_walk : IsMapped (line_of space_of_part 2 start true)
sample_walk = subst (λ q. IsMapped q) (sym sample_states) tt

-- ---- the same of a core

pub sample_core_tables : HaveTables (image_of_tables loaded) (codes_of loaded)
sample_core_tables = sample_tables

pub sample_windows : AreWindowsOf (image_of_tables loaded) (stack ∷ []) (window ∷ [])
sample_windows = (record { place = 0; segment = stack; among = refl; apart = refl; within = sample_within }, tt)

pub core_of_part : space_of_core loaded (window ∷ []) ≡ space_of_part
unfolding space_of_core
core_of_part = refl

pub sample_core_walk : IsMapped (line_of (space_of_core loaded (window ∷ [])) 2 start true)
sample_core_walk = subst (λ (s : SpaceValue). IsMapped (line_of s 2 start true)) (sym core_of_part) sample_walk
