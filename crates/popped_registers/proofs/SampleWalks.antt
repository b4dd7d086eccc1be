-- The walk of the worked stack, step by step.
use Rattle.std.proofs.Common.{inl, inr, ◌≡◌, ℕ, Bool, true, false, eqb, List, [], ◌∷◌, Option, Some, None, Result, Ok, Err, refl, sym, ap, subst, ◌∙◌, lit≤}
use Rattle.std.specs.Result.{result_map_both}
use Rattle.memory_image.specs.Image.{Span, word_at}
use Rattle.memory_image.specs.Results.{result_map}
use Rattle.unwind_definitions.specs.Caller.{cfa_value, value_without_rule, x86_64}
use Rattle.unwind_definitions.specs.Columns as column
use Rattle.unwind_definitions.specs.Entries.{entry_at}
use Rattle.unwind_definitions.specs.Expressions.{evaluation}
use Rattle.unwind_definitions.specs.Instructions.{Rule, instruction_of}
use Rattle.unwind_definitions.specs.LanguageTable.{input_at}
use Rattle.unwind_definitions.specs.Row.{CfaRule, ColumnAndOffset, RowInstructions, cfa_rule, row_at, rule_of}
use Rattle.unwind_definitions.specs.Scan.{scan}
use Rattle.unwind_laws.specs.Pushing.{body_rules}
use Rattle.unwind_arch.specs.declared.x86_64.Context.{Context}
use Rattle.unwind_arch.specs.ContextViews.{columns_of}
use Rattle.frame_rows.specs.Rules.{AscendsFrom, rule_in}
use Rattle.fde_finders.specs.Finding.{FoundFde, table_bases}
use Rattle.unwinding_frames.specs.Calling.{rules_applied}
use Rattle.unwinding_frames.proofs.Callers.{row_caller}
use Rattle.format_frames.specs.declared.machine.Stepped.{Stepped}
use Rattle.stack_steps.specs.declared.error.DeliverError.{DeliverError}
use Rattle.stack_steps.specs.declared.error.DeliverError.TheVariants.{Unmapped}
use Rattle.stack_steps.specs.Frames.{Described, DescribedFrame, next_with, refusal_of}
use Rattle.stack_steps.specs.Modules.{SpaceValue}
use Rattle.stack_steps.specs.Stepping.{frame_of, step_of}
use Rattle.stack_steps.proofs.StepParts.{step_is, stepped_by}
use Rattle.stack_walks.specs.declared.walk_end.EndReason.TheVariants.{Outermost}
use Rattle.stack_walks.specs.WalkEnds.{ComesTo, caller_from, caller_in, contexts_to_end, reached_after, reached_by, start_state}
use Rattle.popped_registers.specs.declared.popped.PoppedRegister.{PoppedRegister}
use Rattle.popped_registers.specs.PoppedRegisters.{kept_over, kept_space, popped_at, popped_in, popped_where}
use Rattle.popped_registers.specs.PoppedSample.{body_run, caller, fde, image, kept, outside, popped, popped_run, space, start}

-- ---- a step by a row's rules

abbrev pub next_by : (image : List Span) (c : Context) (cfa : ℕ) (rules : List (ℕ × Rule)) → Result (Option Stepped) DeliverError
next_by image c cfa rules = result_map Some (result_map_both (next_with false) refusal_of (rules_applied (evaluation image) image (columns_of c) cfa rules (value_without_rule x86_64 (columns_of c) cfa)))

pub stepped : (space : SpaceValue) (c : Context) (interrupted : Bool) (f : DescribedFrame) (rule : CfaRule) (cfa : ℕ) (rules : List (ℕ × Rule)) → f.found.fde.cie.letters.signal ≡ false → frame_of space c interrupted ≡ Ok (Some (Described f)) →
    cfa_rule f.run ≡ Some rule → cfa_value (evaluation space.image) (columns_of c) rule ≡ Ok cfa → AscendsFrom 0 rules → ((k : ℕ) → rule_in rules k ≡ rule_of f.run k) → step_of space c interrupted ≡ next_by space.image c cfa rules
stepped space c interrupted f rule cfa rules called found ruled gives up each =
    step_is space c interrupted
    ∙ (ap (stepped_by space.image c) found
    ∙ (ap (λ r. result_map Some (result_map_both (next_with f.found.fde.cie.letters.signal) refusal_of r)) (sym (row_caller x86_64 (evaluation space.image) space.image (columns_of c) cfa f.run rule rules refl refl ruled gives up each))
    ∙ ap (λ (signal : Bool). result_map Some (result_map_both (next_with signal) refusal_of (rules_applied (evaluation space.image) space.image (columns_of c) cfa rules (value_without_rule x86_64 (columns_of c) cfa)))) called))

-- ---- the frames

abbrev found_in : List Span → FoundFde
found_in memory = record { fde = fde; bases = table_bases None 0x500000; table = input_at memory 0x500000 }

abbrev frame_with_run : List Span → RowInstructions → DescribedFrame
frame_with_run memory run = record { found = found_in memory; run = run }

popped_each : (k : ℕ) → rule_in body_rules k ≡ rule_of popped_run k
popped_each k = go (eqb 3 k) refl (eqb 16 k) refl
  where
    go : (a : Bool) → eqb 3 k ≡ a → (b : Bool) → eqb 16 k ≡ b → rule_in body_rules k ≡ rule_of popped_run k
    go true e b f = rw e refl
    go false e true f = rw (e, f) refl
    go false e false f = rw (e, f) refl

body_each : (k : ℕ) → rule_in body_rules k ≡ rule_of body_run k
body_each k = go (eqb 3 k) refl (eqb 16 k) refl
  where
    go : (a : Bool) → eqb 3 k ≡ a → (b : Bool) → eqb 16 k ≡ b → rule_in body_rules k ≡ rule_of body_run k
    go true e b f = rw e refl
    go false e true f = rw (e, f) refl
    go false e false f = rw (e, f) refl

ascend : AscendsFrom 0 body_rules
ascend = (lit≤ tt, (lit≤ tt, lit≤ tt))

frame_at_return : frame_of space start true ≡ Ok (Some (Described (frame_with_run image popped_run)))
unfolding frame_of scan entry_at row_at instruction_of
frame_at_return = refl

kept_frame_at_return : frame_of kept start true ≡ Ok (Some (Described (frame_with_run kept.image popped_run)))
unfolding frame_of scan entry_at row_at instruction_of
kept_frame_at_return = refl

kept_frame_in_body : frame_of kept caller false ≡ Ok (Some (Described (frame_with_run kept.image body_run)))
unfolding frame_of scan entry_at row_at instruction_of
kept_frame_in_body = refl

-- ---- the steps

-- RBX's slot isn't mapped
cut : step_of space start true ≡ Err (Unmapped 0x7000)
unfolding word_at
cut = stepped space start true (frame_with_run image popped_run) (ColumnAndOffset column.rsp 8) 0x7010 body_rules refl frame_at_return refl refl ascend popped_each

abbrev called : Context → Stepped
called c = record { context = c; signal = false }

pub first_step : step_of kept start true ≡ Ok (Some (called caller))
unfolding word_at
first_step = stepped kept start true (frame_with_run kept.image popped_run) (ColumnAndOffset column.rsp 8) 0x7010 body_rules refl kept_frame_at_return refl refl ascend popped_each

pub second_step : step_of kept caller false ≡ Ok (Some (called outside))
unfolding word_at
second_step = stepped kept caller false (frame_with_run kept.image body_run) (ColumnAndOffset column.rsp 16) 0x7020 body_rules refl kept_frame_in_body refl refl ascend body_each

pub last_step : step_of kept outside false ≡ Ok None
unfolding step_of frame_of
last_step = refl

-- ---- the walks

pub sample_popped : popped_in space 3 start ≡ popped
unfolding popped_in word_at
sample_popped = ap (λ r. popped_where r (popped_at image start (frame_of space start true))) cut ∙ ap (popped_at image start) frame_at_return

pub sample_kept : kept_space space 3 start ≡ kept
sample_kept = ap (λ (ps : List PoppedRegister). record space { image = kept_over image ps }) sample_popped

abbrev states_after : SpaceValue → ℕ → Stepped → Result (Option Stepped) DeliverError → List Context
states_after s room state r = (reached_after state (caller_in r) (reached_by (caller_from s) room)).contexts

pub sample_cut : contexts_to_end space 3 start true ≡ start ∷ []
sample_cut = ap (states_after space 2 (start_state start true)) cut

kept_states : contexts_to_end kept 3 start true ≡ start ∷ caller ∷ outside ∷ []
kept_states =
    ap (states_after kept 2 (start_state start true)) first_step
    ∙ ap (λ (cs : List Context). start ∷ cs) (ap (states_after kept 1 (called caller)) second_step ∙ ap (λ (cs : List Context). caller ∷ cs) (ap (states_after kept 0 (called outside)) last_step))

pub sample_states : contexts_to_end (kept_space space 3 start) 3 start true ≡ start ∷ caller ∷ outside ∷ []
sample_states = ap (λ (s : SpaceValue). contexts_to_end s 3 start true) sample_kept ∙ kept_states

kept_ends : ComesTo Outermost kept 3 start true
kept_ends = inr (called caller, first_step, inr (called outside, second_step, inl refl))

pub sample_ends : ComesTo Outermost (kept_space space 3 start) 3 start true
sample_ends = subst (λ (s : SpaceValue). ComesTo Outermost s 3 start true) (sym sample_kept) kept_ends
