-- A cleanup pass has no code of the search.
use Rattle.std.proofs.Common.{inl, inr, ◌≡◌, ◌==◌, ℕ, pos, Bool, true, false, cond, ap, subst, Option, Some, None}
use Rattle.unwinding_frames.specs.declared.abi.UnwindReasonCode.{UnwindReasonCode}
use Rattle.unwinding_frames.specs.declared.abi.TheConstants.UnwindReasonCode.{FATAL_PHASE2_ERROR, INSTALL_CONTEXT}
use Rattle.unwinding_frames.specs.Passes.{LineEnd, RanOut, Decides, Fails, Crowded, Cause, FrameLimit, Fault, Outcome, Installs, Gives, is_code, mark_of, cleanup_end}
use Rattle.unwinding_core.specs.Runs.{IsUntaken}

module _ (C E : Type 0) where
  fatal_is_taken : (cause : Option (Cause E)) → IsUntaken {C = C} (Gives FATAL_PHASE2_ERROR cause) → ⊥
  fatal_is_taken cause (inl same) = let e : pos 2 ≡ pos 5 = ap (λ (c : UnwindReasonCode). c.0) same in absurd cc
  fatal_is_taken cause (inr same) = let e : pos 2 ≡ pos 3 = ap (λ (c : UnwindReasonCode). c.0) same in absurd cc

  decided_is_taken : (b handler : Bool) (past : C) → IsUntaken {E = E} (cond b (Installs past handler) (Gives FATAL_PHASE2_ERROR None)) → ⊥
  decided_is_taken true handler past none = none
  decided_is_taken false handler past none = fatal_is_taken None none

  end_is_taken : (stack_pointer : C → ℕ) (kept : ℕ) (end : LineEnd C E) → IsUntaken (cleanup_end stack_pointer kept end) → ⊥
  end_is_taken stack_pointer kept (RanOut x) none = fatal_is_taken None none
  end_is_taken stack_pointer kept (Decides x code left past) none = decided_is_taken (is_code code INSTALL_CONTEXT) (mark_of stack_pointer x == kept) past none
  end_is_taken stack_pointer kept (Fails e) none = fatal_is_taken (Some (Fault e)) none
  end_is_taken stack_pointer kept Crowded none = fatal_is_taken (Some FrameLimit) none

  pub cleanup_is_taken : (stack_pointer : C → ℕ) (kept : ℕ) (end : LineEnd C E) (outcome : Outcome C E) → outcome ≡ cleanup_end stack_pointer kept end → IsUntaken outcome → ⊥
  cleanup_is_taken stack_pointer kept end outcome is none = end_is_taken stack_pointer kept end (subst (λ (o : Outcome C E). IsUntaken o) is none)
