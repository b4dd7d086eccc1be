-- The caller that the registers of an unwound frame give.
use Rattle.std.proofs.Common.{◌≡◌, ℕ, Option, Result, Ok, Err, ap, ◌∙◌}
use Rattle.unwind_definitions.specs.Caller.{Columns}
use Rattle.unwind_arch.specs.declared.x86_64.Context.{Context}
use Rattle.unwind_arch.specs.ContextViews.{columns_of}
use Rattle.pe_unwind_info.specs.declared.x86_64.fault.FrameFault.{FrameFault}
use Rattle.pe_unwind_info.specs.declared.x86_64.function_table.RuntimeFunction.{RuntimeFunction}
use Rattle.pe_unwind_info.specs.FrameOf.{Image, frame_end_of}
use Rattle.pe_unwind_info.specs.Machine.{Returned, Faulted, Registers, registers_of, Stack}
use Rattle.format_definitions.specs.PeRegisters.{registers_in}
use Rattle.format_definitions.specs.PeStep.{PeFault, InFrame, columns_at}
use Rattle.format_frames.proofs.PeRegisters.{unwound}

module _ (memory : Image) (stack : Stack) (rva : ℕ) (function : Option RuntimeFunction) (old : Context) (xmm : ℕ → ℕ) (none : ◌≡◌ {A = ℕ → ℕ} xmm (λ k. 0)) where
  from_none : frame_end_of memory stack rva function (registers_of (registers_in (columns_of old)).general xmm) ≡ frame_end_of memory stack rva function (registers_in (columns_of old))
  from_none = ap (λ (x : ℕ → ℕ). frame_end_of memory stack rva function (registers_of (registers_in (columns_of old)).general x)) none

  pub caller_is : (c : Context) (left : ℕ → ℕ) (ret : ℕ) → Returned ret (registers_of (registers_in (columns_of c)).general left) ≡ frame_end_of memory stack rva function (registers_of (registers_in (columns_of old)).general xmm) →
      ◌≡◌ {A = Result Columns PeFault} (Ok (columns_of (record old { registers = c.registers; ra = ret }))) (columns_at (columns_of old) (frame_end_of memory stack rva function (registers_in (columns_of old))))
  caller_is c left ret e = ap (λ (columns : Columns). Ok columns) (unwound old c ret) ∙ ap (columns_at (columns_of old)) (e ∙ from_none)

  pub fault_is : (regs : Registers) (fault : FrameFault) → Faulted fault regs ≡ frame_end_of memory stack rva function (registers_of (registers_in (columns_of old)).general xmm) →
      ◌≡◌ {A = Result Columns PeFault} (Err (InFrame fault)) (columns_at (columns_of old) (frame_end_of memory stack rva function (registers_in (columns_of old))))
  fault_is regs fault e = ap (columns_at (columns_of old)) (e ∙ from_none)
