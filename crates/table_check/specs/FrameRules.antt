-- The rules that a row of a frame may have. No public clause cites this.
use Rattle.std.specs.Prelude.{◌≡◌, ◌⊎◌, ℕ, Bool, true, Option, Some, None}
use Rattle.unwind_definitions.specs.Columns as column
use Rattle.unwind_definitions.specs.Instructions.{Rule, Offset, SameValue, Undefined}
use Rattle.unwind_definitions.specs.State.{CalleeSaved, RBX, RBP, R12, R13, R14, R15, column_of}
use Rattle.unwind_definitions.specs.DescribedRows.{may_have_rule, negative}
use Rattle.table_check.specs.declared.frame_rules.ReturnRule.{ReturnRule}
use Rattle.table_check.specs.declared.frame_rules.ReturnRule.TheVariants as returning
use Rattle.table_check.specs.declared.frame_rules.RuledRegisters.{RuledRegisters}
use Rattle.table_check.specs.declared.prologue.FrameSoFar.{FrameSoFar}
use Rattle.table_check.specs.Frames.{slot_of}

-- whether a register has a rule
abbrev pub has_rule : CalleeSaved → RuledRegisters → Bool
has_rule RBX m = m.rbx
has_rule RBP m = m.rbp
has_rule R12 m = m.r12
has_rule R13 m = m.r13
has_rule R14 m = m.r14
has_rule R15 m = m.r15

-- the rule of a register that is saved at an offset, or that isn't saved
abbrev pub IsKeptRule : Option ℕ → Rule → Type 0
IsKeptRule None rule = rule ≡ SameValue
IsKeptRule (Some offset) rule = rule ≡ Offset offset

abbrev pub return_rule : ReturnRule → Rule
return_rule returning.Saved = Offset (negative 8)
return_rule returning.Undefined = Undefined

-- a row may have this rule, where a frame saves registers so and the return address has that rule
pub record FitsRule (frame : FrameSoFar) (ret_rule : Rule) (e : ℕ × Rule) : Type 0 where
  pub known : may_have_rule e.0 ≡ true
  pub saved : (r : CalleeSaved) → e.0 ≡ column_of r → IsKeptRule (slot_of r frame) e.1
  pub ret : e.0 ≡ column.ra → e.1 ≡ ret_rule

-- a register has a rule, or a frame doesn't save it
abbrev pub IsFound : FrameSoFar → RuledRegisters → CalleeSaved → Type 0
IsFound frame ruled r = (has_rule r ruled ≡ true) ⊎ (slot_of r frame ≡ None)
