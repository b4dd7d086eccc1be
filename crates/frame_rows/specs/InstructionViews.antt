-- The code's instructions as those of the definitions.
use Rattle.std.specs.Prelude.{ℕ, List, Ok}
use Rattle.unwind_definitions.specs.Faults.{◌>>=◌}
use Rattle.unwind_definitions.specs.Input.{Reads, split, uleb, sleb}
use Rattle.unwind_definitions.specs.Instructions.{Instruction, Offset, Nop, Remember, Restore, Advance, SetLocation, Write, Reset, Cfa, CfaColumn, CfaOffset, CfaExpression, Arguments, Coding, data_units, row_creation, cfa_definition, offset_rule, register_rule, row_state, unknown}
use Rattle.encoded_pointers.specs.PointerViews.{bases_of}
use Rattle.frame_rows.specs.Rules.{rule_meaning}
use Rattle.frame_rows.specs.declared.coding.Coding.{Coding as CodeCoding}
use Rattle.frame_rows.specs.declared.instruction.CallFrameInstruction.{CallFrameInstruction}
use Rattle.frame_rows.specs.declared.instruction.CallFrameInstruction.TheVariants as coded
use Rattle.frame_rows.specs.declared.instruction.ShortInstruction.{ShortInstruction}
use Rattle.frame_rows.specs.declared.instruction.ShortInstruction.TheVariants as short

abbrev pub meaning : CallFrameInstruction → Instruction
meaning coded.Nop = Nop
meaning (coded.SetLocation address) = SetLocation address
meaning (coded.AdvanceLocation delta) = Advance delta
meaning (coded.SetRule register rule) = Write register.0 (rule_meaning rule)
meaning (coded.RestoreInitialRule register) = Reset register.0
meaning coded.RememberState = Remember
meaning coded.RestoreState = Restore
meaning (coded.DefineCfa register offset) = Cfa register.0 offset
meaning (coded.DefineCfaRegister register) = CfaColumn register.0
meaning (coded.DefineCfaOffset offset) = CfaOffset offset
meaning (coded.DefineCfaExpression bytes) = CfaExpression bytes.now
meaning (coded.SetArgumentSize size) = Arguments size

abbrev pub short_meaning : ShortInstruction → Instruction
short_meaning short.Nop = Nop
short_meaning (short.Advance delta) = Advance delta
short_meaning (short.Save register offset) = Write register.0 (Offset offset)
short_meaning (short.DefineCfaOffset offset) = CfaOffset offset
short_meaning short.RememberState = Remember
short_meaning short.RestoreState = Restore

abbrev pub coding_in : CodeCoding → Coding
coding_in c = record { code_factor = c.code_factor; data_factor = c.data_factor; address = c.address.0; bases = bases_of c.bases.now }

-- an offset in data units, and the bytes of an expression
abbrev pub unsigned_offset : Coding → Reads ℕ
unsigned_offset coding c = uleb c >>= λ n. Ok (data_units coding n.0, n.1)

abbrev pub signed_offset : Coding → Reads ℕ
signed_offset coding c = sleb c >>= λ n. Ok (data_units coding n.0, n.1)

abbrev pub block : Reads (List ℕ)
block c = uleb c >>= λ n. split n.0 n.1 >>= λ b. Ok (b.0.bytes, b.1)

-- The instruction of a first byte below 64, group by group: each is left to the next where it is none of a group.
unfoldable pub state_read : ℕ → Reads Instruction
state_read op = row_state op unknown

unfoldable pub rule_read : ℕ → Reads Instruction
rule_read op = register_rule op (state_read op)

unfoldable pub offset_read : Coding → ℕ → Reads Instruction
offset_read coding op = offset_rule coding op (rule_read op)

unfoldable pub cfa_read : Coding → ℕ → Reads Instruction
cfa_read coding op = cfa_definition coding op (offset_read coding op)

unfoldable pub operation_read : Coding → ℕ → Reads Instruction
operation_read coding op = row_creation coding op (cfa_read coding op)
