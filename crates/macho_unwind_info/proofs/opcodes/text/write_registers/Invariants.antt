use Rattle.std.proofs.Common.{◌≡◌, ℕ, ◌+◌, ◌-◌, ◌*◌, ◌<◌, ◌^◌, List, ◌++◌, length, drop}
use Rattle.std.specs.Fmt.{HasWritten, IsPlainFormatter}
use Rattle.macho_unwind_info.specs.RegisterText.{registers_text}
use Rattle.macho_unwind_info.proofs.opcodes.text.write_registers.Given as goal

abbrev pub invariant-loop-register : goal.invariant-loop-register
invariant-loop-register g l =
    (l.below + l.word * (length l.registers - l.register-index) < 2 ^ 32) × (done : List ℕ)
    × (done ++ registers_text g.R.Named.name l.word l.below (drop l.register-index l.registers) ≡ registers_text g.R.Named.name l.word l.initial.below l.registers)
    × (IsPlainFormatter l.initial.f → HasWritten g.W.Write.write_str_gives l.initial.f done l.f)
