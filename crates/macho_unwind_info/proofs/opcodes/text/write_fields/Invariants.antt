use Rattle.std.proofs.Common.{◌≡◌, ℕ, ◌-◌, ◌*◌, ◌≤◌, List, ◌++◌, length, drop}
use Rattle.std.specs.Fmt.{HasWritten, IsPlainFormatter}
use Rattle.macho_unwind_info.specs.RegisterText.{fields_text}
use Rattle.macho_unwind_info.proofs.opcodes.text.write_fields.Given as goal

abbrev pub invariant-loop-field : goal.invariant-loop-field
invariant-loop-field g l =
    (l.word * (length l.fields - l.field-index) ≤ l.below) × (done : List ℕ)
    × (done ++ fields_text g.R.Named.name l.word l.below (drop l.field-index l.fields) ≡ fields_text g.R.Named.name l.word l.initial.below l.fields)
    × (IsPlainFormatter l.initial.f → HasWritten g.W.Write.write_str_gives l.initial.f done l.f)
