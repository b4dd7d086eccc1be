-- A program whose instructions are read one by one sets no location where none of them does.
use Rattle.std.proofs.Common.{◌≡◌, [], ◌∷◌, None, refl, sym, subst}
use Rattle.unwind_definitions.specs.Instructions.{Instruction, Program}
use Rattle.frame_rows.specs.InstructionViews.{short_meaning}
use Rattle.frame_rows.specs.Movable.{IsRelative, IsMovable}
use Rattle.frame_rows.specs.declared.instruction.ShortInstruction.{ShortInstruction}
use Rattle.frame_rows.specs.declared.instruction.ShortInstruction.TheVariants as short

pub movable_one : (p r : Program) (i : Instruction) → p ≡ record { instructions = i ∷ r.instructions; fault = r.fault } → IsRelative i → IsMovable r → IsMovable p
movable_one p r i reads relative m = subst IsMovable (sym reads) (record { whole = m.whole; each = (relative, m.each) })

pub movable_none : (p : Program) → p ≡ record { instructions = []; fault = None } → IsMovable p
movable_none p reads = subst IsMovable (sym reads) (record { whole = refl; each = tt })

pub short_relative : (s : ShortInstruction) → IsRelative (short_meaning s)
short_relative short.Nop = tt
short_relative (short.Advance delta) = tt
short_relative (short.Save register offset) = tt
short_relative (short.DefineCfaOffset offset) = tt
short_relative short.RememberState = tt
short_relative short.RestoreState = tt
