-- The code's operations as those of the definitions. No public clause cites this.
use Rattle.std.specs.Prelude.{ℕ, bit_and, bit_or, bit_xor}
use Rattle.std.specs.Int.{w64, bit_not}
use Rattle.unwind_definitions.specs.Caller.{◌+w◌}
use Rattle.unwind_definitions.specs.Operations.{Nop, Pop, Swap, Rotate, Push, PushColumn, Pick, Load, Skip, Branch, magnitude, negation, quotient, remainder, difference, product, shifted_left, shifted_right, shifted_signed, is_equal, is_unequal, is_less, is_at_least}
use Rattle.unwind_definitions.specs.Operations as definitions
use Rattle.frame_expressions.specs.declared.operation.Operation.{Operation}
use Rattle.frame_expressions.specs.declared.operation.Operation.TheVariants as coded
use Rattle.frame_expressions.specs.declared.operation.Change.{Change}
use Rattle.frame_expressions.specs.declared.operation.Change.TheVariants as change
use Rattle.frame_expressions.specs.declared.operation.Combination.{Combination}
use Rattle.frame_expressions.specs.declared.operation.Combination.TheVariants as combination
use Rattle.frame_expressions.specs.declared.operation.Division.{Division}
use Rattle.frame_expressions.specs.declared.operation.Division.TheVariants as division

abbrev pub changed_by : Change → ℕ → ℕ
changed_by change.Magnitude = magnitude
changed_by change.Negate = negation
changed_by change.Not = bit_not w64
changed_by (change.Add n) = λ a. a +w n

abbrev pub combined_by : Combination → ℕ → ℕ → ℕ
combined_by combination.And = bit_and
combined_by combination.Or = bit_or
combined_by combination.Xor = bit_xor
combined_by combination.Add = ◌+w◌
combined_by combination.Subtract = difference
combined_by combination.Multiply = product
combined_by combination.ShiftLeft = shifted_left
combined_by combination.ShiftRight = shifted_right
combined_by combination.ShiftSigned = shifted_signed
combined_by combination.IsEqual = is_equal
combined_by combination.IsUnequal = is_unequal
combined_by combination.IsLess = is_less
combined_by combination.IsAtMost = λ a b. is_at_least b a
combined_by combination.IsGreater = λ a b. is_less b a
combined_by combination.IsAtLeast = is_at_least

abbrev pub divided_by : Division → ℕ → ℕ → ℕ
divided_by division.Quotient = quotient
divided_by division.Remainder = remainder

abbrev pub meaning : Operation → definitions.Operation
meaning coded.Nop = Nop
meaning coded.Pop = Pop
meaning coded.Swap = Swap
meaning coded.Rotate = Rotate
meaning (coded.Push a) = Push a
meaning (coded.PushRegister register offset) = PushColumn register.0 offset
meaning (coded.Pick n) = Pick n
meaning (coded.Load n) = Load n.count
meaning (coded.Change c) = definitions.Change (changed_by c)
meaning (coded.Combine c) = definitions.Combine (combined_by c)
meaning (coded.Divide d) = definitions.Divide (divided_by d)
meaning (coded.Skip distance) = Skip distance
meaning (coded.Branch distance) = Branch distance
