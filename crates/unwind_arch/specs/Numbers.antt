-- What fixes a machine to an unwinder, by number.
use Rattle.std.specs.Prelude.{◌≡◌, ℕ}
use Rattle.unwind_arch.specs.declared.register.Register.{Register}

-- The columns of the stack pointer and of the return address, those of the exception and the selector as a landing pad finds them,
-- the words of an exception that the unwinder keeps, and the most rules of a row.
pub record HasNumbers (sp ra : Register) (landing : Register × Register) (kept rules : ℕ) (n : ℕ × ℕ × ℕ × ℕ × ℕ × ℕ) : Type 0 where
  pub stack_pointer : sp.0 ≡ n.0
  pub return_address : ra.0 ≡ n.1
  pub exception : landing.0.0 ≡ n.2
  pub selector : landing.1.0 ≡ n.3
  pub words : kept ≡ n.4
  pub most : rules ≡ n.5
