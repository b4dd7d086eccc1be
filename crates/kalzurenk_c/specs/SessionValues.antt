-- What contracts see of a session.
use Rattle.std.specs.Prelude.{ℕ}
use Rattle.stack_steps.specs.Modules.{SpaceValue}

-- its modules, with their indexes, and the most frames of a walk
pub record SessionValue : Type 0 where
  pub space : SpaceValue
  pub limit : ℕ
