use Rattle.std.proofs.Common.{refl}
use Rattle.stack_steps.specs.Languages.{rust_alone}
use Rattle.stack_steps.proofs.LanguageAsks.{asks_without_cxx}
use Rattle.stack_steps.proofs.laws.rust_alone_asks_by_rust.Goals as goal

pub returns : goal.returns
returns c image at interrupted f = asks_without_cxx rust_alone image at interrupted f refl
