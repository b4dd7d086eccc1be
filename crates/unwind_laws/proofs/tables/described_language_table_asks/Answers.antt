use Rattle.std.proofs.Common.{refl, ◌∙◌}
use Rattle.unwind_laws.proofs.LanguageSites.{described_asks}
use Rattle.unwind_laws.proofs.tables.described_language_table_asks.Goals as goal

pub returns : goal.returns
returns c image bases f table a sites has are small is = described_asks image bases f table sites a are small is ∙ rw has refl
