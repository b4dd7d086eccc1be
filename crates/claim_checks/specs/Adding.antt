-- Functions with more steps, body ranges or call sites. No public clause cites this.
use Rattle.std.specs.Prelude.{List, ◌++◌, map}
use Rattle.std.specs.Option.{option_map}
use Rattle.unwind_definitions.specs.Function.{Function}
use Rattle.table_check.specs.declared.claims.AddressRange.{AddressRange}
use Rattle.table_check.specs.declared.claims.ClaimedSite.{ClaimedSite}
use Rattle.table_check.specs.declared.claims.ClaimedStep.{ClaimedStep}
use Rattle.table_check.specs.ClaimViews.{prologue_step_of, range_of, site_of}

abbrev pub with_steps : List ClaimedStep → Function → Function
with_steps steps f = record f { prologue = f.prologue ++ map prologue_step_of steps }

abbrev pub with_bodies : List AddressRange → Function → Function
with_bodies bodies f = record f { bodies = f.bodies ++ map range_of bodies }

abbrev pub with_sites : List ClaimedSite → Function → Function
with_sites sites f = record f { sites = option_map (λ old. old ++ map site_of sites) f.sites }
