-- Functions that are read, as the functions that they state.
use Rattle.std.specs.Prelude.{ℕ, Bool, List, Option, map, option_map}
use Rattle.unwind_definitions.specs.Function.{Function}
use Rattle.table_check.specs.ClaimViews.{prologue_step_of, range_of, site_of}
use Rattle.table_check.specs.declared.claims.AddressRange.{AddressRange}
use Rattle.table_check.specs.declared.claims.ClaimedSite.{ClaimedSite}
use Rattle.table_check.specs.declared.claims.ClaimedStep.{ClaimedStep}
use Rattle.claim_checks.specs.declared.functions.ReadFunction.{ReadFunction}

abbrev pub function_with : ℕ → ℕ → Bool → List ClaimedStep → List AddressRange → Option (List ClaimedSite) → Function
function_with start end outermost steps bodies sites = record {
  start = start;
  end = end;
  prologue = map prologue_step_of steps;
  bodies = map range_of bodies;
  sites = option_map (λ sites. map site_of sites) sites;
  outermost = outermost;
}

abbrev pub function_of : ReadFunction → Function
function_of f = function_with f.start f.end f.is_outermost f.steps.items f.bodies.items (option_map (λ sites. sites.items) f.sites)
