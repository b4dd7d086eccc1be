use Rattle.std.proofs.Common.{map, take}
use Rattle.std.specs.List.{AllByRecursion}
use Rattle.unwind_definitions.specs.Function.{MayAsk, Site}
use Rattle.table_check.specs.ClaimViews.{function_of, site_of}
use Rattle.table_check.proofs.Reduced.{SoFar}
use Rattle.table_check.proofs.functions.are_sites_of.Given as goal

abbrev pub invariant-loop-site : goal.invariant-loop-site
invariant-loop-site l = SoFar (λ s. (site_of s).range) l.fn.claim.start l.fn.claim.end l.sites l.from l.site-index ×
    AllByRecursion (λ (s : Site). MayAsk (function_of l.fn.claim) s.action) (map site_of (take l.site-index l.sites))
