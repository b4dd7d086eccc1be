use Rattle.std.proofs.Common.{map, drop}
use Rattle.encoded_pointers.specs.CursorViews.{at}
use Rattle.table_check.specs.ClaimViews.{site_of}
use Rattle.table_check.proofs.SiteReading.{AreRead}
use Rattle.table_check.proofs.language.are_sites.Given as goal

abbrev pub invariant-loop-site : goal.invariant-loop-site
invariant-loop-site l = AreRead l.start (at l.actions) (at l.listed) (map site_of l.sites) (at l.input) (map site_of (drop l.site-index l.sites))
