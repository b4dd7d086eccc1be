use Rattle.std.proofs.Common.{◌≤◌, length, arith}
use Rattle.claim_checks.proofs.Lists.{site_done, site_more}
use Rattle.claim_checks.proofs.adding.add_sites.Goals as goal

pub loop-site-preserved : goal.loop-site-preserved
loop-site-preserved c = site_more c.args.sites.now c.loop-site.site-index _ c.loop-site-test.true c.loop-site.claims _ _ c.in_ok-site.ensures.added c.loop-site.invariant

pub returns : goal.returns
returns c =
    let all : length c.args.sites.now ≤ c.loop-site.site-index = let a = c.loop-site-test.false in omega (arith, a) in
    site_done c.args.sites.now c.loop-site.site-index all c.loop-site.claims _ c.loop-site.invariant
