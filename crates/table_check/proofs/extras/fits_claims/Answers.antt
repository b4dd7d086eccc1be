use Rattle.std.proofs.Common.{◌≡◌, ◌+◌, ◌<◌, ◌≤◌, length, ap, subst, arith}
use Rattle.std.specs.Prelude.{◌⊎◌}
use Rattle.std.specs.Bool.{Decides}
use Rattle.eh_frame.specs.EntryViews.{fde_of}
use Rattle.table_check.specs.declared.claims.Claim.{Claim}
use Rattle.table_check.proofs.Deciding.{decides_yes}
use Rattle.table_check.proofs.InOrder.{fits_none, fits_some}
use Rattle.table_check.proofs.extras.fits_claims.Goals as goal

pub returns-then-index-claims : goal.returns-then-index-claims
returns-then-index-claims c = decides_yes (fits_none c.args.claims.now c.requires.order (fde_of c.args.fde.now) c.args.index c.requires.before c.if-index-claims.true)

pub returns : goal.returns
returns c =
    let fde = fde_of c.args.fde.now in
    let cs = c.args.claims.now in
    let i = c.args.index in
    let this : Claim = c.index-claims-index.result in
    let start = c.initial_address.ensures in
    let within = c.requires.within in
    let other = c.if-index-claims.false in
    let there : i < length cs = omega (arith, within, other) in
    let late = c.requires.after i this (omega arith) there in
    let end = ap (λ (x : Claim). x.end) c.index-claims-index.is in
    fits_some cs c.requires.order fde i c.requires.before this there c.index-claims-index.is (omega (arith, late, end)) c.fits.result
    (subst (λ n. Decides c.fits.result (((fde.start ≡ this.start) × (fde.start + n ≡ this.end)) ⊎ (fde.start + n ≤ this.start))) c.len.ensures
    (subst (λ n. Decides c.fits.result (((n ≡ this.start) × (n + c.len.result ≡ this.end)) ⊎ (n + c.len.result ≤ this.start))) start c.fits.ensures))
