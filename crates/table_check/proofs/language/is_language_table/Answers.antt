use Rattle.std.proofs.Common.{◌≡◌, Ok, map, ap, subst, ◌∙◌}
use Rattle.unwind_definitions.specs.Input.{Input}
use Rattle.encoded_pointers.specs.CursorViews.{at}
use Rattle.table_check.specs.ClaimViews.{site_of}
use Rattle.table_check.specs.Numbers.{sites_read}
use Rattle.table_check.proofs.SiteReading.{table_by}
use Rattle.table_check.proofs.language.is_language_table.Goals as goal

pub returns-in-Ok : goal.returns-in-Ok
returns-in-Ok c =
    let same = c.new-input.ensures ∙ ap (λ l. record { base = c.args.address; offset = 0; bytes = l }) c.bytes_from.ensures.held in
    table_by c.args.image.now c.args.address c.args.start (map site_of c.args.sites.now) (at c.in-Ok.listed) (at c.read_sites.new.input) c.are_sites.result c.if-address-eq0.false
    (subst (λ (i : Input). sites_read i ≡ Ok (at c.in-Ok.listed, at c.read_sites.new.input)) same c.in-Ok.ensures) c.are_sites.ensures
