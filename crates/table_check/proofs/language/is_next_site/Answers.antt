use Rattle.encoded_pointers.specs.CursorViews.{at}
use Rattle.table_check.specs.ClaimViews.{site_of}
use Rattle.table_check.proofs.SiteReading.{next_site, no_numbers}
use Rattle.table_check.proofs.language.is_next_site.Goals as goal

pub returns-in-Ok : goal.returns-in-Ok
returns-in-Ok c = next_site c.args.start (at c.args.actions) (at c.args.input.now) (at c.read_numbers.new.input) (site_of c.args.site.now) c.in-Ok.numbers c.in-Ok.ensures c.is_spelled.result c.is_spelled.ensures

pub returns-in-Err : goal.returns-in-Err
returns-in-Err c other found = no_numbers c.args.start (at c.args.actions) (at c.args.input.now) (at c.read_numbers.new.input) (site_of c.args.site.now) c.in-Err.field-0 c.in-Err.ensures other found
