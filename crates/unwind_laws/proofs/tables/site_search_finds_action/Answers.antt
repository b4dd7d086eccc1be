use Rattle.unwind_laws.proofs.SearchSites.{searched_is}
use Rattle.unwind_laws.proofs.tables.site_search_finds_action.Goals as goal

pub returns : goal.returns
returns c f sites a are = searched_is sites f.start f.end a are.ranges
