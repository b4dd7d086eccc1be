use Rattle.encoded_pointers.specs.CursorViews.{at}
use Rattle.unwinding_frames.specs.LanguageViews.{action_of}
use Rattle.table_check.proofs.SiteReading.{asks_of_kind}
use Rattle.table_check.proofs.language.asks.Goals as goal

pub returns-in-Ok : goal.returns-in-Ok
returns-in-Ok c = asks_of_kind c.args.start (at c.args.actions) c.args.pad c.args.index c.in-Ok.kind (action_of c.args.action) c.is_action.result c.if-pad-eq0.false c.in-Ok.ensures c.is_action.ensures
