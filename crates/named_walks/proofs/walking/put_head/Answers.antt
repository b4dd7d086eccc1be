use Rattle.std.specs.Prelude.{codes}
use Rattle.std.specs.Fmt.{decimal}
use Rattle.named_walks.proofs.Texts.{head_put}
use Rattle.named_walks.proofs.walking.put_head.Goals as goal

pub returns : goal.returns
returns c = head_put _ _ _ (codes "frame ") (decimal c.args.index) _ c.in_ok-put_count.ensures c.in_ok-put_fields.ensures
