use Rattle.std.proofs.Common.{◌≡◌, ◌∙◌, sym, false}
use Rattle.pe_unwind_info.specs.EpilogList.{lists}
use Rattle.pe_unwind_info.proofs.EpilogListLemmas.{after_some, any_unlisted}
use Rattle.pe_unwind_info.proofs.x86_64.epilog_list.take_later_epilogs.Goals as goal

pub loop-epilog-preserved : goal.loop-epilog-preserved
loop-epilog-preserved c =
    let first = c.in-Some.ensures.rest in
    let unlisted : lists c.args.end c.args.size c.args.address c.in-Some.epilog ≡ false = sym c.lists.ensures ∙ c.if-lists.false in
    record {
      after = c.loop-epilog.invariant.after ∙ after_some _ _ first.0 _ first.1;
      listed = c.loop-epilog.invariant.listed ∙ any_unlisted _ _ _ c.loop-epilog.listed _ _ first.0 _ first.1 unlisted;
    }
