use Rattle.std.proofs.Common.{◌∙◌, List, Result, Ok, ap}
use Rattle.memory_image.specs.Results.{result_map}
use Rattle.format_frames.specs.declared.machine.Stepped.{Stepped}
use Rattle.mapped_files.specs.declared.files.PartError.{PartError}
use Rattle.named_walks.proofs.Texts.{mapped_same, thread_put}
use Rattle.named_walks.proofs.walking.put_thread.Goals as goal

pub returns-clause-told : goal.returns-clause-told
returns-clause-told g c = λ all tells.
    let walked = c.walk_marked-walked in
    let shown = ap (λ (visited : List Stepped). result_map (λ done. visited) walked.result) c.deref.ensures.value in
    let done : Result (Unit {0}) PartError = Ok tt in
    thread_put all c.args.names.now.parts c.args.space.now c.args.limit c.args.index c.args.thread.now c.args.report.now c.put_count.new.self c.end_line.new.self c.put_walked.new.report _ done
    c.in_ok-put_count.ensures c.in_ok-end_line.ensures (shown ∙ walked.ensures.exact) (c.in_ok-put_walked.ensures.told all tells)

pub returns-clause-mapped : goal.returns-clause-mapped
returns-clause-mapped g c =
    let walked = c.walk_marked-walked in
    c.is_mapped.ensures ∙ mapped_same walked.result _ _ walked.ensures.exact
