use Rattle.std.proofs.Common.{rules, sym}
use Rattle.std.proofs.lemmas.List.Sorted.{answers_always}
use Rattle.stack_deliver.proofs.Ascending.{found_by_key}
use Rattle.stack_deliver.proofs.resumes.find_ascending.Goals as goal

-- the closure gives an entry's pad
pub returns-in-Ok : goal.returns-in-Ok
returns-in-Ok c =
    let facts = c.binary_search_by_key.ensures in
    let by_pad = facts.position (λ entry. entry.0) (answers_always _ _ _ (λ f a r g called. search rules)) in
    sym (found_by_key c.args.entries.now c.requires c.args.pad _ _ facts.bound by_pad c.in-Ok.is)

pub returns-in-Err : goal.returns-in-Err
returns-in-Err c =
    let facts = c.binary_search_by_key.ensures in
    let by_pad = facts.position (λ entry. entry.0) (answers_always _ _ _ (λ f a r g called. search rules)) in
    sym (found_by_key c.args.entries.now c.requires c.args.pad _ _ facts.bound by_pad c.in-Err.is)
