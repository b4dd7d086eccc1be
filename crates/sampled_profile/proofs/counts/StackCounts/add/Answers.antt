use Rattle.std.proofs.Common.{◌≡◌, ◌+◌, None, Some, sym, ap, ◌∙◌, arith}
use Rattle.std.specs.Map.{lookup}
use Rattle.std.specs.BTreeMap.{insert_entry}
use Rattle.folded_stacks.proofs.Counting.{total}
use Rattle.sampled_profile.specs.CountViews.{lines_of}
use Rattle.sampled_profile.proofs.CountLemmas.{added, is_key, key_order, keys_ascend, put_known, put_new, count_fits, some_times}
use Rattle.sampled_profile.proofs.counts.StackCounts.add.Goals as goal

pub overflow_add-before : goal.overflow_add-before
overflow_add-before c =
    let entries = c.self.inside.counts.entries in
    let known : lookup (is_key c.in_ok-key.key.items) entries ≡ Some c.in-Some.before = sym c.in_ok-before.ensures.old ∙ c.in-Some.is in
    let fits = count_fits c.in_ok-key.key.items c.in-Some.before entries known in
    let sum = ap total c.self.view_is in
    let few = c.requires in
    omega arith

pub returns-in_ok-insert-in-Some : goal.returns-in_ok-insert-in-Some
returns-in_ok-insert-in-Some c =
    let entries = c.self.inside.counts.entries in
    let key = c.in_ok-key.key in
    let again = c.in_ok-key-in-Some.key in
    let more = c.args.more in
    let text = c.args.stack.now in
    let sum = c.in-Some.before + more in
    let known : lookup (is_key key.items) entries ≡ Some c.in-Some.before = sym c.in_ok-before.ensures.old ∙ c.in-Some.is in
    let same : again.items ≡ key.items = c.in_ok-key-in-Some.ensures.items ∙ sym c.in_ok-key.ensures.items in
    ap lines_of c.in_ok-insert-in-Some.ensures.entries
    ∙ (ap (λ es. lines_of (insert_entry key_order es again sum)) c.in_ok-before.ensures.entries
    ∙ (put_known key again more c.in-Some.before entries same (keys_ascend entries c.in_ok-before.ensures.was_ordered) known
    ∙ (ap (λ t. added more t (lines_of entries)) c.in_ok-key.ensures.items ∙ (ap (added more text) c.self.view_is ∙ sym (some_times more text c.args.self.now c.if-more-eq0.false)))))

pub returns-in-None : goal.returns-in-None
returns-in-None c =
    let entries = c.self.inside.counts.entries in
    let key = c.in_ok-key.key in
    let more = c.args.more in
    let text = c.args.stack.now in
    let none : lookup (is_key key.items) entries ≡ None = sym c.in_ok-before.ensures.old ∙ c.in-None.is in
    ap lines_of c.in_ok-before.ensures.entries
    ∙ (put_new key more entries none
    ∙ (ap (λ t. added more t (lines_of entries)) c.in_ok-key.ensures.items ∙ (ap (added more text) c.self.view_is ∙ sym (some_times more text c.args.self.now c.if-more-eq0.false))))
