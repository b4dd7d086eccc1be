use Rattle.std.proofs.Common.{◌≡◌, ◌++◌, Ok, Err, List, ℕ, Some, drop, sym, ap, ◌∙◌, arith}
use Rattle.memory_image.specs.Words.{u64_at}
use Rattle.perf_data.specs.FileHeader.{section_offset, section_size, records_place}
use Rattle.perf_data.specs.Streams.{due_from, layout_before, held}
use Rattle.perf_data.proofs.StreamLemmas.{before_header, start_read, start_refused}
use Rattle.perf_data.proofs.opening.opened.Goals as goal

pub after-requires-clause-in_range : goal.after-requires-clause-in_range
after-requires-clause-in_range c =
    let front = c.args.front.items in
    let told : layout_before front ≡ Ok c.in-Ok.layout = ap layout_before (sym c.deref.ensures.value) ∙ (sym c.layout_before.ensures ∙ c.in-Ok.is) in
    let offset : c.u64_at-offset.result ≡ section_offset front records_place = c.u64_at-offset.ensures ∙ ap (λ (xs : List ℕ). u64_at xs 40) c.deref-in-Ok.ensures.value in
    let size : c.u64_at-size.result ≡ section_size front records_place = c.u64_at-size.ensures ∙ ap (λ (xs : List ℕ). u64_at xs 48) c.deref-in-Ok-2.ensures.value in
    let fits = c.requires.start.in_range (before_header front c.in-Ok.layout told) in
    omega arith

pub after-requires-clause-within : goal.after-requires-clause-within
after-requires-clause-within c =
    let front = c.args.front.items in
    let told : layout_before front ≡ Ok c.in-Ok.layout = ap layout_before (sym c.deref.ensures.value) ∙ (sym c.layout_before.ensures ∙ c.in-Ok.is) in
    let offset : c.u64_at-offset.result ≡ section_offset front records_place = c.u64_at-offset.ensures ∙ ap (λ (xs : List ℕ). u64_at xs 40) c.deref-in-Ok.ensures.value in
    let fits = c.requires.start.records (before_header front c.in-Ok.layout told) in
    omega arith

pub returns-in-Ok : goal.returns-in-Ok
returns-in-Ok c = λ more.
    let front = c.args.front.items in
    let told : layout_before front ≡ Ok c.in-Ok.layout = ap layout_before (sym c.deref.ensures.value) ∙ (sym c.layout_before.ensures ∙ c.in-Ok.is) in
    let offset : c.u64_at-offset.result ≡ section_offset front records_place = c.u64_at-offset.ensures ∙ ap (λ (xs : List ℕ). u64_at xs 40) c.deref-in-Ok.ensures.value in
    let size : c.u64_at-size.result ≡ section_size front records_place = c.u64_at-size.ensures ∙ ap (λ (xs : List ℕ). u64_at xs 48) c.deref-in-Ok-2.ensures.value in
    let layout_is = c.after.ensures.place.layout_is in
    let offset_is : c.after.result.offset ≡ section_offset front records_place = c.after.ensures.place.offset_is ∙ offset in
    let size_is : c.after.result.size ≡ section_size front records_place = c.after.ensures.place.size_is ∙ size in
    let held_is : held c.after.result ≡ drop (section_offset front records_place) front = c.after.ensures.held ∙ ap (λ n. drop n front) offset in
    let due : due_from c.after.result.layout c.after.result.offset c.after.result.size (held c.after.result ++ more) ≡ due_from c.in-Ok.layout (section_offset front records_place) (section_size front records_place) (drop (section_offset front records_place) front ++ more) =
    λ i. due_from (layout_is i) (offset_is i) (size_is i) (held_is i ++ more) in
    ap Some (due ∙ start_read front more c.in-Ok.layout c.requires.start told)

pub returns-in-Err : goal.returns-in-Err
returns-in-Err c = λ more.
    let front = c.args.front.items in
    let told : layout_before front ≡ Err c.in-Err.error = ap layout_before (sym c.deref.ensures.value) ∙ (sym c.layout_before.ensures ∙ c.in-Err.is) in
    ap Some (sym (start_refused front more c.in-Err.error c.requires.start told))
