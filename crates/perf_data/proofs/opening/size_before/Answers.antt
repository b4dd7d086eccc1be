use Rattle.std.proofs.Common.{sym, ◌∙◌}
use Rattle.perf_data.proofs.StreamLemmas.{start_with, start_without}
use Rattle.perf_data.proofs.opening.size_before.Goals as goal

pub returns-then-not-has_file_header : goal.returns-then-not-has_file_header
returns-then-not-has_file_header c = λ more fits. start_without c.args.bytes.now more c.requires (sym c.has_file_header.ensures.value ∙ c.if-not-has_file_header.true)

pub returns-then-end-offset : goal.returns-then-end-offset
returns-then-end-offset c = λ more fits.
    start_with c.args.bytes.now more c.u64_at-offset.result c.in_ok-end.end c.requires c.u64_at-offset.ensures c.in_ok-section_end.ensures.in_range c.in_ok-end.ensures.value c.if-end-offset.true fits
