use Rattle.std.proofs.Common.{arith}
use Rattle.std.proofs.lemmas.List.{take_rest}
use Rattle.perf_data.specs.Views.{file_value}
use Rattle.perf_data.proofs.MappingLemmas.{mapping_made}
use Rattle.perf_data.proofs.mapping.mapping_of.Goals as goal

pub returns : goal.returns
returns c =
    mapping_made c.args.misc c.args.body.now c.thread_at_start.result c.u64_at.result c.u64_at-2.result c.u64_at-3.result (file_value c.file_of.result) c.u32_at.result c.u32_at-2.result c.text_of.result.now (omega arith)
    c.thread_at_start.ensures c.u64_at.ensures c.u64_at-2.ensures c.u64_at-3.ensures c.file_of.ensures c.u32_at.ensures c.u32_at-2.ensures (rw take_rest at c.text_of.ensures)
