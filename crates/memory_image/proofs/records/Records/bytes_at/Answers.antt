use Rattle.std.proofs.Common.{rules, arith, length-drop}
use Rattle.std.proofs.lemmas.List.{take_rest}
use Rattle.memory_image.proofs.RecordLemmas.{record_within, record_at}
use Rattle.memory_image.proofs.records.Records.bytes_at.Goals as goal

pub overflow_mul-bytes : goal.overflow_mul-bytes
overflow_mul-bytes g c =
    let fits = record_within g.T.Record.SIZE g.T.Record.value_of c.self.inside.bytes.now c.self.inside.count c.args.i c.args.self.now c.self.view_is c.self.invariant c.requires in
    let few = c.self.told.0 in
    rw c.SIZE.ensures (omega (arith, fits, few))

pub slice_bounds-bytes-count : goal.slice_bounds-bytes-count
slice_bounds-bytes-count g c =
    let fits = record_within g.T.Record.SIZE g.T.Record.value_of c.self.inside.bytes.now c.self.inside.count c.args.i c.args.self.now c.self.view_is c.self.invariant c.requires in
    rw c.SIZE.ensures (omega (arith, fits))

pub slice_bounds-bytes-start : goal.slice_bounds-bytes-start
slice_bounds-bytes-start g c = let fits = slice_bounds-bytes-count g c in search (rules, fits)

pub returns-clause-fits : goal.returns-clause-fits
returns-clause-fits g c =
    let fits = record_within g.T.Record.SIZE g.T.Record.value_of c.self.inside.bytes.now c.self.inside.count c.args.i c.args.self.now c.self.view_is c.self.invariant c.requires in
    rw (take_rest, length-drop, c.SIZE.ensures) (omega (arith, fits))

pub returns-clause-record : goal.returns-clause-record
returns-clause-record g c =
    rw (take_rest, c.SIZE.ensures) (record_at g.T.Record.SIZE g.T.Record.value_of c.self.inside.bytes.now c.self.inside.count c.args.i c.args.self.now c.self.view_is c.requires)
