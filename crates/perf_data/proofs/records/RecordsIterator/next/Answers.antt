use Rattle.std.proofs.Common.{◌≡◌, ◌<◌, ◌+◌, ◌∷◌, Ok, drop, length, sym, ap, arith}
use Rattle.std.proofs.lemmas.List.{take_rest}
use Rattle.perf_data.specs.Records.{records_of}
use Rattle.perf_data.specs.Views.{record_value, records_left}
use Rattle.perf_data.proofs.RecordLemmas.{records_next}
use Rattle.perf_data.proofs.records.RecordsIterator.next.Goals as goal

pub returns-in-Ok-clause-steps : goal.returns-in-Ok-clause-steps
returns-in-Ok-clause-steps c =
    let some : 0 < length c.args.self.now.bytes.now = omega (arith, c.in-Ok.ensures.within.0, c.in-Ok.ensures.within.1) in
    rw take_rest (records_next c.args.self.now.layout c.args.self.now.offset c.args.self.now.bytes.now (record_value c.in-Ok.record) c.in-Ok.size some (sym c.in-Ok.ensures.value))

pub returns-in-Ok-clause-goes : goal.returns-in-Ok-clause-goes
returns-in-Ok-clause-goes c =
    let some : 0 < length c.args.self.now.bytes.now = omega (arith, c.in-Ok.ensures.within.0, c.in-Ok.ensures.within.1) in
    let given : records_left c.args.self.now ≡ Ok (record_value c.in-Ok.record) ∷ records_of c.args.self.now.layout (c.args.self.now.offset + c.in-Ok.size) (drop c.in-Ok.size c.args.self.now.bytes.now) =
    records_next c.args.self.now.layout c.args.self.now.offset c.args.self.now.bytes.now (record_value c.in-Ok.record) c.in-Ok.size some (sym c.in-Ok.ensures.value) in
    let shorter = ap length given in
    record { on = λ _. (tt, tt, rw take_rest (omega arith)); keeps = tt; rests = λ _. tt }
