use Rattle.std.proofs.Common.{◌≡◌, ◌-◌, ◌<◌, ◌∷◌, length, take, drop, ap, arith}
use Rattle.std.proofs.lemmas.List.{take_rest}
use Rattle.pe_unwind_info.specs.FunctionTable.{whole_functions, runtime_function_of}
use Rattle.pe_unwind_info.proofs.TableLemmas.{whole_functions_cons}
use Rattle.pe_unwind_info.proofs.x86_64.function_table.FunctionTableEntriesIterator.next.Goals as goal

pub returns-clause-steps : goal.returns-clause-steps
returns-clause-steps c =
    let bytes = c.args.self.now.bytes.now in
    let rest : take (length bytes - 12) (drop 12 bytes) ≡ drop 12 bytes = take_rest bytes 12 in
    let first : c.read-function.result ≡ runtime_function_of (take 12 bytes) = c.read-function.ensures in
    rw (rest, first) (whole_functions_cons bytes (omega arith))

pub returns-clause-goes : goal.returns-clause-goes
returns-clause-goes c =
    let bytes = c.args.self.now.bytes.now in
    let rest : take (length bytes - 12) (drop 12 bytes) ≡ drop 12 bytes = take_rest bytes 12 in
    let steps : length (whole_functions bytes) ≡ length (runtime_function_of (take 12 bytes) ∷ whole_functions (drop 12 bytes)) = ap length (whole_functions_cons bytes (omega arith)) in
    let fewer : length (whole_functions (take (length bytes - 12) (drop 12 bytes))) < length (whole_functions bytes) = rw rest (omega arith) in
    record { on = λ _. (tt, tt, fewer); keeps = tt; rests = λ _. tt }
