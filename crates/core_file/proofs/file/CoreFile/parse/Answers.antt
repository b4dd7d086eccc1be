use Rattle.std.proofs.Common.{◌≡◌, ◌∙◌, ◌≤◌, ◌<◌, ◌^◌, length, Result, Ok, Err, sym, arith}
use Rattle.std.specs.Prelude.{IfOk}
use Rattle.core_file.specs.declared.errors.CoreError.{CoreError}
use Rattle.core_file.specs.CoreValue.{CoreValue, core_of}
use Rattle.core_file.specs.CoreGrammar.{IsCore}
use Rattle.core_file.proofs.CoreLemmas.{read-core, core-read, header_cause, many_cause, segments_cause, notes_cause}
use Rattle.core_file.proofs.CountLemmas.{core_countable}
use Rattle.core_file.proofs.file.CoreFile.parse.Goals as goal

pub returns-clause-grammar : goal.returns-clause-grammar
returns-clause-grammar c = go c.core_in.result c.core_in.ensures
  where
    go : (r : Result CoreValue CoreError) → r ≡ core_of c.args.bytes.now → IfOk r (λ core. IsCore c.args.bytes.now core)
    go (Ok core) is = read-core c.args.bytes.now core (sym is)
    go (Err e) is = tt

pub returns-clause-whole : goal.returns-clause-whole
returns-clause-whole c = λ core is. c.core_in.ensures ∙ core-read c.args.bytes.now core is

pub returns-clause-header : goal.returns-clause-header
returns-clause-header c = rw c.core_in.ensures (header_cause c.args.bytes.now)

pub returns-clause-many_segments : goal.returns-clause-many_segments
returns-clause-many_segments c = rw c.core_in.ensures (many_cause c.args.bytes.now)

pub returns-clause-segments : goal.returns-clause-segments
returns-clause-segments c = rw c.core_in.ensures (segments_cause c.args.bytes.now)

pub returns-clause-notes : goal.returns-clause-notes
returns-clause-notes c = rw c.core_in.ensures (notes_cause c.args.bytes.now)

pub returns-clause-few : goal.returns-clause-few
returns-clause-few c = go c.core_in.result c.core_in.ensures
  where
    go : (r : Result CoreValue CoreError) → r ≡ core_of c.args.bytes.now → length c.args.bytes.now ≤ 2 ^ 48 → IfOk r (λ core. length core.threads < 2 ^ 64)
    go (Ok core) is = λ fits. core_countable c.args.bytes.now core (sym is) (λ i. let byte = c.type_inv.bytes i in omega arith) fits
    go (Err e) is = λ _. tt
