use Rattle.std.proofs.Common.{inl, inr, ◌≡◌, ℕ, true, false, List, Option, sym, subst, ◌∙◌}
use Rattle.std.specs.Io.KnownBytes.{Appends}
use Rattle.command_ends.specs.declared.status.Status.TheVariants.{Done, BadSnapshot, NotJson}
use Rattle.command_ends.specs.Verdicts.{Verdict, IsReadyOrFailed, Tells, ComesExactly}
use Rattle.command_ends.proofs.VerdictLemmas.{if_some_weaker, of_some}
use Rattle.backtrace.specs.Due.{IsBacktrace, IsFaulty, due_of, guessed_text_of, text_of}
use Rattle.backtrace.proofs.Backtraces.{ready_with, if_some_both, asked_due, asked_backtrace, asked_guesses, sampled_due, sampled_backtraces}
use Rattle.stack_snapshot.proofs.Taken.{content_apart, content_laid_out, content_whole}
use Rattle.command_ends.specs.Verdicts.{verdict}
use Rattle.backtrace.proofs.Chains.{called_traced, chain_traced, stop_traced}
use Rattle.backtrace.proofs.Faults.{IsBad, bad_told, no_json_told}
use Rattle.stack_snapshot.specs.declared.errors.SnapshotError.TheVariants as faults
use Rattle.backtrace.proofs.KnownTraces.{stack_traced, called_stack_traced}
use Rattle.backtrace.proofs.PoppedTraces.{plain_traced, popped_traced, popped_stack_traced}
use Rattle.backtrace.proofs.running.run.Goals as goal

pub returns-clause-told : goal.returns-clause-told
returns-clause-told g c =
    let a = c.decide-answer.result in
    let words = c.args.words.now in
    let same : c.bytes.result.now ≡ a.text = c.bytes.ensures in
    let P : List ℕ → Type 0 = λ bytes. IsReadyOrFailed (due_of words bytes a.text) a.status a.text in
    let Q : List ℕ → Type 0 = λ bytes. IsBacktrace words bytes a.text in
    let R : List ℕ → Type 0 = λ bytes. (text : List ℕ) → IsBacktrace words bytes text → Tells (due_of words bytes text) c.write_answer.result (g.O.Sink.holds c.args.output.now) (g.O.Sink.holds c.write_answer.new.output) in
    if_some_both (g.I.Source.left c.args.input.now) (a.status ≡ Done) P Q R
    (λ bytes ready done text is.
    let held : List ℕ → Type 0 = λ t. IsReadyOrFailed (due_of words bytes text) a.status t in
    c.write_answer.ensures.told (due_of words bytes text) (subst held (sym same) (ready_with words bytes a.text text a.status ready done is)) (λ silent. same ∙ c.decide-answer.ensures.leaves.0 silent) c.decide-answer.ensures.kind.0)
    c.decide-answer.ensures.answer c.decide-answer.ensures.backtrace

pub returns-clause-done : goal.returns-clause-done
returns-clause-done g c = λ is.
    let a = c.decide-answer.result in
    let words = c.args.words.now in
    let same : c.bytes.result.now ≡ a.text = c.bytes.ensures in
    let before : Option (List ℕ) = g.O.Sink.holds c.args.output.now in
    let after : Option (List ℕ) = g.O.Sink.holds c.write_answer.new.output in
    let Q : List ℕ → Type 0 = λ bytes. IsBacktrace words bytes a.text in
    let R : List ℕ → Type 0 = λ bytes. (text : List ℕ) × IsBacktrace words bytes text × Appends before after text in
    elim c.write_answer.ensures.done [
      | inl w ↦ if_some_weaker (g.I.Source.left c.args.input.now) Q R (λ bytes backtrace. (a.text, backtrace, subst (λ (t : List ℕ). Appends before after t) same w.1)) (c.decide-answer.ensures.backtrace (sym w.0 ∙ is))
      | inr w ↦ absurd cc
    ]

pub returns-clause-traced : goal.returns-clause-traced
returns-clause-traced g c = λ o s places t asks is.
    let words = c.args.words.now in
    let P : Verdict → Type 0 = λ due. Tells due c.write_answer.result (g.O.Sink.holds c.args.output.now) (g.O.Sink.holds c.write_answer.new.output) in
    let R : List ℕ → Type 0 = λ bytes. (text : List ℕ) → IsBacktrace words bytes text → P (due_of words bytes text) in
    let text = text_of o s places t in
    subst P (asked_due false o words (g.I.Source.left c.args.input.now) s places text asks)
    (of_some (g.I.Source.left c.args.input.now) asks.bytes R asks.source_is (returns-clause-told g c) text (asked_backtrace o words (g.I.Source.left c.args.input.now) s places t asks is))

pub returns-clause-plain : goal.returns-clause-plain
returns-clause-plain g c = λ o s places t asks is none.
    returns-clause-traced g c o s places t asks (plain_traced s o places t none is)

pub returns-clause-popped : goal.returns-clause-popped
returns-clause-popped g c = λ o s places why asks pops comes.
    let t = popped_traced s o places why pops comes in
    let P : List ℕ → Type 0 = λ text. Tells (verdict Done text) c.write_answer.result (g.O.Sink.holds c.args.output.now) (g.O.Sink.holds c.write_answer.new.output) in
    subst P t.2 (returns-clause-traced g c o s places t.0 asks t.1)

pub returns-clause-guessed : goal.returns-clause-guessed
returns-clause-guessed g c = λ o s places t ts asks is guesses.
    let words = c.args.words.now in
    let P : Verdict → Type 0 = λ due. Tells due c.write_answer.result (g.O.Sink.holds c.args.output.now) (g.O.Sink.holds c.write_answer.new.output) in
    let R : List ℕ → Type 0 = λ bytes. (text : List ℕ) → IsBacktrace words bytes text → P (due_of words bytes text) in
    let text = guessed_text_of o s places t ts in
    subst P (asked_due true o words (g.I.Source.left c.args.input.now) s places text asks)
    (of_some (g.I.Source.left c.args.input.now) asks.bytes R asks.source_is (returns-clause-told g c) text (asked_guesses o words (g.I.Source.left c.args.input.now) s places t ts asks is guesses))

pub returns-clause-threads : goal.returns-clause-threads
returns-clause-threads g c = λ o s places text asks is.
    let words = c.args.words.now in
    let P : Verdict → Type 0 = λ due. Tells due c.write_answer.result (g.O.Sink.holds c.args.output.now) (g.O.Sink.holds c.write_answer.new.output) in
    let R : List ℕ → Type 0 = λ bytes. (text : List ℕ) → IsBacktrace words bytes text → P (due_of words bytes text) in
    subst P (sampled_due o words (g.I.Source.left c.args.input.now) s places text asks)
    (of_some (g.I.Source.left c.args.input.now) asks.bytes R asks.source_is (returns-clause-told g c) text (sampled_backtraces o words (g.I.Source.left c.args.input.now) s places text asks is))

pub returns-clause-not_json : goal.returns-clause-not_json
returns-clause-not_json g c =
    let words = c.args.words.now in
    let before : Option (List ℕ) = g.O.Sink.holds c.args.output.now in
    let after : Option (List ℕ) = g.O.Sink.holds c.write_answer.new.output in
    let R : List ℕ → Type 0 = λ bytes. (text : List ℕ) → IsBacktrace words bytes text → Tells (due_of words bytes text) c.write_answer.result before after in
    let Q : List ℕ → Type 0 = λ bytes. ComesExactly c.write_answer.result NotJson (IsFaulty words bytes faults.NotJson) in
    if_some_weaker (g.I.Source.left c.args.input.now) R Q (λ bytes told. no_json_told words bytes c.write_answer.result before after told) (returns-clause-told g c)

pub returns-clause-bad_snapshot : goal.returns-clause-bad_snapshot
returns-clause-bad_snapshot g c =
    let words = c.args.words.now in
    let before : Option (List ℕ) = g.O.Sink.holds c.args.output.now in
    let after : Option (List ℕ) = g.O.Sink.holds c.write_answer.new.output in
    let R : List ℕ → Type 0 = λ bytes. (text : List ℕ) → IsBacktrace words bytes text → Tells (due_of words bytes text) c.write_answer.result before after in
    let Q : List ℕ → Type 0 = λ bytes. ComesExactly c.write_answer.result BadSnapshot (IsBad words bytes) in
    if_some_weaker (g.I.Source.left c.args.input.now) R Q (λ bytes told. bad_told words bytes c.write_answer.result before after told) (returns-clause-told g c)

pub returns-clause-chain : goal.returns-clause-chain
returns-clause-chain g c = λ o s places functions start calls asks described.
    let t = chain_traced s (content_apart asks.bytes s asks.reads) (content_laid_out asks.bytes s asks.reads) o places functions start calls described in
    let P : List ℕ → Type 0 = λ text. Tells (verdict Done text) c.write_answer.result (g.O.Sink.holds c.args.output.now) (g.O.Sink.holds c.write_answer.new.output) in
    subst P t.2 (returns-clause-traced g c o s places t.0 asks t.1)

pub returns-clause-stop : goal.returns-clause-stop
returns-clause-stop g c = λ o s places functions start call calls asks described.
    let t = stop_traced s (content_apart asks.bytes s asks.reads) (content_laid_out asks.bytes s asks.reads) o places functions start call calls described in
    let P : List ℕ → Type 0 = λ text. Tells (verdict Done text) c.write_answer.result (g.O.Sink.holds c.args.output.now) (g.O.Sink.holds c.write_answer.new.output) in
    subst P t.2 (returns-clause-traced g c o s places t.0 asks t.1)

pub returns-clause-called : goal.returns-clause-called
returns-clause-called g c = λ o s places functions start caller calls asks described.
    let t = called_traced s (content_apart asks.bytes s asks.reads) (content_laid_out asks.bytes s asks.reads) (content_whole asks.bytes s asks.reads) o places functions start caller calls described in
    let P : List ℕ → Type 0 = λ text. Tells (verdict Done text) c.write_answer.result (g.O.Sink.holds c.args.output.now) (g.O.Sink.holds c.write_answer.new.output) in
    subst P t.2 (returns-clause-traced g c o s places t.0 asks t.1)

pub returns-clause-known : goal.returns-clause-known
returns-clause-known g c = λ o s places start callers asks begins.
    let t = stack_traced s (content_apart asks.bytes s asks.reads) (content_laid_out asks.bytes s asks.reads) o places start callers begins in
    let P : List ℕ → Type 0 = λ text. Tells (verdict Done text) c.write_answer.result (g.O.Sink.holds c.args.output.now) (g.O.Sink.holds c.write_answer.new.output) in
    subst P t.2 (returns-clause-traced g c o s places t.0 asks t.1)

pub returns-clause-known_call : goal.returns-clause-known_call
returns-clause-known_call g c = λ o s places start caller callers asks begins.
    let t = called_stack_traced s (content_apart asks.bytes s asks.reads) (content_laid_out asks.bytes s asks.reads) (content_whole asks.bytes s asks.reads) o places start caller callers begins in
    let P : List ℕ → Type 0 = λ text. Tells (verdict Done text) c.write_answer.result (g.O.Sink.holds c.args.output.now) (g.O.Sink.holds c.write_answer.new.output) in
    subst P t.2 (returns-clause-traced g c o s places t.0 asks t.1)

pub returns-clause-known_popped : goal.returns-clause-known_popped
returns-clause-known_popped g c = λ o s places start callers asks begins.
    let t = popped_stack_traced s o places (content_apart asks.bytes s asks.reads) (content_laid_out asks.bytes s asks.reads) start callers begins in
    let P : List ℕ → Type 0 = λ text. Tells (verdict Done text) c.write_answer.result (g.O.Sink.holds c.args.output.now) (g.O.Sink.holds c.write_answer.new.output) in
    subst P t.2 (returns-clause-traced g c o s places t.0 asks t.1)
