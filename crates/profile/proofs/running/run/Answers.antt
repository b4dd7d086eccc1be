use Rattle.std.proofs.Common.{ℕ, List, ◌++◌, sym, subst, ◌∙◌}
use Rattle.unwind_definitions.specs.State.{State}
use Rattle.perf_data.specs.Records.{RecordValue}
use Rattle.perf_data.specs.Samples.{SampleValue}
use Rattle.folded_stacks.specs.Counts.{StackCount, HasStack, IsFolded}
use Rattle.command_ends.specs.declared.status.Status.TheVariants.{Done}
use Rattle.command_ends.specs.Verdicts.{Verdict, verdict, IsReadyOrFailed, Tells}
use Rattle.command_ends.proofs.VerdictLemmas.{if_some_weaker}
use Rattle.sampled_profile.specs.declared.stack_end.StackEnd.{StackEnd}
use Rattle.sampled_profile.specs.KnownSamples.{BeginsKnownFront, BeginsKnownStack, BeginsPoppedStack, HasSample, front_lines, front_text, known_lines, known_text, popped_lines, popped_text}
use Rattle.sampled_profile.specs.Profiles.{Tables, stacks_of, profile_text}
use Rattle.sampled_profile.specs.Scripts.{script_text}
use Rattle.profile.specs.declared.request.Form.TheVariants.{Folded, Script}
use Rattle.profile.specs.Due.{Asks, due_of}
use Rattle.profile.proofs.Folds.{asked_due, script_due}
use Rattle.profile.proofs.KnownSamples.{front_folded, front_script, known_folded, known_script, popped_folded, popped_script}
use Rattle.profile.proofs.running.run.Goals as goal

pub returns-clause-told : goal.returns-clause-told
returns-clause-told g c =
    let a = c.decide-answer.result in
    let words = c.args.words.now in
    let file = c.args.tables.now in
    let P : List ℕ → Type 0 = λ bytes. IsReadyOrFailed (due_of words file bytes) a.status a.text in
    let Q : List ℕ → Type 0 = λ bytes. Tells (due_of words file bytes) c.write_answer.result (g.O.Sink.holds c.args.output.now) (g.O.Sink.holds c.write_answer.new.output) in
    if_some_weaker (g.I.Source.left c.args.input.now) P Q
    (λ bytes ready.
    c.write_answer.ensures.told (due_of words file bytes)
    (subst (λ (text : List ℕ). IsReadyOrFailed (due_of words file bytes) a.status text) (sym c.bytes.ensures) ready)
    (λ quiet. c.bytes.ensures ∙ c.decide-answer.ensures.leaves.0 quiet) c.decide-answer.ensures.kind)
    c.decide-answer.ensures.answer

pub returns-clause-folded : goal.returns-clause-folded
returns-clause-folded g c =
    let words = c.args.words.now in
    let file = c.args.tables.now in
    let P : Verdict → Type 0 = λ due. Tells due c.write_answer.result (g.O.Sink.holds c.args.output.now) (g.O.Sink.holds c.write_answer.new.output) in
    let Q : List ℕ → Type 0 = λ bytes. P (due_of words file bytes) in
    let R : List ℕ → Type 0 = λ bytes. (t : Tables) (records : List RecordValue) (lines : List StackCount) → Asks Folded words file bytes t records → IsFolded (stacks_of t records) lines → P (verdict Done (profile_text lines)) in
    if_some_weaker (g.I.Source.left c.args.input.now) Q R (λ bytes told t records lines asks is. subst P (asked_due words file bytes t records lines asks is) told) (returns-clause-told g c)

pub returns-clause-script : goal.returns-clause-script
returns-clause-script g c =
    let words = c.args.words.now in
    let file = c.args.tables.now in
    let P : Verdict → Type 0 = λ due. Tells due c.write_answer.result (g.O.Sink.holds c.args.output.now) (g.O.Sink.holds c.write_answer.new.output) in
    let Q : List ℕ → Type 0 = λ bytes. P (due_of words file bytes) in
    let R : List ℕ → Type 0 = λ bytes. (t : Tables) (records : List RecordValue) → Asks Script words file bytes t records → P (verdict Done (script_text t records)) in
    if_some_weaker (g.I.Source.left c.args.input.now) Q R (λ bytes told t records asks. subst P (script_due words file bytes t records asks) told) (returns-clause-told g c)

pub returns-clause-folded_known : goal.returns-clause-folded_known
returns-clause-folded_known g c =
    let words = c.args.words.now in
    let file = c.args.tables.now in
    let P : Verdict → Type 0 = λ due. Tells due c.write_answer.result (g.O.Sink.holds c.args.output.now) (g.O.Sink.holds c.write_answer.new.output) in
    let Q : List ℕ → Type 0 = λ bytes. P (due_of words file bytes) in
    let R : List ℕ → Type 0 = λ bytes. (t : Tables) (records earlier : List RecordValue) (sample : SampleValue) (s : State) (callers : List State) → Asks Folded words file bytes t records → HasSample records sample earlier
    → (is : BeginsKnownStack t.space t.limit sample s callers) → (lines : List StackCount) × IsFolded (stacks_of t records) lines × HasStack lines (known_text t earlier sample s callers is) × P (verdict Done (profile_text lines)) in
    if_some_weaker (g.I.Source.left c.args.input.now) Q R
    (λ bytes told t records earlier sample s callers asks has is.
    let k = known_folded words file bytes t records earlier sample has s callers is asks in
    (k.0, k.1, k.2, subst P k.3 told)) (returns-clause-told g c)

pub returns-clause-script_known : goal.returns-clause-script_known
returns-clause-script_known g c =
    let words = c.args.words.now in
    let file = c.args.tables.now in
    let P : Verdict → Type 0 = λ due. Tells due c.write_answer.result (g.O.Sink.holds c.args.output.now) (g.O.Sink.holds c.write_answer.new.output) in
    let Q : List ℕ → Type 0 = λ bytes. P (due_of words file bytes) in
    let R : List ℕ → Type 0 = λ bytes. (t : Tables) (records earlier : List RecordValue) (sample : SampleValue) (s : State) (callers : List State) → Asks Script words file bytes t records → HasSample records sample earlier
    → (is : BeginsKnownStack t.space t.limit sample s callers) → (after : List ℕ) × P (verdict Done (script_text t earlier ++ known_lines t earlier sample s callers is ++ after)) in
    if_some_weaker (g.I.Source.left c.args.input.now) Q R
    (λ bytes told t records earlier sample s callers asks has is.
    let k = known_script words file bytes t records earlier sample has s callers is asks in
    (k.0, subst P k.1 told)) (returns-clause-told g c)

pub returns-clause-folded_popped : goal.returns-clause-folded_popped
returns-clause-folded_popped g c =
    let words = c.args.words.now in
    let file = c.args.tables.now in
    let P : Verdict → Type 0 = λ due. Tells due c.write_answer.result (g.O.Sink.holds c.args.output.now) (g.O.Sink.holds c.write_answer.new.output) in
    let Q : List ℕ → Type 0 = λ bytes. P (due_of words file bytes) in
    let R : List ℕ → Type 0 = λ bytes. (t : Tables) (records earlier : List RecordValue) (sample : SampleValue) (s : State) (callers : List State) → Asks Folded words file bytes t records → HasSample records sample earlier
    → (is : BeginsPoppedStack t.space t.limit sample s callers) → (lines : List StackCount) × IsFolded (stacks_of t records) lines × HasStack lines (popped_text t earlier sample s callers is) × P (verdict Done (profile_text lines)) in
    if_some_weaker (g.I.Source.left c.args.input.now) Q R
    (λ bytes told t records earlier sample s callers asks has is.
    let k = popped_folded words file bytes t records earlier sample has s callers is asks in
    (k.0, k.1, k.2, subst P k.3 told)) (returns-clause-told g c)

pub returns-clause-script_popped : goal.returns-clause-script_popped
returns-clause-script_popped g c =
    let words = c.args.words.now in
    let file = c.args.tables.now in
    let P : Verdict → Type 0 = λ due. Tells due c.write_answer.result (g.O.Sink.holds c.args.output.now) (g.O.Sink.holds c.write_answer.new.output) in
    let Q : List ℕ → Type 0 = λ bytes. P (due_of words file bytes) in
    let R : List ℕ → Type 0 = λ bytes. (t : Tables) (records earlier : List RecordValue) (sample : SampleValue) (s : State) (callers : List State) → Asks Script words file bytes t records → HasSample records sample earlier
    → (is : BeginsPoppedStack t.space t.limit sample s callers) → (after : List ℕ) × P (verdict Done (script_text t earlier ++ popped_lines t earlier sample s callers is ++ after)) in
    if_some_weaker (g.I.Source.left c.args.input.now) Q R
    (λ bytes told t records earlier sample s callers asks has is.
    let k = popped_script words file bytes t records earlier sample has s callers is asks in
    (k.0, subst P k.1 told)) (returns-clause-told g c)

pub returns-clause-folded_front : goal.returns-clause-folded_front
returns-clause-folded_front g c =
    let words = c.args.words.now in
    let file = c.args.tables.now in
    let P : Verdict → Type 0 = λ due. Tells due c.write_answer.result (g.O.Sink.holds c.args.output.now) (g.O.Sink.holds c.write_answer.new.output) in
    let Q : List ℕ → Type 0 = λ bytes. P (due_of words file bytes) in
    let R : List ℕ → Type 0 = λ bytes. (t : Tables) (records earlier : List RecordValue) (sample : SampleValue) (s : State) (callers : List State) → Asks Folded words file bytes t records → HasSample records sample earlier
    → (is : BeginsKnownFront t.space t.limit sample s callers) → (more : List ℕ) × (end : StackEnd) × (lines : List StackCount) × IsFolded (stacks_of t records) lines × HasStack lines (front_text t earlier sample s callers is more end) × P (verdict Done (profile_text lines)) in
    if_some_weaker (g.I.Source.left c.args.input.now) Q R
    (λ bytes told t records earlier sample s callers asks has is.
    let k = front_folded words file bytes t records earlier sample has s callers is asks in
    (k.0, k.1, k.2, k.3, k.4, subst P k.5 told)) (returns-clause-told g c)

pub returns-clause-script_front : goal.returns-clause-script_front
returns-clause-script_front g c =
    let words = c.args.words.now in
    let file = c.args.tables.now in
    let P : Verdict → Type 0 = λ due. Tells due c.write_answer.result (g.O.Sink.holds c.args.output.now) (g.O.Sink.holds c.write_answer.new.output) in
    let Q : List ℕ → Type 0 = λ bytes. P (due_of words file bytes) in
    let R : List ℕ → Type 0 = λ bytes. (t : Tables) (records earlier : List RecordValue) (sample : SampleValue) (s : State) (callers : List State) → Asks Script words file bytes t records → HasSample records sample earlier
    → (is : BeginsKnownFront t.space t.limit sample s callers) → (more : List ℕ) × (end : StackEnd) × (after : List ℕ) × P (verdict Done (script_text t earlier ++ front_lines t earlier sample s callers is more end ++ after)) in
    if_some_weaker (g.I.Source.left c.args.input.now) Q R
    (λ bytes told t records earlier sample s callers asks has is.
    let k = front_script words file bytes t records earlier sample has s callers is asks in
    (k.0, k.1, k.2, subst P k.3 told)) (returns-clause-told g c)
