-- What is due of a perf.data file one of whose samples' stacks is known.
use Rattle.std.proofs.Common.{◌≡◌, ℕ, List, ◌++◌, sym, ap, subst, ◌∙◌}
use Rattle.memory_image.specs.Image.{IsLaidOut}
use Rattle.unwind_definitions.specs.State.{State}
use Rattle.perf_data.specs.Records.{RecordValue}
use Rattle.perf_data.specs.Samples.{SampleValue}
use Rattle.stack_steps.specs.Modules.{AreApart}
use Rattle.folded_stacks.specs.Counts.{StackCount, HasStack, IsFolded, counts_of}
use Rattle.folded_stacks.proofs.FoldedLines.{counts_folded}
use Rattle.stack_snapshot.proofs.Taken.{content_apart, content_laid_out}
use Rattle.command_ends.specs.declared.status.Status.TheVariants.{Done}
use Rattle.command_ends.specs.Verdicts.{verdict}
use Rattle.sampled_profile.specs.declared.stack_end.StackEnd.{StackEnd}
use Rattle.sampled_profile.specs.Ends.{StackWalk}
use Rattle.sampled_profile.specs.KnownSamples.{BeginsKnownFront, BeginsKnownStack, BeginsPoppedStack, HasSample, front_lines, front_text, front_walk, known_lines, known_text, known_walk, lines_by, popped_lines, popped_text, popped_walk, text_by}
use Rattle.sampled_profile.specs.Profiles.{Tables, profile_text, stacks_of}
use Rattle.sampled_profile.specs.Scripts.{script_text}
use Rattle.sampled_profile.specs.Walks.{walk_of}
use Rattle.sampled_profile.proofs.FrontLemmas.{walk_front}
use Rattle.sampled_profile.proofs.KnownLemmas.{has_line, has_place, walk_known, walk_popped}
use Rattle.profile.specs.declared.request.Form.{Form}
use Rattle.profile.specs.declared.request.Form.TheVariants.{Folded, Script}
use Rattle.profile.specs.Due.{Asks, due_of}
use Rattle.profile.proofs.Folds.{asked_due, script_due}

module _ (words : List (List ℕ)) (file bytes : List ℕ) (t : Tables) (records : List RecordValue) where
  -- what holds of each snapshot's modules and memory
  apart : (form : Form) → Asks form words file bytes t records → AreApart 0 t.space.modules
  apart form asks = subst (λ (u : Tables). AreApart 0 u.space.modules) (sym asks.walked) (content_apart file asks.content asks.reads)

  laid_out : (form : Form) → Asks form words file bytes t records → IsLaidOut 0 t.space.image
  laid_out form asks = subst (λ (u : Tables). IsLaidOut 0 u.space.image) (sym asks.walked) (content_laid_out file asks.content asks.reads)

  module _ (earlier : List RecordValue) (sample : SampleValue) (has : HasSample records sample earlier) where
    -- by the walk of the sample
    folded_by : (w : StackWalk) → walk_of t.space t.limit sample ≡ w → Asks Folded words file bytes t records → (lines : List StackCount) × IsFolded (stacks_of t records) lines × HasStack lines (text_by t earlier sample w) × (due_of words file bytes ≡ verdict Done (profile_text lines))
    folded_by w walked asks =
        let lines = counts_of (stacks_of t records) in
        let folded = counts_folded (stacks_of t records) in
        (lines, folded, has_line t earlier sample w walked records lines has folded, asked_due words file bytes t records lines asks folded)

    script_by : (w : StackWalk) → walk_of t.space t.limit sample ≡ w → Asks Script words file bytes t records → (after : List ℕ) × (due_of words file bytes ≡ verdict Done (script_text t earlier ++ lines_by t earlier sample w ++ after))
    script_by w walked asks =
        let place = has_place t earlier sample w walked records has in
        (place.0, script_due words file bytes t records asks ∙ ap (λ (text : List ℕ). verdict Done text) place.1)

    module _ (s : State) (callers : List State) where
      module _ (is : BeginsKnownStack t.space t.limit sample s callers) where
        pub known_folded : Asks Folded words file bytes t records → (lines : List StackCount) × IsFolded (stacks_of t records) lines × HasStack lines (known_text t earlier sample s callers is) × (due_of words file bytes ≡ verdict Done (profile_text lines))
        known_folded asks = folded_by (known_walk t.space t.limit sample s callers is) (walk_known t.space t.limit (apart Folded asks) (laid_out Folded asks) sample s callers is) asks

        pub known_script : Asks Script words file bytes t records → (after : List ℕ) × (due_of words file bytes ≡ verdict Done (script_text t earlier ++ known_lines t earlier sample s callers is ++ after))
        known_script asks = script_by (known_walk t.space t.limit sample s callers is) (walk_known t.space t.limit (apart Script asks) (laid_out Script asks) sample s callers is) asks

      module _ (is : BeginsPoppedStack t.space t.limit sample s callers) where
        pub popped_folded : Asks Folded words file bytes t records → (lines : List StackCount) × IsFolded (stacks_of t records) lines × HasStack lines (popped_text t earlier sample s callers is) × (due_of words file bytes ≡ verdict Done (profile_text lines))
        popped_folded asks = folded_by (popped_walk t.space t.limit sample s callers is) (walk_popped t.space t.limit (apart Folded asks) (laid_out Folded asks) sample s callers is) asks

        pub popped_script : Asks Script words file bytes t records → (after : List ℕ) × (due_of words file bytes ≡ verdict Done (script_text t earlier ++ popped_lines t earlier sample s callers is ++ after))
        popped_script asks = script_by (popped_walk t.space t.limit sample s callers is) (walk_popped t.space t.limit (apart Script asks) (laid_out Script asks) sample s callers is) asks

      module _ (is : BeginsKnownFront t.space t.limit sample s callers) where
        pub front_folded : Asks Folded words file bytes t records →
            (more : List ℕ) × (end : StackEnd) × (lines : List StackCount) × IsFolded (stacks_of t records) lines × HasStack lines (front_text t earlier sample s callers is more end) × (due_of words file bytes ≡ verdict Done (profile_text lines))
        front_folded asks =
            let front = walk_front t.space t.limit (apart Folded asks) (laid_out Folded asks) sample s callers is in
            let told = folded_by (front_walk t.space t.limit sample s callers is front.0 front.1) front.2 asks in
            (front.0, front.1, told.0, told.1, told.2, told.3)

        pub front_script : Asks Script words file bytes t records →
            (more : List ℕ) × (end : StackEnd) × (after : List ℕ) × (due_of words file bytes ≡ verdict Done (script_text t earlier ++ front_lines t earlier sample s callers is more end ++ after))
        front_script asks =
            let front = walk_front t.space t.limit (apart Script asks) (laid_out Script asks) sample s callers is in
            let told = script_by (front_walk t.space t.limit sample s callers is front.0 front.1) front.2 asks in
            (front.0, front.1, told.0, told.1)
