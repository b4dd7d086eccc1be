-- What is due of a perf.data file of which each record is read, in either form.
use Rattle.std.proofs.Common.{◌≡◌, ℕ, List, Result, sym, ap, ◌∙◌}
use Rattle.memory_image.specs.Results.{result_map}
use Rattle.perf_data.specs.Records.{RecordValue}
use Rattle.perf_data.specs.declared.errors.PerfError.{PerfError}
use Rattle.stack_steps.specs.Modules.{Added, SpaceValue}
use Rattle.stack_snapshot.specs.Origins.{OriginValue}
use Rattle.folded_stacks.specs.Counts.{StackCount, counts_of, IsFolded}
use Rattle.folded_stacks.proofs.Counting.{folded_once}
use Rattle.folded_stacks.proofs.FoldedLines.{counts_folded}
use Rattle.command_ends.specs.declared.status.Status.TheVariants.{Done}
use Rattle.command_ends.specs.Verdicts.{verdict}
use Rattle.sampled_profile.specs.Profiles.{Tables, tables, stacks_of, profile_text}
use Rattle.sampled_profile.proofs.ProfileLemmas.{due_done, profile_same}
use Rattle.sampled_profile.specs.Scripts.{script_text}
use Rattle.sampled_profile.proofs.ScriptLemmas.{script_done, script_same}
use Rattle.profile.specs.declared.request.Form.{Form}
use Rattle.profile.specs.declared.request.Form.TheVariants.{Folded, Script}
use Rattle.profile.specs.Due.{Asks, due_of, lines_due, told_by}

pub asked_due : (words : List (List ℕ)) (file bytes : List ℕ) (t : Tables) (records : List RecordValue) (lines : List StackCount) → Asks Folded words file bytes t records → IsFolded (stacks_of t records) lines
    → due_of words file bytes ≡ verdict Done (profile_text lines)
asked_due words file bytes t records lines asks is =
    let due = due_done t asks.profile.records records asks.whole in
    let same = folded_once (stacks_of t records) (counts_of (stacks_of t records)) lines (counts_folded (stacks_of t records)) is in
    rw (asks.named, asks.reads, asks.holds)
    (ap (λ (u : Tables). lines_due (told_by u Folded asks.profile.records)) (sym asks.walked)
    ∙ (ap (λ r. lines_due (result_map profile_text r)) due ∙ ap (λ ls. verdict Done (profile_text ls)) same))

pub script_due : (words : List (List ℕ)) (file bytes : List ℕ) (t : Tables) (records : List RecordValue) → Asks Script words file bytes t records → due_of words file bytes ≡ verdict Done (script_text t records)
script_due words file bytes t records asks =
    rw (asks.named, asks.reads, asks.holds)
    (ap (λ (u : Tables). lines_due (told_by u Script asks.profile.records)) (sym asks.walked) ∙ ap lines_due (script_done t asks.profile.records records asks.whole))

-- over prepared modules
pub told_same : (s : SpaceValue) (added : List Added) (origins : List OriginValue) (limit : ℕ) (form : Form) (records : List (Result RecordValue PerfError)) →
    told_by (tables (record s { added = added }) origins limit) form records ≡ told_by (tables s origins limit) form records
told_same s added origins limit Folded records = ap (result_map profile_text) (profile_same s added origins limit records)
told_same s added origins limit Script records = script_same s added origins limit records
