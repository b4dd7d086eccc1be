-- The stacks of the records so far, and what is due of those that are left.
use Rattle.std.proofs.Common.{◌≡◌, ◌+◌, ◌≤◌, ◌<◌, ◌^◌, ℕ, List, [], ◌∷◌, length, Option, Some, None, Result, Ok, Err, refl, sym, ap, subst, ◌∙◌, arith}
use Rattle.std.specs.Prelude.{IsErrAnd}
use Rattle.memory_image.specs.Results.{result_map}
use Rattle.perf_data.specs.declared.errors.PerfError.{PerfError}
use Rattle.perf_data.specs.Records.{RecordValue, Sampled, Mapped, Named, Forked, Exited, OtherKind}
use Rattle.stack_steps.specs.Modules.{Added, SpaceValue}
use Rattle.folded_stacks.specs.Counts.{StackCount, counts_of, IsFolded}
use Rattle.folded_stacks.proofs.FoldedLines.{counts_folded}
use Rattle.folded_stacks.proofs.Counting.{counts_total, total}
use Rattle.stack_snapshot.specs.Origins.{OriginValue}
use Rattle.perf_data.specs.Samples.{SampleValue}
use Rattle.perf_data.specs.Views.{record_value}
use Rattle.perf_data.specs.declared.record.Record.{Record}
use Rattle.sampled_profile.specs.declared.profile.ProfileError.{ProfileError}
use Rattle.sampled_profile.specs.declared.profile.ProfileError.TheVariants.{NoMemory, Unread}
use Rattle.sampled_profile.specs.Reading.{ReadsNext}
use Rattle.sampled_profile.specs.Told.{Gives}
use Rattle.sampled_profile.specs.declared.profile.Tally.{Tally}
use Rattle.sampled_profile.specs.declared.stack_table.StackTable.{StackTable}
use Rattle.sampled_profile.specs.Kept.{Counts, IsCounted, IsTally, Knows}
use Rattle.sampled_profile.specs.Frames.{frames_of}
use Rattle.sampled_profile.specs.Names.{process_name_of}
use Rattle.sampled_profile.specs.Profiles.{Tables, tables, read_after, read_all, stacks_of, profile_of}
use Rattle.sampled_profile.specs.Tables.{CountsOneMore, ShowsStacks, shown_name, shown_text, shown_frames, total_of}
use Rattle.sampled_profile.specs.Texts.{stack_text}
use Rattle.sampled_profile.specs.Walks.{walk_of}
use Rattle.sampled_profile.proofs.TableLemmas.{shows_more}
use Rattle.sampled_profile.proofs.WalkLemmas.{frames_same, other, walk_same}

abbrev made_ok : List StackCount → Result (List StackCount) PerfError
made_ok x = Ok x

abbrev made_failed : ProfileError → Result (List StackCount) ProfileError
made_failed e = Err e

ok_same : (x y : List StackCount) → made_ok x ≡ made_ok y → x ≡ y
ok_same x y e = cc

-- ---- how many there are

pub stacks_few : (t : Tables) (earlier : List RecordValue) → length (stacks_of t earlier) ≤ length earlier
stacks_few t [] = omega arith
stacks_few t (Sampled s ∷ earlier) = let rest = stacks_few t earlier in omega arith
stacks_few t (Mapped m ∷ earlier) = let rest = stacks_few t earlier in omega arith
stacks_few t (Named n ∷ earlier) = let rest = stacks_few t earlier in omega arith
stacks_few t (Forked k ∷ earlier) = let rest = stacks_few t earlier in omega arith
stacks_few t (Exited k ∷ earlier) = let rest = stacks_few t earlier in omega arith
stacks_few t (OtherKind k ∷ earlier) = let rest = stacks_few t earlier in omega arith

-- so there is room for one count more
pub counts_few : (t : Tables) (tally : Tally) (earlier : List RecordValue) (left all : ℕ) → IsTally t tally earlier → length earlier + left ≤ all → 1 ≤ left → all < 2 ^ 64 → total_of tally.stacks.counts.entries + 1 < 2 ^ 64
counts_few t tally earlier left all is long some few =
    let sum = is.total in
    let fits = stacks_few t earlier in
    omega arith

-- ---- one record more

-- that of a sample
pub sample_noted : (t : Tables) (earlier : List RecordValue) (s : SampleValue) (old new : Tally) → IsTally t old earlier → shown_name new.last ≡ process_name_of earlier s.thread → shown_frames new.last ≡ frames_of t.space (walk_of t.space t.limit s)
    → CountsOneMore new.last old.stacks.counts.entries new.stacks.counts.entries → new.names ≡ old.names → new.room.limit ≡ old.room.limit → IsTally t new (Sampled s ∷ earlier)
sample_noted t earlier s old new is name frames counted names places =
    let text : shown_text t.origins new.last ≡ stack_text t.origins (process_name_of earlier s.thread) (frames_of t.space (walk_of t.space t.limit s)) = λ i. stack_text t.origins (name i) (frames i) in
    record {
      names = subst (λ n. Knows n earlier) (sym names) is.names;
      shows = shows_more t.origins new.last old.stacks.counts.entries new.stacks.counts.entries (stacks_of t earlier) (stack_text t.origins (process_name_of earlier s.thread) (frames_of t.space (walk_of t.space t.limit s))) counted text is.shows;
      total = let one = counted.total in let before = is.total in omega arith;
      places = places ∙ is.places;
    }

-- over the space that a cache is of
pub noted_over : (limit : ℕ) (old new : Tally) (earlier : List RecordValue) (r : RecordValue) (cached space : SpaceValue) → cached ≡ space
    → ((origins : List OriginValue) (before : List RecordValue) → IsTally (tables cached origins limit) old before → IsTally (tables cached origins limit) new (r ∷ before))
    → (origins : List OriginValue) → IsTally (tables space origins limit) old earlier → IsTally (tables space origins limit) new (r ∷ earlier)
noted_over limit old new earlier r cached space same noted origins =
    subst (λ (s : SpaceValue). IsTally (tables s origins limit) old earlier → IsTally (tables s origins limit) new (r ∷ earlier)) same (noted origins earlier)

-- ---- all of them

pub table_counted : (s : SpaceValue) (limit : ℕ) (tally : Tally) (read : List RecordValue) (all : ℕ) → ((origins : List OriginValue) → IsTally (tables s origins limit) tally read) → length read ≤ all → all < 2 ^ 64
    → IsCounted (λ origins. tables s origins limit) tally.stacks read
table_counted s limit tally read all is long few = record {
  shows = λ origins. (is origins).shows;
  few = let sum = (is []).total in let fits = stacks_few (tables s [] limit) read in omega arith;
}

-- ---- what is due

pub due_done : (t : Tables) (records : List (Result RecordValue PerfError)) (read : List RecordValue) → read_all records ≡ Ok read → profile_of t records ≡ Ok (counts_of (stacks_of t read))
unfolding profile_of
due_done t records read is = rw is refl

pub due_failed : (t : Tables) (records : List (Result RecordValue PerfError)) (e : PerfError) → read_all records ≡ Err e → profile_of t records ≡ Err e
unfolding profile_of
due_failed t records e is = rw is refl

-- of what was counted
pub due_counted : (tables_by : List OriginValue → Tables) (origins : List OriginValue) (records : List (Result RecordValue PerfError)) (table : StackTable) (lines : List StackCount) → Counts (Ok table) tables_by records
    → ((stacks : List (List ℕ)) → ShowsStacks origins table.counts.entries stacks → lines ≡ counts_of stacks) → profile_of (tables_by origins) records ≡ Ok lines
due_counted tables_by origins records table lines counted told =
    due_done (tables_by origins) records counted.0 counted.1 ∙ ap (λ ls. made_ok ls) (sym (told (stacks_of (tables_by origins) counted.0) (counted.2.shows origins)))

-- at a record that can't be read
pub read_failed : (all left rest : List (Result RecordValue PerfError)) (earlier : List RecordValue) (e : PerfError) → left ≡ Err e ∷ rest → read_after earlier left ≡ read_all all → read_all all ≡ Err e
read_failed all left rest earlier e step reads = sym reads ∙ rw step refl

-- after one that is read
pub read_on : (all left rest : List (Result RecordValue PerfError)) (earlier : List RecordValue) (r : RecordValue) → left ≡ Ok r ∷ rest → read_after earlier left ≡ read_all all → read_after (r ∷ earlier) rest ≡ read_all all
read_on all left rest earlier r step reads = ap (read_after earlier) (sym step) ∙ reads

pub some_left : (left rest : List (Result RecordValue PerfError)) (item : Result RecordValue PerfError) → left ≡ item ∷ rest → 1 ≤ length left
some_left left rest item step = rw step (omega arith)

-- the next record, by what is read of it
pub next_step : (left rest : List (Result RecordValue PerfError)) (o : Option Record) (r : Record) → ReadsNext left (Ok o) rest → o ≡ Some r → left ≡ Ok (record_value r) ∷ rest
next_step left rest o r reads is = subst (λ q. ReadsNext left (Ok q) rest) is reads

pub next_end : (left rest : List (Result RecordValue PerfError)) (o : Option Record) → ReadsNext left (Ok o) rest → o ≡ None → left ≡ []
next_end left rest o reads is = subst (λ q. ReadsNext left (Ok q) rest) is reads

-- a profile that isn't read is answered so
pub failed_profile : (result : Result (List StackCount) ProfileError) (tables_by : List OriginValue → Tables) (origins : List OriginValue) (records : List (Result RecordValue PerfError)) (e : ProfileError) → IsErrAnd result (λ f. f ≡ e)
    → Counts (Err e) tables_by records → Gives result (profile_of (tables_by origins) records)
failed_profile (Ok lines) tables_by origins records e is counts = absurd is
failed_profile (Err f) tables_by origins records e is counts = subst (λ (g : ProfileError). Gives (made_failed g) (profile_of (tables_by origins) records)) (sym is) (go e counts)
  where
    go : (e : ProfileError) → Counts (Err e) tables_by records → Gives (made_failed e) (profile_of (tables_by origins) records)
    go NoMemory counts = tt
    go (Unread x) counts = due_failed (tables_by origins) records x counts

-- and the other way round
pub read_of : (t : Tables) (records : List (Result RecordValue PerfError)) (lines : List StackCount) → profile_of t records ≡ Ok lines → (read : List RecordValue) × (read_all records ≡ Ok read) × (lines ≡ counts_of (stacks_of t read))
unfolding profile_of
read_of t records lines is = go (read_all records) refl is
  where
    go : (r : Result (List RecordValue) PerfError) → read_all records ≡ r → result_map (λ read. counts_of (stacks_of t read)) r ≡ Ok lines → (read : List RecordValue) × (read_all records ≡ Ok read) × (lines ≡ counts_of (stacks_of t read))
    go (Ok read) all is = let same : counts_of (stacks_of t read) ≡ lines = cc in (read, all, sym same)
    go (Err e) all is = absurd cc

-- ---- prepared modules

module _ (s : SpaceValue) (added : List Added) (origins : List OriginValue) (limit : ℕ) where
  abbrev prepared : Tables
  prepared = tables (other s added) origins limit

  abbrev plain : Tables
  plain = tables s origins limit

  stacks_same : (earlier : List RecordValue) → stacks_of prepared earlier ≡ stacks_of plain earlier
  stacks_same [] = refl
  stacks_same (Sampled k ∷ earlier) =
      let here : frames_of (other s added) (walk_of (other s added) limit k) ≡ frames_of s (walk_of s limit k) =
      frames_same s added (walk_of (other s added) limit k) ∙ ap (frames_of s) (walk_same s added limit k) in
      let rest = stacks_same earlier in
      λ i. stack_text origins (process_name_of earlier k.thread) (here i) ∷ rest i
  stacks_same (Mapped m ∷ earlier) = stacks_same earlier
  stacks_same (Named n ∷ earlier) = stacks_same earlier
  stacks_same (Forked k ∷ earlier) = stacks_same earlier
  stacks_same (Exited k ∷ earlier) = stacks_same earlier
  stacks_same (OtherKind k ∷ earlier) = stacks_same earlier

  pub profile_same : (records : List (Result RecordValue PerfError)) → profile_of prepared records ≡ profile_of plain records
  unfolding profile_of
  profile_same records = go (read_all records)
    where
      go : (r : Result (List RecordValue) PerfError) → result_map (λ read. counts_of (stacks_of prepared read)) r ≡ result_map (λ read. counts_of (stacks_of plain read)) r
      go (Ok read) = ap (λ stacks. Ok (counts_of stacks)) (stacks_same read)
      go (Err e) = refl

-- ---- the lines

pub profile_folded : (t : Tables) (records left : List (Result RecordValue PerfError)) (lines : List StackCount) → left ≡ records → profile_of t left ≡ Ok lines
    → (read : List RecordValue) × (read_all records ≡ Ok read) × IsFolded (stacks_of t read) lines
profile_folded t records left lines same due =
    let is = read_of t records lines (ap (profile_of t) (sym same) ∙ due) in
    (is.0, is.1, subst (IsFolded (stacks_of t is.0)) (sym is.2) (counts_folded (stacks_of t is.0)))

pub profile_adds_up : (t : Tables) (records left : List (Result RecordValue PerfError)) (lines : List StackCount) → left ≡ records → profile_of t left ≡ Ok lines
    → (read : List RecordValue) → read_all records ≡ Ok read → total lines ≡ length (stacks_of t read)
profile_adds_up t records left lines same due read is =
    let made : made_ok (counts_of (stacks_of t read)) ≡ made_ok lines = sym (due_done t records read is) ∙ (ap (profile_of t) (sym same) ∙ due) in
    let counted : counts_of (stacks_of t read) ≡ lines = ok_same (counts_of (stacks_of t read)) lines made in
    ap total (sym counted) ∙ counts_total (stacks_of t read)
