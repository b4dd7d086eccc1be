-- The samples of a file one after another: their frames one by one, what is due, and that it doesn't depend on which modules are
-- prepared.
use Rattle.std.proofs.Common.{◌≡◌, ◌+◌, ℕ, Bool, true, List, Option, [], ◌∷◌, ◌++◌, drop, slice_get, Some, Result, Ok, Err, refl, sym, ap, subst, ◌∙◌, append_assoc}
use Rattle.std.specs.Prelude.{IsErrAnd}
use Rattle.memory_image.specs.Results.{result_map}
use Rattle.unwind_arch.specs.declared.x86_64.Context.{Context}
use Rattle.perf_data.specs.declared.errors.PerfError.{PerfError}
use Rattle.perf_data.specs.Records.{RecordValue, Sampled, Mapped, Named, Forked, Exited, OtherKind}
use Rattle.stack_steps.specs.Functions.{described_function}
use Rattle.stack_steps.specs.Modules.{Added, SpaceValue}
use Rattle.stack_snapshot.specs.Origins.{OriginValue}
use Rattle.sampled_profile.specs.Ends.{StackWalk, end_word, popped_word, returns_of}
use Rattle.sampled_profile.specs.declared.script.Script.{Script}
use Rattle.sampled_profile.specs.Kept.{IsScript}
use Rattle.sampled_profile.specs.Names.{name_of}
use Rattle.sampled_profile.specs.Profiles.{Tables, tables, read_after, read_all}
use Rattle.sampled_profile.specs.Scripts.{frame_lines, head_line, mark_line, place_line, sample_lines, script_text, script_of}
use Rattle.sampled_profile.specs.declared.profile.ProfileError.{ProfileError}
use Rattle.sampled_profile.specs.declared.profile.ProfileError.TheVariants.{NoMemory, Unread}
use Rattle.sampled_profile.specs.Reading.{ReadsNext}
use Rattle.sampled_profile.specs.Told.{Gives}
use Rattle.sampled_profile.proofs.ProfileLemmas.{read_failed}
use Rattle.sampled_profile.proofs.WalkLemmas.{addresses_same, other, walk_same}
use Rattle.sampled_profile.proofs.TextLemmas.{returns_from}
use Rattle.sampled_profile.specs.Frames.{addresses_of, place_in}
use Rattle.sampled_profile.specs.Walks.{walk_of}
use Rattle.perf_data.specs.Samples.{SampleValue}

-- ---- frames

-- one more on the way outwards
pub one_more_line : (space : SpaceValue) (origins : List OriginValue) (states : List Context) (i : ℕ) (c : Context) (interrupted signal : Bool) (old new all : List ℕ) → slice_get states i ≡ Some c
    → old ++ frame_lines space origins (addresses_of space interrupted (returns_of (drop i states))) ≡ all
    → ((outer : List ℕ) → new ++ frame_lines space origins (addresses_of space signal outer) ≡ old ++ frame_lines space origins (addresses_of space interrupted (c.ra ∷ outer)))
    → new ++ frame_lines space origins (addresses_of space signal (returns_of (drop (i + 1) states))) ≡ all
one_more_line space origins states i c interrupted signal old new all at before put =
    put (returns_of (drop (i + 1) states)) ∙ (ap (λ rs. old ++ frame_lines space origins (addresses_of space interrupted rs)) (sym (returns_from states i c at)) ∙ before)

-- ---- words in a frame's place

-- three texts one after another, and what ends the line
pub put_three : (old one two three first second third last : List ℕ) → one ≡ old ++ first → two ≡ one ++ second → three ≡ two ++ third → three ++ last ≡ old ++ ((first ++ (second ++ third)) ++ last)
put_three old one two three first second third last e f g =
    let texts : three ≡ old ++ (first ++ (second ++ third)) =
    g ∙ (ap (λ s. s ++ third) (f ∙ ap (λ s. s ++ second) e) ∙ (append_assoc (old ++ first) second third ∙ append_assoc old first (second ++ third))) in
    ap (λ s. s ++ last) texts ∙ append_assoc old (first ++ (second ++ third)) last

-- ---- one record more

-- over the space that a cache is of
pub script_over : (origins : List OriginValue) (limit : ℕ) (old new : Script) (earlier : List RecordValue) (r : RecordValue) (cached space : SpaceValue) → cached ≡ space
    → ((before : List RecordValue) → IsScript (tables cached origins limit) old before → IsScript (tables cached origins limit) new (r ∷ before))
    → IsScript (tables space origins limit) old earlier → IsScript (tables space origins limit) new (r ∷ earlier)
script_over origins limit old new earlier r cached space same noted =
    subst (λ (s : SpaceValue). IsScript (tables s origins limit) old earlier → IsScript (tables s origins limit) new (r ∷ earlier)) same (noted earlier)

-- ---- what is due

pub script_done : (t : Tables) (records : List (Result RecordValue PerfError)) (read : List RecordValue) → read_all records ≡ Ok read → script_of t records ≡ Ok (script_text t read)
unfolding script_of
script_done t records read is = rw is refl

pub script_failed : (t : Tables) (records : List (Result RecordValue PerfError)) (e : PerfError) → read_all records ≡ Err e → script_of t records ≡ Err e
unfolding script_of
script_failed t records e is = rw is refl

abbrev made_failed : ProfileError → Result (List ℕ) ProfileError
made_failed e = Err e

-- samples that aren't read are answered so
pub failed_script : (result : Result (List ℕ) ProfileError) (t : Tables) (all left rest : List (Result RecordValue PerfError)) (earlier : List RecordValue) (e : ProfileError) → IsErrAnd result (λ f. f ≡ e) → ReadsNext left (Err e) rest
    → read_after earlier left ≡ read_all all → Gives result (script_of t all)
failed_script (Ok text) t all left rest earlier e is reads so_far = absurd is
failed_script (Err f) t all left rest earlier e is reads so_far = subst (λ (g : ProfileError). Gives (made_failed g) (script_of t all)) (sym is) (go e reads)
  where
    go : (e : ProfileError) → ReadsNext left (Err e) rest → Gives (made_failed e) (script_of t all)
    go NoMemory reads = absurd reads
    go (Unread x) reads = script_failed t all x (read_failed all left reads.0 earlier x reads.1 so_far)

-- ---- prepared modules

-- a function begins where it did
placed_same : (s : SpaceValue) (added : List Added) (origins : List OriginValue) (addresses : List ℕ) → frame_lines (other s added) origins addresses ≡ frame_lines s origins addresses
unfolding described_function
placed_same s added origins [] = refl
placed_same s added origins (a ∷ addresses) = ap (λ (lines : List ℕ). place_line origins (place_in s a) a ++ lines) (placed_same s added origins addresses)

lines_same : (s : SpaceValue) (added : List Added) (origins : List OriginValue) (name : Option (List ℕ)) (k : SampleValue) (w : StackWalk) → sample_lines (other s added) origins name k w ≡ sample_lines s origins name k w
unfolding sample_lines
lines_same s added origins name k w =
    let at : frame_lines (other s added) origins (addresses_of (other s added) true w.returns) ≡ frame_lines s origins (addresses_of s true w.returns) =
    placed_same s added origins (addresses_of (other s added) true w.returns) ∙ ap (frame_lines s origins) (addresses_same s added true w.returns) in
    ap (λ (lines : List ℕ). head_line name k ++ (mark_line (popped_word w.popped) ++ (lines ++ mark_line (end_word w.end))) ++ 10 ∷ []) at

module _ (s : SpaceValue) (added : List Added) (origins : List OriginValue) (limit : ℕ) where
  abbrev prepared : Tables
  prepared = tables (other s added) origins limit

  abbrev plain : Tables
  plain = tables s origins limit

  text_same : (earlier : List RecordValue) → script_text prepared earlier ≡ script_text plain earlier
  text_same [] = refl
  text_same (Sampled k ∷ earlier) =
      let here : sample_lines (other s added) origins (name_of earlier k.thread) k (walk_of (other s added) limit k) ≡ sample_lines s origins (name_of earlier k.thread) k (walk_of s limit k) =
      lines_same s added origins (name_of earlier k.thread) k (walk_of (other s added) limit k) ∙ ap (sample_lines s origins (name_of earlier k.thread) k) (walk_same s added limit k) in
      let rest = text_same earlier in
      λ i. rest i ++ here i
  text_same (Mapped m ∷ earlier) = text_same earlier
  text_same (Named n ∷ earlier) = text_same earlier
  text_same (Forked k ∷ earlier) = text_same earlier
  text_same (Exited k ∷ earlier) = text_same earlier
  text_same (OtherKind k ∷ earlier) = text_same earlier

  pub script_same : (records : List (Result RecordValue PerfError)) → script_of prepared records ≡ script_of plain records
  unfolding script_of
  script_same records = go (read_all records)
    where
      go : (r : Result (List RecordValue) PerfError) → result_map (script_text prepared) r ≡ result_map (script_text plain) r
      go (Ok read) = ap (λ (text : List ℕ). Ok text) (text_same read)
      go (Err e) = refl
