-- The lines of a core's threads by parts of its file are those by all of it.
use Rattle.std.proofs.Common.{◌≡◌, ◌≤◌, ◌<◌, ◌-◌, inr, ℕ, zero, suc, Bool, true, false, eqb, ltb, min, List, [], ◌∷◌, length, map, take, drop, Option, Some, None, Result, Ok, Err, refl, sym, ap, subst, ◌∙◌, arith, length-take, length-drop}
use Rattle.std.specs.Prelude.{◌↔◌, IfOk, IfSome, IsSome, IsTrue, not}
use Rattle.std.specs.List.{AllByRecursion}
use Rattle.std.proofs.lemmas.Bool.{le-ltb, lt-ltb, ltb-false, ltb-true}
use Rattle.std.proofs.lemmas.Bool.Decides.{nat_tests}
use Rattle.memory_image.specs.Image.{Span}
use Rattle.unwind_arch.specs.declared.x86_64.Context.{Context}
use Rattle.format_frames.specs.declared.machine.Stepped.{Stepped}
use Rattle.core_file.specs.declared.places.SegmentPlace.{SegmentPlace}
use Rattle.core_file.specs.Fronts.{FrontValue, IsFrontOf, segment_by}
use Rattle.core_file.specs.MappedParts.{PartValue, mapped_parts}
use Rattle.stack_steps.specs.declared.error.DeliverError.{DeliverError}
use Rattle.stack_steps.specs.declared.error.DeliverError.TheVariants.{NoMemory, FrameLimit, Unmapped, PassLimit, NoResume, Table, MachO, CompactForm, PeInfo, ChainLimit}
use Rattle.stack_steps.specs.Modules.{SpaceValue}
use Rattle.stack_walks.specs.Lines.{line_of}
use Rattle.mapped_modules.specs.Loading.{LoadedValue}
use Rattle.mapped_modules.specs.Spaces.{space_of_core, tables_of}
use Rattle.mapped_names.specs.Places.{parts_of}
use Rattle.part_walks.specs.Parts.{IsMapped, IsOtherError}
use Rattle.core_parts.specs.Parts.{CanBeWalkedByParts, IsStackPart}
use Rattle.core_parts.proofs.PartWalks.{walk_by_parts, windows_of}
use Rattle.core_parts.proofs.Segments.{laid_segments}
use Rattle.core_walks.specs.Lines.{threads_text}
use Rattle.core_walks.specs.MappedWalks.{is_mapped, is_unmapped}
use Rattle.core_walks.proofs.ThreadText.{threads_mapped}
use Rattle.named_walks.specs.Marking.{AreMarkedMapped, marked_line_of, stopped_at}
use Rattle.named_walks.specs.Named.{named_threads_text}
use Rattle.named_walks.proofs.PartMarks.{core_marked}
use Rattle.named_walks.proofs.Texts as named
use Rattle.command_ends.specs.declared.status.Status.TheVariants.{Done}
use Rattle.command_ends.specs.Verdicts.{IsReadyOrFailed, Verdict, verdict}
use Rattle.core_stacks.specs.Due.{bytes_due, lines_due, modules_in, most_bytes, most_states}
use Rattle.core_stacks.specs.PartLines.{AreWalked, IsCoreBy, core_by, lines_by, lines_over}

-- ---- walks

other_error : (e : DeliverError) → IsTrue (not (is_unmapped e)) → IsOtherError e
other_error (Unmapped a) is = absurd cc
other_error NoMemory is = tt
other_error FrameLimit is = tt
other_error PassLimit is = tt
other_error (NoResume a) is = tt
other_error (Table e) is = tt
other_error (MachO e) is = tt
other_error CompactForm is = tt
other_error PeInfo is = tt
other_error ChainLimit is = tt

met_none : {A : Type 0} (r : Result A DeliverError) → IsTrue (is_mapped r) → IsMapped r
met_none (Ok x) is = tt
met_none (Err e) is = other_error e is

-- what is known of the parts that were read
pub record AreParts (bytes : List ℕ) (front : FrontValue) (loaded : List LoadedValue) (parts : List SegmentPlace) : Type 0 where
  pub long : front.end ≤ length bytes
  pub can : CanBeWalkedByParts front loaded
  pub each : AllByRecursion (IsStackPart front.places (tables_of loaded)) parts

-- the core by parts of its memory, and by all of it
abbrev pub part_space : List ℕ → List LoadedValue → List SegmentPlace → SpaceValue
part_space bytes loaded parts = space_of_core loaded (map (segment_by bytes) parts)

line_whole : (bytes : List ℕ) (front : FrontValue) (loaded : List LoadedValue) (parts : List SegmentPlace) → AreParts bytes front loaded parts → (limit : ℕ) (c : Context) → IsTrue (is_mapped (line_of (part_space bytes loaded parts) limit c true))
    → line_of (part_space bytes loaded front.places) limit c true ≡ line_of (part_space bytes loaded parts) limit c true
line_whole bytes front loaded parts are limit c mapped = walk_by_parts bytes front loaded parts are.long are.can are.each limit c true (met_none (line_of (part_space bytes loaded parts) limit c true) mapped)

marked_line_whole : (bytes : List ℕ) (front : FrontValue) (loaded : List LoadedValue) (parts : List SegmentPlace) → AreParts bytes front loaded parts → (limit : ℕ) (s : Stepped) → IsTrue (is_mapped (marked_line_of (part_space bytes loaded parts) limit s))
    → marked_line_of (part_space bytes loaded front.places) limit s ≡ marked_line_of (part_space bytes loaded parts) limit s
marked_line_whole bytes front loaded parts are limit s mapped =
    core_marked loaded (map (segment_by bytes) front.places) (map (segment_by bytes) parts) are.can.tables (laid_segments bytes front.end are.long 0 front.places are.can.laid_out) (windows_of bytes loaded front.places parts are.each) limit s
    (met_none (marked_line_of (part_space bytes loaded parts) limit s) mapped)

-- ---- lines

lines_whole : (names : Bool) (files : List ℕ → List ℕ) (bytes : List ℕ) (front : FrontValue) (loaded : List LoadedValue) (parts : List SegmentPlace) → AreParts bytes front loaded parts → AreWalked names (part_space bytes loaded parts) front.threads
    → lines_over names files (parts_of front.parts) (part_space bytes loaded parts) front.threads ≡ lines_by names files bytes front loaded
lines_whole true files bytes front loaded parts are walked =
    sym (named.threads_mapped files (parts_of front.parts) (part_space bytes loaded parts) (part_space bytes loaded front.places) most_states (λ c. marked_line_whole bytes front loaded parts are most_states (stopped_at c)) 0 front.threads walked)
lines_whole false files bytes front loaded parts are walked =
    sym (threads_mapped (part_space bytes loaded parts) (part_space bytes loaded front.places) most_states (line_whole bytes front loaded parts are most_states) 0 front.threads walked)

-- the lines over the parts that were read, where they are there
pub lines_told : {E : Type 0} (names : Bool) (files : List ℕ → List ℕ) (bytes : List ℕ) (front : FrontValue) (loaded : List LoadedValue) (parts : List SegmentPlace) (space : SpaceValue) (windows : List Span) (r : Result (Option (List ℕ)) E)
    → AreParts bytes front loaded parts → space ≡ space_of_core loaded windows → windows ≡ map (segment_by bytes) parts
    → IfOk r (λ walked. IfSome walked (λ report. report ≡ lines_over names files (parts_of front.parts) space front.threads)) → IfOk r (λ walked. IsSome walked ↔ AreWalked names space front.threads)
    → IfOk r (λ walked. IfSome walked (λ report. report ≡ lines_by names files bytes front loaded))
lines_told names files bytes front loaded parts space windows (Err e) are over read told walked = tt
lines_told names files bytes front loaded parts space windows (Ok None) are over read told walked = tt
lines_told names files bytes front loaded parts space windows (Ok (Some report)) are over read told walked =
    let is : space ≡ part_space bytes loaded parts = over ∙ ap (space_of_core loaded) read in
    let met : AreWalked names (part_space bytes loaded parts) front.threads = subst (λ (s : SpaceValue). AreWalked names s front.threads) is (walked.0 refl) in
    told ∙ ap (λ (s : SpaceValue). lines_over names files (parts_of front.parts) s front.threads) is ∙ lines_whole names files bytes front loaded parts are met

-- ---- what is due

lines_are : (names : Bool) (files : List ℕ → List ℕ) (bytes : List ℕ) (front : FrontValue) → mapped_parts bytes ≡ front.parts → lines_due names files bytes (core_by bytes front) ≡ lines_by names files bytes front (modules_in files front.parts)
lines_are true files bytes front parts = ap (λ (p : Option (List PartValue)). named_threads_text files (parts_of p) (space_of_core (modules_in files p) (map (segment_by bytes) front.places)) most_states 0 front.threads) parts
lines_are false files bytes front parts = ap (λ (p : Option (List PartValue)). threads_text (space_of_core (modules_in files p) (map (segment_by bytes) front.places)) most_states 0 front.threads) parts

due_by : (names : Bool) (files : List ℕ → List ℕ) (bytes : List ℕ) (front : FrontValue) → IsCoreBy bytes front → bytes_due names files bytes ≡ verdict Done (lines_by names files bytes front (modules_in files front.parts))
due_by names files bytes front is =
    let short : ltb most_bytes (length bytes) ≡ false = le-ltb most_bytes (length bytes) is.short in
    let lines = lines_are names files bytes front is.parts in
    rw (short, is.reads) (ap (λ (text : List ℕ). verdict Done text) lines)

-- what was written by the modules that a front names is due
pub due_told : {E : Type 0} (names : Bool) (files : List ℕ → List ℕ) (bytes : List ℕ) (front : FrontValue) (loaded : List LoadedValue) (named : Option (List PartValue)) (r : Result (Option (List ℕ)) E) → IsCoreBy bytes front
    → loaded ≡ modules_in files named → named ≡ front.parts → IfOk r (λ walked. IfSome walked (λ report. report ≡ lines_by names files bytes front loaded))
    → IfOk r (λ walked. IfSome walked (λ report. bytes_due names files bytes ≡ verdict Done report))
due_told names files bytes front loaded named (Err e) is are same told = tt
due_told names files bytes front loaded named (Ok None) is are same told = tt
due_told names files bytes front loaded named (Ok (Some report)) is are same told =
    let modules : modules_in files front.parts ≡ loaded = sym (are ∙ ap (modules_in files) same) in
    due_by names files bytes front is ∙ ap (λ (l : List LoadedValue). verdict Done (lines_by names files bytes front l)) modules ∙ ap (λ (text : List ℕ). verdict Done text) (sym told)

-- ---- what is read of a file

cut : (n : ℕ) (whole : List ℕ) → take (length (take n whole)) whole ≡ take n whole
cut zero whole = refl
cut (suc n) [] = refl
cut (suc n) (b ∷ bs) = ap (λ (l : List ℕ). b ∷ l) (cut n bs)

-- bytes that are read from its begin on
pub begins : (n : ℕ) (whole bytes : List ℕ) → bytes ≡ take n (drop 0 whole) → take (length bytes) whole ≡ bytes
begins n whole bytes is = ap (λ (xs : List ℕ). take (length xs) whole) is ∙ cut n whole ∙ sym is

-- whether there is a byte
pub has_more : (place : ℕ) (whole bytes : List ℕ) → bytes ≡ take 1 (drop place whole) → not (eqb (length bytes) 0) ≡ ltb place (length whole)
has_more place whole bytes is =
    let size : length bytes ≡ min 1 (length whole - place) = ap length is ∙ length-take 1 (drop place whole) ∙ ap (min 1) (length-drop place whole) in
    go (length bytes) (length whole) size
  where
    go : (n size : ℕ) → n ≡ min 1 (size - place) → not (eqb n 0) ≡ ltb place size
    go n size is = grind (arith, nat_tests)

-- whether a file is as long as is asked, and not longer than a core may be
pub size_told : {E : Type 0} (r : Result Bool E) (end size : ℕ) → ltb most_bytes size ≡ false → 0 < end → IfOk r (λ has. has ≡ ltb (end - 1) size) → IfOk r (λ has. IsTrue has ↔ ((end ≤ size) × (size ≤ most_bytes)))
size_told (Err e) end size short some told = tt
size_told (Ok has) end size short some told = (fits, long)
  where
    fits : IsTrue has → (end ≤ size) × (size ≤ most_bytes)
    fits is =
        let less = ltb-true (end - 1) size (sym told ∙ is) in
        let most = ltb-false most_bytes size short in
        (omega arith, omega arith)

    long : (end ≤ size) × (size ≤ most_bytes) → IsTrue has
    long both = (let reach = both.0 in told ∙ lt-ltb (end - 1) size (omega arith))

-- a file that begins with a front, and whose size is as the front and the most bytes of a core say
pub core_told : (front bytes : List ℕ) (value : FrontValue) → IsFrontOf front value → take (length front) bytes ≡ front → value.end ≤ length bytes → length bytes ≤ most_bytes → IsCoreBy bytes value
core_told front bytes value is begin long short = record { short = short; long = long; reads = is.core bytes begin long; parts = is.parts bytes begin long }

-- ---- names

-- lines with names over the same parts and threads
pub named_same : {E : Type 0} (files : List ℕ → List ℕ) (parts others : List PartValue) (space : SpaceValue) (threads those : List Context) (r : Result (Option (List ℕ)) E) → parts ≡ others → threads ≡ those
    → IfOk r (λ walked. IfSome walked (λ report. report ≡ named_threads_text files parts space most_states 0 threads)) → IfOk r (λ walked. IfSome walked (λ report. report ≡ named_threads_text files others space most_states 0 those))
named_same files parts others space threads those (Err e) same_parts same_threads told = tt
named_same files parts others space threads those (Ok None) same_parts same_threads told = tt
named_same files parts others space threads those (Ok (Some report)) same_parts same_threads told =
    told ∙ ap (λ (ps : List PartValue). named_threads_text files ps space most_states 0 threads) same_parts ∙ ap (λ (cs : List Context). named_threads_text files others space most_states 0 cs) same_threads

-- with names where these are asked for
pub lines_named : {E : Type 0} (names : Bool) (files : List ℕ → List ℕ) (parts : List PartValue) (space : SpaceValue) (cs : List Context) (r : Result (Option (List ℕ)) E) → names ≡ true
    → IfOk r (λ walked. IfSome walked (λ report. report ≡ lines_over true files parts space cs)) → IfOk r (λ walked. IfSome walked (λ report. report ≡ lines_over names files parts space cs))
lines_named names files parts space cs r is told = subst (λ (b : Bool). IfOk r (λ walked. IfSome walked (λ report. report ≡ lines_over b files parts space cs))) (sym is) told

-- and whether they are there
pub walked_named : {E : Type 0} (names : Bool) (space : SpaceValue) (threads those : List Context) (r : Result (Option (List ℕ)) E) → names ≡ true → threads ≡ those
    → IfOk r (λ walked. IsSome walked ↔ AreMarkedMapped space most_states threads) → IfOk r (λ walked. IsSome walked ↔ AreWalked names space those)
walked_named names space threads those r is same walked =
    subst (λ (b : Bool). IfOk r (λ lines. IsSome lines ↔ AreWalked b space those)) (sym is) (subst (λ (cs : List Context). IfOk r (λ lines. IsSome lines ↔ AreMarkedMapped space most_states cs)) same walked)

-- ---- the answer

-- lines that are there are due
pub told_text : (lines : Option (List ℕ)) (text : List ℕ) (due : Verdict) → lines ≡ Some text → IfSome lines (λ report. due ≡ verdict Done report) → IsReadyOrFailed due Done text
told_text lines text due is told =
    let same : due ≡ verdict Done text = subst (λ (o : Option (List ℕ)). IfSome o (λ report. due ≡ verdict Done report)) is told in
    subst (λ (v : Verdict). IsReadyOrFailed v Done text) (sym same) (inr (inr (refl, refl)))
