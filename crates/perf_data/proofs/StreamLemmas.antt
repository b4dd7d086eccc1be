-- What a reader of records and its source have left, and how a file begins.
use Rattle.std.proofs.Common.{◌≡◌, ℕ, ◌+◌, ◌-◌, ◌<◌, ◌≤◌, ◌^◌, ◌⊎◌, inl, inr, min, Bool, true, false, cond, ◌&&◌, ◌||◌, ltb, leb, List, [], ◌∷◌, ◌++◌, length, take, drop, Option, Some, None, Result, Ok, Err, refl, sym, ap, ◌∙◌, subst, arith, length-append}
use Rattle.std.specs.Prelude.{nat_eq, IsTrue, ◌==◌}
use Rattle.std.specs.List.{starts_with}
use Rattle.std.specs.Cmp.Lexicographic.{pointwise}
use Rattle.std.specs.Io.KnownBytes.{IsAtEnd, Keeps}
use Rattle.std.proofs.KnownBytes.{Consumes-nil, Consumes-trans}
use Rattle.std.proofs.lemmas.Bool.{cases_lt, le-ltb, le-leb, leb-true, leb-false, lt-leb}
use Rattle.std.proofs.lemmas.List.{drop-append-le, drop-take, length-drop, length-take-le, take-append-drop, take-append-le, take-take}
use Rattle.memory_image.specs.Results.{result_map}
use Rattle.memory_image.specs.Words.{u16_at, u64_at, number_of}
use Rattle.perf_data.specs.declared.errors.PerfError.{PerfError}
use Rattle.perf_data.specs.declared.errors.PerfError.TheVariants as errors
use Rattle.perf_data.specs.declared.layout.Layout.{Layout}
use Rattle.perf_data.specs.FileHeader.{is_foreign, is_pipe, has_header_of, has_file_header, foreign_magic, magic, attribute_size, section, section_offset, section_size, attributes_place, records_place}
use Rattle.perf_data.specs.FileValue.{PerfValue, layout_among, shared_layout, records_after, with_records, perf_of}
use Rattle.perf_data.specs.Records.{FramedValue, RecordValue, framed_of, first_framed, record_in, first_record, records_of}
use Rattle.perf_data.specs.declared.reader.RecordReader.{RecordReader}
use Rattle.perf_data.specs.Streams.{DueRecords, Follows, GoesOn, HasPlace, HasStart, bytes_left, due_by, due_from, due_left, held, layout_before, records_in}
use Rattle.perf_data.proofs.RecordLemmas.{records_end, records_err, records_next}

-- ---- a source that is read on

pub on_nothing : (left : Option (List ℕ)) (faults : ℕ) → GoesOn left left faults faults
on_nothing left faults = (([], Consumes-nil left), omega arith)

pub on_again : (a b c : Option (List ℕ)) (m n k : ℕ) → GoesOn a b m n → GoesOn b c n k → GoesOn a c m k
on_again a b c m n k p q =
    let first = p.1 in
    let second = q.1 in
    ((p.0.0 ++ q.0.0, Consumes-trans a b c p.0.0 q.0.0 p.0.1 q.0.1), omega arith)

-- ---- numbers in the front of bytes

part_same : (k n : ℕ) (front more : List ℕ) → k + n ≤ length front → take n (drop k (front ++ more)) ≡ take n (drop k front)
part_same k n front more fits =
    let rest : length (drop k front) ≡ length front - k = length-drop k front in
    ap (take n) (drop-append-le k front more (omega arith)) ∙ take-append-le n (drop k front) more (omega arith)

u16_same : (k : ℕ) (front more : List ℕ) → k + 2 ≤ length front → u16_at (front ++ more) k ≡ u16_at front k
unfolding u16_at
u16_same k front more fits = ap number_of (part_same k 2 front more fits)

pub u64_same : (k : ℕ) (front more : List ℕ) → k + 8 ≤ length front → u64_at (front ++ more) k ≡ u64_at front k
unfolding u64_at
u64_same k front more fits = ap number_of (part_same k 8 front more fits)

-- ---- a record by what is held of the section

abbrev frame_by : ℕ → Bool → Bool → Bool → List ℕ → ℕ → Result (FramedValue × ℕ) PerfError
frame_by offset short small cut bytes size = cond short (Err (errors.Cut offset)) (cond small (Err (errors.Size offset)) (cond cut (Err (errors.Cut offset)) (Ok (framed_of bytes, size))))

framed_is : (offset : ℕ) (bytes : List ℕ) → first_framed offset bytes ≡ frame_by offset (ltb (length bytes) 8) (ltb (u16_at bytes 6) 8) (ltb (length bytes) (u16_at bytes 6)) (take (u16_at bytes 6) bytes) (u16_at bytes 6)
unfolding first_framed
framed_is offset bytes = refl

framed_more : (offset : ℕ) (front more : List ℕ) → 8 ≤ length front → u16_at front 6 ≤ length front → first_framed offset (front ++ more) ≡ first_framed offset front
framed_more offset front more long fits =
    let all : length (front ++ more) ≡ length front + length more = length-append front more in
    let word : u16_at (front ++ more) 6 ≡ u16_at front 6 = u16_same 6 front more long in
    let short : ltb (length (front ++ more)) 8 ≡ ltb (length front) 8 = le-ltb (length (front ++ more)) 8 (omega arith) ∙ sym (le-ltb (length front) 8 long) in
    let cut : ltb (length (front ++ more)) (u16_at (front ++ more) 6) ≡ ltb (length front) (u16_at front 6) =
    ap (ltb (length (front ++ more))) word ∙ (le-ltb (length (front ++ more)) (u16_at front 6) (omega arith) ∙ sym (le-ltb (length front) (u16_at front 6) fits)) in
    let part : take (u16_at (front ++ more) 6) (front ++ more) ≡ take (u16_at front 6) front = ap (λ n. take n (front ++ more)) word ∙ take-append-le (u16_at front 6) front more fits in
    framed_is offset (front ++ more) ∙ ((λ i. frame_by offset (short i) (ltb (word i) 8) (cut i) (part i) (word i)) ∙ sym (framed_is offset front))

record_more : (layout : Layout) (offset : ℕ) (front more : List ℕ) → 8 ≤ length front → u16_at front 6 ≤ length front → first_record layout offset (front ++ more) ≡ first_record layout offset front
unfolding first_record
record_more layout offset front more long fits = ap (record_in layout offset) (framed_more offset front more long fits)

-- the part that is looked at has the whole record
record_held : (layout : Layout) (offset size : ℕ) (bytes more : List ℕ) → min size 65535 ≤ length bytes → (8 ≤ length (take (min size 65535) bytes) → u16_at (take (min size 65535) bytes) 6 ≤ 65535)
    → first_record layout offset (take (min size 65535) bytes) ≡ first_record layout offset (take size (bytes ++ more))
record_held layout offset size bytes more enough word = go (cases_lt 65535 size)
  where
    go : (65535 < size) ⊎ (size ≤ 65535) → first_record layout offset (take (min size 65535) bytes) ≡ first_record layout offset (take size (bytes ++ more))
    go (inr small) =
        let is : min size 65535 ≡ size = omega arith in
        ap (λ n. first_record layout offset (take n bytes)) is ∙ ap (first_record layout offset) (sym (take-append-le size bytes more (omega arith)))
    go (inl large) =
        let is : min size 65535 ≡ 65535 = omega arith in
        let front = take (min size 65535) bytes in
        let long : length front ≡ 65535 = length-take-le (min size 65535) bytes enough ∙ is in
        let begins : take 65535 (take size (bytes ++ more)) ≡ front =
        take-take 65535 size (bytes ++ more) (omega arith) ∙ (take-append-le 65535 bytes more (omega arith) ∙ ap (λ n. take n bytes) (sym is)) in
        let all : front ++ drop 65535 (take size (bytes ++ more)) ≡ take size (bytes ++ more) =
        ap (λ xs. xs ++ drop 65535 (take size (bytes ++ more))) (sym begins) ∙ take-append-drop 65535 (take size (bytes ++ more)) in
        let small = word (omega arith) in
        sym (record_more layout offset front (drop 65535 (take size (bytes ++ more))) (omega arith) (omega arith)) ∙ ap (first_record layout offset) all

pub record_within : (layout : Layout) (offset size : ℕ) (bytes more part : List ℕ) → part ≡ take (min size 65535) bytes → min size 65535 ≤ length bytes → (8 ≤ length part → u16_at part 6 ≤ 65535)
    → first_record layout offset part ≡ first_record layout offset (take size (bytes ++ more))
record_within layout offset size bytes more part is enough word =
    ap (first_record layout offset) is ∙ record_held layout offset size bytes more enough (subst (λ (xs : List ℕ). 8 ≤ length xs → u16_at xs 6 ≤ 65535) is word)

-- ---- what is due after a record

abbrev made : List (Result RecordValue PerfError) → DueRecords
made records = Ok records

pub due_taken : (layout : Layout) (offset size : ℕ) (bytes : List ℕ) (value : RecordValue) (n : ℕ) → 8 ≤ n → n ≤ size → n ≤ length bytes → first_record layout offset (take size bytes) ≡ Ok (value, n)
    → due_from layout offset size bytes ≡ result_map (λ later. Ok value ∷ later) (due_from layout (offset + n) (size - n) (drop n bytes))
due_taken layout offset size bytes value n some within there is = go (leb size (length bytes)) refl
  where
    less : length (drop n bytes) ≡ length bytes - n
    less = length-drop n bytes

    go : (b : Bool) → leb size (length bytes) ≡ b → cond b (made (records_of layout offset (take size bytes))) (Err errors.Records) ≡ result_map (λ later. Ok value ∷ later) (due_from layout (offset + n) (size - n) (drop n bytes))
    go true whole =
        let fits : size ≤ length bytes = leb-true size (length bytes) whole in
        let long : length (take size bytes) ≡ size = length-take-le size bytes fits in
        let short = less in
        let later : leb (size - n) (length (drop n bytes)) ≡ true = le-leb (size - n) (length (drop n bytes)) (omega arith) in
        let joined : n + (size - n) ≡ size = omega arith in
        let rest : drop n (take size bytes) ≡ take (size - n) (drop n bytes) = ap (λ k. drop n (take k bytes)) (sym joined) ∙ drop-take n (size - n) bytes in
        rw later
        (ap made (records_next layout offset (take size bytes) value n (omega arith) is ∙ ap (λ bs. Ok value ∷ records_of layout (offset + n) bs) rest))
    go false cut =
        let short = less in
        let fewer : length bytes < size = leb-false size (length bytes) cut in
        let later : leb (size - n) (length (drop n bytes)) ≡ false = lt-leb (size - n) (length (drop n bytes)) (omega arith) in
        rw later refl

-- at a record that can't be read, if the section is whole
pub due_failed : (layout : Layout) (offset size : ℕ) (bytes : List ℕ) (e : PerfError) → 0 < size → first_record layout offset (take size bytes) ≡ Err e
    → (due_from layout offset size bytes ≡ Err errors.Records) ⊎ (due_from layout offset size bytes ≡ Ok (Err e ∷ []))
due_failed layout offset size bytes e some is = go (leb size (length bytes)) refl
  where
    go : (b : Bool) → leb size (length bytes) ≡ b → (cond b (made (records_of layout offset (take size bytes))) (Err errors.Records) ≡ Err errors.Records) ⊎ (cond b (made (records_of layout offset (take size bytes))) (Err errors.Records) ≡ Ok (Err e ∷ []))
    go false cut = inl refl
    go true whole =
        let fits : size ≤ length bytes = leb-true size (length bytes) whole in
        let long : length (take size bytes) ≡ size = length-take-le size bytes fits in
        inr (ap made (records_err layout offset (take size bytes) e (omega arith) is))

-- at the end of the section
pub due_ended : (layout : Layout) (offset size : ℕ) (bytes : List ℕ) → size ≡ 0 → due_from layout offset size bytes ≡ Ok []
due_ended layout offset size bytes none =
    let whole : leb size (length bytes) ≡ true = le-leb size (length bytes) (omega arith) in
    rw whole (ap made (records_end layout offset (take size bytes) (ap (λ n. length (take n bytes)) none)))

pub due_whole : (layout : Layout) (offset size : ℕ) (bytes : List ℕ) → size ≤ length bytes → due_from layout offset size bytes ≡ Ok (records_of layout offset (take size bytes))
due_whole layout offset size bytes fits = rw (le-leb size (length bytes) fits) refl

pub due_cut : (layout : Layout) (offset size : ℕ) (bytes : List ℕ) → length bytes < size → due_from layout offset size bytes ≡ Err errors.Records
due_cut layout offset size bytes short = rw (lt-leb size (length bytes) short) refl

-- ---- what the start of a file tells

begins_same : (needle front more : List ℕ) → length needle ≤ length front → starts_with nat_eq (front ++ more) needle ≡ starts_with nat_eq front needle
begins_same needle front more fits = ap (pointwise nat_eq needle) (take-append-le (length needle) front more fits)

foreign_same : (front more : List ℕ) → 104 ≤ length front → is_foreign (front ++ more) ≡ is_foreign front
foreign_same front more long = begins_same foreign_magic front more (omega arith)

header_of_same : (size : ℕ) (front more : List ℕ) → size ≤ 104 → 104 ≤ length front → has_header_of size (front ++ more) ≡ has_header_of size front
header_of_same size front more small long =
    let all : length (front ++ more) ≡ length front + length more = length-append front more in
    let fits : leb size (length (front ++ more)) ≡ leb size (length front) = le-leb size (length (front ++ more)) (omega arith) ∙ sym (le-leb size (length front) (omega arith)) in
    let begins = begins_same magic front more (omega arith) in
    let own = u64_same 8 front more (omega arith) in
    λ i. fits i && begins i && (own i == size)

pipe_same : (front more : List ℕ) → 104 ≤ length front → is_pipe (front ++ more) ≡ is_pipe front
pipe_same front more long = header_of_same 16 front more (omega arith) long

pub header_same : (front more : List ℕ) → 104 ≤ length front → has_file_header (front ++ more) ≡ has_file_header front
header_same front more long =
    let newer = header_of_same 104 front more (omega arith) long in
    let older = header_of_same 72 front more (omega arith) long in
    λ i. newer i || older i

-- an offset and a size at a place of the header
pub offset_same : (place : ℕ) (front more : List ℕ) → place + 16 ≤ length front → section_offset (front ++ more) place ≡ section_offset front place
offset_same place front more fits = u64_same place front more (omega arith)

pub size_same : (place : ℕ) (front more : List ℕ) → place + 16 ≤ length front → section_size (front ++ more) place ≡ section_size front place
size_same place front more fits = u64_same (place + 8) front more (omega arith)

abbrev section_by : Bool → ℕ → List ℕ → Option (ℕ × List ℕ)
section_by there offset bytes = cond there (Some (offset, bytes)) None

section_same : (place : ℕ) (front more : List ℕ) → place + 16 ≤ length front → section_offset front place + section_size front place ≤ length front → section (front ++ more) place ≡ section front place
section_same place front more fits within =
    let offset = offset_same place front more fits in
    let size = size_same place front more fits in
    let all : length (front ++ more) ≡ length front + length more = length-append front more in
    let there : leb (section_offset front place + section_size front place) (length (front ++ more)) ≡ leb (section_offset front place + section_size front place) (length front) =
    le-leb (section_offset front place + section_size front place) (length (front ++ more)) (omega arith) ∙ sym (le-leb (section_offset front place + section_size front place) (length front) within) in
    let moved : leb (section_offset (front ++ more) place + section_size (front ++ more) place) (length (front ++ more)) ≡ leb (section_offset front place + section_size front place) (length (front ++ more)) = λ i. leb (offset i + size i) (length (front ++ more)) in
    let part : take (section_size front place) (drop (section_offset front place) (front ++ more)) ≡ take (section_size front place) (drop (section_offset front place) front) =
    part_same (section_offset front place) (section_size front place) front more within in
    let first : section (front ++ more) place ≡ section_by (leb (section_offset front place + section_size front place) (length (front ++ more))) (section_offset front place) (take (section_size front place) (drop (section_offset front place) (front ++ more))) =
    λ i. section_by (moved i) (offset i) (take (size i) (drop (offset i) (front ++ more))) in
    let second : section_by (leb (section_offset front place + section_size front place) (length (front ++ more))) (section_offset front place) (take (section_size front place) (drop (section_offset front place) (front ++ more))) ≡ section front place =
    λ i. section_by (there i) (section_offset front place) (part i) in
    first ∙ second

shared_same : (front more : List ℕ) → 104 ≤ length front → section_offset front attributes_place + section_size front attributes_place ≤ length front → shared_layout (front ++ more) ≡ shared_layout front
unfolding shared_layout
shared_same front more long within =
    let size : attribute_size (front ++ more) ≡ attribute_size front = u64_same 16 front more (omega arith) in
    let attributes = section_same attributes_place front more (omega arith) within in
    let recorded : section_size (front ++ more) records_place ≡ section_size front records_place = size_same records_place front more (omega arith) in
    λ i. cond (recorded i == 0) (Err errors.Unfinished) (layout_among (size i) (attributes i))

abbrev before_by : Bool → Bool → Bool → Result Layout PerfError → Result Layout PerfError
before_by foreign pipe header layout = cond foreign (Err errors.ByteOrder) (cond pipe (Err errors.Pipe) (cond header layout (Err errors.Header)))

before_is : (bytes : List ℕ) → layout_before bytes ≡ before_by (is_foreign bytes) (is_pipe bytes) (has_file_header bytes) (shared_layout bytes)
unfolding layout_before
before_is bytes = refl

-- the start tells the layout of all of it
pub before_same : (front more : List ℕ) → HasStart front → layout_before (front ++ more) ≡ layout_before front
before_same front more is =
    let foreign = foreign_same front more is.header in
    let pipe = pipe_same front more is.header in
    let header = header_same front more is.header in
    before_is (front ++ more) ∙ ((λ i. before_by (foreign i) (pipe i) (header i) (shared_layout (front ++ more))) ∙ (go (has_file_header front) refl ∙ sym (before_is front)))
  where
    go : (b : Bool) → has_file_header front ≡ b → before_by (is_foreign front) (is_pipe front) b (shared_layout (front ++ more)) ≡ before_by (is_foreign front) (is_pipe front) b (shared_layout front)
    go true has = ap (λ l. before_by (is_foreign front) (is_pipe front) true l) (shared_same front more is.header (is.attributes has))
    go false has = refl

-- a layout is told only of a file with a header
pub before_header : (bytes : List ℕ) (layout : Layout) → layout_before bytes ≡ Ok layout → IsTrue (has_file_header bytes)
before_header bytes layout is = go (is_foreign bytes) (is_pipe bytes) (has_file_header bytes) (sym (before_is bytes) ∙ is)
  where
    go : (foreign pipe header : Bool) → before_by foreign pipe header (shared_layout bytes) ≡ Ok layout → header ≡ true
    go true pipe header e = absurd cc
    go false true header e = absurd cc
    go false false false e = absurd cc
    go false false true e = refl

-- bytes that begin no file, and those that reach a file's records
pub start_without : (bytes more : List ℕ) → 104 ≤ length bytes → has_file_header bytes ≡ false → HasStart (bytes ++ more)
start_without bytes more long none =
    let all : length (bytes ++ more) ≡ length bytes + length more = length-append bytes more in
    let no_header : has_file_header (bytes ++ more) ≡ false = header_same bytes more long ∙ none in
    record {
      header = omega arith;
      attributes = λ has. absurd cc;
      records = λ has. absurd cc;
      in_range = λ has. absurd cc;
    }

pub start_with : (bytes more : List ℕ) (offset end : ℕ) → 104 ≤ length bytes → offset ≡ section_offset bytes records_place → section_offset bytes records_place + section_size bytes records_place < 2 ^ 64
    → end ≡ section_offset bytes attributes_place + section_size bytes attributes_place → end ≤ offset → offset ≤ length (bytes ++ more) → HasStart (bytes ++ more)
start_with bytes more offset end long is in_range ends before fits =
    let all : length (bytes ++ more) ≡ length bytes + length more = length-append bytes more in
    let records : section_offset (bytes ++ more) records_place ≡ section_offset bytes records_place = offset_same records_place bytes more (omega arith) in
    let records_size : section_size (bytes ++ more) records_place ≡ section_size bytes records_place = size_same records_place bytes more (omega arith) in
    let attributes : section_offset (bytes ++ more) attributes_place ≡ section_offset bytes attributes_place = offset_same attributes_place bytes more (omega arith) in
    let attributes_size : section_size (bytes ++ more) attributes_place ≡ section_size bytes attributes_place = size_same attributes_place bytes more (omega arith) in
    record {
      header = omega arith;
      attributes = λ has. omega arith;
      records = λ has. omega arith;
      in_range = λ has. omega arith;
    }

-- ---- the records of a file by its layout

abbrev due_in : Layout → Option (ℕ × List ℕ) → DueRecords
due_in layout None = Err errors.Records
due_in layout (Some p) = Ok (records_of layout p.0 p.1)

abbrev due_with : Result Layout PerfError → Option (ℕ × List ℕ) → DueRecords
due_with (Err e) o = Err e
due_with (Ok layout) o = due_in layout o

abbrev file_by : Bool → Bool → Bool → Result PerfValue PerfError → Result PerfValue PerfError
file_by foreign pipe header file = cond foreign (Err errors.ByteOrder) (cond pipe (Err errors.Pipe) (cond header file (Err errors.Header)))

perf_is : (bytes : List ℕ) → perf_of bytes ≡ file_by (is_foreign bytes) (is_pipe bytes) (has_file_header bytes) (with_records bytes (shared_layout bytes))
unfolding perf_of
perf_is bytes = refl

records_by : (bytes : List ℕ) → records_in bytes ≡ due_with (layout_before bytes) (section bytes records_place)
records_by bytes = ap (result_map (λ (file : PerfValue). file.records)) (perf_is bytes) ∙ (go (is_foreign bytes) (is_pipe bytes) (has_file_header bytes) (shared_layout bytes) (section bytes records_place) refl ∙ ap (λ l. due_with l (section bytes records_place)) (sym (before_is bytes)))
  where
    last : (layout : Layout) (o : Option (ℕ × List ℕ)) → result_map (λ (file : PerfValue). file.records) (records_after layout o) ≡ due_in layout o
    last layout None = refl
    last layout (Some p) = refl

    go : (foreign pipe header : Bool) (layout : Result Layout PerfError) (o : Option (ℕ × List ℕ)) → section bytes records_place ≡ o
        → result_map (λ (file : PerfValue). file.records) (file_by foreign pipe header (with_records bytes layout)) ≡ due_with (before_by foreign pipe header layout) o
    go true pipe header layout o at = refl
    go false true header layout o at = refl
    go false false false layout o at = refl
    go false false true (Err e) o at = refl
    go false false true (Ok layout) o at = ap (λ p. result_map (λ (file : PerfValue). file.records) (records_after layout p)) at ∙ last layout o

-- a file that is refused by its start
pub start_refused : (front more : List ℕ) (e : PerfError) → HasStart front → layout_before front ≡ Err e → records_in (front ++ more) ≡ Err e
start_refused front more e is told =
    records_by (front ++ more) ∙ (ap (λ l. due_with l (section (front ++ more) records_place)) (before_same front more is) ∙ ap (λ l. due_with l (section (front ++ more) records_place)) told)

-- one whose records are read one at a time
pub start_read : (front more : List ℕ) (layout : Layout) → HasStart front → layout_before front ≡ Ok layout
    → due_from layout (section_offset front records_place) (section_size front records_place) (drop (section_offset front records_place) front ++ more) ≡ records_in (front ++ more)
start_read front more layout is told =
    let has = before_header front layout told in
    let header = is.header in
    let within = is.records has in
    let offset = sym (offset_same records_place front more (omega arith)) in
    let size = sym (size_same records_place front more (omega arith)) in
    let from : drop (section_offset front records_place) front ++ more ≡ drop (section_offset front records_place) (front ++ more) = sym (drop-append-le (section_offset front records_place) front more within) in
    let long : length (front ++ more) ≡ length front + length more = length-append front more in
    ap (due_from layout (section_offset front records_place) (section_size front records_place)) from
    ∙ (by_section (section_offset front records_place) (section_size front records_place) (front ++ more) (omega arith)
    ∙ ((λ i. due_in layout (section_by (leb (offset i + size i) (length (front ++ more))) (offset i) (take (size i) (drop (offset i) (front ++ more)))))
    ∙ sym (records_by (front ++ more) ∙ ap (λ l. due_with l (section (front ++ more) records_place)) (before_same front more is ∙ told))))
  where
    by_section : (offset size : ℕ) (bytes : List ℕ) → offset ≤ length bytes → due_from layout offset size (drop offset bytes) ≡ due_in layout (section_by (leb (offset + size) (length bytes)) offset (take size (drop offset bytes)))
    by_section offset size bytes fits = go (leb (offset + size) (length bytes)) refl
      where
        less : length (drop offset bytes) ≡ length bytes - offset
        less = length-drop offset bytes

        go : (b : Bool) → leb (offset + size) (length bytes) ≡ b → due_from layout offset size (drop offset bytes) ≡ due_in layout (section_by b offset (take size (drop offset bytes)))
        go true whole = let long = leb-true (offset + size) (length bytes) whole in let short = less in due_whole layout offset size (drop offset bytes) (omega arith)
        go false cut = let long = leb-false (offset + size) (length bytes) cut in let short = less in due_cut layout offset size (drop offset bytes) (omega arith)

-- ---- a reader that goes on

-- after the next record
pub step_taken : (before filled after : RecordReader) (left later : Option (List ℕ)) (value : RecordValue) (n : ℕ) → HasPlace filled before.layout before.offset before.size → Keeps (bytes_left before left) (bytes_left filled later)
    → ((more : List ℕ) → Ok (value, n) ≡ first_record filled.layout filled.offset (take filled.size (held filled ++ more))) → (8 ≤ n) × (n ≤ filled.size) × (n ≤ length (held filled))
    → after.layout ≡ filled.layout → after.offset ≡ filled.offset + n → after.size + n ≡ filled.size → held after ≡ drop n (held filled)
    → Follows (due_left before left) (due_left after later) (λ all rest. all ≡ result_map (λ records. Ok value ∷ records) rest)
step_taken before filled after None later value n place kept read within layout offset size rest = tt
step_taken before filled after (Some x) None value n place kept read within layout offset size rest = absurd kept
step_taken before filled after (Some x) (Some y) value n place kept read within layout offset size rest =
    let all : held filled ++ y ≡ held before ++ x = kept in
    let long : length (held filled ++ y) ≡ length (held filled) + length y = length-append (held filled) y in
    let some = within.0 in
    let fits = within.1 in
    let there = within.2 in
    let first : due_by before (held before ++ x) ≡ due_from filled.layout filled.offset filled.size (held filled ++ y) =
    λ i. due_from (sym place.layout_is i) (sym place.offset_is i) (sym place.size_is i) (sym all i) in
    let step = due_taken filled.layout filled.offset filled.size (held filled ++ y) value n some fits (omega arith) (sym (read y)) in
    let left_size : filled.size - n ≡ after.size = omega arith in
    let left_bytes : drop n (held filled ++ y) ≡ held after ++ y = drop-append-le n (held filled) y there ∙ ap (λ xs. xs ++ y) (sym rest) in
    let last : due_from filled.layout (filled.offset + n) (filled.size - n) (drop n (held filled ++ y)) ≡ due_by after (held after ++ y) =
    λ i. due_from (sym layout i) (sym offset i) (left_size i) (left_bytes i) in
    first ∙ (step ∙ ap (result_map (λ records. Ok value ∷ records)) last)

-- at a record that can't be read
pub step_failed : (before filled : RecordReader) (left later : Option (List ℕ)) (e : PerfError) → HasPlace filled before.layout before.offset before.size → Keeps (bytes_left before left) (bytes_left filled later)
    → ((more : List ℕ) → Err e ≡ first_record filled.layout filled.offset (take filled.size (held filled ++ more))) → 0 < filled.size
    → Follows (due_left before left) (due_left filled later) (λ all rest. (all ≡ rest) × ((rest ≡ Err errors.Records) ⊎ (rest ≡ Ok (Err e ∷ []))))
step_failed before filled None later e place kept read some = tt
step_failed before filled (Some x) None e place kept read some = absurd kept
step_failed before filled (Some x) (Some y) e place kept read some =
    let all : held filled ++ y ≡ held before ++ x = kept in
    let first : due_by before (held before ++ x) ≡ due_by filled (held filled ++ y) =
    λ i. due_from (sym place.layout_is i) (sym place.offset_is i) (sym place.size_is i) (sym all i) in
    (first, due_failed filled.layout filled.offset filled.size (held filled ++ y) e some (sym (read y)))

-- where there is no record more
pub step_ended : (before filled : RecordReader) (left later : Option (List ℕ)) → HasPlace filled before.layout before.offset before.size → Keeps (bytes_left before left) (bytes_left filled later)
    → (before.size ≡ 0) ⊎ (IsAtEnd later × (length (held filled) < before.size))
    → Follows (due_left before left) (due_left filled later) (λ all rest. (all ≡ rest) × ((rest ≡ Err errors.Records) ⊎ (rest ≡ Ok [])))
step_ended before filled None later place kept ends = tt
step_ended before filled (Some x) None place kept ends = absurd kept
step_ended before filled (Some x) (Some y) place kept ends =
    let all : held filled ++ y ≡ held before ++ x = kept in
    let first : due_by before (held before ++ x) ≡ due_by filled (held filled ++ y) =
    λ i. due_from (sym place.layout_is i) (sym place.offset_is i) (sym place.size_is i) (sym all i) in
    (first, go ends)
  where
    go : (before.size ≡ 0) ⊎ (IsAtEnd (Some y) × (length (held filled) < before.size)) → (due_by filled (held filled ++ y) ≡ Err errors.Records) ⊎ (due_by filled (held filled ++ y) ≡ Ok [])
    go (inl none) = inr (due_ended filled.layout filled.offset filled.size (held filled ++ y) (place.size_is ∙ none))
    go (inr cut) =
        let nothing : y ≡ [] = cut.0 in
        let long : length (held filled ++ y) ≡ length (held filled) + length y = length-append (held filled) y in
        let none : length y ≡ 0 = ap length nothing in
        let short = cut.1 in
        let size = place.size_is in
        inl (due_cut filled.layout filled.offset filled.size (held filled ++ y) (omega arith))
