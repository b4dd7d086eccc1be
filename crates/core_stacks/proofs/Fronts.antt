-- The front of a core is read to its end, where it isn't too long.
use Rattle.std.proofs.Common.{◌≡◌, ◌∙◌, ℕ, ◌^◌, ◌≤◌, Bool, true, false, leb, min, List, length, take, drop, Option, Some, None, Result, Ok, Err, refl, sym, ap, arith, length-take}
use Rattle.std.specs.Prelude.{IfOk, IsOk, IsSomeAnd, nat_lt, if◌then◌else◌}
use Rattle.std.proofs.lemmas.Bool.{leb-true, leb-false}
use Rattle.core_file.specs.declared.errors.CoreError.{CoreError}
use Rattle.core_file.specs.CoreValue.{CoreValue, core_of}
use Rattle.core_file.specs.ElfHeader.{has_core_header, header_size}
use Rattle.core_file.specs.Fronts.{IsCoreWithFront, fitting, front_end, front_size, headers_end, is_counted, notes_end}
use Rattle.core_file.specs.ProgramHeaders.{headers_fit}
use Rattle.core_file.proofs.BeginLemmas.{headers_end_same}
use Rattle.core_file.proofs.CoreLemmas.{IsGood, core_is_good}
use Rattle.core_file.proofs.FrontLemmas.{size_by_all, size_by_headers}
use Rattle.core_stacks.specs.PartLines.{HasHeaders, HasShortFront, most_front}

pub core_with : (begin whole : List ℕ) → take (length begin) whole ≡ begin → HasShortFront whole → IsCoreWithFront begin whole
core_with begin whole begins has = record { core = has.core; begins = begins; few = has.few }

-- ---- how many bytes are asked for

fit_is : (fits : Bool) (m n : ℕ) → (if fits then Some m else None) ≡ Some n → m ≡ n
fit_is true m n is = cc
fit_is false m n is = absurd cc

size_is : (counted : Bool) (m n : ℕ) → (if counted then fitting m else None) ≡ Some n → m ≡ n
size_is true m n is = fit_is (nat_lt m (2 ^ 64)) m n is
size_is false m n is = absurd cc

-- where not all program headers are there, the front ends with them so far
without_notes : (begin : List ℕ) → headers_fit begin ≡ false → (most : ℕ) → 64 ≤ most → headers_end begin ≤ most → front_end begin ≤ most
unfolding front_end
without_notes begin fits most size headers =
    let none : notes_end begin ≡ 0 = rw fits refl in
    omega arith

header_first : (bytes : List ℕ) → 64 ≤ front_end bytes
unfolding front_end
header_first bytes = omega arith

headers_next : (bytes : List ℕ) → headers_end bytes ≤ front_end bytes
unfolding front_end
headers_next bytes = omega arith

size_within : (begin whole : List ℕ) → take (length begin) whole ≡ begin → HasShortFront whole → header_size ≤ length begin → (n : ℕ) → front_size begin ≡ Some n → n ≤ front_end whole
size_within begin whole begins has size n is = go (leb (headers_end whole) (length begin)) refl
  where
    go : (there : Bool) → leb (headers_end whole) (length begin) ≡ there → n ≤ front_end whole
    go true there =
        let all = size_by_all begin whole (core_with begin whole begins has) size (leb-true (headers_end whole) (length begin) there) in
        let same : n ≡ front_end whole = fit_is true n (front_end whole) (sym is ∙ all.0) in
        omega arith
    go false there =
        let ends = headers_end_same begin whole begins size in
        let fits : headers_fit begin ≡ false = rw (← ends) there in
        let most : front_end begin ≤ front_end whole = without_notes begin fits (front_end whole) (header_first whole) (rw ends at (headers_next whole)) in
        let same : front_end begin ≡ n = size_is (is_counted begin) (front_end begin) n is in
        omega arith

-- ---- what is read

-- What first bytes of a core say of how many there are.
pub record IsAsked (whole : List ℕ) (end n : ℕ) : Type 0 where
  pub reach : end ≤ n
  pub within : n ≤ length whole
  pub short : n ≤ most_front

-- they say that there are as many
abbrev pub Asks : List ℕ → List ℕ → ℕ → Type 0
Asks begin whole end = (n : ℕ) × (front_size begin ≡ Some n) × IsAsked whole end n

pub asks_headers : (begin whole : List ℕ) → take (length begin) whole ≡ begin → HasShortFront whole → header_size ≤ length begin → Asks begin whole (headers_end whole)
asks_headers begin whole begins has size =
    let s = size_by_headers begin whole (core_with begin whole begins has) size in
    let most = size_within begin whole begins has size s.0 s.1 in
    let short = has.short in
    (s.0, s.1, record { reach = s.2; within = s.3; short = omega arith })

pub asks_all : (begin whole : List ℕ) → take (length begin) whole ≡ begin → HasShortFront whole → HasHeaders begin whole → Asks begin whole (front_end whole)
asks_all begin whole begins has there =
    let s = size_by_all begin whole (core_with begin whole begins has) there.header there.headers in
    (front_end whole, s.0, record { reach = omega arith; within = s.1; short = has.short })

-- what was asked for is what a front says
pub asked_is : (begin whole : List ℕ) (end n : ℕ) → Asks begin whole end → front_size begin ≡ Some n → IsAsked whole end n
asked_is begin whole end n asks is =
    let same : asks.0 ≡ n = fit_is true asks.0 n (sym asks.1 ∙ is) in
    rw same at asks.2

pub never_none : {A : Type 0} (begin whole : List ℕ) (end : ℕ) → Asks begin whole end → front_size begin ≡ None → A
never_none begin whole end asks is = absurd cc

-- as many bytes are read as are asked for
pub read_all : (whole front : List ℕ) (end n : ℕ) → IsAsked whole end n → front ≡ take n (drop 0 whole) → length front ≡ n
read_all whole front end n asked is =
    let size : length front ≡ min n (length whole) = ap length is ∙ length-take n whole in
    let within = asked.within in
    omega arith

-- ---- the first bytes of a core

-- a core has its header
header_there : (bytes : List ℕ) → has_core_header bytes ≡ true → header_size ≤ length bytes
header_there bytes is = go (leb 64 (length bytes)) refl is
  where
    go : (there : Bool) → leb 64 (length bytes) ≡ there → has_core_header bytes ≡ true → 64 ≤ length bytes
    go true there is = leb-true 64 (length bytes) there
    go false there is = absurd cc

pub long_enough : (bytes : List ℕ) → HasShortFront bytes → header_size ≤ length bytes
long_enough bytes has = go (core_of bytes) refl has.core
  where
    go : (r : Result CoreValue CoreError) → core_of bytes ≡ r → IsOk r → header_size ≤ length bytes
    go (Ok core) is ok =
        let good : IsGood bytes = core_is_good bytes core is in
        header_there bytes good.is_header
    go (Err e) is ok = absurd cc

-- so the first 4,096 bytes have it
pub begin_there : (whole begin : List ℕ) → HasShortFront whole → begin ≡ take 4096 (drop 0 whole) → header_size ≤ length begin
begin_there whole begin has is =
    let size : length begin ≡ min 4096 (length whole) = ap length is ∙ length-take 4096 whole in
    let long = long_enough whole has in
    omega arith
