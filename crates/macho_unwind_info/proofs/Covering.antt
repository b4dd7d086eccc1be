-- On described pages a look-up answers the listed function that covers the address.
use Rattle.std.proofs.Common.{◌≡◌, ℕ, zero, suc, ◌+◌, ◌-◌, ◌<◌, ◌≤◌, Bool, true, false, cond, ltb, List, [], ◌∷◌, ◌++◌, length, map, Option, Some, None, Result, Ok, Err, get_or, refl, arith, ap, sym, subst, ◌∙◌, inl, inr}
use Rattle.std.specs.Prelude.{slice_get, option_map, MatchResult}
use Rattle.std.proofs.lemmas.List.{length-map}
use Rattle.std.proofs.lemmas.Option.{slice_get-map, slice_get_within}
use Rattle.memory_image.specs.Results.{◌>>=◌}
use Rattle.macho_unwind_info.specs.Listing.{Section, page_of, whole_page, entries_of, regular_entry, compressed_entry, address_after, function_of, functions_of, page_places, places_of, listing, answer_of}
use Rattle.macho_unwind_info.specs.Lookup.{first_address, start_address, start_distance, page_addresses, keys_of, base_of, range_start, range_end, IsBoundary, Finds, answer_at, IsPageLookup, IsAnswerFrom, IsAnswerAt, IsLookup}
use Rattle.macho_unwind_info.specs.Described.{IsEntryWithin, AscendWithin, BeginAt, IsDescribedPage, AreDescribed, HasDescribedPages, Covers, IsInRange, IsOutside, FindsListed, FindsEachListed}
use Rattle.macho_unwind_info.specs.declared.error.Error.{Error}
use Rattle.macho_unwind_info.specs.declared.error.Error.TheVariants.{AddressOverflow}
use Rattle.macho_unwind_info.specs.declared.raw.unaligned.U32.{U32}
use Rattle.macho_unwind_info.specs.declared.raw.format.Opcode.{Opcode}
use Rattle.macho_unwind_info.specs.declared.raw.format.PageEntry.{PageEntry}
use Rattle.macho_unwind_info.specs.declared.raw.format.RegularFunctionEntry.{RegularFunctionEntry}
use Rattle.macho_unwind_info.specs.declared.page.Page.{Page}
use Rattle.macho_unwind_info.specs.declared.page.Page.TheVariants.{Regular, Compressed}
use Rattle.macho_unwind_info.specs.declared.page.Entry.{Entry}
use Rattle.macho_unwind_info.specs.declared.function.Function.{Function}
use Rattle.macho_unwind_info.proofs.SearchLemmas.{key_of_record}
use Rattle.macho_unwind_info.proofs.ListingLemmas.{slice_get-functions_of}
use Rattle.macho_unwind_info.proofs.Tiling.{last_address, last_address_is, listing_end_to_end, place_of_contained, contained_at, lies_within, one_covers, made}

-- ---- lists
some_at : {A : Type 0} (xs : List A) (i : ℕ) → i < length xs → (x : A) × (slice_get xs i ≡ Some x)
some_at [] i h = absurd (omega arith)
some_at (x ∷ xs) zero h = (x, refl)
some_at (x ∷ xs) (suc i) h = some_at xs i (omega arith)

none_at : {A : Type 0} (xs : List A) (i : ℕ) → slice_get xs i ≡ None → length xs ≤ i
none_at [] i e = omega arith
none_at (x ∷ xs) zero e = absurd cc
none_at (x ∷ xs) (suc i) e = let inner = none_at xs i e in omega arith

get_left : {A : Type 0} (xs ys : List A) (k : ℕ) (x : A) → slice_get xs k ≡ Some x → slice_get (xs ++ ys) k ≡ Some x
get_left [] ys k x e = absurd cc
get_left (y ∷ xs) ys zero x e = e
get_left (y ∷ xs) ys (suc k) x e = get_left xs ys k x e

get_right : {A : Type 0} (xs ys : List A) (k : ℕ) (x : A) → slice_get ys k ≡ Some x → (l : ℕ) × (slice_get (xs ++ ys) l ≡ Some x)
get_right [] ys k x e = (k, e)
get_right (y ∷ xs) ys k x e = let inner = get_right xs ys k x e in (suc inner.0, inner.1)

same_some : {A : Type 0} (x y : A) → ◌≡◌ {A = Option A} (Some x) (Some y) → x ≡ y
same_some x y e = cc

-- ---- keys and addresses
after_is : (b : Bool) (x a : ℕ) → ◌≡◌ {A = Result ℕ Error} (cond b (Ok x) (Err AddressOverflow)) (Ok a) → x ≡ a
after_is true x a e = cc
after_is false x a e = absurd cc

-- an entry's key stands so far after the base
address_of_key : (global : List Opcode) (page : Page) (j : ℕ) (e : Entry) (a : ℕ) → slice_get (entries_of global page) j ≡ Some e → e.address ≡ Ok a → get_or (keys_of page) j 0 + base_of page ≡ a
address_of_key global (Regular functions) j e a at is = go (slice_get functions j) refl (sym (slice_get-map regular_entry functions j) ∙ at)
  where
    go : (o : Option RegularFunctionEntry) → slice_get functions j ≡ o → option_map regular_entry o ≡ Some e → get_or (map start_address functions) j 0 + 0 ≡ a
    go None found made = absurd cc
    go (Some r) found made =
        let entry : regular_entry r ≡ e = same_some _ _ made in
        let address : ◌≡◌ {A = Result ℕ Error} (Ok (start_address r)) (Ok a) = ap (λ (x : Entry). x.address) entry ∙ is in
        let same : start_address r ≡ a = cc in
        let key = key_of_record start_address functions j r found in
        omega arith
address_of_key global (Compressed first functions local) j e a at is = go (slice_get functions j) refl (sym (slice_get-map (compressed_entry global first local) functions j) ∙ at)
  where
    go : (o : Option U32) → slice_get functions j ≡ o → option_map (compressed_entry global first local) o ≡ Some e → get_or (map start_distance functions) j 0 + first ≡ a
    go None found made = absurd cc
    go (Some w) found made =
        let entry : compressed_entry global first local w ≡ e = same_some _ _ made in
        let address : address_after first (start_distance w) ≡ Ok a = ap (λ (x : Entry). x.address) entry ∙ is in
        let same : first + start_distance w ≡ a = after_is (ltb (first + start_distance w) 4294967296) (first + start_distance w) a address in
        let key = key_of_record start_distance functions j w found in
        omega arith

length_keys : (global : List Opcode) (page : Page) → length (keys_of page) ≡ length (entries_of global page)
length_keys global (Regular functions) = length-map functions start_address ∙ sym (length-map functions regular_entry)
length_keys global (Compressed first functions local) = length-map functions start_distance ∙ sym (length-map functions (compressed_entry global first local))

-- ---- entries of a described page
entry_within : (low high : ℕ) (entries : List Entry) → AscendWithin low high entries → (j : ℕ) (e : Entry) → slice_get entries j ≡ Some e → IsEntryWithin low high e
entry_within low high [] ascend j e at = absurd cc
entry_within low high (entry ∷ entries) ascend zero e at = subst (λ (x : Entry). IsEntryWithin low high x) (same_some _ _ at) ascend.0
entry_within low high (entry ∷ entries) ascend (suc j) e at =
    let inner = entry_within (ascend.0.at + 1) high entries ascend.1 j e at in
    let here = ascend.0.from_low in
    record { at = inner.at; is = inner.is; from_low = (let h = inner.from_low in omega arith); below_high = inner.below_high; opcode = inner.opcode; reads = inner.reads }

-- what is found in a described page
pub record IsFoundIn (places : List (Result Function Error)) (pc : ℕ) (answer : Result (Option Function) Error) : Type 0 where
  pub function : Function
  pub is : answer ≡ Ok (Some function)
  pub place : ℕ
  pub at : slice_get places place ≡ Some (Ok function)
  pub covers : Covers function pc

-- the entry at a boundary and the one after it lie round the address
at_boundary : (global : List Opcode) (page : Page) (first next pc : ℕ) → AscendWithin first next (entries_of global page) → base_of page ≤ pc → pc < next → (j : ℕ) → IsBoundary (keys_of page) (pc - base_of page) j → (answer : Result (Option Function) Error) → answer ≡ answer_at (functions_of next (entries_of global page)) (Some j) →
    IsFoundIn (functions_of next (entries_of global page)) pc answer
at_boundary global page first next pc ascend low high j is answer answered =
    let len = length_keys global page in
    let e = some_at (entries_of global page) j (let h = is.within in omega arith) in
    go e.0 e.1 (slice_get (entries_of global page) (j + 1)) refl
  where
    go : (e : Entry) → slice_get (entries_of global page) j ≡ Some e → (after : Option Entry) → slice_get (entries_of global page) (j + 1) ≡ after → IsFoundIn (functions_of next (entries_of global page)) pc answer
    go e at None next_is =
        let within = entry_within first next (entries_of global page) ascend j e at in
        let key = address_of_key global page j e within.at at within.is in
        let function : Function = record { start_address = within.at; end_address = next; opcode = within.opcode } in
        let here : slice_get (functions_of next (entries_of global page)) j ≡ Some (Ok function) =
        slice_get-functions_of next (entries_of global page) j ∙ ap (option_map (λ (x : Entry). function_of next x (slice_get (entries_of global page) (j + 1)))) at ∙
        ap Some (ap (function_of next e) next_is ∙ made next e None within.at next within.opcode within.is refl within.reads) in
        record { function = function; is = answered ∙ ap answer_of here; place = j; at = here; covers = ((let h = is.at_or_before in omega arith), high) }
    go e at (Some e') next_is =
        let within = entry_within first next (entries_of global page) ascend j e at in
        let within' = entry_within first next (entries_of global page) ascend (j + 1) e' next_is in
        let key = address_of_key global page j e within.at at within.is in
        let key' = address_of_key global page (j + 1) e' within'.at next_is within'.is in
        let len = length_keys global page in
        let inside = slice_get_within (entries_of global page) (j + 1) e' next_is in
        let below = is.next_after (omega arith) in
        let function : Function = record { start_address = within.at; end_address = within'.at; opcode = within.opcode } in
        let here : slice_get (functions_of next (entries_of global page)) j ≡ Some (Ok function) =
        slice_get-functions_of next (entries_of global page) j ∙ ap (option_map (λ (x : Entry). function_of next x (slice_get (entries_of global page) (j + 1)))) at ∙
        ap Some (ap (function_of next e) next_is ∙ made next e (Some e') within.at within'.at within.opcode within.is within'.is within.reads) in
        record { function = function; is = answered ∙ ap answer_of here; place = j; at = here; covers = ((let h = is.at_or_before in omega arith), omega arith) }

begin_at : (first : ℕ) (entries : List Entry) → BeginAt first entries → (e : Entry) × (slice_get entries 0 ≡ Some e) × (e.address ≡ Ok first)
begin_at first [] begin = absurd begin
begin_at first (e ∷ entries) begin = (e, refl, begin)

found_in_page : (global : List Opcode) (page : Page) (first next pc : ℕ) → BeginAt first (entries_of global page) → AscendWithin first next (entries_of global page) → first ≤ pc → pc < next → (answer : Result (Option Function) Error) → IsPageLookup global page next pc answer →
    IsFoundIn (functions_of next (entries_of global page)) pc answer
found_in_page global page first next pc begin ascend low high answer look = go look.place look.finds look.is
  where
    go : (place : Option ℕ) → Finds (keys_of page) (pc - base_of page) place → answer ≡ answer_at (functions_of next (entries_of global page)) place → IsFoundIn (functions_of next (entries_of global page)) pc answer
    go None finds answered =
        let e = begin_at first (entries_of global page) begin in
        let key = address_of_key global page 0 e.0 first e.1 e.2 in
        let len = length_keys global page in
        let inside = slice_get_within (entries_of global page) 0 e.0 e.1 in
        let before = finds (omega arith) in
        absurd (omega arith)
    go (Some j) finds answered =
        let e = begin_at first (entries_of global page) begin in
        let key = address_of_key global page 0 e.0 first e.1 e.2 in
        at_boundary global page first next pc ascend (omega arith) high j finds answer answered

-- ---- pages
described_at : (bytes : List ℕ) (global : List Opcode) (pages : List PageEntry) → AreDescribed bytes global pages → (i : ℕ) (page next : PageEntry) → slice_get pages i ≡ Some page → slice_get pages (i + 1) ≡ Some next → IsDescribedPage bytes global page (first_address next)
described_at bytes global [] are i page next at after = absurd cc
described_at bytes global (p ∷ []) are zero page next at after = absurd cc
described_at bytes global (p ∷ []) are (suc i) page next at after = absurd cc
described_at bytes global (p ∷ q ∷ pages) are zero page next at after =
    subst (λ (x : PageEntry). IsDescribedPage bytes global x (first_address next)) (same_some p page at)
    (subst (λ (x : PageEntry). IsDescribedPage bytes global p (first_address x)) (same_some q next after) are.1)
described_at bytes global (p ∷ q ∷ pages) are (suc i) page next at after =
    let more : suc i + 1 ≡ suc (i + 1) = omega arith in
    described_at bytes global (q ∷ pages) are.2 i page next at (sym (ap (slice_get (p ∷ q ∷ pages)) more) ∙ after)

in_listing : (bytes : List ℕ) (global : List Opcode) (pages : List PageEntry) (i : ℕ) (page next : PageEntry) → slice_get pages i ≡ Some page → slice_get pages (i + 1) ≡ Some next →
    (k : ℕ) (x : Result Function Error) → slice_get (page_places global (first_address next) (page_of bytes page >>= whole_page)) k ≡ Some x → (l : ℕ) × (slice_get (places_of bytes global pages) l ≡ Some x)
in_listing bytes global [] i page next at after k x e = absurd cc
in_listing bytes global (p ∷ []) zero page next at after k x e = absurd cc
in_listing bytes global (p ∷ []) (suc i) page next at after k x e = absurd cc
in_listing bytes global (p ∷ q ∷ pages) zero page next at after k x e =
    let own : slice_get (page_places global (first_address q) (page_of bytes p >>= whole_page)) k ≡ Some x =
    ap (λ (y : PageEntry). slice_get (page_places global (first_address y) (page_of bytes p >>= whole_page)) k) (same_some q next after) ∙
    ap (λ (y : PageEntry). slice_get (page_places global (first_address next) (page_of bytes y >>= whole_page)) k) (same_some p page at) ∙ e in
    (k, get_left (page_places global (first_address q) (page_of bytes p >>= whole_page)) (places_of bytes global (q ∷ pages)) k x own)
in_listing bytes global (p ∷ q ∷ pages) (suc i) page next at after k x e =
    let more : suc i + 1 ≡ suc (i + 1) = omega arith in
    let inner = in_listing bytes global (q ∷ pages) i page next at (sym (ap (slice_get (p ∷ q ∷ pages)) more) ∙ after) k x e in
    get_right (page_places global (first_address q) (page_of bytes p >>= whole_page)) (places_of bytes global (q ∷ pages)) inner.0 x inner.1

opened_as : (r : Result Page Error) (page : Page) → (r >>= whole_page) ≡ Ok page → r ≡ Ok page
opened_as (Err e) page reads = absurd cc
opened_as (Ok (Regular functions)) page reads = reads
opened_as (Ok (Compressed first functions (Ok opcodes))) page reads = reads
opened_as (Ok (Compressed first functions (Err e))) page reads = absurd cc

-- addresses of pages ascend
first_least : (bytes : List ℕ) (global : List Opcode) (p : PageEntry) (pages : List PageEntry) → AreDescribed bytes global (p ∷ pages) → (i : ℕ) (x : PageEntry) → slice_get (p ∷ pages) i ≡ Some x → first_address p ≤ first_address x
first_least bytes global p pages are zero x at = let same = ap first_address (same_some p x at) in omega arith
first_least bytes global p [] are (suc i) x at = absurd cc
first_least bytes global p (q ∷ pages) are (suc i) x at = let inner = first_least bytes global q pages are.2 i x at in let here = are.0 in omega arith

last_greatest : (bytes : List ℕ) (global : List Opcode) (p : PageEntry) (pages : List PageEntry) → AreDescribed bytes global (p ∷ pages) → (i : ℕ) (x : PageEntry) → slice_get (p ∷ pages) i ≡ Some x → first_address x ≤ last_address p pages
last_greatest bytes global p [] are zero x at = let same = ap first_address (same_some p x at) in omega arith
last_greatest bytes global p [] are (suc i) x at = absurd cc
last_greatest bytes global p (q ∷ pages) are zero x at =
    let same = ap first_address (same_some p x at) in let here = are.0 in
    let inner = last_greatest bytes global q pages are.2 zero q refl in omega arith
last_greatest bytes global p (q ∷ pages) are (suc i) x at = last_greatest bytes global q pages are.2 i x at

-- ---- the laws
some_page : (pages : List PageEntry) (pc : ℕ) → pc < get_or (map first_address pages) (length pages - 1) 0 → 0 < length (map first_address pages)
some_page [] pc h = absurd (omega arith)
some_page (p ∷ pages) pc h = omega arith

-- a page with another after it, whose address is after pc
between : (info : Section) (pc : ℕ) (answer : Result (Option Function) Error) → HasDescribedPages info → (i : ℕ) (page next : PageEntry) → slice_get info.pages i ≡ Some page → slice_get info.pages (i + 1) ≡ Some next →
    IsBoundary (page_addresses info) pc i → IsAnswerAt info pc (Some i) answer → FindsListed info pc answer
between info pc answer are i page next at after is answered =
    let described = described_at info.bytes info.global_opcodes info.pages are i page next at after in
    let from : IsAnswerFrom info pc (Some page) (Some next) answer =
    subst (λ (o : Option PageEntry). IsAnswerFrom info pc (Some page) o answer) after
    (subst (λ (o : Option PageEntry). IsAnswerFrom info pc o (slice_get info.pages (i + 1)) answer) at answered) in
    let look : IsPageLookup info.global_opcodes described.opened (first_address next) pc answer =
    subst (λ (r : Result Page Error). MatchResult r (λ opened. IsPageLookup info.global_opcodes opened (first_address next) pc answer) (λ e. answer ≡ Err e))
    (opened_as (page_of info.bytes page) described.opened described.reads) from in
    let key = key_of_record first_address info.pages i page at in
    let key' = key_of_record first_address info.pages (i + 1) next after in
    let inside = slice_get_within info.pages (i + 1) next after in
    let len = length-map info.pages first_address in
    let low : first_address page ≤ pc = (let h = is.at_or_before in omega arith) in
    let high : pc < first_address next = (let h = is.next_after (omega arith) in omega arith) in
    let found = found_in_page info.global_opcodes described.opened (first_address page) (first_address next) pc described.begin described.ascend low high answer look in
    let listed = in_listing info.bytes info.global_opcodes info.pages i page next at after found.place (Ok found.function)
    (ap (λ (r : Result Page Error). slice_get (page_places info.global_opcodes (first_address next) r) found.place) described.reads ∙ found.at) in
    (found.function, found.is, record { listed = contained_at (listing info) listed.0 (Ok found.function) listed.1; covers = found.covers })

pub inside : (info : Section) (pc : ℕ) (answer : Result (Option Function) Error) → HasDescribedPages info → IsLookup info pc answer → IsInRange info pc → FindsListed info pc answer
inside info pc answer are look range = go look.page look.finds look.is
  where
    last : (i : ℕ) (page : PageEntry) → slice_get info.pages i ≡ Some page → (o : Option PageEntry) → slice_get info.pages (i + 1) ≡ o → IsBoundary (page_addresses info) pc i → IsAnswerAt info pc (Some i) answer → FindsListed info pc answer
    last i page at None after is answered =
        let inside = slice_get_within info.pages i page at in
        let end = none_at info.pages (i + 1) after in
        let i_is : i ≡ length info.pages - 1 = omega arith in
        let below : get_or (map first_address info.pages) (length info.pages - 1) 0 ≤ pc = subst (λ (k : ℕ). get_or (map first_address info.pages) k 0 ≤ pc) i_is is.at_or_before in
        let above = range.1 in
        absurd (omega arith)
    last i page at (Some next) after is answered = between info pc answer are i page next at after is answered

    go : (place : Option ℕ) → Finds (page_addresses info) pc place → IsAnswerAt info pc place answer → FindsListed info pc answer
    go None finds answered =
        let before = finds (some_page info.pages pc range.1) in
        let from = range.0 in
        absurd (omega arith)
    go (Some i) finds answered =
        let len = length-map info.pages first_address in
        let page = some_at info.pages i (let h = finds.within in omega arith) in
        last i page.0 page.1 (slice_get info.pages (i + 1)) refl finds answered

first_key : (bytes : List ℕ) (global : List Opcode) (pages : List PageEntry) → AreDescribed bytes global pages → (i : ℕ) (page : PageEntry) → slice_get pages i ≡ Some page → get_or (map first_address pages) 0 0 ≤ first_address page
first_key bytes global [] are i page at = absurd cc
first_key bytes global (p ∷ pages) are i page at = first_least bytes global p pages are i page at

last_key : (bytes : List ℕ) (global : List Opcode) (pages : List PageEntry) → AreDescribed bytes global pages → (i : ℕ) (page : PageEntry) → slice_get pages i ≡ Some page → first_address page ≤ get_or (map first_address pages) (length pages - 1) 0
last_key bytes global [] are i page at = absurd cc
last_key bytes global (p ∷ pages) are i page at = rw (last_address_is p pages) (last_greatest bytes global p pages are i page at)

pub outside : (info : Section) (pc : ℕ) (answer : Result (Option Function) Error) → HasDescribedPages info → IsLookup info pc answer → IsOutside info pc → answer ≡ Ok None
outside info pc answer are look out = go look.page look.finds look.is
  where
    after_page : (i : ℕ) (page : PageEntry) → slice_get info.pages i ≡ Some page → (o : Option PageEntry) → slice_get info.pages (i + 1) ≡ o → IsBoundary (page_addresses info) pc i → IsAnswerAt info pc (Some i) answer → IsOutside info pc → answer ≡ Ok None
    after_page i page at None after is answered out =
        subst (λ (o : Option PageEntry). IsAnswerFrom info pc (Some page) o answer) after
        (subst (λ (o : Option PageEntry). IsAnswerFrom info pc o (slice_get info.pages (i + 1)) answer) at answered)
    after_page i page at (Some next) after is answered (inl before) =
        let key = key_of_record first_address info.pages i page at in
        let least = first_key info.bytes info.global_opcodes info.pages are i page at in
        let low = is.at_or_before in
        absurd (omega arith)
    after_page i page at (Some next) after is answered (inr end) =
        let key = key_of_record first_address info.pages (i + 1) next after in
        let greatest = last_key info.bytes info.global_opcodes info.pages are (i + 1) next after in
        let inside = slice_get_within info.pages (i + 1) next after in
        let len = length-map info.pages first_address in
        let high = is.next_after (omega arith) in
        absurd (omega arith)

    go : (place : Option ℕ) → Finds (page_addresses info) pc place → IsAnswerAt info pc place answer → answer ≡ Ok None
    go None finds answered = answered
    go (Some i) finds answered =
        let len = length-map info.pages first_address in
        let page = some_at info.pages i (let h = finds.within in omega arith) in
        after_page i page.0 page.1 (slice_get info.pages (i + 1)) refl finds answered out

pub each : (info : Section) (pc : ℕ) (answer : Result (Option Function) Error) → HasDescribedPages info → IsLookup info pc answer → FindsEachListed info pc answer
each info pc answer are look f is =
    let lie = listing_end_to_end info are in
    let place = place_of_contained (listing info) (Ok f) is.listed in
    let within = lies_within (range_start info) (range_end info) (listing info) lie place.0 f place.1 in
    let low : range_start info ≤ pc = (let a = within.0 in let b = is.covers.0 in omega arith) in
    let high : pc < range_end info = (let a = within.1 in let b = is.covers.1 in omega arith) in
    let found = inside info pc answer are look (low, high) in
    let place' = place_of_contained (listing info) (Ok found.0) found.2.listed in
    let same = one_covers (range_start info) (range_end info) (listing info) lie pc place'.0 place.0 found.0 f place'.1 place.1 found.2.covers is.covers in
    found.1 ∙ ap (λ (g : Function). Ok (Some g)) same
