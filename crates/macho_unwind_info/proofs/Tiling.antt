-- The functions of described pages lie end to end.
use Rattle.std.proofs.Common.{◌≡◌, ℕ, zero, suc, ◌+◌, ◌-◌, ◌≤◌, List, [], ◌∷◌, ◌++◌, length, map, Option, Some, None, Result, Ok, get_or, refl, arith, ap, sym, subst, ◌∙◌}
use Rattle.std.specs.Prelude.{slice_get, Contains}
use Rattle.std.proofs.lemmas.Option.{slice_get-get_or, slice_get_within, get_or_from_slice_get}
use Rattle.memory_image.specs.Results.{◌>>=◌}
use Rattle.macho_unwind_info.specs.Listing.{Section, page_of, whole_page, entries_of, end_of, function_of, functions_of, page_places, places_of, listing}
use Rattle.macho_unwind_info.specs.Lookup.{first_address, range_start, range_end}
use Rattle.macho_unwind_info.specs.Described.{IsEntryWithin, AscendWithin, BeginAt, IsDescribedPage, AreDescribed, HasDescribedPages, Covers, IsNext, LieEndToEnd}
use Rattle.macho_unwind_info.specs.declared.error.Error.{Error}
use Rattle.macho_unwind_info.specs.declared.raw.format.Opcode.{Opcode}
use Rattle.macho_unwind_info.specs.declared.raw.format.PageEntry.{PageEntry}
use Rattle.macho_unwind_info.specs.declared.page.Page.{Page}
use Rattle.macho_unwind_info.specs.declared.page.Entry.{Entry}
use Rattle.macho_unwind_info.specs.declared.function.Function.{Function}

-- ---- end to end
pub join : (low mid high : ℕ) (xs ys : List (Result Function Error)) → LieEndToEnd low mid xs → LieEndToEnd mid high ys → LieEndToEnd low high (xs ++ ys)
join low mid high [] ys a b = subst (λ (n : ℕ). LieEndToEnd n high ys) (sym a) b
join low mid high (x ∷ xs) ys a b = (a.0, join a.0.function.end_address mid high xs ys a.1 b)

-- the function of an entry with others after it
pub made : (next : ℕ) (entry : Entry) (after : Option Entry) (start end opcode : ℕ) → entry.address ≡ Ok start → end_of next after ≡ Ok end → entry.opcode ≡ Ok opcode →
    function_of next entry after ≡ Ok (record { start_address = start; end_address = end; opcode = opcode })
made next entry after start end opcode s e o = rw (s, e, o) refl

-- the entries of a page, the first at the low address
page_end_to_end : (low next : ℕ) (entry : Entry) (entries : List Entry) (within : IsEntryWithin low next entry) → AscendWithin (within.at + 1) next entries → LieEndToEnd within.at next (functions_of next (entry ∷ entries))
page_end_to_end low next entry [] within ascend = (
  record {
    function = record { start_address = within.at; end_address = next; opcode = within.opcode };
    is = made next entry None within.at next within.opcode within.is refl within.reads;
    start = refl;
    ends_after = within.below_high;
  },
  refl,
)
page_end_to_end low next entry (after ∷ entries) within ascend = (
  record {
    function = record { start_address = within.at; end_address = ascend.0.at; opcode = within.opcode };
    is = made next entry (Some after) within.at ascend.0.at within.opcode within.is ascend.0.is within.reads;
    start = refl;
    ends_after = (let h : within.at + 1 ≤ ascend.0.at = ascend.0.from_low in omega arith);
  },
  page_end_to_end (within.at + 1) next after entries ascend.0 ascend.1,
)

same_ok : {A E : Type 0} (x y : A) → ◌≡◌ {A = Result A E} (Ok x) (Ok y) → x ≡ y
same_ok x y e = cc

entries_end_to_end : (first next : ℕ) (entries : List Entry) → BeginAt first entries → AscendWithin first next entries → LieEndToEnd first next (functions_of next entries)
entries_end_to_end first next [] begin ascend = absurd begin
entries_end_to_end first next (entry ∷ entries) begin ascend =
    let at : ascend.0.at ≡ first = same_ok {E = Error} _ _ (sym ascend.0.is ∙ begin) in
    subst (λ (n : ℕ). LieEndToEnd n next (functions_of next (entry ∷ entries))) at (page_end_to_end first next entry entries ascend.0 ascend.1)

described_end_to_end : (bytes : List ℕ) (global : List Opcode) (page : PageEntry) (next : ℕ) → IsDescribedPage bytes global page next → LieEndToEnd (first_address page) next (page_places global next (page_of bytes page >>= whole_page))
described_end_to_end bytes global page next is =
    subst (λ (r : Result Page Error). LieEndToEnd (first_address page) next (page_places global next r)) (sym is.reads) (entries_end_to_end (first_address page) next (entries_of global is.opened) is.begin is.ascend)

-- the last page's address
abbrev pub last_address : PageEntry → List PageEntry → ℕ
last_address page [] = first_address page
last_address page (next ∷ pages) = last_address next pages

pub pages_end_to_end : (bytes : List ℕ) (global : List Opcode) (page : PageEntry) (pages : List PageEntry) → AreDescribed bytes global (page ∷ pages) → LieEndToEnd (first_address page) (last_address page pages) (places_of bytes global (page ∷ pages))
pages_end_to_end bytes global page [] are = refl
pages_end_to_end bytes global page (next ∷ pages) are =
    join (first_address page) (first_address next) (last_address next pages) (page_places global (first_address next) (page_of bytes page >>= whole_page)) (places_of bytes global (next ∷ pages))
    (described_end_to_end bytes global page (first_address next) are.1) (pages_end_to_end bytes global next pages are.2)

pub last_address_is : (page : PageEntry) (pages : List PageEntry) → get_or (map first_address (page ∷ pages)) (length (page ∷ pages) - 1) 0 ≡ last_address page pages
last_address_is page [] = refl
last_address_is page (next ∷ pages) =
    let more : length (page ∷ next ∷ pages) - 1 ≡ suc (length (next ∷ pages) - 1) = omega arith in
    ap (λ (i : ℕ). get_or (map first_address (page ∷ next ∷ pages)) i 0) more ∙ last_address_is next pages

pub listing_end_to_end : (info : Section) → HasDescribedPages info → LieEndToEnd (range_start info) (range_end info) (listing info)
listing_end_to_end info are = go info.pages are
  where
    go : (pages : List PageEntry) → AreDescribed info.bytes info.global_opcodes pages → LieEndToEnd (get_or (map first_address pages) 0 0) (get_or (map first_address pages) (length pages - 1) 0) (places_of info.bytes info.global_opcodes pages)
    go [] are = refl
    go (page ∷ pages) are = rw (last_address_is page pages) (pages_end_to_end info.bytes info.global_opcodes page pages are)

-- ---- one function at most covers an address
-- where a place stands
pub place_of_contained : {A : Type 0} (xs : List A) (x : A) → Contains xs x → (k : ℕ) × (slice_get xs k ≡ Some x)
place_of_contained xs x has = (has.0, slice_get-get_or xs has.0 x has.1 ∙ ap Some has.2)

pub contained_at : {A : Type 0} (xs : List A) (k : ℕ) (x : A) → slice_get xs k ≡ Some x → Contains xs x
contained_at xs k x e = (k, slice_get_within xs k x e, get_or_from_slice_get xs k x x e)

pub rises : (low high : ℕ) (places : List (Result Function Error)) → LieEndToEnd low high places → low ≤ high
rises low high [] lie = omega arith
rises low high (place ∷ places) lie =
    let after = lie.0.ends_after in
    let rest = rises lie.0.function.end_address high places lie.1 in
    omega arith

some_place : {A : Type 0} (x y : A) → ◌≡◌ {A = Option A} (Some x) (Some y) → x ≡ y
some_place x y e = cc

head_is : (low : ℕ) (place : Result Function Error) (next : IsNext low place) (f : Function) → ◌≡◌ {A = Option (Result Function Error)} (Some place) (Some (Ok f)) → next.function ≡ f
head_is low place next f e = same_ok {E = Error} _ _ (sym next.is ∙ some_place place (Ok f) e)

-- each function lies between the ends
pub lies_within : (low high : ℕ) (places : List (Result Function Error)) → LieEndToEnd low high places → (k : ℕ) (f : Function) → slice_get places k ≡ Some (Ok f) → (low ≤ f.start_address) × (f.end_address ≤ high)
lies_within low high [] lie k f e = absurd cc
lies_within low high (place ∷ places) lie zero f e =
    let rest = rises lie.0.function.end_address high places lie.1 in
    let start = lie.0.start in
    subst (λ (g : Function). (low ≤ g.start_address) × (g.end_address ≤ high)) (head_is low place lie.0 f e) (omega arith, rest)
lies_within low high (place ∷ places) lie (suc k) f e =
    let inner = lies_within lie.0.function.end_address high places lie.1 k f e in
    let after = lie.0.ends_after in
    (omega (arith, inner.0), inner.1)

pub one_covers : (low high : ℕ) (places : List (Result Function Error)) → LieEndToEnd low high places → (pc k l : ℕ) (f g : Function) → slice_get places k ≡ Some (Ok f) → slice_get places l ≡ Some (Ok g) → Covers f pc → Covers g pc → f ≡ g
one_covers low high [] lie pc k l f g at_k at_l covers_f covers_g = absurd cc
one_covers low high (place ∷ places) lie pc zero zero f g at_k at_l covers_f covers_g = sym (head_is low place lie.0 f at_k) ∙ head_is low place lie.0 g at_l
one_covers low high (place ∷ places) lie pc zero (suc l) f g at_k at_l covers_f covers_g =
    let inner = lies_within lie.0.function.end_address high places lie.1 l g at_l in
    let end = ap (λ (h : Function). h.end_address) (head_is low place lie.0 f at_k) in
    absurd (omega (arith, inner.0, end, covers_f.1, covers_g.0))
one_covers low high (place ∷ places) lie pc (suc k) zero f g at_k at_l covers_f covers_g =
    let inner = lies_within lie.0.function.end_address high places lie.1 k f at_k in
    let end = ap (λ (h : Function). h.end_address) (head_is low place lie.0 g at_l) in
    absurd (omega (arith, inner.0, end, covers_g.1, covers_f.0))
one_covers low high (place ∷ places) lie pc (suc k) (suc l) f g at_k at_l covers_f covers_g = one_covers lie.0.function.end_address high places lie.1 pc k l f g at_k at_l covers_f covers_g
