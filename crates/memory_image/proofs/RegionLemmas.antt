-- The entries of the map of regions: what a search by key finds, and what one more entry changes.
use denote.Ref.{Bor}
use Rattle.std.proofs.Common.{◌≡◌, ℕ, zero, suc, ◌+◌, ◌^◌, ◌<◌, ◌≤◌, Bool, true, false, List, [], ◌∷◌, ◌++◌, Option, Some, None, unwrap_or, refl, sym, ap, ◌∙◌, subst, arith, ltb, inl, inr, length}
use Rattle.std.proofs.lemmas.Bool.Decides.{nat_tests, leb_tells}
use Rattle.std.specs.declared.cmp.Ordering.TheVariants.{Less, Equal, Greater}
use Rattle.std.specs.declared.ops.Bound.TheVariants.{Included, Excluded, Unbounded}
use Rattle.std.specs.BTreeMap.{insert_entry}
use Rattle.std.specs.BTreeMap.Range.{range_contains, entries_between}
use Rattle.std.specs.Cmp.{nat_cmp_is}
use Rattle.std.specs.List.{filter}
use Rattle.std.specs.Option.{option_map}
use Rattle.std.specs.Ordering.{nat_cmp}
use Rattle.memory_image.specs.Image.{Span, end_of, IsLaidOut, lowest_overlap, with_span, AddsRegion}
use Rattle.memory_image.specs.Regions.{span_of, bytes_at, span_at, spans_of, span_below, start_above}
use Rattle.memory_image.proofs.SpanAdds.{apart, laid-with_span, adds-with_span}

-- a first address and the place of the bytes from there
abbrev pub Entry : Type 0
Entry = ℕ × ℕ

-- the bytes at their places
abbrev pub Lent : Type 0
Lent = List (Bor (List ℕ))

cmp_less : (a b : ℕ) → a < b → nat_cmp a b ≡ Less
cmp_less a b h = sym (nat_cmp_is a b Less h)

cmp_equal : (a b : ℕ) → a ≡ b → nat_cmp a b ≡ Equal
cmp_equal a b h = sym (nat_cmp_is a b Equal h)

cmp_greater : (a b : ℕ) → b < a → nat_cmp a b ≡ Greater
cmp_greater a b h = sym (nat_cmp_is a b Greater h)

-- ---- the entries up to an address

abbrev pub last_of : {X : Type 0} → List X → Option X
last_of [] = None
last_of (x ∷ xs) = Some (unwrap_or (last_of xs) x)

last_of-append : {X : Type 0} (xs : List X) (x : X) → last_of (xs ++ x ∷ []) ≡ Some x
last_of-append [] x = refl
last_of-append (y ∷ xs) x = rw (last_of-append xs x) refl

-- a test of first addresses that passes up to an address
record PassesUpTo (a : ℕ) (p : ℕ → Bool) : Type 0 where
  below : (k : ℕ) → k ≤ a → p k ≡ true
  above : (k : ℕ) → a < k → p k ≡ false

filter_none : (a : ℕ) (p : ℕ → Bool) → PassesUpTo a p → (rs : Lent) (es : List Entry) (low : ℕ) → IsLaidOut low (spans_of rs es) → a < low → filter (λ e. p e.0) es ≡ []
filter_none a p t rs [] low laid h = refl
filter_none a p t rs (e ∷ es) low laid h = rw (t.above e.0 (omega (arith, laid.0))) (filter_none a p t rs es (end_of (span_at rs e)) laid.3 (omega (arith, laid.0)))

map_last : (rs : Lent) (o : Option Entry) (e : Entry) → option_map (span_at rs) (Some (unwrap_or o e)) ≡ Some (unwrap_or (option_map (span_at rs) o) (span_at rs e))
map_last rs None e = refl
map_last rs (Some f) e = refl

last_of-filter : (a : ℕ) (p : ℕ → Bool) → PassesUpTo a p → (rs : Lent) (es : List Entry) (low : ℕ) → IsLaidOut low (spans_of rs es) → option_map (span_at rs) (last_of (filter (λ e. p e.0) es)) ≡ span_below (spans_of rs es) a
last_of-filter a p t rs [] low laid = refl
last_of-filter a p t rs (e ∷ es) low laid =
    elim (leb_tells e.0 a) [
      | inl q ↦ rw (t.below e.0 q.1, q.0) (map_last rs (last_of (filter (λ f. p f.0) es)) e ∙ rw (last_of-filter a p t rs es (end_of (span_at rs e)) laid.3) refl)
      | inr q ↦ rw (t.above e.0 q.1, q.0, filter_none a p t rs es (end_of (span_at rs e)) laid.3 (omega (arith, q.1))) refl
    ]

up_to : (a : ℕ) → PassesUpTo a (range_contains nat_cmp Unbounded (Included a))
up_to a =
    record {
      below = λ k h. elim (leb_tells a k) [
        | inl q ↦ rw (cmp_equal a k (omega (arith, q.1))) refl
        | inr q ↦ rw (cmp_greater a k q.1) refl
      ];
      above = λ k h. rw (cmp_less a k h) refl;
    }

pub below-found : (rs : Lent) (es t : List Entry) (a : ℕ) (e : Entry) → IsLaidOut 0 (spans_of rs es) → entries_between nat_cmp Unbounded (Included a) es ≡ t ++ e ∷ [] → span_below (spans_of rs es) a ≡ Some (span_at rs e)
below-found rs es t a e laid is = sym (last_of-filter a _ (up_to a) rs es 0 laid) ∙ rw (is, last_of-append t e) refl

pub below-none : (rs : Lent) (es : List Entry) (a : ℕ) → IsLaidOut 0 (spans_of rs es) → entries_between nat_cmp Unbounded (Included a) es ≡ [] → span_below (spans_of rs es) a ≡ None
below-none rs es a laid is = sym (last_of-filter a _ (up_to a) rs es 0 laid) ∙ rw is refl

-- ---- the entries above an address

first_start : List Entry → Option ℕ
first_start [] = None
first_start (e ∷ es) = Some e.0

record PassesAbove (a : ℕ) (p : ℕ → Bool) : Type 0 where
  below : (k : ℕ) → k ≤ a → p k ≡ false
  above : (k : ℕ) → a < k → p k ≡ true

first_start-filter : (a : ℕ) (p : ℕ → Bool) → PassesAbove a p → (rs : Lent) (es : List Entry) → first_start (filter (λ e. p e.0) es) ≡ start_above (spans_of rs es) a
unfolding first_start
first_start-filter a p t rs [] = refl
first_start-filter a p t rs (e ∷ es) =
    elim (leb_tells e.0 a) [
      | inl q ↦ let no : ltb a e.0 ≡ false = grind (arith, nat_tests) in rw (t.below e.0 q.1, no) (first_start-filter a p t rs es)
      | inr q ↦ let yes : ltb a e.0 ≡ true = grind (arith, nat_tests) in rw (t.above e.0 q.1, yes) refl
    ]

from_above : (a : ℕ) → PassesAbove a (range_contains nat_cmp (Excluded a) Unbounded)
from_above a =
    record {
      below = λ k h. elim (leb_tells a k) [
        | inl q ↦ rw (cmp_equal a k (omega (arith, q.1))) refl
        | inr q ↦ rw (cmp_greater a k q.1) refl
      ];
      above = λ k h. rw (cmp_less a k h) refl;
    }

pub above-found : (rs : Lent) (es t : List Entry) (a : ℕ) (e : Entry) → entries_between nat_cmp (Excluded a) Unbounded es ≡ e ∷ t → start_above (spans_of rs es) a ≡ Some e.0
unfolding first_start
above-found rs es t a e is = sym (first_start-filter a _ (from_above a) rs es) ∙ rw is refl

pub above-none : (rs : Lent) (es : List Entry) (a : ℕ) → entries_between nat_cmp (Excluded a) Unbounded es ≡ [] → start_above (spans_of rs es) a ≡ None
unfolding first_start
above-none rs es a is = sym (first_start-filter a _ (from_above a) rs es) ∙ rw is refl

-- ---- one more entry

spans_of-insert_entry : (rs : Lent) (es : List Entry) (low : ℕ) (e : Entry) → IsLaidOut low (spans_of rs es) → 0 < length (bytes_at rs e.1) → lowest_overlap (spans_of rs es) e.0 (length (bytes_at rs e.1)) ≡ None
    → spans_of rs (insert_entry nat_cmp es e.0 e.1) ≡ with_span (span_at rs e) (spans_of rs es)
spans_of-insert_entry rs [] low n laid some none = refl
spans_of-insert_entry rs (e ∷ es) low n laid some none =
    let apart_from = apart (span_at rs n) (span_at rs e) (spans_of rs es) none in
    elim (leb_tells e.0 n.0) [
      | inl q ↦
          let no : ltb n.0 e.0 ≡ false = grind (arith, nat_tests) in
          let after : end_of (span_at rs e) ≤ n.0 = elim apart_from.here [ inl h ↦ h | inr h ↦ absurd (omega (arith, q.1)) ] in
          rw (cmp_greater n.0 e.0 (omega (arith, laid.1)), no) (ap (λ (us : List Span). span_at rs e ∷ us) (spans_of-insert_entry rs es (end_of (span_at rs e)) n laid.3 some apart_from.rest))
      | inr q ↦ let yes : ltb n.0 e.0 ≡ true = grind (arith, nat_tests) in rw (cmp_less n.0 e.0 q.1, yes) refl
    ]

-- ---- one more list of bytes

bytes_at-more : (rs : Lent) (b : Bor (List ℕ)) (i : ℕ) → 0 < length (bytes_at rs i) → bytes_at (rs ++ b ∷ []) i ≡ bytes_at rs i
bytes_at-more [] b i some = absurd (omega arith)
bytes_at-more (r ∷ rs) b zero some = refl
bytes_at-more (r ∷ rs) b (suc i) some = bytes_at-more rs b i some

bytes_at-last : (rs : Lent) (b : Bor (List ℕ)) → bytes_at (rs ++ b ∷ []) (length rs) ≡ b.now
bytes_at-last [] b = refl
bytes_at-last (r ∷ rs) b = bytes_at-last rs b

pub spans_of-more : (rs : Lent) (b : Bor (List ℕ)) (es : List Entry) (low : ℕ) → IsLaidOut low (spans_of rs es) → spans_of (rs ++ b ∷ []) es ≡ spans_of rs es
spans_of-more rs b [] low laid = refl
spans_of-more rs b (e ∷ es) low laid =
    let here : span_at (rs ++ b ∷ []) e ≡ span_at rs e = ap (λ (bytes : List ℕ). let s : Span = record { start = e.0; bytes = bytes } in s) (bytes_at-more rs b e.1 laid.1) in
    let rest : spans_of (rs ++ b ∷ []) es ≡ spans_of rs es = spans_of-more rs b es (end_of (span_at rs e)) laid.3 in
    rw (here, rest) refl

pub record IsAdded (old new : List Span) (a : ℕ) (bytes : Bor (List ℕ)) : Type 0 where
  pub laid_out : IsLaidOut 0 new
  pub adds : AddsRegion old new a bytes.now

pub added : (rs : Lent) (old new : List Entry) (a : ℕ) (bytes : Bor (List ℕ)) → IsLaidOut 0 (spans_of rs old) → 0 < length bytes.now → a + length bytes.now ≤ 2 ^ 64 → lowest_overlap (spans_of rs old) a (length bytes.now) ≡ None
    → new ≡ insert_entry nat_cmp old a (length rs) → IsAdded (spans_of rs old) (spans_of (rs ++ bytes ∷ []) new) a bytes
added rs old new a bytes laid some fits none is =
    let more : Lent = rs ++ bytes ∷ [] in
    let last : bytes_at more (length rs) ≡ bytes.now = bytes_at-last rs bytes in
    let same : spans_of more old ≡ spans_of rs old = spans_of-more rs bytes old 0 laid in
    let region : Span = record { start = a; bytes = bytes.now } in
    let laid_more : IsLaidOut 0 (spans_of more old) = subst (IsLaidOut 0) (sym same) laid in
    let some_more : 0 < length (bytes_at more (length rs)) = rw last some in
    let none_more : lowest_overlap (spans_of more old) a (length (bytes_at more (length rs))) ≡ None = rw (same, last) none in
    let spans : spans_of more new ≡ with_span region (spans_of rs old) =
    ap (spans_of more) is ∙ spans_of-insert_entry more old 0 (a, length rs) laid_more some_more none_more
    ∙ ap (λ (t : List ℕ). with_span (record { start = a; bytes = t }) (spans_of more old)) last ∙ ap (with_span region) same in
    record {
      laid_out = rw spans (laid-with_span region (spans_of rs old) 0 laid (omega arith) some fits none);
      adds = adds-with_span region (spans_of rs old) (spans_of more new) laid some none spans;
    }

-- ---- the span below an address x ends at or below a

pub ends_by-found : (ss : List Span) (x a start : ℕ) (bytes : Bor (List ℕ)) → Some (span_of (start, bytes)) ≡ span_below ss x → start + length bytes.now ≤ a → (t : Span) → span_below ss x ≡ Some t → end_of t ≤ a
ends_by-found ss x a start bytes is ends t e = let same : span_of (start, bytes) ≡ t = cc in rw (sym same) ends

pub ends_by-none : (ss : List Span) (x a : ℕ) → None ≡ span_below ss x → (t : Span) → span_below ss x ≡ Some t → end_of t ≤ a
ends_by-none ss x a is t e = let bad : None ≡ Some t = is ∙ e in cc

pub past_end : (a n : ℕ) → (n ≤ a → false ≡ true) → a < n
past_end a n h = elim (leb_tells n a) [ inl p ↦ let bad = h p.1 in cc | inr p ↦ p.1 ]
