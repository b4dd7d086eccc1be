-- Regions that an image takes, and modules that a space takes: those that have ranges, which are disjoint.
use Rattle.std.proofs.Common.{◌≡◌, ℕ, ◌+◌, ◌-◌, ◌^◌, ◌<◌, ◌≤◌, Bool, true, false, cond, ◌&&◌, List, [], ◌∷◌, length, Vec, Global, Option, Some, None, option_map, inl, inr, refl, sym, subst, ◌∙◌, arith, ltb, leb, eqb, lit<}
use Rattle.std.specs.Prelude.{is_none, ◌↔◌, IsTrue}
use Rattle.std.specs.List.{All, AllByRecursion, count_by}
use Rattle.std.specs.Option.{option_and_then}
use Rattle.std.proofs.lemmas.Bool.Decides.{nat_tests, leb_tells, same_from_decides}
use Rattle.std.proofs.lemmas.List.Elements.{All-cons}
use Rattle.memory_image.specs.Image.{Span, end_of, holds, IsLaidOut, overlaps, lowest_overlap, refusal, with_span}
use Rattle.memory_image.specs.declared.errors.ImageError.TheVariants as image_errors
use Rattle.memory_image.proofs.SpanAdds.{laid-with_span}
use Rattle.stack_steps.specs.declared.space.Module.{Module}
use Rattle.stack_steps.specs.declared.space.SpaceError.TheVariants as space_errors
use Rattle.stack_steps.specs.Modules.{AreApart, contains, fits, given_refusal, lowest_shared, shares, with_module}
use Rattle.stack_steps.proofs.Apart.{with_apart}
use Rattle.stack_snapshot.specs.declared.ranges.AddressRange.{AddressRange}
use Rattle.stack_snapshot.specs.Content.{takes_regions, takes_modules, image_of, modules_after}
use Rattle.stack_snapshot.specs.Ranges.{lies_in, AreDisjoint, each_in, module_range, range_with, region_range}
use Rattle.stack_snapshot.proofs.RangeLemmas.{IsRange, at_least, counts, no_more, one_more, only_one}
use Rattle.stack_snapshot.proofs.Taken.{apart_after, laid_after}

and_false : (b : Bool) → (b && false) ≡ false
and_false true = refl
and_false false = refl

-- ---- ranges of a list

-- those that a vector has
abbrev pub items_of : Option (Vec AddressRange Global) → Option (List AddressRange)
items_of = option_map (λ (v : Vec AddressRange Global). v.items)

module _ {X : Type 0} (range : X → Option AddressRange) (holds_at : ℕ → X → Bool) where
  -- the range of one, with the addresses that it holds
  pub record IsRangeOf (x : X) (r : AddressRange) : Type 0 where
    pub ordered : IsRange r
    pub same : (a : ℕ) → lies_in a r ≡ holds_at a x

  pub record AreRangesOf (xs : List X) (rs : List AddressRange) : Type 0 where
    pub ordered : All IsRange rs
    pub same : (a : ℕ) → count_by (lies_in a) rs ≡ count_by (holds_at a) xs

  pub are_ranges : ((x : X) (r : AddressRange) → range x ≡ Some r → IsRangeOf x r) → (xs : List X) (rs : List AddressRange) → each_in range xs ≡ Some rs → AreRangesOf xs rs
  are_ranges one [] rs is = let none : [] ≡ rs = cc in subst (AreRangesOf []) none (record { ordered = λ k d lt. absurd (omega arith); same = λ a. refl })
  are_ranges one (x ∷ xs) rs is = go (range x) refl (each_in range xs) refl (λ ss later. are_ranges one xs ss later) is
    where
      go : (o : Option AddressRange) → range x ≡ o → (os : Option (List AddressRange)) → each_in range xs ≡ os → ((ss : List AddressRange) → each_in range xs ≡ Some ss → AreRangesOf xs ss)
          → option_and_then (λ y. option_map (λ ys. y ∷ ys) os) o ≡ Some rs → AreRangesOf (x ∷ xs) rs
      go None at os later rest e = absurd cc
      go (Some r) at None later rest e = absurd cc
      go (Some r) at (Some ss) later rest e =
          let same : r ∷ ss ≡ rs = cc in
          let first = one x r at in
          let others = rest ss later in
          subst (AreRangesOf (x ∷ xs)) same (record {
            ordered = All-cons IsRange r ss first.ordered others.ordered;
            same = λ a. counts (lies_in a) r ss ∙ (rw (first.same a, others.same a) (sym (counts (holds_at a) x xs)));
          })

-- ---- regions

abbrev held_at : ℕ → Span → Bool
held_at a s = holds s a

-- a region with bytes, none of which lies past the last address
pub record IsPlaced (s : Span) : Type 0 where
  pub some : 0 < length s.bytes
  pub fits : end_of s ≤ 2 ^ 64

region_placed : (s : Span) (r : AddressRange) → region_range s ≡ Some r → IsPlaced s × (range_with s.start (s.start + length s.bytes - 1) ≡ r)
region_placed s r is = go (eqb (length s.bytes) 0) refl (ltb (2 ^ 64) (s.start + length s.bytes)) refl is
  where
    go : (a : Bool) → eqb (length s.bytes) 0 ≡ a → (b : Bool) → ltb (2 ^ 64) (s.start + length s.bytes) ≡ b
        → cond a None (cond b None (Some (range_with s.start (s.start + length s.bytes - 1)))) ≡ Some r → IsPlaced s × (range_with s.start (s.start + length s.bytes - 1) ≡ r)
    go true none b past e = absurd cc
    go false some true past e = absurd cc
    go false some false fits e = (record { some = grind (arith, nat_tests); fits = grind (arith, nat_tests) }, cc)

same_addresses : (s : Span) (a : ℕ) → 0 < length s.bytes → lies_in a (range_with s.start (s.start + length s.bytes - 1)) ≡ holds s a
same_addresses s a some = grind (arith, nat_tests)

region_is : (s : Span) (r : AddressRange) → region_range s ≡ Some r → IsRangeOf region_range held_at s r
region_is s r is =
    let placed = region_placed s r is in
    let some = placed.0.some in
    subst (IsRangeOf region_range held_at s) placed.1 (record { ordered = omega arith; same = λ a. same_addresses s a some })

regions_placed : (ss : List Span) (rs : List AddressRange) → each_in region_range ss ≡ Some rs → AllByRecursion IsPlaced ss
regions_placed [] rs is = tt
regions_placed (s ∷ ss) rs is = go (region_range s) refl (each_in region_range ss) refl (λ qs later. regions_placed ss qs later) is
  where
    go : (o : Option AddressRange) → region_range s ≡ o → (os : Option (List AddressRange)) → each_in region_range ss ≡ os → ((qs : List AddressRange) → each_in region_range ss ≡ Some qs → AllByRecursion IsPlaced ss)
        → option_and_then (λ y. option_map (λ ys. y ∷ ys) os) o ≡ Some rs → AllByRecursion IsPlaced (s ∷ ss)
    go None at os later rest e = absurd cc
    go (Some r) at None later rest e = absurd cc
    go (Some r) at (Some qs) later rest e = ((region_placed s r at).0, rest qs later)

-- how many hold an address, after one more and after all are added
held-with_span : (a : ℕ) (s : Span) (image : List Span) → count_by (held_at a) (with_span s image) ≡ count_by (held_at a) (s ∷ image)
held-with_span a s [] = refl
held-with_span a s (t ∷ ts) = go (ltb s.start t.start) refl (held-with_span a s ts)
  where
    go : (b : Bool) → ltb s.start t.start ≡ b → count_by (held_at a) (with_span s ts) ≡ count_by (held_at a) (s ∷ ts) → count_by (held_at a) (with_span s (t ∷ ts)) ≡ count_by (held_at a) (s ∷ t ∷ ts)
    go true test rest = rw test refl
    go false test rest =
        let here = counts (held_at a) t (with_span s ts) in
        let there = counts (held_at a) s ts in
        let both = counts (held_at a) s (t ∷ ts) in
        let next = counts (held_at a) t ts in
        rw test (omega arith)

held-image_of : (a : ℕ) (image ss : List Span) → count_by (held_at a) (image_of image ss) ≡ count_by (held_at a) image + count_by (held_at a) ss
held-image_of a image [] = let none : count_by (held_at a) [] ≡ 0 = refl in omega arith
held-image_of a image (s ∷ ss) =
    let later = held-image_of a (with_span s image) ss in
    let more = held-with_span a s image in
    let one = counts (held_at a) s image in
    let next = counts (held_at a) s ss in
    omega arith

-- an image holds an address once at most, and none below its first
pub record HoldsOnce (low a : ℕ) (image : List Span) : Type 0 where
  pub below : a < low → count_by (held_at a) image ≡ 0
  pub once : count_by (held_at a) image ≤ 1

holds_once : (low a : ℕ) (image : List Span) → IsLaidOut low image → HoldsOnce low a image
holds_once low a [] laid = record { below = λ lt. refl; once = omega arith }
holds_once low a (t ∷ ts) laid =
    let rest = holds_once (end_of t) a ts laid.3 in
    elim (leb_tells (end_of t) a) [
      | inl p ↦
          let not_here : held_at a t ≡ false = grind (arith, nat_tests) in
          let same = no_more (held_at a) t ts not_here in
          let once = rest.once in
          record { below = λ lt. absurd (omega (arith, p.1, laid.0, laid.1)); once = omega arith }
      | inr p ↦
          let none = rest.below p.1 in
          record {
            below = λ lt. let start = laid.0 in let not_here : held_at a t ≡ false = grind (arith, nat_tests) in no_more (held_at a) t ts not_here ∙ none;
            once = only_one (held_at a) t ts none;
          }
    ]

taken_once : (ss : List Span) → takes_regions [] ss ≡ true → (a : ℕ) → count_by (held_at a) ss ≤ 1
taken_once ss takes a =
    let laid = laid_after [] ss tt takes in
    let once = (holds_once 0 a (image_of [] ss) laid).once in
    let same = held-image_of a [] ss in
    let none : count_by (held_at a) [] ≡ 0 = refl in
    omega arith

-- what holds no address twice has no overlap
no_overlap : (image : List Span) (low : ℕ) (s : Span) (ss : List Span) → IsLaidOut low image → 0 < length s.bytes
    → ((a : ℕ) → count_by (held_at a) image + count_by (held_at a) (s ∷ ss) ≤ 1) → lowest_overlap image s.start (length s.bytes) ≡ None
no_overlap [] low s ss laid some few = refl
no_overlap (t ∷ ts) low s ss laid some few =
    let later : lowest_overlap ts s.start (length s.bytes) ≡ None = no_overlap ts (end_of t) s ss laid.3 some (λ a. let m = at_least (held_at a) t ts in let f = few a in omega arith) in
    let twice : (a : ℕ) → held_at a t ≡ true → held_at a s ≡ true → ⊥ = λ a here there. let m = one_more (held_at a) t ts here in let n = one_more (held_at a) s ss there in let f = few a in omega arith in
    elim (leb_tells (end_of s) t.start) [
      | inl p ↦ let no : overlaps s.start (length s.bytes) t ≡ false = grind (arith, nat_tests) in rw no later
      | inr p ↦
          elim (leb_tells (end_of t) s.start) [
            | inl q ↦ let no : overlaps s.start (length s.bytes) t ≡ false = grind (arith, nat_tests) in rw no later
            | inr q ↦
                let full = laid.1 in
                elim (leb_tells t.start s.start) [
                  | inl h ↦ absurd (twice s.start (held_within t s.start h.1 q.1) (held_within s s.start (omega arith) (omega arith)))
                  | inr h ↦ absurd (twice t.start (held_within t t.start (omega arith) (omega arith)) (held_within s t.start (omega (arith, h.1)) p.1))
                ]
          ]
    ]
  where
    held_within : (t : Span) (a : ℕ) → t.start ≤ a → a < end_of t → held_at a t ≡ true
    held_within t a low high = grind (arith, nat_tests)

free_of : (image : List Span) (s : Span) → IsPlaced s → lowest_overlap image s.start (length s.bytes) ≡ None → is_none (refusal image s.start s.bytes) ≡ true
free_of image s placed none =
    let some : eqb (length s.bytes) 0 ≡ false = let n = placed.some in grind (arith, nat_tests) in
    let fits : ltb (2 ^ 64) (s.start + length s.bytes) ≡ false = let n = placed.fits in grind (arith, nat_tests) in
    rw (some, fits, none) refl

takes_placed : (image ss : List Span) → IsLaidOut 0 image → AllByRecursion IsPlaced ss → ((a : ℕ) → count_by (held_at a) image + count_by (held_at a) ss ≤ 1) → takes_regions image ss ≡ true
takes_placed image [] laid placed few = refl
takes_placed image (s ∷ ss) laid placed few =
    let here = placed.0 in
    let none = no_overlap image 0 s ss laid here.some few in
    let free = free_of image s here none in
    let next = laid-with_span s image 0 laid (omega arith) here.some here.fits none in
    rw free (takes_placed (with_span s image) ss next placed.1 (λ a.
    let f = few a in
    let same = held-with_span a s image in
    let one = counts (held_at a) s image in
    let more = counts (held_at a) s ss in
    omega arith))

pub regions_ranges : (ss : List Span) (rs : List AddressRange) → each_in region_range ss ≡ Some rs → All IsRange rs
regions_ranges ss rs is = (are_ranges region_range held_at region_is ss rs is).ordered

-- an image takes regions whose ranges are disjoint, and no others
pub regions_disjoint : (ss : List Span) (rs : List AddressRange) (apart : Bool) → each_in region_range ss ≡ Some rs → (IsTrue apart ↔ AreDisjoint rs) → apart ≡ takes_regions [] ss
regions_disjoint ss rs apart is tells =
    let same = (are_ranges region_range held_at region_is ss rs is).same in
    let taken : AreDisjoint rs → takes_regions [] ss ≡ true = λ disjoint. takes_placed [] ss tt (regions_placed ss rs is) (λ a. let one = disjoint a in let s = same a in let none : count_by (held_at a) [] ≡ 0 = refl in omega arith) in
    let disjoint : takes_regions [] ss ≡ true → AreDisjoint rs = λ takes a. let one = taken_once ss takes a in let s = same a in omega arith in
    same_from_decides apart (takes_regions [] ss) tells (disjoint, taken)

-- it takes none that has no range
pub no_region : (image ss : List Span) → each_in region_range ss ≡ None → takes_regions image ss ≡ false
no_region image [] is = absurd cc
no_region image (s ∷ ss) is = go (region_range s) refl (each_in region_range ss) refl (λ later. no_region (with_span s image) ss later) is
  where
    refused : region_range s ≡ None → is_none (refusal image s.start s.bytes) ≡ false
    refused at = ends (eqb (length s.bytes) 0) (ltb (2 ^ 64) (s.start + length s.bytes)) at
      where
        ends : (a b : Bool) → cond a None (cond b None (Some (range_with s.start (s.start + length s.bytes - 1)))) ≡ None
            → is_none (cond a (Some image_errors.Empty) (cond b (Some image_errors.Wraps) (option_map image_errors.Overlap (lowest_overlap image s.start (length s.bytes))))) ≡ false
        ends true b e = refl
        ends false true e = refl
        ends false false e = absurd cc

    go : (o : Option AddressRange) → region_range s ≡ o → (os : Option (List AddressRange)) → each_in region_range ss ≡ os → (each_in region_range ss ≡ None → takes_regions (with_span s image) ss ≡ false)
        → option_and_then (λ y. option_map (λ ys. y ∷ ys) os) o ≡ None → takes_regions image (s ∷ ss) ≡ false
    go None at os later rest e = rw (refused at) refl
    go (Some r) at None later rest e = rw (rest later) (and_false (is_none (refusal image s.start s.bytes)))
    go (Some r) at (Some qs) later rest e = absurd cc

-- ---- modules

abbrev contained_at : ℕ → Module → Bool
contained_at a m = contains m a

-- a module with addresses below 2 ^ 64, and no more of them than its format allows
pub record IsSized (m : Module) : Type 0 where
  pub some : m.start < m.end
  pub low : m.end < 2 ^ 64
  pub fits : fits m.tables (m.end - m.start) ≡ true

module_sized : (m : Module) (r : AddressRange) → module_range m ≡ Some r → IsSized m × (range_with m.start (m.end - 1) ≡ r)
module_sized m r is = go (fits m.tables (m.end - m.start)) refl (leb (2 ^ 64) m.end) refl (leb m.end m.start) refl is
  where
    go : (a : Bool) → fits m.tables (m.end - m.start) ≡ a → (past : Bool) → leb (2 ^ 64) m.end ≡ past → (b : Bool) → leb m.end m.start ≡ b → cond a (cond past None (cond b None (Some (range_with m.start (m.end - 1))))) None ≡ Some r → IsSized m × (range_with m.start (m.end - 1) ≡ r)
    go false large past far b low e = absurd cc
    go true small true far b low e = absurd cc
    go true small false near true low e = absurd cc
    go true small false near false high e = (record { some = grind (arith, nat_tests); low = grind (arith, nat_tests); fits = small }, cc)

same_module_addresses : (m : Module) (a : ℕ) → m.start < m.end → lies_in a (range_with m.start (m.end - 1)) ≡ contains m a
same_module_addresses m a some = grind (arith, nat_tests)

module_is : (m : Module) (r : AddressRange) → module_range m ≡ Some r → IsRangeOf module_range contained_at m r
module_is m r is =
    let sized = module_sized m r is in
    let some = sized.0.some in
    subst (IsRangeOf module_range contained_at m) sized.1 (record { ordered = omega arith; same = λ a. same_module_addresses m a some })

modules_sized : (ms : List Module) (rs : List AddressRange) → each_in module_range ms ≡ Some rs → AllByRecursion IsSized ms
modules_sized [] rs is = tt
modules_sized (m ∷ ms) rs is = go (module_range m) refl (each_in module_range ms) refl (λ qs later. modules_sized ms qs later) is
  where
    go : (o : Option AddressRange) → module_range m ≡ o → (os : Option (List AddressRange)) → each_in module_range ms ≡ os → ((qs : List AddressRange) → each_in module_range ms ≡ Some qs → AllByRecursion IsSized ms)
        → option_and_then (λ y. option_map (λ ys. y ∷ ys) os) o ≡ Some rs → AllByRecursion IsSized (m ∷ ms)
    go None at os later rest e = absurd cc
    go (Some r) at None later rest e = absurd cc
    go (Some r) at (Some qs) later rest e = ((module_sized m r at).0, rest qs later)

held-with_module : (a : ℕ) (m : Module) (taken : List Module) → count_by (contained_at a) (with_module m taken) ≡ count_by (contained_at a) (m ∷ taken)
held-with_module a m [] = refl
held-with_module a m (n ∷ ns) = go (ltb m.start n.start) refl (held-with_module a m ns)
  where
    go : (b : Bool) → ltb m.start n.start ≡ b → count_by (contained_at a) (with_module m ns) ≡ count_by (contained_at a) (m ∷ ns) → count_by (contained_at a) (with_module m (n ∷ ns)) ≡ count_by (contained_at a) (m ∷ n ∷ ns)
    go true test rest = rw test refl
    go false test rest =
        let here = counts (contained_at a) n (with_module m ns) in
        let there = counts (contained_at a) m ns in
        let both = counts (contained_at a) m (n ∷ ns) in
        let next = counts (contained_at a) n ns in
        rw test (omega arith)

held-modules_after : (a : ℕ) (taken ms : List Module) → count_by (contained_at a) (modules_after taken ms) ≡ count_by (contained_at a) taken + count_by (contained_at a) ms
held-modules_after a taken [] = let none : count_by (contained_at a) [] ≡ 0 = refl in omega arith
held-modules_after a taken (m ∷ ms) =
    let later = held-modules_after a (with_module m taken) ms in
    let more = held-with_module a m taken in
    let one = counts (contained_at a) m taken in
    let next = counts (contained_at a) m ms in
    omega arith

-- of modules that are apart one contains an address at most, and none below the first
pub record ContainOnce (low a : ℕ) (ms : List Module) : Type 0 where
  pub below : a < low → count_by (contained_at a) ms ≡ 0
  pub once : count_by (contained_at a) ms ≤ 1

contain_once : (low a : ℕ) (ms : List Module) → AreApart low ms → ContainOnce low a ms
contain_once low a [] apart = record { below = λ lt. refl; once = omega arith }
contain_once low a (n ∷ ns) apart =
    let rest = contain_once n.end a ns apart.2 in
    elim (leb_tells n.end a) [
      | inl p ↦
          let not_here : contained_at a n ≡ false = grind (arith, nat_tests) in
          let same = no_more (contained_at a) n ns not_here in
          let once = rest.once in
          record { below = λ lt. absurd (omega (arith, p.1, apart.0, apart.1)); once = omega arith }
      | inr p ↦
          let none = rest.below p.1 in
          record {
            below = λ lt. let start = apart.0 in let not_here : contained_at a n ≡ false = grind (arith, nat_tests) in no_more (contained_at a) n ns not_here ∙ none;
            once = only_one (contained_at a) n ns none;
          }
    ]

taken_modules_once : (ms : List Module) → takes_modules [] ms ≡ true → (a : ℕ) → count_by (contained_at a) ms ≤ 1
taken_modules_once ms takes a =
    let apart = apart_after [] ms (lit< tt) takes in
    let once = (contain_once 0 a (modules_after [] ms) apart).once in
    let same = held-modules_after a [] ms in
    let none : count_by (contained_at a) [] ≡ 0 = refl in
    omega arith

none_shared : (taken : List Module) (low : ℕ) (m : Module) (ms : List Module) → AreApart low taken → m.start < m.end
    → ((a : ℕ) → count_by (contained_at a) taken + count_by (contained_at a) (m ∷ ms) ≤ 1) → lowest_shared taken m.start m.end ≡ None
none_shared [] low m ms apart some few = refl
none_shared (n ∷ ns) low m ms apart some few =
    let later : lowest_shared ns m.start m.end ≡ None = none_shared ns n.end m ms apart.2 some (λ a. let k = at_least (contained_at a) n ns in let f = few a in omega arith) in
    let twice : (a : ℕ) → contained_at a n ≡ true → contained_at a m ≡ true → ⊥ = λ a here there. let k = one_more (contained_at a) n ns here in let l = one_more (contained_at a) m ms there in let f = few a in omega arith in
    elim (leb_tells m.end n.start) [
      | inl p ↦ let no : shares n m.start m.end ≡ false = grind (arith, nat_tests) in rw no later
      | inr p ↦
          elim (leb_tells n.end m.start) [
            | inl q ↦ let no : shares n m.start m.end ≡ false = grind (arith, nat_tests) in rw no later
            | inr q ↦
                let full = apart.1 in
                elim (leb_tells n.start m.start) [
                  | inl h ↦ absurd (twice m.start (contained_within n m.start h.1 q.1) (contained_within m m.start (omega arith) some))
                  | inr h ↦ absurd (twice n.start (contained_within n n.start (omega arith) full) (contained_within m n.start (omega (arith, h.1)) p.1))
                ]
          ]
    ]
  where
    contained_within : (n : Module) (a : ℕ) → n.start ≤ a → a < n.end → contained_at a n ≡ true
    contained_within n a low high = grind (arith, nat_tests)

free_module_of : (taken : List Module) (m : Module) → IsSized m → lowest_shared taken m.start m.end ≡ None → is_none (given_refusal taken m) ≡ true
free_module_of taken m sized none =
    let some : leb m.end m.start ≡ false = let n = sized.some in grind (arith, nat_tests) in
    let low : leb (2 ^ 64) m.end ≡ false = let n = sized.low in grind (arith, nat_tests) in
    rw (sized.fits, low, some, none) refl

takes_sized : (taken ms : List Module) → AreApart 0 taken → AllByRecursion IsSized ms → ((a : ℕ) → count_by (contained_at a) taken + count_by (contained_at a) ms ≤ 1) → takes_modules taken ms ≡ true
takes_sized taken [] apart sized few = refl
takes_sized taken (m ∷ ms) apart sized few =
    let here = sized.0 in
    let none = none_shared taken 0 m ms apart here.some few in
    let free = free_module_of taken m here none in
    let next = with_apart taken 0 m apart (omega arith) here.some here.low none in
    rw free (takes_sized (with_module m taken) ms next sized.1 (λ a.
    let f = few a in
    let same = held-with_module a m taken in
    let one = counts (contained_at a) m taken in
    let more = counts (contained_at a) m ms in
    omega arith))

pub modules_ranges : (ms : List Module) (rs : List AddressRange) → each_in module_range ms ≡ Some rs → All IsRange rs
modules_ranges ms rs is = (are_ranges module_range contained_at module_is ms rs is).ordered

-- a space takes modules whose ranges are disjoint, and no others
pub modules_disjoint : (ms : List Module) (rs : List AddressRange) (apart : Bool) → each_in module_range ms ≡ Some rs → (IsTrue apart ↔ AreDisjoint rs) → apart ≡ takes_modules [] ms
modules_disjoint ms rs apart is tells =
    let same = (are_ranges module_range contained_at module_is ms rs is).same in
    let taken : AreDisjoint rs → takes_modules [] ms ≡ true = λ disjoint. takes_sized [] ms (lit< tt) (modules_sized ms rs is) (λ a. let one = disjoint a in let s = same a in let none : count_by (contained_at a) [] ≡ 0 = refl in omega arith) in
    let disjoint : takes_modules [] ms ≡ true → AreDisjoint rs = λ takes a. let one = taken_modules_once ms takes a in let s = same a in omega arith in
    same_from_decides apart (takes_modules [] ms) tells (disjoint, taken)

-- it takes none that has no range
pub no_module : (taken ms : List Module) → each_in module_range ms ≡ None → takes_modules taken ms ≡ false
no_module taken [] is = absurd cc
no_module taken (m ∷ ms) is = go (module_range m) refl (each_in module_range ms) refl (λ later. no_module (with_module m taken) ms later) is
  where
    refused : module_range m ≡ None → is_none (given_refusal taken m) ≡ false
    refused at = ends (fits m.tables (m.end - m.start)) (leb (2 ^ 64) m.end) (leb m.end m.start) at
      where
        ends : (a past b : Bool) → cond a (cond past None (cond b None (Some (range_with m.start (m.end - 1))))) None ≡ None
            → is_none (cond a (cond past (Some space_errors.Wraps) (cond b (Some space_errors.Wraps) (option_map space_errors.Overlap (lowest_shared taken m.start m.end)))) (Some space_errors.Wraps)) ≡ false
        ends false past b e = refl
        ends true true b e = refl
        ends true false true e = refl
        ends true false false e = absurd cc

    go : (o : Option AddressRange) → module_range m ≡ o → (os : Option (List AddressRange)) → each_in module_range ms ≡ os → (each_in module_range ms ≡ None → takes_modules (with_module m taken) ms ≡ false)
        → option_and_then (λ y. option_map (λ ys. y ∷ ys) os) o ≡ None → takes_modules taken (m ∷ ms) ≡ false
    go None at os later rest e = rw (refused at) refl
    go (Some r) at None later rest e = rw (rest later) (and_false (is_none (given_refusal taken m)))
    go (Some r) at (Some qs) later rest e = absurd cc
