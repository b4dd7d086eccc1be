-- Stacks at their places in one list of addresses.
use Rattle.std.proofs.Common.{Bor, ◌≡◌, ◌+◌, ◌-◌, ◌<◌, ◌≤◌, ℕ, suc, Bool, true, false, cond, List, [], ◌∷◌, ◌++◌, length, take, drop, Some, refl, sym, ap, ◌∙◌, arith, add-one}
use Rattle.std.specs.Prelude.{map, filter, reverse, nat_lt}
use Rattle.std.specs.List.{slice_get}
use Rattle.std.specs.declared.cmp.Ordering.{Ordering}
use Rattle.std.specs.Cmp.{IsTotalOrder}
use Rattle.std.specs.Fn.{Called, Mut}
use Rattle.std.specs.List.Sorted.{IsSortedBy, IsSortedByClosure}
use Rattle.std.specs.Ordering.{is_lt}
use Rattle.std.proofs.lemmas.List.{append_assoc, drop-append-le, drop_at, drop_more, length-append, length-drop, map-append, reverse-append, take-append-le, take_all}
use Rattle.std.proofs.lemmas.Fn.{always_returns_same}
use Rattle.std.proofs.lemmas.List.Elements.{All-tail}
use Rattle.std.proofs.lemmas.Option.{slice_get_within, get_or_from_slice_get}
use Rattle.std.proofs.lemmas.List.Sorted.{ranks_by}
use Rattle.unwind_arch.specs.declared.x86_64.Context.{Context}
use Rattle.folded_stacks.specs.declared.stacks.Place.{Place}
use Rattle.folded_stacks.specs.Places.{LiesWithin, LieWithin, stack_at, stacks_at}
use Rattle.folded_stacks.specs.Stacks.{NeverFall, outermost_first, stack_of, stack_order}

-- ---- more addresses

-- what stands at a place stays there
pub stack_stays : (addresses more : List ℕ) (p : Place) → LiesWithin addresses p → stack_at (addresses ++ more) p ≡ stack_at addresses p
stack_stays addresses more p within =
    let rest = length-drop p.start addresses in
    let fits : p.len ≤ length (drop p.start addresses) = omega arith in
    let start : p.start ≤ length addresses = omega arith in
    ap (take p.len) (drop-append-le p.start addresses more start) ∙ take-append-le p.len (drop p.start addresses) more fits

pub stacks_stay : (addresses more : List ℕ) (places : List Place) → LieWithin addresses places → stacks_at (addresses ++ more) places ≡ stacks_at addresses places
stacks_stay addresses more [] within = refl
stacks_stay addresses more (p ∷ places) within =
    let here = stack_stays addresses more p (within 0 p (omega arith)) in
    let later = stacks_stay addresses more places (All-tail (LiesWithin addresses) p places within) in
    λ i. here i ∷ later i

pub within_more : (addresses more : List ℕ) (places : List Place) → LieWithin addresses places → LieWithin (addresses ++ more) places
within_more addresses more places within k d lt =
    let old = within k d lt in
    let long = length-append addresses more in
    omega arith

-- the addresses that were put last, at their place
pub last_stack : (addresses more : List ℕ) (p : Place) → p.start ≡ length addresses → p.len ≡ length (addresses ++ more) - length addresses → stack_at (addresses ++ more) p ≡ more
last_stack addresses more p start len =
    let long = length-append addresses more in
    let enough : length more ≤ p.len = omega arith in
    ap (take p.len) (drop_at addresses more p.start (sym start)) ∙ take_all p.len more enough

-- one more stack, whose addresses were put last
pub walk_put : (addresses more : List ℕ) (places new : List Place) (p : Place) (stack : List ℕ) → LieWithin addresses places → more ≡ addresses ++ stack → new ≡ places ++ p ∷ [] → p.start ≡ length addresses
    → p.len ≡ length more - length addresses → stacks_at more new ≡ stacks_at addresses places ++ stack ∷ []
walk_put addresses more places new p stack within put placed start len =
    let stay = stacks_stay addresses stack places within in
    let last = last_stack addresses stack p start (len ∙ ap (λ b. length b - length addresses) put) in
    ap (λ b. stacks_at b new) put ∙ (ap (stacks_at (addresses ++ stack)) placed ∙ (map-append (stack_at (addresses ++ stack)) places (p ∷ []) ∙ (λ i. stay i ++ last i ∷ [])))

-- ---- returns from the outermost on

-- what passes a test at the head, and then of the rest
filter_head : (p : ℕ → Bool) (x : ℕ) (xs : List ℕ) → filter p (x ∷ xs) ≡ filter p (x ∷ []) ++ filter p xs
filter_head p x xs = go (p x)
  where
    go : (b : Bool) → cond b (x ∷ filter p xs) (filter p xs) ≡ cond b (x ∷ []) [] ++ filter p xs
    go true = refl
    go false = refl

-- the returns from a state outwards end with its own
outermost_first_cons : (a : ℕ) (returns : List ℕ) → outermost_first (a ∷ returns) ≡ outermost_first returns ++ outermost_first (a ∷ [])
outermost_first_cons a returns = ap reverse (filter_head (nat_lt 0) a returns) ∙ reverse-append (filter (nat_lt 0) (a ∷ [])) (filter (nat_lt 0) returns)

pub stack_more : (states : List Context) (i : ℕ) (c : Context) → slice_get states i ≡ Some c → stack_of (drop i states) ≡ stack_of (drop (i + 1) states) ++ outermost_first (c.ra ∷ [])
stack_more states i c at =
    ap stack_of (drop_more states i c (slice_get_within states i c at) ∙ ap (λ d. d ∷ drop (i + 1) states) (get_or_from_slice_get states i c c at))
    ∙ outermost_first_cons c.ra (map (λ (d : Context). d.ra) (drop (i + 1) states))

-- one more state on the way inwards, of which so many are left
pub put_more : (states : List Context) (left : ℕ) (c : Context) (front old new : List ℕ) → 0 < left → slice_get states (left - 1) ≡ Some c → old ≡ front ++ stack_of (drop left states)
    → new ≡ old ++ outermost_first (c.ra ∷ []) → new ≡ front ++ stack_of (drop (left - 1) states)
put_more states left c front old new some at before put =
    let one : left - 1 + 1 ≡ left = omega arith in
    let more : stack_of (drop (left - 1) states) ≡ stack_of (drop left states) ++ outermost_first (c.ra ∷ []) =
    stack_more states (left - 1) c at ∙ ap (λ n. stack_of (drop n states) ++ outermost_first (c.ra ∷ [])) one in
    put ∙ (ap (λ s. s ++ outermost_first (c.ra ∷ [])) before ∙ (append_assoc front (stack_of (drop left states)) (outermost_first (c.ra ∷ [])) ∙ ap (λ s. front ++ s) (sym more)))

-- ---- in order

-- What `sort_by` ensures, where each call of its closure compares the keys of two elements by an order.
pub sorted_by_keys : {X K : Type 0} (R : K → K → Ordering) → IsTotalOrder R → (key : X → K) {F : Type 0} {g : Mut F (Bor X × (Bor X × Unit {0})) Ordering} {f : F} (xs : List X) → IsSortedByClosure g f xs
    → ((a : Bor X × (Bor X × Unit {0})) (r : Ordering) (f' : F) → Called g f a r f' → (r ≡ R (key a.0.now) (key a.1.0.now)) × (f' ≡ f)) → IsSortedBy (λ x y. is_lt (R (key x) (key y))) xs
sorted_by_keys R order key {g = g} {f = f} xs up h =
    up (λ x y. is_lt (R (key x) (key y))) (ranks_by order key)
    (always_returns_same g (λ a r. is_lt r ≡ is_lt (R (key a.0.now) (key a.1.0.now))) f (λ a r f' k. (ap is_lt (h a r f' k).0, (h a r f' k).1)))

-- places in the order of their stacks
pub places_rise : (addresses : List ℕ) (places : List Place) → IsSortedBy (λ p q. is_lt (stack_order (stack_at addresses p) (stack_at addresses q))) places → NeverFall (stacks_at addresses places)
places_rise addresses [] sorted = tt
places_rise addresses (p ∷ []) sorted = tt
places_rise addresses (p ∷ q ∷ places) sorted = (
  sorted 0 p (omega arith) (omega arith),
  places_rise addresses (q ∷ places) (λ k d low high. rw add-one (rw add-one at (sorted (suc k) d (omega arith) (omega arith)))),
)
