-- Steps of a prologue, one after another: what they save, and that they are a prologue exactly where each may be next.
use Rattle.std.proofs.Common.{◌≡◌, ℕ, zero, suc, ◌+◌, ◌-◌, ◌<◌, ◌≤◌, true, false, cond, List, [], ◌∷◌, ◌++◌, length, get_or, Some, refl, sym, ap, subst, ◌∙◌, arith, append_assoc, length-append}
use Rattle.std.specs.Prelude.{◌≢◌, nat_le}
use Rattle.std.specs.List.{AllByRecursion, AllPairs, filter, sum_by}
use Rattle.std.specs.Option.{option_or}
use Rattle.std.proofs.lemmas.Bool.{le-leb, lt-leb}
use Rattle.std.proofs.lemmas.List.Sums.{sum_by-cons, sum_by-append}
use Rattle.std.proofs.lemmas.List.Quantifiers.{all_pairs_push}
use Rattle.std.proofs.lemmas.List.{append-nil}
use Rattle.std.proofs.Math.ListN.{get_or-append}
use Rattle.std.proofs.Math.Seq.{get_or-append_seam}
use Rattle.unwind_definitions.specs.State.{CalleeSaved}
use Rattle.unwind_definitions.specs.Prologue.{Register, Step, Push, Allocate, SetFrame, Store, Save, SystemV, PrologueStep, IsPrologue, EachMayFollow, Ascend, room_of, depth, frame_depth_from, distance_in, saves, saves_from, is_register, steps_of, ends_of}
use Rattle.unwind_definitions.specs.Function.{last_end}
use Rattle.unwind_definitions.specs.DescribedRows.{ended_by}
use Rattle.table_check.specs.Frames.{MayGoOn, SavesAnother}

-- ---- one list of steps after another

lower : (d : ℕ) (s : Step) (xs : List Step) → d + room_of s + sum_by room_of xs ≡ d + sum_by room_of (s ∷ xs)
lower d s xs = let h = sum_by-cons room_of s xs in omega (arith, h)

level : (d : ℕ) (s : Step) (xs : List Step) → room_of s ≡ 0 → d + sum_by room_of xs ≡ d + sum_by room_of (s ∷ xs)
level d s xs none = let h = sum_by-cons room_of s xs in omega (arith, h, none)

at_first : (d : ℕ) → d ≡ d + sum_by room_of []
at_first d = let none : sum_by room_of [] ≡ 0 = refl in omega (arith, none)

pub saves-append : (d : ℕ) (xs ys : List Step) → saves_from d (xs ++ ys) ≡ saves_from d xs ++ saves_from (d + sum_by room_of xs) ys
saves-append d [] ys = ap (λ n. saves_from n ys) (at_first d)
saves-append d (Push r ∷ xs) ys = ap (λ (l : List Save). record { register = r; distance = d + 8 } ∷ l) (saves-append (d + 8) xs ys ∙ ap (λ n. saves_from (d + 8) xs ++ saves_from n ys) (lower d (Push r) xs))
saves-append d (Allocate n ∷ xs) ys = saves-append (d + n) xs ys ∙ ap (λ m. saves_from (d + n) xs ++ saves_from m ys) (lower d (Allocate n) xs)
saves-append d (SetFrame m ∷ xs) ys = saves-append d xs ys ∙ ap (λ n. saves_from d xs ++ saves_from n ys) (level d (SetFrame m) xs refl)
saves-append d (Store r k ∷ xs) ys = ap (λ (l : List Save). record { register = r; distance = d - k } ∷ l) (saves-append d xs ys ∙ ap (λ n. saves_from d xs ++ saves_from n ys) (level d (Store r k) xs refl))

pub frame-append : (d : ℕ) (xs ys : List Step) → frame_depth_from d (xs ++ ys) ≡ option_or (frame_depth_from d xs) (frame_depth_from (d + sum_by room_of xs) ys)
frame-append d [] ys = ap (λ n. frame_depth_from n ys) (at_first d)
frame-append d (Push r ∷ xs) ys = frame-append (d + 8) xs ys ∙ ap (λ n. option_or (frame_depth_from (d + 8) xs) (frame_depth_from n ys)) (lower d (Push r) xs)
frame-append d (Allocate n ∷ xs) ys = frame-append (d + n) xs ys ∙ ap (λ m. option_or (frame_depth_from (d + n) xs) (frame_depth_from m ys)) (lower d (Allocate n) xs)
frame-append d (SetFrame m ∷ xs) ys = refl
frame-append d (Store r k ∷ xs) ys = frame-append d xs ys ∙ ap (λ n. option_or (frame_depth_from d xs) (frame_depth_from n ys)) (level d (Store r k) xs refl)

pub distance-append : (r : CalleeSaved) (xs ys : List Save) → distance_in r (xs ++ ys) ≡ option_or (distance_in r xs) (distance_in r ys)
distance-append r [] ys = refl
distance-append r (x ∷ xs) ys = elim (is_register r x.register) as (λ b. cond b (Some x.distance) (distance_in r (xs ++ ys)) ≡ option_or (cond b (Some x.distance) (distance_in r xs)) (distance_in r ys)) [
  | true ↦ refl
  | false ↦ distance-append r xs ys
]

pub depth-push : (xs : List Step) (s : Step) → depth (xs ++ s ∷ []) ≡ depth xs + room_of s
depth-push xs s = let h = sum_by-append room_of xs (s ∷ []) in let one = sum_by-cons room_of s [] in let none : sum_by room_of [] ≡ 0 = refl in omega (arith, h, one, none)

-- ---- a prologue

abbrev Differ : Save → Save → Type 0
Differ a b = a.register ≢ b.register

each_at : (r : Register) (xs : List Save) → AllByRecursion (λ (s : Save). s.register ≢ r) xs → (k : ℕ) (d : Save) → k < length xs → (get_or xs k d).register ≢ r
each_at r [] all k d below = absurd (omega arith)
each_at r (x ∷ xs) all zero d below = all.0
each_at r (x ∷ xs) all (suc k) d below = each_at r xs all.1 k d (omega arith)

each_from : (r : Register) (d : Save) (xs : List Save) → ((k : ℕ) → k < length xs → (get_or xs k d).register ≢ r) → AllByRecursion (λ (s : Save). s.register ≢ r) xs
each_from r d [] all = tt
each_from r d (x ∷ xs) all = (all 0 (omega arith), each_from r d xs (λ k below. all (suc k) (omega arith)))

once_pushed : (before : List Step) (s : Save) → AllPairs Differ (saves before) → AllByRecursion (λ (a : Save). a.register ≢ s.register) (saves before) → AllPairs Differ (saves before ++ s ∷ [])
once_pushed before s once another = all_pairs_push Differ (saves before) s once (each_at s.register (saves before) another)

-- what one more step saves
once_more : (before : List Step) (s : Step) → AllPairs Differ (saves before) → SavesAnother before s → AllPairs Differ (saves (before ++ s ∷ []))
once_more before (Push r) once another = subst (AllPairs Differ) (sym (saves-append 8 before (Push r ∷ []))) (once_pushed before _ once another)
once_more before (Allocate n) once another = subst (AllPairs Differ) (sym (saves-append 8 before (Allocate n ∷ []) ∙ append-nil (saves before))) once
once_more before (SetFrame m) once another = subst (AllPairs Differ) (sym (saves-append 8 before (SetFrame m ∷ []) ∙ append-nil (saves before))) once
once_more before (Store r k) once another = subst (AllPairs Differ) (sym (saves-append 8 before (Store r k ∷ []))) (once_pushed before _ once another)

once_all : (last : ℕ) (before : List Step) (ps : List PrologueStep) → AllPairs Differ (saves before) → MayGoOn last before ps → AllPairs Differ (saves (before ++ steps_of ps))
once_all last before [] once on = subst (λ (l : List Step). AllPairs Differ (saves l)) (sym (append-nil before)) once
once_all last before (p ∷ ps) once on = subst (λ (l : List Step). AllPairs Differ (saves l)) (append_assoc before (p.step ∷ []) (steps_of ps)) (once_all p.end (before ++ p.step ∷ []) ps (once_more before p.step once on.1.1) on.2)

ascend_all : (last : ℕ) (before : List Step) (ps : List PrologueStep) → MayGoOn last before ps → Ascend last (ends_of ps)
ascend_all last before [] on = tt
ascend_all last before (p ∷ ps) on = (on.0, ascend_all p.end (before ++ p.step ∷ []) ps on.2)

follow_all : (last : ℕ) (before : List Step) (ps : List PrologueStep) → MayGoOn last before ps → EachMayFollow SystemV before (steps_of ps)
follow_all last before [] on = tt
follow_all last before (p ∷ ps) on = (on.1.0, follow_all p.end (before ++ p.step ∷ []) ps on.2)

none_once : AllPairs Differ []
none_once i j d lt below = absurd (omega arith)

-- where each step may be next they are a prologue
pub prologue_goes_on : (ps : List PrologueStep) → MayGoOn 0 [] ps → IsPrologue SystemV ps
prologue_goes_on ps on = record { ends = ascend_all 0 [] ps on; each = follow_all 0 [] ps on; once = once_all 0 [] ps none_once on }

-- a save with others before and after it differs from those before
differs_from_before : (xs : List Save) (s : Save) (ys : List Save) → AllPairs Differ (xs ++ s ∷ ys) → AllByRecursion (λ (a : Save). a.register ≢ s.register) xs
differs_from_before xs s ys once = each_from s.register s xs (λ k below.
    let here : get_or (xs ++ s ∷ ys) (length xs) s ≡ s = get_or-append_seam xs s ys s in
    let there : get_or (xs ++ s ∷ ys) k s ≡ get_or xs k s = get_or-append xs (s ∷ ys) s k below in
    let wide : length xs < length (xs ++ s ∷ ys) = let h = length-append xs (s ∷ ys) in omega (arith, h) in
    subst (λ (a : Save). a.register ≢ s.register) there (subst (λ (b : Save). (get_or (xs ++ s ∷ ys) k s).register ≢ b.register) here (once k (length xs) s below wide)))

another_of : (before : List Step) (s : Step) (rest : List Step) → AllPairs Differ (saves (before ++ s ∷ rest)) → SavesAnother before s
another_of before (Push r) rest once = differs_from_before (saves before) _ (saves_from (8 + sum_by room_of before + 8) rest) (subst (AllPairs Differ) (saves-append 8 before (Push r ∷ rest)) once)
another_of before (Allocate n) rest once = tt
another_of before (SetFrame m) rest once = tt
another_of before (Store r k) rest once = differs_from_before (saves before) _ (saves_from (8 + sum_by room_of before) rest) (subst (AllPairs Differ) (saves-append 8 before (Store r k ∷ rest)) once)

goes_on : (last : ℕ) (before : List Step) (ps : List PrologueStep) → Ascend last (ends_of ps) → EachMayFollow SystemV before (steps_of ps) → AllPairs Differ (saves (before ++ steps_of ps)) → MayGoOn last before ps
goes_on last before [] asc each once = tt
goes_on last before (p ∷ ps) asc each once = (
  asc.0,
  (each.0, another_of before p.step (steps_of ps) once),
  goes_on p.end (before ++ p.step ∷ []) ps asc.1 each.1 (subst (λ (l : List Step). AllPairs Differ (saves l)) (sym (append_assoc before (p.step ∷ []) (steps_of ps))) once),
)

-- of a prologue each step may be next
pub goes_on_prologue : (ps : List PrologueStep) → IsPrologue SystemV ps → MayGoOn 0 [] ps
goes_on_prologue ps is = goes_on 0 [] ps is.ends is.each is.once

-- ---- steps that have ended

pub ended_not : (offset : ℕ) (p : PrologueStep) (ps : List PrologueStep) → offset < p.end → ended_by offset (p ∷ ps) ≡ ended_by offset ps
ended_not offset p ps past = ap (λ b. steps_of (cond b (p ∷ filter (λ (q : PrologueStep). nat_le q.end offset) ps) (filter (λ (q : PrologueStep). nat_le q.end offset) ps))) (lt-leb p.end offset past)

pub ended_none : (offset last : ℕ) (before : List Step) (ps : List PrologueStep) → offset < last → MayGoOn last before ps → ended_by offset ps ≡ []
ended_none offset last before [] later on = refl
ended_none offset last before (p ∷ ps) later on =
    let past : offset < p.end = let h = on.0 in omega (arith, h, later) in
    ended_not offset p ps past ∙ ended_none offset p.end (before ++ p.step ∷ []) ps past on.2

pub ended_one : (offset : ℕ) (p : PrologueStep) (ps : List PrologueStep) → p.end ≤ offset → ended_by offset (p ∷ ps) ≡ p.step ∷ ended_by offset ps
ended_one offset p ps past = ap (λ b. steps_of (cond b (p ∷ filter (λ (q : PrologueStep). nat_le q.end offset) ps) (filter (λ (q : PrologueStep). nat_le q.end offset) ps))) (le-leb p.end offset past)

first_end : (offset low : ℕ) (p : PrologueStep) (ps : List PrologueStep) → Ascend low (ends_of (p ∷ ps)) → last_end (p ∷ ps) ≤ offset → low ≤ offset
first_end offset low p [] asc all = let h = asc.0 in omega arith
first_end offset low p (q ∷ ps) asc all = let h = asc.0 in let later = first_end offset p.end q ps asc.1 all in omega arith

-- all have, once the last has
pub ended_all : (offset last : ℕ) (ps : List PrologueStep) → Ascend last (ends_of ps) → last_end ps ≤ offset → ended_by offset ps ≡ steps_of ps
ended_all offset last [] asc all = refl
ended_all offset last (p ∷ []) asc all = ended_one offset p [] all
ended_all offset last (p ∷ q ∷ ps) asc all = ended_one offset p (q ∷ ps) (first_end offset p.end q ps asc.1 all) ∙ ap (λ l. p.step ∷ l) (ended_all offset p.end (q ∷ ps) asc.1 all)
