-- An epilog has few instructions, since each register is pushed once at most.
use Rattle.std.proofs.Common.{◌≡◌, ◌≢◌, ℕ, zero, suc, ◌+◌, ◌<◌, ◌≤◌, Bool, true, false, eqb, ◌||◌, List, [], ◌∷◌, ◌++◌, map, length, Option, refl, sym, ap, ◌∙◌, arith, length-append}
use Rattle.std.specs.Prelude.{reverse}
use Rattle.std.specs.List.{IsDistinct, AllByRecursion, AllPairs, list_any}
use Rattle.std.proofs.lemmas.Bool.{eqb-true}
use Rattle.std.proofs.lemmas.List.{length-reverse, length-map}
use Rattle.std.proofs.lemmas.Map.Steps.{length-le_from_distinct_below}
use Rattle.unwind_definitions.specs.State.{CalleeSaved, RBX, RBP, R12, R13, R14, R15, State}
use Rattle.unwind_definitions.specs.Prologue.{Register, Followed, RDI, RSI, XMM, Step, Push, Save, saves_from, saves}
use Rattle.pe_unwind_info.specs.declared.x86_64.epilog.FunctionEpilogInstruction.{FunctionEpilogInstruction}
use Rattle.pe_unwind_info.specs.declared.x86_64.epilog.FunctionEpilogInstruction.TheVariants.{Pop}
use Rattle.format_definitions.specs.PeUndoing.{general_of, IsPushOrAllocation}
use Rattle.format_definitions.specs.PeEpilogs.{pops, StandsAt, before_add, before_lea, before_pops}

abbrev small : CalleeSaved → ℕ
small RBX = 0
small RBP = 1
small R12 = 2
small R13 = 3
small R14 = 4
small R15 = 5

abbrev code : Register → ℕ
code (Followed r) = small r
code RDI = 6
code RSI = 7
code (XMM n) = 0

abbrev IsPushed : Register → Type 0
IsPushed r = IsPushOrAllocation (Push r)

followed_differ : (r q : CalleeSaved) → r ≢ q → eqb (small r) (small q) ≡ false
followed_differ RBX RBX h = absurd (h refl)
followed_differ RBP RBP h = absurd (h refl)
followed_differ R12 R12 h = absurd (h refl)
followed_differ R13 R13 h = absurd (h refl)
followed_differ R14 R14 h = absurd (h refl)
followed_differ R15 R15 h = absurd (h refl)
followed_differ _ _ h = refl

followed_other : (r : CalleeSaved) → (eqb (small r) 6 ≡ false) × (eqb (small r) 7 ≡ false) × (eqb 6 (small r) ≡ false) × (eqb 7 (small r) ≡ false)
followed_other RBX = (refl, refl, refl, refl)
followed_other RBP = (refl, refl, refl, refl)
followed_other R12 = (refl, refl, refl, refl)
followed_other R13 = (refl, refl, refl, refl)
followed_other R14 = (refl, refl, refl, refl)
followed_other R15 = (refl, refl, refl, refl)

differ : (r q : Register) → IsPushed r → IsPushed q → r ≢ q → eqb (code r) (code q) ≡ false
differ (Followed r) (Followed q) a b h = followed_differ r q (λ e. h (ap (λ s. Followed s) e))
differ (Followed r) RDI a b h = (followed_other r).0
differ (Followed r) RSI a b h = (followed_other r).1
differ RDI (Followed q) a b h = (followed_other q).2
differ RSI (Followed q) a b h = (followed_other q).3
differ RDI RDI a b h = absurd (h refl)
differ RSI RSI a b h = absurd (h refl)
differ RDI RSI a b h = refl
differ RSI RDI a b h = refl
differ (XMM n) q a b h = absurd a
differ r (XMM n) a b h = absurd b

abbrev pub Apart : Save → Save → Type 0
Apart a b = a.register ≢ b.register

drop_second : (a b : Save) (rest : List Save) → AllPairs Apart (a ∷ b ∷ rest) → AllPairs Apart (a ∷ rest)
drop_second a b rest h i zero d lt below = absurd (omega arith)
drop_second a b rest h zero (suc j) d lt below = h zero (suc (suc j)) d (omega arith) (omega arith)
drop_second a b rest h (suc i) (suc j) d lt below = h (suc (suc i)) (suc (suc j)) d (omega arith) (omega arith)

drop_first : (a : Save) (rest : List Save) → AllPairs Apart (a ∷ rest) → AllPairs Apart rest
drop_first a rest h i j d lt below = h (suc i) (suc j) d (omega arith) (omega arith)

abbrev save : Register → ℕ → Save
save r d = record { register = r; distance = d }

others : (r : Register) (e : ℕ) (xs : List Register) (ys : List Step) (d : ℕ) → IsPushed r → AllByRecursion IsPushed xs → AllPairs Apart (save r e ∷ saves_from d (map Push xs ++ ys)) → AllByRecursion (λ y. eqb (code r) y ≡ false) (map code xs)
others r e [] ys d is all apart = tt
others r e (q ∷ xs) ys d is all apart =
    (differ r q is all.0 (apart zero (suc zero) (save r e) (omega arith) (omega arith)), others r e xs ys (d + 8) is all.1 (drop_second (save r e) (save q (d + 8)) (saves_from (d + 8) (map Push xs ++ ys)) apart))

each_once : (xs : List Register) (ys : List Step) (d : ℕ) → AllByRecursion IsPushed xs → AllPairs Apart (saves_from d (map Push xs ++ ys)) → IsDistinct eqb (map code xs)
unfolding IsDistinct
each_once [] ys d all apart = tt
each_once (r ∷ xs) ys d all apart = (others r (d + 8) xs ys (d + 8) all.0 all.1 apart, each_once xs ys (d + 8) all.1 (drop_first (save r (d + 8)) (saves_from (d + 8) (map Push xs ++ ys)) apart))

code_low : (r : Register) → code r < 8
code_low (Followed RBX) = omega arith
code_low (Followed RBP) = omega arith
code_low (Followed R12) = omega arith
code_low (Followed R13) = omega arith
code_low (Followed R14) = omega arith
code_low (Followed R15) = omega arith
code_low RDI = omega arith
code_low RSI = omega arith
code_low (XMM n) = omega arith

all_low : (xs : List Register) (q : ℕ) → list_any (eqb q) (map code xs) ≡ true → q < 8
all_low [] q e = absurd cc
all_low (x ∷ xs) q e = go (eqb q (code x)) refl (all_low xs q)
  where
    go : (b : Bool) → eqb q (code x) ≡ b → (list_any (eqb q) (map code xs) ≡ true → q < 8) → q < 8
    go true is ih = let same = eqb-true q (code x) is in let low = code_low x in omega arith
    go false is ih = ih (sym (ap (λ b. b || list_any (eqb q) (map code xs)) is) ∙ e)

few_pushes : (xs : List Register) (ys : List Step) → AllByRecursion IsPushed xs → AllPairs Apart (saves (map Push xs ++ ys)) → length xs ≤ 8
few_pushes xs ys all apart =
    let h = length-le_from_distinct_below (map code xs) 8 (each_once xs ys 8 all apart) (all_low xs) in
    let e = length-map xs code in omega arith

pops_length : (xs : List Register) → length (pops xs) ≡ length xs
pops_length xs = length-map (reverse xs) (λ (r : Register). Pop (general_of r)) ∙ length-reverse xs

pub few_instructions : (t s : State) (pushed : List Register) (rooms : List ℕ) (set : Option ℕ) (todo : List FunctionEpilogInstruction) (left : List Register) (ys : List Step) →
    StandsAt t s pushed rooms set todo left → AllByRecursion IsPushed pushed → AllPairs Apart (saves (map Push pushed ++ ys)) → length todo ≤ 12
few_instructions t s pushed rooms set todo left ys stands all apart = go todo left stands (few_pushes pushed ys all apart)
  where
    go : (todo : List FunctionEpilogInstruction) (left : List Register) → StandsAt t s pushed rooms set todo left → length pushed ≤ 8 → length todo ≤ 12
    go todo left (before_add a b) few = let e = pops_length pushed in omega arith
    go todo left (before_lea a b c d) few = let e = pops_length pushed in omega arith
    go todo left (before_pops gone is sp) few = let e = pops_length left in let f = ap length is in omega (arith, e, f, length-append left gone)
