-- The operations that slots spell, one after another.
use Rattle.std.proofs.Common.{◌≡◌, ℕ, zero, suc, ◌+◌, ◌*◌, ◌<◌, ◌≤◌, Bool, true, false, cond, eqb, ltb, List, [], ◌∷◌, length, drop, Option, Some, None, refl, ap, ◌∙◌, subst, arith}
use Rattle.std.proofs.lemmas.Bool.{lt-ltb}
use Rattle.std.proofs.lemmas.List.{length-drop}
use Rattle.pe_unwind_info.specs.Numbers.{u16_at, u32_at, first_u16, first_u32, number_in_units}
use Rattle.pe_unwind_info.specs.declared.x86_64.operations.UnwindCode.{UnwindCode}
use Rattle.pe_unwind_info.specs.declared.x86_64.operations.UnwindOperation.{UnwindOperation}
use Rattle.pe_unwind_info.specs.declared.x86_64.operations.UnwindOperationCode.{UnwindOperationCode}
use Rattle.pe_unwind_info.specs.declared.x86_64.operations.UnwindOperationCode.TheVariants.{PushNonvol, AllocLarge, AllocSmall, SetFPReg, SaveNonvol, SaveNonvolFar, Epilog as EpilogCode, Spare, SaveXmm128, SaveXmm128Far, PushMachframe}
use Rattle.pe_unwind_info.specs.EpilogList.{told_by, first_epilog}
use Rattle.pe_unwind_info.specs.Operations.{Head, First, Placed, counts, code_of, code_number, code_information, large_size, head_by, head_of, placed_at, first_of, then_later, operations_from, operations_of}

-- what is left after a head has at most n bytes
LeavesAtMost : ℕ → Head → Type 0
LeavesAtMost n None = Unit {0}
LeavesAtMost n (Some p) = length p.1 ≤ n

counts_less : (n : ℕ) (operation : ℕ → UnwindOperation) (number : Option (ℕ × List ℕ)) → ((p : ℕ × List ℕ) → number ≡ Some p → length p.1 ≤ n) → LeavesAtMost n (counts operation number)
unfolding LeavesAtMost
counts_less n operation None h = tt
counts_less n operation (Some (k, rest)) h = h (k, rest) refl

less_u16 : (bytes : List ℕ) (p : ℕ × List ℕ) → first_u16 bytes ≡ Some p → length p.1 ≤ length bytes
less_u16 bytes p e = go (ltb (length bytes) 2) e
  where
    go : (short : Bool) → cond short None (Some (u16_at 0 bytes, drop 2 bytes)) ≡ Some p → length p.1 ≤ length bytes
    go true e = absurd (cc)
    go false e = let same : (u16_at 0 bytes, drop 2 bytes) ≡ p = cc in subst (λ (q : ℕ × List ℕ). length q.1 ≤ length bytes) same (omega (arith, length-drop 2 bytes))

less_scaled : (unit : ℕ) (bytes : List ℕ) (p : ℕ × List ℕ) → number_in_units unit (first_u16 bytes) ≡ Some p → length p.1 ≤ length bytes
less_scaled unit bytes p e = go (ltb (length bytes) 2) e
  where
    go : (short : Bool) → number_in_units unit (cond short None (Some (u16_at 0 bytes, drop 2 bytes))) ≡ Some p → length p.1 ≤ length bytes
    go true e = absurd (cc)
    go false e = let same : (u16_at 0 bytes * unit, drop 2 bytes) ≡ p = cc in subst (λ (q : ℕ × List ℕ). length q.1 ≤ length bytes) same (omega (arith, length-drop 2 bytes))

less_u32 : (bytes : List ℕ) (p : ℕ × List ℕ) → first_u32 bytes ≡ Some p → length p.1 ≤ length bytes
less_u32 bytes p e = go (ltb (length bytes) 4) e
  where
    go : (short : Bool) → cond short None (Some (u32_at 0 bytes, drop 4 bytes)) ≡ Some p → length p.1 ≤ length bytes
    go true e = absurd (cc)
    go false e = let same : (u32_at 0 bytes, drop 4 bytes) ≡ p = cc in subst (λ (q : ℕ × List ℕ). length q.1 ≤ length bytes) same (omega (arith, length-drop 4 bytes))

less_large : (information : ℕ) (bytes : List ℕ) (p : ℕ × List ℕ) → large_size information bytes ≡ Some p → length p.1 ≤ length bytes
less_large information bytes p e = go (eqb information 0) (eqb information 1) e
  where
    go : (units single : Bool) → cond units (number_in_units 8 (first_u16 bytes)) (cond single (first_u32 bytes) None) ≡ Some p → length p.1 ≤ length bytes
    go true single e = less_scaled 8 bytes p e
    go false true e = less_u32 bytes p e
    go false false e = absurd cc

at_cond : (b : Bool) (n : ℕ) (h k : Head) → LeavesAtMost n h → LeavesAtMost n k → LeavesAtMost n (cond b h k)
at_cond true n h k p q = p
at_cond false n h k p q = q

head_less : (code : Option UnwindOperationCode) (slot : UnwindCode) (rest : List ℕ) → LeavesAtMost (length rest) (head_by code slot rest)
unfolding LeavesAtMost
head_less None slot rest = tt
head_less (Some PushNonvol) slot rest = omega arith
head_less (Some AllocLarge) slot rest = counts_less _ _ _ (less_large (code_information slot) rest)
head_less (Some AllocSmall) slot rest = omega arith
head_less (Some SetFPReg) slot rest = omega arith
head_less (Some SaveNonvol) slot rest = counts_less _ _ _ (less_scaled 8 rest)
head_less (Some SaveNonvolFar) slot rest = counts_less _ _ _ (less_u32 rest)
head_less (Some EpilogCode) slot rest = omega arith
head_less (Some Spare) slot rest = at_cond (ltb (length rest) 4) (length rest) _ _ tt (omega (arith, length-drop 4 rest))
head_less (Some SaveXmm128) slot rest = counts_less _ _ _ (less_scaled 16 rest)
head_less (Some SaveXmm128Far) slot rest = counts_less _ _ _ (less_u32 rest)
head_less (Some PushMachframe) slot rest = omega arith

-- what is left after the first slots has two bytes fewer at least
LeavesFewer : ℕ → First → Type 0
LeavesFewer n None = Unit {0}
LeavesFewer n (Some p) = length p.2 + 2 ≤ n

placed_less : (n m offset : ℕ) (h : Head) → n + 2 ≤ m → LeavesAtMost n h → LeavesFewer m (placed_at offset h)
unfolding LeavesAtMost LeavesFewer
placed_less n m offset None lt less = tt
placed_less n m offset (Some (operation, rest)) lt less = omega arith

first_less : (version : ℕ) (bytes : List ℕ) → LeavesFewer (length bytes) (first_of version bytes)
unfolding LeavesFewer
first_less version [] = tt
first_less version (x ∷ []) = tt
first_less version (x ∷ y ∷ rest) =
    let slot : UnwindCode = record { prolog_offset = x; opcode_and_opinfo = y } in
    placed_less (length rest) (length (x ∷ y ∷ rest)) x (head_of version slot rest) (omega arith) (head_less (code_of version (code_number slot)) slot rest)

then_same : (n : ℕ) (first : First) → LeavesFewer n first → (f g : List ℕ → List Placed) → ((bytes : List ℕ) → length bytes + 2 ≤ n → f bytes ≡ g bytes) → then_later first f ≡ then_later first g
unfolding LeavesFewer
then_same n None less f g same = refl
then_same n (Some (offset, None, rest)) less f g same = same rest less
then_same n (Some (offset, Some operation, rest)) less f g same = ap (λ (later : List Placed). (offset, operation) ∷ later) (same rest less)

-- as many slots as there are bytes are enough
enough : (n m version : ℕ) (bytes : List ℕ) → length bytes ≤ n → length bytes ≤ m → operations_from n version bytes ≡ operations_from m version bytes
enough zero zero version bytes p q = refl
enough zero (suc m) version [] p q = refl
enough zero (suc m) version (x ∷ rest) p q = absurd (omega arith)
enough (suc n) zero version [] p q = refl
enough (suc n) zero version (x ∷ rest) p q = absurd (omega arith)
enough (suc n) (suc m) version bytes p q =
    then_same (length bytes) (first_of version bytes) (first_less version bytes) (operations_from n version) (operations_from m version)
    (λ later fewer. enough n m version later (omega arith) (omega arith))

-- the operations are the first one and those of what is left after it
pub operations_step : (version : ℕ) (bytes : List ℕ) → operations_of version bytes ≡ then_later (first_of version bytes) (operations_of version)
unfolding operations_of
operations_step version [] = refl
operations_step version (x ∷ rest) =
    then_same (length (x ∷ rest)) (first_of version (x ∷ rest)) (first_less version (x ∷ rest)) (operations_from (length rest) version) (operations_of version)
    (λ later fewer. enough (length rest) (length later) version later (omega arith) (omega arith))

pub operations_end : (version : ℕ) (bytes : List ℕ) → first_of version bytes ≡ None → operations_of version bytes ≡ []
operations_end version bytes e = operations_step version bytes ∙ rw e refl

pub operations_skip : (version offset : ℕ) (bytes rest : List ℕ) → first_of version bytes ≡ Some (offset, None, rest) → operations_of version bytes ≡ operations_of version rest
operations_skip version offset bytes rest e = operations_step version bytes ∙ rw e refl

pub operations_give : (version offset : ℕ) (operation : UnwindOperation) (bytes rest : List ℕ) → first_of version bytes ≡ Some (offset, Some operation, rest) → operations_of version bytes ≡ (offset, operation) ∷ operations_of version rest
operations_give version offset operation bytes rest e = operations_step version bytes ∙ rw e refl

-- what is left is shorter
pub fewer_left : (version : ℕ) (bytes : List ℕ) (p : ℕ × Option UnwindOperation × List ℕ) → first_of version bytes ≡ Some p → length p.2 + 2 ≤ length bytes
unfolding LeavesFewer
fewer_left version bytes p e = subst (LeavesFewer (length bytes)) e (first_less version bytes)

-- nothing is spelled by no bytes
pub operations_none : (version : ℕ) → operations_of version [] ≡ []
unfolding operations_of
operations_none version = refl

-- ---- records of version 1
-- a code that neither tells of an epilog nor is spare
plain : Option UnwindOperationCode → Bool
plain (Some EpilogCode) = false
plain (Some Spare) = false
plain _ = true

plain_cond : (b : Bool) (x y : Option UnwindOperationCode) → plain x ≡ true → plain y ≡ true → plain (cond b x y) ≡ true
plain_cond true x y p q = p
plain_cond false x y p q = q

plain_code : (version n : ℕ) → version < 2 → plain (code_of version n) ≡ true
unfolding plain
plain_code version n old =
    let no : (code : UnwindOperationCode) → plain (cond (ltb version 2) None (Some code)) ≡ true = λ code. rw (lt-ltb version 2 old) refl in
    plain_cond (eqb n 0) _ _ refl (plain_cond (eqb n 1) _ _ refl (plain_cond (eqb n 2) _ _ refl (plain_cond (eqb n 3) _ _ refl (
    plain_cond (eqb n 4) _ _ refl (plain_cond (eqb n 5) _ _ refl (plain_cond (eqb n 6) _ _ (no EpilogCode) (plain_cond (eqb n 7) _ _ (no Spare) (
    plain_cond (eqb n 8) _ _ refl (plain_cond (eqb n 9) _ _ refl (plain_cond (eqb n 10) _ _ refl refl))))))))))

-- whether the first of some operations tells of no epilog, where their head is such
abbrev untold : ℕ → (List ℕ → List Placed) → Head → Type 0
untold offset later head = first_epilog (then_later (placed_at offset head) later) ≡ None

untold_counts : (offset : ℕ) (later : List ℕ → List Placed) (operation : ℕ → UnwindOperation) (number : Option (ℕ × List ℕ)) → ((n : ℕ) → told_by (operation n) ≡ None) → untold offset later (counts operation number)
untold_counts offset later operation None h = refl
untold_counts offset later operation (Some (n, rest)) h = h n

untold_head : (offset : ℕ) (later : List ℕ → List Placed) (code : Option UnwindOperationCode) (slot : UnwindCode) (rest : List ℕ) → plain code ≡ true → untold offset later (head_by code slot rest)
unfolding plain
untold_head offset later None slot rest p = refl
untold_head offset later (Some PushNonvol) slot rest p = refl
untold_head offset later (Some AllocLarge) slot rest p = untold_counts offset later _ (large_size (code_information slot) rest) (λ n. refl)
untold_head offset later (Some AllocSmall) slot rest p = refl
untold_head offset later (Some SetFPReg) slot rest p = refl
untold_head offset later (Some SaveNonvol) slot rest p = untold_counts offset later _ (number_in_units 8 (first_u16 rest)) (λ n. refl)
untold_head offset later (Some SaveNonvolFar) slot rest p = untold_counts offset later _ (first_u32 rest) (λ n. refl)
untold_head offset later (Some EpilogCode) slot rest p = absurd cc
untold_head offset later (Some Spare) slot rest p = absurd cc
untold_head offset later (Some SaveXmm128) slot rest p = untold_counts offset later _ (number_in_units 16 (first_u16 rest)) (λ n. refl)
untold_head offset later (Some SaveXmm128Far) slot rest p = untold_counts offset later _ (first_u32 rest) (λ n. refl)
untold_head offset later (Some PushMachframe) slot rest p = refl

-- in a record of version 1 no operation tells of an epilog
pub old_untold : (version : ℕ) (bytes : List ℕ) → version < 2 → first_epilog (operations_of version bytes) ≡ None
old_untold version bytes old = ap first_epilog (operations_step version bytes) ∙ go bytes
  where
    go : (bytes : List ℕ) → first_epilog (then_later (first_of version bytes) (operations_of version)) ≡ None
    go [] = refl
    go (x ∷ []) = refl
    go (x ∷ y ∷ rest) =
        let slot : UnwindCode = record { prolog_offset = x; opcode_and_opinfo = y } in
        untold_head x (operations_of version) (code_of version (code_number slot)) slot rest (plain_code version (code_number slot) old)
