-- The first entry of a pad is the one that counts.
use Rattle.std.proofs.Common.{◌≡◌, ℕ, ◌==◌, true, false, cond, List, [], ◌∷◌, Bool, Option, Some, None, refl, sym, ap, ◌∙◌, subst, arith, ltb}
use Rattle.std.proofs.lemmas.Bool.Decides.{nat_tests}
use Rattle.stack_deliver.specs.Resumes.{return_of, by_pad, with_resume, with_resumes, resume_table}

-- what is found first, else the other
abbrev pub first_of : Option ℕ → Option ℕ → Option ℕ
first_of None other = other
first_of (Some r) other = Some r

-- what one entry says of a pad
abbrev pub said_of : ℕ → ℕ → ℕ → Option ℕ
said_of pad ret q = cond (pad == q) (Some ret) None

first_of_none : (o : Option ℕ) → o ≡ first_of o None
first_of_none None = refl
first_of_none (Some r) = refl

first_of_first : (o p q : Option ℕ) → first_of (first_of o p) q ≡ first_of o (first_of p q)
first_of_first None p q = refl
first_of_first (Some r) p q = refl

-- an entry in front, whose pad has none after it
in_front : (es : List (ℕ × ℕ)) (pad ret q : ℕ) → return_of es pad ≡ None → return_of ((pad, ret) ∷ es) q ≡ first_of (return_of es q) (said_of pad ret q)
in_front es pad ret q none = go (pad == q) refl
  where
    go : (b : Bool) → (pad == q) ≡ b → return_of ((pad, ret) ∷ es) q ≡ first_of (return_of es q) (said_of pad ret q)
    go true p =
        let same : pad ≡ q = grind (arith, nat_tests) in
        let P : ℕ → Type 0 = λ x. return_of es x ≡ None in
        let gone : return_of es q ≡ None = subst P same none in
        rw (p, gone) refl
    go false p = rw p (first_of_none (return_of es q))

after : (e : ℕ × ℕ) (o p : Option ℕ) (q : ℕ) → cond (e.0 == q) (Some e.1) (first_of o p) ≡ first_of (cond (e.0 == q) (Some e.1) o) p
after e o p q = elim (e.0 == q) as (λ b. cond b (Some e.1) (first_of o p) ≡ first_of (cond b (Some e.1) o) p) [ true ↦ refl | false ↦ refl ]

placed : (es : List (ℕ × ℕ)) (pad ret q : ℕ) → return_of es pad ≡ None → return_of (by_pad es pad ret) q ≡ first_of (return_of es q) (said_of pad ret q)
placed [] pad ret q none = refl
placed (e ∷ es) pad ret q none = go (e.0 == pad) refl (placed es pad ret q)
  where
    go : (b : Bool) → (e.0 == pad) ≡ b → (return_of es pad ≡ None → return_of (by_pad es pad ret) q ≡ first_of (return_of es q) (said_of pad ret q)) → return_of (by_pad (e ∷ es) pad ret) q ≡ first_of (return_of (e ∷ es) q) (said_of pad ret q)
    go true is more = let bad : Some e.1 ≡ None = rw is at none in absurd (cc)
    go false is more = order (ltb pad e.0) refl (in_front (e ∷ es) pad ret q none) (more (rw is at none))
      where
        order : (b : Bool) → ltb pad e.0 ≡ b → return_of ((pad, ret) ∷ e ∷ es) q ≡ first_of (return_of (e ∷ es) q) (said_of pad ret q) → return_of (by_pad es pad ret) q ≡ first_of (return_of es q) (said_of pad ret q) → return_of (by_pad (e ∷ es) pad ret) q ≡ first_of (return_of (e ∷ es) q) (said_of pad ret q)
        order true l front rest = rw l front
        order false l front rest = rw (l, rest) (after e (return_of es q) (said_of pad ret q) q)

pub with_one : (table : List (ℕ × ℕ)) (pad ret q : ℕ) → return_of (with_resume table pad ret) q ≡ first_of (return_of table q) (said_of pad ret q)
with_one table pad ret q = go (return_of table pad) refl
  where
    kept : (b : Bool) (r : ℕ) → (pad == q) ≡ b → return_of table pad ≡ Some r → return_of table q ≡ first_of (return_of table q) (said_of pad ret q)
    kept true r p is =
        let same : pad ≡ q = grind (arith, nat_tests) in
        let P : ℕ → Type 0 = λ x. return_of table x ≡ Some r in
        let found : return_of table q ≡ Some r = subst P same is in
        rw found refl
    kept false r p is = rw p (first_of_none (return_of table q))

    go : (o : Option ℕ) → return_of table pad ≡ o → return_of (with_resume table pad ret) q ≡ first_of (return_of table q) (said_of pad ret q)
    go None is = rw is (placed table pad ret q is)
    go (Some r) is = rw is (kept (pad == q) r refl is)

pub with_all : (es table : List (ℕ × ℕ)) (q : ℕ) → return_of (with_resumes table es) q ≡ first_of (return_of table q) (return_of es q)
with_all [] table q = first_of_none (return_of table q)
with_all (e ∷ es) table q =
    let one : return_of (with_resume table e.0 e.1) q ≡ first_of (return_of table q) (said_of e.0 e.1 q) = with_one table e.0 e.1 q in
    let said : first_of (said_of e.0 e.1 q) (return_of es q) ≡ return_of (e ∷ es) q = sym (after e None (return_of es q) q) in
    with_all es (with_resume table e.0 e.1) q ∙ (ap (λ o. first_of o (return_of es q)) one ∙ (first_of_first (return_of table q) (said_of e.0 e.1 q) (return_of es q) ∙ ap (λ o. first_of (return_of table q) o) said))

-- the table of some entries has of each pad the first one
pub table_first : (entries : List (ℕ × ℕ)) (q : ℕ) → return_of (resume_table entries) q ≡ return_of entries q
table_first entries q = with_all entries [] q
