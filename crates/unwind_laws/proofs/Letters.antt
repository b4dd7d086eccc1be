-- What an augmentation says is said by its letters.
use Rattle.std.proofs.Common.{◌≡◌, ℕ, Bool, true, false, ◌||◌, List, [], ◌∷◌, Result, Ok, Err, refl, sym, ap, subst, ◌∙◌}
use Rattle.std.specs.Prelude.{is_some, ◌==◌}
use Rattle.std.proofs.lemmas.Bool.{eqb-true}
use Rattle.unwind_definitions.specs.declared.error.Error.{Error as Fault}
use Rattle.unwind_definitions.specs.declared.error.Error.TheVariants.{UnknownAugmentation}
use Rattle.unwind_definitions.specs.Membership.{is_among}
use Rattle.unwind_definitions.specs.Input.{Input, split, uleb}
use Rattle.unwind_definitions.specs.Pointers.{Bases, encoding, pointer}
use Rattle.unwind_definitions.specs.Entries.{Letters, letter, letters_from, no_letters, augmentation_data}
use Rattle.unwind_laws.proofs.Signal.{bound, ok_same}

same_found : (a b : Letters) (c d : Input) → ◌≡◌ {A = Result (Letters × Input) Fault} (Ok (a, c)) (Ok (b, d)) → a ≡ b
same_found a b c d e = ap (λ (q : Letters × Input). q.0) (ok_same (a, c) (b, d) e)

-- what is said after letters is what they say, and what was said before them
record Adds (said : ℕ → Bool) (before after : Letters) : Type 0 where
  personality : is_some after.personality ≡ (said 0x50 || is_some before.personality)
  language : is_some after.language ≡ (said 0x4c || is_some before.language)
  address : is_some after.address ≡ (said 0x52 || is_some before.address)
  signal : after.signal ≡ (said 0x53 || before.signal)

abbrev is_it : ℕ → ℕ → Bool
is_it l n = l == n

module _ (bases : Bases) (before after : Letters) (c d : Input) where
  by_language : letter bases 0x4c before c ≡ Ok (after, d) → Adds (is_it 0x4c) before after
  by_language e =
      let r = bound (encoding c) _ (after, d) e in
      subst (Adds (is_it 0x4c) before) (same_found _ after _ d r.2) (record { personality = refl; language = refl; address = refl; signal = refl })

  by_personality : letter bases 0x50 before c ≡ Ok (after, d) → Adds (is_it 0x50) before after
  by_personality e =
      let r = bound (encoding c) _ (after, d) e in
      let s = bound (pointer r.0.0 bases r.0.1) _ (after, d) r.2 in
      subst (Adds (is_it 0x50) before) (same_found _ after _ d s.2) (record { personality = refl; language = refl; address = refl; signal = refl })

  by_address : letter bases 0x52 before c ≡ Ok (after, d) → Adds (is_it 0x52) before after
  by_address e =
      let r = bound (encoding c) _ (after, d) e in
      subst (Adds (is_it 0x52) before) (same_found _ after _ d r.2) (record { personality = refl; language = refl; address = refl; signal = refl })

  by_signal : letter bases 0x53 before c ≡ Ok (after, d) → Adds (is_it 0x53) before after
  by_signal e = subst (Adds (is_it 0x53) before) (same_found _ after _ d e) (record { personality = refl; language = refl; address = refl; signal = refl })

  by_letter : (l : ℕ) → letter bases l before c ≡ Ok (after, d) → Adds (is_it l) before after
  by_letter l e = go (l == 0x4c) (l == 0x50) (l == 0x52) (l == 0x53) refl refl refl refl
    where
      at : (n : ℕ) → (letter bases n before c ≡ Ok (after, d) → Adds (is_it n) before after) → (l == n) ≡ true → Adds (is_it l) before after
      at n says is = let same : n ≡ l = sym (eqb-true l n is) in subst (λ (k : ℕ). Adds (is_it k) before after) same (says (subst (λ (k : ℕ). letter bases k before c ≡ Ok (after, d)) (sym same) e))

      go : (a b f g : Bool) → (l == 0x4c) ≡ a → (l == 0x50) ≡ b → (l == 0x52) ≡ f → (l == 0x53) ≡ g → Adds (is_it l) before after
      go true b f g is _ _ _ = at 0x4c by_language is
      go false true f g _ is _ _ = at 0x50 by_personality is
      go false false true g _ _ is _ = at 0x52 by_address is
      go false false false true _ _ _ is = at 0x53 by_signal is
      go false false false false no_l no_p no_r no_s = let none : letter bases l before c ≡ Err UnknownAugmentation = rw (no_l, no_p, no_r, no_s) refl in let both = sym none ∙ e in absurd cc

abbrev is_in : List ℕ → ℕ → Bool
is_in ls n = is_among ls n

said_after : (a b c d x : Bool) → x ≡ (b || d) → d ≡ (a || c) → x ≡ ((a || b) || c)
said_after true true c d x e f = e
said_after true false c d x e f = e ∙ f
said_after false b c d x e f = e ∙ ap (λ y. b || y) f

by_letters : (bases : Bases) (ls : List ℕ) (before after : Letters) (c : Input) → letters_from bases ls before c ≡ Ok after → Adds (is_in ls) before after
by_letters bases [] before after c e = subst (Adds (is_in []) before) (ok_same before after e) (record { personality = refl; language = refl; address = refl; signal = refl })
by_letters bases (l ∷ ls) before after c e =
    let r = bound (letter bases l before c) _ after e in
    let first = by_letter bases before r.0.0 c r.0.1 l r.1 in
    let rest = by_letters bases ls r.0.0 after r.0.1 r.2 in record {
      personality = said_after (l == 0x50) (is_in ls 0x50) _ _ _ rest.personality first.personality;
      language = said_after (l == 0x4c) (is_in ls 0x4c) _ _ _ rest.language first.language;
      address = said_after (l == 0x52) (is_in ls 0x52) _ _ _ rest.address first.address;
      signal = said_after (l == 0x53) (is_in ls 0x53) _ _ _ rest.signal first.signal;
    }

or_none : (a x : Bool) → x ≡ (a || false) → x ≡ a
or_none true x e = e
or_none false x e = e

-- what an augmentation of a z and letters says
module _ (bases : Bases) (z : ℕ) (ls : List ℕ) (c d : Input) (found : Letters) (e : augmentation_data bases (z ∷ ls) c ≡ Ok (found, d)) where
  said : Adds (is_in ls) no_letters found
  said =
      let n = bound (uleb c) _ (found, d) e in
      let block = bound (split n.0.0 n.0.1) _ (found, d) n.2 in
      let letters = bound (letters_from bases ls no_letters block.0.0) _ (found, d) block.2 in
      subst (Adds (is_in ls) no_letters) (same_found _ found _ d letters.2) (by_letters bases ls no_letters letters.0 block.0.0 letters.1)

  pub personality_said : is_some found.personality ≡ is_among ls 0x50
  personality_said = or_none _ _ said.personality

  pub language_said : is_some found.language ≡ is_among ls 0x4c
  language_said = or_none _ _ said.language

  pub address_said : is_some found.address ≡ is_among ls 0x52
  address_said = or_none _ _ said.address

  pub signal_said : found.signal ≡ is_among ls 0x53
  signal_said = or_none _ _ said.signal
