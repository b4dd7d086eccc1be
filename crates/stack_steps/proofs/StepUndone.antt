-- The module of an address, and the columns of a described caller.
use Rattle.std.proofs.Common.{inl, inr, ◌≡◌, ℕ, zero, suc, ◌<◌, ◌≤◌, Bool, true, false, List, [], ◌∷◌, get_or, Option, Some, None, refl, sym, subst, ◌∙◌, arith, cond, ltb, leb}
use Rattle.std.specs.Prelude.{◌⊎◌, ◌&&◌, IsFalse, map}
use Rattle.std.specs.Option.{unwrap_or}
use Rattle.std.specs.List.{Contains, cons_option, filter_map}
use Rattle.std.proofs.lemmas.Bool.Decides.{nat_tests, eqb_tells}
use Rattle.std.proofs.lemmas.Bool.{ltb-true}
use Rattle.unwind_definitions.specs.Caller.{Columns}
use Rattle.unwind_definitions.specs.Membership.{is_among}
use Rattle.unwind_definitions.specs.State.{RBX, RBP, R12, R13, R14, R15, State, value_of, Shows, is_followed, KeepsOthers}
use Rattle.unwind_definitions.specs.Module as described
use Rattle.unwind_laws.proofs.Booleans as lists
use Rattle.unwind_arch.specs.declared.x86_64.Context.{Context}
use Rattle.fde_finders.specs.declared.custom.FrameInfo.{FrameInfo}
use Rattle.stack_steps.specs.declared.space.Module.{Module}
use Rattle.stack_steps.specs.declared.space.ModuleTables.{ModuleTables}
use Rattle.stack_steps.specs.declared.space.ModuleTables.TheVariants.{Elf, Macho, Pe}
use Rattle.unwind_arch.specs.ContextViews.{columns_of, context_of, general_columns}
use Rattle.format_definitions.specs.PeRegisters.{KeepsScratchColumns}
use Rattle.stack_steps.specs.Modules.{AreApart, module_at}
use Rattle.stack_steps.specs.SpaceViews.{elf_module, elf_in, elf_of}

-- a module of the process is an ELF module of the space
pub record IsOf (modules : List Module) (home : described.Module) : Type 0 where
  pub named : Module
  pub among : Contains modules named
  pub frame : FrameInfo
  pub elf : named.tables ≡ Elf frame
  pub same : elf_module named.start named.end frame ≡ home

pub contains_map : (modules : List Module) (home : described.Module) → Contains (filter_map elf_of modules) home → IsOf modules home
contains_map [] home has = absurd (lists.none_in_nil home has)
contains_map (m ∷ ms) home has = go m.tables refl (λ h. contains_map ms home h) has
  where
    later : IsOf ms home → IsOf (m ∷ ms) home
    later is = record { named = is.named; among = lists.later m ms is.named is.among; frame = is.frame; elf = is.elf; same = is.same }

    go : (tables : ModuleTables) → m.tables ≡ tables → (Contains (filter_map elf_of ms) home → IsOf ms home) → Contains (cons_option (elf_in m.start m.end tables) (filter_map elf_of ms)) home → IsOf (m ∷ ms) home
    go (Elf frame) is earlier h = elim (lists.here_or_later (elf_module m.start m.end frame) (filter_map elf_of ms) home h) [
      | inl e ↦ record { named = m; among = lists.first m ms; frame = frame; elf = is; same = e }
      | inr more ↦ later (earlier more)
    ]
    go (Macho tables) is earlier h = later (earlier h)
    go (Pe tables) is earlier h = later (earlier h)

-- modules of which each begins where the one before ends or later begin at or above the lowest of them
apart_above : (low : ℕ) (modules : List Module) (m : Module) → AreApart low modules → Contains modules m → low ≤ m.start
apart_above low [] m apart has = absurd (lists.none_in_nil m has)
apart_above low (n ∷ ns) m apart has = go (λ h. apart_above n.end ns m apart.2 h) (lists.here_or_later n ns m has)
  where
    go : (Contains ns m → n.end ≤ m.start) → (n ≡ m) ⊎ Contains ns m → low ≤ m.start
    go later (inl e) = subst (λ (k : Module). low ≤ k.start) e apart.0
    go later (inr h) = let a : low ≤ n.start = apart.0 in let b : n.start < n.end = apart.1 in let c = later h in omega (arith, c)

-- the module that contains an address is found
pub module_at-contains : (low : ℕ) (modules : List Module) (m : Module) (a : ℕ) → AreApart low modules → Contains modules m → m.start ≤ a → a < m.end → module_at modules a ≡ Some m
module_at-contains low [] m a apart has from below = absurd (lists.none_in_nil m has)
module_at-contains low (n ∷ ns) m a apart has from below = go (λ h. module_at-contains n.end ns m a apart.2 h from below) (λ h. apart_above n.end ns m apart.2 h) (lists.here_or_later n ns m has)
  where
    go : (Contains ns m → module_at ns a ≡ Some m) → (Contains ns m → n.end ≤ m.start) → (n ≡ m) ⊎ Contains ns m → cond (leb n.start a && ltb a n.end) (Some n) (module_at ns a) ≡ Some m
    go later above (inl e) =
        let inside : (leb n.start a && ltb a n.end) ≡ true = subst (λ (k : Module). (leb k.start a && ltb a k.end) ≡ true) (sym e) (grind (arith, nat_tests)) in
        rw (inside, e) refl
    go later above (inr h) =
        let high : n.end ≤ m.start = above h in
        let outside : (leb n.start a && ltb a n.end) ≡ false = grind (arith, nat_tests) in
        rw (outside, later h) refl

-- the sixteen general columns, each at its place
general-at : (f : ℕ → ℕ) (k : ℕ) → k < 16 → get_or (map f general_columns) k 0 ≡ f k
general-at f zero low = refl
general-at f (suc zero) low = refl
general-at f (suc (suc zero)) low = refl
general-at f (suc (suc (suc zero))) low = refl
general-at f (suc (suc (suc (suc zero)))) low = refl
general-at f (suc (suc (suc (suc (suc zero))))) low = refl
general-at f (suc (suc (suc (suc (suc (suc zero)))))) low = refl
general-at f (suc (suc (suc (suc (suc (suc (suc zero))))))) low = refl
general-at f (suc (suc (suc (suc (suc (suc (suc (suc zero)))))))) low = refl
general-at f (suc (suc (suc (suc (suc (suc (suc (suc (suc zero))))))))) low = refl
general-at f (suc (suc (suc (suc (suc (suc (suc (suc (suc (suc zero)))))))))) low = refl
general-at f (suc (suc (suc (suc (suc (suc (suc (suc (suc (suc (suc zero))))))))))) low = refl
general-at f (suc (suc (suc (suc (suc (suc (suc (suc (suc (suc (suc (suc zero)))))))))))) low = refl
general-at f (suc (suc (suc (suc (suc (suc (suc (suc (suc (suc (suc (suc (suc zero))))))))))))) low = refl
general-at f (suc (suc (suc (suc (suc (suc (suc (suc (suc (suc (suc (suc (suc (suc zero)))))))))))))) low = refl
general-at f (suc (suc (suc (suc (suc (suc (suc (suc (suc (suc (suc (suc (suc (suc (suc zero))))))))))))))) low = refl
general-at f (suc (suc (suc (suc (suc (suc (suc (suc (suc (suc (suc (suc (suc (suc (suc (suc k)))))))))))))))) low = absurd (omega arith)

some_kept : (o : Option ℕ) (v : ℕ) → o ≡ Some v → Some (unwrap_or o 0) ≡ o
some_kept o v e = rw e refl

-- The columns of the context that holds a caller's columns, which show a state, have values for RSI and RDI, and keep the others.
module _ (old : Context) (caller : Columns) (t : State) (shows : Shows caller t) (others : KeepsScratchColumns (columns_of old) caller)
    (rsi : (v : ℕ) × (caller 4 ≡ Some v)) (rdi : (v : ℕ) × (caller 5 ≡ Some v)) where
  -- each general column has a value
  value_at : (k : ℕ) → k < 16 → (v : ℕ) × (caller k ≡ Some v)
  value_at zero low = (get_or old.registers 0 0, others 0 refl refl)
  value_at (suc zero) low = (get_or old.registers 1 0, others 1 refl refl)
  value_at (suc (suc zero)) low = (get_or old.registers 2 0, others 2 refl refl)
  value_at (suc (suc (suc zero))) low = (value_of RBX t, shows.saved RBX)
  value_at (suc (suc (suc (suc zero)))) low = rsi
  value_at (suc (suc (suc (suc (suc zero))))) low = rdi
  value_at (suc (suc (suc (suc (suc (suc zero)))))) low = (value_of RBP t, shows.saved RBP)
  value_at (suc (suc (suc (suc (suc (suc (suc zero))))))) low = (t.sp, shows.sp)
  value_at (suc (suc (suc (suc (suc (suc (suc (suc zero)))))))) low = (get_or old.registers 8 0, others 8 refl refl)
  value_at (suc (suc (suc (suc (suc (suc (suc (suc (suc zero))))))))) low = (get_or old.registers 9 0, others 9 refl refl)
  value_at (suc (suc (suc (suc (suc (suc (suc (suc (suc (suc zero)))))))))) low = (get_or old.registers 10 0, others 10 refl refl)
  value_at (suc (suc (suc (suc (suc (suc (suc (suc (suc (suc (suc zero))))))))))) low = (get_or old.registers 11 0, others 11 refl refl)
  value_at (suc (suc (suc (suc (suc (suc (suc (suc (suc (suc (suc (suc zero)))))))))))) low = (value_of R12 t, shows.saved R12)
  value_at (suc (suc (suc (suc (suc (suc (suc (suc (suc (suc (suc (suc (suc zero))))))))))))) low = (value_of R13 t, shows.saved R13)
  value_at (suc (suc (suc (suc (suc (suc (suc (suc (suc (suc (suc (suc (suc (suc zero)))))))))))))) low = (value_of R14 t, shows.saved R14)
  value_at (suc (suc (suc (suc (suc (suc (suc (suc (suc (suc (suc (suc (suc (suc (suc zero))))))))))))))) low = (value_of R15 t, shows.saved R15)
  value_at (suc (suc (suc (suc (suc (suc (suc (suc (suc (suc (suc (suc (suc (suc (suc (suc k)))))))))))))))) low = absurd (omega arith)

  holds-special : (k : ℕ) → ltb k 16 ≡ false → columns_of (context_of caller) k ≡ caller k
  holds-special k high = elim (eqb_tells k 16) as (λ d. columns_of (context_of caller) k ≡ caller k) [
    | inl e ↦ let at : k ≡ 16 = e.1 in rw at (some_kept (caller 16) t.ra shows.ra)
    | inr a ↦ elim (eqb_tells k 64) as (λ d. columns_of (context_of caller) k ≡ caller k) [
      | inl e ↦ let at : k ≡ 64 = e.1 in rw at (some_kept (caller 64) old.mcxsr (others 64 refl refl))
      | inr b ↦ elim (eqb_tells k 65) as (λ d. columns_of (context_of caller) k ≡ caller k) [
        | inl e ↦ let at : k ≡ 65 = e.1 in rw at (some_kept (caller 65) old.fcw (others 65 refl refl))
        | inr c ↦
            let free : IsFalse (is_followed k) = grind (arith, nat_tests) in
            let other : IsFalse (is_among (4 ∷ 5 ∷ []) k) = grind (arith, nat_tests) in
            let none : columns_of old k ≡ None = rw (high, a.0, b.0, c.0) refl in
            let here : columns_of (context_of caller) k ≡ None = rw (high, a.0, b.0, c.0) refl in
            here ∙ sym (others k free other ∙ none)
      ]
    ]
  ]

  pub context_of-scratch : (k : ℕ) → columns_of (context_of caller) k ≡ caller k
  context_of-scratch k = go (ltb k 16) refl
    where
      go : (b : Bool) → ltb k 16 ≡ b → columns_of (context_of caller) k ≡ caller k
      go true low =
          let small : k < 16 = ltb-true k 16 low in
          let v = value_at k small in
          rw (low, general-at (λ i. unwrap_or (caller i) 0) k small) (some_kept (caller k) v.0 v.1)
      go false high = holds-special k high

-- the same where RSI and RDI are kept too
pub context_of-holds : (old : Context) (caller : Columns) (t : State) → Shows caller t → KeepsOthers (columns_of old) caller → (k : ℕ) → columns_of (context_of caller) k ≡ caller k
context_of-holds old caller t shows others k = context_of-scratch old caller t shows (λ j free other. others j free) (get_or old.registers 4 0, others 4 refl) (get_or old.registers 5 0, others 5 refl) k
