-- The entry of a frame table that a scan can't read.
use Rattle.std.proofs.Common.{◌≡◌, ◌≢◌, ℕ, suc, Bool, true, false, List, [], ◌∷◌, Option, Some, None, Result, Ok, Err, refl, sym, ap, subst, ◌∙◌, cond, length}
use Rattle.std.specs.Result.{is_err}
use Rattle.encoded_pointers.specs.Readers.{Answers}
use Rattle.unwind_definitions.specs.declared.error.Error.{Error as Fault}
use Rattle.unwind_definitions.specs.declared.error.Error.TheVariants.{NoUnwindInfoForAddress}
use Rattle.unwind_definitions.specs.Input.{Input}
use Rattle.unwind_definitions.specs.Pointers.{Bases}
use Rattle.unwind_definitions.specs.Entries.{Fde, Entry, ACie, AFde, Found, entry_at, AreEntries}
use Rattle.unwind_definitions.specs.Row.{covers_pc}
use Rattle.unwind_definitions.specs.Scan.{fdes_of, first_covering, found_or, scan_from, scan}
use Rattle.eh_frame.specs.Search.{Precede}
use Rattle.eh_frame.specs.Listing.{Listing, upcoming, entry_in, after}
use Rattle.stack_walks.specs.WalkEnds.{IsUnreadableAt}

-- ---- an answer is a fault, or none

pub answered_err : {X Y : Type 0} (view : X → Y) (r : Result X Fault) (given : Result Y Fault) → Answers view r given → is_err r ≡ true → (x : Fault) × (given ≡ Err x)
answered_err view (Ok v) given is fails = absurd cc
answered_err view (Err x) given is fails = (x, is)

pub answered_ok : {X Y : Type 0} (view : X → Y) (r : Result X Fault) (given : Result Y Fault) → Answers view r given → is_err r ≡ false → (y : Y) × (given ≡ Ok y)
answered_ok view (Ok v) given is fine = (view v, is)
answered_ok view (Err x) given is fine = absurd cc

-- ---- at most one entry is the first that can't be read

abbrev ok_entry : Entry → ℕ → Result (Option Found) Fault
ok_entry e next = Ok (Some (record { entry = e; next = next }))

next_of : Result (Option Found) Fault → ℕ
next_of (Ok (Some found)) = found.next
next_of (Ok None) = 0
next_of (Err e) = 0

module _ (bases : Bases) (table : Input) where
  -- an entry that can be read is one
  one_next : (offset : ℕ) (d e : Entry) (m n : ℕ) → entry_at bases table offset ≡ ok_entry d m → entry_at bases table offset ≡ ok_entry e n → m ≡ n
  unfolding next_of
  one_next offset d e m n is also = ap next_of (sym is ∙ also)

  -- at most one entry is the first that can't be read
  pub one_unread : (from : ℕ) (before also : List Entry) (x y : ℕ) (e f : Fault) → Precede bases table from before x → entry_at bases table x ≡ Err e →
      Precede bases table from also y → entry_at bases table y ≡ Err f → (x ≡ y) × (e ≡ f)
  one_unread from [] [] x y e f px ex py ey =
      let same : x ≡ y = sym px ∙ py in
      let fault : ◌≡◌ {A = Result (Option Found) Fault} (Err e) (Err f) = sym ex ∙ ap (entry_at bases table) same ∙ ey in
      (same, cc)
  one_unread from [] (d ∷ also) x y e f px ex py ey =
      let bad : ◌≡◌ {A = Result (Option Found) Fault} (Err e) (ok_entry d py.0) = sym ex ∙ ap (entry_at bases table) (sym px) ∙ py.1 in absurd cc
  one_unread from (d ∷ before) [] x y e f px ex py ey =
      let bad : ◌≡◌ {A = Result (Option Found) Fault} (Err f) (ok_entry d px.0) = sym ey ∙ ap (entry_at bases table) (sym py) ∙ px.1 in absurd cc
  one_unread from (d ∷ before) (b ∷ also) x y e f px ex py ey =
      let same : py.0 ≡ px.0 = one_next from b d py.0 px.0 py.1 px.1 in
      one_unread px.0 before also x y e f px.2 ex (subst (λ (n : ℕ). Precede bases table n also y) same py.2) ey

  -- nor where all can be read
  pub none_unread : (from : ℕ) (entries before : List Entry) (x : ℕ) (e : Fault) → AreEntries bases table from entries →
      Precede bases table from before x → entry_at bases table x ≡ Err e → ⊥
  none_unread from [] [] x e are px ex =
      let bad : ◌≡◌ {A = Result (Option Found) Fault} (Err e) (Ok None) = sym ex ∙ ap (entry_at bases table) (sym px) ∙ are in absurd cc
  none_unread from [] (d ∷ before) x e are px ex =
      let bad : Ok None ≡ ok_entry d px.0 = sym are ∙ px.1 in absurd cc
  none_unread from (d ∷ entries) [] x e are px ex =
      let bad : ◌≡◌ {A = Result (Option Found) Fault} (Err e) (ok_entry d are.0) = sym ex ∙ ap (entry_at bases table) (sym px) ∙ are.1 in absurd cc
  none_unread from (d ∷ entries) (b ∷ before) x e are px ex =
      let same : px.0 ≡ are.0 = one_next from b d px.0 are.0 px.1 are.1 in
      none_unread are.0 entries before x e are.2 (subst (λ (n : ℕ). Precede bases table n before x) same px.2) ex

-- ---- the way to it

-- a scan from an offset on fails for the entry for which it fails from the start on
abbrev pub Fails : Bases → Input → ℕ → Fault → ℕ → ℕ → Type 0
Fails bases table a e turns offset = (scan_from turns bases table a offset ≡ Err e) × ((at_offset : ℕ) → IsUnreadableAt bases table a offset at_offset e → IsUnreadableAt bases table a 0 at_offset e)

module _ (bases : Bases) (table : Input) (a : ℕ) (e : Fault) (unread : e ≢ NoUnwindInfoForAddress) where
  pub fails_first : (turns : ℕ) → turns ≡ suc (length table.bytes) → scan bases table a ≡ Err e → Fails bases table a e turns 0
  unfolding scan
  fails_first turns enough is = (rw enough is, λ o u. u)

  pub never_spent : (turns offset : ℕ) → turns ≡ 0 → Fails bases table a e turns offset → ⊥
  never_spent turns offset none fails =
      let bad : ◌≡◌ {A = Result Fde Fault} (Err NoUnwindInfoForAddress) (Err e) = rw none at fails.0 in
      let same : e ≡ NoUnwindInfoForAddress = cc in unread same

  -- it is this one
  pub fails_here : (turns offset : ℕ) (x : Fault) → Fails bases table a e (suc turns) offset → entry_at bases table offset ≡ Err x → IsUnreadableAt bases table a 0 offset e
  fails_here turns offset x fails is =
      let same : ◌≡◌ {A = Result Fde Fault} (Err x) (Err e) = rw is at fails.0 in
      let fault : x ≡ e = cc in
      fails.1 offset (record { before = []; offset = offset; precede = refl; none_before = refl; unread = is ∙ ap (λ (f : Fault). refused f) fault }, refl)
    where
      refused : Fault → Result (Option Found) Fault
      refused f = Err f

  pub never_ends : (turns offset : ℕ) → Fails bases table a e (suc turns) offset → entry_at bases table offset ≡ Ok None → ⊥
  never_ends turns offset fails is =
      let bad : ◌≡◌ {A = Result Fde Fault} (Err NoUnwindInfoForAddress) (Err e) = rw is at fails.0 in
      let same : e ≡ NoUnwindInfoForAddress = cc in unread same

  -- an entry before it, which doesn't contain the address
  before_it : (entry : Entry) (later : Result Fde Fault) → found_or a entry later ≡ Err e →
      (later ≡ Err e) × ((es : List Entry) → first_covering (fdes_of es) a ≡ None → first_covering (fdes_of (entry ∷ es)) a ≡ None)
  before_it (ACie cie) later is = (is, λ es none. none)
  before_it (AFde fde) later is = go (covers_pc fde a) refl is
    where
      go : (b : Bool) → covers_pc fde a ≡ b → cond b (Ok fde) later ≡ Err e → (later ≡ Err e) × ((es : List Entry) → first_covering (fdes_of es) a ≡ None → first_covering (fdes_of (AFde fde ∷ es)) a ≡ None)
      go true covers is = absurd cc
      go false covers is = (is, λ es none. rw covers none)

  pub fails_later : (turns offset : ℕ) (found : Found) → Fails bases table a e (suc turns) offset → entry_at bases table offset ≡ Ok (Some found) → Fails bases table a e turns found.next
  fails_later turns offset found fails is =
      let scanned : found_or a found.entry (scan_from turns bases table a found.next) ≡ Err e = rw is at fails.0 in
      let before = before_it found.entry (scan_from turns bases table a found.next) scanned in (
        before.0,
        λ o u. fails.1 o (
          record {
            before = found.entry ∷ u.0.before;
            offset = u.0.offset;
            precede = (found.next, is, u.0.precede);
            none_before = before.1 u.0.before u.0.none_before;
            unread = u.0.unread;
          },
          u.1,
        ),
      )

  -- ---- the same of what is left of a table's entries

  abbrev Goes : ℕ → Listing → Type 0
  Goes turns l = (l.table ≡ table) × (l.bases ≡ bases) × (l.is_over ≡ false) × Fails bases table a e turns l.offset

  upcoming_at : (l : Listing) → l.table ≡ table → l.bases ≡ bases → l.is_over ≡ false → upcoming l ≡ entry_at bases table l.offset
  upcoming_at l of_table by more = rw (of_table, by, more) refl

  pub listing_fails : (turns left : ℕ) (l : Listing) (x : Fault) → left ≡ suc turns → l.table ≡ table → l.bases ≡ bases → l.is_over ≡ false → Fails bases table a e left l.offset →
      entry_in (upcoming l) ≡ Err x → IsUnreadableAt bases table a 0 l.offset e
  listing_fails turns left l x left_is of_table by more fails is = go (entry_at bases table l.offset) refl (rw (upcoming_at l of_table by more) at is)
    where
      go : (r : Result (Option Found) Fault) → entry_at bases table l.offset ≡ r → entry_in r ≡ Err x → IsUnreadableAt bases table a 0 l.offset e
      go (Ok None) at_offset h = absurd cc
      go (Ok (Some found)) at_offset h = absurd cc
      go (Err f) at_offset h = fails_here turns l.offset f (rw left_is at fails) at_offset

  pub listing_goes : (turns left : ℕ) (l m : Listing) (o : Option Entry) → left ≡ suc turns → l.table ≡ table → l.bases ≡ bases → l.is_over ≡ false → Fails bases table a e left l.offset →
      entry_in (upcoming l) ≡ Ok o → m ≡ after l (upcoming l) → Goes turns m
  listing_goes turns left l m o left_is of_table by more fails is then = go (entry_at bases table l.offset) refl (rw (upcoming_at l of_table by more) at is) (rw (upcoming_at l of_table by more) at then)
    where
      go : (r : Result (Option Found) Fault) → entry_at bases table l.offset ≡ r → entry_in r ≡ Ok o → m ≡ after l r → Goes turns m
      go (Ok None) at_offset h rest = absurd (never_ends turns l.offset (rw left_is at fails) at_offset)
      go (Ok (Some found)) at_offset h rest = rw rest (of_table, by, more, fails_later turns l.offset found (rw left_is at fails) at_offset)
      go (Err f) at_offset h rest = absurd cc
