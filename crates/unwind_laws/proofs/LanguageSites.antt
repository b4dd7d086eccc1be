-- A search of a described language table gives the action of the function's sites.
use Rattle.std.proofs.Common.{◌≡◌, ℕ, zero, suc, ◌+◌, ◌-◌, ◌*◌, ◌%◌, ◌^◌, ◌<◌, ◌≤◌, Bool, true, false, cond, eqb, List, [], ◌∷◌, length, Option, Some, None, Result, Ok, Err, refl, sym, ap, subst, ◌∙◌, arith}
use Rattle.std.specs.Prelude.{nat_lt, nat_le, if◌then◌else◌}
use Rattle.std.specs.List.{AllByRecursion}
use Rattle.std.specs.Int.{w8}
use Rattle.std.proofs.lemmas.Bool.{lt-ltb, ltb-false, eqb-true}
use Rattle.std.proofs.lemmas.Bool.Decides.{nat_tests}
use Rattle.std.proofs.lemmas.List.{length-drop}
use Rattle.memory_image.specs.Image.{Span}
use Rattle.unwind_definitions.specs.declared.error.Error.{Error as Fault}
use Rattle.unwind_definitions.specs.declared.error.Error.TheVariants.{UnexpectedEof, UnsupportedPointerEncoding, BadUnsignedLeb128}
use Rattle.unwind_definitions.specs.Faults.{◌>>=◌, unless}
use Rattle.unwind_definitions.specs.Input.{Input, number, skip, uleb_from, uleb, sleb}
use Rattle.unwind_definitions.specs.Pointers.{Bases}
use Rattle.unwind_definitions.specs.Function.{Function, Site, Action, NoAction, Cleanup, Catch, Filter, Terminate, IsPad, MayAsk, AreSitesOf, AreWithin, ranges_of, action_among}
use Rattle.unwind_definitions.specs.LanguageTable.{input_at, numbered_action, action_of, site_at, AreSites, types, site_bytes, IsLanguageTable}
use Rattle.unwind_definitions.specs.Caller.{StepFault}
use Rattle.unwind_definitions.specs.LanguageSearch as tables
use Rattle.unwind_laws.specs.Searched.{action_of_sites}
use Rattle.unwind_laws.proofs.OneLanguage.{same_pair}
use Rattle.unwind_laws.proofs.SearchSites.{searched_is}

-- ---- an unsigned number takes a byte at least

-- fewer bytes than so many are left
abbrev IsBelow : {A : Type 0} → Result (A × Input) Fault → ℕ → Type 0
IsBelow (Ok r) n = length r.1.bytes < n
IsBelow (Err e) n = Unit {0}

abbrev eof : Result (ℕ × Input) Fault
eof = Err UnexpectedEof

byte_below : (c : Input) → IsBelow (number w8 c) (length c.bytes)
byte_below c = go (nat_lt (length c.bytes) 1) refl
  where
    left : length (skip 1 c).bytes ≡ length c.bytes - 1
    left = length-drop 1 c.bytes

    go : (b : Bool) → nat_lt (length c.bytes) 1 ≡ b → IsBelow (number w8 c) (length c.bytes)
    go true is = rw is tt
    go false is = let some = ltb-false (length c.bytes) 1 is in let k = left in rw is (omega arith)

abbrev last : ℕ × Input → Result (ℕ × Input) Fault
last b = cond (nat_le b.0 1) (Ok b) (Err BadUnsignedLeb128)

abbrev next_of : ℕ → ℕ × Input → Result (ℕ × Input) Fault
next_of most b = cond (nat_lt b.0 128) (Ok b) (uleb_from (suc most) b.1 >>= λ high. Ok (b.0 - 128 + 128 * high.0, high.1))

uleb_from_below : (most : ℕ) (c : Input) → IsBelow (uleb_from most c) (length c.bytes)
uleb_from_below zero c = tt
uleb_from_below (suc zero) c = go (number w8 c) (byte_below c)
  where
    chosen : (b : ℕ × Input) (t : Bool) → length b.1.bytes < length c.bytes → IsBelow (cond t (Ok b) (Err BadUnsignedLeb128)) (length c.bytes)
    chosen b true lt = lt
    chosen b false lt = tt

    go : (r : Result (ℕ × Input) Fault) → IsBelow r (length c.bytes) → IsBelow (r >>= last) (length c.bytes)
    go (Ok b) lt = chosen b (nat_le b.0 1) lt
    go (Err e) lt = tt
uleb_from_below (suc (suc most)) c = go (number w8 c) (byte_below c) (λ d. uleb_from_below (suc most) d)
  where
    joined : (b : ℕ × Input) (r : Result (ℕ × Input) Fault) → length b.1.bytes < length c.bytes → IsBelow r (length b.1.bytes) → IsBelow (r >>= λ high. Ok (b.0 - 128 + 128 * high.0, high.1)) (length c.bytes)
    joined b (Ok high) lt less = let l = less in omega arith
    joined b (Err e) lt less = tt

    chosen : (b : ℕ × Input) (t : Bool) → length b.1.bytes < length c.bytes → IsBelow (uleb_from (suc most) b.1) (length b.1.bytes) → IsBelow (cond t (Ok b) (uleb_from (suc most) b.1 >>= λ high. Ok (b.0 - 128 + 128 * high.0, high.1))) (length c.bytes)
    chosen b true lt less = lt
    chosen b false lt less = joined b (uleb_from (suc most) b.1) lt less

    go : (r : Result (ℕ × Input) Fault) → IsBelow r (length c.bytes) → ((d : Input) → IsBelow (uleb_from (suc most) d) (length d.bytes)) → IsBelow (r >>= next_of most) (length c.bytes)
    go (Ok b) lt each = chosen b (nat_lt b.0 128) lt (each b.1)
    go (Err e) lt each = tt

uleb_takes : (c d : Input) (n : ℕ) → uleb c ≡ Ok (n, d) → length d.bytes < length c.bytes
uleb_takes c d n reads = subst (λ (r : Result (ℕ × Input) Fault). IsBelow r (length c.bytes)) reads (uleb_from_below 10 c)

-- ---- the numbers of a site

abbrev some_site : Site → Input → Result (Site × Input) Fault
some_site s c = Ok (s, c)

abbrev some_action : Action → Result Action Fault
some_action x = Ok x

abbrev site_from : ℕ → (from len : ℕ) → Action → Site
site_from start from len action = record { range = record { from = start + from; to = start + from + len }; action = action }

-- the four numbers that a site is read from
pub record Numbers (start : ℕ) (actions c : Input) (s : Site) (next : Input) : Type 0 where
  pub from : ℕ × Input
  pub len : ℕ × Input
  pub pad : ℕ × Input
  pub index : ℕ × Input
  pub from_reads : uleb c ≡ Ok (from.0, from.1)
  pub len_reads : uleb from.1 ≡ Ok (len.0, len.1)
  pub pad_reads : uleb len.1 ≡ Ok (pad.0, pad.1)
  pub index_reads : uleb pad.1 ≡ Ok (index.0, index.1)
  pub asks : action_of start actions pad.0 index.0 ≡ Ok s.action
  pub begins : s.range.from ≡ start + from.0
  pub ends : s.range.to ≡ start + from.0 + len.0
  pub after : next ≡ index.1

module _ (start : ℕ) (actions c : Input) (s : Site) (next : Input) where
  acted : (from len pad index : ℕ × Input) → uleb c ≡ Ok (from.0, from.1) → uleb from.1 ≡ Ok (len.0, len.1) → uleb len.1 ≡ Ok (pad.0, pad.1) → uleb pad.1 ≡ Ok (index.0, index.1) → (r : Result Action Fault) →
      action_of start actions pad.0 index.0 ≡ r → (r >>= λ x. some_site (site_from start from.0 len.0 x) index.1) ≡ Ok (s, next) → Numbers start actions c s next
  acted from len pad index a b d e (Err f) is h = absurd cc
  acted from len pad index a b d e (Ok x) is h =
      let same = same_pair (site_from start from.0 len.0 x) s index.1 next h in
      record {
        from = from;
        len = len;
        pad = pad;
        index = index;
        from_reads = a;
        len_reads = b;
        pad_reads = d;
        index_reads = e;
        asks = is ∙ ap (λ (t : Site). some_action t.action) same.value;
        begins = sym (ap (λ (t : Site). t.range.from) same.value);
        ends = sym (ap (λ (t : Site). t.range.to) same.value);
        after = sym same.rest;
      }

  abbrev by_index : (from len pad index : ℕ × Input) → Result (Site × Input) Fault
  by_index from len pad index = action_of start actions pad.0 index.0 >>= λ x. some_site (site_from start from.0 len.0 x) index.1

  indexed : (from len pad : ℕ × Input) → uleb c ≡ Ok (from.0, from.1) → uleb from.1 ≡ Ok (len.0, len.1) → uleb len.1 ≡ Ok (pad.0, pad.1) → (r : Result (ℕ × Input) Fault) → uleb pad.1 ≡ r →
      (r >>= by_index from len pad) ≡ Ok (s, next) → Numbers start actions c s next
  indexed from len pad a b d (Err f) is h = absurd cc
  indexed from len pad a b d (Ok index) is h = acted from len pad index a b d is (action_of start actions pad.0 index.0) refl h

  padded : (from len : ℕ × Input) → uleb c ≡ Ok (from.0, from.1) → uleb from.1 ≡ Ok (len.0, len.1) → (r : Result (ℕ × Input) Fault) → uleb len.1 ≡ r → (r >>= λ pad. uleb pad.1 >>= by_index from len pad) ≡ Ok (s, next) → Numbers start actions c s next
  padded from len a b (Err f) is h = absurd cc
  padded from len a b (Ok pad) is h = indexed from len pad a b is (uleb pad.1) refl h

  long : (from : ℕ × Input) → uleb c ≡ Ok (from.0, from.1) → (r : Result (ℕ × Input) Fault) → uleb from.1 ≡ r → (r >>= λ len. uleb len.1 >>= λ pad. uleb pad.1 >>= by_index from len pad) ≡ Ok (s, next) → Numbers start actions c s next
  long from a (Err f) is h = absurd cc
  long from a (Ok len) is h = padded from len a is (uleb len.1) refl h

  numbers : (r : Result (ℕ × Input) Fault) → uleb c ≡ r → (r >>= λ from. uleb from.1 >>= λ len. uleb len.1 >>= λ pad. uleb pad.1 >>= by_index from len pad) ≡ Ok (s, next) → Numbers start actions c s next
  numbers (Err f) is h = absurd cc
  numbers (Ok from) is h = long from is (uleb from.1) refl h

  pub numbers_of : site_at start actions c ≡ Ok (s, next) → Numbers start actions c s next
  numbers_of reads = numbers (uleb c) refl reads

-- ---- the search through sites

-- a landing pad of a site that may be one of the function's is an address
small_pad : (f : Function) (actions : Input) (pad index : ℕ) (x : Action) → f.end < 2 ^ 64 → MayAsk f x → action_of f.start actions pad index ≡ Ok x → (b : Bool) → eqb pad 0 ≡ b → cond b (Unit {0}) (f.start + pad < 2 ^ 64)
small_pad f actions pad index x small may asks true is = tt
small_pad f actions pad index x small may asks false is = go (eqb index 0) (sleb (skip (index - 1) actions)) (rw is at asks)
  where
    entered : (y : Action) → IsPad f (f.start + pad) → some_action y ≡ Ok x → f.start + pad < 2 ^ 64
    entered y p e = let high = p.1 in omega arith

    same : (y : Action) → some_action y ≡ Ok x → y ≡ x
    same y e = cc

    asked : (y : Action) → some_action y ≡ Ok x → MayAsk f y
    asked y e = subst (MayAsk f) (sym (same y e)) may

    inside : IsPad f (f.start + pad) → f.start + pad < 2 ^ 64
    inside p = let high = p.1 in omega arith

    named : (n : ℕ × Input) (zero_is below : Bool) → some_action (cond zero_is (Cleanup (f.start + pad)) (cond below (Catch (f.start + pad)) (Filter (f.start + pad)))) ≡ Ok x → f.start + pad < 2 ^ 64
    named n true below e = inside (asked (Cleanup (f.start + pad)) e)
    named n false true e = inside (asked (Catch (f.start + pad)) e)
    named n false false e = inside (asked (Filter (f.start + pad)) e)

    go : (b : Bool) (r : Result (ℕ × Input) Fault) → cond b (some_action (Cleanup (f.start + pad))) (r >>= λ n. some_action (numbered_action (f.start + pad) n.0)) ≡ Ok x → f.start + pad < 2 ^ 64
    go true r e = inside (asked (Cleanup (f.start + pad)) e)
    go false (Err fault) e = absurd cc
    go false (Ok n) e = named n (eqb n.0 0) (nat_lt n.0 (2 ^ 63)) e

sum_is : (a b : ℕ) → a + b < 2 ^ 64 → tables.sum_below a b ≡ Ok (a + b)
sum_is a b small = rw (lt-ltb (a + b) (2 ^ 64) small) refl

-- an action, of whatever reading
abbrev acts : Action → Result Action StepFault
acts x = Ok x

module _ (f : Function) (small : f.end < 2 ^ 64) (listed actions : Input) where
  abbrev table_head : tables.Head
  table_head = record { pad_base = f.start; site_encoding = 1; sites = listed; actions = actions }

  abbrev call_site_of : (c : Input) (s : Site) (next : Input) → Numbers f.start actions c s next → tables.CallSite
  call_site_of c s next n = record { from = n.from.0; size = n.len.0; pad = n.pad.0; index = n.index.0 }

  -- what is asked of a call in the site
  asks_same : (c : Input) (s : Site) (next : Input) (n : Numbers f.start actions c s next) → MayAsk f s.action → tables.site_action table_head (call_site_of c s next n) ≡ Ok s.action
  asks_same c s next n may = go (eqb n.pad.0 0) refl (small_pad f actions n.pad.0 n.index.0 s.action small may n.asks)
    where
      same : (x y : Action) → some_action x ≡ some_action y → acts x ≡ acts y
      same x y e = let is : x ≡ y = cc in ap acts is

      read_same : (pad : ℕ) (r : Result (ℕ × Input) Fault) → (r >>= λ m. some_action (numbered_action pad m.0)) ≡ Ok s.action → (tables.table_reading r >>= λ m. acts (numbered_action pad m.0)) ≡ Ok s.action
      read_same pad (Ok m) e = same (numbered_action pad m.0) s.action e
      read_same pad (Err x) e = absurd cc

      by_index : (b : Bool) (pad : ℕ) → cond b (some_action (Cleanup pad)) (sleb (skip (n.index.0 - 1) actions) >>= λ m. some_action (numbered_action pad m.0)) ≡ Ok s.action →
          cond b (acts (Cleanup pad)) (tables.table_reading (sleb (skip (n.index.0 - 1) actions)) >>= λ m. acts (numbered_action pad m.0)) ≡ Ok s.action
      by_index true pad e = same (Cleanup pad) s.action e
      by_index false pad e = read_same pad (sleb (skip (n.index.0 - 1) actions)) e

      go : (b : Bool) → eqb n.pad.0 0 ≡ b → ((d : Bool) → eqb n.pad.0 0 ≡ d → cond d (Unit {0}) (f.start + n.pad.0 < 2 ^ 64)) → tables.site_action table_head (call_site_of c s next n) ≡ Ok s.action
      go true is below = rw is (same NoAction s.action (rw is at n.asks))
      go false is below = rw (is, sum_is f.start n.pad.0 (below false is)) (by_index (eqb n.index.0 0) (f.start + n.pad.0) (rw is at n.asks))

  module _ (image : List Span) (bases : Bases) (a : ℕ) where
    address_is : (c : Input) (n : ℕ × Input) → uleb c ≡ Ok (n.0, n.1) → n.0 < 2 ^ 64 → tables.address image 1 bases c ≡ Ok (n.0, n.1)
    address_is c n reads lt = let e : (0 + n.0) % 2 ^ 64 ≡ n.0 = omega arith in rw (reads, e) refl

    pad_below : (c : Input) (s : Site) (next : Input) (n : Numbers f.start actions c s next) → MayAsk f s.action → n.pad.0 < 2 ^ 64
    pad_below c s next n may = go (eqb n.pad.0 0) refl (small_pad f actions n.pad.0 n.index.0 s.action small may n.asks)
      where
        go : (b : Bool) → eqb n.pad.0 0 ≡ b → ((d : Bool) → eqb n.pad.0 0 ≡ d → cond d (Unit {0}) (f.start + n.pad.0 < 2 ^ 64)) → n.pad.0 < 2 ^ 64
        go true is below = let none : n.pad.0 ≡ 0 = eqb-true n.pad.0 0 is in omega arith
        go false is below = let lt = below false is in omega arith

    site_reads : (c : Input) (s : Site) (next : Input) (n : Numbers f.start actions c s next) → s.range.from < s.range.to → s.range.to ≤ f.end → MayAsk f s.action →
        tables.call_site image bases 1 c ≡ Ok (call_site_of c s next n, n.index.1)
    site_reads c s next n long inside may =
        let begins = n.begins in let ends = n.ends in
        rw (address_is c n.from n.from_reads (omega arith), address_is n.from.1 n.len n.len_reads (omega arith), address_is n.len.1 n.pad n.pad_reads (pad_below c s next n may), n.index_reads) refl

    -- what a site decides, by its range
    abbrev decides : Site → Option Action
    decides s = if nat_lt a s.range.from then Some Terminate else (if nat_lt a s.range.to then Some s.action else None)

    abbrev decided : Option Action → Result (Option Action) StepFault
    decided x = Ok x

    decision_is : (c : Input) (s : Site) (next : Input) (n : Numbers f.start actions c s next) → s.range.from < s.range.to → s.range.to ≤ f.end → MayAsk f s.action →
        tables.decision f.start a table_head (call_site_of c s next n) ≡ Ok (decides s)
    decision_is c s next n long inside may =
        let begins = n.begins in let ends = n.ends in
        rw (sum_is f.start n.from.0 (omega arith), sum_is (f.start + n.from.0) n.len.0 (omega arith), asks_same c s next n may, n.begins, n.ends) (go (nat_lt a (f.start + n.from.0)) (nat_lt a (f.start + n.from.0 + n.len.0)))
      where
        go : (b d : Bool) → cond b (decided (Some Terminate)) (cond d (decided (Some s.action)) (decided None)) ≡ Ok (cond b (Some Terminate) (cond d (Some s.action) None))
        go true d = refl
        go false true = refl
        go false false = refl

    -- turns enough, a search through the function's sites finds what a search through their ranges does
    sites_searched : (turns : ℕ) (c : Input) (ss : List Site) (low : ℕ) → length c.bytes ≤ turns → AreSites f.start actions c ss → AreWithin low f.end (ranges_of ss) → AllByRecursion (λ (s : Site). MayAsk f s.action) ss →
        tables.search_from turns image bases f.start a table_head c ≡ Ok (action_of_sites ss a)
    sites_searched zero c [] low enough are within may = refl
    sites_searched (suc turns) c [] low enough are within may = rw are refl
    sites_searched zero c (s ∷ ss) low enough are within may =
        let n = numbers_of f.start actions c s are.0 are.1 in
        let some = uleb_takes c n.from.1 n.from.0 n.from_reads in
        absurd (omega arith)
    sites_searched (suc turns) c (s ∷ ss) low enough are within may =
        let n : Numbers f.start actions c s are.0 = numbers_of f.start actions c s are.0 are.1 in
        let long = within.1 in let inside = within.2 in
        let one = uleb_takes c n.from.1 n.from.0 n.from_reads in
        let two = uleb_takes n.from.1 n.len.1 n.len.0 n.len_reads in
        let three = uleb_takes n.len.1 n.pad.1 n.pad.0 n.pad_reads in
        let four = uleb_takes n.pad.1 n.index.1 n.index.0 n.index_reads in
        let later : tables.search_from turns image bases f.start a table_head n.index.1 ≡ Ok (action_of_sites ss a) =
        sites_searched turns n.index.1 ss s.range.to (omega arith) (subst (λ (i : Input). AreSites f.start actions i ss) n.after are.2) within.3 may.1 in
        rw (nonempty (length c.bytes) (omega arith), site_reads c s are.0 n long inside may.0, decision_is c s are.0 n long inside may.0)
        (go (tables.search_from turns image bases f.start a table_head n.index.1) later (nat_lt a s.range.from) (nat_lt a s.range.to))
      where
        nonempty : (k : ℕ) → 0 < k → eqb k 0 ≡ false
        nonempty k lt = grind (arith, nat_tests)

        go : (r : Result Action StepFault) → r ≡ Ok (action_of_sites ss a) → (b d : Bool) → tables.decided_or (cond b (Some Terminate) (cond d (Some s.action) None)) r ≡ Ok (cond b Terminate (cond d s.action (action_of_sites ss a)))
        go r later true d = refl
        go r later false true = refl
        go r later false false = later

-- ---- the head

abbrev sized : ℕ → Input → Result (ℕ × Input) Fault
sized n c = Ok (n, c)

-- the parts of a described head
pub record HeadParts (c : Input) (size : ℕ) (after : Input) : Type 0 where
  pub base : Input
  pub base_reads : number w8 c ≡ Ok (0xff, base)
  pub type : ℕ
  pub typed : Input
  pub types_read : types base ≡ Ok (type, typed)
  pub site : Input
  pub site_reads : number w8 typed ≡ Ok (1, site)
  pub size_reads : uleb site ≡ Ok (size, after)

head_parts : (c : Input) (size : ℕ) (after : Input) → site_bytes c ≡ Ok (size, after) → HeadParts c size after
head_parts c size after e = go (number w8 c) refl e
  where
    sited : (base typed : ℕ × Input) → number w8 c ≡ Ok (0xff, base.1) → types base.1 ≡ Ok (typed.0, typed.1) → (site : ℕ × Input) → number w8 typed.1 ≡ Ok (site.0, site.1) → (b : Bool) → eqb site.0 1 ≡ b →
        (unless b UnsupportedPointerEncoding >>= λ u. uleb site.1) ≡ Ok (size, after) → HeadParts c size after
    sited base typed x y site z false is h = absurd cc
    sited base typed x y site z true is h = record {
      base = base.1;
      base_reads = x;
      type = typed.0;
      typed = typed.1;
      types_read = y;
      site = site.1;
      site_reads = z ∙ ap (λ (k : ℕ). sized k site.1) (eqb-true site.0 1 is);
      size_reads = h;
    }

    by_site : (base typed : ℕ × Input) → number w8 c ≡ Ok (0xff, base.1) → types base.1 ≡ Ok (typed.0, typed.1) → (r : Result (ℕ × Input) Fault) → number w8 typed.1 ≡ r →
        (r >>= λ site. unless (eqb site.0 1) UnsupportedPointerEncoding >>= λ u. uleb site.1) ≡ Ok (size, after) → HeadParts c size after
    by_site base typed x y (Err f) is h = absurd cc
    by_site base typed x y (Ok site) is h = sited base typed x y site is (eqb site.0 1) refl h

    by_types : (base : ℕ × Input) → number w8 c ≡ Ok (0xff, base.1) → (r : Result (ℕ × Input) Fault) → types base.1 ≡ r →
        (r >>= λ typed. number w8 typed.1 >>= λ site. unless (eqb site.0 1) UnsupportedPointerEncoding >>= λ u. uleb site.1) ≡ Ok (size, after) → HeadParts c size after
    by_types base x (Err f) is h = absurd cc
    by_types base x (Ok typed) is h = by_site base typed x is (number w8 typed.1) refl h

    by_base : (base : ℕ × Input) → number w8 c ≡ Ok (base.0, base.1) → (b : Bool) → eqb base.0 0xff ≡ b →
        (unless b UnsupportedPointerEncoding >>= λ u. types base.1 >>= λ typed. number w8 typed.1 >>= λ site. unless (eqb site.0 1) UnsupportedPointerEncoding >>= λ v. uleb site.1) ≡ Ok (size, after) → HeadParts c size after
    by_base base x false is h = absurd cc
    by_base base x true is h = by_types base (x ∙ ap (λ (k : ℕ). sized k base.1) (eqb-true base.0 0xff is)) (types base.1) refl h

    go : (r : Result (ℕ × Input) Fault) → number w8 c ≡ r →
        (r >>= λ base. unless (eqb base.0 0xff) UnsupportedPointerEncoding >>= λ u. types base.1 >>= λ typed. number w8 typed.1 >>= λ site. unless (eqb site.0 1) UnsupportedPointerEncoding >>= λ v. uleb site.1) ≡ Ok (size, after) →
        HeadParts c size after
    go (Err f) is h = absurd cc
    go (Ok base) is h = by_base base is (eqb base.0 0xff) refl h

-- A search of a described language table gives the action of the site that holds the address.
pub described_asks : (image : List Span) (bases : Bases) (f : Function) (table : ℕ) (sites : List Site) (a : ℕ) → AreSitesOf f sites → f.end < 2 ^ 64 → IsLanguageTable image table f.start sites →
    tables.search image bases f.start a (input_at image table) ≡ Ok (action_among sites a)
unfolding tables.search
described_asks image bases f table sites a are small is =
    let p : HeadParts (input_at image table) is.size is.after = head_parts (input_at image table) is.size is.after is.header in
    let reads : tables.head image bases f.start (input_at image table) ≡ Ok (table_head f small is.listed is.actions) =
    rw (p.base_reads, p.types_read, p.site_reads, p.size_reads, is.parts) refl in
    rw reads (sites_searched f small is.listed is.actions image bases a (length is.listed.bytes) is.listed sites f.start (omega arith) is.each are.ranges are.actions
    ∙ ap acts (searched_is sites f.start f.end a are.ranges))
