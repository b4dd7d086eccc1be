-- A search's step: what it gives with one turn more, by the call site that stands first.
use Rattle.std.proofs.Common.{◌≡◌, ℕ, zero, suc, ◌<◌, Some, None, Ok, Err, List, length, refl, arith, eqb, true, false}
use Rattle.memory_image.specs.Image.{Span}
use Rattle.unwind_definitions.specs.Input.{Input}
use Rattle.unwind_definitions.specs.Pointers.{Bases}
use Rattle.unwind_definitions.specs.Function.{Action, Terminate}
use Rattle.unwind_definitions.specs.Caller.{StepFault}
use Rattle.unwind_definitions.specs.LanguageSearch.{Head, CallSite, head, call_site, decision, search_from, search}

pub nonempty : (n : ℕ) → eqb n 0 ≡ false → 0 < n
nonempty zero e = absurd cc
nonempty (suc n) e = omega arith

module _ (image : List Span) (bases : Bases) (start a : ℕ) (h : Head) where
  pub search_end : (turns : ℕ) (c : Input) → eqb (length c.bytes) 0 ≡ true → search_from turns image bases start a h c ≡ Ok Terminate
  search_end zero c none = refl
  search_end (suc turns) c none = rw none refl

  module _ (turns left : ℕ) (c : Input) (more : left ≡ suc turns) (some : eqb (length c.bytes) 0 ≡ false) where
    pub site_fault : (e : StepFault) → call_site image bases h.site_encoding c ≡ Err e → search_from left image bases start a h c ≡ Err e
    site_fault e fails = rw (more, some, fails) refl

    module _ (s : CallSite) (d : Input) (reads : call_site image bases h.site_encoding c ≡ Ok (s, d)) where
      pub decision_fault : (e : StepFault) → decision start a h s ≡ Err e → search_from left image bases start a h c ≡ Err e
      decision_fault e fails = rw (more, some, reads, fails) refl

      pub decided : (x : Action) → decision start a h s ≡ Ok (Some x) → search_from left image bases start a h c ≡ Ok x
      decided x decides = rw (more, some, reads, decides) refl

      pub passed : decision start a h s ≡ Ok None → search_from left image bases start a h c ≡ search_from turns image bases start a h d
      passed passes = rw (more, some, reads, passes) refl

-- ---- a search by the table's head
module _ (image : List Span) (bases : Bases) (start a : ℕ) (c d : Input) (same : c ≡ d) where
  pub head_fault : (e : StepFault) → head image bases start c ≡ Err e → search image bases start a d ≡ Err e
  unfolding search
  head_fault e fails = rw (← same, fails) refl

  pub head_read : (h : Head) → head image bases start c ≡ Ok h → search image bases start a d ≡ search_from (length h.sites.bytes) image bases start a h h.sites
  unfolding search
  head_read h reads = rw (← same, reads) refl
