-- What a memory and a space take: a region or a module that nothing refuses.
use Rattle.std.proofs.Common.{◌≡◌, ℕ, ◌+◌, ◌-◌, ◌^◌, ◌<◌, ◌≤◌, Bool, true, false, List, length, Option, Some, None, refl, arith, eqb, leb, ltb}
use Rattle.std.specs.Prelude.{is_none, if◌then◌else◌}
use Rattle.std.specs.Option.{option_map}
use Rattle.std.proofs.lemmas.Bool.Decides.{nat_tests}
use Rattle.memory_image.specs.Image.{Span, end_of, lowest_overlap, refusal}
use Rattle.memory_image.specs.declared.errors.ImageError.TheVariants as image_errors
use Rattle.stack_steps.specs.declared.space.Module.{Module}
use Rattle.stack_steps.specs.declared.space.SpaceError.TheVariants.{Wraps, Overlap}
use Rattle.stack_steps.specs.Modules.{fits, given_refusal, lowest_shared, module_refusal}

-- what refuses no region
pub record IsFree (image : List Span) (s : Span) : Type 0 where
  pub some : 0 < length s.bytes
  pub fits : end_of s ≤ 2 ^ 64
  pub apart : lowest_overlap image s.start (length s.bytes) ≡ None

pub free_region : (image : List Span) (s : Span) → is_none (refusal image s.start s.bytes) ≡ true → IsFree image s
free_region image s free = go (eqb (length s.bytes) 0) refl (ltb (2 ^ 64) (s.start + length s.bytes)) refl (lowest_overlap image s.start (length s.bytes)) refl free
  where
    go : (a : Bool) → eqb (length s.bytes) 0 ≡ a → (b : Bool) → ltb (2 ^ 64) (s.start + length s.bytes) ≡ b → (o : Option ℕ) → lowest_overlap image s.start (length s.bytes) ≡ o →
        is_none (if a then Some image_errors.Empty else (if b then Some image_errors.Wraps else option_map image_errors.Overlap o)) ≡ true → IsFree image s
    go true none b past o is e = absurd cc
    go false some true past o is e = absurd cc
    go false some false fits (Some n) is e = absurd cc
    go false some false fits None is e = record { some = grind (arith, nat_tests); fits = grind (arith, nat_tests); apart = is }

-- what refuses no module
pub record IsFreeModule (taken : List Module) (m : Module) : Type 0 where
  pub some : m.start < m.end
  pub low : m.end < 2 ^ 64
  pub alone : lowest_shared taken m.start m.end ≡ None

pub free_module : (taken : List Module) (m : Module) → is_none (given_refusal taken m) ≡ true → IsFreeModule taken m
free_module taken m free = by_size (fits m.tables (m.end - m.start)) free
  where
    go : (a : Bool) → leb (2 ^ 64) m.end ≡ a → (b : Bool) → leb m.end m.start ≡ b → (o : Option ℕ) → lowest_shared taken m.start m.end ≡ o → is_none (if a then Some Wraps else (if b then Some Wraps else option_map Overlap o)) ≡ true → IsFreeModule taken m
    go true past b low o is e = absurd cc
    go false near true low o is e = absurd cc
    go false near false high (Some n) is e = absurd cc
    go false near false high None is e = record { some = grind (arith, nat_tests); low = grind (arith, nat_tests); alone = is }

    by_size : (b : Bool) → is_none (if b then module_refusal taken m else Some Wraps) ≡ true → IsFreeModule taken m
    by_size true e = go (leb (2 ^ 64) m.end) refl (leb m.end m.start) refl (lowest_shared taken m.start m.end) refl e
    by_size false e = absurd cc
