-- A stack that ends in a Mach-O module: a return address past all functions of its listing.
use Rattle.std.proofs.Common.{◌≡◌, ◌≤◌, [], Result, Ok, Err, refl, subst, arith, inl, inr, lit<, lit≤}
use Rattle.std.specs.List.{Contains}
use Rattle.unwind_definitions.specs.State.{IsState}
use Rattle.unwind_laws.proofs.Booleans.{here_or_later, none_in_nil, all_contains, pairs_one}
use Rattle.unwind_laws.proofs.RowFacts.{state_fits}
use Rattle.macho_unwind_info.specs.declared.error.Error.{Error}
use Rattle.macho_unwind_info.specs.declared.function.Function.{Function as Listed}
use Rattle.macho_unwind_info.specs.Listing.{Section, section_of, listing}
use Rattle.macho_unwind_info.specs.Sample.{described_bytes, described_functions}
use Rattle.format_definitions.specs.Modules.{FormatModule, Macho, part_of, DescribesFormat, MachoCoversNot, IsUncoveredIn, IsDescribedChain}
use Rattle.format_definitions.specs.Process.{FormatsApart, IsProcess}
use Rattle.format_laws.specs.MachoSamples.{sample_module, image}
use Rattle.format_laws.proofs.MachoValid.{described}
use Rattle.format_samples.specs.MachoWhole.{ending_modules, ending_functions, past_the_last}

pub is_process : IsProcess image ending_modules
is_process = record { regions = (lit≤ tt, lit< tt, lit≤ tt, (lit≤ tt, lit< tt, lit≤ tt, tt)); ranges = ((lit< tt, lit< tt), tt); apart = pairs_one FormatsApart (Macho sample_module) }

-- ---- no function of the listing covers the address

-- what holds of a section that there is
abbrev OnSection : (Section → Type 0) → Result Section Error → Type 0
OnSection P (Ok info) = P info
OnSection P (Err e) = Unit {0}

abbrev IsSample : Section → Type 0
IsSample info = listing info ≡ described_functions

sample_listing : OnSection IsSample (section_of described_bytes)
sample_listing = refl

listing_is : listing described.info ≡ described_functions
listing_is = subst (OnSection IsSample) described.parses sample_listing

-- functions end at the sentinel or before it
abbrev EndsBefore : Result Listed Error → Type 0
EndsBefore (Ok listed) = listed.end_address ≤ 0x3000
EndsBefore (Err e) = Unit {0}

each_ends : (listed : Listed) → Contains (listing described.info) (Ok listed) → listed.end_address ≤ 0x3000
each_ends listed has = all_contains EndsBefore described_functions (Ok listed) (lit≤ tt, (lit≤ tt, (lit≤ tt, tt))) (subst (λ l. Contains l (Ok listed)) listing_is has)

pub uncovered_end : MachoCoversNot image sample_module 0x100003000
uncovered_end = record {
  info = described.info;
  parses = described.parses;
  pages = described.pages;
  uncovered = λ listed has covers. let end = each_ends listed has in let below = covers.1 in omega arith;
}

-- ---- the chain of no calls

only : (P : FormatModule → Type 0) → P (Macho sample_module) → (m : FormatModule) → Contains ending_modules m → P m
only P h m known = elim (here_or_later (Macho sample_module) [] m known) [ inl same ↦ subst P same h | inr later ↦ absurd (none_in_nil m later) ]

fits : IsState past_the_last
fits = state_fits past_the_last (lit< tt) (lit< tt) (lit< tt) (lit< tt) (lit< tt) (lit< tt) (lit< tt) (lit< tt)

pub ends : IsDescribedChain image ending_modules ending_functions past_the_last []
ends = record {
  chain = record { state = fits; ends = inr (λ e. absurd cc, λ m known inside. only (λ h. IsUncoveredIn image h 0x100003000) uncovered_end m known) };
  described = tt;
  ends = inr (λ m known inside. only (λ h. DescribesFormat image h (part_of h ending_functions)) described m known);
}
