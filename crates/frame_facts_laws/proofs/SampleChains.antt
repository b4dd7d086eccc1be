-- The two stops of a small program begin chains of facts, and its frame table says claims.
use Rattle.std.proofs.Common.{◌≡◌, ◌≢◌, ◌+◌, ◌<◌, ◌≤◌, Bool, true, false, List, [], ◌∷◌, Ok, refl, inl, lit<, lit≤}
use Rattle.std.specs.List.{Contains}
use Rattle.unwind_definitions.specs.Instructions.{instruction_of}
use Rattle.unwind_definitions.specs.Entries.{Fde}
use Rattle.unwind_definitions.specs.Row.{RowInstructions, row_at}
use Rattle.unwind_definitions.specs.State.{State}
use Rattle.frame_facts.specs.Facts.{Facts, StandsWith}
use Rattle.frame_facts.specs.FactRows.{SaysFacts}
use Rattle.frame_facts.specs.FactTables.{AreSaidAt}
use Rattle.frame_facts.specs.FactChains.{FactFrame, address_asked, IsFactEnd, IsFactChain}
use Rattle.frame_facts.specs.Claims.{Claim, IsClaimSaid, SaysClaims, locations_of}
use Rattle.frame_facts_laws.specs.SampleProgram as sample
use Rattle.frame_facts_laws.specs.SampleProgram.{bases, fdes, home, image, process}
use Rattle.frame_facts_laws.proofs.Stretches.{said_by_stretches}
use Rattle.frame_facts_laws.proofs.SampleTests.{are_words, is_one_stretch, one_row_says, words_fit}
use Rattle.frame_facts_laws.proofs.SampleFacts.{tables, says_in_part, says_of_sums, says_popped, says_in_pushes, said_overwritten, said_popped, said_in_part, said_in_many, said_in_pushes, said_in_aligned, said_in_libc_start, said_in_start, stands_overwritten, stands_popped, stands_in_part, stands_in_many, stands_in_pushes, stands_in_aligned, stands_in_libc_start, stands_in_start}

-- a frame before a chain of facts
before : (interrupted : Bool) (s t : State) (facts : Facts) (frames : List FactFrame) → are_words s ≡ true → s.ra ≢ 0 → StandsWith image facts t s → AreSaidAt process (address_asked interrupted s) facts →
    IsFactChain process false t frames → IsFactChain process interrupted s (record { facts = facts; caller = t } ∷ frames)
before interrupted s t facts frames words nonzero stands said chain = (record { state = words_fit s words; returns = nonzero; stands = stands; said = said }, chain)

last_state : IsFactEnd process false sample.outside
last_state = record { state = words_fit sample.outside refl; ends = inl refl }

abbrev with_frame : Facts → State → List FactFrame → List FactFrame
with_frame facts caller frames = record { facts = facts; caller = caller } ∷ frames

pub outer_chain : IsFactChain process false sample.in_part sample.outer_frames
outer_chain =
    let at_start : List FactFrame = with_frame sample.known_in_start sample.outside [] in
    let at_libc_start : List FactFrame = with_frame sample.known_in_libc_start sample.in_start at_start in
    let at_aligned : List FactFrame = with_frame sample.known_in_aligned sample.in_libc_start at_libc_start in
    let at_pushes : List FactFrame = with_frame sample.known_in_pushes sample.in_aligned at_aligned in
    let at_many : List FactFrame = with_frame sample.known_in_many sample.in_pushes at_pushes in
    let start = before false sample.in_start sample.outside sample.known_in_start [] refl (λ e. absurd cc) stands_in_start said_in_start last_state in
    let libc_start = before false sample.in_libc_start sample.in_start sample.known_in_libc_start at_start refl (λ e. absurd cc) stands_in_libc_start said_in_libc_start start in
    let aligned = before false sample.in_aligned sample.in_libc_start sample.known_in_aligned at_libc_start refl (λ e. absurd cc) stands_in_aligned said_in_aligned libc_start in
    let pushes = before false sample.in_pushes sample.in_aligned sample.known_in_pushes at_aligned refl (λ e. absurd cc) stands_in_pushes said_in_pushes aligned in
    let many = before false sample.in_many sample.in_pushes sample.known_in_many at_pushes refl (λ e. absurd cc) stands_in_many said_in_many pushes in
    before false sample.in_part sample.in_many sample.known_in_part at_many refl (λ e. absurd cc) stands_in_part said_in_part many

pub overwritten_chain : IsFactChain process true sample.overwritten (sample.frames_after sample.known_overwritten)
overwritten_chain = before true sample.overwritten sample.in_part sample.known_overwritten sample.outer_frames refl (λ e. absurd cc) stands_overwritten said_overwritten outer_chain

pub popped_chain : IsFactChain process true sample.popped (sample.frames_after sample.known_popped)
popped_chain = before true sample.popped sample.in_part sample.known_popped sample.outer_frames refl (λ e. absurd cc) stands_popped said_popped outer_chain

-- ---- claims

-- a description whose row at the start of a range says a claim, where no new row begins inside
claimed : (fde : Fde) (c : Claim) (run : RowInstructions) → Contains fdes fde → c.range.from < c.range.to → fde.start ≤ c.range.from → c.range.to ≤ fde.start + fde.size → fde.cie.letters.signal ≡ false →
    row_at bases fde c.range.from ≡ Ok run → SaysFacts c.facts run → is_one_stretch c (locations_of bases fde) ≡ true → IsClaimSaid bases fdes c
claimed fde c run listed some from to unmarked row says one =
    record { fde = fde; listed = listed; says = (said_by_stretches bases fde c some).1 (one_row_says bases fde c run from to unmarked row says one) }

part_said : IsClaimSaid bases fdes (sample.claim 0x401001 0x401019 sample.known_in_part)
unfolding row_at instruction_of
part_said = claimed sample.checked_part (sample.claim 0x401001 0x401019 sample.known_in_part) sample.row_in_part (6, lit< tt, refl) (lit< tt) (lit≤ tt) (lit≤ tt) refl refl says_in_part refl

sums_said : IsClaimSaid bases fdes (sample.claim 0x40108c 0x40109e sample.known_in_part)
unfolding row_at instruction_of
sums_said = claimed sample.sums (sample.claim 0x40108c 0x40109e sample.known_in_part) sample.row_of_sums (3, lit< tt, refl) (lit< tt) (lit≤ tt) (lit≤ tt) refl refl says_of_sums refl

popped_said : IsClaimSaid bases fdes (sample.claim 0x4010a3 0x4010a4 sample.known_popped)
unfolding row_at instruction_of
popped_said = claimed sample.sums (sample.claim 0x4010a3 0x4010a4 sample.known_popped) sample.row_popped (3, lit< tt, refl) (lit< tt) (lit≤ tt) (lit≤ tt) refl refl says_popped refl

pushes_said : IsClaimSaid bases fdes (sample.claim 0x401120 0x401126 sample.known_in_pushes)
unfolding row_at instruction_of
pushes_said = claimed sample.pushes (sample.claim 0x401120 0x401126 sample.known_in_pushes) sample.row_in_pushes (8, lit< tt, refl) (lit< tt) (lit≤ tt) (lit≤ tt) refl refl says_in_pushes refl

pub claims_said : SaysClaims image home sample.claims
claims_said = record { tables = tables; each = (part_said, (sums_said, (popped_said, (pushes_said, tt)))) }
