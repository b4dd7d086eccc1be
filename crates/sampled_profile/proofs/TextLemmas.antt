-- The texts of frames one by one.
use Rattle.std.proofs.Common.{◌≡◌, ◌+◌, ◌-◌, ◌<◌, ℕ, List, [], ◌∷◌, ◌++◌, length, take, drop, slice_get, Option, Some, None, Bool, sym, ap, ◌∙◌, append_assoc, arith}
use Rattle.std.specs.Prelude.{All, IfSome, replicate}
use Rattle.std.proofs.lemmas.List.{drop_more}
use Rattle.std.proofs.lemmas.List.Elements.{All-append, All-nil, All-replicate, All-same, All-take}
use Rattle.unwind_arch.specs.declared.x86_64.Context.{Context}
use Rattle.std.proofs.lemmas.Option.{slice_get_within, get_or_from_slice_get}
use Rattle.stack_snapshot.specs.Origins.{OriginValue}
use Rattle.sampled_profile.specs.declared.frame_texts.KeptText.{KeptText}
use Rattle.stack_steps.specs.Modules.{SpaceValue}
use Rattle.sampled_profile.specs.Ends.{returns_of}
use Rattle.sampled_profile.specs.Frames.{places_of}
use Rattle.sampled_profile.specs.Tables.{IsKept}
use Rattle.sampled_profile.specs.Texts.{frame_text, frames_text}

-- of frames from one on
abbrev pub frames_from : List OriginValue → ℕ → List ℕ → List ℕ
frames_from origins i places = frames_text origins (drop i places)

-- one more on the way inwards, of which so many are left
pub put_more : (origins : List OriginValue) (returns : List ℕ) (left : ℕ) (a : ℕ) (front old new : List ℕ) → 0 < left → slice_get returns (left - 1) ≡ Some a → old ≡ front ++ frames_from origins left returns
    → new ≡ old ++ frame_text origins a → new ≡ front ++ frames_from origins (left - 1) returns
put_more origins returns left a front old new some at before put =
    let one : left - 1 + 1 ≡ left = omega arith in
    let more : frames_from origins (left - 1) returns ≡ frames_from origins left returns ++ frame_text origins a =
    ap (frames_text origins) (drop_more returns (left - 1) a (slice_get_within returns (left - 1) a at) ∙ ap (λ d. d ∷ drop (left - 1 + 1) returns) (get_or_from_slice_get returns (left - 1) a a at))
    ∙ ap (λ n. frames_from origins n returns ++ frame_text origins a) one in
    put ∙ (ap (λ s. s ++ frame_text origins a) before ∙ (append_assoc front (frames_from origins left returns) (frame_text origins a) ∙ ap (λ s. front ++ s) (sym more)))

-- the return address of one more state, and those outwards
pub returns_from : (states : List Context) (i : ℕ) (c : Context) → slice_get states i ≡ Some c → returns_of (drop i states) ≡ c.ra ∷ returns_of (drop (i + 1) states)
returns_from states i c at = ap returns_of (drop_more states i c (slice_get_within states i c at) ∙ ap (λ d. d ∷ drop (i + 1) states) (get_or_from_slice_get states i c c at))

-- the frame of one more state
pub one_more_frame : (space : SpaceValue) (states : List Context) (i : ℕ) (c : Context) (interrupted signal : Bool) (old new all : List ℕ) → slice_get states i ≡ Some c → old ++ places_of space interrupted (returns_of (drop i states)) ≡ all
    → ((outer : List ℕ) → new ++ places_of space signal outer ≡ old ++ places_of space interrupted (c.ra ∷ outer)) → new ++ places_of space signal (returns_of (drop (i + 1) states)) ≡ all
one_more_frame space states i c interrupted signal old new all at before put =
    put (returns_of (drop (i + 1) states)) ∙ (ap (λ rs. old ++ places_of space interrupted rs) (sym (returns_from states i c at)) ∙ before)

-- ---- texts that are kept

-- a place in which none is kept
abbrev pub IsKeptPlace : List OriginValue → List ℕ → Option KeptText → Type 0
IsKeptPlace origins texts place = IfSome place (IsKept origins texts)

pub none_are_kept : (origins : List OriginValue) (count length : ℕ) (before places : List (Option KeptText)) → before ≡ [] → places ≡ take count before ++ replicate (count - length) None → All (IsKeptPlace origins []) places
none_are_kept origins count length before places none is =
    let P : Option KeptText → Type 0 = IsKeptPlace origins [] in
    All-same P places (take count before ++ replicate (count - length) None) is
    (All-append P (take count before) (replicate (count - length) None) (All-take P count before (All-same P before [] none (All-nil P))) (All-replicate P (count - length) None tt))
