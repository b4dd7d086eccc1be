-- What a check answers, from what a frame table's entries tell.
use Rattle.std.proofs.Common.{◌≡◌, ℕ, List, [], Option, Some, None, Result, Ok, sym, subst, ◌∙◌, inl, inr}
use Rattle.std.specs.Prelude.{MatchOption}
use Rattle.memory_image.specs.Image.{Span}
use Rattle.unwind_definitions.specs.declared.error.Error.{Error as Fault}
use Rattle.unwind_definitions.specs.Entries.{Fde, Found}
use Rattle.unwind_definitions.specs.Function.{Function}
use Rattle.unwind_definitions.specs.Scan.{fdes_of}
use Rattle.fde_finders.specs.declared.custom.FrameInfo.{FrameInfo}
use Rattle.fde_finders.specs.FrameTables.{FrameTable, table_by}
use Rattle.table_check.specs.declared.claims.Claim.{Claim}
use Rattle.table_check.specs.declared.findings.Findings.{Findings}
use Rattle.table_check.specs.declared.reason.Reason.{Reason}
use Rattle.table_check.specs.declared.reason.Reason.TheVariants as reason
use Rattle.table_check.specs.declared.verdict.Verdict.TheVariants.{No}
use Rattle.table_check.specs.AllEntries.{AllApart}
use Rattle.table_check.specs.Findings.{AreFound, IsAnswer, StandSoFar, StandsWith}
use Rattle.table_check.specs.Marks.{AreMarked}
use Rattle.table_check.specs.Modules.{AreDescribed, tables_of}
use Rattle.table_check.specs.Pairs.{SaysListed}
use Rattle.table_check.specs.Reasons.{AllStandBeside, AreFunctionsIn, Refuses, RefusesClaims, RefusesTable, StandsSoFar}
use Rattle.table_check.specs.Scanned.{IsFirstExtra}
use Rattle.table_check.specs.Verdicts.{IsVerdict}
use Rattle.table_check.proofs.Apart.{all_apart}
use Rattle.table_check.proofs.Concluding.{says_yes}
use Rattle.table_check.proofs.Whole.{read_before}

none_some : (f : Found) → ◌≡◌ {A = Result (Option Found) Fault} (Ok None) (Ok (Some f)) → ⊥
none_some f is = cc

module _ (image : List Span) (t : FrameTable) (functions : List Function) (claims : List Claim) (found : Findings) (f : AreFound image t functions claims found) where
  module _ (none : found.extra ≡ None) where
    so_far : StandSoFar image t functions claims (fdes_of f.entries) found.highest found.listed
    so_far = subst (λ (o : Option ℕ). MatchOption o (StandSoFar image t functions claims (fdes_of f.entries) found.highest found.listed) (λ start. IsFirstExtra t.bases t.entries functions start)) none f.tells

    pub apart : AllApart (fdes_of f.entries)
    apart = all_apart functions [] (fdes_of f.entries) so_far.stand

    pub marks : AreMarked image t.bases (fdes_of f.entries) claims
    marks = so_far.marks

    pub listed : SaysListed t.pairs t.entries.base (fdes_of f.entries) found.listed
    listed = so_far.listed

    abbrev beside : AllStandBeside t.bases t.entries functions
    beside = record {
      entries = record { entries = f.entries; end = f.end; stand = f.stand; over = f.over };
      descriptions = record {
        entries = f.entries;
        end = f.end;
        read = read_before t.bases t.entries 0 f.entries f.end f.stand;
        over = λ e next at. none_some (record { entry = e; next = next }) (sym f.over ∙ at);
        stand = so_far.stand;
      };
    }

    pub it_stands : (P : List Fde → Type 0) → P (fdes_of f.entries) → StandsWith t functions P
    it_stands P p = record { beside = beside; holds = p }

module _ (image : List Span) (start end : ℕ) (frame : FrameInfo) (functions : List Function) where
  -- a claim that is refused is the first part that fails
  pub refuses_claims : (r : Reason) → RefusesClaims start end functions r → Refuses image start end frame functions r
  refuses_claims (reason.Claim i) h = h
  refuses_claims (reason.Range i) h = h
  refuses_claims reason.Header h = absurd h
  refuses_claims (reason.Entry offset) h = absurd h
  refuses_claims (reason.Extra first) h = absurd h
  refuses_claims (reason.Missing i) h = absurd h
  refuses_claims (reason.Program i) h = absurd h
  refuses_claims (reason.Sites i) h = absurd h
  refuses_claims reason.HeaderTable h = absurd h

  module _ (claims : AreFunctionsIn start end functions) (t : FrameTable) (named : table_by frame image ≡ Some t) where
    refuses_table : (r : Reason) → RefusesTable t.bases t.entries functions r → Refuses image start end frame functions r
    refuses_table (reason.Entry offset) h = (claims, t, named, h)
    refuses_table (reason.Extra first) h = (claims, t, named, h)
    refuses_table (reason.Claim i) h = absurd h
    refuses_table (reason.Range i) h = absurd h
    refuses_table reason.Header h = absurd h
    refuses_table (reason.Missing i) h = absurd h
    refuses_table (reason.Program i) h = absurd h
    refuses_table (reason.Sites i) h = absurd h
    refuses_table reason.HeaderTable h = absurd h

    pub verdict_no : (r : Reason) → IsAnswer image t (tables_of frame.kind) functions (Some r) → IsVerdict image start end frame functions (No r)
    verdict_no r (inl refused) = inl (refuses_table r refused)
    verdict_no r (inr w) = inr (record { stand = record { claims = claims; table = t; named = named; beside = w.beside }; refuses = w.holds })

    pub verdict_yes : IsAnswer image t (tables_of frame.kind) functions None → AreDescribed image start end frame functions
    verdict_yes w = let s : StandsSoFar image start end frame functions = record { claims = claims; table = t; named = named; beside = w.beside } in says_yes image start end frame functions s t named w.holds
