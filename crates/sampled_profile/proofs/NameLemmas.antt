-- The names of threads by what is kept.
use Rattle.std.proofs.Common.{◌≡◌, ℕ, zero, suc, List, Option, Some, None, refl}
use Rattle.perf_data.specs.Records.{RecordValue}
use Rattle.sampled_profile.specs.declared.names.ThreadNames.{ThreadNames}
use Rattle.sampled_profile.specs.Kept.{Knows, name_kept, own_kept, parent_kept}
use Rattle.sampled_profile.specs.Names.{name_by, name_within, name_in, own_name, parent_of}

-- functions with the same values give the same names
within_same : (f g : ℕ → Option (List ℕ)) (p q : ℕ → Option ℕ) → ((t : ℕ) → (f t ≡ g t) × (p t ≡ q t)) → (most thread : ℕ) → name_within most f p thread ≡ name_within most g q thread
within_same f g p q same zero thread = refl
within_same f g p q same (suc most) thread = rw ((same thread).0, (same thread).1) (go (within_same f g p q same most) (g thread) (q thread))
  where
    go : ((t : ℕ) → name_within most f p t ≡ name_within most g q t) → (own : Option (List ℕ)) (parent : Option ℕ) → name_by own parent (name_within most f p) ≡ name_by own parent (name_within most g q)
    go later (Some name) parent = refl
    go later None None = refl
    go later None (Some t) = later t

pub named_in : (names : ThreadNames) (earlier : List RecordValue) → Knows names earlier → (thread : ℕ) → name_kept names 16 thread ≡ name_in earlier thread
unfolding name_in
named_in names earlier knows thread = within_same (own_kept names) (own_name earlier) (parent_kept names) (parent_of earlier) knows 16 thread
