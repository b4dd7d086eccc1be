pub mod VerdictLemmas
