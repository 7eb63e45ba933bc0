pub mod DifferenceLemmas
