pub mod ClapLemmas
pub mod FoundLemmas
pub mod CommandLemmas
pub mod LineLemmas
pub mod NumberLemmas
pub mod OptionLemmas
pub mod RowLemmas
