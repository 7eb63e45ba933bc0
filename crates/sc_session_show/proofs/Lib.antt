pub mod ContentLemmas
pub mod LayoutLemmas
