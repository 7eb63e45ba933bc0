pub mod CompositeTypes
