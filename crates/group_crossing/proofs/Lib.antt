pub mod QueryLaws
pub mod QueryCases
pub mod NewestLaws
