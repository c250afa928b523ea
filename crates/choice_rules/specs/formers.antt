-- Types that may hold the type that holds them: lists of one or more.
pub mod several
