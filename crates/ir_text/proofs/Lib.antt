-- Lemmas on the text of flat code, as it is printed and read.
pub mod Steps
pub mod Judging
pub mod Alike
pub mod Rowed
pub mod Leaves
pub mod RuleBack
pub mod Back
