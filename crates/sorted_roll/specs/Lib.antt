pub mod Ranks
pub mod Ranking
pub mod Bisection
