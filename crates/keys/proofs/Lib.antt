pub mod Ascents
