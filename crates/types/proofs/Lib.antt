pub mod BitLists
