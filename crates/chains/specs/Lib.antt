-- Chains of set operations (paper 01: chains), and what is proved of them.
pub mod Chains
pub mod Memberships
pub mod Statements
