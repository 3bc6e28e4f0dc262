-- Demand 3 and the claim about races, as statements.
pub mod Variants
pub mod Demands
