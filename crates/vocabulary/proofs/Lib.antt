pub mod RoleTables
pub mod AxiomRows
pub mod Keeping
