pub mod Registers
pub mod Desks
pub mod OneEdition
