pub mod MainFault
pub mod Tally
