pub mod Calls
pub mod Firsts
