pub mod Texts
pub mod Steps
pub mod Places
pub mod Runs
pub mod Looks
pub mod Signs
