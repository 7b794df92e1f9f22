pub mod Examples
pub mod Contacts
pub mod Hosts
pub mod Measuring
