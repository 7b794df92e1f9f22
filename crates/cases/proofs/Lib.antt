-- Laws of lists of cases.
pub mod Laws
pub mod Alls
