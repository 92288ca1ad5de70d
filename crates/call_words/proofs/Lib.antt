pub mod ScalarForms
pub mod VectorForms
pub mod WordLists
