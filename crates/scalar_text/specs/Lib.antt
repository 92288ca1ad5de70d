pub mod ScalarText
