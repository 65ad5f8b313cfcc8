-- What holds of the elements of a list, and tests of them.
pub mod Lists
pub mod Tests
