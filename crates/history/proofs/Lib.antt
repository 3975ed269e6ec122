pub mod Accounts
pub mod Courses
pub mod Unpitched
