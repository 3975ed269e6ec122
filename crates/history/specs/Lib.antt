pub mod History
pub mod Courses
pub mod Unpitched
pub mod Accounts
