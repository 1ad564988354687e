pub mod NumberLaws
pub mod EntryLaws
pub mod LogLaws
pub mod OfficeLaws
pub mod OpenLaws
pub mod ToldLaws
pub mod SetLaws
pub mod OpenedLaws
