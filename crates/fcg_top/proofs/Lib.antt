pub mod Buffered
pub mod FewSites
pub mod Meanings
pub mod PackLines
