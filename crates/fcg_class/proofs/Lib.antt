pub mod PathLemmas
pub mod EntryLemmas
pub mod JarLemmas
pub mod BundleLaws
pub mod FitLaws
pub mod PackLemmas
pub mod PackLaws
pub mod PackFaults
