pub mod DefaultLemmas
pub mod MeaningLemmas
