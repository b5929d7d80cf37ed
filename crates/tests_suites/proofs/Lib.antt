pub mod SampleTypes
pub mod ManualLaws
