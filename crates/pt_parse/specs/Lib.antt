pub mod Suites
