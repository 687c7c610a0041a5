pub mod Ds64
