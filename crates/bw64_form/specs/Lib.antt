pub mod Bw64
