pub mod Mocked
