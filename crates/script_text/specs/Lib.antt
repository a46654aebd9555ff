pub mod FewWords
pub mod Said
pub mod SwitchWords
