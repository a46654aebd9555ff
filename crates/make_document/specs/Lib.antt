-- In reading order: the text of a made document, then the document that it is.
pub mod Made
pub mod Meant
