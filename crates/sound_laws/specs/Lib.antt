-- What laws of soundness are said over, besides the written manager.
pub mod Core
