pub mod SetRows
