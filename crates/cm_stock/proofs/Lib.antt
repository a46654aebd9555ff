pub mod StockLemmas
