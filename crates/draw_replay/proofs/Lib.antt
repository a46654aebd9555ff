mod ColumnLemmas
