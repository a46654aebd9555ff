mod RanLemmas
