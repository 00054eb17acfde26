-- What is written for a PIE: the file whose metadata is compact JSON with its keys in order (docs/PIE.md).
use Rattle.std.specs.Prelude.{ℕ, List, [], ◌∷◌, ◌++◌, codes, decimal}
use Rattle.cairo_model.specs.Pie.Records.{PieRecord}
use Rattle.cairo_model.specs.Pie.Files.{magic, text_bytes, cells_bytes}

-- decimal numbers after others, each with a comma before it, and the bracket at the end
abbrev pub more_sizes : List ℕ → List ℕ
more_sizes [] = codes "]"
more_sizes (n ∷ ns) = codes "," ++ (decimal n ++ more_sizes ns)

abbrev pub sizes_text : List ℕ → List ℕ
sizes_text [] = codes "[]"
sizes_text (n ∷ ns) = codes "[" ++ (decimal n ++ more_sizes ns)

-- {"main":M,"sizes":[A,B,..],"steps":S,"version":1}
abbrev pub metadata_text : PieRecord → List ℕ
metadata_text pie = codes "{\"main\":" ++ (decimal pie.main ++ (codes ",\"sizes\":" ++ (sizes_text pie.sizes ++ (codes ",\"steps\":" ++ (decimal pie.steps ++ codes ",\"version\":1}")))))

-- magic, length, text, count and cells
abbrev pub file_of : PieRecord → List ℕ
file_of pie = magic ++ (text_bytes (metadata_text pie) ++ cells_bytes pie.cells)
