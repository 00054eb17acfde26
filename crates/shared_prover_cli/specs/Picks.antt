-- Which top call the words are for.
use Rattle.std.specs.Prelude.{◌≡◌, ℕ, List, Some, option_map, slice_get, String, string_bytes}
use Rattle.std.specs.declared.alloc.Global.{Global}

-- their first word is this one
abbrev pub HasFirstWord : List ℕ → List (String Global) → Type 0
HasFirstWord word words = option_map string_bytes (slice_get words 0) ≡ Some word
