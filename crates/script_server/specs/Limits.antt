-- The limit of workers (docs/SERVICE.md). The code's constant of the same name stands in src/limits.rt.
use Rattle.std.specs.Prelude.{ℕ}

-- the most workers that serve a script
abbrev pub most_workers : ℕ
most_workers = 8
