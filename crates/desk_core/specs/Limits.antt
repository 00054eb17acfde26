-- The limits of a desk and of each client (docs/SERVICE.md). The code's constants of the same names stand in src/limits.rt.
use Rattle.std.specs.Prelude.{ℕ}

-- the most clients of a desk
abbrev pub most_clients : ℕ
most_clients = 16

-- the most PIEs that a client may have admitted
abbrev pub most_client_pies : ℕ
most_client_pies = 64

-- the most steps that a client's admitted PIEs have together
abbrev pub most_client_steps : ℕ
most_client_steps = 262144

-- the most cells that the segments of a client's admitted PIEs have room for together
abbrev pub most_client_cells : ℕ
most_client_cells = 262144
