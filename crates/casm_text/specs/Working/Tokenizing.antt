-- Finding the tokens of a line, from its first byte to its last.
use Rattle.std.specs.Prelude.{ℕ, Bool, false, ◌==◌, ◌&&◌, List, [], ◌∷◌, ◌++◌, if◌then◌else◌}
use Rattle.casm_text.specs.Tokens.{before_comment, is_digit, is_letter, is_name_byte, is_nil, is_pair}

-- the byte c goes on with the token that is begun
abbrev pub goes_on : List ℕ → ℕ → Bool
goes_on [] c = false
goes_on (a ∷ more) c = if is_letter a then is_name_byte c else (if is_digit a then is_digit c else is_nil more && is_pair a c)

-- the token that is begun, if any, as a list
abbrev pub whole_token : List ℕ → List (List ℕ)
whole_token [] = []
whole_token (a ∷ more) = (a ∷ more) ∷ []

-- the token that is begun once c is read; spaces stand between tokens, and each other byte begins one
abbrev pub begun_after : List ℕ → ℕ → List ℕ
begun_after begun c = if goes_on begun c then begun ++ (c ∷ []) else (if c == 32 then [] else c ∷ [])

-- the token that ends before c, if any
abbrev pub ended_at : List ℕ → ℕ → List (List ℕ)
ended_at begun c = if goes_on begun c then [] else whole_token begun

-- the tokens of these bytes, one begun before them
abbrev pub tokens_after : List ℕ → List ℕ → List (List ℕ)
tokens_after begun [] = whole_token begun
tokens_after begun (c ∷ cs) = ended_at begun c ++ tokens_after (begun_after begun c) cs

-- the tokens of a line
abbrev pub tokens_of_line : List ℕ → List (List ℕ)
tokens_of_line line = tokens_after [] (before_comment line)

-- no statement has more tokens
abbrev pub most_tokens : ℕ
most_tokens = 20
