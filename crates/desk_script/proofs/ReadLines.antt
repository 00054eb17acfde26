-- What is read of a line's fields is the line that they are, or the first rule that they break.
use Rattle.std.proofs.Common.{◌≡◌, ◌≢◌, ℕ, ◌^◌, ◌<◌, ◌≤◌, List, [], ◌∷◌, length, map, Option, Some, None, Result, Ok, Err, refl, ap, ap₂, sym, subst, ◌∙◌, arith}
use Rattle.std.specs.Prelude.{codes, decimal}
use Rattle.std.specs.Result.{result_ok}
use Rattle.std.specs.List.{AllByRecursion}
use Rattle.builtin_hash.specs.Programs.{words_in_text}
use Rattle.cairo_model.specs.Machine.Steps.{◌>>=◌, required}
use Rattle.cairo_model.specs.Pie.Acceptance.{FactRecord}
use Rattle.cairo_model.proofs.Chains.{required_goes}
use Rattle.cairo_model.proofs.Outcomes.{bind_goes, ok_is}
use Rattle.goldi_field.specs.Numbers.{IsFelt}
use Rattle.hex.specs.Hex.{decode_of}
use Rattle.hex.specs.declared.error.FromHexError.{FromHexError}
use Rattle.desk_script.specs.Limits.{job_limit}
use Rattle.desk_script.proofs.Decimals.{decimal_of_number, no_number, number_of_decimal}
use Rattle.desk_script.proofs.FieldRules.{FieldsBreak, all_kept, breaks_client, breaks_fields, breaks_hex, breaks_number, breaks_verb}
use Rattle.desk_script.proofs.Hashes.{HashTold, hash_read, hash_told}
use Rattle.desk_script.proofs.Outputs.{NumbersTold, numbers_read, numbers_told}
use Rattle.desk_script.proofs.Verbs.{IsText, verb_text}
use Rattle.desk_script.specs.Lines.{ScriptLine, submits, asks, asks_status, settles, IsHash, IsScriptLine, verb_of}
use Rattle.desk_script.specs.Scripts.{FieldsKeep, HasCount, HasHex, HasNumbers, IsNumberBelow}
use Rattle.desk_script.specs.Working.Numbers.{number_in}
use Rattle.desk_script.specs.Working.Reading.{bytes_in, hash_in, numbers_in, read_as, read_ask, read_line, read_settle, read_status, read_submit}
use Rattle.desk_script.specs.declared.kinds.ScriptKind.{ScriptKind}
use Rattle.desk_script.specs.declared.kinds.ScriptKind.TheVariants as kind
use Rattle.desk_script.specs.declared.verb.Verb.{Verb}
use Rattle.desk_script.specs.declared.verb.Verb.TheVariants.{Submit, Ask, Status, Settle}

-- the line that the fields are, which keep each rule, or the first rule that they break
abbrev pub Told : ℕ → List (List ℕ) → Result ScriptLine ScriptKind → Type 0
Told clients fields (Ok line) = IsScriptLine clients fields line × ((k : ScriptKind) → FieldsKeep clients fields k)
Told clients fields (Err k) = FieldsBreak clients fields k

-- ---- the rules of a line whose verb is known

is_verb : (o : Option Verb) (v : Verb) → o ≡ Some v → o ≢ None
is_verb o v is none = let other : Some v ≡ None = sym is ∙ none in absurd (cc)

counted : (o : Option Verb) (v : Verb) (count : ℕ) → o ≡ Some v → HasCount (Some v) count → HasCount o count
counted o v count is has = subst (λ (w : Option Verb). HasCount w count) (sym is) has

not_counted : (o : Option Verb) (v : Verb) (count : ℕ) → o ≡ Some v → ¬ HasCount (Some v) count → ¬ HasCount o count
not_counted o v count is fault has = fault (subst (λ (w : Option Verb). HasCount w count) is has)

in_hex : (o : Option Verb) (v : Verb) (field : List ℕ) → o ≡ Some v → HasHex (Some v) field → HasHex o field
in_hex o v field is has = subst (λ (w : Option Verb). HasHex w field) (sym is) has

not_in_hex : (o : Option Verb) (v : Verb) (field : List ℕ) → o ≡ Some v → ¬ HasHex (Some v) field → ¬ HasHex o field
not_in_hex o v field is fault has = fault (subst (λ (w : Option Verb). HasHex w field) is has)

numbered : (o : Option Verb) (v : Verb) (fields : List (List ℕ)) → o ≡ Some v → HasNumbers (Some v) fields → HasNumbers o fields
numbered o v fields is has = subst (λ (w : Option Verb). HasNumbers w fields) (sym is) has

not_numbered : (o : Option Verb) (v : Verb) (fields : List (List ℕ)) → o ≡ Some v → ¬ HasNumbers (Some v) fields → ¬ HasNumbers o fields
not_numbered o v fields is fault has = fault (subst (λ (w : Option Verb). HasNumbers w fields) is has)

module _ (clients : ℕ) (few : clients ≤ 2 ^ 64) (verb : List ℕ) where
  client_told : (field : List ℕ) (c : ℕ) → number_in clients field ≡ Some c → IsNumberBelow clients field
  client_told field c read = let is = decimal_of_number clients field c few read in (c, is.0, is.1)

  wrong_count : (v : Verb) (fields : List (List ℕ)) → verb_of verb ≡ Some v → ¬ HasCount (Some v) (length (verb ∷ fields)) → FieldsBreak clients (verb ∷ fields) kind.Fields
  wrong_count v fields is fault = breaks_fields clients (verb ∷ fields) (is_verb (verb_of verb) v is) (not_counted (verb_of verb) v (length (verb ∷ fields)) is fault)

  wrong_client : (v : Verb) (client : List ℕ) (fields : List (List ℕ)) → verb_of verb ≡ Some v → HasCount (Some v) (length (verb ∷ client ∷ fields)) → number_in clients client ≡ None
      → FieldsBreak clients (verb ∷ client ∷ fields) kind.Client
  wrong_client v client fields is count read =
      breaks_client clients (verb ∷ client ∷ fields) (is_verb (verb_of verb) v is) (counted (verb_of verb) v (length (verb ∷ client ∷ fields)) is count) (no_number clients client few read)

  -- ---- submit

  submit_told : (client digits : List ℕ) (o : Option ℕ) (d : Result (List ℕ) FromHexError) → verb_of verb ≡ Some Submit → verb ≡ codes "submit" → number_in clients client ≡ o → decode_of digits ≡ d
      → Told clients (verb ∷ client ∷ digits ∷ []) (required kind.Client o >>= λ c. required kind.Hex (result_ok d) >>= λ bytes. Ok (submits c bytes))
  submit_told client digits None d is text read decoded = wrong_client Submit client (digits ∷ []) is refl read
  submit_told client digits (Some c) (Err e) is text read decoded =
      breaks_hex clients (verb ∷ client ∷ digits ∷ []) (is_verb (verb_of verb) Submit is) (counted (verb_of verb) Submit 3 is refl) (client_told client c read)
      (not_in_hex (verb_of verb) Submit digits is (λ has. let other : Ok has.0 ≡ Err e = sym has.1 ∙ decoded in absurd (cc)))
  submit_told client digits (Some c) (Ok bytes) is text read decoded =
      let number = decimal_of_number clients client c few read in (
        (number.0, (digits, decoded, ap₂ (λ (v n : List ℕ). v ∷ n ∷ digits ∷ []) text number.1)),
        all_kept clients (verb ∷ client ∷ digits ∷ []) (is_verb (verb_of verb) Submit is) (counted (verb_of verb) Submit 3 is refl) (client_told client c read)
            (in_hex (verb_of verb) Submit digits is (bytes, decoded)) (numbered (verb_of verb) Submit (digits ∷ []) is tt),
      )

  told_submit : (fields : List (List ℕ)) → verb_of verb ≡ Some Submit → verb ≡ codes "submit" → Told clients (verb ∷ fields) (read_submit clients fields)
  unfolding read_submit
  told_submit [] is text = wrong_count Submit [] is (λ has. absurd (omega arith))
  told_submit (a ∷ []) is text = wrong_count Submit (a ∷ []) is (λ has. absurd (omega arith))
  told_submit (a ∷ b ∷ []) is text = submit_told a b (number_in clients a) (decode_of b) is text refl refl
  told_submit (a ∷ b ∷ c ∷ more) is text = wrong_count Submit (a ∷ b ∷ c ∷ more) is (λ has. absurd (omega arith))

  -- ---- ask

  ask_told : (client hash : List ℕ) (outputs : List (List ℕ)) (o : Option ℕ) (h : Option (List ℕ)) (r : Result (List ℕ) ScriptKind) → verb_of verb ≡ Some Ask → verb ≡ codes "ask"
      → number_in clients client ≡ o → HashTold hash h → NumbersTold outputs r
      → Told clients (verb ∷ client ∷ hash ∷ outputs) (required kind.Client o >>= λ c. required kind.Hex h >>= λ program. r >>= λ numbers. Ok (asks c (record { program = program; outputs = numbers })))
  ask_told client hash outputs None h r is text read hashed told = wrong_client Ask client (hash ∷ outputs) is (omega arith) read
  ask_told client hash outputs (Some c) None r is text read hashed told =
      breaks_hex clients (verb ∷ client ∷ hash ∷ outputs) (is_verb (verb_of verb) Ask is) (counted (verb_of verb) Ask (length (verb ∷ client ∷ hash ∷ outputs)) is (omega arith)) (client_told client c read)
      (not_in_hex (verb_of verb) Ask hash is hashed)
  ask_told client hash outputs (Some c) (Some words) (Err k) is text read hashed told =
      subst (FieldsBreak clients (verb ∷ client ∷ hash ∷ outputs)) (sym told.0)
      (breaks_number clients (verb ∷ client ∷ hash ∷ outputs) (is_verb (verb_of verb) Ask is) (counted (verb_of verb) Ask (length (verb ∷ client ∷ hash ∷ outputs)) is (omega arith)) (client_told client c read)
      (in_hex (verb_of verb) Ask hash is hashed.0) (not_numbered (verb_of verb) Ask (hash ∷ outputs) is told.1))
  ask_told client hash outputs (Some c) (Some words) (Ok numbers) is text read hashed told =
      let number = decimal_of_number clients client c few read in
      let spelled : verb ∷ client ∷ hash ∷ outputs ≡ codes "ask" ∷ decimal c ∷ hash ∷ map decimal numbers =
      ap₂ (λ (v n : List ℕ). v ∷ n ∷ hash ∷ outputs) text number.1 ∙ ap (λ (more : List (List ℕ)). codes "ask" ∷ decimal c ∷ hash ∷ more) told.1 in (
        (number.0, told.0, (hash, hashed.0, hashed.1, spelled)),
        all_kept clients (verb ∷ client ∷ hash ∷ outputs) (is_verb (verb_of verb) Ask is) (counted (verb_of verb) Ask (length (verb ∷ client ∷ hash ∷ outputs)) is (omega arith)) (client_told client c read)
            (in_hex (verb_of verb) Ask hash is hashed.0) (numbered (verb_of verb) Ask (hash ∷ outputs) is told.2),
      )

  told_ask : (fields : List (List ℕ)) → verb_of verb ≡ Some Ask → verb ≡ codes "ask" → Told clients (verb ∷ fields) (read_ask clients fields)
  unfolding read_ask
  told_ask [] is text = wrong_count Ask [] is (λ has. absurd (omega arith))
  told_ask (a ∷ []) is text = wrong_count Ask (a ∷ []) is (λ has. absurd (omega arith))
  told_ask (a ∷ b ∷ outputs) is text = ask_told a b outputs (number_in clients a) (hash_in b) (numbers_in outputs) is text refl (hash_told b) (numbers_told outputs)

  -- ---- status

  status_told : (client number : List ℕ) (o k : Option ℕ) → verb_of verb ≡ Some Status → verb ≡ codes "status" → number_in clients client ≡ o → number_in job_limit number ≡ k
      → Told clients (verb ∷ client ∷ number ∷ []) (required kind.Client o >>= λ c. required kind.Number k >>= λ n. Ok (asks_status c n))
  status_told client number None k is text read numeral = wrong_client Status client (number ∷ []) is refl read
  status_told client number (Some c) None is text read numeral =
      breaks_number clients (verb ∷ client ∷ number ∷ []) (is_verb (verb_of verb) Status is) (counted (verb_of verb) Status 3 is refl) (client_told client c read)
      (in_hex (verb_of verb) Status number is tt) (not_numbered (verb_of verb) Status (number ∷ []) is (no_number job_limit number (omega arith) numeral))
  status_told client number (Some c) (Some n) is text read numeral =
      let first = decimal_of_number clients client c few read in
      let second = decimal_of_number job_limit number n (omega arith) numeral in
      let spelled : verb ∷ client ∷ number ∷ [] ≡ codes "status" ∷ decimal c ∷ decimal n ∷ [] =
      ap₂ (λ (v m : List ℕ). v ∷ m ∷ number ∷ []) text first.1 ∙ ap (λ (m : List ℕ). codes "status" ∷ decimal c ∷ m ∷ []) second.1 in (
        (first.0, second.0, spelled),
        all_kept clients (verb ∷ client ∷ number ∷ []) (is_verb (verb_of verb) Status is) (counted (verb_of verb) Status 3 is refl) (client_told client c read)
            (in_hex (verb_of verb) Status number is tt) (numbered (verb_of verb) Status (number ∷ []) is (n, second.0, second.1)),
      )

  told_status : (fields : List (List ℕ)) → verb_of verb ≡ Some Status → verb ≡ codes "status" → Told clients (verb ∷ fields) (read_status clients fields)
  unfolding read_status
  told_status [] is text = wrong_count Status [] is (λ has. absurd (omega arith))
  told_status (a ∷ []) is text = wrong_count Status (a ∷ []) is (λ has. absurd (omega arith))
  told_status (a ∷ b ∷ []) is text = status_told a b (number_in clients a) (number_in job_limit b) is text refl refl
  told_status (a ∷ b ∷ c ∷ more) is text = wrong_count Status (a ∷ b ∷ c ∷ more) is (λ has. absurd (omega arith))

  -- ---- settle

  settle_told : (client : List ℕ) (o : Option ℕ) → verb_of verb ≡ Some Settle → verb ≡ codes "settle" → number_in clients client ≡ o → Told clients (verb ∷ client ∷ []) (required kind.Client o >>= λ c. Ok (settles c))
  settle_told client None is text read = wrong_client Settle client [] is refl read
  settle_told client (Some c) is text read =
      let number = decimal_of_number clients client c few read in (
        (number.0, ap₂ (λ (v m : List ℕ). v ∷ m ∷ []) text number.1),
        all_kept clients (verb ∷ client ∷ []) (is_verb (verb_of verb) Settle is) (counted (verb_of verb) Settle 2 is refl) (client_told client c read)
            (in_hex (verb_of verb) Settle [] is tt) (numbered (verb_of verb) Settle [] is tt),
      )

  told_settle : (fields : List (List ℕ)) → verb_of verb ≡ Some Settle → verb ≡ codes "settle" → Told clients (verb ∷ fields) (read_settle clients fields)
  unfolding read_settle
  told_settle [] is text = wrong_count Settle [] is (λ has. absurd (omega arith))
  told_settle (a ∷ []) is text = settle_told a (number_in clients a) is text refl
  told_settle (a ∷ b ∷ more) is text = wrong_count Settle (a ∷ b ∷ more) is (λ has. absurd (omega arith))

  told_as : (fields : List (List ℕ)) (o : Option Verb) → verb_of verb ≡ o → IsText verb o → Told clients (verb ∷ fields) (read_as clients o fields)
  told_as fields None is text = breaks_verb clients (verb ∷ fields) (λ some. some is)
  told_as fields (Some Submit) is text = told_submit fields is text
  told_as fields (Some Ask) is text = told_ask fields is text
  told_as fields (Some Status) is text = told_status fields is text
  told_as fields (Some Settle) is text = told_settle fields is text

pub told : (clients : ℕ) → clients ≤ 2 ^ 64 → (fields : List (List ℕ)) → Told clients fields (read_line clients fields)
told clients few [] = breaks_verb clients [] (λ some. some refl)
told clients few (verb ∷ fields) = told_as clients few verb fields (verb_of verb) refl (verb_text verb)

-- ---- the other way round

module _ (clients : ℕ) (few : clients ≤ 2 ^ 64) where
  submit_read : (c : ℕ) (digits bytes : List ℕ) → c < clients → decode_of digits ≡ Ok bytes → read_submit clients (decimal c ∷ digits ∷ []) ≡ Ok (submits c bytes)
  unfolding read_submit
  submit_read c digits bytes below decoded =
      required_goes kind.Client (number_in clients (decimal c)) _ (submits c bytes) c (number_of_decimal clients c few below)
      (bind_goes (bytes_in digits) (λ b. Ok (submits c b)) (submits c bytes) bytes (ap (λ (d : Result (List ℕ) FromHexError). required kind.Hex (result_ok d)) decoded) refl)

  ask_read : (c : ℕ) (hash : List ℕ) (fact : FactRecord) → c < clients → IsHash hash → fact.program ≡ words_in_text hash → AllByRecursion IsFelt fact.outputs
      → read_ask clients (decimal c ∷ hash ∷ map decimal fact.outputs) ≡ Ok (asks c fact)
  unfolding read_ask
  ask_read c hash fact below is program felts =
      required_goes kind.Client (number_in clients (decimal c)) _ (asks c fact) c (number_of_decimal clients c few below)
      (required_goes kind.Hex (hash_in hash) _ (asks c fact) fact.program (hash_read hash is ∙ ap Some (sym program))
      (bind_goes (numbers_in (map decimal fact.outputs)) (λ numbers. Ok (asks c (record { program = fact.program; outputs = numbers }))) (asks c fact) fact.outputs (numbers_read fact.outputs felts) refl))

  status_read : (c n : ℕ) → c < clients → n < job_limit → read_status clients (decimal c ∷ decimal n ∷ []) ≡ Ok (asks_status c n)
  unfolding read_status
  status_read c n below small =
      required_goes kind.Client (number_in clients (decimal c)) _ (asks_status c n) c (number_of_decimal clients c few below)
      (required_goes kind.Number (number_in job_limit (decimal n)) _ (asks_status c n) n (number_of_decimal job_limit n (omega arith) small) refl)

  settle_read : (c : ℕ) → c < clients → read_settle clients (decimal c ∷ []) ≡ Ok (settles c)
  unfolding read_settle
  settle_read c below = required_goes kind.Client (number_in clients (decimal c)) _ (settles c) c (number_of_decimal clients c few below) refl

  pub read_back : (fields : List (List ℕ)) (line : ScriptLine) → IsScriptLine clients fields line → read_line clients fields ≡ Ok line
  read_back fields (submits c bytes) (below, (digits, decoded, is)) = ap (read_line clients) is ∙ submit_read c digits bytes below decoded
  read_back fields (asks c fact) (below, felts, (hash, is_hash, program, is)) = ap (read_line clients) is ∙ ask_read c hash fact below is_hash program felts
  read_back fields (asks_status c n) (below, small, is) = ap (read_line clients) is ∙ status_read c n below small
  read_back fields (settles c) (below, is) = ap (read_line clients) is ∙ settle_read c below

  pub line_keeps : (fields : List (List ℕ)) (line : ScriptLine) → IsScriptLine clients fields line → (k : ScriptKind) → FieldsKeep clients fields k
  line_keeps fields line is = (subst (Told clients fields) (read_back fields line is) (told clients few fields)).1

  pub one_line : (fields : List (List ℕ)) (a b : ScriptLine) → IsScriptLine clients fields a → IsScriptLine clients fields b → a ≡ b
  one_line fields a b is_a is_b = ok_is {E = ScriptKind} a b (sym (read_back fields a is_a) ∙ read_back fields b is_b)
