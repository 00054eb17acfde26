-- Facts on groups and chains: how many groups a list has, which they are, and that each is one more
-- instance.
use Rattle.std.proofs.Common.{◌^◌, lit<, ◌≡◌, ℕ, zero, suc, ◌+◌, ◌*◌, ◌/◌, ◌%◌, ◌<◌, ◌≤◌, List, [], ◌∷◌, ◌++◌, length, take, slice_index, get_or, refl, ap, sym, ◌∙◌, arith}
use Rattle.std.specs.List.{fold}
use Rattle.std.proofs.lemmas.List.{take_all}
use Rattle.std.proofs.lemmas.List.Sums.{fold-append, fold_more}
use Rattle.builtin_hash.specs.Instances.{AreWords, instance_of}
use Rattle.builtin_hash.proofs.InstanceLemmas.{AreWords-instance_of}
use Rattle.builtin_hash.specs.Chains.{chain_from, chain_of, chain_start, group_at, groups_of, words_after}

-- a list has a group for each four numbers, and one for those that are left
pub length-groups_of : (xs : List ℕ) → length (groups_of xs) ≡ (length xs + 3) / 4
unfolding groups_of
length-groups_of [] = refl
length-groups_of (a ∷ []) = refl
length-groups_of (a ∷ b ∷ []) = refl
length-groups_of (a ∷ b ∷ c ∷ []) = refl
length-groups_of (a ∷ b ∷ c ∷ d ∷ rest) = let e = length-groups_of rest in omega (arith, e)

at-later : (a b c d : ℕ) (rest : List ℕ) (place later : ℕ) → later ≡ place + 4
    → slice_index (a ∷ b ∷ c ∷ d ∷ rest) later ≡ slice_index rest place
at-later a b c d rest place later e =
    let four_on : later ≡ suc (suc (suc (suc place))) = omega (arith, e) in rw four_on refl

-- the groups past the first are those of the rest
pub group_at-later : (a b c d : ℕ) (rest : List ℕ) (k later : ℕ) → later ≡ k + 1
    → group_at (a ∷ b ∷ c ∷ d ∷ rest) later ≡ group_at rest k
group_at-later a b c d rest k later e =
    let first = at-later a b c d rest (4 * k) (4 * later) (omega (arith, e)) in
    let second = at-later a b c d rest (4 * k + 1) (4 * later + 1) (omega (arith, e)) in
    let third = at-later a b c d rest (4 * k + 2) (4 * later + 2) (omega (arith, e)) in
    let fourth = at-later a b c d rest (4 * k + 3) (4 * later + 3) (omega (arith, e)) in
    cc

-- group k is made of the four numbers from place 4 * k on
pub groups_of-at : (xs : List ℕ) (k : ℕ) → 4 * k < length xs → get_or (groups_of xs) k [] ≡ group_at xs k
unfolding groups_of
groups_of-at [] k inside = absurd (omega arith)
groups_of-at (a ∷ []) zero inside = refl
groups_of-at (a ∷ []) (suc k) inside = absurd (omega arith)
groups_of-at (a ∷ b ∷ []) zero inside = refl
groups_of-at (a ∷ b ∷ []) (suc k) inside = absurd (omega arith)
groups_of-at (a ∷ b ∷ c ∷ []) zero inside = refl
groups_of-at (a ∷ b ∷ c ∷ []) (suc k) inside = absurd (omega arith)
groups_of-at (a ∷ b ∷ c ∷ d ∷ rest) zero inside = refl
groups_of-at (a ∷ b ∷ c ∷ d ∷ rest) (suc k) inside =
    groups_of-at rest k (omega arith) ∙ sym (group_at-later a b c d rest k (suc k) (omega arith))

-- a list of whole groups has its groups before those of what follows
pub groups_of-append : (xs ys : List ℕ) → length xs % 4 ≡ 0 → groups_of (xs ++ ys) ≡ groups_of xs ++ groups_of ys
unfolding groups_of
groups_of-append [] ys whole = refl
groups_of-append (a ∷ []) ys whole = absurd (omega arith)
groups_of-append (a ∷ b ∷ []) ys whole = absurd (omega arith)
groups_of-append (a ∷ b ∷ c ∷ []) ys whole = absurd (omega arith)
groups_of-append (a ∷ b ∷ c ∷ d ∷ rest) ys whole =
    ap (λ gs. (a ∷ b ∷ c ∷ d ∷ []) ∷ gs) (groups_of-append rest ys (omega arith))

-- one more group is one more instance
pub words_after-more : (words xs : List ℕ) (k : ℕ) → 4 * k < length xs
    → words_after words xs (k + 1) ≡ instance_of (words_after words xs k) (group_at xs k)
words_after-more words xs k inside =
    let count = length-groups_of xs in
    let more = fold_more instance_of words (groups_of xs) k [] (omega (arith, count)) in
    more ∙ ap (λ group. instance_of (words_after words xs k) group) (groups_of-at xs k inside)

-- after all groups the words are the chain's
pub words_after-all : (words xs : List ℕ) (k : ℕ) → length xs ≤ 4 * k → words_after words xs k ≡ chain_from words xs
words_after-all words xs k all =
    let count = length-groups_of xs in
    ap (λ groups. fold instance_of words groups) (take_all k (groups_of xs) (omega (arith, count)))

-- a list goes on from the words of the whole groups before it
pub chain_from-append : (words xs ys : List ℕ) → length xs % 4 ≡ 0
    → chain_from words (xs ++ ys) ≡ chain_from (chain_from words xs) ys
chain_from-append words xs ys whole =
    ap (λ groups. fold instance_of words groups) (groups_of-append xs ys whole)
    ∙ fold-append instance_of words (groups_of xs) (groups_of ys)

-- one more group of four at the end is one more instance
pub chain_from-longer : (words front : List ℕ) (a b c d : ℕ) → length front % 4 ≡ 0
    → chain_from words (front ++ a ∷ b ∷ c ∷ d ∷ []) ≡ instance_of (chain_from words front) (a ∷ b ∷ c ∷ d ∷ [])
unfolding groups_of
chain_from-longer words front a b c d whole = chain_from-append words front (a ∷ b ∷ c ∷ d ∷ []) whole

-- ---- the words of a chain are 32-bit words

pub AreWords-chain_start : (n : ℕ) → n < 2 ^ 32 → AreWords (chain_start n)
AreWords-chain_start n small = record { eight = refl; fit = each } where
  each : (k : ℕ) → slice_index (chain_start n) k < 2 ^ 32
  each zero = lit< tt
  each (suc zero) = lit< tt
  each (suc (suc zero)) = lit< tt
  each (suc (suc (suc zero))) = lit< tt
  each (suc (suc (suc (suc zero)))) = lit< tt
  each (suc (suc (suc (suc (suc zero))))) = lit< tt
  each (suc (suc (suc (suc (suc (suc zero)))))) = lit< tt
  each (suc (suc (suc (suc (suc (suc (suc zero))))))) = small
  each (suc (suc (suc (suc (suc (suc (suc (suc k)))))))) = lit< tt

AreWords-fold : (words : List ℕ) (groups : List (List ℕ)) → AreWords words → AreWords (fold instance_of words groups)
AreWords-fold words [] are = are
AreWords-fold words (group ∷ rest) are = AreWords-fold (instance_of words group) rest (AreWords-instance_of words group)

pub AreWords-words_after : (words xs : List ℕ) (k : ℕ) → AreWords words → AreWords (words_after words xs k)
AreWords-words_after words xs k are = AreWords-fold words (take k (groups_of xs)) are

pub AreWords-chain_of : (xs : List ℕ) → length xs < 2 ^ 32 → AreWords (chain_of xs)
AreWords-chain_of xs small = AreWords-fold _ (groups_of xs) (AreWords-chain_start (length xs) small)

-- the start tells the length
pub chain_start-same : (m n : ℕ) → chain_start m ≡ chain_start n → m ≡ n
chain_start-same m n same = ap (λ words. slice_index words 7) same
