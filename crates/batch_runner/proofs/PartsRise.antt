-- The parts of a batch's memory, each in its own stretch, and the whole in rising order.
use Rattle.std.proofs.Common.{◌≡◌, ℕ, zero, suc, ◌+◌, ◌-◌, ◌*◌, ◌<◌, List, [], ◌∷◌, ◌++◌, drop, sum, length, slice_index, refl, sym, ap, subst, ◌∙◌, arith, lit≤, length-append, get_or-drop}
use Rattle.std.proofs.lemmas.List.Sums.{sum_by-cons}
use Rattle.goldi_field.specs.Numbers.{prime, sum_of}
use Rattle.cairo_model.specs.Pie.Records.{MemoryCell}
use Rattle.cairo_model.specs.Pie.Layouts.{base_of}
use Rattle.cairo_model.specs.Machine.FieldMemories.{FieldCell}
use Rattle.boot_program.specs.Words.{boot_words}
use Rattle.batch_plan.specs.Parts.{BatchParts}
use Rattle.batch_plan.specs.Plans.{bases_on}
use Rattle.batch_runner.specs.Working.Tasks.{Task, checked_of}
use Rattle.batch_runner.specs.Layout.{bases_at, boot_frame, first_place, hash_from, hash_size, more_turns, next_place, others_size, output_from, output_size, program_from, program_size, range_from, size, total, turn_size}
use Rattle.batch_runner.specs.Working.Rooms.{free_from}
use Rattle.batch_runner.specs.Memory.{all_cells, frame_part, frames, gap_of, hashes, turn_values_at, output_part, outputs, part, placed, placed_on, programs, ranges, stops_at, turn_cells, words_at, words_part}
use Rattle.batch_runner.specs.Pieces.{numbered}
use Rattle.batch_runner.specs.Working.Rising.{RisesIn}
use Rattle.boot_program.specs.Cells.{Stops}
use Rattle.boot_program.specs.Turns.{TurnValues}
use Rattle.boot_program.specs.Instances.{eight}
use Rattle.boot_program.specs.Frames.{loop_list, hash_list, own_list, own_hash, own_blocks, own_tail}
use Rattle.batch_runner.proofs.PiecesLaws.{joined, numbered_rises}
use Rattle.batch_runner.proofs.SegmentCells.{climbs, placed_rises}

pub length_blocks : (more i c l : ℕ) (ws ds : ℕ → ℕ → ℕ) → length (loop_list more i c l ws ds) ≡ 15 * (more + 1) + 3
unfolding loop_list
length_blocks zero i c l ws ds = refl
length_blocks (suc more) i c l ws ds =
    let e = length_blocks more (sum_of i 20) (sum_of c 4) (sum_of l (prime - 4)) (λ j. ws (suc j)) (λ j. ds (suc j)) in omega (arith, e)

pub length_instances : (more : ℕ) (ws ds : ℕ → ℕ → ℕ) → length (hash_list more ws ds) ≡ 20 * (more + 1)
unfolding hash_list
length_instances zero ws ds = refl
length_instances (suc more) ws ds = let e = length_instances more (λ j. ws (suc j)) (λ j. ds (suc j)) in omega (arith, e)

pub length_own : (caller left : ℕ) (n : TurnValues) (gap distance : ℕ) (stops : Stops) → length (own_list caller left n gap distance stops) ≡ 38 + 15 * (n.more + 1)
length_own caller left n gap distance stops =
    let e = length_blocks n.more (sum_of n.hash 20) n.task.program (sum_of (sum_of (sum_of n.task.length n.task.low_bit) n.task.high_bit) n.task.high_bit) n.words n.numbers in
    let f = length-append (own_blocks n) (own_tail n) in
    omega (arith, e, f)

pub length_hash : (n : TurnValues) → length (own_hash n) ≡ 20 * (n.more + 2)
length_hash n =
    let e = length_instances n.more n.words n.numbers in
    let f = length-append (hash_list n.more n.words n.numbers) (eight n.digest) in
    omega (arith, e, f)

upto : (lo hi other : ℕ) (xs : List FieldCell) → hi ≡ other → RisesIn lo hi xs → RisesIn lo other xs
upto lo hi other xs same h = subst (λ (x : ℕ). RisesIn lo x xs) same h

-- a segment of a task
pub part_rises : (t : Task) (p : BatchParts) (s : ℕ) → RisesIn (base_of (bases_at t.checked p) s) (base_of (bases_at t.checked p) s + size t.checked s) (part t.checked p s)
part_rises t p s =
    let rules = t.accepted.rules in
    let e : base_of (bases_at t.checked p) s + 0 ≡ base_of (bases_at t.checked p) s = omega arith in
    subst (λ (x : ℕ). RisesIn x (base_of (bases_at t.checked p) s + size t.checked s) (part t.checked p s)) e
    (placed_rises (bases_at t.checked p) t.checked.pie.sizes s 0 0 t.checked.pie.cells (climbs t.checked.pie.cells rules.rise) rules.are_cells (omega arith) (omega arith))

-- the segments from 7 on
module _ (bases sizes : List ℕ) (cells : List MemoryCell)
    (each : (s : ℕ) → RisesIn (base_of bases s) (base_of bases s + slice_index sizes s) (placed bases s cells)) where
  pub others_rise : (s base : ℕ) (zs : List ℕ) → ((i : ℕ) → i < length zs → base_of bases (s + i) ≡ slice_index (bases_on base zs) i)
      → ((i : ℕ) → i < length zs → slice_index sizes (s + i) ≡ slice_index zs i) → RisesIn base (base + sum zs) (placed_on bases s zs cells)
  unfolding RisesIn bases_on placed_on
  others_rise s base [] follow same = omega arith
  others_rise s base (z ∷ zs) follow same =
      let here : base_of bases s ≡ base = ap (base_of bases) (omega arith) ∙ follow 0 (omega arith) in
      let more : sum (z ∷ zs) ≡ z + sum zs = sum_by-cons (λ (x : ℕ). x) z zs in
      let big : slice_index sizes s ≡ z = ap (slice_index sizes) (omega arith) ∙ same 0 (omega arith) in
      let first : RisesIn base (base + z) (placed bases s cells) = subst (λ (x : ℕ). RisesIn base (base + x) (placed bases s cells)) big
      (subst (λ (x : ℕ). RisesIn x (x + slice_index sizes s) (placed bases s cells)) here (each s)) in
      let later = others_rise (suc s) (base + z) zs
      (λ i lt. ap (base_of bases) (one_more s i) ∙ follow (suc i) (omega (arith, lt)))
      (λ i lt. ap (slice_index sizes) (one_more s i) ∙ same (suc i) (omega (arith, lt))) in
      joined base (base + z) (base + sum (z ∷ zs)) (placed bases s cells) (placed_on bases (suc s) zs cells) first
      (upto (base + z) (base + z + sum zs) (base + sum (z ∷ zs)) (placed_on bases (suc s) zs cells) (omega (arith, more)) later)
    where
      one_more : (s i : ℕ) → suc s + i ≡ s + suc i
      one_more s i = omega arith

pub bases_follow : (t : Task) (p : BatchParts) (i : ℕ) → base_of (bases_at t.checked p) (7 + i) ≡ slice_index (bases_on (p.program + size t.checked 0 + 3) (drop 7 t.checked.pie.sizes)) i
bases_follow t p i = sym (get_or-drop 7 (bases_at t.checked p) i 0)

pub sizes_follow : (t : Task) (i : ℕ) → size t.checked (7 + i) ≡ slice_index (drop 7 t.checked.pie.sizes) i
sizes_follow t i = sym (get_or-drop 7 t.checked.pie.sizes i 0)

pub rest_rises : (t : Task) (p : BatchParts) → RisesIn (p.program + size t.checked 0 + 3) (p.program + size t.checked 0 + 3 + others_size t.checked) (placed_on (bases_at t.checked p) 7 (drop 7 t.checked.pie.sizes) t.checked.pie.cells)
rest_rises t p = others_rise (bases_at t.checked p) t.checked.pie.sizes t.checked.pie.cells (part_rises t p) 7 (p.program + size t.checked 0 + 3) (drop 7 t.checked.pie.sizes)
    (λ i lt. bases_follow t p i) (λ i lt. sizes_follow t i)

-- numbers from a base on, of a known length
numbers_rise : (base n : ℕ) (vs : List ℕ) → length vs ≡ n → RisesIn base (base + n) (numbered base vs)
numbers_rise base n vs count = numbered_rises base vs (base + n) (omega (arith, count))

turn_rises : (left : ℕ) (t : Task) (p : BatchParts) → RisesIn p.frame (p.frame + (38 + 15 * (more_turns (size t.checked 0) + 1))) (turn_cells left t.checked p)
turn_rises left t p = numbers_rise p.frame (38 + 15 * (more_turns (size t.checked 0) + 1)) _ (length_own boot_frame left (turn_values_at t.checked p) (gap_of t.checked p) (output_size t.checked) (stops_at (next_place t.checked p)))

pub frames_rise : (p : BatchParts) (ts : List Task) → RisesIn p.frame (p.frame + total turn_size (checked_of ts) + 4) (frames p (checked_of ts))
unfolding frames total
frames_rise p [] = numbered_rises p.frame (0 ∷ p.output ∷ p.range ∷ p.hash ∷ []) (p.frame + 0 + 4) (omega arith)
frames_rise p (t ∷ ts) =
    let own = 38 + 15 * (more_turns (size t.checked 0) + 1) in
    let next = upto (p.frame + turn_size t.checked) (p.frame + turn_size t.checked + total turn_size (checked_of ts) + 4) (p.frame + (turn_size t.checked + total turn_size (checked_of ts)) + 4) (frames (next_place t.checked p) (checked_of ts)) (omega arith) (frames_rise (next_place t.checked p) ts) in
    joined p.frame (p.frame + own) (p.frame + (turn_size t.checked + total turn_size (checked_of ts)) + 4) (turn_cells (suc (length (checked_of ts))) t.checked p) (part t.checked p 1 ++ frames (next_place t.checked p) (checked_of ts)) (turn_rises (suc (length (checked_of ts))) t p)
    (joined (p.frame + own) (p.frame + turn_size t.checked) (p.frame + (turn_size t.checked + total turn_size (checked_of ts)) + 4) (part t.checked p 1) (frames (next_place t.checked p) (checked_of ts))
    (upto (p.frame + own) (p.frame + own + size t.checked 1) (p.frame + turn_size t.checked) (part t.checked p 1) (omega arith) (part_rises t p 1)) next)

pub outputs_rise : (p : BatchParts) (ts : List Task) → RisesIn p.output (p.output + total output_size (checked_of ts)) (outputs p (checked_of ts))
unfolding outputs total RisesIn
outputs_rise p [] = omega arith
outputs_rise p (t ∷ ts) =
    let next = upto (p.output + output_size t.checked) (p.output + output_size t.checked + total output_size (checked_of ts)) (p.output + (output_size t.checked + total output_size (checked_of ts))) (outputs (next_place t.checked p) (checked_of ts)) (omega arith) (outputs_rise (next_place t.checked p) ts) in
    joined p.output (p.output + 9) (p.output + (output_size t.checked + total output_size (checked_of ts))) (numbered p.output (output_size t.checked ∷ eight (words_at t.checked (more_turns (size t.checked 0) + 1)))) (part t.checked p 2 ++ outputs (next_place t.checked p) (checked_of ts))
    (numbers_rise p.output 9 (output_size t.checked ∷ eight (words_at t.checked (more_turns (size t.checked 0) + 1))) refl)
    (joined (p.output + 9) (p.output + output_size t.checked) (p.output + (output_size t.checked + total output_size (checked_of ts))) (part t.checked p 2) (outputs (next_place t.checked p) (checked_of ts))
    (upto (p.output + 9) (p.output + 9 + size t.checked 2) (p.output + output_size t.checked) (part t.checked p 2) (omega arith) (part_rises t p 2)) next)

pub ranges_rise : (p : BatchParts) (ts : List Task) → RisesIn p.range (p.range + total (λ t. size t 3) (checked_of ts)) (ranges p (checked_of ts))
unfolding ranges total RisesIn
ranges_rise p [] = omega arith
ranges_rise p (t ∷ ts) =
    let rest = total (λ t. size t 3) (checked_of ts) in
    let next = upto (p.range + size t.checked 3) (p.range + size t.checked 3 + rest) (p.range + (size t.checked 3 + rest)) (ranges (next_place t.checked p) (checked_of ts)) (omega arith) (ranges_rise (next_place t.checked p) ts) in
    joined p.range (p.range + size t.checked 3) (p.range + (size t.checked 3 + rest)) (part t.checked p 3) (ranges (next_place t.checked p) (checked_of ts)) (part_rises t p 3) next

pub hashes_rise : (p : BatchParts) (ts : List Task) → RisesIn p.hash (p.hash + total hash_size (checked_of ts)) (hashes p (checked_of ts))
unfolding hashes total RisesIn
hashes_rise p [] = omega arith
hashes_rise p (t ∷ ts) =
    let own = 20 * (more_turns (size t.checked 0) + 2) in
    let next = upto (p.hash + hash_size t.checked) (p.hash + hash_size t.checked + total hash_size (checked_of ts)) (p.hash + (hash_size t.checked + total hash_size (checked_of ts))) (hashes (next_place t.checked p) (checked_of ts)) (omega arith) (hashes_rise (next_place t.checked p) ts) in
    joined p.hash (p.hash + own) (p.hash + (hash_size t.checked + total hash_size (checked_of ts))) (numbered p.hash (own_hash (turn_values_at t.checked p))) (part t.checked p 4 ++ hashes (next_place t.checked p) (checked_of ts))
    (numbers_rise p.hash own (own_hash (turn_values_at t.checked p)) (length_hash (turn_values_at t.checked p)))
    (joined (p.hash + own) (p.hash + hash_size t.checked) (p.hash + (hash_size t.checked + total hash_size (checked_of ts))) (part t.checked p 4) (hashes (next_place t.checked p) (checked_of ts))
    (upto (p.hash + own) (p.hash + own + size t.checked 4) (p.hash + hash_size t.checked) (part t.checked p 4) (omega arith) (part_rises t p 4)) next)

pub programs_rise : (p : BatchParts) (ts : List Task) → RisesIn p.program (p.program + total program_size (checked_of ts)) (programs p (checked_of ts))
unfolding programs total RisesIn
programs_rise p [] = omega arith
programs_rise p (t ∷ ts) =
    let whole = p.program + (program_size t.checked + total program_size (checked_of ts)) in
    let next = upto (p.program + program_size t.checked) (p.program + program_size t.checked + total program_size (checked_of ts)) whole (programs (next_place t.checked p) (checked_of ts)) (omega arith) (programs_rise (next_place t.checked p) ts) in
    let others = placed_on (bases_at t.checked p) 7 (drop 7 t.checked.pie.sizes) t.checked.pie.cells in
    joined p.program (p.program + size t.checked 0) whole (part t.checked p 0) (numbered (p.program + size t.checked 0) (0 ∷ 0 ∷ 0 ∷ []) ++ (others ++ programs (next_place t.checked p) (checked_of ts))) (part_rises t p 0)
    (joined (p.program + size t.checked 0) (p.program + size t.checked 0 + 3) whole (numbered (p.program + size t.checked 0) (0 ∷ 0 ∷ 0 ∷ [])) (others ++ programs (next_place t.checked p) (checked_of ts))
    (numbers_rise (p.program + size t.checked 0) 3 (0 ∷ 0 ∷ 0 ∷ []) refl)
    (joined (p.program + size t.checked 0 + 3) (p.program + program_size t.checked) whole others (programs (next_place t.checked p) (checked_of ts))
    (upto (p.program + size t.checked 0 + 3) (p.program + size t.checked 0 + 3 + others_size t.checked) (p.program + program_size t.checked) others (omega arith) (rest_rises t p)) next))

-- all cells, with none at the bootloader's end
pub above_rises : (ts : List Task) → RisesIn 119 (free_from (checked_of ts))
    (frame_part (checked_of ts) ++ (output_part (checked_of ts) ++ (ranges (first_place (checked_of ts)) (checked_of ts) ++ (hashes (first_place (checked_of ts)) (checked_of ts) ++ programs (first_place (checked_of ts)) (checked_of ts)))))
above_rises ts =
    let p = first_place (checked_of ts) in
    joined 119 (output_from (checked_of ts)) (free_from (checked_of ts)) (frame_part (checked_of ts)) _
    (joined 119 124 (output_from (checked_of ts)) (numbered 119 (output_from (checked_of ts) ∷ range_from (checked_of ts) ∷ hash_from (checked_of ts) ∷ 0 ∷ 118 ∷ [])) (frames p (checked_of ts))
    (numbers_rise 119 5 (output_from (checked_of ts) ∷ range_from (checked_of ts) ∷ hash_from (checked_of ts) ∷ 0 ∷ 118 ∷ []) refl)
    (upto 124 (124 + total turn_size (checked_of ts) + 4) (output_from (checked_of ts)) (frames p (checked_of ts)) (omega arith) (frames_rise p ts)))
    (joined (output_from (checked_of ts)) (range_from (checked_of ts)) (free_from (checked_of ts)) (output_part (checked_of ts)) _
    (joined (output_from (checked_of ts)) (output_from (checked_of ts) + 1) (range_from (checked_of ts)) (numbered (output_from (checked_of ts)) (length (checked_of ts) ∷ [])) (outputs p (checked_of ts)) (numbers_rise (output_from (checked_of ts)) 1 (length (checked_of ts) ∷ []) refl) (outputs_rise p ts))
    (joined (range_from (checked_of ts)) (hash_from (checked_of ts)) (free_from (checked_of ts)) (ranges p (checked_of ts)) _ (ranges_rise p ts)
    (joined (hash_from (checked_of ts)) (program_from (checked_of ts)) (free_from (checked_of ts)) (hashes p (checked_of ts)) (programs p (checked_of ts)) (hashes_rise p ts) (programs_rise p ts))))

pub words_rise : RisesIn 1 118 words_part
words_rise = numbers_rise 1 117 _ refl

pub all_rise : (ts : List Task) → RisesIn 1 (free_from (checked_of ts)) (all_cells (checked_of ts))
all_rise ts = joined 1 119 (free_from (checked_of ts)) words_part _ (numbered_rises 1 boot_words 119 (lit≤ tt)) (above_rises ts)
