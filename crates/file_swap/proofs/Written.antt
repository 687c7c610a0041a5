-- How many bytes a plan writes.
use Rattle.std.proofs.Common.{◌≡◌, ℕ, zero, suc, ◌+◌, ◌-◌, ◌*◌, ◌≤◌, min, Bool, true, false, List, [], ◌∷◌, ◌++◌, length, drop, map, refl, sym, ◌∙◌, ap, arith, length-take, length-drop}
use Rattle.std.specs.Prelude.{nat_lt, if◌then◌else◌}
use Rattle.std.specs.List.{flat_map}
use Rattle.std.proofs.lemmas.List.{take_all}
use Rattle.part_tree.specs.declared.plan.Patch.{Patch}
use Rattle.part_tree.specs.declared.plan.Segment.{Segment}
use Rattle.part_tree.specs.declared.plan.Segment.TheVariants.{Copy, Literal, Table}
use Rattle.part_tree.specs.declared.plan.Plan.{Plan}
use Rattle.part_tree.specs.declared.plan.Plan.TheVariants.{InPlace, Rewrite}
use Rattle.me_disk.specs.Calls.Call.{AppendWork, WriteMain, SetMainLen}
use Rattle.edit_journal.specs.Journal.{spelled}
use Rattle.edit_journal.proofs.Laws.{length-spelled}
use Rattle.file_swap.specs.Steps.{Step, Range, block, blocks, page, pages, cut_in, part, appends, writes, segment_steps, after_writes, cut_steps, install_steps, end_steps, steps, calls, step_bytes, bytes_in, bytes_by, bytes_written}
use Rattle.file_swap.specs.Steps.Change.{Stays, Relocates}
use Rattle.file_swap.specs.Steps.Step.{Makes, Reads, Appends}
use Rattle.std.proofs.Math.Nat.{mul-add, mul-zero}
use Rattle.part_tree.specs.declared.table.TableForm.{TableForm}
use Rattle.part_tree.specs.Moves.{Move}
use Rattle.part_tree.specs.Tables.{width, new_width}
use Rattle.part_tree.specs.Patches.{all_bytes}
use Rattle.part_tree.specs.Plans.{segment_len, total_len, CanRun}
use Rattle.file_swap.proofs.Rests.{bytes_most}

bytes_in-append : (xs ys : List Step) → bytes_in (xs ++ ys) ≡ bytes_in xs + bytes_in ys
bytes_in-append [] ys = omega arith
bytes_in-append (x ∷ xs) ys = let h = bytes_in-append xs ys in omega arith

-- blocks that write the bytes of their ranges
blocks_bytes : (f : Range → Step) (k at len : ℕ) → ((r : Range) → at ≤ r.at → r.at + r.len ≤ at + len → step_bytes (f r) ≡ r.len) → blocks len ≤ k → bytes_in (map f (cut_in block k at len)) ≡ len
blocks_bytes f zero at len each all = omega arith
blocks_bytes f (suc k) at len each all =
    let n = min block len in
    let here : step_bytes (f (record { at = at; len = n })) ≡ n = each (record { at = at; len = n }) (omega arith) (omega arith) in
    let rest = blocks_bytes f k (at + n) (len - n) (λ r low high. each r (omega (arith, low)) (omega (arith, high))) (omega arith) in
    omega arith

part_length : (b : List ℕ) (r : Range) → r.at + r.len ≤ length b → length (part b r) ≡ r.len
part_length b r inside = omega (arith, length-take r.len (drop r.at b), length-drop r.at b)

appends_bytes : (b : List ℕ) → bytes_in (appends b 0) ≡ length b
appends_bytes b =
    let h = blocks_bytes (λ (r : Range). Makes (AppendWork (part b r))) (blocks (length b - 0)) 0 (length b - 0) (λ r low high. part_length b r (omega (arith, high))) (omega arith) in omega arith

writes_bytes : (p : Patch) → bytes_in (writes p 0) ≡ length p.bytes
writes_bytes p =
    let h = blocks_bytes (λ (r : Range). Makes (WriteMain (p.at + r.at) (part p.bytes r))) (blocks (length p.bytes - 0)) 0 (length p.bytes - 0) (λ r low high. part_length p.bytes r (omega (arith, high))) (omega arith) in omega arith

copies_bytes : (k at len : ℕ) → blocks len ≤ k → bytes_in (flat_map (λ (r : Range). Reads r.at r.len ∷ Appends r.len Stays ∷ []) (cut_in block k at len)) ≡ len
copies_bytes zero at len all = omega arith
copies_bytes (suc k) at len all =
    let n = min block len in
    let rest = copies_bytes k (at + n) (len - n) (omega arith) in omega arith

tables_bytes : (moves : List Move) (form : TableForm) (from k first n : ℕ) → pages n ≤ k
    → bytes_in (flat_map (λ (r : Range). Reads (from + width form * r.at) (width form * r.len) ∷ Appends (new_width form * r.len) (Relocates moves form r.len) ∷ []) (cut_in page k first n)) ≡ new_width form * n
tables_bytes moves form from zero first n all =
    let e : 0 ≡ n = omega arith in
    sym (mul-zero (new_width form)) ∙ ap (λ (x : ℕ). new_width form * x) e
tables_bytes moves form from (suc k) first n all =
    let m = min page n in
    let whole : m + (n - m) ≡ n = omega arith in
    let rest = tables_bytes moves form from k (first + m) (n - m) (omega arith) in
    let both = mul-add (new_width form) m (n - m) ∙ refl in
    omega (arith, rest, both, ap (λ (x : ℕ). new_width form * x) whole)

segment_written : (moves : List Move) (s : Segment) → bytes_in (segment_steps moves s) ≡ segment_len s
segment_written moves (Copy s) = copies_bytes (blocks s.len) s.at s.len (omega arith)
segment_written moves (Literal b) = appends_bytes b
segment_written moves (Table form from rows) = tables_bytes moves form from (pages rows) 0 rows (omega arith)

segments_written : (moves : List Move) (ss : List Segment) → bytes_in (flat_map (segment_steps moves) ss) ≡ total_len ss
segments_written moves [] = refl
segments_written moves (s ∷ ss) =
    let here = segment_written moves s in
    let rest = segments_written moves ss in omega (arith, bytes_in-append (segment_steps moves s) (flat_map (segment_steps moves) ss))

patches_written : (ps : List Patch) → bytes_in (flat_map (λ (p : Patch). writes p 0) ps) ≡ all_bytes ps
patches_written [] = refl
patches_written (p ∷ ps) =
    let here = writes_bytes p in
    let rest = patches_written ps in omega (arith, bytes_in-append (writes p 0) (flat_map (λ (p : Patch). writes p 0) ps))

cut_bytes : (new : ℕ) (t : Bool) → bytes_in ((if t then Makes (SetMainLen new) ∷ [] else []) ++ after_writes) ≡ 0
cut_bytes new true = refl
cut_bytes new false = refl

pub bytes_all : (p : Plan) → CanRun p → bytes_in (steps p) ≡ bytes_written p
bytes_all (InPlace old new ps) can =
    let j = spelled old new ps in
    let laid = patches_written ps in
    let cut = cut_bytes new (nat_lt new old) in
    omega (arith, appends_bytes j, length-spelled old new ps, bytes_in-append (appends j 0) (install_steps old new ps), bytes_in-append (flat_map (λ (p : Patch). writes p 0) ps) (cut_steps old new))
bytes_all (Rewrite new moves ss) can =
    let total = can.total in
    omega (arith, segments_written moves ss, bytes_in-append (flat_map (segment_steps moves) ss) end_steps)

-- ---- a whole run

-- after the last call all was written
pub by_all : (p : Plan) (k : ℕ) → CanRun p → calls p ≤ k → bytes_by p k ≡ bytes_written p
unfolding calls
by_all p k can all = ap bytes_in (take_all k (steps p) all) ∙ bytes_all p can

pub by_most : (p : Plan) (k : ℕ) → CanRun p → bytes_by p k ≤ bytes_written p
by_most p k can = omega (arith, bytes_most k (steps p), bytes_all p can)
