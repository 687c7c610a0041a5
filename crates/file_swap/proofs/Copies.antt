-- What a stage of a rewrite has left begins with its step.
use Rattle.std.proofs.Common.{◌≡◌, ℕ, zero, suc, ◌+◌, ◌-◌, ◌*◌, ◌≤◌, ◌<◌, min, List, [], ◌∷◌, ◌++◌, length, take, get_or, refl, sym, ◌∙◌, ap, arith, length-take}
use Rattle.std.specs.List.{flat_map}
use Rattle.me_disk.specs.Calls.Call.{InstallMain}
use Rattle.file_swap.specs.Steps.{Step, Range, Change, changed, block, blocks, page, pages, cut_in, ranges, page_ranges, appends, copies, relocates, steps}
use Rattle.file_swap.specs.Steps.Change.{Stays, Relocates}
use Rattle.std.proofs.Math.Nat.{mul-le-mul}
use Rattle.part_tree.specs.declared.plan.Segment.{Segment}
use Rattle.part_tree.specs.declared.plan.Segment.TheVariants.{Copy, Literal, Table}
use Rattle.part_tree.specs.declared.table.TableForm.{TableForm}
use Rattle.part_tree.specs.Moves.{Move}
use Rattle.part_tree.specs.Plans.{AllBased}
use Rattle.part_tree.specs.Tables.{width, new_width, HasBase}
use Rattle.part_tree.proofs.Relocated.{relocated_length, wide}
use Rattle.file_swap.specs.Steps.Step.{Makes, Reads, Appends}
use Rattle.file_swap.specs.declared.rewrite.Stage.{Stage}
use Rattle.file_swap.specs.declared.rewrite.Stage.TheVariants.{Start, Read, Append, ReadRows, AppendRows, Put, Seal, Install, Ended}
use Rattle.file_swap.specs.declared.rewrite.Parts.{Parts}
use Rattle.file_swap.specs.declared.rewrite.Rewriting.{Rewriting}
use Rattle.file_swap.specs.Parts.{span_at, literal_at, table_of, table_at, copy_len, page_len, change_of, segments_from, copies_from, rows_from, step_of, left, IsStage, HoldsNothing, held_in, held_of, plan_of, IsRewriting}
use Rattle.file_swap.proofs.Stages.{appends_more}

ranges_at : (at len : ℕ) → 0 < len → ranges at len ≡ record { at = at; len = min block len } ∷ ranges (at + min block len) (len - min block len)
ranges_at at len some =
    let one : blocks len ≡ suc (blocks (len - min block len)) = omega arith in
    ap (λ (k : ℕ). cut_in block k at len) one

copies_more : (at len : ℕ) → 0 < len → copies at len ≡ Reads at (min block len) ∷ Appends (min block len) Stays ∷ copies (at + min block len) (len - min block len)
copies_more at len some = ap (λ (rs : List Range). flat_map (λ (r : Range). Reads r.at r.len ∷ Appends r.len Stays ∷ []) rs) (ranges_at at len some)

-- a block is read, and then appended
pub read_next : (s : Parts) (i from : ℕ) → IsStage s (Read i from) → left s (Read i from) ≡ step_of s (Read i from) ∷ left s (Append i from)
read_next s i from stage =
    let span = span_at s i in
    let low = stage.1 in
    let n = copy_len s i from in
    let e1 : span.at + from + n ≡ span.at + (from + n) = omega arith in
    let e2 : span.len - from - n ≡ span.len - (from + n) = omega arith in
    ap (λ (l : List Step). l ++ segments_from s (i + 1)) (copies_more (span.at + from) (span.len - from) (omega arith))
    ∙ (λ j. Reads (span.at + from) n ∷ Appends n Stays ∷ (copies (e1 j) (e2 j) ++ segments_from s (i + 1)))

pages_at : (first rows : ℕ) → 0 < rows → page_ranges first rows ≡ record { at = first; len = min page rows } ∷ page_ranges (first + min page rows) (rows - min page rows)
pages_at first rows some =
    let one : pages rows ≡ suc (pages (rows - min page rows)) = omega arith in
    ap (λ (k : ℕ). cut_in page k first rows) one

rows_more : (moves : List Move) (form : TableForm) (from first rows : ℕ) → 0 < rows
    → relocates moves form from first rows
    ≡ Reads (from + width form * first) (width form * min page rows) ∷ Appends (new_width form * min page rows) (Relocates moves form (min page rows)) ∷ relocates moves form from (first + min page rows) (rows - min page rows)
rows_more moves form from first rows some =
    ap (λ (rs : List Range). flat_map (λ (r : Range). Reads (from + width form * r.at) (width form * r.len) ∷ Appends (new_width form * r.len) (Relocates moves form r.len) ∷ []) rs) (pages_at first rows some)

-- a page is read, and then appended
pub rows_next : (s : Parts) (i first : ℕ) → IsStage s (ReadRows i first) → left s (ReadRows i first) ≡ step_of s (ReadRows i first) ∷ left s (AppendRows i first)
rows_next s i first stage =
    let t = table_at s i in
    let low = stage.1 in
    let n = page_len s i first in
    let e : t.rows - first - n ≡ t.rows - (first + n) = omega arith in
    ap (λ (l : List Step). l ++ segments_from s (i + 1)) (rows_more s.moves t.form t.from first (t.rows - first) (omega arith))
    ∙ (λ j. step_of s (ReadRows i first) ∷ step_of s (AppendRows i first) ∷ (relocates s.moves t.form t.from (first + n) (e j) ++ segments_from s (i + 1)))

pub put_next : (s : Parts) (i from n : ℕ) (next : Stage) → IsStage s (Put i from) → n ≡ min block (length (literal_at s i) - from) → left s next ≡ left s (Put i (from + n))
    → left s (Put i from) ≡ step_of s (Put i from) ∷ left s next
put_next s i from n next stage e behind =
    let b = literal_at s i in
    let rest = segments_from s (i + 1) in
    ap (λ (l : List Step). l ++ rest) (appends_more b from stage.1)
    ∙ ap (λ (l : List Step). step_of s (Put i from) ∷ l) (ap (λ (k : ℕ). appends b (from + k) ++ rest) (sym e) ∙ sym behind)

-- at each stage but the last something is left
pub some_left : (s : Parts) (t : Stage) → (t ≡ Ended → ⊥) → IsStage s t → 0 < length (left s t)
some_left s Start more stage = omega arith
some_left s (Read i from) more stage = omega (arith, ap (λ (l : List Step). length l) (read_next s i from stage))
some_left s (Append i from) more stage = omega arith
some_left s (ReadRows i first) more stage = omega (arith, ap (λ (l : List Step). length l) (rows_next s i first stage))
some_left s (AppendRows i first) more stage = omega arith
some_left s (Put i from) more stage = omega (arith, ap (λ (l : List Step). length (l ++ segments_from s (i + 1))) (appends_more (literal_at s i) from stage.1))
some_left s Seal more stage = omega arith
some_left s Install more stage = omega arith
some_left s Ended more stage = absurd (more refl)

pub not_ended : (s : Parts) (t : Stage) → (left s t ≡ [] → ⊥) → t ≡ Ended → ⊥
not_ended s t more is = more (ap (λ (x : Stage). left s x) is)

pub ended_iff : (s : Parts) (t : Stage) → (t ≡ Ended → ⊥) → IsStage s t → left s t ≡ [] → ⊥
ended_iff s t more stage none = let some = some_left s t more stage in omega (arith, ap (λ (l : List Step). length l) none)

pub nothing_held : (s : Parts) (t : Stage) (b : List ℕ) → HoldsNothing t → held_in s t b ≡ []
nothing_held s Start b h = refl
nothing_held s (Read i from) b h = refl
nothing_held s (Append i from) b h = absurd h
nothing_held s (ReadRows i first) b h = refl
nothing_held s (AppendRows i first) b h = absurd h
nothing_held s (Put i from) b h = refl
nothing_held s Seal b h = refl
nothing_held s Install b h = refl
nothing_held s Ended b h = refl

pub stage_more : (s : Parts) (t : Stage) → (t ≡ Ended → ⊥) → IsStage s t → (more : List Step) × (left s t ≡ step_of s t ∷ more)
stage_more s Start more stage = (segments_from s 0, refl)
stage_more s (Read i from) more stage = (left s (Append i from), read_next s i from stage)
stage_more s (Append i from) more stage = (copies_from s i (from + copy_len s i from), refl)
stage_more s (ReadRows i first) more stage = (left s (AppendRows i first), rows_next s i first stage)
stage_more s (AppendRows i first) more stage = (rows_from s i (first + page_len s i first), refl)
stage_more s (Put i from) more stage =
    let b = literal_at s i in
    (appends b (from + min block (length b - from)) ++ segments_from s (i + 1), ap (λ (l : List Step). l ++ segments_from s (i + 1)) (appends_more b from stage.1))
stage_more s Seal more stage = (Makes InstallMain ∷ [], refl)
stage_more s Install more stage = ([], refl)
stage_more s Ended more stage = absurd (more refl)

pub start_left : (s : Parts) (t : Stage) → t ≡ Start → left s t ≡ steps (plan_of s)
start_left s t is = ap (λ (x : Stage). left s x) is

appended : Step → ℕ
appended (Makes c) = 0
appended (Reads at n) = 0
appended (Appends n change) = n

change_in : Step → Change
change_in (Makes c) = Stays
change_in (Reads at n) = Stays
change_in (Appends n change) = change

held_size : (s : Parts) (t : Stage) (b : List ℕ) (n : ℕ) (change : Change) → length b ≡ block → step_of s t ≡ Appends n change → length (changed change (held_in s t b)) ≡ n
unfolding appended change_in
held_size s Start b n change size is = absurd cc
held_size s (Read i from) b n change size is = absurd cc
held_size s (Append i from) b n change size is =
    let e : copy_len s i from ≡ n = ap appended is in
    let stays : Stays ≡ change = ap change_in is in
    ap (λ (c : Change). length (changed c (take (copy_len s i from) b))) (sym stays) ∙ omega (arith, length-take (copy_len s i from) b)
held_size s (ReadRows i first) b n change size is = absurd cc
held_size s (AppendRows i first) b n change size is =
    let t = table_at s i in
    let m = page_len s i first in
    let e : new_width t.form * m ≡ n = ap appended is in
    let same : change_of s i first ≡ change = ap change_in is in
    let fits : width t.form * m ≤ 16 * 4096 = mul-le-mul {n₁ = width t.form} {m₁ = m} {n₂ = 16} {m₂ = 4096} (wide t.form).1 (omega arith) in
    ap (λ (c : Change). length (changed c (take (width t.form * m) b))) (sym same)
    ∙ relocated_length s.moves t.form m (take (width t.form * m) b) (omega (arith, fits, size, length-take (width t.form * m) b))
    ∙ e
held_size s (Put i from) b n change size is = absurd cc
held_size s Seal b n change size is = absurd cc
held_size s Install b n change size is = absurd cc
held_size s Ended b n change size is = absurd cc

pub rewriting_size : (r : Rewriting) (n : ℕ) (change : Change) → IsRewriting r → step_of r.parts r.stage ≡ Appends n change → length (changed change (held_of r)) ≡ n
rewriting_size r n change sound is = held_size r.parts r.stage r.buffer.items n change sound.buffer is

-- ---- the tables of a plan

based_at : (ss : List Segment) (i : ℕ) → AllBased ss → HasBase (table_of (get_or ss i (Literal []))).form
based_at [] i h = tt
based_at (Copy s ∷ ss) zero h = tt
based_at (Literal b ∷ ss) zero h = tt
based_at (Table form from rows ∷ ss) zero h = h.0
based_at (s ∷ ss) (suc i) h = based_at ss i h.1

-- the offsets of a standard index count from a place below 2^63
pub table_based : (r : Rewriting) (i : ℕ) → IsRewriting r → HasBase (table_at r.parts i).form
table_based r i sound = based_at r.parts.segments i sound.sum.based
