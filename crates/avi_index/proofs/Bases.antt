-- The entry that decides the base.
use Rattle.std.proofs.Common.{◌≡◌, ◌∙◌, ℕ, ◌+◌, ◌-◌, ◌*◌, ◌<◌, ◌≤◌, Bool, true, false, List, drop, length, sym, ap, subst, ◌/◌}
use Rattle.std.specs.Prelude.{nat_lt, if◌then◌else◌, Result}
use Rattle.part_tree.specs.declared.names.Span.{Span}
use Rattle.container_model.specs.Written.{slice, rows}
use Rattle.avi_index.specs.Rows.{Base as Model, old_rows, base_of, base_at, decides, row_offset}
use Rattle.avi_index.specs.Found.{based_by, is_based}
use Rattle.part_tree.specs.declared.table.Base.{Base}
use Rattle.std.specs.declared.result.Result.TheVariants.{Ok}
use Rattle.part_tree.specs.declared.table.Base.TheVariants.{Movi}
use Rattle.part_tree.specs.declared.index.IndexFault.{IndexFault}
use Rattle.avi_index.specs.Checks.{TellsBase, FindsBase, SettlesBase, told_base}
use Rattle.container_model.proofs.Tables.{rows_next, rows_end, rows_start}

-- the entries from a number on have the base of all
pub record IsUndecided (b : List ℕ) (ss : List Span) (movi : Span) (n k : ℕ) (body : List ℕ) : Type 0 where
  pub based : is_based b ss movi (rows 16 (n - k) (drop (16 * k) body)) ≡ is_based b ss movi (rows 16 n body)
  pub base : base_of movi.at (rows 16 (n - k) (drop (16 * k) body)) ≡ base_of movi.at (rows 16 n body)

pub undecided_start : (b : List ℕ) (ss : List Span) (movi : Span) (n : ℕ) (body : List ℕ) → IsUndecided b ss movi n 0 body
undecided_start b ss movi n body = record { based = ap (is_based b ss movi) (rows_start 16 n body); base = ap (base_of movi.at) (rows_start 16 n body) }

pub undecided_more : (b : List ℕ) (ss : List Span) (movi : Span) (n k : ℕ) (body : List ℕ) → k < n → IsUndecided b ss movi n k body → decides (slice body (16 * k) 16) ≡ false → IsUndecided b ss movi n (k + 1) body
undecided_more b ss movi n k body lt left not_it =
    let r = slice body (16 * k) 16 in
    let rest = rows 16 (n - (k + 1)) (drop (16 * (k + 1)) body) in
    let step = rows_next 16 n k body lt in
    record {
      based = ap (λ (t : Bool). if t then based_by b ss movi r (nat_lt (row_offset r) movi.at) else is_based b ss movi rest) (sym not_it) ∙ ap (is_based b ss movi) (sym step) ∙ left.based;
      base = ap (λ (t : Bool). if t then base_at (nat_lt (row_offset r) movi.at) else base_of movi.at rest) (sym not_it) ∙ ap (base_of movi.at) (sym step) ∙ left.base;
    }

-- the entry that decides settles the base of all
pub decided : (b : List ℕ) (ss : List Span) (movi : Span) (n k : ℕ) (body : List ℕ) (result : Result Base IndexFault) → n ≡ length body / 16 → k < n → IsUndecided b ss movi n k body → decides (slice body (16 * k) 16) ≡ true
    → SettlesBase b ss movi (slice body (16 * k) 16) result → FindsBase b ss movi (old_rows body) result
decided b ss movi n k body result size lt left it settles =
    let r = slice body (16 * k) 16 in
    let rest = rows 16 (n - (k + 1)) (drop (16 * (k + 1)) body) in
    let step = rows_next 16 n k body lt in
    let based : based_by b ss movi r (nat_lt (row_offset r) movi.at) ≡ is_based b ss movi (rows 16 n body) =
    ap (λ (t : Bool). if t then based_by b ss movi r (nat_lt (row_offset r) movi.at) else is_based b ss movi rest) (sym it) ∙ ap (is_based b ss movi) (sym step) ∙ left.based in
    let base : base_at (nat_lt (row_offset r) movi.at) ≡ base_of movi.at (rows 16 n body) =
    ap (λ (t : Bool). if t then base_at (nat_lt (row_offset r) movi.at) else base_of movi.at rest) (sym it) ∙ ap (base_of movi.at) (sym step) ∙ left.base in
    subst (λ (m : ℕ). FindsBase b ss movi (rows 16 m body) result) size
    (subst (λ (x : Model). TellsBase (is_based b ss movi (rows 16 n body)) (told_base movi.at x) result) base
    (subst (λ (x : Bool). TellsBase x (told_base movi.at (base_at (nat_lt (row_offset r) movi.at))) result) based settles))

-- where none decides they count from movi
pub undecided_all : (b : List ℕ) (ss : List Span) (movi : Span) (n k : ℕ) (body : List ℕ) → n ≡ length body / 16 → n ≤ k → IsUndecided b ss movi n k body → FindsBase b ss movi (old_rows body) (Ok (Movi movi.at))
undecided_all b ss movi n k body size le left =
    let none = rows_end 16 n k body le in (
      ap (λ (m : ℕ). is_based b ss movi (rows 16 m body)) (sym size) ∙ sym left.based ∙ ap (is_based b ss movi) none,
      sym (ap (λ (m : ℕ). told_base movi.at (base_of movi.at (rows 16 m body))) (sym size) ∙ ap (told_base movi.at) (sym left.base ∙ ap (base_of movi.at) none)),
    )
