-- One entry that is judged, and one that settles the base.
use Rattle.std.proofs.Common.{◌≡◌, ◌∙◌, ℕ, ◌+◌, ◌<◌, ◌≤◌, Bool, true, false, ltb, List, [], ◌∷◌, length, drop, refl, sym, ap, subst, arith, length-take, length-drop}
use Rattle.std.specs.Prelude.{Option, Some, None, Result, ◌&&◌, ◌||◌, not, ◌==◌, if◌then◌else◌}
use Rattle.std.specs.Str.{bytes_eq}
use Rattle.std.specs.declared.result.Result.TheVariants.{Ok, Err}
use Rattle.std.proofs.lemmas.Bool.{ne_eqb, lt-ltb, le-ltb}
use Rattle.part_tree.specs.declared.names.Span.{Span}
use Rattle.part_tree.proofs.Words.{same_length}
use Rattle.container_model.specs.Written.{slice}
use Rattle.part_tree.specs.Ranges.{within, begins_one, clear_of}
use Rattle.container_model.specs.Tests.{first}
use Rattle.avi_index.specs.Rows.{from_start, from_movi, row_id, row_offset, row_length, base_at}
use Rattle.avi_index.specs.Found.{stands_at, based_by, counted}
use Rattle.part_tree.specs.declared.table.Base.{Base}
use Rattle.part_tree.specs.declared.table.Base.TheVariants.{Movi, FileStart}
use Rattle.part_tree.specs.declared.index.IndexFault.{IndexFault}
use Rattle.part_tree.specs.declared.index.IndexFault.TheVariants.{NoBase, Astray, Overlap}
use Rattle.avi_index.specs.declared.entry.IdxEntry.{IdxEntry}
use Rattle.avi_index.specs.Entries.{IsEntry}
use Rattle.avi_index.specs.Checks.{JudgesRow, SettlesBase, TellsBase, told_base, old_tests}

-- the offset and the length of a row
pub record IsAt (row : List ℕ) (off size : ℕ) : Type 0 where
  pub long : length row ≡ 16
  pub offset : off ≡ row_offset row
  pub len : size ≡ row_length row

pub at_row : (row : List ℕ) (e : IdxEntry) (off size : ℕ) → IsEntry row e → off ≡ e.offset → size ≡ e.len → IsAt row off size
at_row row e off size is o l = record { long = is.long; offset = o ∙ is.offset; len = l ∙ is.len }

-- a chunk of so many bytes at a place is one of these, or has no byte in them
abbrev names_by : List Span → ℕ → ℕ → Bool
names_by ss p n = begins_one ss p || clear_of ss (p + 8) n

-- ---- counted

pub counts_movi : (movi : Span) (ss : List Span) (row : List ℕ) (off size : ℕ) (some inside named : Bool) → IsAt row off size → some ≡ not (size == 0)
    → inside ≡ within movi (movi.at + off) (8 + size) → named ≡ names_by ss (movi.at + off) size → (some && (inside && named)) ≡ counted from_movi movi ss row
counts_movi movi ss row off size some inside named is s i n =
    ap (λ (x : Bool). x && (inside && named)) s
    ∙ ap (λ (x : Bool). not (size == 0) && (x && named)) i
    ∙ ap (λ (x : Bool). not (size == 0) && (within movi (movi.at + off) (8 + size) && x)) n
    ∙ ap (λ (x : ℕ). not (size == 0) && (within movi (movi.at + x) (8 + size) && (begins_one ss (movi.at + x) || clear_of ss (movi.at + x + 8) size))) is.offset
    ∙ ap (λ (x : ℕ). not (x == 0) && (within movi (movi.at + row_offset row) (8 + x) && (begins_one ss (movi.at + row_offset row) || clear_of ss (movi.at + row_offset row + 8) x))) is.len

-- the fault of an entry by three tests
abbrev fault_by : ℕ → Bool → Bool → Bool → Option IndexFault
fault_by k none inside named = if not none && not inside then Some (Astray k) else (if not none && not named then Some (Overlap k) else None)

fault_is : (movi : Span) (ss : List Span) (k : ℕ) (row : List ℕ) (off size : ℕ) (inside named : Bool) → IsAt row off size
    → inside ≡ within movi off (8 + size) → named ≡ names_by ss off size → first (old_tests from_start movi ss k (row ∷ [])) ≡ fault_by k (size == 0) inside named
fault_is movi ss k row off size inside named is i n =
    sym (
    ap (λ (x : Bool). fault_by k (size == 0) x named) i
    ∙ ap (λ (x : Bool). fault_by k (size == 0) (within movi off (8 + size)) x) n
    ∙ ap (λ (x : ℕ). fault_by k (size == 0) (within movi x (8 + size)) (begins_one ss x || clear_of ss (x + 8) size)) is.offset
    ∙ ap (λ (x : ℕ). fault_by k (x == 0) (within movi (row_offset row) (8 + x)) (begins_one ss (row_offset row) || clear_of ss (row_offset row + 8) x)) is.len
    )

pub judged_none : (movi : Span) (ss : List Span) (k : ℕ) (row : List ℕ) (off size : ℕ) → IsAt row off size → size ≡ 0 → JudgesRow from_start movi ss k row (Ok false)
judged_none movi ss k row off size is none =
    let zero : row_length row ≡ 0 = sym is.len ∙ none in (
      ap (λ (x : ℕ). fault_by k (x == 0) (within movi (row_offset row) (8 + row_length row)) (begins_one ss (row_offset row) || clear_of ss (row_offset row + 8) (row_length row))) zero,
      ap (λ (x : ℕ). not (x == 0)) (sym zero),
    )

pub judged_astray : (movi : Span) (ss : List Span) (k : ℕ) (row : List ℕ) (off size : ℕ) (inside : Bool) → IsAt row off size → (size ≡ 0 → ⊥) → inside ≡ within movi off (8 + size) → inside ≡ false
    → JudgesRow from_start movi ss k row (Err (Astray k))
judged_astray movi ss k row off size inside is some i out =
    fault_is movi ss k row off size inside (names_by ss off size) is i refl
    ∙ ap (λ (x : Bool). fault_by k x inside (names_by ss off size)) (ne_eqb size 0 some)
    ∙ ap (λ (x : Bool). fault_by k false x (names_by ss off size)) out

pub judged_overlap : (movi : Span) (ss : List Span) (k : ℕ) (row : List ℕ) (off size : ℕ) (inside named : Bool) → IsAt row off size → (size ≡ 0 → ⊥)
    → inside ≡ within movi off (8 + size) → named ≡ names_by ss off size → inside ≡ true → named ≡ false → JudgesRow from_start movi ss k row (Err (Overlap k))
judged_overlap movi ss k row off size inside named is some i n lies hit =
    fault_is movi ss k row off size inside named is i n
    ∙ ap (λ (x : Bool). fault_by k x inside named) (ne_eqb size 0 some)
    ∙ ap (λ (x : Bool). fault_by k false x named) lies
    ∙ ap (λ (x : Bool). fault_by k false true x) hit

pub judged_fine : (movi : Span) (ss : List Span) (k : ℕ) (row : List ℕ) (off size : ℕ) (inside named : Bool) → IsAt row off size → (size ≡ 0 → ⊥)
    → inside ≡ within movi off (8 + size) → named ≡ names_by ss off size → inside ≡ true → named ≡ true → JudgesRow from_start movi ss k row (Ok true)
judged_fine movi ss k row off size inside named is some i n lies clear = (
  fault_is movi ss k row off size inside named is i n
      ∙ ap (λ (x : Bool). fault_by k x inside named) (ne_eqb size 0 some)
      ∙ ap (λ (x : Bool). fault_by k false x named) lies
      ∙ ap (λ (x : Bool). fault_by k false true x) clear,
  sym (ap (λ (x : ℕ). not (x == 0)) (sym is.len) ∙ ap not (ne_eqb size 0 some)),
)

-- ---- the base

pub stands_told : (b row word id : List ℕ) (ss : List Span) (p : ℕ) (same head clear : Bool) → same ≡ bytes_eq word id → head ≡ begins_one ss p → clear ≡ clear_of ss p 4 → word ≡ slice b p 4 → id ≡ row_id row
    → (same && (head || clear)) ≡ stands_at b ss row p
stands_told b row word id ss p same head clear s h c w i =
    ap (λ (x : Bool). x && (head || clear)) (s ∙ ap (λ (x : List ℕ). bytes_eq x id) w ∙ ap (bytes_eq (slice b p 4)) i)
    ∙ ap (λ (x : Bool). bytes_eq (slice b p 4) (row_id row) && (x || clear)) h
    ∙ ap (λ (x : Bool). bytes_eq (slice b p 4) (row_id row) && (begins_one ss p || x)) c

abbrev settled_by : List ℕ → List Span → Span → List ℕ → Bool → Result Base IndexFault → Type 0
settled_by b ss movi row below result = TellsBase (based_by b ss movi row below) (told_base movi.at (base_at below)) result

-- an offset below the place of movi
pub settles_movi : (b : List ℕ) (ss : List Span) (movi : Span) (row : List ℕ) (off size : ℕ) (stands : Bool) (result : Result Base IndexFault) → IsAt row off size → off < movi.at → within movi (movi.at + off) 4 ≡ true
    → stands ≡ stands_at b ss row (movi.at + off) → TellsBase stands (Movi movi.at) result → SettlesBase b ss movi row result
settles_movi b ss movi row off size stands result is below lies s tells =
    let below_too : ltb (row_offset row) movi.at ≡ true = ap (λ (x : ℕ). ltb x movi.at) (sym is.offset) ∙ lt-ltb off movi.at below in
    let based : stands ≡ based_by b ss movi row true =
    s ∙ ap (λ (x : Bool). x && stands_at b ss row (movi.at + off)) (sym lies) ∙ ap (λ (x : ℕ). within movi (movi.at + x) 4 && stands_at b ss row (movi.at + x)) is.offset in
    subst (λ (x : Bool). settled_by b ss movi row x result) (sym below_too) (subst (λ (x : Bool). TellsBase x (Movi movi.at) result) based tells)

pub astray_movi : (b : List ℕ) (ss : List Span) (movi : Span) (row : List ℕ) (off size : ℕ) → IsAt row off size → off < movi.at → within movi (movi.at + off) 4 ≡ false → SettlesBase b ss movi row (Err NoBase)
astray_movi b ss movi row off size is below out =
    let below_too : ltb (row_offset row) movi.at ≡ true = ap (λ (x : ℕ). ltb x movi.at) (sym is.offset) ∙ lt-ltb off movi.at below in
    ap (based_by b ss movi row) below_too
    ∙ ap (λ (x : ℕ). within movi (movi.at + x) 4 && stands_at b ss row (movi.at + row_offset row)) (sym is.offset)
    ∙ ap (λ (x : Bool). x && stands_at b ss row (movi.at + row_offset row)) out

-- one that isn't below it
pub settles_start : (b : List ℕ) (ss : List Span) (movi : Span) (row : List ℕ) (off size : ℕ) (stands : Bool) (result : Result Base IndexFault) → IsAt row off size → movi.at ≤ off → stands ≡ stands_at b ss row off
    → TellsBase stands FileStart result → SettlesBase b ss movi row result
settles_start b ss movi row off size stands result is above s tells =
    let above_too : ltb (row_offset row) movi.at ≡ false = ap (λ (x : ℕ). ltb x movi.at) (sym is.offset) ∙ le-ltb off movi.at above in
    subst (λ (x : Bool). settled_by b ss movi row x result) (sym above_too) (subst (λ (x : Bool). TellsBase x FileStart result) (s ∙ ap (stands_at b ss row) is.offset) tells)

no_word : (b row : List ℕ) (p : ℕ) → length row ≡ 16 → length b < p + 4 → bytes_eq (slice b p 4) (row_id row) ≡ false
no_word b row p long short = go (bytes_eq (slice b p 4) (row_id row)) refl
  where
    go : (t : Bool) → bytes_eq (slice b p 4) (row_id row) ≡ t → t ≡ false
    go false e = refl
    go true e = absurd (omega (arith, same_length (slice b p 4) (row_id row) e, length-take 4 (drop p b), length-drop p b, length-take 4 (drop 0 row), length-drop 0 row))

pub past_end : (b : List ℕ) (ss : List Span) (movi : Span) (row : List ℕ) (off size : ℕ) → IsAt row off size → movi.at ≤ off → length b < off + 4 → SettlesBase b ss movi row (Err NoBase)
past_end b ss movi row off size is above short =
    let above_too : ltb (row_offset row) movi.at ≡ false = ap (λ (x : ℕ). ltb x movi.at) (sym is.offset) ∙ le-ltb off movi.at above in
    ap (based_by b ss movi row) above_too
    ∙ ap (λ (x : ℕ). stands_at b ss row x) (sym is.offset)
    ∙ ap (λ (x : Bool). x && (begins_one ss off || clear_of ss off 4)) (no_word b row off is.long short)

pub tells_true : (base : Base) → TellsBase true base (Ok base)
tells_true base = (refl, refl)
