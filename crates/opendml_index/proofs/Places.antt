-- The entries of the standard index at a place.
use Rattle.std.proofs.Common.{◌≡◌, ◌∙◌, ℕ, ◌+◌, ◌*◌, ◌≤◌, Bool, true, false, List, [], ◌∷◌, length, take, drop, refl, sym, ap, subst, arith}
use Rattle.std.specs.Prelude.{Option, Some, None, ◌||◌}
use Rattle.std.specs.List.{AllByRecursion}
use Rattle.std.proofs.lemmas.Bool.{leb-true}
use Rattle.part_tree.specs.declared.names.Span.{Span}
use Rattle.container_model.specs.Written.{slice, rows}
use Rattle.container_model.proofs.Written.{slice_slice, length-slice}
use Rattle.container_model.specs.Tables.{named, size_at}
use Rattle.opendml_index.specs.Index.{index_base, width, used}
use Rattle.opendml_index.specs.Kinds.{is_standard_kind, is_index_kind, is_super_kind}
use Rattle.opendml_index.proofs.Known.{standard_kind, super_kind}
use Rattle.part_tree.specs.declared.table.IndexHead.{IndexHead}
use Rattle.opendml_index.specs.declared.head.IndexKind.{IndexKind}
use Rattle.opendml_index.specs.declared.head.IndexKind.TheVariants.{Super, Standard, TwoFields}
use Rattle.opendml_index.specs.declared.check.Entries.{Entries}
use Rattle.opendml_index.specs.Heads.{OfKind, IsFront, two_fields}
use Rattle.opendml_index.specs.Entries.{width_by}
use Rattle.opendml_index.specs.Checks.{EndInside, IsChunk, EntriesBy, TableAt}
use Rattle.opendml_index.proofs.Front.{index_front, of_front, front_of, width_is}
use Rattle.opendml_index.proofs.Rows.{rows_in}

-- how long the body is
pub body_long : (b : List ℕ) (at : ℕ) → IsChunk b at → length (named b at).body ≡ size_at b at
body_long b at is = length-slice b (at + 8) (size_at b at) is.whole

pub room : (b : List ℕ) (at : ℕ) → IsChunk b at → at + 32 ≤ length b
room b at is = omega (arith, is.whole, body_long b at is, leb-true 24 (length (named b at).body) is.sound.header_is_there)

-- its first bytes
pub front_is : (b : List ℕ) (at : ℕ) → IsChunk b at → slice b (at + 8) 24 ≡ take 24 (named b at).body
front_is b at is =
    let place : at + 8 + 0 ≡ at + 8 = omega arith in
    let fits : 0 + 24 ≤ size_at b at = omega (arith, body_long b at is, leb-true 24 (length (named b at).body) is.sound.header_is_there) in
    ap (λ (p : ℕ). slice b p 24) (sym place) ∙ sym (slice_slice b (at + 8) (size_at b at) 0 24 fits)

or_right : (a c : Bool) → c ≡ true → (a || c) ≡ true
or_right true c e = refl
or_right false c e = e

pub kind_there : (b : List ℕ) (at : ℕ) (first : List ℕ) → IsChunk b at → first ≡ slice b (at + 8) 24 → is_index_kind first ≡ false → ⊥
kind_there b at first is e none =
    let known : is_index_kind (named b at).body ≡ true = or_right (is_super_kind (named b at).body) (is_standard_kind (named b at).body) is.sound.kind_is in
    let same = ap is_index_kind (e ∙ front_is b at is) ∙ index_front (named b at).body in
    absurd cc

-- the kind is that of a standard index
wide_as : (body : List ℕ) (k : IndexKind) → OfKind body k → is_standard_kind body ≡ true → width_by (two_fields k) ≡ width body
wide_as body Super h s = let n = (standard_kind body s).0 in let m = (super_kind body h).0 in absurd cc
wide_as body Standard h s = sym (width_is body Standard h)
wide_as body TwoFields h s = sym (width_is body TwoFields h)

pub record Found (b : List ℕ) (at : ℕ) (h : IndexHead) : Type 0 where
  pub wide : width_by h.two_fields ≡ width (named b at).body
  pub used_are : h.used ≡ used (named b at).body
  pub base : h.base ≡ index_base (named b at).body

pub head_found : (b : List ℕ) (at : ℕ) (first : List ℕ) (k : IndexKind) (h : IndexHead) → IsChunk b at → first ≡ slice b (at + 8) 24 → OfKind first k → IsFront first k h → Found b at h
head_found b at first k h is e of front =
    let body = (named b at).body in
    let same : first ≡ take 24 body = e ∙ front_is b at is in
    let of_body = of_front body k (subst (λ (x : List ℕ). OfKind x k) same of) in
    let front_body = front_of body k h (subst (λ (x : List ℕ). IsFront x k h) same front) in
    record {
      wide = ap width_by front_body.two ∙ wide_as body k of_body is.sound.kind_is;
      used_are = front_body.used_are;
      base = front_body.base;
    }

fits_in : (b : List ℕ) (at : ℕ) (h : IndexHead) → IsChunk b at → Found b at h → 24 + width_by h.two_fields * h.used ≤ size_at b at
fits_in b at h is found =
    let body = (named b at).body in
    let all = leb-true (24 + width body * used body) (length body) is.sound.entries_are_there in
    let same : width_by h.two_fields * h.used ≡ width body * used body = ap (λ (n : ℕ). n * h.used) found.wide ∙ ap (λ (n : ℕ). width body * n) found.used_are in
    omega (arith, all, same, body_long b at is)

pub table_is : (b : List ℕ) (at len : ℕ) (h : IndexHead) (result : Option Entries) → IsChunk b at → len ≡ length b → Found b at h → EntriesBy h (at + 32) len result → TableAt b at result
table_is b at len h None is all found by = absurd (omega (arith, is.whole, by, fits_in b at h is found))
table_is b at len h (Some t) is all found by =
    let body = (named b at).body in (
      ap (λ (p : ℕ). rows (width_by t.two_fields) t.used (drop p b)) by.0
          ∙ ap (λ (two : Bool). rows (width_by two) t.used (drop (at + 32) b)) by.3
          ∙ ap (λ (n : ℕ). rows (width_by h.two_fields) n (drop (at + 32) b)) by.4
          ∙ rows_in b at (size_at b at) (width_by h.two_fields) h.used (fits_in b at h is found)
          ∙ ap (λ (w : ℕ). rows w h.used (drop 24 body)) found.wide
          ∙ ap (λ (n : ℕ). rows (width body) n (drop 24 body)) found.used_are,
      by.5 ∙ found.base,
    )

-- ranges that end in the file end below 2^64
pub ends_small : (len end : ℕ) (movis : List Span) → len ≤ end → AllByRecursion (EndInside len) movis → AllByRecursion (EndInside end) movis
ends_small len end [] le h = tt
ends_small len end (s ∷ ss) le h = (omega (arith, h.0), ends_small len end ss le h.1)
