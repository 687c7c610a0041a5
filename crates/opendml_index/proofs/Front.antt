-- The 24 bytes at the front of an index chunk's body.
use Rattle.std.proofs.Common.{◌≡◌, ◌∙◌, ℕ, ◌+◌, ◌-◌, ◌*◌, ◌<◌, ◌≤◌, Bool, true, false, List, [], ◌∷◌, length, take, drop, refl, sym, ap, arith}
use Rattle.std.specs.Prelude.{Option, Some, None, not, ◌||◌}
use Rattle.std.specs.Str.{bytes_eq}
use Rattle.std.specs.Int.{w16, w32, w64, from_le_bytes}
use Rattle.std.proofs.lemmas.Bool.{le-leb, lt-leb}
use Rattle.container_model.specs.Written.{slice}
use Rattle.container_model.proofs.Written.{slice_slice}
use Rattle.container_model.specs.Tests.{first}
use Rattle.opendml_index.specs.Index.{is_super, width, used}
use Rattle.opendml_index.specs.Kinds.{kind, is_index_kind, is_super_kind, has_header, has_entries}
use Rattle.opendml_index.specs.declared.head.HeadFault.{HeadFault}
use Rattle.opendml_index.specs.declared.head.HeadFault.TheVariants.{Short, Wrong}
use Rattle.opendml_index.proofs.Known.{same_true, super_kind}
use Rattle.part_tree.specs.declared.table.IndexHead.{IndexHead}
use Rattle.opendml_index.specs.declared.head.IndexKind.{IndexKind}
use Rattle.opendml_index.specs.declared.head.IndexKind.TheVariants.{Super, Standard, TwoFields}
use Rattle.opendml_index.specs.Heads.{OfKind, IsFront, IsHead, longs, kind_wanted, standard, two_fields, one_field_kind, two_field_kind, head_tests}

front_slice : (body : List ℕ) (i k : ℕ) → i + k ≤ 24 → slice (take 24 body) i k ≡ slice body i k
front_slice body i k le = let place : 0 + i ≡ i = omega arith in slice_slice body 0 24 i k le ∙ ap (λ (p : ℕ). slice body p k) place

pub kind_front : (body : List ℕ) → kind (take 24 body) ≡ kind body
kind_front body = front_slice body 0 4 (omega arith)

pub index_front : (body : List ℕ) → is_index_kind (take 24 body) ≡ is_index_kind body
index_front body =
    ap (λ (x : List ℕ). (bytes_eq x (4 ∷ 0 ∷ 0 ∷ 0 ∷ []) || bytes_eq x (4 ∷ 0 ∷ 1 ∷ 0 ∷ [])) || (bytes_eq x (2 ∷ 0 ∷ 0 ∷ 1 ∷ []) || bytes_eq x (3 ∷ 0 ∷ 1 ∷ 1 ∷ []))) (kind_front body)

pub of_front : (body : List ℕ) (k : IndexKind) → OfKind (take 24 body) k → OfKind body k
of_front body Super h = ap (λ (x : List ℕ). bytes_eq x (4 ∷ 0 ∷ 0 ∷ 0 ∷ []) || bytes_eq x (4 ∷ 0 ∷ 1 ∷ 0 ∷ [])) (sym (kind_front body)) ∙ h
of_front body Standard h = ap (λ (x : List ℕ). bytes_eq x one_field_kind) (sym (kind_front body)) ∙ h
of_front body TwoFields h = ap (λ (x : List ℕ). bytes_eq x two_field_kind) (sym (kind_front body)) ∙ h

pub front_of : (body : List ℕ) (k : IndexKind) (h : IndexHead) → IsFront (take 24 body) k h → IsFront body k h
front_of body k h is = record {
  longs_are = is.longs_are;
  two = is.two;
  is_standard = is.is_standard;
  used_are = is.used_are ∙ ap (from_le_bytes w32) (front_slice body 4 4 (omega arith));
  id = is.id ∙ front_slice body 8 4 (omega arith);
  base = is.base ∙ ap (from_le_bytes w64) (front_slice body 12 8 (omega arith));
}

-- ---- what a kind says

longs_in : (body k : List ℕ) → kind body ≡ k → width body ≡ 4 * from_le_bytes w16 (take 2 k)
longs_in body k e =
    let z : 0 + 0 ≡ 0 = omega arith in
    ap (λ (x : List ℕ). 4 * from_le_bytes w16 x) (sym (slice_slice body 0 4 0 2 (omega arith) ∙ ap (λ (q : ℕ). slice body q 2) z) ∙ ap (take 2) e)

type_in : (body k : List ℕ) → kind body ≡ k → is_super body ≡ bytes_eq (take 1 (drop 3 k)) (0 ∷ [])
type_in body k e =
    let z : 0 + 3 ≡ 3 = omega arith in
    ap (λ (x : List ℕ). bytes_eq x (0 ∷ [])) (sym (slice_slice body 0 4 3 1 (omega arith) ∙ ap (λ (q : ℕ). slice body q 1) z) ∙ ap (λ (x : List ℕ). take 1 (drop 3 x)) e)

pub width_is : (body : List ℕ) (k : IndexKind) → OfKind body k → width body ≡ 4 * longs k
width_is body Super h = (super_kind body h).1
width_is body Standard h = longs_in body one_field_kind (same_true (kind body) one_field_kind h)
width_is body TwoFields h = longs_in body two_field_kind (same_true (kind body) two_field_kind h)

pub type_is : (body : List ℕ) (k : IndexKind) → OfKind body k → standard k ≡ not (is_super body)
type_is body Super h = ap not (sym (super_kind body h).0)
type_is body Standard h = ap not (sym (type_in body one_field_kind (same_true (kind body) one_field_kind h)))
type_is body TwoFields h = ap not (sym (type_in body two_field_kind (same_true (kind body) two_field_kind h)))

two_super : (body : List ℕ) → is_super_kind body ≡ true → (t : Bool) → bytes_eq (kind body) two_field_kind ≡ t → t ≡ false
two_super body h false e = refl
two_super body h true e =
    let s = (super_kind body h).0 in
    let n = type_in body two_field_kind (same_true (kind body) two_field_kind e) in
    absurd cc

pub two_is : (body : List ℕ) (k : IndexKind) → OfKind body k → two_fields k ≡ bytes_eq (kind body) two_field_kind
two_is body Super h = sym (two_super body h (bytes_eq (kind body) two_field_kind) refl)
two_is body Standard h = sym (ap (λ (x : List ℕ). bytes_eq x two_field_kind) (same_true (kind body) one_field_kind h))
two_is body TwoFields h = sym h

pub head_is : (body : List ℕ) (k : IndexKind) (h : IndexHead) → OfKind body k → IsFront body k h → IsHead body h
head_is body k h of is = record {
  longs_are = ap (λ (n : ℕ). 4 * n) is.longs_are ∙ sym (width_is body k of);
  two = is.two ∙ two_is body k of;
  is_standard = is.is_standard ∙ type_is body k of;
  used_are = is.used_are;
  id = is.id;
  base = is.base;
}

wanted_front : (only : Bool) (body : List ℕ) → kind_wanted only (take 24 body) ≡ kind_wanted only body
wanted_front true body = ap (λ (x : List ℕ). bytes_eq x one_field_kind || bytes_eq x two_field_kind) (kind_front body)
wanted_front false body = index_front body

pub not_wanted : (only : Bool) (first body : List ℕ) → first ≡ take 24 body → kind_wanted only first ≡ false → kind_wanted only body ≡ false
not_wanted only first body same e = sym (ap (kind_wanted only) same ∙ wanted_front only body) ∙ e

pub is_wanted : (only : Bool) (first body : List ℕ) → first ≡ take 24 body → kind_wanted only first ≡ true → kind_wanted only body ≡ true
is_wanted only first body same e = sym (ap (kind_wanted only) same ∙ wanted_front only body) ∙ e

-- ---- the tests

abbrev by3 : Bool → Bool → Bool → Option HeadFault
by3 header known there = first ((not header, Short) ∷ ((not known, Wrong) ∷ ((not there, Short) ∷ [])))

pub no_header : (body : List ℕ) → has_header body ≡ false → first (head_tests is_index_kind body) ≡ Some Short
no_header body e = ap (λ (x : Bool). by3 x (is_index_kind body) (has_entries body)) e

pub no_kind : (of_kind : List ℕ → Bool) (body : List ℕ) → has_header body ≡ true → of_kind body ≡ false → first (head_tests of_kind body) ≡ Some Wrong
no_kind of_kind body e k = ap (λ (x : Bool). by3 x (of_kind body) (has_entries body)) e ∙ ap (λ (x : Bool). by3 true x (has_entries body)) k

pub no_entries : (of_kind : List ℕ → Bool) (body : List ℕ) → has_header body ≡ true → of_kind body ≡ true → has_entries body ≡ false → first (head_tests of_kind body) ≡ Some Short
no_entries of_kind body e k n = ap (λ (x : Bool). by3 x (of_kind body) (has_entries body)) e ∙ ap (λ (x : Bool). by3 true x (has_entries body)) k ∙ ap (by3 true true) n

pub all_there : (of_kind : List ℕ → Bool) (body : List ℕ) → has_header body ≡ true → of_kind body ≡ true → has_entries body ≡ true → first (head_tests of_kind body) ≡ None
all_there of_kind body e k n = ap (λ (x : Bool). by3 x (of_kind body) (has_entries body)) e ∙ ap (λ (x : Bool). by3 true x (has_entries body)) k ∙ ap (by3 true true) n

pub entries_false : (body : List ℕ) (h : IndexHead) (l u : ℕ) → IsHead body h → l ≡ h.longs → u ≡ h.used → 24 ≤ length body → length body - 24 < 4 * l * u → has_entries body ≡ false
entries_false body h l u is longs_too used_too low lt =
    let same : 4 * l * u ≡ width body * used body = ap (λ (x : ℕ). 4 * x * u) longs_too ∙ ap (λ (x : ℕ). 4 * h.longs * x) (used_too ∙ is.used_are) ∙ ap (λ (x : ℕ). x * used body) is.longs_are in
    lt-leb (24 + width body * used body) (length body) (omega (arith, same))

pub entries_true : (body : List ℕ) (h : IndexHead) (l u : ℕ) → IsHead body h → l ≡ h.longs → u ≡ h.used → 24 ≤ length body → 4 * l * u ≤ length body - 24 → has_entries body ≡ true
entries_true body h l u is longs_too used_too low le =
    let same : 4 * l * u ≡ width body * used body = ap (λ (x : ℕ). 4 * x * u) longs_too ∙ ap (λ (x : ℕ). 4 * h.longs * x) (used_too ∙ is.used_are) ∙ ap (λ (x : ℕ). x * used body) is.longs_are in
    le-leb (24 + width body * used body) (length body) (omega (arith, same))

pub header_true : (body : List ℕ) → 24 ≤ length body → has_header body ≡ true
header_true body low = le-leb 24 (length body) low
