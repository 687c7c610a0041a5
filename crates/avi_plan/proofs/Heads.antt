-- Heads of index chunks, and their first entries that are counted.
use Rattle.std.proofs.Common.{◌≡◌, ◌∙◌, ℕ, suc, ◌+◌, ◌-◌, ◌*◌, ◌%◌, ◌^◌, ◌≤◌, ◌<◌, Bool, true, false, cond, eqb, List, [], ◌∷◌, length, take, drop, Option, Some, None, refl, sym, ap, arith}
use Rattle.std.specs.Prelude.{not}
use Rattle.std.specs.Int.{w16, from_le_bytes}
use Rattle.std.specs.Str.{bytes_eq}
use Rattle.std.proofs.lemmas.List.{drop-drop, take-take}
use Rattle.part_tree.specs.Letters.{four}
use Rattle.part_tree.specs.declared.names.FourCc.{FourCc}
use Rattle.part_tree.specs.declared.table.IndexHead.{IndexHead}
use Rattle.container_model.specs.Tests.{first, or_else}
use Rattle.container_model.specs.Written.{rows, slice}
use Rattle.container_model.proofs.Written.{slice_slice}
use Rattle.opendml_index.specs.Entries.{width_by}
use Rattle.opendml_index.specs.Heads.{IsHead, head_tests, two_field_kind}
use Rattle.opendml_index.specs.Index.{entry_length, entry_offset, first_counted, is_super, used}
use Rattle.opendml_index.specs.Kinds.{SoundIndex, is_index_kind, kind}
use Rattle.opendml_index.specs.declared.head.HeadFault.{HeadFault}
use Rattle.avi_plan.specs.Heads.{head_in}

-- ---- heads

abbrev made : ℕ → Bool → Bool → ℕ → FourCc → ℕ → IndexHead
made l t s u i b = record { longs = l; two_fields = t; standard = s; used = u; id = i; base = b }

-- what a head tells is all of it
pub head_is : (body : List ℕ) (h : IndexHead) → IsHead body h → h ≡ head_in body
head_is body h is =
    let l = from_le_bytes w16 (slice body 0 2) in
    let t = bytes_eq (kind body) two_field_kind in
    let s = not (is_super body) in
    let longs : h.longs ≡ l = omega (arith, is.longs_are) in
    ap (λ (x : ℕ). made x h.two_fields h.standard h.used h.id h.base) longs
    ∙ ap (λ (x : Bool). made l x h.standard h.used h.id h.base) is.two
    ∙ ap (λ (x : Bool). made l t x h.used h.id h.base) is.is_standard
    ∙ ap (λ (x : ℕ). made l t s x h.id h.base) is.used_are
    ∙ ap (λ (x : List ℕ). made l t s (used body) (four x) h.base) is.id
    ∙ ap (λ (x : ℕ). made l t s (used body) (four (slice body 8 4)) x) is.base

-- a whole index chunk meets no test
pub none_fails : (body : List ℕ) → SoundIndex is_index_kind body → (fault : HeadFault) → first (head_tests is_index_kind body) ≡ Some fault → {A : Type 0} → A
none_fails body s fault e =
    let none : first (head_tests is_index_kind body) ≡ None = rw (s.header_is_there, s.kind_is, s.entries_are_there) refl in
    let no : None ≡ Some fault = sym none ∙ e in
    absurd cc

-- ---- the first entry that is counted

-- by the first entry, and those behind it
pub first_by : (r : List ℕ) (rs : List (List ℕ)) → first_counted (r ∷ rs) ≡ or_else (first_counted (r ∷ [])) (first_counted rs)
first_by r rs = go (eqb (entry_length r) 0)
  where
    go : (t : Bool) → cond t (first_counted rs) (Some (entry_offset r)) ≡ or_else (cond t (first_counted []) (Some (entry_offset r))) (first_counted rs)
    go true = refl
    go false = refl

-- by the first eight bytes of an entry
pub first_eight : (r : List ℕ) → 8 ≤ length r → first_counted (take 8 r ∷ []) ≡ first_counted (r ∷ [])
first_eight r long =
    let len : slice (take 8 r) 4 4 ≡ slice r 4 4 = slice_slice r 0 8 4 4 (omega arith) in
    let off : slice (take 8 r) 0 4 ≡ slice r 0 4 = slice_slice r 0 8 0 4 (omega arith) in
    ap (λ (x : List ℕ). cond (eqb (from_le_bytes Rattle.std.specs.Int.w32 x % 2 ^ 31) 0) (first_counted []) (Some (entry_offset (take 8 r)))) len
    ∙ ap (λ (x : List ℕ). cond (eqb (entry_length r) 0) (first_counted []) (Some (from_le_bytes Rattle.std.specs.Int.w32 x))) off

-- the entries that are left behind one
pub first_left : (w n k from : ℕ) (b : List ℕ) → k < n
    → first_counted (rows w (n - k) (drop (from + w * k) b)) ≡ or_else (first_counted (take w (drop (from + w * k) b) ∷ [])) (first_counted (rows w (n - (k + 1)) (drop (from + w * (k + 1)) b)))
first_left w n k from b lt =
    let more : n - k ≡ suc (n - (k + 1)) = omega (arith, lt) in
    let x = drop (from + w * k) b in
    let far : drop w x ≡ drop (from + w * (k + 1)) b = drop-drop w (from + w * k) b ∙ ap (λ (j : ℕ). drop j b) (omega arith) in
    ap (λ (j : ℕ). first_counted (rows w j x)) more ∙ first_by (take w x) (rows w (n - (k + 1)) (drop w x))
    ∙ ap (λ (y : List ℕ). or_else (first_counted (take w x ∷ [])) (first_counted (rows w (n - (k + 1)) y))) far

pub first_start : (w n from : ℕ) (b : List ℕ) → first_counted (rows w (n - 0) (drop (from + w * 0) b)) ≡ first_counted (rows w n (drop from b))
first_start w n from b =
    let all : n - 0 ≡ n = omega arith in
    let here : from + w * 0 ≡ from = omega arith in
    ap (λ (j : ℕ). first_counted (rows w j (drop (from + w * 0) b))) all ∙ ap (λ (j : ℕ). first_counted (rows w n (drop j b))) here

pub first_end : (w n k from : ℕ) (b : List ℕ) → n ≤ k → first_counted (rows w (n - k) (drop (from + w * k) b)) ≡ None
first_end w n k from b le = let none : n - k ≡ 0 = omega (arith, le) in ap (λ (j : ℕ). first_counted (rows w j (drop (from + w * k) b))) none

-- as the first eight bytes of an entry tell it
pub eight : (two : Bool) → 8 ≤ width_by two
eight true = omega arith
eight false = omega arith

pub first_found : (w n k from o : ℕ) (b row : List ℕ) → k < n → 8 ≤ w → row ≡ slice b (from + w * k) 8 → ((r : List ℕ) → row ≡ slice r 0 8 → Some o ≡ first_counted (r ∷ []))
    → Some o ≡ first_counted (rows w (n - k) (drop (from + w * k) b))
first_found w n k from o b row lt wide e h =
    let r = take w (drop (from + w * k) b) in
    let front : row ≡ slice r 0 8 = e ∙ sym (take-take 8 w (drop (from + w * k) b) wide) in
    let rest = first_counted (rows w (n - (k + 1)) (drop (from + w * (k + 1)) b)) in
    ap (λ (x : Option ℕ). or_else x rest) (h r front) ∙ sym (first_left w n k from b lt)

pub first_none : (w n k from : ℕ) (b row : List ℕ) → k < n → 8 ≤ w → row ≡ slice b (from + w * k) 8 → ((r : List ℕ) → row ≡ slice r 0 8 → None ≡ first_counted (r ∷ []))
    → first_counted (rows w (n - (k + 1)) (drop (from + w * (k + 1)) b)) ≡ first_counted (rows w (n - k) (drop (from + w * k) b))
first_none w n k from b row lt wide e h =
    let r = take w (drop (from + w * k) b) in
    let front : row ≡ slice r 0 8 = e ∙ sym (take-take 8 w (drop (from + w * k) b) wide) in
    let rest = first_counted (rows w (n - (k + 1)) (drop (from + w * (k + 1)) b)) in
    ap (λ (x : Option ℕ). or_else x rest) (h r front) ∙ sym (first_left w n k from b lt)
