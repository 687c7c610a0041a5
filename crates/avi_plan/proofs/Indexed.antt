-- The head and the entries of an index chunk that stands in a file.
use Rattle.std.proofs.Common.{◌≡◌, ◌∙◌, ℕ, ◌+◌, ◌-◌, ◌*◌, ◌≤◌, Bool, true, false, List, [], ◌∷◌, length, take, drop, Option, Some, None, refl, sym, ap, subst, arith}
use Rattle.std.specs.Prelude.{◌||◌, not}
use Rattle.std.specs.Str.{bytes_eq}
use Rattle.std.proofs.lemmas.Bool.{leb-true}
use Rattle.std.proofs.lemmas.List.{drop-drop, drop-take}
use Rattle.part_tree.specs.Moves.{Move}
use Rattle.part_tree.specs.declared.names.Span.{Span}
use Rattle.part_tree.specs.declared.table.IndexHead.{IndexHead}
use Rattle.part_tree.specs.declared.table.TableForm.TheVariants as form
use Rattle.container_model.specs.Tables.{Table}
use Rattle.container_model.specs.Written.{rows, slice}
use Rattle.opendml_index.specs.Entries.{width_by}
use Rattle.opendml_index.specs.Heads.{one_field_kind, two_field_kind}
use Rattle.opendml_index.specs.Index.{entries, first_counted, is_super, used, width}
use Rattle.opendml_index.specs.Kinds.{SoundIndex, is_index_kind, is_standard_kind, kind}
use Rattle.opendml_index.specs.declared.head.IndexKind.TheVariants as known
use Rattle.opendml_index.proofs.Front.{width_is}
use Rattle.opendml_index.proofs.Known.{standard_index}
use Rattle.opendml_index.proofs.Rows.{rows_take}
use Rattle.avi_model.specs.Index.{table_span}
use Rattle.avi_plan.specs.Heads.{first_in, head_in}
use Rattle.avi_plan.specs.Tables.{IsTabled, index, index_changes, standard_changes}
use Rattle.avi_plan.specs.declared.table.Change.TheVariants as change

-- ---- truth

pub not_true : (a s : Bool) → a ≡ not s → a ≡ true → s ≡ false
not_true a true e t = absurd (no (sym t ∙ e))
  where
    no : true ≡ false → ⊥
    no h = absurd cc
not_true a false e t = refl

pub not_false : (a s : Bool) → a ≡ not s → a ≡ false → s ≡ true
not_false a true e t = refl
not_false a false e t = absurd (no (sym e ∙ t))
  where
    no : true ≡ false → ⊥
    no h = absurd cc

-- ---- heads

abbrev or_self : IndexHead → Option IndexHead → IndexHead
or_self h None = h
or_self h (Some k) = k

same_head : (h k : IndexHead) → Some h ≡ Some k → h ≡ k
same_head h k e = ap (or_self h) e

pub told_head : (b : List ℕ) (t : Table) (s : Span) (found : Option IndexHead) (h : IndexHead) → IsTabled b (index t) → s ≡ table_span t
    → (SoundIndex is_index_kind (slice b s.at s.len) → found ≡ Some (head_in (slice b s.at s.len))) → found ≡ Some h → h ≡ head_in t.body
told_head b t s found h tabled e told is =
    let body : slice b s.at s.len ≡ t.body = ap (λ (x : Span). slice b x.at x.len) e ∙ tabled.0 in
    same_head h (head_in t.body) (sym is ∙ told (subst (SoundIndex is_index_kind) (sym body) tabled.1) ∙ ap (λ (x : List ℕ). Some (head_in x)) body)

-- ---- entries

pub or_false : (a : Bool) → (a || false) ≡ true → a ≡ true
or_false true h = refl
or_false false h = h

wide_two : (body : List ℕ) → is_standard_kind body ≡ true → width body ≡ width_by (bytes_eq (kind body) two_field_kind)
wide_two body s = go (bytes_eq (kind body) two_field_kind) refl s
  where
    go : (t : Bool) → bytes_eq (kind body) two_field_kind ≡ t → (bytes_eq (kind body) one_field_kind || t) ≡ true → width body ≡ width_by t
    go true e s = width_is body known.TwoFields e
    go false e s = width_is body known.Standard (or_false (bytes_eq (kind body) one_field_kind) s)

pub rows_stand : (b : List ℕ) (at w n : ℕ) (body : List ℕ) → slice b at (length body) ≡ body → 24 + w * n ≤ length body → rows w n (drop (at + 24) b) ≡ rows w n (drop 24 body)
rows_stand b at w n body stands room =
    let len = length body in
    let x = drop at b in
    let all : 24 + (len - 24) ≡ len = omega (arith, room) in
    let far : drop 24 x ≡ drop (at + 24) b = drop-drop 24 at b ∙ ap (λ (k : ℕ). drop k b) (omega arith) in
    ap (rows w n) (sym far) ∙ sym (rows_take w n (len - 24) (drop 24 x) (omega (arith, room)))
    ∙ ap (rows w n) (sym (drop-take 24 (len - 24) x) ∙ ap (λ (k : ℕ). drop 24 (take k x)) all ∙ ap (drop 24) stands)

-- ---- what becomes of them

first_is : (b : List ℕ) (t : Table) → IsTabled b (index t) → is_super t.body ≡ false → first_in (head_in t.body) (drop (t.at + 24) b) ≡ first_counted (entries t.body)
first_is b t tabled super =
    let body = t.body in
    let wide = wide_two body (standard_index body tabled.1.kind_is super) in
    ap (λ (w : ℕ). first_counted (rows w (used body) (drop (t.at + 24) b))) (sym wide)
    ∙ ap first_counted (rows_stand b t.at (width body) (used body) body tabled.0 (leb-true (24 + width body * used body) (length body) tabled.1.entries_are_there))

pub standard_is : (ms : List Move) (b : List ℕ) (t : Table) (s : Span) (h : IndexHead) → IsTabled b (index t) → s ≡ table_span t → h ≡ head_in t.body → is_super t.body ≡ false
    → standard_changes ms h s.at (first_in h (drop (s.at + 24) b)) ≡ index_changes ms t (is_super t.body)
standard_is ms b t s h tabled e head super =
    ap (λ (x : Span). standard_changes ms h x.at (first_in h (drop (x.at + 24) b))) e
    ∙ ap (λ (x : IndexHead). standard_changes ms x t.at (first_in x (drop (t.at + 24) b))) head
    ∙ ap (standard_changes ms (head_in t.body) t.at) (first_is b t tabled super)
    ∙ ap (index_changes ms t) (sym super)

pub super_is : (ms : List Move) (t : Table) (s : Span) (h : IndexHead) (n : ℕ) → s ≡ table_span t → h ≡ head_in t.body → n ≡ h.used → is_super t.body ≡ true
    → change.Rows form.Super (s.at + 24) n ∷ [] ≡ index_changes ms t (is_super t.body)
super_is ms t s h n e head is super =
    ap (λ (x : Span). change.Rows form.Super (x.at + 24) n ∷ []) e
    ∙ ap (λ (k : ℕ). change.Rows form.Super (t.at + 24) k ∷ []) (is ∙ ap (λ (x : IndexHead). x.used) head)
    ∙ ap (index_changes ms t) (sym super)
