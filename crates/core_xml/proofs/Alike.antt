-- Readings that differ at most in the order of the names that a block has used come to the same.
use Rattle.std.proofs.Common.{◌≡◌, ℕ, suc, ◌+◌, List, [], ◌∷◌, ◌++◌, Bool, true, false, ◌||◌, Option, Some, None, Result, Ok, Err, refl, sym, ap, ◌∙◌, inl, inr, add-one}
use Rattle.std.specs.Prelude.{is_none, if◌then◌else◌}
use Rattle.std.specs.Str.{bytes_eq, is_utf8}
use Rattle.part_tree.specs.declared.field.EditItem.{EditItem}
use Rattle.field_model.specs.Texts.{field_name}
use Rattle.core_table.specs.Answers.{Answers, and_then}
use Rattle.core_table.specs.Sets.{has}
use Rattle.core_table.specs.declared.fault.TableFault.{TableFault}
use Rattle.core_table.specs.declared.fault.TableFault.TheVariants.{Line}
use Rattle.core_xml.specs.Lines.{block_end, declaration, field_line, file_line, table_begin, table_end}
use Rattle.core_xml.specs.Table as spec
use Rattle.core_xml.specs.Table.{IsLike, LeadsTo, after_begin, after_field, after_form, after_line, at_end, begin_own, begin_other, item, kept, moved, read_lines}
use Rattle.core_xml.specs.declared.line.FieldLine.{FieldLine}
use Rattle.core_xml.specs.declared.place.Place.{Place}
use Rattle.core_xml.specs.declared.place.Place.TheVariants as at
use Rattle.core_xml.specs.declared.reading.Reading.{Reading}
use Rattle.core_table.proofs.Fresh.{has-append}

-- these names for those
abbrev with : Reading → List (List ℕ) → Reading
with r seen = record r { seen = seen }

-- the same fault, or readings that are alike
abbrev Same : Result Reading TableFault → Result Reading TableFault → Type 0
Same (Ok a) (Ok b) = IsLike a b
Same (Ok a) (Err f) = ⊥
Same (Err f) (Ok b) = ⊥
Same (Err f) (Err g) = f ≡ g

module _ (r : Reading) (seen : List (List ℕ)) (alike : (name : List ℕ) → has r.seen name ≡ has seen name) where
  moved_same : (place : Place) → IsLike (moved r place) (moved (with r seen) place)
  moved_same place = record { fields = refl; names = alike }

  fixed_same : (n : ℕ) (t : Bool) (next : Place) → Same (if t then Ok (moved r next) else Err (Line n)) (if t then Ok (moved (with r seen) next) else Err (Line n))
  fixed_same n true next = moved_same next
  fixed_same n false next = refl

  own_same : (found : Option ℕ) → Same (begin_own r found) (begin_own (with r seen) found)
  own_same (Some first) = refl
  own_same None = record { fields = refl; names = λ t. refl }

  begin_same : (file : List ℕ) (n : ℕ) (name : Option (List ℕ)) → Same (after_begin r file n name) (after_begin (with r seen) file n name)
  begin_same file n None = refl
  begin_same file n (Some name) = go (bytes_eq name file)
    where
      go : (t : Bool) → Same (if t then begin_own r r.found else Ok (begin_other r)) (if t then begin_own (with r seen) r.found else Ok (begin_other (with r seen)))
      go true = own_same r.found
      go false = record { fields = refl; names = λ t. refl }

  take_same : (n : ℕ) (said : FieldLine) → Same (spec.take r n said) (spec.take (with r seen) n said)
  take_same n said = go (is_none (field_name said.name)) (has r.seen said.name) (has seen said.name) (alike said.name)
    where
      left : Result Reading TableFault
      left = Ok (record r { seen = r.seen ++ said.name ∷ []; items = kept r.own r.items (item (field_name said.name) said.change) })

      right : Result Reading TableFault
      right = Ok (record r { seen = seen ++ said.name ∷ []; items = kept r.own r.items (item (field_name said.name) said.change) })

      go : (s t u : Bool) → t ≡ u → Same (if s || t then Err (Line n) else left) (if s || u then Err (Line n) else right)
      go true t u e = refl
      go false true true e = refl
      go false false false e =
          record { fields = refl; names = λ name. has-append r.seen said.name name ∙ ap (λ (v : Bool). bytes_eq name said.name || v) (alike name) ∙ sym (has-append seen said.name name) }
      go false true false e = absurd cc
      go false false true e = absurd cc

  field_same : (n : ℕ) (said : Option FieldLine) → Same (after_field r n said) (after_field (with r seen) n said)
  field_same n None = refl
  field_same n (Some said) = take_same n said

  form_same : (file : List ℕ) (n : ℕ) (line : List ℕ) (place : Place) → Same (after_form r file n line place) (after_form (with r seen) file n line place)
  form_same file n line at.Declaration = fixed_same n (bytes_eq line declaration) at.Table
  form_same file n line at.Table = fixed_same n (bytes_eq line table_begin) at.Blocks
  form_same file n line at.Blocks = go (bytes_eq line table_end)
    where
      go : (t : Bool) → Same (if t then Ok (moved r at.End) else after_begin r file n (file_line line)) (if t then Ok (moved (with r seen) at.End) else after_begin (with r seen) file n (file_line line))
      go true = moved_same at.End
      go false = begin_same file n (file_line line)
  form_same file n line at.Fields = go (bytes_eq line block_end)
    where
      go : (t : Bool) → Same (if t then Ok (moved r at.Blocks) else after_field r n (field_line line)) (if t then Ok (moved (with r seen) at.Blocks) else after_field (with r seen) n (field_line line))
      go true = moved_same at.Blocks
      go false = field_same n (field_line line)
  form_same file n line at.End = refl

  line_same : (file : List ℕ) (n : ℕ) (line : List ℕ) → Same (after_line r file n line) (after_line (with r seen) file n line)
  line_same file n line = go (is_utf8 line)
    where
      go : (t : Bool) → Same (if t then after_form r file n line r.place else Err (Line n)) (if t then after_form (with r seen) file n line r.place else Err (Line n))
      go true = form_same file n line r.place
      go false = refl

-- the same lines come to the same
lines_same : (lines : List (List ℕ)) (r : Reading) (seen : List (List ℕ)) (file : List ℕ) (n : ℕ) → ((name : List ℕ) → has r.seen name ≡ has seen name)
    → read_lines r file n lines ≡ read_lines (with r seen) file n lines
lines_same [] r seen file n alike = refl
lines_same (line ∷ lines) r seen file n alike =
    go (after_line r file n line) (after_line (with r seen) file n line) (line_same r seen alike file n line) (λ a b names. lines_same lines a b file (suc n) names)
  where
    go : (a b : Result Reading TableFault) → Same a b
        → ((x : Reading) (other : List (List ℕ)) → ((name : List ℕ) → has x.seen name ≡ has other name) → read_lines x file (suc n) lines ≡ read_lines (with x other) file (suc n) lines)
        → and_then a (λ next. read_lines next file (suc n) lines) ≡ and_then b (λ next. read_lines next file (suc n) lines)
    go (Ok a) (Ok b) s more = more a b.seen s.names ∙ sym (ap (λ (x : Reading). read_lines x file (suc n) lines) s.fields)
    go (Ok a) (Err g) s more = absurd s
    go (Err f) (Ok b) s more = absurd s
    go (Err f) (Err g) s more = ap (λ (h : TableFault). Err h) s

like_lines : (lines : List (List ℕ)) (a b : Reading) (file : List ℕ) (n : ℕ) → IsLike a b → read_lines a file n lines ≡ read_lines b file n lines
like_lines lines a b file n like = lines_same lines a b.seen file n like.names ∙ sym (ap (λ (x : Reading). read_lines x file n lines) like.fields)

-- a line further
pub lines_more : (lines : List (List ℕ)) (r new : Reading) (file line : List ℕ) (n : ℕ) (whole : Result (List EditItem) TableFault) → LeadsTo (after_line r file n line) (Ok new)
    → read_lines r file n (line ∷ lines) ≡ whole → read_lines new file (n + 1) lines ≡ whole
lines_more lines r new file line n whole leads so_far = go (after_line r file n line) leads so_far
  where
    go : (a : Result Reading TableFault) → LeadsTo a (Ok new) → and_then a (λ next. read_lines next file (suc n) lines) ≡ whole → read_lines new file (n + 1) lines ≡ whole
    go (Ok a) like is = ap (λ (m : ℕ). read_lines new file m lines) (add-one n) ∙ sym (like_lines lines a new file (suc n) like) ∙ is
    go (Err f) none is = absurd none

-- a line that stops the table
pub lines_stop : (lines : List (List ℕ)) (r : Reading) (file line : List ℕ) (n : ℕ) (f : TableFault) (whole : Result (List EditItem) TableFault) → LeadsTo (after_line r file n line) (Err f)
    → read_lines r file n (line ∷ lines) ≡ whole → Answers whole (Err f)
lines_stop lines r file line n f whole leads so_far = go (after_line r file n line) leads so_far
  where
    go : (a : Result Reading TableFault) → LeadsTo a (Err f) → and_then a (λ next. read_lines next file (suc n) lines) ≡ whole → Answers whole (Err f)
    go (Ok a) memory is = inr (ap (λ (g : TableFault). Err g) memory)
    go (Err e) (inl same) is = inl (ap (λ (g : TableFault). Err g) same ∙ is)
    go (Err e) (inr memory) is = inr (ap (λ (g : TableFault). Err g) memory)
