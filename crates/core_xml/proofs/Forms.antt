-- The lines that are written are read as what they say.
use Rattle.std.proofs.Common.{◌≡◌, ℕ, ◌+◌, ◌-◌, List, [], ◌∷◌, ◌++◌, length, take, drop, Bool, true, false, ◌==◌, ◌&&◌, not, Option, Some, None, refl, sym, ap, ◌∙◌, arith, append_assoc, length-append, cond, if◌then◌else◌, nat_lt}
use Rattle.std.specs.Prelude.{codes}
use Rattle.std.specs.List.{list_all, position_or_len}
use Rattle.std.specs.Str.{IsUtf8, bytes_eq, chars, is_utf8}
use Rattle.std.proofs.Math.Seq.{take-append_seam, drop-append_seam}
use Rattle.std.proofs.lemmas.Bool.{and_parts, le-ltb}
use Rattle.std.proofs.lemmas.List.Folds.{list_all-append}
use Rattle.std.proofs.lemmas.Str.{IsUtf8-append, IsUtf8-from_is_utf8, is_utf8-from_IsUtf8}
use lib.Utf8.{encode}
use Rattle.part_tree.specs.declared.field.Change.TheVariants.{Set}
use Rattle.part_tree.proofs.Places.{bytes_refl}
use Rattle.core_xml.specs.Lines as lines
use Rattle.core_xml.specs.Lines.{before, before_of, behind, between, is_quote, set_in, set_line, set_to, text_in}
use Rattle.core_xml.specs.Markup.{text_of, written}
use Rattle.core_xml.specs.Written as spec
use Rattle.core_xml.specs.Written.{AreBytes}
use Rattle.core_xml.specs.declared.line.FieldLine.{FieldLine}
use Rattle.core_xml.proofs.Split.{IsLine, is_rest}
use Rattle.core_xml.proofs.Undone.{is_inner, text_back, written_inner, written_utf8}

-- ---- what stands round a text

behind_is : (front rest : List ℕ) → behind front (front ++ rest) ≡ Some rest
behind_is front rest =
    ap (λ (t : List ℕ). if bytes_eq t front then Some (drop (length front) (front ++ rest)) else None) (take-append_seam front rest)
    ∙ ap (λ (t : Bool). if t then Some (drop (length front) (front ++ rest)) else None) (bytes_refl front)
    ∙ ap Some (drop-append_seam front rest)

before_is : (inner back : List ℕ) → before back (inner ++ back) ≡ Some inner
before_is inner back =
    let end : length (inner ++ back) - length back ≡ length inner = omega (arith, length-append inner back) in
    let long : nat_lt (length (inner ++ back)) (length back) ≡ false = le-ltb (length (inner ++ back)) (length back) (omega (arith, length-append inner back)) in
    ap (λ (t : Bool). if t then None else (if bytes_eq (drop (length (inner ++ back) - length back) (inner ++ back)) back then Some (take (length (inner ++ back) - length back) (inner ++ back)) else None)) long
    ∙ ap (λ (n : ℕ). if bytes_eq (drop n (inner ++ back)) back then Some (take n (inner ++ back)) else None) end
    ∙ ap (λ (t : List ℕ). if bytes_eq t back then Some (take (length inner) (inner ++ back)) else None) (drop-append_seam inner back)
    ∙ ap (λ (t : Bool). if t then Some (take (length inner) (inner ++ back)) else None) (bytes_refl back)
    ∙ ap Some (take-append_seam inner back)

between_is : (front inner back : List ℕ) → between front back (front ++ (inner ++ back)) ≡ Some inner
between_is front inner back = ap (before_of back) (behind_is front (inner ++ back)) ∙ before_is inner back

-- ---- a block's first line

file_parts : (file : List ℕ) → spec.file_line file ≡ codes "<File name=\"" ++ (written file ++ codes "\">\n")
file_parts file = append_assoc (codes "<File name=\"") (written file) (codes "\">\n")

pub file_read : (file : List ℕ) → AreBytes file → lines.file_line (spec.file_line file) ≡ Some file
file_read file small =
    ap lines.file_line (file_parts file) ∙ ap text_in (between_is (codes "<File name=\"") (written file) (codes "\">\n")) ∙ text_back file small

-- ---- a field

inner_of : List ℕ → List ℕ → List ℕ
inner_of name text = written name ++ (codes "\">" ++ written text)

regroup : (a b c d e : List ℕ) → (((a ++ b) ++ c) ++ d) ++ e ≡ a ++ ((b ++ (c ++ d)) ++ e)
regroup a b c d e = simp append_assoc

field_parts : (name text : List ℕ) → spec.field_line name text ≡ codes "<Field name=\"" ++ (inner_of name text ++ codes "</Field>\n")
unfolding inner_of
field_parts name text = regroup (codes "<Field name=\"") (written name) (codes "\">") (written text) (codes "</Field>\n")

no_quote : (x : ℕ) → is_inner x ≡ true → not (is_quote x) ≡ true
no_quote x h = (and_parts (not (x == 10)) (not (is_quote x)) h).1

-- the first quotation mark is behind a text without one
quote_is : (text rest : List ℕ) → list_all is_inner text ≡ true → position_or_len is_quote (text ++ 34 ∷ rest) ≡ length text
quote_is [] rest h = refl
quote_is (x ∷ text) rest h =
    let parts = and_parts (is_inner x) (list_all is_inner text) h in
    ap (λ (t : Bool). cond t (1 + position_or_len is_quote (text ++ 34 ∷ rest)) 0) (no_quote x parts.0) ∙ omega (arith, quote_is text rest parts.1)

abbrev item : List ℕ → List ℕ → FieldLine
item name text = record { name = name; change = Set text }

set_read : (name text : List ℕ) → AreBytes name → AreBytes text → (length text == 0) ≡ false → set_line (inner_of name text) ≡ Some (item name text)
unfolding inner_of
set_read name text small bytes full =
    let inner = inner_of name text in
    let end : position_or_len is_quote inner ≡ length (written name) = quote_is (written name) (62 ∷ written text) (written_inner name small) in
    ap (λ (n : ℕ). set_to (text_of (take n inner)) (text_in (behind (codes "\">") (drop n inner)))) end
    ∙ ap (λ (t : List ℕ). set_to (text_of t) (text_in (behind (codes "\">") (drop (length (written name)) inner)))) (take-append_seam (written name) (codes "\">" ++ written text))
    ∙ ap (λ (t : List ℕ). set_to (text_of (written name)) (text_in (behind (codes "\">") t))) (drop-append_seam (written name) (codes "\">" ++ written text))
    ∙ ap (λ (o : Option (List ℕ)). set_to (text_of (written name)) (text_in o)) (behind_is (codes "\">") (written text))
    ∙ ap (λ (o : Option (List ℕ)). set_to o (text_of (written text))) (text_back name small)
    ∙ ap (set_to (Some name)) (text_back text bytes)
    ∙ ap (λ (t : Bool). if t then None else Some (item name text)) full

pub field_read : (name text : List ℕ) → AreBytes name → AreBytes text → (length text == 0) ≡ false → lines.field_line (spec.field_line name text) ≡ Some (item name text)
field_read name text small bytes full =
    let line = spec.field_line name text in
    ap (λ (o : Option (List ℕ)). set_in o (between (codes "<Remove name=\"") (codes "\"/>\n") line))
    (ap (between (codes "<Field name=\"") (codes "</Field>\n")) (field_parts name text) ∙ between_is (codes "<Field name=\"") (inner_of name text) (codes "</Field>\n"))
    ∙ set_read name text small bytes full

-- ---- they are lines, and UTF-8

rest_of_inner : (bs : List ℕ) → list_all is_inner bs ≡ true → list_all is_rest bs ≡ true
rest_of_inner [] h = refl
rest_of_inner (x ∷ bs) h =
    let parts = and_parts (is_inner x) (list_all is_inner bs) h in
    ap (λ (t : Bool). t && list_all is_rest bs) (and_parts (is_rest x) (not (is_quote x)) parts.0).0 ∙ rest_of_inner bs parts.1

free-append : (a b : List ℕ) → list_all is_rest a ≡ true → list_all is_rest b ≡ true → list_all is_rest (a ++ b) ≡ true
free-append a b h k = list_all-append is_rest a b ∙ ap (λ (t : Bool). t && list_all is_rest b) h ∙ k

pub file_is_line : (file : List ℕ) → AreBytes file → IsLine (spec.file_line file)
file_is_line file small = record {
  front = (codes "<File name=\"" ++ written file) ++ codes "\">";
  free = free-append (codes "<File name=\"" ++ written file) (codes "\">") (free-append (codes "<File name=\"") (written file) refl (rest_of_inner (written file) (written_inner file small))) refl;
  is = sym (append_assoc (codes "<File name=\"" ++ written file) (codes "\">") (10 ∷ []));
}

pub field_is_line : (name text : List ℕ) → AreBytes name → AreBytes text → IsLine (spec.field_line name text)
field_is_line name text small bytes =
    let a = codes "<Field name=\"" ++ written name in
    let b = a ++ codes "\">" in
    let c = b ++ written text in
    record {
      front = c ++ codes "</Field>";
      free = free-append c (codes "</Field>") (free-append b (written text) (free-append a (codes "\">") (free-append (codes "<Field name=\"") (written name) refl (rest_of_inner (written name) (written_inner name small))) refl) (rest_of_inner (written text) (written_inner text bytes))) refl;
      is = sym (append_assoc c (codes "</Field>") (10 ∷ []));
    }

file_begin : is_utf8 (codes "<File name=\"") ≡ true
unfolding is_utf8 chars encode
file_begin = refl

file_end : is_utf8 (codes "\">\n") ≡ true
unfolding is_utf8 chars encode
file_end = refl

field_begin : is_utf8 (codes "<Field name=\"") ≡ true
unfolding is_utf8 chars encode
field_begin = refl

field_middle : is_utf8 (codes "\">") ≡ true
unfolding is_utf8 chars encode
field_middle = refl

field_end : is_utf8 (codes "</Field>\n") ≡ true
unfolding is_utf8 chars encode
field_end = refl

pub file_utf8 : (file : List ℕ) → AreBytes file → is_utf8 (spec.file_line file) ≡ true
file_utf8 file small =
    is_utf8-from_IsUtf8 (spec.file_line file) (IsUtf8-append (codes "<File name=\"" ++ written file) (codes "\">\n") (IsUtf8-append (codes "<File name=\"") (written file) begin (written_utf8 file small)) end)
  where
    begin : IsUtf8 (codes "<File name=\"")
    begin = IsUtf8-from_is_utf8 (codes "<File name=\"") file_begin

    end : IsUtf8 (codes "\">\n")
    end = IsUtf8-from_is_utf8 (codes "\">\n") file_end

pub field_utf8 : (name text : List ℕ) → AreBytes name → AreBytes text → is_utf8 (spec.field_line name text) ≡ true
field_utf8 name text small bytes =
    let a = codes "<Field name=\"" ++ written name in
    let b = a ++ codes "\">" in
    let c = b ++ written text in
    is_utf8-from_IsUtf8 (spec.field_line name text)
    (IsUtf8-append c (codes "</Field>\n")
    (IsUtf8-append b (written text) (IsUtf8-append a (codes "\">") (IsUtf8-append (codes "<Field name=\"") (written name) (IsUtf8-from_is_utf8 _ field_begin) (written_utf8 name small)) (IsUtf8-from_is_utf8 _ field_middle)) (written_utf8 text bytes))
    (IsUtf8-from_is_utf8 _ field_end))
