-- The chunks of the first form among the parts of a file.
use Rattle.std.proofs.Common.{◌≡◌, ◌∙◌, ◌≤◌, ◌<◌, ℕ, suc, ◌+◌, ◌-◌, Bool, true, false, List, [], ◌∷◌, ◌++◌, length, take, drop, map, refl, sym, ap, arith, subst, append_assoc}
use Rattle.std.specs.Prelude.{◌&&◌, ◌||◌, not, ◌==◌, nat_lt, codes, if◌then◌else◌}
use Rattle.std.specs.Str.{bytes_eq}
use Rattle.std.specs.List.{flat_map, AllByRecursion}
use Rattle.std.proofs.lemmas.Bool.{and_parts, eq-eqb, lt-ltb, le-ltb, ne_eqb}
use Rattle.std.specs.Int.{w32, to_le_bytes}
use Rattle.std.proofs.lemmas.List.{append-nil, length-append, length-drop, take_all}
use Rattle.part_tree.specs.Parts.{rest_part, rest_parts}
use Rattle.part_tree.specs.declared.part.Part.{Part}
use Rattle.part_tree.specs.declared.part.Role.{Role}
use Rattle.part_tree.specs.declared.part.Role.TheVariants as role
use Rattle.container_model.specs.Chunk.{Chunk, Form, chunks, header_bytes, read, spell, spell_all}
use Rattle.container_model.specs.Sizes.{plain, riff_front}
use Rattle.container_model.specs.Stood.{Stood, bare, stood, only, first_of}
use Rattle.container_model.specs.Written.{slice}
use Rattle.container_model.proofs.Copied.{spell_some}
use Rattle.container_model.proofs.Items.{same_true}
use Rattle.container_model.proofs.Plain.{ArePlain, IsPlain, plain_chunks}
use Rattle.carrier_model.specs.Info.{is_padding, is_type, list_run, own_size}
use Rattle.carrier_model.proofs.Info.{padding_no_list}
use Rattle.avi_model.specs.Avi.{avi_of, but_first, first_body, form_of, forms, has_id, hdrls, is_movi, kids, others_at, strls}
use Rattle.avi_model.specs.Map.{form_parts, further_parts, further_role, inside_parts, item_role, kid_parts, list_rest, part, parts_of, plain_parts, role_where, stream_parts, stream_role, top_parts, top_role}
use Rattle.avi_model.specs.Named.{is_hdrl, is_strl}
use Rattle.avi_model.specs.Support.{Supported, count_kids}
use Rattle.avi_model.proofs.Homes.{FirstIs, first_is, row_length}
use Rattle.wave_model.specs.Fields.{is_info}
use Rattle.edit_planner.specs.Stand.{parts_from}
use Rattle.edit_planner.specs.Tops.{avi_role, begins, is_listed, is_rest, others, plain_part, plain_role, stands_apart, tops}

and_no : (a : Bool) → (a && false) ≡ false
and_no true = refl
and_no false = refl

and_yes : (a : Bool) → (a && true) ≡ a
and_yes true = refl
and_yes false = refl

all_both : {X : Type 0} (P : X → Type 0) (a b : List X) → AllByRecursion P a → AllByRecursion P b → AllByRecursion P (a ++ b)
all_both P [] b h g = g
all_both P (x ∷ a) b h g = (h.0, all_both P a b h.1 g)

-- ---- parts that are no chunks of the row

abbrev Past : ℕ → Part → Type 0
Past at p = begins at p ≡ false

tops_past : (at : ℕ) (ps qs : List Part) → AllByRecursion (Past at) ps → tops at (ps ++ qs) ≡ tops at qs
tops_past at [] qs h = refl
tops_past at (p ∷ ps) qs h = ap (λ (t : Bool). if t then plain_part p ∷ tops p.next (ps ++ qs) else tops at (ps ++ qs)) h.0 ∙ tops_past at ps qs h.1

-- how many chunks stand elsewhere among some parts
abbrev count_apart : Bool → ℕ → List Part → ℕ
count_apart listed at [] = 0
count_apart listed at (p ∷ ps) = if stands_apart listed at p then suc (count_apart listed at ps) else count_apart listed at ps

others_past : (l : Bool) (at : ℕ) (ps qs : List Part) → AllByRecursion (Past at) ps → others l at (ps ++ qs) ≡ count_apart l at ps + others l at qs
others_past l at [] qs h = omega arith
others_past l at (p ∷ ps) qs h =
    ap (λ (t : Bool). if t then others (is_listed p.role) p.next (ps ++ qs) else (if stands_apart l at p then suc (others l at (ps ++ qs)) else others l at (ps ++ qs))) h.0
    ∙ go (stands_apart l at p) (others_past l at ps qs h.1)
  where
    go : (t : Bool) → others l at (ps ++ qs) ≡ count_apart l at ps + others l at qs → (if t then suc (others l at (ps ++ qs)) else others l at (ps ++ qs)) ≡ (if t then suc (count_apart l at ps) else count_apart l at ps) + others l at qs
    go true e = omega (arith, e)
    go false e = e

apart_both : (l : Bool) (at : ℕ) (ps qs : List Part) → count_apart l at (ps ++ qs) ≡ count_apart l at ps + count_apart l at qs
apart_both l at [] qs = omega arith
apart_both l at (p ∷ ps) qs = go (stands_apart l at p) (apart_both l at ps qs)
  where
    go : (t : Bool) → count_apart l at (ps ++ qs) ≡ count_apart l at ps + count_apart l at qs → (if t then suc (count_apart l at (ps ++ qs)) else count_apart l at (ps ++ qs)) ≡ (if t then suc (count_apart l at ps) else count_apart l at ps) + count_apart l at qs
    go true e = omega (arith, e)
    go false e = e

below_past : (at : ℕ) (ps : List Part) → AllByRecursion (λ p. p.at < at) ps → AllByRecursion (Past at) ps
below_past at [] h = tt
below_past at (p ∷ ps) h = (ap (λ (t : Bool). t && not (is_rest p.role)) (ne_eqb p.at at (λ e. omega (arith, e, h.0))), below_past at ps h.1)

beyond_past : (at : ℕ) (ps : List Part) → AllByRecursion (λ p. at < p.at) ps → AllByRecursion (Past at) ps
beyond_past at [] h = tt
beyond_past at (p ∷ ps) h = (ap (λ (t : Bool). t && not (is_rest p.role)) (ne_eqb p.at at (λ e. omega (arith, e, h.0))), beyond_past at ps h.1)

rest_past : (at p : ℕ) (x : List ℕ) → AllByRecursion (Past at) (rest_parts p x)
rest_past at p [] = tt
rest_past at p (x ∷ b) = (and_no (p == at), tt)

rest_apart : (l : Bool) (at p : ℕ) (x : List ℕ) → count_apart l at (rest_parts p x) ≡ 0
rest_apart l at p [] = refl
rest_apart l at p (x ∷ b) = refl

-- ---- what stands in a chunk

-- as many bytes are read as there are
pub run_long : (x : List ℕ) → length (spell_all (chunks riff_front plain x).chunks) + length (chunks riff_front plain x).left ≡ length x
run_long x =
    let whole : slice x 0 (length x) ≡ x = take_all (length x) x (omega arith) in
    subst (λ (y : List ℕ). length (spell_all (chunks riff_front plain y).chunks) + length (chunks riff_front plain y).left ≡ length y) whole (row_length x 0 (length x))

-- a chunk's bytes
spell_head : (c : Chunk) → IsPlain c → 8 + length c.body ≤ length (spell c)
spell_head c h =
    let id : length (header_bytes c.form c.id (length c.body)) ≡ 8 = ap (λ (f : Form). length (header_bytes f c.id (length c.body))) h.form_is ∙ omega (arith, h.id_len, length-append c.id (to_le_bytes w32 (length c.body))) in
    omega (arith, id, length-append (header_bytes c.form c.id (length c.body)) (c.body ++ c.pad), length-append c.body c.pad)

-- what a list holds ends with it
kids_end : (at : ℕ) (c : Chunk) → IsPlain c → 0 < length (spell_all (list_run c).chunks) + length (list_run c).left → at + 12 + length (spell_all (list_run c).chunks) + length (list_run c).left ≤ at + length (spell c)
kids_end at c h some = omega (arith, some, run_long (drop 4 c.body), length-drop 4 c.body, spell_head c h)

plain_below : (role : Chunk → Role) (at end : ℕ) (cs : List Chunk) → at + length (spell_all cs) ≤ end → AllByRecursion (λ p. p.at < end) (plain_parts role at cs)
plain_below role at end [] le = tt
plain_below role at end (c ∷ cs) le =
    (omega (arith, le, spell_some c, length-append (spell c) (spell_all cs)), plain_below role (at + length (spell c)) end cs (omega (arith, le, length-append (spell c) (spell_all cs))))

list_below : (role : Chunk → Role) (at : ℕ) (c : Chunk) → IsPlain c → AllByRecursion (λ p. p.at < at + length (spell c)) (kid_parts role at c ++ list_rest at c)
list_below role at c h = all_both (λ p. p.at < at + length (spell c)) (kid_parts role at c) (list_rest at c) (kids (list_run c).chunks refl) (rest (list_run c).left refl)
  where
    kids : (ds : List Chunk) → (list_run c).chunks ≡ ds → AllByRecursion (λ p. p.at < at + length (spell c)) (plain_parts role (at + 12) ds)
    kids [] e = tt
    kids (d ∷ ds) e = plain_below role (at + 12) (at + length (spell c)) (d ∷ ds) (omega (arith, some, ap (λ (xs : List Chunk). length (spell_all xs)) e, kids_end at c h (omega (arith, some, ap (λ (xs : List Chunk). length (spell_all xs)) e))))
      where
        some : 0 < length (spell_all (d ∷ ds))
        some = omega (arith, spell_some d, length-append (spell d) (spell_all ds))

    rest : (x : List ℕ) → (list_run c).left ≡ x → AllByRecursion (λ p. p.at < at + length (spell c)) (rest_parts (at + 12 + length (spell_all (list_run c).chunks)) x)
    rest [] e = tt
    rest (y ∷ x) e = (omega (arith, ap (λ (z : List ℕ). length z) e, kids_end at c h (omega (arith, ap (λ (z : List ℕ). length z) e))), tt)

all_weaken : {X : Type 0} (P Q : X → Type 0) → ((x : X) → P x → Q x) → (xs : List X) → AllByRecursion P xs → AllByRecursion Q xs
all_weaken P Q f [] h = tt
all_weaken P Q f (x ∷ xs) h = (f x h.0, all_weaken P Q f xs h.1)

streams_below : (at end : ℕ) (cs : List Chunk) → ArePlain cs → at + length (spell_all cs) ≤ end → AllByRecursion (λ p. p.at < end) (stream_parts at cs)
streams_below at end [] h le = tt
streams_below at end (c ∷ cs) h le = (
  omega (arith, le, spell_some c, length-append (spell c) (spell_all cs)),
  all_both (λ p. p.at < end) (if is_type (codes "strl") c then kid_parts stream_role at c ++ list_rest at c else []) (stream_parts (at + length (spell c)) cs) (go (is_type (codes "strl") c))
      (streams_below (at + length (spell c)) end cs h.1 (omega (arith, le, length-append (spell c) (spell_all cs)))),
)
  where
    go : (t : Bool) → AllByRecursion (λ p. p.at < end) (if t then kid_parts stream_role at c ++ list_rest at c else [])
    go true = all_weaken (λ p. p.at < at + length (spell c)) (λ p. p.at < end) (λ p lt. omega (arith, lt, le, length-append (spell c) (spell_all cs))) (kid_parts stream_role at c ++ list_rest at c) (list_below stream_role at c h.0)
    go false = tt

inside_below : (s i : Bool) (at : ℕ) (c : Chunk) → IsPlain c → AllByRecursion (λ p. p.at < at + length (spell c)) (inside_parts s i at c)
inside_below true i at c h = all_both (λ p. p.at < at + length (spell c)) (stream_parts (at + 12) (list_run c).chunks) (list_rest at c) (kids (list_run c).chunks refl) (rest (list_run c).left refl)
  where
    plain_are : ArePlain (list_run c).chunks
    plain_are = plain_chunks (drop 4 c.body)

    kids : (ds : List Chunk) → (list_run c).chunks ≡ ds → AllByRecursion (λ p. p.at < at + length (spell c)) (stream_parts (at + 12) ds)
    kids [] e = tt
    kids (d ∷ ds) e = streams_below (at + 12) (at + length (spell c)) (d ∷ ds) (subst ArePlain e plain_are) (omega (arith, some, ap (λ (xs : List Chunk). length (spell_all xs)) e, kids_end at c h (omega (arith, some, ap (λ (xs : List Chunk). length (spell_all xs)) e))))
      where
        some : 0 < length (spell_all (d ∷ ds))
        some = omega (arith, spell_some d, length-append (spell d) (spell_all ds))

    rest : (x : List ℕ) → (list_run c).left ≡ x → AllByRecursion (λ p. p.at < at + length (spell c)) (rest_parts (at + 12 + length (spell_all (list_run c).chunks)) x)
    rest [] e = tt
    rest (y ∷ x) e = (omega (arith, ap (λ (z : List ℕ). length z) e, kids_end at c h (omega (arith, ap (λ (z : List ℕ). length z) e))), tt)
inside_below false true at c h = list_below item_role at c h
inside_below false false at c h = tt

-- ---- how many stand elsewhere

-- no place from one on counts as inside
abbrev Outside : Bool → ℕ → ℕ → Type 0
Outside l at from = (p : ℕ) → from ≤ p → (l && nat_lt p at) ≡ false

apart_one : (l r : Bool) (n : ℕ) → r ≡ false → l ≡ false → (if not r && not l then suc n else n) ≡ suc n
apart_one true r n e f = absurd cc
apart_one false true n e f = absurd cc
apart_one false false n e f = refl

plain_apart : (l : Bool) (at : ℕ) (role : Chunk → Role) → ((c : Chunk) → is_rest (role c) ≡ false) → (from : ℕ) (cs : List Chunk) → Outside l at from → count_apart l at (plain_parts role from cs) ≡ length cs
plain_apart l at role nr from [] out = refl
plain_apart l at role nr from (c ∷ cs) out =
    apart_one (l && nat_lt from at) (is_rest (role c)) (count_apart l at (plain_parts role (from + length (spell c)) cs)) (nr c) (out from (omega arith))
    ∙ ap (λ (n : ℕ). suc n) (plain_apart l at role nr (from + length (spell c)) cs (λ p le. out p (omega (arith, le))))

list_apart : (l : Bool) (at : ℕ) (role : Chunk → Role) → ((c : Chunk) → is_rest (role c) ≡ false) → (from : ℕ) (c : Chunk) → Outside l at from → count_apart l at (kid_parts role from c ++ list_rest from c) ≡ length (list_run c).chunks
list_apart l at role nr from c out =
    apart_both l at (kid_parts role from c) (list_rest from c)
    ∙ omega (arith, plain_apart l at role nr (from + 12) (list_run c).chunks (λ p le. out p (omega (arith, le))), rest_apart l at (from + 12 + length (spell_all (list_run c).chunks)) (list_run c).left)

stream_no_rest : (c : Chunk) → is_rest (stream_role c) ≡ false
stream_no_rest c = go (has_id (codes "indx") c)
  where
    go : (t : Bool) → is_rest (role_where t role.Tables) ≡ false
    go true = refl
    go false = refl

further_no_rest : (c : Chunk) → is_rest (further_role c) ≡ false
further_no_rest c = go (is_movi c)
  where
    go : (t : Bool) → is_rest (role_where t role.Essence) ≡ false
    go true = refl
    go false = refl

streams_apart : (at from : ℕ) (cs : List Chunk) → count_apart false at (stream_parts from cs) ≡ length cs + count_kids (only is_strl (stood from cs))
streams_apart at from [] = refl
streams_apart at from (c ∷ cs) =
    ap (λ (n : ℕ). suc n) (apart_both false at own later)
    ∙ go (is_type (codes "strl") c) (streams_apart at (from + length (spell c)) cs)
  where
    own : List Part
    own = if is_type (codes "strl") c then kid_parts stream_role from c ++ list_rest from c else []

    later : List Part
    later = stream_parts (from + length (spell c)) cs

    go : (t : Bool) → count_apart false at later ≡ length cs + count_kids (only is_strl (stood (from + length (spell c)) cs))
        → suc (count_apart false at (if t then kid_parts stream_role from c ++ list_rest from c else []) + count_apart false at later)
        ≡ suc (length cs) + count_kids (if t then record { at = from; chunk = bare c } ∷ only is_strl (stood (from + length (spell c)) cs) else only is_strl (stood (from + length (spell c)) cs))
    go true e = omega (arith, e, list_apart false at stream_role stream_no_rest from c (λ p le. refl))
    go false e = omega (arith, e)

listed_none : (at : ℕ) (ps : List Part) → AllByRecursion (λ p. p.at < at) ps → count_apart true at ps ≡ 0
listed_none at [] h = refl
listed_none at (p ∷ ps) h =
    ap (λ (t : Bool). if not (is_rest p.role) && not t then suc (count_apart true at ps) else count_apart true at ps) (lt-ltb p.at at h.0)
    ∙ ap (λ (t : Bool). if t then suc (count_apart true at ps) else count_apart true at ps) (and_no (not (is_rest p.role))) ∙ listed_none at ps h.1

-- ---- the roles of the first form's chunks

role_plain : (p i m x : Bool) → plain_role (if p then role.Padding else (if i then role.Info else (if m then role.Essence else role_where x role.Tables))) ≡ (if p then role.Padding else (if i then role.Info else role.Opaque))
role_plain true i m x = refl
role_plain false true m x = refl
role_plain false false true x = refl
role_plain false false false true = refl
role_plain false false false false = refl

role_rest : (p i m x : Bool) → is_rest (if p then role.Padding else (if i then role.Info else (if m then role.Essence else role_where x role.Tables))) ≡ false
role_rest true i m x = refl
role_rest false true m x = refl
role_rest false false true x = refl
role_rest false false false true = refl
role_rest false false false false = refl

role_listed : (p i m x : Bool) → (p ≡ true → i ≡ false) → is_listed (if p then role.Padding else (if i then role.Info else (if m then role.Essence else role_where x role.Tables))) ≡ i
role_listed true i m x h = sym (h refl)
role_listed false true m x h = refl
role_listed false false true x h = refl
role_listed false false false true h = refl
role_listed false false false false h = refl

top_plain : (indexed : Bool) (at : ℕ) (c : Chunk) → plain_role (top_role indexed c) ≡ avi_role at c
top_plain indexed at c = role_plain (is_padding c) (is_info c) (is_movi c) (not indexed && has_id (codes "idx1") c)

top_rest : (indexed : Bool) (c : Chunk) → is_rest (top_role indexed c) ≡ false
top_rest indexed c = role_rest (is_padding c) (is_info c) (is_movi c) (not indexed && has_id (codes "idx1") c)

top_listed : (indexed : Bool) (c : Chunk) → is_listed (top_role indexed c) ≡ is_info c
top_listed indexed c = role_listed (is_padding c) (is_info c) (is_movi c) (not indexed && has_id (codes "idx1") c) (padding_no_list (codes "INFO") c)

top_begins : (indexed : Bool) (at : ℕ) (c : Chunk) → begins at (part (top_role indexed c) at c) ≡ true
top_begins indexed at c = ap (λ (t : Bool). t && not (is_rest (top_role indexed c))) (eq-eqb at at refl) ∙ ap (λ (t : Bool). not t) (top_rest indexed c)

-- ---- the chunks of the first form

pub tops_top : (seen indexed : Bool) (at : ℕ) (cs : List Chunk) (rest : List Part) → ArePlain cs → tops at (top_parts seen indexed at cs ++ rest) ≡ parts_from avi_role at cs ++ tops (at + length (spell_all cs)) rest
tops_top seen indexed at [] rest h = ap (λ (n : ℕ). tops n rest) (omega arith)
tops_top seen indexed at (c ∷ cs) rest h =
    let q = at + length (spell c) in
    let inside = inside_parts (not seen && is_type (codes "hdrl") c) (is_type (codes "INFO") c) at c in
    let more = top_parts (seen || is_type (codes "hdrl") c) (indexed || has_id (codes "idx1") c) q cs in
    let p = part (top_role indexed c) at c in
    ap (λ (t : Bool). if t then plain_part p ∷ tops q ((inside ++ more) ++ rest) else tops at ((inside ++ more) ++ rest)) (top_begins indexed at c)
    ∙ ap (λ (ps : List Part). plain_part p ∷ tops q ps) (append_assoc inside more rest)
    ∙ ap (λ (ps : List Part). plain_part p ∷ ps) (tops_past q inside (more ++ rest) (below_past q inside (inside_below (not seen && is_type (codes "hdrl") c) (is_type (codes "INFO") c) at c h.0)))
    ∙ ap (λ (ps : List Part). plain_part p ∷ ps) (tops_top (seen || is_type (codes "hdrl") c) (indexed || has_id (codes "idx1") c) q cs rest h.1)
    ∙ ap (λ (r : Role). record p { role = r } ∷ (parts_from avi_role q cs ++ tops (q + length (spell_all cs)) rest)) (top_plain indexed at c)
    ∙ ap (λ (n : ℕ). record p { role = avi_role at c } ∷ (parts_from avi_role q cs ++ tops n rest)) (omega (arith, length-append (spell c) (spell_all cs)))

-- whether the last one is a list of fields
abbrev last_listed : Bool → List Chunk → Bool
last_listed l [] = l
last_listed l (c ∷ cs) = last_listed (is_info c) cs

-- how many chunks stand in the first hdrl and in the streams' lists in it
abbrev inside_count : Bool → ℕ → List Chunk → ℕ
inside_count true at cs = 0
inside_count false at cs = count_kids (first_of (only is_hdrl (stood at cs))) + count_kids (only is_strl (flat_map kids (first_of (only is_hdrl (stood at cs)))))

pub types_differ : (c : Chunk) → is_hdrl c ≡ true → is_info c ≡ false
types_differ c h = go (bytes_eq (take 4 c.body) (codes "INFO")) refl
  where
    word : take 4 c.body ≡ codes "hdrl"
    word = same_true (take 4 c.body) (codes "hdrl") (and_parts (bytes_eq c.id (codes "LIST")) _ (and_parts (own_size c.form) _ h).1).1

    go : (t : Bool) → bytes_eq (take 4 c.body) (codes "INFO") ≡ t → (own_size c.form && (bytes_eq c.id (codes "LIST") && t)) ≡ false
    go true e = let no : bytes_eq (codes "hdrl") (codes "INFO") ≡ true = ap (λ (x : List ℕ). bytes_eq x (codes "INFO")) (sym word) ∙ e in absurd cc
    go false e = ap (λ (t : Bool). own_size c.form && t) (and_no (bytes_eq c.id (codes "LIST"))) ∙ and_no (own_size c.form)

others_top : (l seen indexed : Bool) (at : ℕ) (cs : List Chunk) (rest : List Part) → ArePlain cs
    → others l at (top_parts seen indexed at cs ++ rest) ≡ inside_count seen at cs + others (last_listed l cs) (at + length (spell_all cs)) rest
others_top l true indexed at [] rest h = let e : others l (at + 0) rest ≡ others l at rest = ap (λ (n : ℕ). others l n rest) (omega arith) in omega (arith, e)
others_top l false indexed at [] rest h = let e : others l (at + 0) rest ≡ others l at rest = ap (λ (n : ℕ). others l n rest) (omega arith) in omega (arith, e)
others_top l seen indexed at (c ∷ cs) rest h =
    let q = at + length (spell c) in
    let s = not seen && is_type (codes "hdrl") c in
    let inside = inside_parts s (is_type (codes "INFO") c) at c in
    let more = top_parts (seen || is_type (codes "hdrl") c) (indexed || has_id (codes "idx1") c) q cs in
    let p = part (top_role indexed c) at c in
    let all = (inside ++ more) ++ rest in
    ap (λ (t : Bool). if t then others (is_listed p.role) q all else (if stands_apart l at p then suc (others l at all) else others l at all)) (top_begins indexed at c)
    ∙ ap (λ (t : Bool). others t q all) (top_listed indexed c)
    ∙ ap (others (is_info c) q) (append_assoc inside more rest)
    ∙ others_past (is_info c) q inside (more ++ rest) (below_past q inside (inside_below s (is_type (codes "INFO") c) at c h.0))
    ∙ ap (λ (n : ℕ). count_apart (is_info c) q inside + n) (others_top (is_info c) (seen || is_type (codes "hdrl") c) (indexed || has_id (codes "idx1") c) q cs rest h.1)
    ∙ ap (λ (n : ℕ). count_apart (is_info c) q inside + (inside_count (seen || is_type (codes "hdrl") c) q cs + others (last_listed (is_info c) cs) n rest)) (omega (arith, length-append (spell c) (spell_all cs)))
    ∙ go seen (is_hdrl c) (is_info c) refl refl (others (last_listed (is_info c) cs) (at + length (spell_all (c ∷ cs))) rest)
  where
    x : Stood
    x = record { at = at; chunk = bare c }

    none_inside : (i : Bool) → count_apart i (at + length (spell c)) (inside_parts false i at c) ≡ 0
    none_inside true = listed_none (at + length (spell c)) (inside_parts false true at c) (inside_below false true at c h.0)
    none_inside false = refl

    all_inside : (i : Bool) → count_apart false (at + length (spell c)) (inside_parts true i at c) ≡ length (list_run c).chunks + count_kids (only is_strl (kids x))
    all_inside i =
        apart_both false (at + length (spell c)) (stream_parts (at + 12) (list_run c).chunks) (list_rest at c)
        ∙ omega (arith, streams_apart (at + length (spell c)) (at + 12) (list_run c).chunks, rest_apart false (at + length (spell c)) (at + 12 + length (spell_all (list_run c).chunks)) (list_run c).left)

    go : (seen t i : Bool) → is_hdrl c ≡ t → is_info c ≡ i → (n : ℕ)
        → count_apart i (at + length (spell c)) (inside_parts (not seen && t) i at c) + (inside_count (seen || t) (at + length (spell c)) cs + n)
        ≡ inside_count seen at (c ∷ cs) + n
    go true t i e f n = omega (arith, none_inside i)
    go false true true e f n = let no = types_differ c e in absurd cc
    go false true false e f n = first_hdrl n
      where
        first_hdrl : (n : ℕ) → count_apart false (at + length (spell c)) (inside_parts true false at c) + (0 + n) ≡ inside_count false at (c ∷ cs) + n
        first_hdrl n =
            let is : first_of (only is_hdrl (stood at (c ∷ cs))) ≡ x ∷ [] = ap (λ (u : Bool). first_of (if u then x ∷ only is_hdrl (stood (at + length (spell c)) cs) else only is_hdrl (stood (at + length (spell c)) cs))) e in
            let count : inside_count false at (c ∷ cs) ≡ (length (list_run c).chunks + 0) + count_kids (only is_strl (kids x)) =
            ap (λ (ys : List Stood). count_kids ys + count_kids (only is_strl (flat_map kids ys))) is ∙ ap (λ (ys : List Stood). (length (list_run c).chunks + 0) + count_kids (only is_strl ys)) (append-nil (kids x))
            in
            omega (arith, all_inside false, count)
    go false false i e f n =
        let same : first_of (only is_hdrl (stood at (c ∷ cs))) ≡ first_of (only is_hdrl (stood (at + length (spell c)) cs)) = ap (λ (u : Bool). first_of (if u then x ∷ only is_hdrl (stood (at + length (spell c)) cs) else only is_hdrl (stood (at + length (spell c)) cs))) e in
        let count : inside_count false at (c ∷ cs) ≡ inside_count false (at + length (spell c)) cs = ap (λ (ys : List Stood). count_kids ys + count_kids (only is_strl (flat_map kids ys))) same in
        omega (arith, none_inside i, count)

-- ---- what is behind them

further_past : (e at : ℕ) (cs : List Chunk) → e ≤ at → AllByRecursion (Past e) (further_parts at cs)
further_past e at [] le = tt
further_past e at (c ∷ cs) le =
    all_both (Past e) (kid_parts further_role at c) (list_rest at c ++ further_parts (at + length (spell c)) cs)
    (beyond_past e (kid_parts further_role at c) (kids_beyond (at + 12) (list_run c).chunks (omega (arith, le))))
    (all_both (Past e) (list_rest at c) (further_parts (at + length (spell c)) cs) (rest_past e (at + 12 + length (spell_all (list_run c).chunks)) (list_run c).left) (further_past e (at + length (spell c)) cs (omega (arith, le))))
  where
    kids_beyond : (from : ℕ) (ds : List Chunk) → e < from → AllByRecursion (λ p. e < p.at) (plain_parts further_role from ds)
    kids_beyond from [] lt = tt
    kids_beyond from (d ∷ ds) lt = (lt, kids_beyond (from + length (spell d)) ds (omega (arith, lt)))

further_apart : (l : Bool) (e at : ℕ) (cs : List Chunk) → e ≤ at → count_apart l e (further_parts at cs) ≡ count_kids (stood at cs)
further_apart l e at [] le = refl
further_apart l e at (c ∷ cs) le =
    ap (count_apart l e) (sym (append_assoc (kid_parts further_role at c) (list_rest at c) (further_parts (at + length (spell c)) cs)))
    ∙ apart_both l e (kid_parts further_role at c ++ list_rest at c) (further_parts (at + length (spell c)) cs)
    ∙ omega (arith, list_apart l e further_role further_no_rest at c out, further_apart l e (at + length (spell c)) cs (omega (arith, le)))
  where
    out : Outside l e at
    out p from = ap (λ (t : Bool). l && t) (le-ltb p e (omega (arith, le, from))) ∙ and_no l

count_moved : (p q : ℕ) (cs : List Chunk) → count_kids (stood p cs) ≡ count_kids (stood q cs)
count_moved p q [] = refl
count_moved p q (c ∷ cs) = ap (λ (n : ℕ). length (list_run c).chunks + n) (count_moved (p + length (spell c)) (q + length (spell c)) cs)

-- ---- a file

abbrev top_of : List Chunk → List Chunk
top_of cs = (chunks riff_front plain (drop 4 (first_body cs))).chunks

-- the first form holds its chunks
abbrev FirstHolds : List Chunk → Type 0
FirstHolds [] = Unit {0}
FirstHolds (c ∷ cs) = 12 + length (spell_all (list_run c).chunks) ≤ length (spell c)

first_holds : (b : List ℕ) (cs : List Chunk) → FirstIs b cs → AllByRecursion (λ c. 4 ≤ length c.body) cs → FirstHolds cs
first_holds b [] is long = tt
first_holds b (c ∷ cs) is long =
    omega (arith, spell_head c (record { form_is = is.1; id_len = is.2 }), run_long (drop 4 c.body), length-drop 4 c.body, long.0)

forms_tops : (cs : List Chunk) (at : ℕ) (left : List ℕ) → FirstHolds cs → tops 12 (form_parts cs ++ rest_parts at left) ≡ parts_from avi_role 12 (top_of cs)
unfolding chunks read
forms_tops [] at left holds =
    ap (tops 12) (sym (append-nil (rest_parts at left))) ∙ tops_past 12 (rest_parts at left) [] (rest_past 12 at left)
forms_tops (c ∷ cs) at left holds =
    let ds = (list_run c).chunks in
    let e = 12 + length (spell_all ds) in
    let tail = (list_rest 0 c ++ further_parts (length (spell c)) cs) ++ rest_parts at left in
    let past : AllByRecursion (Past e) tail =
    all_both (Past e) (list_rest 0 c ++ further_parts (length (spell c)) cs) (rest_parts at left)
    (all_both (Past e) (list_rest 0 c) (further_parts (length (spell c)) cs) (rest_past e (0 + 12 + length (spell_all ds)) (list_run c).left) (further_past e (length (spell c)) cs holds))
    (rest_past e at left)
    in
    ap (tops 12) (append_assoc (top_parts false false 12 ds) (list_rest 0 c ++ further_parts (length (spell c)) cs) (rest_parts at left))
    ∙ tops_top false false 12 ds tail (plain_chunks (drop 4 c.body))
    ∙ ap (λ (ps : List Part). parts_from avi_role 12 ds ++ ps) (ap (tops e) (sym (append-nil tail)) ∙ tops_past e tail [] past)
    ∙ append-nil (parts_from avi_role 12 ds)

forms_others : (cs : List Chunk) (at : ℕ) (left : List ℕ) → FirstHolds cs
    → others false 12 (form_parts cs ++ rest_parts at left) ≡ inside_count false 12 (top_of cs) + count_kids (stood 0 (but_first cs))
unfolding chunks read
forms_others [] at left holds =
    ap (others false 12) (sym (append-nil (rest_parts at left))) ∙ others_past false 12 (rest_parts at left) [] (rest_past 12 at left) ∙ omega (arith, rest_apart false 12 at left)
forms_others (c ∷ cs) at left holds =
    let ds = (list_run c).chunks in
    let e = 12 + length (spell_all ds) in
    let l = last_listed false ds in
    let rests = list_rest 0 c in
    let far = further_parts (length (spell c)) cs in
    let tail = (rests ++ far) ++ rest_parts at left in
    let past : AllByRecursion (Past e) tail =
    all_both (Past e) (rests ++ far) (rest_parts at left)
    (all_both (Past e) rests far (rest_past e (0 + 12 + length (spell_all ds)) (list_run c).left) (further_past e (length (spell c)) cs holds))
    (rest_past e at left)
    in
    let count : count_apart l e tail ≡ count_kids (stood 0 cs) =
    omega (
      arith,
      apart_both l e (rests ++ far) (rest_parts at left),
      apart_both l e rests far,
      rest_apart l e (0 + 12 + length (spell_all ds)) (list_run c).left,
      rest_apart l e at left,
      further_apart l e (length (spell c)) cs holds,
      count_moved (length (spell c)) 0 cs,
    )
    in
    ap (others false 12) (append_assoc (top_parts false false 12 ds) (rests ++ far) (rest_parts at left))
    ∙ others_top false false false 12 ds tail (plain_chunks (drop 4 c.body))
    ∙ ap (λ (ps : List Part). inside_count false 12 ds + others l e ps) (sym (append-nil tail))
    ∙ ap (λ (n : ℕ). inside_count false 12 ds + n) (others_past l e tail [] past)
    ∙ omega (arith, count)

-- the chunks of the first form are those that follow each other from 12 on
pub tops_told : (b : List ℕ) → Supported b → tops 12 (parts_of b) ≡ parts_from avi_role 12 (avi_of b).children
tops_told b s = forms_tops (forms b).chunks (length (spell_all (forms b).chunks)) (forms b).left (first_holds b (forms b).chunks (first_is b) s.forms_long)

-- and so many chunks stand elsewhere
pub others_told : (b : List ℕ) → Supported b → others false 12 (parts_of b) ≡ count_kids (hdrls (avi_of b)) + (count_kids (strls (avi_of b)) + count_kids (others_at (avi_of b)))
others_told b s =
    forms_others (forms b).chunks (length (spell_all (forms b).chunks)) (forms b).left (first_holds b (forms b).chunks (first_is b) s.forms_long)
    ∙ omega (arith, count_moved 0 (length (spell (form_of (avi_of b)))) (avi_of b).others)
