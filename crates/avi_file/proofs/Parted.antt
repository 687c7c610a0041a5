-- Which parts of a file are essence, tables and lists of fields.
use Rattle.std.proofs.Common.{◌≡◌, ◌∙◌, ℕ, ◌+◌, ◌≤◌, Bool, true, false, List, [], ◌∷◌, ◌++◌, length, map, take, drop, refl, sym, ap}
use Rattle.std.specs.Prelude.{codes, if◌then◌else◌, ◌&&◌, ◌||◌, not, None}
use Rattle.std.specs.Str.{bytes_eq}
use Rattle.std.specs.List.{flat_map, AllByRecursion}
use Rattle.std.proofs.lemmas.List.{append-nil, map-append}
use Rattle.part_tree.specs.Parts.{rest_part, rest_parts}
use Rattle.part_tree.specs.declared.names.Span.{Span}
use Rattle.part_tree.specs.declared.part.Part.{Part}
use Rattle.part_tree.specs.declared.part.Role.{Role}
use Rattle.part_tree.specs.declared.part.Role.TheVariants as role
use Rattle.container_model.specs.Chunk.{Chunk, chunks, read, spell, spell_all}
use Rattle.container_model.specs.Sizes.{plain, riff_front}
use Rattle.container_model.specs.Tests.{first}
use Rattle.container_model.proofs.Tests.{first_none}
use Rattle.container_model.specs.Stood.{Stood, bare, stood, only, first_of}
use Rattle.carrier_model.specs.Info.{is_type, list_run, own_size}
use Rattle.opendml_index.proofs.Known.{same_true}
use Rattle.avi_model.specs.Avi.{avi_of, body_span, essence, first_body, forms, has_id, is_movi, kids, old_indexes, stream_indexes}
use Rattle.avi_model.specs.Map.{essence_spans, form_parts, further_parts, further_role, inside_parts, item_role, kid_parts, list_rest, part, parts_of, plain_parts, role_where, stream_parts, stream_role, top_parts, top_role}
use Rattle.avi_model.specs.Reading.{end_at, further_steps, name_steps, first_steps_by, form_steps_by, named_reading}
use Rattle.avi_model.specs.Support.{infos}
use Rattle.avi_model.specs.Why.{Test, list_tests, steps_tests}
use Rattle.avi_model.proofs.Sound.{all_left, all_right}
use Rattle.avi_model.proofs.Whys.{AllFine, StepFine, avi_from, steps_fine}
use Rattle.avi_file.specs.Chosen.{is_tables, tables_with}
use Rattle.avi_file.specs.Fields.{infos_of}
use Rattle.avi_file.specs.Forms.{front_tests}
use Rattle.avi_file.specs.Walk.{chosen, essence_of, is_essence, is_items}
use Rattle.avi_model.proofs.Homes.{FirstIs, first_is, first_long}
use Rattle.avi_file.proofs.Listed.{essence_top, essence_rest}
use Rattle.avi_file.proofs.Placed.{chosen_append}

-- ---- parts that are chosen

-- a test that holds of no rest
abbrev NoRest : (Part → Bool) → Type 0
NoRest test = (at n : ℕ) → test (rest_part at n) ≡ false

rests : (test : Part → Bool) → NoRest test → (at : ℕ) (b : List ℕ) → chosen test (rest_parts at b) ≡ []
rests test none at [] = refl
rests test none at (x ∷ b) = ap (λ (t : Bool). if t then record { at = at; len = length (x ∷ b) } ∷ [] else []) (none at (length (x ∷ b)))

-- a test of the parts that chunks are, as one of the chunks
abbrev Tells : (Part → Bool) → (Chunk → Role) → (Chunk → Bool) → Type 0
Tells test role p = (at : ℕ) (c : Chunk) → test (part (role c) at c) ≡ p c

pull : (t : Bool) (x : Stood) (xs : List Stood) → (if t then body_span x ∷ map body_span xs else map body_span xs) ≡ map body_span (if t then x ∷ xs else xs)
pull true x xs = refl
pull false x xs = refl

plains : (test : Part → Bool) (role : Chunk → Role) (p : Chunk → Bool) → ((c : Chunk) → p (bare c) ≡ p c) → Tells test role p → (at : ℕ) (cs : List Chunk) → chosen test (plain_parts role at cs) ≡ map body_span (only p (stood at cs))
plains test role p same tells at [] = refl
plains test role p same tells at (c ∷ cs) =
    let x : Stood = record { at = at; chunk = bare c } in
    let q = at + length (spell c) in
    ap (λ (t : Bool). if t then body_span x ∷ chosen test (plain_parts role q cs) else chosen test (plain_parts role q cs)) (tells at c ∙ sym (same c))
    ∙ ap (λ (ss : List Span). if p (bare c) then body_span x ∷ ss else ss) (plains test role p same tells q cs)
    ∙ pull (p (bare c)) x (only p (stood q cs))

nones : (test : Part → Bool) (role : Chunk → Role) → ((at : ℕ) (c : Chunk) → test (part (role c) at c) ≡ false) → (at : ℕ) (cs : List Chunk) → chosen test (plain_parts role at cs) ≡ []
nones test role h at [] = refl
nones test role h at (c ∷ cs) =
    ap (λ (t : Bool). if t then body_span (record { at = at; chunk = bare c }) ∷ chosen test (plain_parts role (at + length (spell c)) cs) else chosen test (plain_parts role (at + length (spell c)) cs)) (h at c) ∙ nones test role h (at + length (spell c)) cs

-- none of the chunks
abbrev never : Chunk → Bool
never c = false

only_never : (xs : List Stood) → only never xs ≡ []
only_never [] = refl
only_never (x ∷ xs) = only_never xs

-- the chunks of a list and its rest
lists : (test : Part → Bool) (role : Chunk → Role) (p : Chunk → Bool) → NoRest test → ((c : Chunk) → p (bare c) ≡ p c) → Tells test role p → (at : ℕ) (c : Chunk)
    → chosen test (kid_parts role at c ++ list_rest at c) ≡ map body_span (only p (kids (record { at = at; chunk = bare c })))
lists test role p none same tells at c =
    chosen_append test (kid_parts role at c) (list_rest at c)
    ∙ ap (λ (ss : List Span). chosen test (kid_parts role at c) ++ ss) (rests test none (at + 12 + length (spell_all (list_run c).chunks)) (list_run c).left)
    ∙ append-nil (chosen test (kid_parts role at c))
    ∙ plains test role p same tells (at + 12) (list_run c).chunks

-- ---- essence

further : (at : ℕ) (cs : List Chunk) → essence_of (further_parts at cs) ≡ map body_span (flat_map (λ x. only is_movi (kids x)) (stood at cs))
further at [] = refl
further at (c ∷ cs) =
    let test : Part → Bool = λ p. is_essence p.role in
    let q = at + length (spell c) in
    let x : Stood = record { at = at; chunk = bare c } in
    let one : essence_of (kid_parts further_role at c) ≡ map body_span (only is_movi (kids x)) = plains test further_role is_movi (λ d. refl) (λ a d. where_is (is_movi d)) (at + 12) (list_run c).chunks in
    chosen_append test (kid_parts further_role at c) (list_rest at c ++ further_parts q cs)
    ∙ ap (λ (ss : List Span). essence_of (kid_parts further_role at c) ++ ss) (chosen_append test (list_rest at c) (further_parts q cs) ∙ ap (λ (ss : List Span). ss ++ essence_of (further_parts q cs)) (essence_rest (at + 12 + length (spell_all (list_run c).chunks)) (list_run c).left))
    ∙ ap (λ (ss : List Span). ss ++ essence_of (further_parts q cs)) one
    ∙ ap (λ (ss : List Span). map body_span (only is_movi (kids x)) ++ ss) (further q cs)
    ∙ sym (map-append body_span (only is_movi (kids x)) (flat_map (λ x. only is_movi (kids x)) (stood q cs)))
  where
    where_is : (t : Bool) → is_essence (role_where t role.Essence) ≡ t
    where_is true = refl
    where_is false = refl

-- the forms' parts, with a test that holds of no rest and of no chunk of a further form
abbrev NoFurther : (Part → Bool) → Type 0
NoFurther test = (at : ℕ) (c : Chunk) → test (part (further_role c) at c) ≡ false

no_further : (test : Part → Bool) → NoRest test → NoFurther test → (at : ℕ) (cs : List Chunk) → chosen test (further_parts at cs) ≡ []
no_further test none far at [] = refl
no_further test none far at (c ∷ cs) =
    let q = at + length (spell c) in
    chosen_append test (kid_parts further_role at c) (list_rest at c ++ further_parts q cs)
    ∙ ap (λ (ss : List Span). ss ++ chosen test (list_rest at c ++ further_parts q cs)) (nones test further_role (λ a d. far a d) (at + 12) (list_run c).chunks)
    ∙ chosen_append test (list_rest at c) (further_parts q cs)
    ∙ ap (λ (ss : List Span). ss ++ chosen test (further_parts q cs)) (rests test none (at + 12 + length (spell_all (list_run c).chunks)) (list_run c).left)
    ∙ no_further test none far q cs

-- the chunks of the first form
abbrev pub top_of : List Chunk → List Chunk
top_of cs = (chunks riff_front plain (drop 4 (first_body cs))).chunks

forms_chosen : (test : Part → Bool) → NoRest test → NoFurther test → (cs : List Chunk) (at : ℕ) (left : List ℕ) → chosen test (form_parts cs ++ rest_parts at left) ≡ chosen test (top_parts false false 12 (top_of cs))
unfolding chunks read
forms_chosen test none far [] at left = rests test none at left
forms_chosen test none far (c ∷ cs) at left =
    let tops = top_parts false false 12 (list_run c).chunks in
    let more = list_rest 0 c ++ further_parts (length (spell c)) cs in
    chosen_append test (tops ++ more) (rest_parts at left)
    ∙ ap (λ (ss : List Span). chosen test (tops ++ more) ++ ss) (rests test none at left)
    ∙ append-nil (chosen test (tops ++ more))
    ∙ chosen_append test tops more
    ∙ ap (λ (ss : List Span). chosen test tops ++ ss) (chosen_append test (list_rest 0 c) (further_parts (length (spell c)) cs) ∙ ap (λ (ss : List Span). ss ++ chosen test (further_parts (length (spell c)) cs)) (rests test none (0 + 12 + length (spell_all (list_run c).chunks)) (list_run c).left) ∙ no_further test none far (length (spell c)) cs)
    ∙ append-nil (chosen test tops)

-- the parts that are essence
forms_essence : (b : List ℕ) (cs : List Chunk) (at : ℕ) (left : List ℕ) → FirstIs b cs → AllByRecursion (λ c. 4 ≤ length c.body) cs → essence_of (form_parts cs ++ rest_parts at left) ≡ map body_span (essence (avi_from cs left))
unfolding chunks read
forms_essence b [] at left is long = essence_rest at left
forms_essence b (c ∷ cs) at left is long =
    let test : Part → Bool = λ p. is_essence p.role in
    let tops = top_parts false false 12 (list_run c).chunks in
    let more = list_rest 0 c ++ further_parts (length (spell c)) cs in
    let own = only is_movi (stood 12 (list_run c).chunks) in
    let far = λ (q : ℕ). flat_map (λ x. only is_movi (kids x)) (stood q cs) in
    chosen_append test (tops ++ more) (rest_parts at left)
    ∙ ap (λ (ss : List Span). essence_of (tops ++ more) ++ ss) (essence_rest at left)
    ∙ append-nil (essence_of (tops ++ more))
    ∙ chosen_append test tops more
    ∙ ap (λ (ss : List Span). ss ++ essence_of more) (essence_top false false 12 (list_run c).chunks)
    ∙ ap (λ (ss : List Span). map body_span own ++ ss) (chosen_append test (list_rest 0 c) (further_parts (length (spell c)) cs) ∙ ap (λ (ss : List Span). ss ++ essence_of (further_parts (length (spell c)) cs)) (essence_rest (0 + 12 + length (spell_all (list_run c).chunks)) (list_run c).left) ∙ further (length (spell c)) cs)
    ∙ sym (map-append body_span own (far (length (spell c))))
    ∙ ap (λ (q : ℕ). map body_span (own ++ far q)) (sym (first_long b c cs left is long.0))

-- where a form was met, it has its type
further_long : (q : ℕ) (cs : List Chunk) → AllFine (flat_map further_steps (stood q cs)) → AllByRecursion (λ c. 4 ≤ length c.body) cs
further_long q [] h = tt
further_long q (c ∷ cs) h =
    let x : Stood = record { at = q; chunk = bare c } in
    let more = flat_map further_steps (stood (q + length (spell c)) cs) in
    ((all_left StepFine (further_steps x) more h).0, further_long (q + length (spell c)) cs (all_right StepFine (further_steps x) more h))

forms_long : (cs : List Chunk) → AllFine (form_steps_by name_steps (stood 0 cs)) → AllByRecursion (λ c. 4 ≤ length c.body) cs
forms_long [] h = tt
forms_long (c ∷ cs) h =
    let x : Stood = record { at = 0; chunk = bare c } in
    let more = flat_map further_steps (stood (0 + length (spell c)) cs) in
    ((all_left StepFine (first_steps_by name_steps x) more h).0, further_long (0 + length (spell c)) cs (all_right StepFine (first_steps_by name_steps x) more h))

-- where the forms were read, the essence is that of the file
pub front_long : (b : List ℕ) → first (front_tests b) ≡ None → AllByRecursion (λ c. 4 ≤ length c.body) (forms b).chunks
front_long b e =
    let all = first_none (front_tests b) e in
    let ends_ = end_at (length (spell_all (forms b).chunks)) (forms b).stop ∷ [] in
    let steps = all_left (λ (t : Test). t.0 ≡ false) (steps_tests 0 (named_reading b)) (list_tests (avi_of b)) all.1 in
    let fine = (steps_fine 0 (named_reading b) steps).0 in
    forms_long (forms b).chunks (all_left StepFine (form_steps_by name_steps (stood 0 (forms b).chunks)) ends_ fine)

pub essence_parts : (b : List ℕ) → first (front_tests b) ≡ None → essence_of (parts_of b) ≡ essence_spans b
essence_parts b e = forms_essence b (forms b).chunks (length (spell_all (forms b).chunks)) (forms b).left (first_is b) (front_long b e)

-- ---- tables of the streams

abbrev is_table : List ℕ → Part → Bool
is_table id p = is_tables p.role && bytes_eq p.id.0 id

and_no : (a : Bool) → (a && false) ≡ false
and_no true = refl
and_no false = refl

table_where : (t u : Bool) → (is_tables (role_where t role.Tables) && u) ≡ (t && u)
table_where true u = refl
table_where false u = refl

only_append : (p : Chunk → Bool) (xs ys : List Stood) → only p (xs ++ ys) ≡ only p xs ++ only p ys
only_append p [] ys = refl
only_append p (x ∷ xs) ys = go (p x.chunk) (only_append p xs ys)
  where
    go : (t : Bool) → only p (xs ++ ys) ≡ only p xs ++ only p ys → (if t then x ∷ only p (xs ++ ys) else only p (xs ++ ys)) ≡ (if t then x ∷ only p xs else only p xs) ++ only p ys
    go true e = ap (λ (zs : List Stood). x ∷ zs) e
    go false e = e

-- the chunks of the streams' lists among some
abbrev of_streams : (Chunk → Bool) → List Stood → List Stood
of_streams p xs = only p (flat_map kids (only (is_type (codes "strl")) xs))

strl_parts : (test : Part → Bool) (p : Chunk → Bool) → NoRest test → ((at : ℕ) (c : Chunk) → test (part role.Opaque at c) ≡ false) → ((c : Chunk) → p (bare c) ≡ p c) → Tells test stream_role p → (at : ℕ) (cs : List Chunk)
    → chosen test (stream_parts at cs) ≡ map body_span (of_streams p (stood at cs))
strl_parts test p none opaque same tells at [] = refl
strl_parts test p none opaque same tells at (c ∷ cs) =
    let q = at + length (spell c) in
    let x : Stood = record { at = at; chunk = bare c } in
    let own = if is_type (codes "strl") c then kid_parts stream_role at c ++ list_rest at c else [] in
    ap (λ (t : Bool). if t then body_span x ∷ chosen test (own ++ stream_parts q cs) else chosen test (own ++ stream_parts q cs)) (opaque at c)
    ∙ chosen_append test own (stream_parts q cs)
    ∙ ap (λ (ss : List Span). chosen test own ++ ss) (strl_parts test p none opaque same tells q cs)
    ∙ go (is_type (codes "strl") c)
  where
    go : (t : Bool) → chosen test (if t then kid_parts stream_role at c ++ list_rest at c else []) ++ map body_span (of_streams p (stood (at + length (spell c)) cs))
        ≡ map body_span (only p (flat_map kids (if t then record { at = at; chunk = bare c } ∷ only (is_type (codes "strl")) (stood (at + length (spell c)) cs) else only (is_type (codes "strl")) (stood (at + length (spell c)) cs))))
    go true =
        let x : Stood = record { at = at; chunk = bare c } in
        let later = flat_map kids (only (is_type (codes "strl")) (stood (at + length (spell c)) cs)) in
        ap (λ (ss : List Span). ss ++ map body_span (only p later)) (lists test stream_role p none same tells at c)
        ∙ sym (map-append body_span (only p (kids x)) (only p later))
        ∙ ap (map body_span) (sym (only_append p (kids x) later))
    go false = refl

far : (t u : Bool) → (is_tables (role_where t role.Essence) && u) ≡ false
far true u = refl
far false u = refl

no_item_far : (t : Bool) → is_items (role_where t role.Essence) ≡ false
no_item_far true = refl
no_item_far false = refl

-- a chunk that is opened in the first form: hdrl has tables of streams
inside_chosen : (test : Part → Bool) (p : Chunk → Bool) → NoRest test → ((at : ℕ) (c : Chunk) → test (part role.Opaque at c) ≡ false) → ((c : Chunk) → p (bare c) ≡ p c) → Tells test stream_role p → (h i : Bool) (at : ℕ) (c : Chunk)
    → chosen test (inside_parts h i at c) ≡ (if h then map body_span (of_streams p (kids (record { at = at; chunk = bare c }))) else [])
inside_chosen test p none opaque same tells true i at c =
    chosen_append test (stream_parts (at + 12) (list_run c).chunks) (list_rest at c)
    ∙ ap (λ (ss : List Span). chosen test (stream_parts (at + 12) (list_run c).chunks) ++ ss) (rests test none (at + 12 + length (spell_all (list_run c).chunks)) (list_run c).left)
    ∙ append-nil (chosen test (stream_parts (at + 12) (list_run c).chunks))
    ∙ strl_parts test p none opaque same tells (at + 12) (list_run c).chunks
inside_chosen test p none opaque same tells false true at c =
    chosen_append test (kid_parts item_role at c) (list_rest at c)
    ∙ ap (λ (ss : List Span). ss ++ chosen test (list_rest at c)) (nones test item_role (λ a d. opaque a d) (at + 12) (list_run c).chunks)
    ∙ rests test none (at + 12 + length (spell_all (list_run c).chunks)) (list_run c).left
inside_chosen test p none opaque same tells false false at c = refl

-- ---- the roles of the first form's chunks

differ : (x a b : List ℕ) → bytes_eq a b ≡ false → bytes_eq x a ≡ true → bytes_eq x b ≡ false
differ x a b h e = ap (λ (y : List ℕ). bytes_eq y b) (same_true x a e) ∙ h

abbrev role_by : Bool → Bool → Bool → Bool → Bool → Bool → Role
role_by own junk list info movi x = if own && junk then role.Padding else (if own && (list && info) then role.Info else (if own && (list && movi) then role.Essence else role_where x role.Tables))

no_table : (a b d : Bool) (r : Role) → is_tables r ≡ false → is_tables (if a then role.Padding else (if b then role.Info else (if d then role.Essence else r))) ≡ false
no_table true b d r e = refl
no_table false true d r e = refl
no_table false false true r e = refl
no_table false false false r e = e

no_indx_by : (own junk list info movi n u v : Bool) → (v ≡ true → u ≡ false) → (is_tables (role_by own junk list info movi (n && u)) && v) ≡ false
no_indx_by own junk list info movi n u false h = and_no (is_tables (role_by own junk list info movi (n && u)))
no_indx_by own junk list info movi n u true h =
    let none : is_tables (role_where (n && u) role.Tables) ≡ false = ap (λ (t : Bool). is_tables (role_where (n && t) role.Tables)) (h refl) ∙ ap (λ (t : Bool). is_tables (role_where t role.Tables)) (and_no n) in
    ap (λ (t : Bool). t && true) (no_table (own && junk) (own && (list && info)) (own && (list && movi)) (role_where (n && u) role.Tables) none)

top_no_indx : (indexed : Bool) (c : Chunk) → (is_tables (top_role indexed c) && bytes_eq c.id (codes "indx")) ≡ false
top_no_indx indexed c =
    no_indx_by (own_size c.form) (bytes_eq c.id (codes "JUNK")) (bytes_eq c.id (codes "LIST")) (bytes_eq (take 4 c.body) (codes "INFO")) (bytes_eq (take 4 c.body) (codes "movi")) (not indexed) (bytes_eq c.id (codes "idx1")) (bytes_eq c.id (codes "indx"))
    (differ c.id (codes "indx") (codes "idx1") refl)

old_by : (own junk list info movi n u : Bool) → (u ≡ true → junk ≡ false) → (u ≡ true → list ≡ false) → (is_tables (role_by own junk list info movi (n && u)) && u) ≡ (n && u)
old_by own junk list info movi n false p q = and_no (is_tables (role_by own junk list info movi (n && false))) ∙ sym (and_no n)
old_by own true list info movi n true p q = let no = p refl in absurd cc
old_by own false true info movi n true p q = let no = q refl in absurd cc
old_by true false false info movi true true p q = refl
old_by true false false info movi false true p q = refl
old_by false false false info movi true true p q = refl
old_by false false false info movi false true p q = refl

top_is_old : (indexed : Bool) (c : Chunk) → (is_tables (top_role indexed c) && bytes_eq c.id (codes "idx1")) ≡ (not indexed && bytes_eq c.id (codes "idx1"))
top_is_old indexed c =
    old_by (own_size c.form) (bytes_eq c.id (codes "JUNK")) (bytes_eq c.id (codes "LIST")) (bytes_eq (take 4 c.body) (codes "INFO")) (bytes_eq (take 4 c.body) (codes "movi")) (not indexed) (bytes_eq c.id (codes "idx1"))
    (differ c.id (codes "idx1") (codes "JUNK") refl) (differ c.id (codes "idx1") (codes "LIST") refl)

no_item_where : (t : Bool) → is_items (role_where t role.Tables) ≡ false
no_item_where true = refl
no_item_where false = refl

items_by : (own junk list info movi x : Bool) → (junk ≡ true → list ≡ false) → is_items (role_by own junk list info movi x) ≡ (own && (list && info))
items_by false junk list info movi x p = no_item_where x
items_by true true list info movi x p = sym (ap (λ (t : Bool). t && info) (p refl))
items_by true false false info movi x p = no_item_where x
items_by true false true true movi x p = refl
items_by true false true false true x p = refl
items_by true false true false false x p = no_item_where x

top_items : (indexed : Bool) (c : Chunk) → is_items (top_role indexed c) ≡ is_type (codes "INFO") c
top_items indexed c =
    items_by (own_size c.form) (bytes_eq c.id (codes "JUNK")) (bytes_eq c.id (codes "LIST")) (bytes_eq (take 4 c.body) (codes "INFO")) (bytes_eq (take 4 c.body) (codes "movi")) (not indexed && has_id (codes "idx1") c)
    (differ c.id (codes "JUNK") (codes "LIST") refl)

-- ---- the indexes of the streams

twice : (t : Bool) → (t && t) ≡ t
twice true = refl
twice false = refl

indx_tells : (d : Chunk) → (is_tables (role_where (has_id (codes "indx") d) role.Tables) && bytes_eq d.id (codes "indx")) ≡ has_id (codes "indx") d
indx_tells d = table_where (has_id (codes "indx") d) (bytes_eq d.id (codes "indx")) ∙ twice (has_id (codes "indx") d)

indx_inside : (h i : Bool) (at : ℕ) (c : Chunk) → tables_with (codes "indx") (inside_parts h i at c) ≡ (if h then map body_span (of_streams (has_id (codes "indx")) (kids (record { at = at; chunk = bare c }))) else [])
indx_inside h i at c = inside_chosen (is_table (codes "indx")) (has_id (codes "indx")) (λ a n. refl) (λ a d. refl) (λ d. refl) (λ a d. indx_tells d) h i at c

-- behind the first hdrl there is none
seen_none : (indexed : Bool) (at : ℕ) (cs : List Chunk) → tables_with (codes "indx") (top_parts true indexed at cs) ≡ []
seen_none indexed at [] = refl
seen_none indexed at (c ∷ cs) =
    let test = is_table (codes "indx") in
    let inside = inside_parts false (is_type (codes "INFO") c) at c in
    let later = top_parts true (indexed || has_id (codes "idx1") c) (at + length (spell c)) cs in
    let x : Stood = record { at = at; chunk = bare c } in
    ap (λ (t : Bool). if t then body_span x ∷ chosen test (inside ++ later) else chosen test (inside ++ later)) (top_no_indx indexed c)
    ∙ chosen_append test inside later
    ∙ ap (λ (ss : List Span). ss ++ chosen test later) (indx_inside false (is_type (codes "INFO") c) at c)
    ∙ seen_none (indexed || has_id (codes "idx1") c) (at + length (spell c)) cs

top_indexes : (indexed : Bool) (at : ℕ) (cs : List Chunk) → tables_with (codes "indx") (top_parts false indexed at cs) ≡ map body_span (of_streams (has_id (codes "indx")) (flat_map kids (first_of (only (is_type (codes "hdrl")) (stood at cs)))))
top_indexes indexed at [] = refl
top_indexes indexed at (c ∷ cs) =
    let test = is_table (codes "indx") in
    let inside = inside_parts (is_type (codes "hdrl") c) (is_type (codes "INFO") c) at c in
    let later = top_parts (is_type (codes "hdrl") c) (indexed || has_id (codes "idx1") c) (at + length (spell c)) cs in
    let x : Stood = record { at = at; chunk = bare c } in
    ap (λ (t : Bool). if t then body_span x ∷ chosen test (inside ++ later) else chosen test (inside ++ later)) (top_no_indx indexed c)
    ∙ chosen_append test inside later
    ∙ ap (λ (ss : List Span). ss ++ chosen test later) (indx_inside (is_type (codes "hdrl") c) (is_type (codes "INFO") c) at c)
    ∙ go (is_type (codes "hdrl") c) (seen_none (indexed || has_id (codes "idx1") c) (at + length (spell c)) cs) (top_indexes (indexed || has_id (codes "idx1") c) (at + length (spell c)) cs)
  where
    go : (t : Bool) → tables_with (codes "indx") (top_parts true (indexed || has_id (codes "idx1") c) (at + length (spell c)) cs) ≡ []
        → tables_with (codes "indx") (top_parts false (indexed || has_id (codes "idx1") c) (at + length (spell c)) cs) ≡ map body_span (of_streams (has_id (codes "indx")) (flat_map kids (first_of (only (is_type (codes "hdrl")) (stood (at + length (spell c)) cs)))))
        → (if t then map body_span (of_streams (has_id (codes "indx")) (kids (record { at = at; chunk = bare c }))) else []) ++ tables_with (codes "indx") (top_parts t (indexed || has_id (codes "idx1") c) (at + length (spell c)) cs)
        ≡ map body_span (of_streams (has_id (codes "indx")) (flat_map kids (first_of (if t then record { at = at; chunk = bare c } ∷ only (is_type (codes "hdrl")) (stood (at + length (spell c)) cs) else only (is_type (codes "hdrl")) (stood (at + length (spell c)) cs)))))
    go true none again =
        let x : Stood = record { at = at; chunk = bare c } in
        let own = map body_span (of_streams (has_id (codes "indx")) (kids x)) in
        ap (λ (ss : List Span). own ++ ss) none ∙ append-nil own ∙ ap (λ (ys : List Stood). map body_span (of_streams (has_id (codes "indx")) ys)) (sym (append-nil (kids x)))
    go false none again = again

pub index_parts : (b : List ℕ) → tables_with (codes "indx") (parts_of b) ≡ map body_span (stream_indexes (avi_of b))
index_parts b =
    forms_chosen (is_table (codes "indx")) (λ a n. refl) (λ a d. far (is_movi d) (bytes_eq d.id (codes "indx"))) (forms b).chunks (length (spell_all (forms b).chunks)) (forms b).left
    ∙ top_indexes false 12 (top_of (forms b).chunks)

-- ---- `idx1`

old_inside : (h i : Bool) (at : ℕ) (c : Chunk) → tables_with (codes "idx1") (inside_parts h i at c) ≡ []
old_inside h i at c = inside_chosen (is_table (codes "idx1")) never (λ a n. refl) (λ a d. refl) (λ d. refl) (λ a d. no_old d) h i at c ∙ go h
  where
    no_old : (d : Chunk) → (is_tables (role_where (has_id (codes "indx") d) role.Tables) && bytes_eq d.id (codes "idx1")) ≡ false
    no_old d = table_where (has_id (codes "indx") d) (bytes_eq d.id (codes "idx1")) ∙ one (has_id (codes "indx") d) refl
      where
        one : (t : Bool) → has_id (codes "indx") d ≡ t → (t && bytes_eq d.id (codes "idx1")) ≡ false
        one true e = differ d.id (codes "indx") (codes "idx1") refl e
        one false e = refl

    go : (t : Bool) → (if t then map body_span (of_streams never (kids (record { at = at; chunk = bare c }))) else []) ≡ []
    go true = ap (map body_span) (only_never (flat_map kids (only (is_type (codes "strl")) (kids (record { at = at; chunk = bare c })))))
    go false = refl

-- behind the first `idx1` there is none
olds_none : (seen : Bool) (at : ℕ) (cs : List Chunk) → tables_with (codes "idx1") (top_parts seen true at cs) ≡ []
olds_none seen at [] = refl
olds_none seen at (c ∷ cs) =
    let test = is_table (codes "idx1") in
    let inside = inside_parts (not seen && is_type (codes "hdrl") c) (is_type (codes "INFO") c) at c in
    let later = top_parts (seen || is_type (codes "hdrl") c) true (at + length (spell c)) cs in
    let x : Stood = record { at = at; chunk = bare c } in
    ap (λ (t : Bool). if t then body_span x ∷ chosen test (inside ++ later) else chosen test (inside ++ later)) (top_is_old true c)
    ∙ chosen_append test inside later
    ∙ ap (λ (ss : List Span). ss ++ chosen test later) (old_inside (not seen && is_type (codes "hdrl") c) (is_type (codes "INFO") c) at c)
    ∙ olds_none (seen || is_type (codes "hdrl") c) (at + length (spell c)) cs

top_olds : (seen : Bool) (at : ℕ) (cs : List Chunk) → tables_with (codes "idx1") (top_parts seen false at cs) ≡ map body_span (first_of (only (has_id (codes "idx1")) (stood at cs)))
top_olds seen at [] = refl
top_olds seen at (c ∷ cs) =
    let test = is_table (codes "idx1") in
    let inside = inside_parts (not seen && is_type (codes "hdrl") c) (is_type (codes "INFO") c) at c in
    let later = top_parts (seen || is_type (codes "hdrl") c) (has_id (codes "idx1") c) (at + length (spell c)) cs in
    let x : Stood = record { at = at; chunk = bare c } in
    ap (λ (t : Bool). if t then body_span x ∷ chosen test (inside ++ later) else chosen test (inside ++ later)) (top_is_old false c)
    ∙ ap (λ (ss : List Span). if has_id (codes "idx1") c then body_span x ∷ ss else ss) (chosen_append test inside later ∙ ap (λ (ss : List Span). ss ++ chosen test later) (old_inside (not seen && is_type (codes "hdrl") c) (is_type (codes "INFO") c) at c))
    ∙ go (has_id (codes "idx1") c) (olds_none (seen || is_type (codes "hdrl") c) (at + length (spell c)) cs) (top_olds (seen || is_type (codes "hdrl") c) (at + length (spell c)) cs)
  where
    go : (t : Bool) → tables_with (codes "idx1") (top_parts (seen || is_type (codes "hdrl") c) true (at + length (spell c)) cs) ≡ []
        → tables_with (codes "idx1") (top_parts (seen || is_type (codes "hdrl") c) false (at + length (spell c)) cs) ≡ map body_span (first_of (only (has_id (codes "idx1")) (stood (at + length (spell c)) cs)))
        → (if t then body_span (record { at = at; chunk = bare c }) ∷ tables_with (codes "idx1") (top_parts (seen || is_type (codes "hdrl") c) t (at + length (spell c)) cs) else tables_with (codes "idx1") (top_parts (seen || is_type (codes "hdrl") c) t (at + length (spell c)) cs))
        ≡ map body_span (first_of (if t then record { at = at; chunk = bare c } ∷ only (has_id (codes "idx1")) (stood (at + length (spell c)) cs) else only (has_id (codes "idx1")) (stood (at + length (spell c)) cs)))
    go true none again = ap (λ (ss : List Span). body_span (record { at = at; chunk = bare c }) ∷ ss) none
    go false none again = again

pub old_parts : (b : List ℕ) → tables_with (codes "idx1") (parts_of b) ≡ map body_span (old_indexes (avi_of b))
old_parts b =
    forms_chosen (is_table (codes "idx1")) (λ a n. refl) (λ a d. far (is_movi d) (bytes_eq d.id (codes "idx1"))) (forms b).chunks (length (spell_all (forms b).chunks)) (forms b).left
    ∙ top_olds false 12 (top_of (forms b).chunks)

-- ---- lists of fields

top_infos : (seen indexed : Bool) (at : ℕ) (cs : List Chunk) → infos_of (top_parts seen indexed at cs) ≡ map body_span (only (is_type (codes "INFO")) (stood at cs))
top_infos seen indexed at [] = refl
top_infos seen indexed at (c ∷ cs) =
    let test : Part → Bool = λ p. is_items p.role in
    let h = not seen && is_type (codes "hdrl") c in
    let inside = inside_parts h (is_type (codes "INFO") c) at c in
    let later = top_parts (seen || is_type (codes "hdrl") c) (indexed || has_id (codes "idx1") c) (at + length (spell c)) cs in
    let x : Stood = record { at = at; chunk = bare c } in
    let none : chosen test inside ≡ [] = inside_chosen test never (λ a n. refl) (λ a d. refl) (λ d. refl) (λ a d. no_item_where (has_id (codes "indx") d)) h (is_type (codes "INFO") c) at c ∙ go h in
    ap (λ (t : Bool). if t then body_span x ∷ chosen test (inside ++ later) else chosen test (inside ++ later)) (top_items indexed c)
    ∙ ap (λ (ss : List Span). if is_type (codes "INFO") c then body_span x ∷ ss else ss)
    (chosen_append test inside later ∙ ap (λ (ss : List Span). ss ++ chosen test later) none ∙ top_infos (seen || is_type (codes "hdrl") c) (indexed || has_id (codes "idx1") c) (at + length (spell c)) cs)
    ∙ pull (is_type (codes "INFO") c) x (only (is_type (codes "INFO")) (stood (at + length (spell c)) cs))
  where
    go : (t : Bool) → (if t then map body_span (of_streams never (kids (record { at = at; chunk = bare c }))) else []) ≡ []
    go true = ap (map body_span) (only_never (flat_map kids (only (is_type (codes "strl")) (kids (record { at = at; chunk = bare c })))))
    go false = refl

pub info_parts : (b : List ℕ) → infos_of (parts_of b) ≡ map body_span (infos (avi_of b))
info_parts b =
    forms_chosen (λ p. is_items p.role) (λ a n. refl) (λ a d. no_item_far (is_movi d)) (forms b).chunks (length (spell_all (forms b).chunks)) (forms b).left
    ∙ top_infos false false 12 (top_of (forms b).chunks)
