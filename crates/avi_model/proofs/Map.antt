-- What a reader tells of a supported file: as many parts as are counted, and bodies that stand in the file.
use Rattle.std.proofs.Common.{◌≡◌, ℕ, suc, ◌+◌, Bool, true, false, cond, List, [], ◌∷◌, ◌++◌, length, map, refl, sym, ap, ◌∙◌, arith, take, drop}
use Rattle.std.specs.Prelude.{codes, filter, ◌&&◌, ◌||◌, not}
use Rattle.std.specs.List.{flat_map, AllByRecursion}
use Rattle.part_tree.specs.declared.names.Span.{Span}
use Rattle.part_tree.specs.Parts.{rest_parts, count_role, count_parts}
use Rattle.part_tree.specs.declared.part.Part.{Part}
use Rattle.part_tree.specs.declared.part.Role.{Role}
use Rattle.part_tree.specs.declared.part.Role.TheVariants.{Padding, Info, Tables, Essence}
use Rattle.container_model.specs.Chunk.{Chunk, spell, spell_all}
use Rattle.container_model.specs.Stood.{Stood, bare, stood}
use Rattle.container_model.proofs.Codec.{IsBytes}
use Rattle.carrier_model.specs.Info.{is_padding, is_type, list_run}
use Rattle.avi_model.specs.Avi.{forms, avi_of, has_id, kids, is_movi, old_indexes, essence, body_span}
use Rattle.container_model.specs.Tables.{Table, table_of}
use Rattle.avi_model.specs.Index.{indexes, olds, table_span}
use Rattle.avi_model.specs.Support.{Supported, parts}
use Rattle.avi_model.specs.Reading.{end_at, flat_steps, stream_steps, list_end, inside_steps, top_steps, first_steps, further_steps, form_steps, parts_met}
use Rattle.avi_model.specs.Map.{role_where, list_rest, top_role, plain_parts, kid_parts, further_parts, item_role, stream_role, stream_parts, inside_parts, top_parts, further_role, form_parts, parts_of, bytes_in, essence_spans}
use Rattle.avi_model.proofs.Among.{Among, all_among}
use Rattle.avi_model.proofs.Whys.{parts_append, flat_count}
use Rattle.avi_model.proofs.Exact.{reading_count}
use Rattle.avi_model.proofs.Stands.{index_stands, old_stands, essence_stands}

-- ---- as many parts as are counted

count_append : (ps qs : List Part) → count_parts (ps ++ qs) ≡ count_parts ps + count_parts qs
count_append [] qs = omega arith
count_append (p ∷ ps) qs = omega (arith, count_append ps qs)

no_rest : (at : ℕ) (b : List ℕ) → count_parts (rest_parts at b) ≡ 0
no_rest at [] = refl
no_rest at (x ∷ b) = refl

-- a chunk is counted
abbrev Counted : (Chunk → Role) → Type 0
Counted role = (c : Chunk) → count_role (role c) ≡ 1

where_counted : (t : Bool) (role : Role) → count_role role ≡ 1 → count_role (role_where t role) ≡ 1
where_counted true role h = h
where_counted false role h = refl

plain_told : (role : Chunk → Role) → Counted role → (at : ℕ) (cs : List Chunk) → count_parts (plain_parts role at cs) ≡ length cs
plain_told role h at [] = refl
plain_told role h at (c ∷ cs) = omega (arith, h c, plain_told role h (at + length (spell c)) cs)

kids_told : (role : Chunk → Role) → Counted role → (at : ℕ) (c : Chunk) → count_parts (kid_parts role at c) ≡ parts_met (flat_steps (record { at = at; chunk = bare c }))
kids_told role h at c = plain_told role h (at + 12) (list_run c).chunks ∙ sym (flat_count (record { at = at; chunk = bare c }))

list_told : (role : Chunk → Role) → Counted role → (at : ℕ) (c : Chunk) → count_parts (kid_parts role at c ++ list_rest at c) ≡ parts_met (flat_steps (record { at = at; chunk = bare c }))
list_told role h at c = omega (arith, kids_told role h at c, count_append (kid_parts role at c) (list_rest at c), no_rest (at + 12 + length (spell_all (list_run c).chunks)) (list_run c).left)

stream_counted : Counted stream_role
stream_counted c = where_counted (has_id (codes "indx") c) Tables refl

further_counted : Counted further_role
further_counted c = where_counted (is_movi c) Essence refl

item_counted : Counted item_role
item_counted c = refl

top_counted : (indexed : Bool) → Counted (top_role indexed)
top_counted indexed c = go (is_padding c) (is_type (codes "INFO") c) (is_movi c)
  where
    go : (t u v : Bool) → count_role (cond t Padding (cond u Info (cond v Essence (role_where (not indexed && has_id (codes "idx1") c) Tables)))) ≡ 1
    go true u v = refl
    go false true v = refl
    go false false true = refl
    go false false false = where_counted (not indexed && has_id (codes "idx1") c) Tables refl

streams_told : (at : ℕ) (cs : List Chunk) → count_parts (stream_parts at cs) ≡ parts_met (flat_map stream_steps (stood at cs))
streams_told at [] = refl
streams_told at (c ∷ cs) = go (is_type (codes "strl") c) (streams_told (at + length (spell c)) cs)
  where
    go : (t : Bool) → count_parts (stream_parts (at + length (spell c)) cs) ≡ parts_met (flat_map stream_steps (stood (at + length (spell c)) cs))
        → 1 + count_parts (cond t (kid_parts stream_role at c ++ list_rest at c) [] ++ stream_parts (at + length (spell c)) cs) ≡ 1 + parts_met (cond t (flat_steps (record { at = at; chunk = bare c })) [] ++ flat_map stream_steps (stood (at + length (spell c)) cs))
    go true e =
        let more = stream_parts (at + length (spell c)) cs in
        let steps = flat_map stream_steps (stood (at + length (spell c)) cs) in
        omega (arith, e, list_told stream_role stream_counted at c, count_append (kid_parts stream_role at c ++ list_rest at c) more, parts_append (flat_steps (record { at = at; chunk = bare c })) steps)
    go false e = omega (arith, e)

inside_told : (h i : Bool) (at : ℕ) (c : Chunk) → count_parts (inside_parts h i at c) ≡ parts_met (inside_steps h i (record { at = at; chunk = bare c }))
inside_told true i at c =
    let x : Stood = record { at = at; chunk = bare c } in
    omega (arith, streams_told (at + 12) (list_run c).chunks, count_append (stream_parts (at + 12) (list_run c).chunks) (list_rest at c), no_rest (at + 12 + length (spell_all (list_run c).chunks)) (list_run c).left, parts_append (flat_map stream_steps (kids x)) (list_end x ∷ []))
inside_told false true at c = list_told item_role item_counted at c
inside_told false false at c = refl

top_told : (seen indexed : Bool) (at : ℕ) (cs : List Chunk) → count_parts (top_parts seen indexed at cs) ≡ parts_met (top_steps seen (stood at cs))
top_told seen indexed at [] = refl
top_told seen indexed at (c ∷ cs) =
    let x : Stood = record { at = at; chunk = bare c } in
    let h = not seen && is_type (codes "hdrl") c in
    let i = is_type (codes "INFO") c in
    let seen2 = seen || is_type (codes "hdrl") c in
    let indexed2 = indexed || has_id (codes "idx1") c in
    let q = at + length (spell c) in
    omega (
      arith,
      top_counted indexed c,
      inside_told h i at c,
      top_told seen2 indexed2 q cs,
      count_append (inside_parts h i at c) (top_parts seen2 indexed2 q cs),
      parts_append (inside_steps h i x) (top_steps seen2 (stood q cs)),
    )

further_told : (at : ℕ) (cs : List Chunk) → count_parts (further_parts at cs) ≡ parts_met (flat_map further_steps (stood at cs))
further_told at [] = refl
further_told at (c ∷ cs) =
    let x : Stood = record { at = at; chunk = bare c } in
    let q = at + length (spell c) in
    omega (
      arith,
      kids_told further_role further_counted at c,
      further_told q cs,
      count_append (kid_parts further_role at c) (list_rest at c ++ further_parts q cs),
      count_append (list_rest at c) (further_parts q cs),
      no_rest (at + 12 + length (spell_all (list_run c).chunks)) (list_run c).left,
      parts_append (further_steps x) (flat_map further_steps (stood q cs)),
    )

forms_told : (cs : List Chunk) → count_parts (form_parts cs) ≡ parts_met (form_steps (stood 0 cs))
forms_told [] = refl
forms_told (c ∷ cs) =
    let x : Stood = record { at = 0; chunk = bare c } in
    let q = 0 + length (spell c) in
    let front : q ≡ length (spell c) = omega arith in
    omega (
      arith,
      top_told false false 12 (list_run c).chunks,
      ap (λ (k : ℕ). count_parts (further_parts k cs)) front,
      further_told q cs,
      count_append (top_parts false false 12 (list_run c).chunks) (list_rest 0 c ++ further_parts (length (spell c)) cs),
      count_append (list_rest 0 c) (further_parts (length (spell c)) cs),
      no_rest (0 + 12 + length (spell_all (list_run c).chunks)) (list_run c).left,
      parts_append (first_steps x) (flat_map further_steps (stood q cs)),
      parts_append (top_steps false (kids x)) (list_end x ∷ []),
    )

pub parts_told : (b : List ℕ) → count_parts (parts_of b) ≡ parts (avi_of b)
parts_told b =
    omega (
      arith,
      forms_told (forms b).chunks,
      count_append (form_parts (forms b).chunks) (rest_parts (length (spell_all (forms b).chunks)) (forms b).left),
      no_rest (length (spell_all (forms b).chunks)) (forms b).left,
      parts_append (form_steps (stood 0 (forms b).chunks)) (end_at (length (spell_all (forms b).chunks)) (forms b).stop ∷ []),
      reading_count b,
    )

-- ---- bodies that stand in the file

spans_stand : {A : Type 0} (b : List ℕ) (span : A → Span) (body : A → List ℕ) (xs : List A) → AllByRecursion (λ x. bytes_in b (span x) ≡ body x) xs → map (bytes_in b) (map span xs) ≡ map body xs
spans_stand b span body [] h = refl
spans_stand b span body (x ∷ xs) h = rw (h.0, spans_stand b span body xs h.1) refl

module _ (o : List ℕ) (bytes : IsBytes o) (s : Supported o) where
  pub essence_told : map (bytes_in o) (essence_spans o) ≡ map (λ x. x.chunk.body) (essence (avi_of o))
  essence_told = let xs = essence (avi_of o) in spans_stand o body_span (λ (x : Stood). x.chunk.body) xs (all_among _ xs (λ x i. essence_stands o bytes s x i))

  kept_told : (p : Table → Bool) (ts : List Table) → AllByRecursion (λ t. bytes_in o (table_span t) ≡ t.body) ts → AllByRecursion (λ t. bytes_in o (table_span t) ≡ t.body) (filter p ts)
  kept_told p [] h = tt
  kept_told p (t ∷ ts) h = go (p t) (kept_told p ts h.1)
    where
      go : (u : Bool) → AllByRecursion (λ t. bytes_in o (table_span t) ≡ t.body) (filter p ts) → AllByRecursion (λ t. bytes_in o (table_span t) ≡ t.body) (cond u (t ∷ filter p ts) (filter p ts))
      go true again = (h.0, again)
      go false again = again

  pub tables_told : (p : Table → Bool) → map (bytes_in o) (map table_span (filter p (indexes o))) ≡ map (λ t. t.body) (filter p (indexes o))
  tables_told p =
      let all : AllByRecursion (λ t. bytes_in o (table_span t) ≡ t.body) (indexes o) = all_among _ (indexes o) (λ t i. index_stands o bytes s t i) in
      spans_stand o table_span (λ (t : Table). t.body) (filter p (indexes o)) (kept_told p (indexes o) all)

  pub olds_told : map (bytes_in o) (map table_span (olds o)) ≡ map (λ t. t.body) (olds o)
  olds_told = spans_stand o table_span (λ (t : Table). t.body) (olds o) (all_among _ (olds o) (λ t i. go t (Rattle.avi_model.proofs.Among.among_map table_of (old_indexes (avi_of o)) t i)))
    where
      go : (t : Table) → Rattle.avi_model.proofs.Among.AmongMap Stood Table table_of t (old_indexes (avi_of o)) → bytes_in o (table_span t) ≡ t.body
      go t m = Rattle.std.proofs.Common.subst (λ (u : Table). bytes_in o (table_span u) ≡ u.body) m.same (old_stands o bytes s m.from m.from_among)
