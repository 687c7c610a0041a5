-- The lists of the first form, among the parts that were read.
use Rattle.std.proofs.Common.{◌≡◌, ◌∙◌, ℕ, suc, ◌+◌, ◌<◌, Bool, true, false, eqb, List, [], ◌∷◌, ◌++◌, length, map, take, refl, sym, ap, arith}
use Rattle.std.specs.Prelude.{codes, if◌then◌else◌, ◌&&◌, ◌||◌, not, nat_lt, ◌==◌}
use Rattle.std.proofs.lemmas.Bool.{lt-ltb, ne_eqb}
use Rattle.std.specs.Str.{bytes_eq}
use Rattle.std.specs.List.{list_any}
use Rattle.opendml_index.proofs.Known.{same_true}
use Rattle.std.proofs.lemmas.List.{append-nil}
use Rattle.part_tree.specs.declared.names.Span.{Span}
use Rattle.part_tree.specs.declared.part.Part.{Part}
use Rattle.part_tree.specs.declared.part.Role.{Role}
use Rattle.part_tree.specs.declared.part.Role.TheVariants as role
use Rattle.part_tree.specs.Letters.{four}
use Rattle.part_tree.specs.Parts.{rest_parts}
use Rattle.container_model.specs.Chunk.{Chunk, spell, spell_all}
use Rattle.container_model.specs.Stood.{Stood, stood, bare, only, first_of}
use Rattle.carrier_model.specs.Info.{is_type, list_run, own_size}
use Rattle.avi_model.specs.Avi.{body_span, has_id, is_movi}
use Rattle.avi_model.specs.Map.{role_where, part, plain_parts, kid_parts, list_rest, item_role, stream_role, top_role, stream_parts, inside_parts, top_parts}
use Rattle.avi_file.specs.Walk.{chosen, is_essence, essence_of}
use Rattle.avi_file.proofs.Placed.{chosen_append}

-- ---- none of a type

pub none_of_type : (w : List ℕ) (at : ℕ) (cs : List Chunk) → (length (first_of (only (is_type w) (stood at cs))) == 0) ≡ not (list_any (is_type w) cs)
none_of_type w at [] = refl
none_of_type w at (c ∷ cs) = go (is_type w c) (none_of_type w (at + length (spell c)) cs)
  where
    go : (t : Bool) → (length (first_of (only (is_type w) (stood (at + length (spell c)) cs))) == 0) ≡ not (list_any (is_type w) cs)
        → (length (first_of (if t then record { at = at; chunk = bare c } ∷ only (is_type w) (stood (at + length (spell c)) cs) else only (is_type w) (stood (at + length (spell c)) cs))) == 0) ≡ not (t || list_any (is_type w) cs)
    go true e = refl
    go false e = e

-- ---- parts that aren't chosen

rests_none : (test : Part → Bool) → ((at n : ℕ) → test (record { id = four (0 ∷ 0 ∷ 0 ∷ 0 ∷ []); at = at; body = record { at = at; len = n }; next = at + n; role = role.Rest }) ≡ false) → (at : ℕ) (b : List ℕ) → chosen test (rest_parts at b) ≡ []
rests_none test h at [] = refl
rests_none test h at (x ∷ b) = ap (λ (t : Bool). if t then record { at = at; len = length (x ∷ b) } ∷ [] else []) (h at (length (x ∷ b)))

plain_none : (test : Part → Bool) (role : Chunk → Role) → ((at : ℕ) (c : Chunk) → test (part (role c) at c) ≡ false) → (at : ℕ) (cs : List Chunk) → chosen test (plain_parts role at cs) ≡ []
plain_none test role h at [] = refl
plain_none test role h at (c ∷ cs) =
    ap (λ (t : Bool). if t then body_span (record { at = at; chunk = bare c }) ∷ chosen test (plain_parts role (at + length (spell c)) cs) else chosen test (plain_parts role (at + length (spell c)) cs)) (h at c) ∙ plain_none test role h (at + length (spell c)) cs

pub essence_rest : (at : ℕ) (b : List ℕ) → essence_of (rest_parts at b) ≡ []
essence_rest at b = rests_none (λ p. is_essence p.role) (λ at n. refl) at b

where_none : (t : Bool) → is_essence (role_where t role.Tables) ≡ false
where_none true = refl
where_none false = refl

list_none : (role : Chunk → Role) → ((c : Chunk) → is_essence (role c) ≡ false) → (at : ℕ) (c : Chunk) → essence_of (kid_parts role at c ++ list_rest at c) ≡ []
list_none role h at c =
    chosen_append (λ p. is_essence p.role) (kid_parts role at c) (list_rest at c)
    ∙ ap (λ (ss : List Span). ss ++ essence_of (list_rest at c)) (plain_none (λ p. is_essence p.role) role (λ a d. h d) (at + 12) (list_run c).chunks)
    ∙ essence_rest (at + 12 + length (spell_all (list_run c).chunks)) (list_run c).left

streams_none : (at : ℕ) (cs : List Chunk) → essence_of (stream_parts at cs) ≡ []
streams_none at [] = refl
streams_none at (c ∷ cs) = go (is_type (codes "strl") c) (streams_none (at + length (spell c)) cs)
  where
    go : (t : Bool) → essence_of (stream_parts (at + length (spell c)) cs) ≡ [] → essence_of ((if t then kid_parts stream_role at c ++ list_rest at c else []) ++ stream_parts (at + length (spell c)) cs) ≡ []
    go true e =
        chosen_append (λ p. is_essence p.role) (kid_parts stream_role at c ++ list_rest at c) (stream_parts (at + length (spell c)) cs)
        ∙ ap (λ (ss : List Span). ss ++ essence_of (stream_parts (at + length (spell c)) cs)) (list_none stream_role (λ d. where_none (has_id (codes "indx") d)) at c) ∙ e
    go false e = e

inside_none : (h i : Bool) (at : ℕ) (c : Chunk) → essence_of (inside_parts h i at c) ≡ []
inside_none true i at c =
    chosen_append (λ p. is_essence p.role) (stream_parts (at + 12) (list_run c).chunks) (list_rest at c)
    ∙ ap (λ (ss : List Span). ss ++ essence_of (list_rest at c)) (streams_none (at + 12) (list_run c).chunks)
    ∙ essence_rest (at + 12 + length (spell_all (list_run c).chunks)) (list_run c).left
inside_none false true at c = list_none item_role (λ d. refl) at c
inside_none false false at c = refl

-- ---- the essence of the first form

differ : (x a b : List ℕ) → bytes_eq a b ≡ false → bytes_eq x a ≡ true → bytes_eq x b ≡ false
differ x a b h e = ap (λ (y : List ℕ). bytes_eq y b) (same_true x a e) ∙ h

role_tests : (own junk list info movi x : Bool) → (junk ≡ true → list ≡ false) → (info ≡ true → movi ≡ false)
    → is_essence (if own && junk then role.Padding else (if own && (list && info) then role.Info else (if own && (list && movi) then role.Essence else role_where x role.Tables))) ≡ (own && (list && movi))
role_tests false junk list info movi x p q = where_none x
role_tests true true list info movi x p q = sym (ap (λ (t : Bool). t && movi) (p refl))
role_tests true false false info movi x p q = where_none x
role_tests true false true true movi x p q = sym (q refl)
role_tests true false true false true x p q = refl
role_tests true false true false false x p q = where_none x

pub essence_role : (indexed : Bool) (c : Chunk) → is_essence (top_role indexed c) ≡ is_movi c
essence_role indexed c =
    role_tests (own_size c.form) (bytes_eq c.id (codes "JUNK")) (bytes_eq c.id (codes "LIST")) (bytes_eq (take 4 c.body) (codes "INFO")) (bytes_eq (take 4 c.body) (codes "movi")) (not indexed && has_id (codes "idx1") c)
    (differ c.id (codes "JUNK") (codes "LIST") refl) (differ (take 4 c.body) (codes "INFO") (codes "movi") refl)

pub essence_top : (seen indexed : Bool) (at : ℕ) (cs : List Chunk) → essence_of (top_parts seen indexed at cs) ≡ map body_span (only is_movi (stood at cs))
essence_top seen indexed at [] = refl
essence_top seen indexed at (c ∷ cs) =
    let later = top_parts (seen || is_type (codes "hdrl") c) (indexed || has_id (codes "idx1") c) (at + length (spell c)) cs in
    let inside = inside_parts (not seen && is_type (codes "hdrl") c) (is_type (codes "INFO") c) at c in
    let x : Stood = record { at = at; chunk = bare c } in
    let rest : essence_of (inside ++ later) ≡ map body_span (only is_movi (stood (at + length (spell c)) cs)) =
    chosen_append (λ p. is_essence p.role) inside later
    ∙ ap (λ (ss : List Span). ss ++ essence_of later) (inside_none (not seen && is_type (codes "hdrl") c) (is_type (codes "INFO") c) at c)
    ∙ essence_top (seen || is_type (codes "hdrl") c) (indexed || has_id (codes "idx1") c) (at + length (spell c)) cs
    in
    ap (λ (t : Bool). if t then body_span x ∷ essence_of (inside ++ later) else essence_of (inside ++ later)) (essence_role indexed c)
    ∙ ap (λ (ss : List Span). if is_movi c then body_span x ∷ ss else ss) rest
    ∙ pull (is_movi c) x (only is_movi (stood (at + length (spell c)) cs))
  where
    pull : (t : Bool) (x : Stood) (xs : List Stood) → (if t then body_span x ∷ map body_span xs else map body_span xs) ≡ map body_span (if t then x ∷ xs else xs)
    pull true x xs = refl
    pull false x xs = refl

there_some : (n : ℕ) → 0 < n → eqb n 0 ≡ false
there_some n lt = ne_eqb n 0 (λ e. absurd (omega arith))

none_left : {X Y : Type 0} (f : X → Y) (xs : List X) → (length xs == 0) ≡ not (nat_lt 0 (length (map f xs)))
none_left f [] = refl
none_left f (x ∷ xs) = there_some (suc (length xs)) (omega arith) ∙ ap not (sym (lt-ltb 0 (suc (length (map f xs))) (omega arith)))

-- whether the first form has a list of essence
pub no_movi : (c : Chunk) (ps : List Part) → ps ≡ top_parts false false 12 (list_run c).chunks ++ rest_parts (12 + length (spell_all (list_run c).chunks)) (list_run c).left → (length (only is_movi (stood 12 (list_run c).chunks)) == 0) ≡ not (nat_lt 0 (length (essence_of ps)))
no_movi c ps same =
    let all = top_parts false false 12 (list_run c).chunks in
    let rest = rest_parts (12 + length (spell_all (list_run c).chunks)) (list_run c).left in
    let movis : essence_of ps ≡ map body_span (only is_movi (stood 12 (list_run c).chunks)) =
    ap essence_of same ∙ chosen_append (λ p. is_essence p.role) all rest ∙ ap (λ (ss : List Span). essence_of all ++ ss) (essence_rest (12 + length (spell_all (list_run c).chunks)) (list_run c).left)
    ∙ append-nil (essence_of all) ∙ essence_top false false 12 (list_run c).chunks
    in
    none_left body_span (only is_movi (stood 12 (list_run c).chunks)) ∙ ap (λ (ss : List Span). not (nat_lt 0 (length ss))) (sym movis)
