-- Where a movie's tables keep their width, no place passes its row in a file that is not too large.
use Rattle.std.proofs.Common.{◌≡◌, ◌∙◌, ℕ, ◌+◌, ◌-◌, ◌^◌, ◌≤◌, ◌<◌, Bool, true, false, cond, ltb, leb, List, [], ◌∷◌, ◌++◌, length, map, take, drop, Option, Some, None, refl, sym, ap, subst, arith, append_assoc, append-nil}
use Rattle.std.specs.Prelude.{◌&&◌, ◌||◌, codes}
use Rattle.std.specs.List.{AllByRecursion, flat_map, list_any}
use Rattle.std.proofs.lemmas.Bool.{le-ltb}
use Rattle.std.proofs.lemmas.List.{length-append}
use Rattle.me_bytes.specs.Bytes.{IsBytes}
use Rattle.part_tree.specs.Large.{Size, first_above, is_above, limited}
use Rattle.part_tree.specs.declared.field.EditItem.{EditItem}
use Rattle.field_model.specs.Update.{effective}
use Rattle.container_model.specs.Atoms.{is}
use Rattle.container_model.specs.Chunk.{Chunk, spell, spell_all}
use Rattle.container_model.specs.Rows.{be32, be64}
use Rattle.container_model.specs.Splice.{Cut, end_of, gained, shift, splice, splice_from}
use Rattle.container_model.proofs.Walk.{all_parts}
use Rattle.mov_model.specs.After.{large_after, large_after_by, last_sizes, passes_four, sizes_by, widens, widens_by}
use Rattle.mov_model.specs.Carried.{Changes}
use Rattle.mov_model.specs.Edited.{changes, fields}
use Rattle.mov_model.specs.Large.{key_sizes, row_sizes, table_sizes, user_sizes}
use Rattle.mov_model.specs.Movie.{Movie, all_atoms, movie_of, spell_movie}
use Rattle.mov_model.specs.New.{edit_cuts, new_movie}
use Rattle.mov_model.specs.Parts.{tracks}
use Rattle.mov_model.specs.Reading.{count_parts}
use Rattle.mov_model.specs.Support.{IsHeld, Readable, TrackFine}
use Rattle.mov_model.specs.Tables.{tables}
use Rattle.mov_model.proofs.Again.{file_bytes}
use Rattle.mov_model.proofs.Clauses.{held_inside}
use Rattle.sample_tables.specs.Tables.{places, places_in, rows}

-- ---- the first size that passes its limit

pub above_none : (a b : List Size) → first_above a ≡ None → first_above (a ++ b) ≡ first_above b
above_none [] b e = refl
above_none (s ∷ a) b e = go (is_above s) e (above_none a b)
  where
    go : (t : Bool) → cond t (Some s) (first_above a) ≡ None → (first_above a ≡ None → first_above (a ++ b) ≡ first_above b) → cond t (Some s) (first_above (a ++ b)) ≡ first_above b
    go true e again = absurd cc
    go false e again = again e

above_some : (a b : List Size) (x : Size) → first_above a ≡ Some x → first_above (a ++ b) ≡ Some x
above_some [] b x e = absurd cc
above_some (s ∷ a) b x e = go (is_above s) e (above_some a b x)
  where
    go : (t : Bool) → cond t (Some s) (first_above a) ≡ Some x → (first_above a ≡ Some x → first_above (a ++ b) ≡ Some x) → cond t (Some s) (first_above (a ++ b)) ≡ Some x
    go true e again = e
    go false e again = again e

-- sizes behind others count where none of those passes
pub above_first : (a b : List Size) → (first_above a ≡ None → first_above b ≡ None) → first_above (a ++ b) ≡ first_above a
above_first a b h = go (first_above a) refl
  where
    go : (o : Option Size) → first_above a ≡ o → first_above (a ++ b) ≡ first_above a
    go None e = above_none a b e ∙ h e ∙ sym e
    go (Some x) e = above_some a b x e ∙ sym e

flat_none : {X : Type 0} (g : X → List Size) (xs : List X) → AllByRecursion (λ x. first_above (g x) ≡ None) xs → first_above (flat_map g xs) ≡ None
flat_none g [] h = refl
flat_none g (x ∷ xs) h = above_none (g x) (flat_map g xs) h.0 ∙ flat_none g xs h.1

or_off : (a b : Bool) → (a || b) ≡ false → (a ≡ false) × (b ≡ false)
or_off true b e = absurd cc
or_off false b e = (refl, e)

none_passes : (f : ℕ → ℕ) (limit : ℕ) (ps : List ℕ) → list_any (λ p. ltb limit (f p)) ps ≡ false → first_above (map (λ p. limited limit (f p)) ps) ≡ None
none_passes f limit [] e = refl
none_passes f limit (p ∷ ps) e =
    let o = or_off (ltb limit (f p)) (list_any (λ p. ltb limit (f p)) ps) e in
    ap (λ (t : Bool). cond t (Some (limited limit (f p))) (first_above (map (λ p. limited limit (f p)) ps))) o.0 ∙ none_passes f limit ps o.1

all_fit : (f : ℕ → ℕ) (limit : ℕ) (ps : List ℕ) → AllByRecursion (λ p. f p ≤ limit) ps → first_above (map (λ p. limited limit (f p)) ps) ≡ None
all_fit f limit [] h = refl
all_fit f limit (p ∷ ps) h = ap (λ (t : Bool). cond t (Some (limited limit (f p))) (first_above (map (λ p. limited limit (f p)) ps))) (le-ltb limit (f p) h.0) ∙ all_fit f limit ps h.1

-- ---- a place goes no further than what spans gain

abbrev total : List Cut → ℕ
total [] = 0
total (c ∷ cs) = length c.bytes + total cs

gained_low : (cs : List Cut) (p : ℕ) → gained cs p ≤ total cs
gained_low [] p = omega arith
gained_low (c ∷ cs) p = go (leb (end_of c) p) (gained_low cs p)
  where
    go : (t : Bool) → gained cs p ≤ total cs → elim t [ true ↦ length c.bytes + gained cs p | false ↦ 0 ] ≤ length c.bytes + total cs
    go true h = omega (arith, h)
    go false h = omega arith

splice_long : (at : ℕ) (b : List ℕ) (cs : List Cut) → total cs ≤ length (splice_from at b cs)
splice_long at b [] = omega arith
splice_long at b (c ∷ cs) =
    let rest = splice_from (end_of c) (drop (end_of c - at) b) cs in
    omega (arith, splice_long (end_of c) (drop (end_of c - at) b) cs, length-append (take (c.at - at) b) (c.bytes ++ rest), length-append c.bytes rest)

module _ (b : List ℕ) (bytes : IsBytes b) (sup : Readable b) (c : Changes) where
  abbrev v : Movie
  v = movie_of b

  abbrev f : ℕ → ℕ
  f = shift (edit_cuts v c)

  abbrev Held : ℕ → Type 0
  Held p = IsHeld (all_atoms v) p

  -- ---- the tables

  module _ (room : length b + length (splice b (edit_cuts v c)) ≤ 18446744073709551615) where
    held_low : (p : ℕ) → Held p → f p ≤ 18446744073709551615
    held_low p h =
        let low = held_inside 0 p h.0 (all_atoms v) h.1 in
        let file = ap length (file_bytes b bytes sup) in
        omega (arith, room, gained_low (edit_cuts v c) p, splice_long 0 b (edit_cuts v c), low, file, length-append (spell_all (all_atoms v)) v.left)

    held_all : (ps : List ℕ) → AllByRecursion Held ps → AllByRecursion (λ p. f p ≤ 18446744073709551615) ps
    held_all [] h = tt
    held_all (p ∷ ps) h = (held_low p h.0, held_all ps h.1)

    table_none : (t : Chunk) → AllByRecursion Held (places_in t) → passes_four f t ≡ false → first_above (row_sizes f t) ≡ None
    table_none t held pass = go (is t (codes "stco")) (is t (codes "co64")) refl refl
      where
        go : (x y : Bool) → is t (codes "stco") ≡ x → is t (codes "co64") ≡ y
            → first_above (cond x (map (λ p. limited 4294967295 (f p)) (rows be32 t)) (cond y (map (λ p. limited 18446744073709551615 (f p)) (rows be64 t)) [])) ≡ None
        go true y e i = none_passes f 4294967295 (rows be32 t) (subst (λ (x : Bool). (x && list_any (λ p. ltb 4294967295 (f p)) (rows be32 t)) ≡ false) e pass)
        go false true e i =
            let eight : places_in t ≡ rows be64 t
            = ap (λ (x : Bool). cond x (rows be32 t) (cond (is t (codes "co64")) (rows be64 t) [])) e ∙ ap (λ (x : Bool). cond x (rows be64 t) []) i in
            all_fit f 18446744073709551615 (rows be64 t) (held_all (rows be64 t) (subst (AllByRecursion Held) eight held))
        go false false e i = refl

    tables_none : (ts : List Chunk) → AllByRecursion Held (places ts) → list_any (passes_four f) ts ≡ false → first_above (flat_map (row_sizes f) ts) ≡ None
    tables_none [] held pass = refl
    tables_none (t ∷ ts) held pass =
        let q = all_parts Held (places_in t) (places ts) held in
        let o = or_off (passes_four f t) (list_any (passes_four f) ts) pass in
        above_none (row_sizes f t) (flat_map (row_sizes f) ts) (table_none t q.0 o.0) ∙ tables_none ts q.1 o.1

    tracks_none : (ts : List Chunk) → AllByRecursion (TrackFine (all_atoms v)) ts → list_any (λ (t : Chunk). list_any (passes_four f) (tables t)) ts ≡ false → first_above (flat_map (λ (t : Chunk). flat_map (row_sizes f) (tables t)) ts) ≡ None
    tracks_none [] h pass = refl
    tracks_none (t ∷ ts) h pass =
        let o = or_off (list_any (passes_four f) (tables t)) (list_any (λ (t : Chunk). list_any (passes_four f) (tables t)) ts) pass in
        above_none (flat_map (row_sizes f) (tables t)) (flat_map (λ (t : Chunk). flat_map (row_sizes f) (tables t)) ts) (tables_none (tables t) h.0.chunks_inside o.0)
        ∙ tracks_none ts h.1 o.1

  pub places_none : length b + length (splice b (edit_cuts v c)) ≤ 18446744073709551615 → list_any (λ (t : Chunk). list_any (passes_four f) (tables t)) (tracks v) ≡ false → first_above (table_sizes v c) ≡ None
  places_none room pass = tracks_none room (tracks v) sup.movie.tracks pass

-- ---- of an edit

-- the three sizes that may be too large where neither carrier is
abbrev pub three : Movie → Changes → List Size
three v c = limited 65536 (count_parts (new_movie v c)) ∷ (limited (2 ^ 26) (length (spell (new_movie v c).movie)) ∷ (limited 9223372036854775807 (length (spell_movie (new_movie v c))) ∷ []))

-- Where an item has an effect, no place of four bytes passes these and neither carrier is too large, the first size that is too large
-- is one of the three. A file of which they pass no limit has room for eight bytes.
pub large_law : (b : List ℕ) (e : List EditItem) → IsBytes b → Readable b → 0 < length (effective (fields b) e) → widens b e ≡ false
    → first_above (user_sizes (movie_of b) (changes b e).users ++ key_sizes (movie_of b) (changes b e).keys) ≡ None
    → (first_above (three (movie_of b) (changes b e)) ≡ None → length b + length (splice b (edit_cuts (movie_of b) (changes b e))) ≤ 18446744073709551615)
    → large_after b e ≡ first_above (three (movie_of b) (changes b e))
large_law b e bytes sup some narrow carriers room = with_effect (effective (fields b) e) some narrow ∙ first
  where
    with_effect : (is : List EditItem) → 0 < length is → widens b e ≡ false → large_after_by b (changes b e) (widens b e) is ≡ first_above (sizes_by b (changes b e) false)
    with_effect [] h n = absurd (omega (arith, h))
    with_effect (i ∷ is) h n = ap (λ (t : Bool). first_above (sizes_by b (changes b e) t)) n

    passes_none : (is : List EditItem) → 0 < length is → widens_by (movie_of b) (changes b e) is ≡ false → list_any (λ (t : Chunk). list_any (passes_four (shift (edit_cuts (movie_of b) (changes b e)))) (tables t)) (tracks (movie_of b)) ≡ false
    passes_none [] h n = absurd (omega (arith, h))
    passes_none (i ∷ is) h n = n

    first : first_above (sizes_by b (changes b e) false) ≡ first_above (three (movie_of b) (changes b e))
    first =
        let users = user_sizes (movie_of b) (changes b e).users in
        let keys = key_sizes (movie_of b) (changes b e).keys in
        let ts = table_sizes (movie_of b) (changes b e) in
        let all = three (movie_of b) (changes b e) in
        ap first_above (append-nil (last_sizes (movie_of b) (changes b e)) ∙ sym (append_assoc users keys (all ++ ts)))
        ∙ above_none (users ++ keys) (all ++ ts) carriers
        ∙ above_first all ts (λ none. places_none b bytes sup (changes b e) (room none) (passes_none (effective (fields b) e) some narrow))
