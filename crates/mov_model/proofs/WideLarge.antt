-- What is too large where tables are widened, how long the new file is, and by how much moov grows, by the tables that are told.
use Rattle.std.proofs.Common.{Bool, List, None, Option, Some, [], ap, arith, false, length, map, refl, subst, sym, true, ℕ, ◌++◌, ◌+◌, ◌<◌, ◌^◌, ◌∙◌, ◌∷◌, ◌≡◌, ◌≤◌}
use Rattle.std.specs.Prelude.{codes, not, sum_by, ◌&&◌, ◌||◌}
use Rattle.part_tree.specs.Large.{Size, first_above, limited}
use Rattle.part_tree.specs.declared.field.EditItem.{EditItem}
use Rattle.field_model.specs.Update.{effective}
use Rattle.container_model.proofs.Codec.{IsBytes}
use Rattle.container_model.proofs.Items.{same_true}
use Rattle.container_model.specs.Atoms.{atoms_in, is}
use Rattle.container_model.specs.Chunk.{Chunk, Run, spell, spell_all}
use Rattle.container_model.specs.Walk.{along, body_at, end_at, walk}
use Rattle.mov_model.specs.After.{large_after, large_after_by, sizes_by, widens, widens_by}
use Rattle.mov_model.specs.Atoms.{format, moov, user_data}
use Rattle.mov_model.specs.Carried.{Changes}
use Rattle.mov_model.specs.Cuts.{row_tables}
use Rattle.mov_model.specs.Edited.{changes, fields}
use Rattle.mov_model.specs.Large.{key_sizes, user_sizes}
use Rattle.mov_model.specs.Movie.{Movie, movie_of, spell_movie}
use Rattle.mov_model.specs.New.{edited_file, new_movie}
use Rattle.mov_model.specs.Reading.{count_parts, inside_at, inside_steps, kid_steps, row}
use Rattle.mov_model.specs.Support.{Readable}
use Rattle.mov_model.specs.Widen.{growth, past_moov, widened_file}
use Rattle.mov_model.specs.WideCuts.{row_growth, rows_growth}
use Rattle.mov_model.proofs.Again.{kids, mov}
use Rattle.mov_model.proofs.Large.{Within}
use Rattle.mov_model.proofs.WideGrown.{along_grows, growth_two, ready_each, wide_grows}
use Rattle.mov_model.proofs.WideLaw.{again}
use Rattle.mov_model.proofs.WideMovie.{all_ready, es_length}
use Rattle.mov_model.proofs.WideSizes.{file_same, wide_sizes_pass}
use Rattle.mov_model.proofs.WideSpliced.{kids_grow, read_wide}
use Rattle.qt_text.specs.User.{udta}

-- sizes that pass no limit are passed over
pub skip_within : (a b : List Size) → Within a → first_above (a ++ b) ≡ first_above b
skip_within [] b w = refl
skip_within (x ∷ a) b w = ap (λ (t : Bool). Rattle.std.proofs.Common.cond t (Some x) (first_above (a ++ b))) (Rattle.std.proofs.lemmas.Bool.le-ltb x.limit x.size w.0) ∙ skip_within a b w.1

-- ---- the rows that are told

-- user data holds no table
row_none : (at : ℕ) (cs : List Chunk) → rows_growth (row user_data at cs) ≡ 0
row_none at [] = refl
row_none at (c ∷ cs) = row_none (at + length (spell c)) cs

user_none : (at : ℕ) (c : Chunk) → udta.is c ≡ true → rows_growth (kid_steps true at c) ≡ rows_growth (walk format 5 moov at c)
unfolding walk
user_none at c i =
    let ks = (udta.opening c).chunks in
    let a = row user_data (body_at at c) ks in
    let b = end_at user_data (body_at at c + length (spell_all ks)) (udta.opening c).stop ∷ [] in
    let none : rows_growth b ≡ 0 = refl in
    let track : is c (codes "trak") ≡ false = rw (same_true c.id (codes "udta") i) refl in
    let left : rows_growth (a ++ b) ≡ 0 = omega (arith, growth_two a b, row_none (body_at at c) ks, none) in
    rw track left

kid_rows : (b : Bool) (at : ℕ) (c : Chunk) → (b ≡ true → udta.is c ≡ true) → rows_growth (kid_steps b at c) ≡ rows_growth (walk format 5 moov at c)
kid_rows true at c i = user_none at c (i refl)
kid_rows false at c i = refl

inside_rows : (seen : Bool) (at : ℕ) (cs : List Chunk) → rows_growth (inside_steps seen at cs) ≡ rows_growth (along (walk format 5 moov) at cs)
inside_rows seen at [] = refl
inside_rows seen at (c ∷ cs) =
    let next = at + length (spell c) in
    let b = not seen && udta.is c in
    omega (
      arith,
      growth_two (kid_steps b at c) (inside_steps (seen || udta.is c) next cs),
      growth_two (walk format 5 moov at c) (along (walk format 5 moov) next cs),
      kid_rows b at c (both seen (udta.is c)),
      inside_rows (seen || udta.is c) next cs,
    )
  where
    both : (x y : Bool) → (not x && y) ≡ true → y ≡ true
    both true y e = absurd cc
    both false y e = e

module _ (o : List ℕ) (bytes : IsBytes o) (sup : Readable o) (small : length (spell (movie_of o).movie) ≤ 2 ^ 26) (low : length o < 2 ^ 63) where
  abbrev old : Movie
  old = mov o bytes sup

  -- moov grows by the rows of its tables
  pub growth_is : (e : Changes) → growth old ≡ sum_by row_growth (row_tables o)
  growth_is e =
      let ks = kids o bytes sup in
      let at = inside_at old in
      let last = end_at moov (at + length (spell_all ks)) (atoms_in old.movie).stop ∷ [] in
      let none : rows_growth last ≡ 0 = refl in
      let grown = along_grows 5 moov (λ x k r. wide_grows 5 moov x k r) at ks (ready_each 5 moov ks (all_ready o bytes sup small)) in
      omega (
        arith,
        grown,
        kids_grow o bytes sup small low e,
        ap (λ (r : Run). length (spell_all r.chunks)) (read_wide o bytes sup small low e),
        es_length o bytes sup small (past_moov old),
        growth_two (inside_steps false at ks) last,
        none,
        inside_rows false at ks,
      )

  -- how long the new file is
  pub wide_file_length : (e : Changes) → length (edited_file (widened_file o) e) ≡ length (spell_movie (new_movie old e)) + growth old
  unfolding edited_file
  wide_file_length e = ap (λ (x : Movie). length (spell_movie (new_movie x e))) (again o bytes sup small) ∙ file_same o bytes sup small low e

  -- where the carriers are small, it is the first of these that passes
  pub wide_large : (es : List EditItem) → widens o es ≡ true → Within (user_sizes old (changes o es).users) → Within (key_sizes old (changes o es).keys)
      → large_after o es
      ≡ first_above (limited 65536 (count_parts (new_movie old (changes o es))) ∷ (limited (2 ^ 26) (length (spell (new_movie old (changes o es)).movie) + growth old) ∷ (limited 9223372036854775807 (length (spell_movie (new_movie old (changes o es))) + growth old) ∷ [])))
  wide_large es wide us ks =
      let c = changes o es in
      let three = limited 65536 (count_parts (new_movie old c)) ∷ (limited (2 ^ 26) (length (spell (new_movie old c).movie) + growth old) ∷ (limited 9223372036854775807 (length (spell_movie (new_movie old c)) + growth old) ∷ [])) in
      ap (λ (t : Bool). large_after_by o c t (effective (fields o) es)) wide ∙ go (effective (fields o) es) wide ∙ wide_sizes_pass o bytes sup small low c
      ∙ skip_within (user_sizes old c.users) (key_sizes old c.keys ++ three) us ∙ skip_within (key_sizes old c.keys) three ks
    where
      go : (x : List EditItem) → widens_by (movie_of o) (changes o es) x ≡ true → large_after_by o (changes o es) true x ≡ first_above (sizes_by o (changes o es) true)
      go [] h = absurd cc
      go (i ∷ is) h = refl
