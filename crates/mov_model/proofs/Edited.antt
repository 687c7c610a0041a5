-- The edit, whole; and that nothing is edited without an item.
use Rattle.std.proofs.Common.{Bool, List, [], ap, arith, cond, false, length, map, refl, true, ℕ, ◌++◌, ◌+◌, ◌∙◌, ◌∷◌, ◌≡◌}
use Rattle.std.specs.Prelude.{not, ◌&&◌}
use Rattle.std.proofs.lemmas.Bool.{le-ltb}
use Rattle.std.specs.List.{AllByRecursion}
use Rattle.container_model.proofs.Codec.{IsBytes}
use Rattle.container_model.proofs.Read.{Atom}
use Rattle.container_model.specs.Chunk.{Chunk, spell, spell_all}
use Rattle.container_model.specs.Deep.{Whole}
use Rattle.container_model.specs.Items.{is_nil, values}
use Rattle.container_model.specs.Sizes.{inside}
use Rattle.container_model.specs.Splice.{Cut, shift}
use Rattle.container_model.specs.Units.{Fill, Piece, copied, cuts, is_empty, kept_next, lacks_pad, lay, shut, units}
use Rattle.mov_model.proofs.Again.{file_bytes, kids, kids_bytes, kids_joined, kids_read, moov_left, mov, movie_again, whole_kids}
use Rattle.mov_model.proofs.Clauses.{new_kept, new_keys, new_pieces, new_users}
use Rattle.mov_model.specs.Carried.{Changes}
use Rattle.mov_model.specs.Keys.{first_table}
use Rattle.qt_keys.specs.Set.{key_values}
use Rattle.mov_model.proofs.Supported.{new_supported}
use Rattle.mov_model.proofs.Tables.{relocated_none}
use Rattle.mov_model.specs.Atoms.{cell_by, cell_of, format, is_padding, moov}
use Rattle.container_model.specs.Atoms.{atoms_in}
use Rattle.mov_model.proofs.Fits.{CanSet, EditedBy, Fits}
use Rattle.mov_model.specs.Kept.{kept_in}
use Rattle.mov_model.specs.Movie.{Movie, movie_of, spell_movie}
use Rattle.mov_model.specs.New.{edit_cuts, ends_file, ends_open, fill, gaps_of, grown, hanging, is_open, kids_at, edited_file, new_kids, new_movie, padding_behind, past_gaps, pieces_of, rest_behind, whole_pieces}
use Rattle.mov_model.specs.Parts.{first_items, parts}
use Rattle.mov_model.specs.Pieces.{pieces_in}
use Rattle.mov_model.specs.Support.{Readable}
use Rattle.mov_model.specs.Tables.{relocated}
use Rattle.qt_text.specs.User.{user_items}

-- ---- without an item

atom_padded : (c : Chunk) → Atom inside c → lacks_pad c ≡ false
atom_padded c a = le-ltb _ _ (omega (arith, a.pad_none))

pieces_none : (cs : List Chunk) → AllByRecursion (Atom inside) cs → units shut (map cell_of cs) ≡ map copied cs
unfolding units
pieces_none [] h = refl
pieces_none (c ∷ cs) h = go (is_padding c.id) (pieces_none cs h.1)
  where
    next : units shut (map cell_of cs) ≡ map copied cs → kept_next (lacks_pad c && not (is_empty (map cell_of cs))) c (λ t. units t (map cell_of cs)) ≡ copied c ∷ map copied cs
    next again = ap (λ (t : Bool). kept_next (t && not (is_empty (map cell_of cs))) c (λ t. units t (map cell_of cs))) (atom_padded c h.0) ∙ ap (λ (ps : List Piece). copied c ∷ ps) again

    go : (t : Bool) → units shut (map cell_of cs) ≡ map copied cs → units shut (cell_by c t ∷ map cell_of cs) ≡ copied c ∷ map copied cs
    go true again = next again
    go false again = next again

lay_none : (f : Fill) (cs : List Chunk) → lay f (map copied cs) ≡ cs
lay_none f [] = refl
lay_none f (c ∷ cs) = ap (λ (x : List Chunk). c ∷ x) (lay_none f cs)

none_open : (cs : List Chunk) → ends_open (map copied cs) ≡ false
none_open [] = refl
none_open (c ∷ cs) = none_open cs

cuts_none : (f : Fill) (at : ℕ) (cs : List Chunk) → cuts f at (map copied cs) ≡ []
cuts_none f at [] = refl
cuts_none f at (c ∷ cs) = cuts_none f (at + length (spell c)) cs

and_false : (a b : Bool) → b ≡ false → (a && b) ≡ false
and_false true b e = e
and_false false b e = refl

shift_none : (p : ℕ) → shift [] p ≡ p
shift_none p = omega arith

relocated_all : (f : ℕ → ℕ) → ((p : ℕ) → f p ≡ p) → (cs : List Chunk) → AllByRecursion (Whole format 5 moov) cs → AllByRecursion (λ c. IsBytes c.body) cs → map (relocated f) cs ≡ cs
relocated_all f same [] w b = refl
relocated_all f same (c ∷ cs) w b = rw (relocated_none f same c w.0 b.0, relocated_all f same cs w.1 b.1) refl

-- no change
abbrev pub none_done : Changes
none_done = record { users = []; keys = [] }

module _ (o : List ℕ) (bytes : IsBytes o) (sup : Readable o) where
  abbrev old : Movie
  old = mov o bytes sup

  pieces_is : pieces_of old none_done ≡ map copied (kids o bytes sup)
  pieces_is = pieces_none (kids o bytes sup) (kids_read o bytes sup).0

  closed_is : is_open old none_done ≡ false
  closed_is = and_false (is_nil (atoms_in old.movie).left) (ends_open (pieces_of old none_done)) (ap ends_open pieces_is ∙ none_open (kids o bytes sup))

  cuts_is : edit_cuts old none_done ≡ []
  cuts_is =
      ap (λ (t : Bool). cuts (fill (ends_file old none_done)) (kids_at old none_done) (cond t (grown (spell_all (gaps_of old.behind)) (pieces_of old none_done)) (pieces_of old none_done))) closed_is
      ∙ ap (cuts (fill (ends_file old none_done)) (kids_at old none_done)) pieces_is ∙ cuts_none (fill (ends_file old none_done)) (kids_at old none_done) (kids o bytes sup)

  kids_is : new_kids old none_done ≡ kids o bytes sup
  kids_is =
      ap (λ (ps : List Piece). map (relocated (shift (edit_cuts old none_done))) (lay (fill (is_open old none_done)) ps)) pieces_is
      ∙ ap (map (relocated (shift (edit_cuts old none_done)))) (lay_none (fill (is_open old none_done)) (kids o bytes sup))
      ∙ ap (λ (cs : List Cut). map (relocated (shift cs)) (kids o bytes sup)) cuts_is
      ∙ relocated_all (shift []) shift_none (kids o bytes sup) (whole_kids (kids o bytes sup) sup.movie.tracks_end) (kids_bytes o bytes sup)

  movie_is : new_movie old none_done ≡ old
  movie_is =
      let body : spell_all (new_kids old none_done) ++ moov_left o bytes sup ≡ old.movie.body = ap (λ (cs : List Chunk). spell_all cs ++ moov_left o bytes sup) kids_is ∙ kids_joined o bytes sup in
      let behind : padding_behind old none_done ++ rest_behind old none_done ≡ old.behind
      = ap (λ (t : Bool). cond t (hanging (fill (ends_file old none_done)) (whole_pieces old none_done)) [] ++ cond t (past_gaps old.behind) old.behind) closed_is in
      ap (λ (x : List ℕ). record old { movie = record old.movie { body = x }; behind = padding_behind old none_done ++ rest_behind old none_done }) body
      ∙ ap (λ (cs : List Chunk). record old { behind = cs }) behind

  pub new_nothing : edited_file o none_done ≡ o
  unfolding edited_file
  new_nothing = ap spell_movie movie_is ∙ file_bytes o bytes sup

-- The law: the new file is the old one edited.
pub edited_law : (o : List ℕ) (e : Changes) → IsBytes o → Readable o → CanSet e → Fits (movie_of o) e → EditedBy o e (edited_file o e)
unfolding edited_file
edited_law o e bytes sup can fits =
    let again = movie_again o bytes sup e fits in
    record {
      supported = new_supported o bytes sup e can fits;
      users_back = λ name. ap (λ (m : Movie). values user_items name (first_items (parts m))) again ∙ new_users o bytes sup e can fits name;
      keys_back = λ name. ap (λ (m : Movie). key_values name (first_table (parts m))) again ∙ new_keys o bytes sup e can fits name;
      kept_in_order = ap kept_in again ∙ new_kept o bytes sup e can fits;
      same_pieces = ap pieces_in again ∙ new_pieces o bytes sup e can fits;
    }
