-- Before its tables are relocated the new movie is the old one with the slots replaced, and the size of moov set.
use Rattle.std.proofs.Common.{Bool, List, [], ap, append_assoc, arith, cond, drop, false, length, map, refl, sym, take, true, ℕ, ◌++◌, ◌+◌, ◌∙◌, ◌∷◌, ◌≡◌}
use Rattle.std.specs.Prelude.{◌&&◌}
use Rattle.std.proofs.lemmas.Bool.{and_parts}
use Rattle.std.proofs.lemmas.List.{append-nil, drop_at, length-append, take_at}
use Rattle.std.specs.List.{flat_map}
use Rattle.container_model.proofs.Units.{From, cuts_from, lay_splices, spell_all-append, splice_past, units_old}
use Rattle.container_model.specs.Chunk.{Chunk, header_bytes, spell_all}
use Rattle.container_model.specs.Items.{is_nil}
use Rattle.container_model.specs.Splice.{splice, splice_from}
use Rattle.container_model.specs.Units.{lay, old_bytes, shut}
use Rattle.mov_model.proofs.Cells.{was_carried, was_read}
use Rattle.mov_model.proofs.Clauses.{behind_split, opened_last, whole_brings}
use Rattle.carrier_model.proofs.Fitted.{LastOnly, last_units}
use Rattle.mov_model.proofs.Laid.{grown_bytes, grown_laid}
use Rattle.mov_model.specs.Atoms.{cell_of}
use Rattle.container_model.specs.Atoms.{atoms_in}
use Rattle.carrier_model.specs.Steps.{carried}
use Rattle.mov_model.specs.Carried.{Changes, steps}
use Rattle.mov_model.specs.Movie.{Movie, spell_movie}
use Rattle.mov_model.specs.New.{edit_cuts, ends_file, fill, gaps_of, grown, hanging, is_open, kids_at, laid_kids, laid_movie, padding_behind, pieces_of, rest_behind, slot_behind, whole_pieces, with_size}

nil_is : (x : List ℕ) → is_nil x ≡ true → x ≡ []
nil_is [] e = refl
nil_is (y ∷ x) e = absurd cc

module _ (m : Movie) (e : Changes) (joined : spell_all (atoms_in m.movie).chunks ++ (atoms_in m.movie).left ≡ m.movie.body) (no_pad : m.movie.pad ≡ []) where
  abbrev pub left : List ℕ
  left = (atoms_in m.movie).left

  kept_are : flat_map old_bytes (pieces_of m e) ≡ spell_all (atoms_in m.movie).chunks
  kept_are =
      let xs = map cell_of (atoms_in m.movie).chunks in
      units_old shut (carried (steps e) xs) ∙ ap spell_all (was_carried e xs ∙ was_read (atoms_in m.movie).chunks)

  -- what stands behind the pieces
  abbrev pub behind_pieces : List ℕ
  behind_pieces = cond (is_open m e) [] left ++ (spell_all (rest_behind m e) ++ m.left)

  pub last : LastOnly (pieces_of m e)
  last = last_units shut (carried (steps e) (map cell_of (atoms_in m.movie).chunks))

  pub open_left : is_open m e ≡ true → left ≡ []
  open_left o = nil_is left (and_parts (is_nil left) (Rattle.mov_model.specs.New.ends_open (pieces_of m e)) o).0

  pub old_inner : m.movie.body ++ (spell_all m.behind ++ m.left) ≡ flat_map old_bytes (whole_pieces m e) ++ behind_pieces
  old_inner = ap (λ (cs : List Chunk). m.movie.body ++ (spell_all cs ++ m.left)) (sym (behind_split m e)) ∙ ap (λ (x : List ℕ). x ++ (spell_all (slot_behind m e ++ rest_behind m e) ++ m.left)) (sym joined) ∙ go (is_open m e) refl
    where
      go : (t : Bool) → is_open m e ≡ t
          → (spell_all (atoms_in m.movie).chunks ++ left) ++ (spell_all (cond t (gaps_of m.behind) [] ++ rest_behind m e) ++ m.left)
          ≡ flat_map old_bytes (cond t (grown (spell_all (gaps_of m.behind)) (pieces_of m e)) (pieces_of m e)) ++ (cond t [] left ++ (spell_all (rest_behind m e) ++ m.left))
      go true o =
          rw (spell_all-append (gaps_of m.behind) (rest_behind m e), grown_bytes (spell_all (gaps_of m.behind)) (pieces_of m e) last (opened_last m e o), kept_are, open_left o) (simp (append_assoc, append-nil))
      go false o = rw kept_are (append_assoc (spell_all (atoms_in m.movie).chunks) left (spell_all (rest_behind m e) ++ m.left))

  pub laid_inner : spell_all (lay (fill (ends_file m e)) (whole_pieces m e)) ++ behind_pieces ≡ (spell_all (laid_kids m e) ++ left) ++ (spell_all (padding_behind m e ++ rest_behind m e) ++ m.left)
  laid_inner = go (is_open m e) refl
    where
      go : (t : Bool) → is_open m e ≡ t
          → spell_all (lay (fill (ends_file m e)) (cond t (grown (spell_all (gaps_of m.behind)) (pieces_of m e)) (pieces_of m e))) ++ (cond t [] left ++ (spell_all (rest_behind m e) ++ m.left))
          ≡ (spell_all (lay (fill t) (pieces_of m e)) ++ left) ++ (spell_all (cond t (hanging (fill (ends_file m e)) (cond t (grown (spell_all (gaps_of m.behind)) (pieces_of m e)) (pieces_of m e))) [] ++ rest_behind m e) ++ m.left)
      go true o =
          rw (grown_laid (ends_file m e) (spell_all (gaps_of m.behind)) (pieces_of m e) last (opened_last m e o), spell_all-append (hanging (fill (ends_file m e)) (grown (spell_all (gaps_of m.behind)) (pieces_of m e))) (rest_behind m e), open_left o)
          (simp (append_assoc, append-nil))
      go false o =
          let no : ends_file m e ≡ false = ap (λ (t : Bool). t && (is_nil (rest_behind m e) && is_nil m.left)) o in
          ap (λ (t : Bool). spell_all (lay (fill t) (pieces_of m e)) ++ (left ++ (spell_all (rest_behind m e) ++ m.left))) no ∙ sym (append_assoc (spell_all (lay (fill false) (pieces_of m e))) left (spell_all (rest_behind m e) ++ m.left))

  -- the bytes of a movie around those in moov and behind it
  pub around : (before : List Chunk) (head body pad : List ℕ) (behind : List Chunk) (tail : List ℕ) → pad ≡ [] → (spell_all before ++ ((head ++ (body ++ pad)) ++ spell_all behind)) ++ tail ≡ (spell_all before ++ head) ++ (body ++ (spell_all behind ++ tail))
  around before head body pad behind tail n = rw n (simp (append_assoc, append-nil))

  pub laid_is_spliced : spell_movie (laid_movie m e) ≡ with_size m (length (laid_movie m e).movie.body) (splice (spell_movie m) (edit_cuts m e))
  laid_is_spliced =
      let head = header_bytes m.movie.form m.movie.id (length m.movie.body) in
      let body_now = (laid_movie m e).movie.body in
      let head_now = header_bytes m.movie.form m.movie.id (length body_now) in
      let b = spell_all m.before in
      let x = b ++ head in
      let at : length x ≡ kids_at m e = length-append b head in
      let whole : spell_movie m ≡ x ++ (flat_map old_bytes (whole_pieces m e) ++ behind_pieces)
      = ap (λ (y : List ℕ). y ++ m.left) (spell_all-append m.before (m.movie ∷ m.behind)) ∙ around m.before head m.movie.body m.movie.pad m.behind m.left no_pad ∙ ap (λ (y : List ℕ). x ++ y) old_inner in
      let y = spell_all (lay (fill (ends_file m e)) (whole_pieces m e)) ++ behind_pieces in
      let from : From (0 + length x) (edit_cuts m e) = cuts_from (fill (ends_file m e)) (kids_at m e) (whole_pieces m e) (0 + length x) (omega (arith, at)) in
      let spliced : splice (spell_movie m) (edit_cuts m e) ≡ x ++ y
      = ap (λ (z : List ℕ). splice z (edit_cuts m e)) whole ∙ splice_past 0 x (flat_map old_bytes (whole_pieces m e) ++ behind_pieces) (edit_cuts m e) from
      ∙ ap (λ (z : List ℕ). x ++ z) (ap (λ (k : ℕ). splice_from k (flat_map old_bytes (whole_pieces m e) ++ behind_pieces) (edit_cuts m e)) (omega (arith, at)) ∙ lay_splices (fill (ends_file m e)) (kids_at m e) (whole_pieces m e) behind_pieces (whole_brings m e)) in
      let new : spell_movie (laid_movie m e) ≡ (b ++ head_now) ++ y
      = ap (λ (z : List ℕ). z ++ m.left) (spell_all-append m.before ((laid_movie m e).movie ∷ (laid_movie m e).behind)) ∙ around m.before head_now body_now m.movie.pad (laid_movie m e).behind m.left no_pad ∙ ap (λ (z : List ℕ). (b ++ head_now) ++ z) (sym laid_inner) in
      let set : with_size m (length body_now) (x ++ y) ≡ b ++ (head_now ++ y)
      = ap (λ (z : List ℕ). z ++ (head_now ++ drop (kids_at m e) (x ++ y))) (ap (take (length b)) (append_assoc b head y) ∙ take_at b (head ++ y) (length b) refl) ∙ ap (λ (z : List ℕ). b ++ (head_now ++ z)) (drop_at x y (kids_at m e) at) in
      new ∙ append_assoc b head_now y ∙ sym (ap (with_size m (length body_now)) spliced ∙ set)
