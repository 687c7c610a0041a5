-- The new movie is the old one with its tables relocated in their places, then the slots replaced, then the size of moov set.
use Rattle.std.proofs.Common.{Bool, List, Some, [], ap, append_assoc, arith, cond, drop, false, length, map, refl, sym, take, true, ℕ, ◌++◌, ◌+◌, ◌∙◌, ◌∷◌, ◌≡◌}
use Rattle.std.specs.Prelude.{codes, ◌&&◌}
use Rattle.std.proofs.lemmas.Bool.{le-ltb}
use Rattle.std.proofs.lemmas.List.{append-nil, drop_at, length-append, take_at}
use Rattle.std.specs.List.{AllByRecursion, flat_map}
use Rattle.container_model.proofs.Codec.{IsBytes}
use Rattle.container_model.proofs.Deep.{Alike, all_len}
use Rattle.container_model.proofs.Read.{Atom}
use Rattle.container_model.proofs.Units.{From, cuts_from, lay_splices, spell_all-append, splice_past}
use Rattle.container_model.specs.Chunk.{Chunk, header_bytes, spell_all}
use Rattle.container_model.specs.Deep.{Whole}
use Rattle.container_model.specs.Cuts.{changed_piece}
use Rattle.container_model.specs.Items.{is_nil}
use Rattle.container_model.specs.Sizes.{inside}
use Rattle.container_model.specs.Splice.{Cut, shift, splice, splice_from}
use Rattle.container_model.specs.Units.{Piece, cuts, lacks_pad, lay, old_bytes, shut}
use Rattle.mov_model.proofs.Again.{file_bytes, kids, kids_bytes, kids_joined, kids_read, moov_padless, whole_kids}
use Rattle.mov_model.proofs.Cells.{was_carried, was_read}
use Rattle.mov_model.proofs.Clauses.{behind_split, header_len, opened_last, whole_brings}
use Rattle.mov_model.proofs.Held.{held_bytes}
use Rattle.mov_model.proofs.Laid.{grown_bytes, grown_laid}
use Rattle.mov_model.proofs.Overlay.{Fixed, changed_brings, changed_cuts, changed_grown, changed_hanging, changed_last, changed_lay, changed_old, changed_open, fixed_carried, fixed_units, grown_fixed}
use Rattle.mov_model.proofs.Spans.{around, last, open_left}
use Rattle.mov_model.proofs.Tables.{relocated_alike, relocated_other}
use Rattle.mov_model.specs.Atoms.{cell_of, format, moov}
use Rattle.container_model.specs.Atoms.{atom, atoms_in}
use Rattle.carrier_model.specs.Steps.{carried}
use Rattle.mov_model.specs.Carried.{Changes, steps}
use Rattle.mov_model.specs.Movie.{Movie, all_atoms, movie_of, spell_movie}
use Rattle.mov_model.specs.New.{edit_cuts, ends_file, ends_open, fill, gaps_of, grown, hanging, is_open, kids_at, edited_file, new_kids, new_movie, overlaid, padding_behind, pieces_of, rest_behind, whole_pieces, with_size}
use Rattle.mov_model.specs.Pieces.{held}
use Rattle.mov_model.specs.Support.{Readable}
use Rattle.mov_model.specs.Tables.{relocated}

module _ (m : Movie) (e : Changes) (joined : spell_all (atoms_in m.movie).chunks ++ (atoms_in m.movie).left ≡ m.movie.body) (no_pad : m.movie.pad ≡ [])
    (fine : AllByRecursion (λ c. (lacks_pad c ≡ false) × Alike c (relocated (shift (edit_cuts m e)) c)) (atoms_in m.movie).chunks) where
  abbrev pub g : Chunk → Chunk
  g = relocated (shift (edit_cuts m e))

  abbrev pub left : List ℕ
  left = (atoms_in m.movie).left

  abbrev ps : List Piece
  ps = pieces_of m e

  pub fixed : Fixed g ps
  fixed = fixed_units g shut (carried (steps e) (map cell_of (atoms_in m.movie).chunks)) tt (fixed_carried g (λ c n. relocated_other (shift (edit_cuts m e)) c n) e (atoms_in m.movie).chunks fine)

  pub fixed_whole : Fixed g (whole_pieces m e)
  fixed_whole = go (is_open m e)
    where
      go : (t : Bool) → Fixed g (cond t (grown (spell_all (gaps_of m.behind)) ps) ps)
      go true = grown_fixed g (spell_all (gaps_of m.behind)) ps fixed
      go false = fixed

  kept_are : flat_map old_bytes (map (changed_piece g) ps) ≡ spell_all (map g (atoms_in m.movie).chunks)
  kept_are =
      let xs = map cell_of (atoms_in m.movie).chunks in
      changed_old g shut (carried (steps e) xs) (fixed_carried g (λ c n. relocated_other (shift (edit_cuts m e)) c n) e (atoms_in m.movie).chunks fine)
      ∙ ap (λ (cs : List Chunk). spell_all (map g cs)) (was_carried e xs ∙ was_read (atoms_in m.movie).chunks)

  lay_is : (f : Bool) → lay (fill f) (map (changed_piece g) ps) ≡ map g (lay (fill f) ps)
  lay_is f = changed_lay g (λ body. relocated_other (shift (edit_cuts m e)) (atom (codes "free") body) refl) f ps fixed

  abbrev pub behind_pieces : List ℕ
  behind_pieces = cond (is_open m e) [] left ++ (spell_all (rest_behind m e) ++ m.left)

  ends : is_open m e ≡ true → ends_open (map (changed_piece g) ps) ≡ true
  ends o = changed_open g ps ∙ opened_last m e o

  old_inner : (overlaid m e).movie.body ++ (spell_all m.behind ++ m.left) ≡ flat_map old_bytes (map (changed_piece g) (whole_pieces m e)) ++ behind_pieces
  old_inner = ap (λ (cs : List Chunk). (overlaid m e).movie.body ++ (spell_all cs ++ m.left)) (sym (behind_split m e)) ∙ go (is_open m e) refl
    where
      kids_now : List ℕ
      kids_now = spell_all (map g (atoms_in m.movie).chunks)

      shuffle : (a b c d : List ℕ) → (a ++ []) ++ ((b ++ c) ++ d) ≡ (a ++ b) ++ ([] ++ (c ++ d))
      shuffle a b c d = simp (append_assoc, append-nil)

      go : (t : Bool) → is_open m e ≡ t
          → (spell_all (map g (atoms_in m.movie).chunks) ++ left) ++ (spell_all (cond t (gaps_of m.behind) [] ++ rest_behind m e) ++ m.left)
          ≡ flat_map old_bytes (map (changed_piece g) (cond t (grown (spell_all (gaps_of m.behind)) ps) ps)) ++ (cond t [] left ++ (spell_all (rest_behind m e) ++ m.left))
      go true o =
          let more = spell_all (gaps_of m.behind) in
          let a = spell_all (map g (atoms_in m.movie).chunks) in
          let c = spell_all (rest_behind m e) in
          let grown_is : flat_map old_bytes (map (changed_piece g) (grown more ps)) ≡ a ++ more
          = ap (flat_map old_bytes) (changed_grown g more ps) ∙ grown_bytes more (map (changed_piece g) ps) (changed_last g ps (last m e joined no_pad)) (ends o) ∙ ap (λ (x : List ℕ). x ++ more) kept_are in
          ap (λ (x : List ℕ). (a ++ x) ++ (spell_all (gaps_of m.behind ++ rest_behind m e) ++ m.left)) (open_left m e joined no_pad o)
          ∙ ap (λ (x : List ℕ). (a ++ []) ++ (x ++ m.left)) (spell_all-append (gaps_of m.behind) (rest_behind m e)) ∙ shuffle a more c m.left
          ∙ ap (λ (x : List ℕ). x ++ ([] ++ (c ++ m.left))) (sym grown_is)
      go false o = append_assoc (spell_all (map g (atoms_in m.movie).chunks)) left (spell_all (rest_behind m e) ++ m.left) ∙ ap (λ (x : List ℕ). x ++ (left ++ (spell_all (rest_behind m e) ++ m.left))) (sym kept_are)

  pub new_inner : spell_all (lay (fill (ends_file m e)) (map (changed_piece g) (whole_pieces m e))) ++ behind_pieces ≡ (spell_all (new_kids m e) ++ left) ++ (spell_all (padding_behind m e ++ rest_behind m e) ++ m.left)
  new_inner = go (is_open m e) refl
    where
      shuffle : (a b c d : List ℕ) → (a ++ b) ++ ([] ++ (c ++ d)) ≡ (a ++ []) ++ ((b ++ c) ++ d)
      shuffle a b c d = simp (append_assoc, append-nil)

      go : (t : Bool) → is_open m e ≡ t
          → spell_all (lay (fill (ends_file m e)) (map (changed_piece g) (cond t (grown (spell_all (gaps_of m.behind)) ps) ps))) ++ (cond t [] left ++ (spell_all (rest_behind m e) ++ m.left))
          ≡ (spell_all (map g (lay (fill t) ps)) ++ left) ++ (spell_all (cond t (hanging (fill (ends_file m e)) (cond t (grown (spell_all (gaps_of m.behind)) ps) ps)) [] ++ rest_behind m e) ++ m.left)
      go true o =
          let more = spell_all (gaps_of m.behind) in
          let f = ends_file m e in
          let c = spell_all (rest_behind m e) in
          let a = spell_all (map g (lay (fill true) ps)) in
          let h = hanging (fill f) (grown more ps) in
          let one : spell_all (lay (fill f) (map (changed_piece g) (grown more ps))) ≡ a ++ spell_all h
          = ap (λ (x : List Piece). spell_all (lay (fill f) x)) (changed_grown g more ps) ∙ grown_laid f more (map (changed_piece g) ps) (changed_last g ps (last m e joined no_pad)) (ends o)
          ∙ ap (λ (x : List Chunk). spell_all x ++ spell_all (hanging (fill f) (grown more (map (changed_piece g) ps)))) (lay_is true)
          ∙ ap (λ (x : List Piece). a ++ spell_all (hanging (fill f) x)) (sym (changed_grown g more ps)) ∙ ap (λ (x : List Chunk). a ++ spell_all x) (changed_hanging g f (grown more ps)) in
          ap (λ (x : List ℕ). x ++ ([] ++ (c ++ m.left))) one ∙ shuffle a (spell_all h) c m.left
          ∙ ap (λ (x : List ℕ). (a ++ []) ++ (x ++ m.left)) (sym (spell_all-append h (rest_behind m e)))
          ∙ ap (λ (x : List ℕ). (a ++ x) ++ (spell_all (h ++ rest_behind m e) ++ m.left)) (sym (open_left m e joined no_pad o))
      go false o =
          let no : ends_file m e ≡ false = ap (λ (t : Bool). t && (is_nil (rest_behind m e) && is_nil m.left)) o in
          ap (λ (t : Bool). spell_all (lay (fill t) (map (changed_piece g) ps)) ++ (left ++ (spell_all (rest_behind m e) ++ m.left))) no
          ∙ ap (λ (x : List Chunk). spell_all x ++ (left ++ (spell_all (rest_behind m e) ++ m.left))) (lay_is false)
          ∙ sym (append_assoc (spell_all (map g (lay (fill false) ps))) left (spell_all (rest_behind m e) ++ m.left))

  same_len : length (overlaid m e).movie.body ≡ length m.movie.body
  same_len =
      let n = all_len g (atoms_in m.movie).chunks (alikes (atoms_in m.movie).chunks fine) in
      omega (arith, n, ap length joined, length-append (spell_all (map g (atoms_in m.movie).chunks)) left, length-append (spell_all (atoms_in m.movie).chunks) left)
    where
      alikes : (cs : List Chunk) → AllByRecursion (λ c. (lacks_pad c ≡ false) × Alike c (g c)) cs → AllByRecursion (λ c. Alike c (g c)) cs
      alikes [] h = tt
      alikes (c ∷ cs) h = (h.0.1, alikes cs h.1)

  pub new_is_overlaid : spell_movie (new_movie m e) ≡ with_size m (length (new_movie m e).movie.body) (splice (spell_movie (overlaid m e)) (edit_cuts m e))
  new_is_overlaid =
      let head = header_bytes m.movie.form m.movie.id (length (overlaid m e).movie.body) in
      let body_now = (new_movie m e).movie.body in
      let head_now = header_bytes m.movie.form m.movie.id (length body_now) in
      let b = spell_all m.before in
      let x = b ++ head in
      let qs = map (changed_piece g) (whole_pieces m e) in
      let f = ends_file m e in
      let at : length x ≡ kids_at m e = omega (arith, length-append b head, header_len m.movie.form m.movie.id (length (overlaid m e).movie.body) (length m.movie.body)) in
      let whole : spell_movie (overlaid m e) ≡ x ++ (flat_map old_bytes qs ++ behind_pieces)
      = ap (λ (y : List ℕ). y ++ m.left) (spell_all-append m.before ((overlaid m e).movie ∷ m.behind)) ∙ around m e joined no_pad m.before head (overlaid m e).movie.body m.movie.pad m.behind m.left no_pad ∙ ap (λ (y : List ℕ). x ++ y) old_inner in
      let y = spell_all (lay (fill f) qs) ++ behind_pieces in
      let same : edit_cuts m e ≡ cuts (fill f) (kids_at m e) qs = sym (changed_cuts g f (kids_at m e) (whole_pieces m e) fixed_whole) in
      let from : From (0 + length x) (cuts (fill f) (kids_at m e) qs) = cuts_from (fill f) (kids_at m e) qs (0 + length x) (omega (arith, at)) in
      let spliced : splice (spell_movie (overlaid m e)) (cuts (fill f) (kids_at m e) qs) ≡ x ++ y
      = ap (λ (z : List ℕ). splice z (cuts (fill f) (kids_at m e) qs)) whole ∙ splice_past 0 x (flat_map old_bytes qs ++ behind_pieces) (cuts (fill f) (kids_at m e) qs) from
      ∙ ap (λ (z : List ℕ). x ++ z) (ap (λ (k : ℕ). splice_from k (flat_map old_bytes qs ++ behind_pieces) (cuts (fill f) (kids_at m e) qs)) (omega (arith, at)) ∙ lay_splices (fill f) (kids_at m e) qs behind_pieces (changed_brings g (whole_pieces m e) (whole_brings m e))) in
      let made : spell_movie (new_movie m e) ≡ (b ++ head_now) ++ y
      = ap (λ (z : List ℕ). z ++ m.left) (spell_all-append m.before ((new_movie m e).movie ∷ (new_movie m e).behind)) ∙ around m e joined no_pad m.before head_now body_now m.movie.pad (new_movie m e).behind m.left no_pad ∙ ap (λ (z : List ℕ). (b ++ head_now) ++ z) (sym new_inner) in
      let set : with_size m (length body_now) (x ++ y) ≡ b ++ (head_now ++ y)
      = ap (λ (z : List ℕ). z ++ (head_now ++ drop (kids_at m e) (x ++ y))) (ap (take (length b)) (append_assoc b head y) ∙ take_at b (head ++ y) (length b) refl) ∙ ap (λ (z : List ℕ). b ++ (head_now ++ z)) (drop_at x y (kids_at m e) at) in
      made ∙ append_assoc b head_now y
      ∙ sym (ap (λ (cs : List Cut). with_size m (length body_now) (splice (spell_movie (overlaid m e)) cs)) same ∙ ap (with_size m (length body_now)) spliced ∙ set)

-- ---- of a supported file

pub kids_all : (f : ℕ → ℕ) (cs : List Chunk) → AllByRecursion (Atom inside) cs → AllByRecursion (Whole format 5 moov) cs → AllByRecursion (λ c. IsBytes c.body) cs → AllByRecursion (λ c. (lacks_pad c ≡ false) × Alike c (relocated f c)) cs
kids_all f [] a w b = tt
kids_all f (c ∷ cs) a w b = ((le-ltb _ _ (omega (arith, a.0.pad_none)), relocated_alike f c w.0 b.0), kids_all f cs a.1 w.1 b.1)

pub overlay_law : (o : List ℕ) (e : Changes) → IsBytes o → Readable o
    → edited_file o e ≡ with_size (movie_of o) (length (new_movie (movie_of o) e).movie.body) (splice (spell_movie (overlaid (movie_of o) e)) (edit_cuts (movie_of o) e))
unfolding edited_file
overlay_law o e bytes sup =
    new_is_overlaid (movie_of o) e (kids_joined o bytes sup) (moov_padless o bytes sup)
    (kids_all (shift (edit_cuts (movie_of o) e)) (kids o bytes sup) (kids_read o bytes sup).0 (whole_kids (kids o bytes sup) sup.movie.tracks_end) (kids_bytes o bytes sup))

pub splice_law : (o : List ℕ) (e : Changes) → IsBytes o → Readable o
    → spell_movie (Rattle.mov_model.specs.New.laid_movie (movie_of o) e) ≡ with_size (movie_of o) (length (Rattle.mov_model.specs.New.laid_movie (movie_of o) e).movie.body) (splice o (edit_cuts (movie_of o) e))
splice_law o e bytes sup =
    Rattle.mov_model.proofs.Spans.laid_is_spliced (movie_of o) e (kids_joined o bytes sup) (moov_padless o bytes sup)
    ∙ ap (λ (b : List ℕ). with_size (movie_of o) (length (Rattle.mov_model.specs.New.laid_movie (movie_of o) e).movie.body) (splice b (edit_cuts (movie_of o) e))) (file_bytes o bytes sup)

pub held_law : (o : List ℕ) (p : ℕ) (x : ℕ × List ℕ) → IsBytes o → Readable o → held 0 p (all_atoms (movie_of o)) ≡ Some x → take (length x.1) (drop p o) ≡ x.1
held_law o p x bytes sup h = ap (λ (b : List ℕ). take (length x.1) (drop p b)) (sym (file_bytes o bytes sup)) ∙ held_bytes 0 p (all_atoms (movie_of o)) (movie_of o).left x h
