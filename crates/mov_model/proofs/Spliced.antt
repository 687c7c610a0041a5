-- The new file is the old one with the header of moov, the rows of its tables and the slots of units replaced.
use Rattle.std.proofs.Common.{◌≡◌, ℕ, ◌+◌, ◌-◌, ◌≤◌, false, List, [], ◌∷◌, ◌++◌, length, map, take, drop, refl, sym, ap, subst, ◌∙◌, append_assoc, arith}
use Rattle.std.specs.List.{flat_map, AllByRecursion}
use Rattle.std.proofs.lemmas.List.{length-append, take_at, drop_at}
use Rattle.me_bytes.specs.Bytes.{IsBytes}
use Rattle.part_tree.specs.declared.field.EditItem.{EditItem}
use Rattle.container_model.specs.Chunk.{header_bytes, Chunk, spell_all}
use Rattle.container_model.specs.Cuts.{cuts_with, changed_piece}
use Rattle.container_model.specs.Splice.{Ascend, Cut, end_of, shift, splice, splice_from}
use Rattle.container_model.specs.Units.{lacks_pad, old_bytes, lay}
use Rattle.container_model.proofs.Cuts.{CanMake, AllMake, cuts_ascend_with, lay_splices_with}
use Rattle.container_model.proofs.Deep.{Alike}
use Rattle.container_model.proofs.Units.{lay_splices, spell_all-append}
use Rattle.container_model.specs.Atoms.{atoms_in}
use Rattle.mov_model.specs.Tables.{relocated}
use Rattle.mov_model.specs.Carried.{Changes}
use Rattle.mov_model.specs.Movie.{Movie, spell_movie, movie_of}
use Rattle.mov_model.specs.New.{fill, whole_pieces, ends_file, kids_at, edit_cuts, laid_movie, new_movie, edited_file}
use Rattle.mov_model.specs.Support.{Readable}
use Rattle.mov_model.specs.Edited.{changes, new_file}
use Rattle.mov_model.specs.Cuts.{kid_cuts, header_cut, all_cuts}
use Rattle.mov_model.proofs.Again.{kids, kids_joined, kids_bytes, kids_read, whole_kids, moov_padless, file_bytes}
use Rattle.mov_model.proofs.Clauses.{whole_brings}
use Rattle.mov_model.proofs.Kids.{KidOk, kids_ok}
use Rattle.mov_model.proofs.Relocated.{new_inner, kids_all}
use Rattle.mov_model.proofs.Spans.{around, behind_pieces, laid_inner, old_inner}
use Rattle.mov_model.proofs.Makes.{pieces_make}
use Rattle.mov_model.proofs.Tree.{kid_makes, plain_makes}
use Rattle.mov_model.proofs.Why.{kids_supported}

-- the header of moov is replaced, and then what is behind it
module _ (m : Movie) (e : Changes) (joined : spell_all (atoms_in m.movie).chunks ++ (atoms_in m.movie).left ≡ m.movie.body) (no_pad : m.movie.pad ≡ []) where
  abbrev inner : List ℕ
  inner = flat_map old_bytes (whole_pieces m e) ++ behind_pieces m e joined no_pad

  abbrev head : List ℕ
  head = header_bytes m.movie.form m.movie.id (length m.movie.body)

  pub movie_bytes : spell_movie m ≡ (spell_all m.before ++ head) ++ inner
  movie_bytes =
      ap (λ (z : List ℕ). z ++ m.left) (spell_all-append m.before (m.movie ∷ m.behind)) ∙ around m e joined no_pad m.before head m.movie.body m.movie.pad m.behind m.left no_pad
      ∙ ap (λ (z : List ℕ). (spell_all m.before ++ head) ++ z) (old_inner m e joined no_pad)

  pub header_spliced : (n : ℕ) (cs : List Cut) (y : List ℕ) → splice_from (kids_at m e) inner cs ≡ y → splice (spell_movie m) (header_cut m n ∷ cs) ≡ spell_all m.before ++ (header_bytes m.movie.form m.movie.id n ++ y)
  header_spliced n cs y laid =
      let b = spell_all m.before in
      let x = header_cut m n in
      let at : length (b ++ head) ≡ kids_at m e = length-append b head in
      let z0 : x.at - 0 ≡ length b = omega arith in
      let z1 : end_of x - 0 ≡ kids_at m e = omega arith in
      let front : take (x.at - 0) ((b ++ head) ++ inner) ≡ b = ap (λ (k : ℕ). take k ((b ++ head) ++ inner)) z0 ∙ ap (take (length b)) (append_assoc b head inner) ∙ take_at b (head ++ inner) (length b) refl in
      let back : drop (end_of x - 0) ((b ++ head) ++ inner) ≡ inner = ap (λ (k : ℕ). drop k ((b ++ head) ++ inner)) z1 ∙ drop_at (b ++ head) inner (kids_at m e) at in
      ap (λ (z : List ℕ). splice z (x ∷ cs)) movie_bytes ∙ ap (λ (z : List ℕ). z ++ (x.bytes ++ splice_from (end_of x) (drop (end_of x - 0) ((b ++ head) ++ inner)) cs)) front
      ∙ ap (λ (z : List ℕ). b ++ (x.bytes ++ splice_from (end_of x) z cs)) back ∙ ap (λ (z : List ℕ). b ++ (x.bytes ++ z)) laid

  pub laid_spliced : spell_movie (laid_movie m e) ≡ splice (spell_movie m) (header_cut m (length (laid_movie m e).movie.body) ∷ edit_cuts m e)
  laid_spliced =
      let b = spell_all m.before in
      let body_now = (laid_movie m e).movie.body in
      let head_now = header_bytes m.movie.form m.movie.id (length body_now) in
      let y = spell_all (lay (fill (ends_file m e)) (whole_pieces m e)) ++ behind_pieces m e joined no_pad in
      let made : spell_movie (laid_movie m e) ≡ (b ++ head_now) ++ y
      = ap (λ (z : List ℕ). z ++ m.left) (spell_all-append m.before ((laid_movie m e).movie ∷ (laid_movie m e).behind)) ∙ around m e joined no_pad m.before head_now body_now m.movie.pad (laid_movie m e).behind m.left no_pad
      ∙ ap (λ (z : List ℕ). (b ++ head_now) ++ z) (sym (laid_inner m e joined no_pad)) in
      made ∙ append_assoc b head_now y ∙ sym (header_spliced (length body_now) (edit_cuts m e) y (lay_splices (fill (ends_file m e)) (kids_at m e) (whole_pieces m e) (behind_pieces m e joined no_pad) (whole_brings m e)))

module _ (m : Movie) (e : Changes) (joined : spell_all (atoms_in m.movie).chunks ++ (atoms_in m.movie).left ≡ m.movie.body) (no_pad : m.movie.pad ≡ [])
    (fine : AllByRecursion (λ c. (lacks_pad c ≡ false) × Alike c (relocated (shift (edit_cuts m e)) c)) (atoms_in m.movie).chunks)
    (ok : AllByRecursion KidOk (atoms_in m.movie).chunks) (bytes : AllByRecursion (λ c. IsBytes c.body) (atoms_in m.movie).chunks) where
  abbrev f : ℕ → ℕ
  f = shift (edit_cuts m e)

  abbrev Can : Chunk → Type 0
  Can c = CanMake (kid_cuts f) (relocated f) c

  kids_can : (cs : List Chunk) → AllByRecursion KidOk cs → AllByRecursion (λ c. IsBytes c.body) cs → AllByRecursion Can cs
  kids_can [] k b = tt
  kids_can (c ∷ cs) k b = (kid_makes f c k.0 b.0, kids_can cs k.1 b.1)

  pub whole_makes : AllMake (kid_cuts f) (relocated f) (whole_pieces m e)
  whole_makes = pieces_make (kid_cuts f) (relocated f) (plain_makes f) m e (kids_can (atoms_in m.movie).chunks ok bytes)

  pub movie_is_spliced : spell_movie (new_movie m e) ≡ splice (spell_movie m) (all_cuts m e)
  movie_is_spliced =
      let body_now = (new_movie m e).movie.body in
      let head_now = header_bytes m.movie.form m.movie.id (length body_now) in
      let b = spell_all m.before in
      let ps = whole_pieces m e in
      let cs = cuts_with (kid_cuts f) (fill (ends_file m e)) (kids_at m e) ps in
      let y = spell_all (lay (fill (ends_file m e)) (map (changed_piece (relocated f)) ps)) ++ behind_pieces m e joined no_pad in
      let laid : splice_from (kids_at m e) (flat_map old_bytes ps ++ behind_pieces m e joined no_pad) cs ≡ y = lay_splices_with (kid_cuts f) (relocated f) (fill (ends_file m e)) (kids_at m e) ps (behind_pieces m e joined no_pad) (whole_brings m e) whole_makes in
      let made : spell_movie (new_movie m e) ≡ (b ++ head_now) ++ y
      = ap (λ (z : List ℕ). z ++ m.left) (spell_all-append m.before ((new_movie m e).movie ∷ (new_movie m e).behind)) ∙ around m e joined no_pad m.before head_now body_now m.movie.pad (new_movie m e).behind m.left no_pad
      ∙ ap (λ (z : List ℕ). (b ++ head_now) ++ z) (sym (new_inner m e joined no_pad fine)) in
      made ∙ append_assoc b head_now y ∙ sym (header_spliced m e joined no_pad (length body_now) cs y laid)

  -- the spans ascend and lie in the file
  pub cuts_ascend : Ascend 0 (all_cuts m e) (length (spell_movie m))
  cuts_ascend =
      let b = spell_all m.before in
      let hd = header_bytes m.movie.form m.movie.id (length m.movie.body) in
      let ps = whole_pieces m e in
      let behind = behind_pieces m e joined no_pad in
      let room : kids_at m e + length (flat_map old_bytes ps) ≤ length (spell_movie m)
      = omega (arith, ap length (movie_bytes m e joined no_pad), length-append b hd, length-append (b ++ hd) (flat_map old_bytes ps ++ behind), length-append (flat_map old_bytes ps) behind) in
      (omega arith, cuts_ascend_with (kid_cuts f) (relocated f) (fill (ends_file m e)) (kids_at m e) ps (length (spell_movie m)) whole_makes room)

pub ascend_law : (o : List ℕ) (e : List EditItem) → IsBytes o → Readable o → Ascend 0 (all_cuts (movie_of o) (changes o e)) (length o)
ascend_law o e bytes sup =
    subst (λ (b : List ℕ). Ascend 0 (all_cuts (movie_of o) (changes o e)) (length b)) (file_bytes o bytes sup)
    (cuts_ascend (movie_of o) (changes o e) (kids_joined o bytes sup) (moov_padless o bytes sup)
    (kids_all (shift (edit_cuts (movie_of o) (changes o e))) (kids o bytes sup) (kids_read o bytes sup).0 (whole_kids (kids o bytes sup) sup.movie.tracks_end) (kids_bytes o bytes sup))
    (kids_ok (kids o bytes sup) (kids_supported o sup)) (kids_bytes o bytes sup))

pub new_law : (o : List ℕ) (e : List EditItem) → IsBytes o → Readable o → new_file o e ≡ splice o (all_cuts (movie_of o) (changes o e))
unfolding edited_file
new_law o e bytes sup =
    movie_is_spliced (movie_of o) (changes o e) (kids_joined o bytes sup) (moov_padless o bytes sup)
    (kids_all (shift (edit_cuts (movie_of o) (changes o e))) (kids o bytes sup) (kids_read o bytes sup).0 (whole_kids (kids o bytes sup) sup.movie.tracks_end) (kids_bytes o bytes sup))
    (kids_ok (kids o bytes sup) (kids_supported o sup)) (kids_bytes o bytes sup)
    ∙ ap (λ (b : List ℕ). splice b (all_cuts (movie_of o) (changes o e))) (file_bytes o bytes sup)
