-- The span of the size in the header of `moov` is the whole header with that size.
use Rattle.std.proofs.Common.{◌≡◌, ◌∙◌, ℕ, ◌+◌, ◌-◌, Bool, true, false, cond, eqb, List, [], ◌∷◌, ◌++◌, length, map, take, drop, refl, sym, ap, subst, arith, append_assoc}
use Rattle.std.specs.Int.{w32, w64, to_be_bytes}
use Rattle.std.specs.List.{flat_map}
use Rattle.std.proofs.lemmas.Bool.{eqb-true}
use Rattle.std.proofs.lemmas.List.{take_at, drop_at, length-append}
use Rattle.me_bytes.specs.Bytes.{IsBytes}
use Rattle.container_model.specs.Atoms.{atoms_in}
use Rattle.container_model.specs.Chunk.{Form, header_bytes, spell_all}
use Rattle.container_model.specs.Splice.{Ascend, Cut, splice, splice_from}
use Rattle.container_model.specs.Units.{old_bytes}
use Rattle.container_model.proofs.Units.{From, splice_past}
use Rattle.mov_model.specs.Carried.{Changes}
use Rattle.mov_model.specs.Cuts.{header_cut}
use Rattle.mov_model.specs.Movie.{Movie, movie_of}
use Rattle.mov_model.specs.New.{kids_at, whole_pieces}
use Rattle.mov_model.specs.Room.{moov_patch, size_patch}
use Rattle.mov_model.specs.Support.{Readable}
use Rattle.mov_model.proofs.Again.{file_bytes, kids_joined, moov_padless}
use Rattle.mov_model.proofs.Spans.{behind_pieces}
use Rattle.mov_model.proofs.Spliced.{header_spliced, movie_bytes}
use Rattle.qt_atoms.specs.Walk.{form_of}
use Rattle.qt_atoms.specs.declared.header.SizeForm.{SizeForm}
use Rattle.qt_atoms.specs.declared.header.SizeForm.TheVariants.{Short, Long, ToEnd}
use Rattle.unit_plan.specs.Cuts.{cut_in, patch_of}
use Rattle.mov_plan.specs.Frame.{IsMoovOf, body_len, size_by, size_cuts}
use Rattle.mov_plan.specs.declared.frame.MoovAt.{MoovAt}

-- ---- a span whose first and last bytes stay

-- bytes a, then a span that begins with x and ends with z, of which only the middle is another, then r
trim : (a x y z w r : List ℕ) (at next : ℕ) (cs : List Cut) → at ≡ length a + length x → next ≡ ((length a + length x) + length y) + length z → From next cs
    → splice (a ++ (x ++ (y ++ (z ++ r)))) (record { at = at; len = length y; bytes = w } ∷ cs) ≡ a ++ (x ++ (w ++ (z ++ splice_from next r cs)))
trim a x y z w r at next cs here there from =
    let b = a ++ (x ++ (y ++ (z ++ r))) in
    let one : b ≡ (a ++ x) ++ (y ++ (z ++ r)) = sym (append_assoc a x (y ++ (z ++ r))) in
    let two : b ≡ ((a ++ x) ++ y) ++ (z ++ r) = one ∙ sym (append_assoc (a ++ x) y (z ++ r)) in
    let low : length (a ++ x) ≡ at - 0 = omega (arith, length-append a x, here) in
    let high : length ((a ++ x) ++ y) ≡ (at + length y) - 0 = omega (arith, length-append a x, length-append (a ++ x) y, here) in
    let front : take (at - 0) b ≡ a ++ x = ap (take (at - 0)) one ∙ take_at (a ++ x) (y ++ (z ++ r)) (at - 0) low in
    let back : drop ((at + length y) - 0) b ≡ z ++ r = ap (drop ((at + length y) - 0)) two ∙ drop_at ((a ++ x) ++ y) (z ++ r) ((at + length y) - 0) high in
    let end : (at + length y) + length z ≡ next = omega (arith, here, there) in
    let past : splice_from (at + length y) (z ++ r) cs ≡ z ++ splice_from next r cs
    = splice_past (at + length y) z r cs (subst (λ (k : ℕ). From k cs) (sym end) from) ∙ ap (λ (k : ℕ). z ++ splice_from k r cs) end in
    ap (λ (u : List ℕ). u ++ (w ++ splice_from (at + length y) (drop ((at + length y) - 0) b) cs)) front
    ∙ ap (λ (u : List ℕ). (a ++ x) ++ (w ++ splice_from (at + length y) u cs)) back
    ∙ ap (λ (u : List ℕ). (a ++ x) ++ (w ++ u)) past
    ∙ append_assoc a x (w ++ (z ++ splice_from next r cs))

-- nothing is another
keep : (a x r : List ℕ) (next : ℕ) (cs : List Cut) → next ≡ length a + length x → From next cs → splice (a ++ (x ++ r)) cs ≡ a ++ (x ++ splice_from next r cs)
keep a x r next cs there from =
    let end : 0 + length (a ++ x) ≡ next = omega (arith, length-append a x, there) in
    ap (λ (u : List ℕ). splice u cs) (sym (append_assoc a x r))
    ∙ splice_past 0 (a ++ x) r cs (subst (λ (k : ℕ). From k cs) (sym end) from)
    ∙ ap (λ (k : ℕ). (a ++ x) ++ splice_from k r cs) end
    ∙ append_assoc a x (splice_from next r cs)

-- ---- the size in a header

size_head : (s : SizeForm) (id a r any : List ℕ) (k n at next : ℕ) (cs : List Cut) → length id ≡ 4 → at ≡ length a → next ≡ length a + length (header_bytes (form_of s) id k) → From next cs
    → splice (a ++ (header_bytes (form_of s) id k ++ r)) (map (cut_in any) (size_by s at n) ++ cs) ≡ a ++ (header_bytes (form_of s) id n ++ splice_from next r cs)
size_head Short id a r any k n at next cs four here there from =
    let y = to_be_bytes w32 (k + 8) in
    let w = to_be_bytes w32 (n + 8) in
    let head : header_bytes (form_of Short) id k ++ r ≡ y ++ (id ++ r) = append_assoc y id r in
    let start : at ≡ length a + 0 = omega (arith, here) in
    let end : next ≡ ((length a + 0) + 4) + length id = omega (arith, there, length-append y id) in
    ap (λ (u : List ℕ). splice (a ++ u) (record { at = at; len = 4; bytes = w } ∷ cs)) head
    ∙ trim a [] y id w r at next cs start end from
    ∙ ap (λ (u : List ℕ). a ++ u) (sym (append_assoc w id (splice_from next r cs)))
size_head Long id a r any k n at next cs four here there from =
    let one = to_be_bytes w32 1 in
    let x = one ++ id in
    let y = to_be_bytes w64 (k + 16) in
    let w = to_be_bytes w64 (n + 16) in
    let split : (m : ℕ) (v : List ℕ) → header_bytes (form_of Long) id m ++ v ≡ x ++ (to_be_bytes w64 (m + 16) ++ v)
    = λ (m : ℕ) (v : List ℕ). append_assoc one (id ++ to_be_bytes w64 (m + 16)) v ∙ ap (λ (u : List ℕ). one ++ u) (append_assoc id (to_be_bytes w64 (m + 16)) v) ∙ sym (append_assoc one id (to_be_bytes w64 (m + 16) ++ v)) in
    let start : at + 8 ≡ length a + length x = omega (arith, here, four, length-append one id) in
    let end : next ≡ ((length a + length x) + 8) + 0 = omega (arith, there, length-append one (id ++ y), length-append id y, length-append one id) in
    ap (λ (u : List ℕ). splice (a ++ u) (record { at = at + 8; len = 8; bytes = w } ∷ cs)) (split k r)
    ∙ trim a x y [] w r (at + 8) next cs start end from
    ∙ ap (λ (u : List ℕ). a ++ u) (sym (split n (splice_from next r cs)))
size_head ToEnd id a r any k n at next cs four here there from = keep a (header_bytes (form_of ToEnd) id k) r next cs there from

-- ---- of a supported movie

module _ (b : List ℕ) (bytes : IsBytes b) (sup : Readable b) (e : Changes) (moov : MoovAt) (is : IsMoovOf b moov) where
  abbrev m : Movie
  m = movie_of b

  abbrev a : List ℕ
  a = spell_all m.before

  abbrev k : ℕ
  k = length m.movie.body

  abbrev inner : List ℕ
  inner = flat_map old_bytes (whole_pieces m e) ++ behind_pieces m e (kids_joined b bytes sup) (moov_padless b bytes sup)

  file_is : b ≡ a ++ (header_bytes (form_of moov.form) m.movie.id k ++ inner)
  file_is =
      sym (file_bytes b bytes sup) ∙ movie_bytes m e (kids_joined b bytes sup) (moov_padless b bytes sup)
      ∙ append_assoc a (header_bytes m.movie.form m.movie.id k) inner
      ∙ ap (λ (g : Form). a ++ (header_bytes g m.movie.id k ++ inner)) (sym is.form)

  -- how long the body of moov is
  pub body_is : body_len moov ≡ k
  body_is =
      let joined = ap length (kids_joined b bytes sup) in
      omega (arith, is.end, is.left, joined, length-append (spell_all (atoms_in m.movie).chunks) (atoms_in m.movie).left)

  four : length m.movie.id ≡ 4
  four = ap length sup.movie.is_moov

  header_there : (n : ℕ) (cs : List Cut) → splice b (header_cut m n ∷ cs) ≡ a ++ (header_bytes (form_of moov.form) m.movie.id n ++ splice_from (kids_at m e) inner cs)
  header_there n cs =
      ap (λ (x : List ℕ). splice x (header_cut m n ∷ cs)) (sym (file_bytes b bytes sup))
      ∙ header_spliced m e (kids_joined b bytes sup) (moov_padless b bytes sup) n cs (splice_from (kids_at m e) inner cs) refl
      ∙ ap (λ (g : Form). a ++ (header_bytes g m.movie.id n ++ splice_from (kids_at m e) inner cs)) (sym is.form)

  place : kids_at m e ≡ length a + length (header_bytes (form_of moov.form) m.movie.id k)
  place = ap (λ (g : Form). length a + length (header_bytes g m.movie.id k)) (sym is.form)

  -- The span of the size is the header of the definitions.
  pub header_is : (n : ℕ) (cs : List Cut) → From (kids_at m e) cs → splice b (map (cut_in b) (size_cuts moov n) ++ cs) ≡ splice b (header_cut m n ∷ cs)
  header_is n cs from = go (eqb n (body_len moov)) refl ∙ sym (header_there n cs)
    where
      go : (t : Bool) → eqb n (body_len moov) ≡ t → splice b (map (cut_in b) (cond t [] (size_by moov.form moov.at n)) ++ cs) ≡ a ++ (header_bytes (form_of moov.form) m.movie.id n ++ splice_from (kids_at m e) inner cs)
      go true t =
          let same : k ≡ n = sym (eqb-true n (body_len moov) t ∙ body_is) in
          ap (λ (x : List ℕ). splice x cs) file_is
          ∙ keep a (header_bytes (form_of moov.form) m.movie.id k) inner (kids_at m e) cs place from
          ∙ ap (λ (j : ℕ). a ++ (header_bytes (form_of moov.form) m.movie.id j ++ splice_from (kids_at m e) inner cs)) same
      go false t =
          ap (λ (x : List ℕ). splice x (map (cut_in b) (size_by moov.form moov.at n) ++ cs)) file_is
          ∙ size_head moov.form m.movie.id a inner b k n moov.at (kids_at m e) cs four is.at place from

  -- ---- its patch

  patch_by : (s : SizeForm) (at n : ℕ) → flat_map patch_of (size_by s at n) ≡ size_patch (form_of s) at n
  patch_by Short at n = refl
  patch_by Long at n = refl
  patch_by ToEnd at n = refl

  pub patch_is : (n : ℕ) → flat_map patch_of (size_cuts moov n) ≡ moov_patch m n
  patch_is n =
      go (eqb n (body_len moov))
      ∙ ap (λ (j : ℕ). cond (eqb n j) [] (size_patch m.movie.form (length a) n)) body_is
    where
      go : (t : Bool) → flat_map patch_of (cond t [] (size_by moov.form moov.at n)) ≡ cond t [] (size_patch m.movie.form (length a) n)
      go true = refl
      go false =
          patch_by moov.form moov.at n ∙ ap (λ (g : Form). size_patch g moov.at n) is.form ∙ ap (λ (j : ℕ). size_patch m.movie.form j n) is.at

-- what a list of spans begins with
pub ascend_from : (low high : ℕ) (cs : List Cut) → Ascend low cs high → From low cs
ascend_from low high [] h = tt
ascend_from low high (c ∷ cs) h = h.0
