-- Where `moov` stands, by the parts that a map tells of a file.
use Rattle.std.proofs.Common.{◌≡◌, ◌∙◌, ◌≢◌, ℕ, suc, ◌+◌, ◌-◌, ◌<◌, ◌≤◌, Bool, true, false, cond, eqb, List, [], ◌∷◌, ◌++◌, length, take, drop, refl, sym, ap, subst, arith, append_assoc, append-nil, eq-eqb}
use Rattle.std.specs.Prelude.{◌&&◌, codes}
use Rattle.std.proofs.lemmas.Bool.{and_parts, eqb-true, ne_eqb}
use Rattle.std.proofs.lemmas.List.{drop_at, length-append, take_at}
use Rattle.me_bytes.specs.Bytes.{IsBytes}
use Rattle.part_tree.specs.Parts.{count_parts, count_role, rest_part, rest_parts}
use Rattle.part_tree.specs.declared.part.Part.{Part}
use Rattle.part_tree.specs.declared.part.Role.{Role}
use Rattle.part_tree.specs.declared.part.Role.TheVariants.{Essence, Padding}
use Rattle.container_model.specs.Atoms.{atoms_in}
use Rattle.container_model.specs.Chunk.{Chunk, Run, header_bytes, joined, spell, spell_all}
use Rattle.container_model.specs.Items.{is_nil}
use Rattle.container_model.specs.Walk.{along}
use Rattle.container_model.specs.Windows.{window}
use Rattle.container_model.proofs.Atoms.{atoms_give_back}
use Rattle.container_model.proofs.Codec.{chunks_joined}
use Rattle.container_model.proofs.Copied.{spell_some}
use Rattle.container_model.proofs.Units.{spell_all-append}
use Rattle.container_model.specs.Sizes.{atom_front, top}
use Rattle.mov_model.specs.Atoms.{is_padding}
use Rattle.mov_model.specs.Map.{file_parts, file_role, in_kid, kid_parts, moov_parts, moov_role, part, parts_of, role_where}
use Rattle.mov_model.specs.Movie.{movie_of, top_run}
use Rattle.mov_model.specs.New.{gaps_of, past_gaps}
use Rattle.mov_model.specs.Pieces.{is_mdat}
use Rattle.mov_model.specs.Reading.{inside_at}
use Rattle.mov_model.specs.Support.{Readable}
use Rattle.mov_model.proofs.Again.{file_bytes, kids_joined, moov_padless, whole}
use Rattle.mov_model.proofs.Clauses.{gaps_split}
use Rattle.qt_text.specs.User.{udta}
use Rattle.mov_plan.proofs.Lying.{Lies, lie_first, lie_then}
use Rattle.edit_planner.specs.MoovMap.{before_at, gap_count, gap_end, is_gap, joined_from}

-- ---- the atoms of a file as parts

-- from a place on
abbrev pub tops : ℕ → List Chunk → List Part
tops at cs = along (λ at c. part (file_role c) at c ∷ []) at cs

next_end : (at : ℕ) (c : Chunk) (cs : List Chunk) → (at + length (spell c)) + length (spell_all cs) ≡ at + length (spell_all (c ∷ cs))
next_end at c cs = omega (arith, length-append (spell c) (spell_all cs))

joined_tops : (at : ℕ) (cs : List Chunk) (more : List Part) → joined_from at (tops at cs ++ more) ≡ tops at cs ++ joined_from (at + length (spell_all cs)) more
joined_tops at [] more = ap (λ (n : ℕ). joined_from n more) (omega arith)
joined_tops at (c ∷ cs) more =
    let next = at + length (spell c) in
    let p = part (file_role c) at c in
    ap (λ (t : Bool). cond t (p ∷ joined_from next (tops next cs ++ more)) []) (eq-eqb at at refl)
    ∙ ap (λ (x : List Part). p ∷ x) (joined_tops next cs more ∙ ap (λ (n : ℕ). tops next cs ++ joined_from n more) (next_end at c cs))

joined_rest : (at : ℕ) (left : List ℕ) (more : List Part) → joined_from at (rest_parts at left ++ more) ≡ rest_parts at left ++ joined_from (at + length left) more
joined_rest at [] more = ap (λ (n : ℕ). joined_from n more) (omega arith)
joined_rest at (x ∷ left) more =
    let p = rest_part at (length (x ∷ left)) in
    ap (λ (t : Bool). cond t (p ∷ joined_from (at + length (x ∷ left)) more) []) (eq-eqb at at refl)

-- the parts of moov begin at another place
joined_none : (end from : ℕ) (cs : List Chunk) (left : List ℕ) → (0 < length (spell_all cs ++ left) → from < end) → joined_from end (kid_parts false from cs ++ rest_parts (from + length (spell_all cs)) left) ≡ []
joined_none end from [] [] h = refl
joined_none end from [] (x ∷ left) h =
    let less : from < end = h (omega arith) in
    let p = rest_part (from + 0) (length (x ∷ left)) in
    ap (λ (t : Bool). cond t (p ∷ joined_from ((from + 0) + length (x ∷ left)) []) []) (ne_eqb (from + 0) end (λ e. absurd (omega (arith, e, less))))
joined_none end from (c ∷ cs) left h =
    let less : from < end = h (omega (arith, spell_some c, length-append (spell c) (spell_all cs), length-append (spell_all (c ∷ cs)) left)) in
    let p = part (moov_role false c) from c in
    let more = (in_kid (udta.is c) from c ++ kid_parts (udta.is c) (from + length (spell c)) cs) ++ rest_parts (from + length (spell_all (c ∷ cs))) left in
    ap (λ (t : Bool). cond t (p ∷ joined_from p.next more) []) (ne_eqb from end (λ e. absurd (omega (arith, e, less))))

tops_both : (at : ℕ) (xs ys : List Chunk) → tops at (xs ++ ys) ≡ tops at xs ++ tops (at + length (spell_all xs)) ys
tops_both at [] ys = ap (λ (n : ℕ). tops n ys) (omega arith)
tops_both at (c ∷ xs) ys =
    let next = at + length (spell c) in
    ap (λ (x : List Part). part (file_role c) at c ∷ x) (tops_both next xs ys ∙ ap (λ (n : ℕ). tops next xs ++ tops n ys) (next_end at c xs))

tops_many : (at : ℕ) (cs : List Chunk) → length (tops at cs) ≡ length cs
tops_many at [] = refl
tops_many at (c ∷ cs) = ap suc (tops_many (at + length (spell c)) cs)

-- ---- where one of them begins

before_is : (at : ℕ) (cs : List Chunk) (p : Part) (more : List Part) (to : ℕ) → to ≡ at + length (spell_all cs) → p.at ≡ to → before_at to (tops at cs ++ p ∷ more) ≡ length cs
before_is at [] p more to e f = ap (λ (t : Bool). cond t 0 (suc (before_at to more))) (eq-eqb p.at to f)
before_is at (c ∷ cs) p more to e f =
    let next = at + length (spell c) in
    let other : at ≢ to = λ same. absurd (omega (arith, same, e, spell_some c, length-append (spell c) (spell_all cs))) in
    ap (λ (t : Bool). cond t 0 (suc (before_at to (tops next cs ++ p ∷ more)))) (ne_eqb at to other)
    ∙ ap suc (before_is next cs p more to (omega (arith, e, length-append (spell c) (spell_all cs))) f)

behind_is : (at : ℕ) (cs : List Chunk) (p : Part) (more : List Part) (n : ℕ) → n ≡ length cs → drop (n + 1) (tops at cs ++ p ∷ more) ≡ more
behind_is at cs p more n e =
    ap (drop (n + 1)) (sym (append_assoc (tops at cs) (p ∷ []) more))
    ∙ drop_at (tops at cs ++ p ∷ []) more (n + 1) (omega (arith, length-append (tops at cs) (p ∷ []), tops_many at cs, e))

-- ---- padding

role_gap : (c : Chunk) → is_gap (file_role c) ≡ is_padding c.id
role_gap c = go (is_padding c.id) (is_mdat c)
  where
    go : (t u : Bool) → is_gap (cond t Padding (role_where u Essence)) ≡ t
    go true u = refl
    go false true = refl
    go false false = refl

rest_gaps : (e : ℕ) (left : List ℕ) → gap_count (rest_parts e left) ≡ 0
rest_gaps e [] = refl
rest_gaps e (x ∷ left) = refl

rest_end : (at e : ℕ) (left : List ℕ) → gap_end at (rest_parts e left) ≡ at
rest_end at e [] = refl
rest_end at e (x ∷ left) = refl

rest_last : (e : ℕ) (left : List ℕ) → eqb (gap_count (rest_parts e left)) (length (rest_parts e left)) ≡ is_nil left
rest_last e [] = refl
rest_last e (x ∷ left) = refl

rest_counts : (e : ℕ) (left : List ℕ) → count_parts (rest_parts e left) ≡ 0
rest_counts e [] = refl
rest_counts e (x ∷ left) = refl

atom_counts : (c : Chunk) → count_role (file_role c) ≡ 1
atom_counts c = go (is_padding c.id) (is_mdat c)
  where
    go : (t u : Bool) → count_role (cond t Padding (role_where u Essence)) ≡ 1
    go true u = refl
    go false true = refl
    go false false = refl

same_suc : (a b : ℕ) → eqb (suc a) (suc b) ≡ eqb a b
same_suc a b = go (eqb a b) refl
  where
    go : (t : Bool) → eqb a b ≡ t → eqb (suc a) (suc b) ≡ t
    go true e = eq-eqb (suc a) (suc b) (ap suc (eqb-true a b e))
    go false e = ne_eqb (suc a) (suc b) (λ h. let same = eq-eqb a b (omega (arith, h)) in absurd cc)

module _ (e : ℕ) (left : List ℕ) where
  abbrev tail : List Part
  tail = rest_parts e left

  pub gaps_told : (at : ℕ) (cs : List Chunk) → gap_count (tops at cs ++ tail) ≡ length (gaps_of cs)
  gaps_told at [] = rest_gaps e left
  gaps_told at (c ∷ cs) =
      ap (λ (t : Bool). cond t (suc (gap_count (tops (at + length (spell c)) cs ++ tail))) 0) (role_gap c)
      ∙ go (is_padding c.id) (gaps_told (at + length (spell c)) cs)
    where
      go : (t : Bool) → gap_count (tops (at + length (spell c)) cs ++ tail) ≡ length (gaps_of cs) → cond t (suc (gap_count (tops (at + length (spell c)) cs ++ tail))) 0 ≡ length (cond t (c ∷ gaps_of cs) [])
      go true again = ap suc again
      go false again = refl

  pub end_told : (at : ℕ) (cs : List Chunk) → gap_end at (tops at cs ++ tail) ≡ at + length (spell_all (gaps_of cs))
  end_told at [] = rest_end at e left ∙ omega arith
  end_told at (c ∷ cs) =
      let next = at + length (spell c) in
      ap (λ (t : Bool). cond t (gap_end next (tops next cs ++ tail)) at) (role_gap c) ∙ go (is_padding c.id) (end_told next cs)
    where
      go : (t : Bool) → gap_end (at + length (spell c)) (tops (at + length (spell c)) cs ++ tail) ≡ (at + length (spell c)) + length (spell_all (gaps_of cs))
          → cond t (gap_end (at + length (spell c)) (tops (at + length (spell c)) cs ++ tail)) at ≡ at + length (spell_all (cond t (c ∷ gaps_of cs) []))
      go true again = again ∙ next_end at c (gaps_of cs)
      go false again = omega arith

  pub past_told : (at : ℕ) (cs : List Chunk) → drop (gap_count (tops at cs ++ tail)) (tops at cs ++ tail) ≡ tops (at + length (spell_all (gaps_of cs))) (past_gaps cs) ++ tail
  past_told at [] = ap (λ (n : ℕ). drop n tail) (rest_gaps e left)
  past_told at (c ∷ cs) =
      let next = at + length (spell c) in
      let p = part (file_role c) at c in
      ap (λ (t : Bool). drop (cond t (suc (gap_count (tops next cs ++ tail))) 0) (p ∷ (tops next cs ++ tail))) (role_gap c) ∙ go (is_padding c.id) (past_told next cs)
    where
      go : (t : Bool) → drop (gap_count (tops (at + length (spell c)) cs ++ tail)) (tops (at + length (spell c)) cs ++ tail) ≡ tops ((at + length (spell c)) + length (spell_all (gaps_of cs))) (past_gaps cs) ++ tail
          → drop (cond t (suc (gap_count (tops (at + length (spell c)) cs ++ tail))) 0) (part (file_role c) at c ∷ (tops (at + length (spell c)) cs ++ tail))
          ≡ tops (at + length (spell_all (cond t (c ∷ gaps_of cs) []))) (cond t (past_gaps cs) (c ∷ cs)) ++ tail
      go true again = again ∙ ap (λ (n : ℕ). tops n (past_gaps cs) ++ tail) (next_end at c (gaps_of cs))
      go false again = ap (λ (n : ℕ). tops n (c ∷ cs) ++ tail) (omega arith)

  pub counts_told : (at : ℕ) (cs : List Chunk) → count_parts (tops at cs ++ tail) ≡ length cs
  counts_told at [] = rest_counts e left
  counts_told at (c ∷ cs) = omega (arith, counts_told (at + length (spell c)) cs, atom_counts c)

  pub last_told : (at : ℕ) (cs : List Chunk) → eqb (gap_count (tops at cs ++ tail)) (length (tops at cs ++ tail)) ≡ (is_nil (past_gaps cs) && is_nil left)
  last_told at [] = rest_last e left
  last_told at (c ∷ cs) =
      let next = at + length (spell c) in
      ap (λ (t : Bool). eqb (cond t (suc (gap_count (tops next cs ++ tail))) 0) (suc (length (tops next cs ++ tail)))) (role_gap c) ∙ go (is_padding c.id) (last_told next cs)
    where
      go : (t : Bool) → eqb (gap_count (tops (at + length (spell c)) cs ++ tail)) (length (tops (at + length (spell c)) cs ++ tail)) ≡ (is_nil (past_gaps cs) && is_nil left)
          → eqb (cond t (suc (gap_count (tops (at + length (spell c)) cs ++ tail))) 0) (suc (length (tops (at + length (spell c)) cs ++ tail))) ≡ (is_nil (cond t (past_gaps cs) (c ∷ cs)) && is_nil left)
      go true again = same_suc (gap_count (tops (at + length (spell c)) cs ++ tail)) (length (tops (at + length (spell c)) cs ++ tail)) ∙ again
      go false again = ne_eqb 0 (suc (length (tops (at + length (spell c)) cs ++ tail))) (λ e. absurd (omega (arith, e)))

-- ---- of a movie

module _ (b : List ℕ) (bytes : IsBytes b) (sup : Readable b) where
  abbrev m : Rattle.mov_model.specs.Movie.Movie
  m = movie_of b

  -- where moov stands
  abbrev pub moov_at : ℕ
  moov_at = length (spell_all m.before)

  abbrev pub moov_end : ℕ
  moov_end = moov_at + length (spell m.movie)

  file_long : length b ≡ (length (spell_all m.before) + (length (spell m.movie) + length (spell_all m.behind))) + length m.left
  file_long =
      let all = m.before ++ m.movie ∷ m.behind in
      omega (
        arith,
        ap length (file_bytes b bytes sup),
        length-append (spell_all all) m.left,
        ap length (spell_all-append m.before (m.movie ∷ m.behind)),
        length-append (spell_all m.before) (spell m.movie ++ spell_all m.behind),
        length-append (spell m.movie) (spell_all m.behind),
      )

  moov_long : length (spell m.movie) ≡ length (header_bytes m.movie.form m.movie.id (length m.movie.body)) + (length (spell_all (atoms_in m.movie).chunks) + length (atoms_in m.movie).left)
  moov_long =
      let head = header_bytes m.movie.form m.movie.id (length m.movie.body) in
      omega (
        arith,
        length-append head (m.movie.body ++ m.movie.pad),
        length-append m.movie.body m.movie.pad,
        ap length (moov_padless b bytes sup),
        ap length (kids_joined b bytes sup),
        length-append (spell_all (atoms_in m.movie).chunks) (atoms_in m.movie).left,
      )

  pub left_long : moov_end - (inside_at m + length (spell_all (atoms_in m.movie).chunks)) ≡ length (atoms_in m.movie).left
  left_long = omega (arith, moov_long)

  pub kids_and_left : (inside_at m + length (spell_all (atoms_in m.movie).chunks)) + length (atoms_in m.movie).left ≡ moov_end
  kids_and_left = omega (arith, moov_long)

  -- the parts of the file's atoms and its tail come first
  tops_are : joined_from 0 (parts_of b) ≡ file_parts (top_run b)
  tops_are =
      let r = top_run b in
      let k = atoms_in m.movie in
      let end = 0 + length (spell_all r.chunks) in
      let tail = rest_parts end r.left in
      let kids = moov_parts (inside_at m) k in
      let long : length b ≡ end + length r.left = omega (arith, ap length (chunks_joined atom_front atoms_give_back top b bytes), length-append (spell_all r.chunks) r.left) in
      let inside : 0 < length (spell_all k.chunks ++ k.left) → inside_at m < end + length r.left
      = λ some. omega (arith, some, length-append (spell_all k.chunks) k.left, moov_long, file_long, long) in
      ap (joined_from 0) (append_assoc (tops 0 r.chunks) tail kids)
      ∙ joined_tops 0 r.chunks (tail ++ kids)
      ∙ ap (λ (x : List Part). tops 0 r.chunks ++ x)
      (joined_rest end r.left kids ∙ ap (λ (x : List Part). tail ++ x) (joined_none (end + length r.left) (inside_at m) k.chunks k.left inside) ∙ append-nil tail)

  -- those behind moov
  abbrev pub tail_at : ℕ
  tail_at = 0 + length (spell_all (top_run b).chunks)

  abbrev pub others : List Part
  others = tops moov_end m.behind ++ rest_parts tail_at m.left

  tops_split : file_parts (top_run b) ≡ tops 0 m.before ++ part (file_role m.movie) (0 + moov_at) m.movie ∷ (tops ((0 + moov_at) + length (spell m.movie)) m.behind ++ rest_parts tail_at m.left)
  tops_split =
      let w = whole b bytes sup in
      let tail : List ℕ → List Part = λ (l : List ℕ). rest_parts tail_at l in
      ap (λ (cs : List Chunk). tops 0 cs ++ tail (top_run b).left) (sym w.0)
      ∙ ap (λ (l : List ℕ). tops 0 (m.before ++ m.movie ∷ m.behind) ++ tail l) (sym w.1)
      ∙ ap (λ (x : List Part). x ++ tail m.left) (tops_both 0 m.before (m.movie ∷ m.behind))
      ∙ append_assoc (tops 0 m.before) (tops (0 + moov_at) (m.movie ∷ m.behind)) (tail m.left)

  tops_have : joined_from 0 (parts_of b) ≡ tops 0 m.before ++ part (file_role m.movie) moov_at m.movie ∷ others
  tops_have =
      let zero_is : 0 + moov_at ≡ moov_at = omega arith in
      tops_are ∙ tops_split
      ∙ ap (λ (n : ℕ). tops 0 m.before ++ part (file_role m.movie) n m.movie ∷ (tops (n + length (spell m.movie)) m.behind ++ rest_parts tail_at m.left)) zero_is

  pub before_told : before_at moov_at (joined_from 0 (parts_of b)) ≡ length m.before
  before_told =
      ap (before_at moov_at) tops_have
      ∙ before_is 0 m.before (part (file_role m.movie) moov_at m.movie) others moov_at (omega arith) refl

  pub behind_told : drop (before_at moov_at (joined_from 0 (parts_of b)) + 1) (joined_from 0 (parts_of b)) ≡ others
  behind_told =
      ap (drop (before_at moov_at (joined_from 0 (parts_of b)) + 1)) tops_have
      ∙ behind_is 0 m.before (part (file_role m.movie) moov_at m.movie) others (before_at moov_at (joined_from 0 (parts_of b))) before_told

  -- the padding behind it
  behind_lies : Lies b moov_end (spell_all m.behind)
  behind_lies =
      let a = spell_all m.before in
      let front : Lies b 0 (a ++ (spell m.movie ++ spell_all m.behind))
      = (m.left, sym (file_bytes b bytes sup) ∙ ap (λ (x : List ℕ). x ++ m.left) (spell_all-append m.before (m.movie ∷ m.behind))) in
      let second = lie_then b 0 a (spell m.movie ++ spell_all m.behind) front in
      subst (λ (n : ℕ). Lies b n (spell_all m.behind)) (omega arith) (lie_then b (0 + length a) (spell m.movie) (spell_all m.behind) second)

  pub gaps_lie : window b moov_end (moov_end + length (spell_all (gaps_of m.behind))) ≡ spell_all (gaps_of m.behind)
  gaps_lie =
      let g = spell_all (gaps_of m.behind) in
      let rest = spell_all (past_gaps m.behind) in
      let parts : spell_all m.behind ≡ g ++ rest = ap spell_all (sym (gaps_split m.behind)) ∙ spell_all-append (gaps_of m.behind) (past_gaps m.behind) in
      let lies = lie_first b moov_end g rest (subst (Lies b moov_end) parts behind_lies) in
      let long : (moov_end + length g) - moov_end ≡ length g = omega arith in
      ap (λ (n : ℕ). take n (drop moov_end b)) long ∙ ap (take (length g)) lies.1 ∙ take_at g lies.0 (length g) refl

  pub tops_many_more : length m.before < length (joined_from 0 (parts_of b))
  tops_many_more = omega (arith, ap length tops_have, length-append (tops 0 m.before) (part (file_role m.movie) moov_at m.movie ∷ others), tops_many 0 m.before)

  -- it ends in the file, and with it where nothing else stands behind moov
  gaps_and : length (spell_all m.behind) ≡ length (spell_all (gaps_of m.behind)) + length (spell_all (past_gaps m.behind))
  gaps_and =
      ap length (ap spell_all (sym (gaps_split m.behind)) ∙ spell_all-append (gaps_of m.behind) (past_gaps m.behind)) ∙ length-append (spell_all (gaps_of m.behind)) (spell_all (past_gaps m.behind))

  pub ends_inside : moov_end + length (spell_all (gaps_of m.behind)) ≤ length b
  ends_inside = omega (arith, file_long, gaps_and)

  pub ends_last : gap_count others ≡ length others → moov_end + length (spell_all (gaps_of m.behind)) ≡ length b
  ends_last all =
      let none : (is_nil (past_gaps m.behind) && is_nil m.left) ≡ true = sym (last_told tail_at m.left moov_end m.behind) ∙ eq-eqb (gap_count others) (length others) all in
      let q = and_parts (is_nil (past_gaps m.behind)) (is_nil m.left) none in
      omega (arith, file_long, gaps_and, ap (λ (cs : List Chunk). length (spell_all cs)) (no_chunks (past_gaps m.behind) q.0), ap length (no_bytes m.left q.1))
    where
      no_chunks : (cs : List Chunk) → is_nil cs ≡ true → cs ≡ []
      no_chunks [] e = refl
      no_chunks (c ∷ cs) e = absurd cc

      no_bytes : (x : List ℕ) → is_nil x ≡ true → x ≡ []
      no_bytes [] e = refl
      no_bytes (y ∷ x) e = absurd cc
