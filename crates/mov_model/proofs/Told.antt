-- What a reader tells of a movie lies in the file: at the place of each atom that is met stand its bytes.
use Rattle.std.proofs.Common.{◌≡◌, ℕ, zero, suc, ◌+◌, Bool, true, false, cond, List, [], ◌∷◌, ◌++◌, length, map, take, drop, refl, sym, ap, ◌∙◌, append_assoc, arith, Option, Some, None}
use Rattle.std.specs.Prelude.{◌&&◌, ◌||◌, not, codes}
use Rattle.std.specs.List.{AllByRecursion, flat_map}
use Rattle.std.proofs.lemmas.List.{append-nil, drop-drop, drop_at, take_at}
use Rattle.me_bytes.specs.Bytes.{IsBytes}
use Rattle.part_tree.specs.Parts.{count_role, rest_parts}
use Rattle.part_tree.specs.Parts as told
use Rattle.part_tree.specs.declared.names.Span.{Span}
use Rattle.part_tree.specs.declared.part.Part.{Part}
use Rattle.part_tree.specs.declared.part.Role.{Role}
use Rattle.part_tree.specs.declared.part.Role.TheVariants.{Opaque, Padding, Bext, Info, Whole, Sizes, Tables, UserData, Essence, Rest}
use Rattle.container_model.specs.Atoms.{atoms_in, is}
use Rattle.container_model.specs.Chunk.{Chunk, Run, Stop, header_bytes, joined, spell, spell_all}
use Rattle.container_model.specs.Deep.{Leaf, kids}
use Rattle.container_model.specs.Sizes.{atom_front, inside, top, user}
use Rattle.container_model.specs.Walk.{Step, along, body_at, chunk_at, chunk_met, end_at, walk, walk_at}
use Rattle.container_model.proofs.Atoms.{atoms_give_back}
use Rattle.container_model.proofs.Codec.{chunks_joined}
use Rattle.container_model.proofs.Deep.{bytes_of}
use Rattle.container_model.proofs.Units.{spell_all-append}
use Rattle.container_model.proofs.Walk.{all_join}
use Rattle.qt_text.specs.User.{udta}
use Rattle.mov_model.specs.Atoms.{Place, dinf, file, format, is_padding, mdia, minf, moov, opens, stbl, trak, user_data}
use Rattle.mov_model.specs.Map.{atom_spans, body_span, bytes_in, essence, essence_at, essence_met, file_parts, file_role, in_kid, inner_parts, is_atom, kid_parts, mdat_bodies, met_bodies, moov_parts, moov_role, opened_parts, part, parts_of, role_in, role_where, run_parts, user_parts, with_inner}
use Rattle.mov_model.specs.Pieces.{is_mdat}
use Rattle.mov_model.proofs.Steps.{InTrack, inner, inner_track, met_both, met_row as met_rows, walk_kid}
use Rattle.std.proofs.lemmas.List.Concat.{flat_map-append}
use Rattle.mov_model.specs.Movie.{all_atoms, movie_of, top_run}
use Rattle.mov_model.specs.Reading.{atoms_met, count_parts, inside_at, inside_steps, kid_steps, moov_steps, reading, row}
use Rattle.mov_model.specs.Support.{Readable}
use Rattle.mov_model.proofs.Again.{whole}

-- ---- bytes that lie at a place

abbrev Lies : List ℕ → ℕ → List ℕ → Type 0
Lies b at x = (rest : List ℕ) × (drop at b ≡ x ++ rest)

lie_first : (b : List ℕ) (at : ℕ) (x y : List ℕ) → Lies b at (x ++ y) → Lies b at x
lie_first b at x y l = (y ++ l.0, l.1 ∙ append_assoc x y l.0)

lie_then : (b : List ℕ) (at : ℕ) (x y : List ℕ) → Lies b at (x ++ y) → Lies b (at + length x) y
lie_then b at x y l =
    (l.0, ap (λ (n : ℕ). drop n b) (omega arith) ∙ sym (drop-drop (length x) at b) ∙ ap (drop (length x)) (l.1 ∙ append_assoc x y l.0) ∙ drop_at x (y ++ l.0) (length x) refl)

-- ---- what is met

abbrev pub Met : List ℕ → Step Place → Type 0
Met b (chunk_at p at c) = take (length c.body) (drop (body_at at c) b) ≡ c.body
Met b (end_at p at stop) = Unit {0}

met_one : (b : List ℕ) (p : Place) (at : ℕ) (c : Chunk) → Lies b at (spell c) → Met b (chunk_at p at c)
met_one b p at c l =
    let body = lie_first b (body_at at c) c.body c.pad (lie_then b at (header_bytes c.form c.id (length c.body)) (c.body ++ c.pad) l) in
    ap (take (length c.body)) body.1 ∙ take_at c.body body.0 (length c.body) refl

met_row : (b : List ℕ) (p : Place) (at : ℕ) (cs : List Chunk) → Lies b at (spell_all cs) → AllByRecursion (Met b) (row p at cs)
met_row b p at [] l = tt
met_row b p at (c ∷ cs) l = (met_one b p at c (lie_first b at (spell c) (spell_all cs) l), met_row b p (at + length (spell c)) cs (lie_then b at (spell c) (spell_all cs) l))

met_along : (b : List ℕ) (g : ℕ → Chunk → List (Step Place)) → ((at : ℕ) (c : Chunk) → IsBytes c.body → Lies b at (spell c) → AllByRecursion (Met b) (g at c))
    → (at : ℕ) (cs : List Chunk) → AllByRecursion (λ c. IsBytes c.body) cs → Lies b at (spell_all cs) → AllByRecursion (Met b) (along g at cs)
met_along b g h at [] bytes l = tt
met_along b g h at (c ∷ cs) bytes l =
    all_join (Met b) (g at c) (along g (at + length (spell c)) cs) (h at c bytes.0 (lie_first b at (spell c) (spell_all cs) l))
    (met_along b g h (at + length (spell c)) cs bytes.1 (lie_then b at (spell c) (spell_all cs) l))

-- the atoms in an atom lie in its body
inner_lies : (b : List ℕ) (at : ℕ) (c : Chunk) (cs : List Chunk) (left : List ℕ) → spell_all cs ++ left ≡ c.body → Lies b at (spell c) → Lies b (body_at at c) (spell_all cs)
inner_lies b at c cs left e l =
    let body = lie_first b (body_at at c) c.body c.pad (lie_then b at (header_bytes c.form c.id (length c.body)) (c.body ++ c.pad) l) in
    lie_first b (body_at at c) (spell_all cs) left (body.0, body.1 ∙ ap (λ (x : List ℕ). x ++ body.0) (sym e))

met_walk : (b : List ℕ) (d : ℕ) (p : Place) (at : ℕ) (c : Chunk) → IsBytes c.body → Lies b at (spell c) → AllByRecursion (Met b) (walk format d p at c)
unfolding walk
met_walk b zero p at c bytes l = (met_one b p at c l, tt)
met_walk b (suc d) p at c bytes l = (met_one b p at c l, go (opens p c.id (take 4 c.body)) (λ q at k h m. met_walk b d q at k h m))
  where
    go : (o : Option Place) → ((q : Place) (at : ℕ) (k : Chunk) → IsBytes k.body → Lies b at (spell k) → AllByRecursion (Met b) (walk format d q at k)) → AllByRecursion (Met b) (walk_at format (walk format d) at c o)
    go None again = tt
    go (Some q) again =
        let k = kids format q c in
        let joined : spell_all k.chunks ++ k.left ≡ c.body = chunks_joined atom_front atoms_give_back inside c.body bytes in
        let start : body_at at c + 0 ≡ body_at at c = omega arith in
        let bs = bytes_of k.chunks k.left (rw joined bytes) in
        all_join (Met b) (along (walk format d q) (body_at at c + 0) k.chunks) _ (rw start (met_along b (walk format d q) (again q) (body_at at c) k.chunks bs (inner_lies b at c k.chunks k.left joined l))) (tt, tt)

met_kid : (b : List ℕ) (t : Bool) (at : ℕ) (c : Chunk) → IsBytes c.body → Lies b at (spell c) → AllByRecursion (Met b) (kid_steps t at c)
met_kid b true at c bytes l =
    let r = udta.opening c in
    let joined : spell_all r.chunks ++ r.left ≡ c.body = chunks_joined atom_front atoms_give_back user c.body bytes in
    (met_one b moov at c l, all_join (Met b) (row user_data (body_at at c) r.chunks) _ (met_row b user_data (body_at at c) r.chunks (inner_lies b at c r.chunks r.left joined l)) (tt, tt))
met_kid b false at c bytes l = met_walk b 5 moov at c bytes l

met_inside : (b : List ℕ) (seen : Bool) (at : ℕ) (cs : List Chunk) → AllByRecursion (λ c. IsBytes c.body) cs → Lies b at (spell_all cs) → AllByRecursion (Met b) (inside_steps seen at cs)
met_inside b seen at [] bytes l = tt
met_inside b seen at (c ∷ cs) bytes l =
    all_join (Met b) (kid_steps (not seen && udta.is c) at c) (inside_steps (seen || udta.is c) (at + length (spell c)) cs)
    (met_kid b (not seen && udta.is c) at c bytes.0 (lie_first b at (spell c) (spell_all cs) l))
    (met_inside b (seen || udta.is c) (at + length (spell c)) cs bytes.1 (lie_then b at (spell c) (spell_all cs) l))

module _ (b : List ℕ) (bytes : IsBytes b) (sup : Readable b) where
  top_lies : Lies b 0 (spell_all (top_run b).chunks)
  top_lies = ((top_run b).left, sym (chunks_joined atom_front atoms_give_back top b bytes))

  moov_lies : Lies b (length (spell_all (movie_of b).before)) (spell (movie_of b).movie)
  moov_lies =
      let m = movie_of b in
      let all : spell_all (top_run b).chunks ≡ spell_all m.before ++ (spell m.movie ++ spell_all m.behind) = ap spell_all (sym (whole b bytes sup).0) ∙ spell_all-append m.before (m.movie ∷ m.behind) in
      let here : Lies b 0 (spell_all m.before ++ (spell m.movie ++ spell_all m.behind)) = (top_lies.0, top_lies.1 ∙ ap (λ (x : List ℕ). x ++ top_lies.0) all) in
      let behind = lie_then b 0 (spell_all m.before) (spell m.movie ++ spell_all m.behind) here in
      let start : 0 + length (spell_all m.before) ≡ length (spell_all m.before) = omega arith in
      lie_first b (length (spell_all m.before)) (spell m.movie) (spell_all m.behind) (rw start at behind)

  moov_bytes : IsBytes (movie_of b).movie.body
  moov_bytes = all_behind (movie_of b).before (movie_of b).movie (movie_of b).behind (λ c. IsBytes c.body) (rw (whole b bytes sup).0 (bytes_of (top_run b).chunks (top_run b).left (rw (chunks_joined atom_front atoms_give_back top b bytes) bytes)))
    where
      all_behind : (a : List Chunk) (c : Chunk) (d : List Chunk) (P : Chunk → Type 0) → AllByRecursion P (a ++ c ∷ d) → P c
      all_behind [] c d P h = h.0
      all_behind (x ∷ a) c d P h = all_behind a c d P h.1

  -- at the place of each atom that is met stand its bytes
  pub all_met : AllByRecursion (Met b) (reading b)
  all_met =
      let m = movie_of b in
      let k = atoms_in m.movie in
      let joined : spell_all k.chunks ++ k.left ≡ m.movie.body = chunks_joined atom_front atoms_give_back inside m.movie.body moov_bytes in
      let lies = inner_lies b (length (spell_all m.before)) m.movie k.chunks k.left joined moov_lies in
      let kid_bytes = bytes_of k.chunks k.left (rw joined moov_bytes) in
      all_join (Met b) (row file 0 (top_run b).chunks) _ (met_row b file 0 (top_run b).chunks top_lies) (
        tt,
        all_join (Met b) (inside_steps false (inside_at m) k.chunks) _ (met_inside b false (inside_at m) k.chunks kid_bytes lies) (tt, tt),
      )

-- ---- the parts

abbrev bodies_of : List (Step Place) → List (List ℕ)
bodies_of ss = map (λ (l : Leaf Place). l.chunk.body) (flat_map chunk_met ss)

-- the span of the body of an atom that is met
abbrev span_met : Step Place → List Span
span_met (chunk_at p at c) = body_span at c ∷ []
span_met (end_at p at stop) = []

spans_both : (xs ys : List Part) → atom_spans (xs ++ ys) ≡ atom_spans xs ++ atom_spans ys
spans_both [] ys = refl
spans_both (p ∷ xs) ys = go (is_atom p.role) (spans_both xs ys)
  where
    go : (t : Bool) → atom_spans (xs ++ ys) ≡ atom_spans xs ++ atom_spans ys → cond t (p.body ∷ atom_spans (xs ++ ys)) (atom_spans (xs ++ ys)) ≡ cond t (p.body ∷ atom_spans xs) (atom_spans xs) ++ atom_spans ys
    go true more = ap (λ (ss : List Span). p.body ∷ ss) more
    go false more = more

no_rest : (at : ℕ) (b : List ℕ) → atom_spans (rest_parts at b) ≡ []
no_rest at [] = refl
no_rest at (x ∷ b) = refl

one_span : (role : Role) (at : ℕ) (c : Chunk) (ps : List Part) → is_atom role ≡ true → atom_spans (part role at c ∷ ps) ≡ body_span at c ∷ atom_spans ps
one_span role at c ps e = ap (λ (t : Bool). cond t (body_span at c ∷ atom_spans ps) (atom_spans ps)) e

is_where : (t : Bool) (role : Role) → is_atom role ≡ true → is_atom (role_where t role) ≡ true
is_where true role e = e
is_where false role e = refl

pads_or : (t : Bool) (role : Role) → is_atom role ≡ true → is_atom (cond t Padding role) ≡ true
pads_or true role e = refl
pads_or false role e = e

is_file : (c : Chunk) → is_atom (file_role c) ≡ true
is_file c = pads_or (is_padding c.id) (role_where (is_mdat c) Essence) (is_where (is_mdat c) Essence refl)

is_kid : (seen : Bool) (c : Chunk) → is_atom (moov_role seen c) ≡ true
is_kid seen c = pads_or (is_padding c.id) (role_where (not seen && udta.is c) UserData) (is_where (not seen && udta.is c) UserData refl)

is_in : (p : Place) (c : Chunk) → is_atom (role_in p c) ≡ true
is_in file c = is_file c
is_in user_data c = refl
is_in moov c = refl
is_in trak c = refl
is_in mdia c = refl
is_in minf c = refl
is_in stbl c = is_where (is c (codes "stco") || is c (codes "co64")) Tables refl
is_in dinf c = refl

along_spans : (g : ℕ → Chunk → List Part) (h : ℕ → Chunk → List (Step Place)) → ((at : ℕ) (c : Chunk) → atom_spans (g at c) ≡ flat_map span_met (h at c)) → (at : ℕ) (cs : List Chunk) → atom_spans (along g at cs) ≡ flat_map span_met (along h at cs)
along_spans g h same at [] = refl
along_spans g h same at (c ∷ cs) =
    spans_both (g at c) (along g (at + length (spell c)) cs) ∙ ap (λ (ss : List Span). ss ++ atom_spans (along g (at + length (spell c)) cs)) (same at c)
    ∙ ap (λ (ss : List Span). flat_map span_met (h at c) ++ ss) (along_spans g h same (at + length (spell c)) cs)
    ∙ sym (flat_map-append span_met (h at c) (along h (at + length (spell c)) cs))

run_spans : (g : ℕ → Chunk → List Part) (h : ℕ → Chunk → List (Step Place)) → ((at : ℕ) (c : Chunk) → atom_spans (g at c) ≡ flat_map span_met (h at c)) → (at : ℕ) (r : Run) (p : Place) (end : ℕ) (stop : Stop)
    → atom_spans (run_parts g at r) ≡ flat_map span_met (along h at r.chunks ++ end_at p end stop ∷ [])
run_spans g h same at r p end stop =
    spans_both (along g at r.chunks) (rest_parts (at + length (spell_all r.chunks)) r.left)
    ∙ ap (λ (ss : List Span). atom_spans (along g at r.chunks) ++ ss) (no_rest (at + length (spell_all r.chunks)) r.left)
    ∙ ap (λ (ss : List Span). ss ++ []) (along_spans g h same at r.chunks)
    ∙ sym (flat_map-append span_met (along h at r.chunks) (end_at p end stop ∷ []))

inner_spans : (d : ℕ) (p : Place) (at : ℕ) (c : Chunk) → body_span at c ∷ atom_spans (inner_parts d p at c) ≡ flat_map span_met (walk format d p at c)
unfolding walk inner_parts
inner_spans zero p at c = refl
inner_spans (suc d) p at c = ap (λ (ss : List Span). body_span at c ∷ ss) (go (opens p c.id (take 4 c.body)) (λ q at k. one_span (role_in q k) at k (inner_parts d q at k) (is_in q k) ∙ inner_spans d q at k))
  where
    go : (o : Option Place) → ((q : Place) (at : ℕ) (k : Chunk) → atom_spans (with_inner (inner_parts d) q at k) ≡ flat_map span_met (walk format d q at k))
        → atom_spans (opened_parts (with_inner (inner_parts d)) at c o) ≡ flat_map span_met (walk_at format (walk format d) at c o)
    go None again = refl
    go (Some q) again =
        let start : body_at at c + 0 ≡ body_at at c = omega arith in
        rw start (run_spans (with_inner (inner_parts d) q) (walk format d q) (again q) (body_at at c) (kids format q c) q (body_at at c + (0 + length (spell_all (kids format q c).chunks))) (kids format q c).stop)

row_spans : (p : Place) (role : Chunk → Role) → ((c : Chunk) → is_atom (role c) ≡ true) → (at : ℕ) (r : Run) (end : ℕ) (stop : Stop) → atom_spans (run_parts (λ at c. part (role c) at c ∷ []) at r) ≡ flat_map span_met (row p at r.chunks ++ end_at p end stop ∷ [])
row_spans p role is at r end stop = run_spans (λ at c. part (role c) at c ∷ []) (λ at c. chunk_at p at c ∷ []) (λ at c. one_span (role c) at c [] (is c)) at r p end stop

kid_spans : (seen first : Bool) (at : ℕ) (c : Chunk) → atom_spans (part (moov_role seen c) at c ∷ in_kid first at c) ≡ flat_map span_met (kid_steps first at c)
kid_spans seen true at c =
    one_span (moov_role seen c) at c (user_parts at c) (is_kid seen c)
    ∙ ap (λ (ss : List Span). body_span at c ∷ ss) (row_spans user_data (λ k. Opaque) (λ k. refl) (body_at at c) (udta.opening c) (body_at at c + length (spell_all (udta.opening c).chunks)) (udta.opening c).stop)
kid_spans seen false at c = one_span (moov_role seen c) at c (inner_parts 5 moov at c) (is_kid seen c) ∙ inner_spans 5 moov at c

inside_spans : (seen : Bool) (at : ℕ) (cs : List Chunk) → atom_spans (kid_parts seen at cs) ≡ flat_map span_met (inside_steps seen at cs)
inside_spans seen at [] = refl
inside_spans seen at (c ∷ cs) =
    let first = not seen && udta.is c in
    let this = part (moov_role seen c) at c ∷ in_kid first at c in
    let behind = at + length (spell c) in
    spans_both this (kid_parts (seen || udta.is c) behind cs) ∙ ap (λ (ss : List Span). ss ++ atom_spans (kid_parts (seen || udta.is c) behind cs)) (kid_spans seen first at c)
    ∙ ap (λ (ss : List Span). flat_map span_met (kid_steps first at c) ++ ss) (inside_spans (seen || udta.is c) behind cs)
    ∙ sym (flat_map-append span_met (kid_steps first at c) (inside_steps (seen || udta.is c) behind cs))

-- the atoms that are told are those that are met
told_met : (b : List ℕ) → atom_spans (parts_of b) ≡ flat_map span_met (reading b)
told_met b =
    let m = movie_of b in
    let k = atoms_in m.movie in
    let tops = row file 0 (top_run b).chunks in
    let top_end = end_at file (length (spell_all (top_run b).chunks)) (top_run b).stop in
    let kids_met = inside_steps false (inside_at m) k.chunks in
    let moov_end : List (Step Place) = end_at moov (inside_at m + length (spell_all k.chunks)) k.stop ∷ [] in
    let in_moov : atom_spans (moov_parts (inside_at m) k) ≡ flat_map span_met (kids_met ++ moov_end) =
    spans_both (kid_parts false (inside_at m) k.chunks) (rest_parts (inside_at m + length (spell_all k.chunks)) k.left)
    ∙ ap (λ (ss : List Span). atom_spans (kid_parts false (inside_at m) k.chunks) ++ ss) (no_rest (inside_at m + length (spell_all k.chunks)) k.left)
    ∙ ap (λ (ss : List Span). ss ++ []) (inside_spans false (inside_at m) k.chunks) ∙ sym (flat_map-append span_met kids_met moov_end)
    in
    spans_both (file_parts (top_run b)) (moov_parts (inside_at m) k)
    ∙ ap (λ (ss : List Span). ss ++ atom_spans (moov_parts (inside_at m) k)) (row_spans file file_role is_file 0 (top_run b) (length (spell_all (top_run b).chunks)) (top_run b).stop)
    ∙ ap (λ (ss : List Span). flat_map span_met (tops ++ top_end ∷ []) ++ ss) in_moov
    ∙ sym (flat_map-append span_met (tops ++ top_end ∷ []) (kids_met ++ moov_end))
    ∙ ap (flat_map span_met) (append_assoc tops (top_end ∷ []) (kids_met ++ moov_end))

spans_told : (b : List ℕ) (ss : List (Step Place)) → AllByRecursion (Met b) ss → map (bytes_in b) (flat_map span_met ss) ≡ bodies_of ss
spans_told b [] h = refl
spans_told b (chunk_at p at c ∷ ss) h = ap (λ (x : List ℕ). x ∷ map (bytes_in b) (flat_map span_met ss)) h.0 ∙ ap (λ (xs : List (List ℕ)). c.body ∷ xs) (spans_told b ss h.1)
spans_told b (end_at p at stop ∷ ss) h = spans_told b ss h.1

as_many : (ss : List (Step Place)) → length (flat_map span_met ss) ≡ atoms_met ss
as_many [] = refl
as_many (chunk_at p at c ∷ ss) = ap suc (as_many ss)
as_many (end_at p at stop ∷ ss) = as_many ss

count_one : (role : Role) → count_role role ≡ cond (is_atom role) 1 0
count_one Opaque = refl
count_one Padding = refl
count_one Bext = refl
count_one Info = refl
count_one Whole = refl
count_one Sizes = refl
count_one Tables = refl
count_one UserData = refl
count_one Essence = refl
count_one Rest = refl

counted : (ps : List Part) → told.count_parts ps ≡ length (atom_spans ps)
counted [] = refl
counted (p ∷ ps) = ap (λ (n : ℕ). n + told.count_parts ps) (count_one p.role) ∙ go (is_atom p.role) (counted ps)
  where
    go : (t : Bool) → told.count_parts ps ≡ length (atom_spans ps) → cond t 1 0 + told.count_parts ps ≡ length (cond t (p.body ∷ atom_spans ps) (atom_spans ps))
    go true more = omega (arith, more)
    go false more = omega (arith, more)

pub parts_law : (b : List ℕ) → IsBytes b → Readable b → map (bytes_in b) (atom_spans (parts_of b)) ≡ met_bodies b
parts_law b bytes sup = ap (map (bytes_in b)) (told_met b) ∙ spans_told b (reading b) (all_met b bytes sup)

pub count_law : (b : List ℕ) → IsBytes b → Readable b → told.count_parts (parts_of b) ≡ count_parts (movie_of b)
count_law b bytes sup =
    let m = movie_of b in
    counted (parts_of b) ∙ ap (λ (ss : List Span). length ss) (told_met b) ∙ as_many (reading b)
    ∙ met_both (row file 0 (top_run b).chunks) (end_at file (length (spell_all (top_run b).chunks)) (top_run b).stop ∷ moov_steps m)
    ∙ ap (λ (n : ℕ). n + atoms_met (moov_steps m)) (met_row_count (top_run b).chunks 0) ∙ ap (λ (cs : List Chunk). length cs + atoms_met (moov_steps m)) (sym (whole b bytes sup).0)
  where
    met_row_count : (cs : List Chunk) (at : ℕ) → atoms_met (row file at cs) ≡ length cs
    met_row_count cs at = met_rows file cs at

-- ---- the essence

essence_told : (b : List ℕ) (ss : List (Step Place)) → AllByRecursion (Met b) ss → map (bytes_in b) (flat_map essence_at ss) ≡ flat_map essence_met ss
essence_told b [] h = refl
essence_told b (chunk_at file at c ∷ ss) h = go (is_mdat c) (essence_told b ss h.1)
  where
    go : (t : Bool) → map (bytes_in b) (flat_map essence_at ss) ≡ flat_map essence_met ss → map (bytes_in b) (cond t (body_span at c ∷ []) [] ++ flat_map essence_at ss) ≡ cond t (c.body ∷ []) [] ++ flat_map essence_met ss
    go true more = ap (λ (x : List ℕ). x ∷ map (bytes_in b) (flat_map essence_at ss)) h.0 ∙ ap (λ (xs : List (List ℕ)). c.body ∷ xs) more
    go false more = more
essence_told b (chunk_at user_data at c ∷ ss) h = essence_told b ss h.1
essence_told b (chunk_at moov at c ∷ ss) h = essence_told b ss h.1
essence_told b (chunk_at trak at c ∷ ss) h = essence_told b ss h.1
essence_told b (chunk_at mdia at c ∷ ss) h = essence_told b ss h.1
essence_told b (chunk_at minf at c ∷ ss) h = essence_told b ss h.1
essence_told b (chunk_at stbl at c ∷ ss) h = essence_told b ss h.1
essence_told b (chunk_at dinf at c ∷ ss) h = essence_told b ss h.1
essence_told b (end_at p at stop ∷ ss) h = essence_told b ss h.1

row_essence : (at : ℕ) (cs : List Chunk) → flat_map essence_met (row file at cs) ≡ mdat_bodies cs
row_essence at [] = refl
row_essence at (c ∷ cs) = ap (λ (xs : List (List ℕ)). cond (is_mdat c) (c.body ∷ []) [] ++ xs) (row_essence (at + length (spell c)) cs)

track_essence : (ss : List (Step Place)) → AllByRecursion InTrack ss → flat_map essence_met ss ≡ []
track_essence [] h = refl
track_essence (chunk_at file at c ∷ ss) h = absurd (let no = h.0 in cc)
track_essence (chunk_at user_data at c ∷ ss) h = track_essence ss h.1
track_essence (chunk_at moov at c ∷ ss) h = track_essence ss h.1
track_essence (chunk_at trak at c ∷ ss) h = track_essence ss h.1
track_essence (chunk_at mdia at c ∷ ss) h = track_essence ss h.1
track_essence (chunk_at minf at c ∷ ss) h = track_essence ss h.1
track_essence (chunk_at stbl at c ∷ ss) h = track_essence ss h.1
track_essence (chunk_at dinf at c ∷ ss) h = track_essence ss h.1
track_essence (end_at p at stop ∷ ss) h = track_essence ss h.1

user_essence : (at : ℕ) (cs : List Chunk) → flat_map essence_met (row user_data at cs) ≡ []
user_essence at [] = refl
user_essence at (c ∷ cs) = user_essence (at + length (spell c)) cs

kid_essence : (t : Bool) (at : ℕ) (c : Chunk) → flat_map essence_met (kid_steps t at c) ≡ []
kid_essence true at c = flat_map-append essence_met (row user_data (body_at at c) (udta.opening c).chunks) _ ∙ ap (λ (xs : List (List ℕ)). xs ++ []) (user_essence (body_at at c) (udta.opening c).chunks)
kid_essence false at c = ap (flat_map essence_met) (walk_kid at c) ∙ track_essence (inner at c) (inner_track at c)

inside_essence : (seen : Bool) (at : ℕ) (cs : List Chunk) → flat_map essence_met (inside_steps seen at cs) ≡ []
inside_essence seen at [] = refl
inside_essence seen at (c ∷ cs) =
    flat_map-append essence_met (kid_steps (not seen && udta.is c) at c) (inside_steps (seen || udta.is c) (at + length (spell c)) cs)
    ∙ ap (λ (xs : List (List ℕ)). xs ++ flat_map essence_met (inside_steps (seen || udta.is c) (at + length (spell c)) cs)) (kid_essence (not seen && udta.is c) at c)
    ∙ inside_essence (seen || udta.is c) (at + length (spell c)) cs

pub essence_law : (b : List ℕ) → IsBytes b → Readable b → map (bytes_in b) (essence b) ≡ mdat_bodies (all_atoms (movie_of b))
essence_law b bytes sup =
    let m = movie_of b in
    let k = (atoms_in m.movie).chunks in
    essence_told b (reading b) (all_met b bytes sup)
    ∙ flat_map-append essence_met (row file 0 (top_run b).chunks) (end_at file (length (spell_all (top_run b).chunks)) (top_run b).stop ∷ moov_steps m)
    ∙ ap (λ (xs : List (List ℕ)). xs ++ flat_map essence_met (moov_steps m)) (row_essence 0 (top_run b).chunks)
    ∙ ap (λ (xs : List (List ℕ)). mdat_bodies (top_run b).chunks ++ xs) (flat_map-append essence_met (inside_steps false (inside_at m) k) _ ∙ ap (λ (xs : List (List ℕ)). xs ++ []) (inside_essence false (inside_at m) k))
    ∙ append-nil (mdat_bodies (top_run b).chunks) ∙ ap mdat_bodies (sym (whole b bytes sup).0)

-- ---- the decomposition

pub read_law : (b : List ℕ) → IsBytes b → joined (top_run b) ≡ b
read_law b bytes = chunks_joined atom_front atoms_give_back top b bytes

pub read_inside : (c : Chunk) → IsBytes c.body → (joined (atoms_in c) ≡ c.body) × (joined (udta.opening c) ≡ c.body)
read_inside c bytes = (chunks_joined atom_front atoms_give_back inside c.body bytes, chunks_joined atom_front atoms_give_back user c.body bytes)
