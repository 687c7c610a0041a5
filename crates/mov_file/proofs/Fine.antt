-- A file of which no atom is refused.
use Rattle.std.proofs.Common.{◌≡◌, ◌∙◌, ℕ, ◌+◌, ◌-◌, ◌≤◌, Bool, true, false, cond, List, [], ◌∷◌, ◌++◌, length, map, take, drop, refl, sym, ap, subst, arith, append_assoc, Option, Some, None}
use Rattle.std.specs.Prelude.{codes, not, ◌||◌, ◌&&◌}
use Rattle.std.specs.List.{AllByRecursion, flat_map}
use Rattle.std.specs.Str.{bytes_eq}
use Rattle.std.proofs.lemmas.List.{append-nil, take_all}
use Rattle.std.proofs.lemmas.List.Concat.{flat_map-append}
use Rattle.part_tree.specs.Ranges.{in_one}
use Rattle.part_tree.specs.declared.names.Span.{Span}
use Rattle.part_tree.specs.declared.shows.Track.{Track}
use Rattle.part_tree.specs.declared.why.Why.{Why}
use Rattle.container_model.specs.Atoms.{atoms_in, is_listed}
use Rattle.container_model.specs.Chunk.{Chunk, Run, Stop, chunks, ends, spell, spell_all}
use Rattle.container_model.specs.Sizes.{atom_front, inside, top}
use Rattle.container_model.specs.Tests.{first}
use Rattle.container_model.specs.Walk.{Step, along, body_at, chunk_at, end_at}
use Rattle.container_model.specs.Windows.{window}
use Rattle.container_model.proofs.Tests.{first_none, stop_ends}
use Rattle.mov_model.specs.Atoms.{Place, dinf, file, mdia, minf, moov, stbl, trak, user_data}
use Rattle.mov_model.specs.Map.{Kid, essence, essence_at, kids_of, track_by, track_met, track_tables, tracks_of}
use Rattle.mov_model.specs.Movie.{Movie, all_atoms, movie_of, top_run}
use Rattle.mov_model.specs.Parts.{first_user, has_id, parts, tracks}
use Rattle.mov_model.specs.Pieces.{held}
use Rattle.mov_model.specs.Reading.{atoms_met, inside_at, inside_steps, kid_steps, moov_steps, reading, row as steps}
use Rattle.mov_model.specs.Why.{chunk_tests, file_id, is_none, met_moov, met_user, moov_id, tests_from}
use Rattle.mov_model.proofs.Again.{split_whole}
use Rattle.mov_model.proofs.Kids.{KidsAre, kids_are, kids_good}
use Rattle.mov_model.proofs.Steps.{InTrack, back, file_good, good_parts, inner, inner_track, listed_back, met_back, met_row, not_false, walk_kid}
use Rattle.qt_atoms.specs.Walk.{InOrder, atom_in, row}
use Rattle.qt_atoms.specs.declared.walker.AtomAt.{AtomAt}
use Rattle.qt_text.specs.User.{udta}
use Rattle.mov_file.specs.Carriers.{kid_at, kids_in}
use Rattle.mov_file.specs.Moov.{IsMoov}
use Rattle.mov_file.specs.Track.{firsts, tables_after, track_from}
use Rattle.mov_file.specs.Whole.{first_chunk}
use Rattle.mov_file.proofs.Held.{chunks_same, held_same}
use Rattle.mov_file.proofs.Lies.{KidSits, Sits, atoms_sit, inner_sit}
use Rattle.mov_file.proofs.Walks.{tables_both}
use Rattle.mov_file.proofs.Tracks.{TracksTold, file_tables, inside_tables, tracks_tell, tracks_told}

-- what is so where no atom is refused
pub record AtomsFine (b : List ℕ) : Type 0 where
  pub has_moov : has_id (codes "moov") (top_run b).chunks ≡ true
  pub whole : all_atoms (movie_of b) ≡ (top_run b).chunks
  pub moov_ends : (atoms_in (movie_of b).movie).stop ≡ ends
  pub kids : KidsAre (parts (movie_of b))

module _ (b : List ℕ) where
  abbrev cs : List Chunk
  cs = (top_run b).chunks

  abbrev m : Movie
  m = movie_of b

  abbrev kid_chunks : List Chunk
  kid_chunks = (atoms_in m.movie).chunks

  abbrev first_steps : List (Step Place)
  first_steps = steps file 0 cs

  abbrev file_end : Step Place
  file_end = end_at file (length (spell_all cs)) (top_run b).stop

  abbrev met : List (Step Place)
  met = file_end ∷ back first_steps []

  abbrev inner_kids : List (Step Place)
  inner_kids = inside_steps false (inside_at m) kid_chunks

  abbrev moov_end : List (Step Place)
  moov_end = end_at moov (inside_at m + length (spell_all kid_chunks)) (atoms_in m.movie).stop ∷ []

  row_none : (cs : List Chunk) (at : ℕ) → flat_map moov_id (steps file at cs) ≡ []
  row_none [] at = refl
  row_none (c ∷ cs) at = row_none cs (at + length (spell c))

  pub no_user : met_user met ≡ false
  no_user = listed_back moov_id (codes "udta") first_steps [] ∙ ap (λ (x : List (List ℕ)). is_listed (codes "udta") x || false) (row_none cs 0)

  row_moov : (cs : List Chunk) (at : ℕ) → is_listed (codes "moov") (flat_map file_id (steps file at cs)) ≡ has_id (codes "moov") cs
  row_moov [] at = refl
  row_moov (c ∷ cs) at = ap (λ (t : Bool). bytes_eq c.id (codes "moov") || t) (row_moov cs (at + length (spell c)))

  or_false : (t : Bool) → (t || false) ≡ t
  or_false true = refl
  or_false false = refl

  pub moov_met : met_moov (back first_steps []) ≡ has_id (codes "moov") cs
  moov_met = listed_back file_id (codes "moov") first_steps [] ∙ or_false (is_listed (codes "moov") (flat_map file_id first_steps)) ∙ row_moov cs 0

  count_met : atoms_met met ≡ length cs
  count_met = omega (arith, met_back first_steps [], met_row file cs 0)

  pub atoms_fine : first (tests_from [] (reading b)) ≡ None → AtomsFine b
  atoms_fine none =
      let p = first_none (tests_from [] (reading b)) none in
      let q = good_parts [] first_steps (file_end ∷ moov_steps m) p in
      let f = file_good cs 0 [] (omega arith) q.0 in
      let has : has_id (codes "moov") cs ≡ true = sym moov_met ∙ not_false _ q.1.1.1.0 in
      let k = good_parts met inner_kids moov_end q.1.1.1.1 in
      let g = kids_good kid_chunks false (inside_at m) met no_user (omega (arith, count_met, f.0)) k.0 in
      record {
        has_moov = has;
        whole = (split_whole cs (top_run b).left has).0;
        moov_ends = stop_ends (atoms_in m.movie).stop k.1.1.0;
        kids = kids_are kid_chunks g.1;
      }

-- ---- the essence stands among the atoms of the file

track_essence : (ss : List (Step Place)) → AllByRecursion InTrack ss → flat_map essence_at ss ≡ []
track_essence [] h = refl
track_essence (chunk_at file at c ∷ ss) h = absurd (let no = h.0 in cc)
track_essence (chunk_at user_data at c ∷ ss) h = track_essence ss h.1
track_essence (chunk_at moov at c ∷ ss) h = track_essence ss h.1
track_essence (chunk_at trak at c ∷ ss) h = track_essence ss h.1
track_essence (chunk_at mdia at c ∷ ss) h = track_essence ss h.1
track_essence (chunk_at minf at c ∷ ss) h = track_essence ss h.1
track_essence (chunk_at stbl at c ∷ ss) h = track_essence ss h.1
track_essence (chunk_at dinf at c ∷ ss) h = track_essence ss h.1
track_essence (end_at p at stop ∷ ss) h = track_essence ss h.1

user_essence : (at : ℕ) (cs : List Chunk) → flat_map essence_at (steps user_data at cs) ≡ []
user_essence at [] = refl
user_essence at (c ∷ cs) = user_essence (at + length (spell c)) cs

kid_essence : (t : Bool) (at : ℕ) (c : Chunk) → flat_map essence_at (kid_steps t at c) ≡ []
kid_essence true at c = flat_map-append essence_at (steps user_data (body_at at c) (udta.opening c).chunks) _ ∙ ap (λ (xs : List Span). xs ++ []) (user_essence (body_at at c) (udta.opening c).chunks)
kid_essence false at c = ap (flat_map essence_at) (walk_kid at c) ∙ track_essence (inner at c) (inner_track at c)

inside_essence : (seen : Bool) (at : ℕ) (cs : List Chunk) → flat_map essence_at (inside_steps seen at cs) ≡ []
inside_essence seen at [] = refl
inside_essence seen at (c ∷ cs) =
    flat_map-append essence_at (kid_steps (not seen && udta.is c) at c) (inside_steps (seen || udta.is c) (at + length (spell c)) cs)
    ∙ ap (λ (xs : List Span). xs ++ flat_map essence_at (inside_steps (seen || udta.is c) (at + length (spell c)) cs)) (kid_essence (not seen && udta.is c) at c)
    ∙ inside_essence (seen || udta.is c) (at + length (spell c)) cs

pub essence_first : (b : List ℕ) → essence b ≡ flat_map essence_at (steps file 0 (top_run b).chunks)
essence_first b =
    let m = movie_of b in
    let k = (atoms_in m.movie).chunks in
    flat_map-append essence_at (steps file 0 (top_run b).chunks) (end_at file (length (spell_all (top_run b).chunks)) (top_run b).stop ∷ moov_steps m)
    ∙ ap (λ (xs : List Span). flat_map essence_at (steps file 0 (top_run b).chunks) ++ xs) (flat_map-append essence_at (inside_steps false (inside_at m) k) _ ∙ ap (λ (xs : List Span). xs ++ []) (inside_essence false (inside_at m) k))
    ∙ append-nil (flat_map essence_at (steps file 0 (top_run b).chunks))

-- ---- moov where it was found

pub moov_run : (b : List ℕ) (k : AtomAt) → IsMoov b k → atoms_in (movie_of b).movie ≡ row inside b k.body.at (k.body.at + k.body.len)
moov_run b k is = ap atoms_in is.movie ∙ ap (λ (n : ℕ). chunks atom_front inside (take n (drop k.body.at b))) (omega arith)

pub moov_kids : (b : List ℕ) (k : AtomAt) → IsMoov b k → kids_of (movie_of b) ≡ kids_in b k.body.at (k.body.at + k.body.len)
moov_kids b k is = ap (λ (at : ℕ). along kid_at at (atoms_in (movie_of b).movie).chunks) is.inside ∙ ap (λ (r : Run). along kid_at k.body.at r.chunks) (moov_run b k is)

-- ---- the chunks of tracks

pads_along : (b : List ℕ) (at : ℕ) (cs : List Chunk) → AllByRecursion (KidSits b) (along kid_at at cs) → AllByRecursion (λ c. c.pad ≡ []) cs
pads_along b at [] h = tt
pads_along b at (c ∷ cs) h = (h.0.pad, pads_along b (at + length (spell c)) cs h.1)

module _ (b : List ℕ) (fine : AtomsFine b) where
  top_pads : AllByRecursion (λ c. c.pad ≡ []) (top_run b).chunks
  top_pads =
      let all : row top b 0 (length b) ≡ top_run b = ap (chunks atom_front top) (ap (λ (n : ℕ). take n b) (omega arith) ∙ take_all (length b) b (omega arith)) in
      let sit = atoms_sit top b 0 (length b) (omega arith) (omega arith) in
      pads_along b 0 (top_run b).chunks (subst (λ (r : Run). AllByRecursion (KidSits b) (along kid_at 0 r.chunks)) all sit)

  one_holds : (p : ℕ) → is_none (held 0 p (all_atoms (movie_of b))) ≡ not (in_one (essence b) p 1)
  one_holds p =
      let start : 0 + p ≡ p = omega arith in
      ap (λ (cs : List Chunk). is_none (held 0 p cs)) fine.whole ∙ held_same 0 (top_run b).chunks 0 p top_pads
      ∙ ap (λ (i : ℕ). not (in_one (flat_map essence_at (steps file 0 (top_run b).chunks)) i 1)) start ∙ ap (λ (ss : List Span). not (in_one ss p 1)) (sym (essence_first b))

  -- the tracks are told with their places
  pub all_told : (k : AtomAt) → IsMoov b k → InOrder k.at (length b) k → TracksTold b (tracks (movie_of b)) (tracks_of b)
  all_told k is order =
      let sit = atoms_sit inside b k.body.at (k.body.at + k.body.len) (omega arith) (omega (arith, order.behind, order.last)) in
      let kids_sit : AllByRecursion (KidSits b) (kids_of (movie_of b)) = subst (AllByRecursion (KidSits b)) (sym (moov_kids b k is)) sit in
      tracks_tell b (inside_at (movie_of b)) (atoms_in (movie_of b).movie).chunks kids_sit fine.kids.tracks

  pub chunks_told : (k : AtomAt) → IsMoov b k → InOrder k.at (length b) k → first (chunk_tests (all_atoms (movie_of b)) 1 (tracks (movie_of b))) ≡ first_chunk b (essence b) 1 (tracks_of b)
  chunks_told k is order = chunks_same (all_atoms (movie_of b)) (essence b) one_holds b 1 (tracks (movie_of b)) (tracks_of b) (all_told k is order).tell

-- ---- the tables that are kept

pub all_tables : (b : List ℕ) → map track_from (tables_after [] (reading b)) ≡ tracks_of b
all_tables b =
    let m = movie_of b in
    let k = (atoms_in m.movie).chunks in
    let kids = inside_steps false (inside_at m) k in
    ap (map track_from) (
    file_tables 0 (top_run b).chunks [] (end_at file (length (spell_all (top_run b).chunks)) (top_run b).stop ∷ moov_steps m)
    ∙ tables_both [] kids (end_at moov (inside_at m + length (spell_all k)) (atoms_in m.movie).stop ∷ []) ∙ inside_tables false (inside_at m) k []
    )
    ∙ tracks_told (track_tables b)
